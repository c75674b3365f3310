-- The rules of types, clocks and definitions for one part of a node: a declared variable or a
-- statement. A part that breaks a rule breaks it for the node.
-- This file says what data of the program mean; no definition of the language stands on it.
use Rattle.std.specs.Prelude.{ℕ, ◌+◌, Bool, ◌&&◌, ◌||◌, not, nat_eq, nat_lt, if◌then◌else◌, is_some}
use Rattle.std.specs.Prelude.{Option, List, [], ◌∷◌, ◌++◌, length, slice_get}
use Rattle.std.specs.List.{list_all, position_from}
use Rattle.lb_syntax.specs.Lists.{listed}
use Rattle.lb_syntax.specs.Tree.{Declaration, Node, Statement}
use Rattle.lb_static.specs.DataTypes.{variables}
use Rattle.lb_static.specs.Instances.{Program, Instance}
use Rattle.lb_static.specs.Parts.{parts, right_side}
use Rattle.lb_check.specs.declared.part.Part.{Part}
use Rattle.lb_check.specs.declared.part.Part.TheVariants as part
use Rattle.lb_check.specs.Clocks.{variable_clock}
use Rattle.lb_check.specs.ClockRules.{is_clocked_by, is_occurrence_clocked, is_statement_clocked}
use Rattle.lb_check.specs.DefinitionRules.{definition_count, is_memoryless}
use Rattle.lb_check.specs.Occurrences.{Occurrence, occurrences, statements}
use Rattle.lb_check.specs.TypeRules.{is_clock_typed, is_statement_typed}

-- whether the item of `xs` at place `i`, if there is one, passes `test`
abbrev pub at_place : {A : Type 0} → (A → Bool) → List A → ℕ → Bool
at_place test xs i = list_all test (listed (λ x. x ∷ []) (slice_get xs i))

-- the place of the first item of `xs` that fails `test`
abbrev pub first_broken : {A : Type 0} → (A → Bool) → List A → Option ℕ
first_broken test xs = position_from (λ x. not (test x)) 0 xs

-- ## Types

-- whether a part keeps the rules of types; of a variable, its clock variable is a truth
abbrev pub is_part_typed : Program → Instance → Part → Bool
is_part_typed P here (part.Variable x) =
    at_place (is_clock_typed P here) (variables here.node) x.0
is_part_typed P here (part.Statement j) = at_place (is_statement_typed P here) here.node.body j

-- ## Clocks

-- the variables for which the one at place `i` may wait: an input for inputs, an output for inputs
-- and outputs, a local for any variable
abbrev pub awaitable : Node → ℕ → List Declaration
awaitable here i =
    if nat_lt i (length here.inputs)
    then here.inputs
    else if nat_lt i (length here.inputs + length here.outputs)
    then here.inputs ++ here.outputs
    else variables here

-- whether the declared clock of `d` waits for a variable of `awaitable`, and runs in no circle
abbrev pub is_declared_clock : Node → ℕ → Declaration → Bool
is_declared_clock here i d =
    is_clocked_by (awaitable here i) d && is_some (variable_clock here d.name)

-- whether the right side of a statement and its parts stand on the clocks that the text gives them,
-- and its left variables on the clocks of the results
abbrev pub is_side_clocked : Program → Node → Statement × Occurrence → Bool
is_side_clocked P here (s, o) =
    list_all (is_occurrence_clocked P here) (occurrences P here o.clock o.calls_before o.expr)
    && is_statement_clocked P here s o

abbrev pub is_part_clocked : Program → Node → Part → Bool
is_part_clocked P here (part.Variable x) =
    at_place (is_declared_clock here x.0) (variables here) x.0
is_part_clocked P here (part.Statement j) =
    at_place (is_side_clocked P here) (statements P here) j

-- ## Definitions

-- whether the variable at place `i` has as many definitions as it should: an input none, others one
abbrev pub is_defined_right : Node → ℕ → Declaration → Bool
is_defined_right here i d =
    nat_eq (definition_count here d.name) (if nat_lt i (length here.inputs) then 0 else 1)

abbrev pub is_part_defined : Program → Node → Part → Bool
is_part_defined P here (part.Variable x) =
    at_place (is_defined_right here x.0) (variables here) x.0
is_part_defined P here (part.Statement j) =
    not here.is_function
    || at_place (λ s. list_all (is_memoryless P) (parts (right_side s))) here.body j
