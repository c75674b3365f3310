-- The promise of a check of a program, with causes, to the layer above.
-- This file says what data of the program mean; no definition of the language stands on it.
use Rattle.std.specs.Prelude.{◌≡◌, Bool, false, Some, None, Result, Ok, Err, string_bytes}
use Rattle.lb_syntax.specs.Lists.{In}
use Rattle.lb_syntax.specs.Refusals.{E9, E10, E11}
use Rattle.lb_syntax.specs.Tree.{Name}
use Rattle.lb_static.specs.Instances.{Program, Instance, instances}
use Rattle.lb_check.specs.declared.checked.Checked.{Checked}
use Rattle.lb_check.specs.declared.part.Part.{Part}
use Rattle.lb_check.specs.Acceptance.{check_refusal}
use Rattle.lb_check.specs.BrokenParts.{is_part_typed, is_part_clocked, is_part_defined}
use Rattle.lb_check.specs.ClockRules.{is_clocked}
use Rattle.lb_check.specs.DefinitionRules.{is_defined}
use Rattle.lb_check.specs.TypeRules.{is_typed}
use Rattle.lb_cause.specs.declared.error.CheckError.{CheckError}
use Rattle.lb_cause.specs.declared.error.CheckError.TheVariants as error

-- an instance of a node with name `x` breaks `rule`, and part `part` of it breaks `part_rule`
abbrev pub IsBrokenIn :
    (rule : Instance → Bool) (part_rule : Instance → Part → Bool) → Program → Name → Part → Type 0
IsBrokenIn rule part_rule P x part =
    (here : Instance) × In here (instances P) × (here.node.name ≡ x) × (rule here ≡ false)
    × (part_rule here part ≡ false)

-- the answer to an elaborated program is right: it is accepted where it breaks no rule of types,
-- clocks and definitions. Else the answer is the first of these rules that it breaks, with the name
-- of a node of which an instance breaks it, and the statement or the variable of that node which
-- does; or memory ran out.
abbrev pub IsAnswer : Program → Result Checked CheckError → Type 0
IsAnswer P (Ok c) = check_refusal P ≡ None
IsAnswer P (Err error.Memory) = Unit {0}
IsAnswer P (Err (error.Type e)) =
    (check_refusal P ≡ Some E9)
    × IsBrokenIn (is_typed P) (is_part_typed P) P (string_bytes e.value.node) e.value.part
IsAnswer P (Err (error.Clock e)) =
    (check_refusal P ≡ Some E10)
    × IsBrokenIn (λ here. is_clocked P here.node) (λ here. is_part_clocked P here.node) P
    (string_bytes e.value.node) e.value.part
IsAnswer P (Err (error.Definition e)) =
    (check_refusal P ≡ Some E11)
    × IsBrokenIn (λ here. is_defined P here.node) (λ here. is_part_defined P here.node) P
    (string_bytes e.value.node) e.value.part
