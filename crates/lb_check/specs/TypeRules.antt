-- The rules of types, as a test (E9), and the size of a program (E12).
-- Source: Lustre V6 reference manual, typing of equations and assertions. The size is this
-- project's rule.
use Rattle.std.specs.Prelude.{ℕ, ◌+◌, Bool, ◌&&◌, nat_le, Option, Some, [], ◌∷◌, map, sum_by}
use Rattle.std.specs.List.{list_all}
use Rattle.lb_syntax.specs.Lists.{◌>>=◌, either_or, holds, listed, all_some}
use Rattle.lb_syntax.specs.Tree.{Name, Expr, Declaration, Statement, Equation, Assertion}
use Rattle.lb_static.specs.StaticValues.{named}
use Rattle.lb_static.specs.Instances.{Program, Instance, instances}
use Rattle.lb_static.specs.DataTypes.{DataType, truth, is_type, total, variables, variable_type}
use Rattle.lb_static.specs.DataTypes.{width}
use Rattle.lb_static.specs.Parts.{node_parts}
use Rattle.lb_static.specs.Instantiation.{are_same}
use Rattle.lb_check.specs.Types.{data_types}

-- ## E9

-- the type of a variable
abbrev pub type_of_name : Program → Instance → Name → Option DataType
type_of_name P here x = named (λ d. d.name) x (variables here.node) >>= variable_type P here

-- whether the left variables have the types of the results; an assertion is a truth
abbrev pub is_statement_typed : Program → Instance → Statement → Bool
is_statement_typed P here (Equation lefts e) =
    are_same P (data_types P here e) (all_some (map (type_of_name P here) lefts))
is_statement_typed P here (Assertion e) = are_same P (data_types P here e) (Some (truth ∷ []))

-- whether the variable of a declared clock is a truth
abbrev pub is_clock_typed : Program → Instance → Declaration → Bool
is_clock_typed P here d =
    list_all (λ s. holds (is_type truth) (type_of_name P here s.variable))
    (listed (λ s. s ∷ []) d.clock)

abbrev pub is_typed : Program → Instance → Bool
is_typed P here =
    list_all (is_clock_typed P here) (variables here.node)
    && list_all (is_statement_typed P here) here.node.body

-- ## Size

-- the scalar elements of an expression itself, its parts apart; a call counts all its results
abbrev pub expression_size : Program → Instance → Expr → ℕ
expression_size P here e = total (either_or (data_types P here e) [])

-- the scalar elements of every variable of an instance, and of every expression and part of one
abbrev pub instance_size : Program → Instance → ℕ
instance_size P here =
    sum_by (width P here) (variables here.node)
    + sum_by (expression_size P here) (node_parts here.node)

abbrev pub size : Program → ℕ
size P = sum_by (instance_size P) (instances P)

-- E12: whether a program has at most 65,536 scalar elements
abbrev pub is_small : Program → Bool
is_small P = nat_le (size P) 65536
