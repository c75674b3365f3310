-- The meaning of an operation whose operands are still to come.
-- This file says what data of the program mean; no definition of the language stands on it.
use Rattle.std.specs.Prelude.{ℕ, ◌<◌, false}
use Rattle.lb_check.specs.Scalars.{first_value}
use Rattle.lb_expand.specs.declared.expansion.operators.Unary.{Unary}
use Rattle.lb_expand.specs.declared.expansion.operators.Pair.{Pair}
use Rattle.lb_expand.specs.declared.expansion.operators.Unary.TheVariants as unary
use Rattle.lb_expand.specs.declared.expansion.operators.Pair.TheVariants as pair
use Rattle.lb_flat.specs.Flat as flat

-- a `Unary` on one operand
abbrev pub unary_of : Unary → ℕ → flat.Operation
unary_of (unary.Data op) a = flat.ApplyUnary op a
unary_of unary.Previous a = flat.Previous first_value a
unary_of unary.Latest a = flat.Latest first_value a
unary_of unary.Sample a = flat.Sample a

-- a `Pair` on two operands
abbrev pub pair_of : Pair → ℕ → ℕ → flat.Operation
pair_of (pair.Data op) a b = flat.ApplyBinary op a b
pair_of pair.FirstThen a b = flat.FirstThen false a b
pair_of (pair.Choose c) a b = flat.Choose c.0 a b

-- the condition of a choice is below `n`
abbrev pub IsPairBelow : ℕ → Pair → Type 0
IsPairBelow n (pair.Data op) = Unit {0}
IsPairBelow n pair.FirstThen = Unit {0}
IsPairBelow n (pair.Choose c) = c.0 < n
