-- The cell that a lane shows at a place, and the row of cells that it shows at all places.
-- Source: this project's rule. No lane occurs beside it.
use Rattle.std.specs.Prelude.{Bool, true, false, not, List, map}
use Rattle.lb_syntax.specs.declared.tree.Kind.{Kind}
use Rattle.lb_syntax.specs.declared.tree.Kind.TheVariants.{Int as Int_kind, Bool as Bool_kind}
use Rattle.lb_syntax.specs.declared.tree.BinaryOperator.{BinaryOperator}
use Rattle.lb_syntax.specs.declared.tree.BinaryOperator.TheVariants.{Plus, Minus, Times, Divide}
use Rattle.lb_syntax.specs.declared.tree.BinaryOperator.TheVariants.{Modulo}
use Rattle.lb_check.specs.Scalars.{Scalar, Integer, Boolean, Nil, Bad, Cell, same}
use Rattle.lb_check.specs.Streams.{held}
use Rattle.lb_lanes.specs.declared.int_operator.IntOperator.{IntOperator}
use Rattle.lb_lanes.specs.declared.int_operator.IntOperator.TheVariants.{Add, Sub, Mul, Div, Rem}
use Rattle.lb_machine.specs.Meaning.{Lane}
use Rattle.lb_sim.specs.declared.place.Value.{Value}
use Rattle.lb_sim.specs.declared.place.Value.TheVariants.{Truth, Negated, Number}
use Rattle.lb_sim.specs.declared.place.Holding.{Holding}
use Rattle.lb_sim.specs.declared.place.Place.{Place}
use Rattle.lb_sim.specs.declared.literal.Literal.{Literal}

-- a fault where `bad`, else nil where `nil`, else `v`
abbrev pub shown : (bad nil : Bool) → Scalar → Scalar
shown true nil v = Bad
shown false true v = Nil
shown false false v = v

-- the scalar of a value in a lane
abbrev pub value_at : Lane → Value → Scalar
value_at s (Truth p) = Boolean (s.bits p.0)
value_at s (Negated p) = Boolean (not (s.bits p.0))
value_at s (Number w) = Integer (s.ints w.0)

-- the Boolean of a truth in a lane
abbrev pub truth_at : Lane → Literal → Bool
truth_at s x = same x.sign (s.bits x.plane.0)

-- the scalar of a holding in a lane
abbrev pub scalar_at : Lane → Holding → Scalar
scalar_at s h = shown (s.bits h.bad.0) (s.bits h.nil.0) (value_at s h.value)

-- the cell that a lane shows at a place
abbrev pub cell_at : Lane → Place → Cell
cell_at s p = held (scalar_at s p.holding) (s.bits p.present.0)

-- the row of cells that a lane shows
abbrev pub row_at : Lane → List Place → List Cell
row_at s places = map (cell_at s) places

-- the kind of a value
abbrev pub value_kind : Value → Kind
value_kind (Truth p) = Bool_kind
value_kind (Negated p) = Bool_kind
value_kind (Number w) = Int_kind

-- a value is no negation
abbrev pub IsPlain : Value → Type 0
IsPlain (Negated p) = ⊥
IsPlain v = Unit {0}

abbrev pub kind_of : Holding → Kind
kind_of h = value_kind h.value

-- the operator of the language that an operator of the lanes is
abbrev pub operator_of : IntOperator → BinaryOperator
operator_of Add = Plus
operator_of Sub = Minus
operator_of Mul = Times
operator_of Div = Divide
operator_of Rem = Modulo
