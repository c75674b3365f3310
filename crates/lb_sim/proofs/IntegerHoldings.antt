-- The scalars that holdings of integers hold.
use Rattle.std.proofs.Common.{◌≡◌, ◌≢◌, Bool, true, false, Some, ℤ, refl, sym, ap, ap₂, ◌∙◌, ◌||◌}
use Rattle.lb_syntax.specs.declared.tree.BinaryOperator.{BinaryOperator}
use Rattle.lb_syntax.specs.declared.tree.BinaryOperator.TheVariants.{Plus, Minus, Times, Divide}
use Rattle.lb_syntax.specs.declared.tree.BinaryOperator.TheVariants.{Modulo}
use Rattle.lb_syntax.specs.declared.tree.Kind.{Kind}
use Rattle.lb_syntax.specs.declared.tree.Kind.TheVariants.{Int as Int_kind}
use Rattle.lb_syntax.specs.declared.tree.UnaryOperator.TheVariants.{Negate}
use Rattle.lb_check.specs.Scalars.{Integer, or_fault, one_scalar, two_integers, two_scalars}
use Rattle.lb_flat.specs.Fitting.{integers_kind}
use Rattle.lb_lanes.specs.Operators.{result_of, difference_of}
use Rattle.lb_lanes.specs.declared.int_operator.IntOperator.{IntOperator}
use Rattle.lb_lanes.specs.declared.int_operator.IntOperator.TheVariants.{Add, Sub, Mul, Div, Rem}
use Rattle.lb_machine.specs.Listed.{listed}
use Rattle.lb_machine.specs.Meaning.{Lane, HasRun}
use Rattle.lb_machine.specs.declared.code.Code.{Code}
use Rattle.lb_machine.specs.declared.instruction.PlaneId.{PlaneId}
use Rattle.lb_machine.specs.declared.instruction.WordId.{WordId}
use Rattle.lb_sim.specs.Holdings.{IsFor}
use Rattle.lb_sim.specs.Showing.{shown, operator_of, scalar_at, value_at}
use Rattle.lb_sim.specs.declared.place.Holding.{Holding}
use Rattle.lb_sim.specs.declared.place.Value.TheVariants.{Number}
use Rattle.lb_sim.proofs.Shown.{operator_is, negate_shown}

-- an operator of the lanes gives the result of the operator of the language
pub arithmetic_for :
    (code : Code) (op : IntOperator) (a b : WordId) (nil left right : PlaneId) (h : Holding) →
    IsFor code Int_kind (λ s.
    shown (s.bits left.0 || s.bits right.0) (s.bits nil.0)
    (or_fault (result_of op (s.ints a.0) (s.ints b.0)))) h →
    IsFor code Int_kind (λ s.
    shown (s.bits left.0 || s.bits right.0) (s.bits nil.0)
    (two_integers (operator_of op) (s.ints a.0) (s.ints b.0))) h
arithmetic_for code op a b nil left right h is = record {
  kind_is = is.kind_is;
  means = λ s r.
      is.means s r
      ∙ ap (shown (s.bits left.0 || s.bits right.0) (s.bits nil.0))
      (operator_is op (s.ints a.0) (s.ints b.0));
}

-- an operator that gives no integer is none of the lanes
pub no_operator :
    (op : BinaryOperator) → op ≢ Plus → op ≢ Minus → op ≢ Times → op ≢ Divide → op ≢ Modulo →
    (o : IntOperator) → op ≢ operator_of o
no_operator op a b c d e Add = a
no_operator op a b c d e Sub = b
no_operator op a b c d e Mul = c
no_operator op a b c d e Div = d
no_operator op a b c d e Rem = e

gives_integer :
    (o : IntOperator) (kind : Kind) → integers_kind (operator_of o) ≡ Some kind → Int_kind ≡ kind
gives_integer Add kind e = cc
gives_integer Sub kind e = cc
gives_integer Mul kind e = cc
gives_integer Div kind e = cc
gives_integer Rem kind e = cc

-- an operator of the language holds what its operator of the lanes holds
pub integer_for :
    (code : Code) (op : BinaryOperator) (o : IntOperator) (kind : Kind) (a b : WordId)
    (nil left right : PlaneId) (h : Holding) → op ≡ operator_of o →
    integers_kind op ≡ Some kind →
    IsFor code Int_kind (λ s.
    shown (s.bits left.0 || s.bits right.0) (s.bits nil.0)
    (two_integers (operator_of o) (s.ints a.0) (s.ints b.0))) h →
    IsFor code kind (λ s.
    shown (s.bits left.0 || s.bits right.0) (s.bits nil.0)
    (two_integers op (s.ints a.0) (s.ints b.0))) h
integer_for code op o kind a b nil left right h is fits made = record {
  kind_is = made.kind_is ∙ gives_integer o kind (sym (ap integers_kind is) ∙ fits);
  means = λ s r.
      made.means s r
      ∙ ap (λ p.
      shown (s.bits left.0 || s.bits right.0) (s.bits nil.0)
      (two_integers p (s.ints a.0) (s.ints b.0))) (sym is);
}

-- 0 minus an integer is its negation
pub negated_for :
    (code : Code) (a : WordId) (nil bad : PlaneId) (h : Holding) →
    IsFor code Int_kind (λ s.
    shown (s.bits 0 || s.bits bad.0) (s.bits nil.0)
    (or_fault (difference_of (s.ints 0) (s.ints a.0)))) h →
    IsFor code Int_kind (λ s.
    one_scalar Negate (shown (s.bits bad.0) (s.bits nil.0) (Integer (s.ints a.0)))) h
negated_for code a nil bad h is = record {
  kind_is = is.kind_is;
  means = λ s r.
      is.means s r
      ∙ ap (λ b.
      shown (b || s.bits bad.0) (s.bits nil.0) (or_fault (difference_of (s.ints 0) (s.ints a.0))))
      r.constants.nowhere
      ∙ ap (λ z. shown (s.bits bad.0) (s.bits nil.0) (or_fault (difference_of z (s.ints a.0))))
      r.constants.zero
      ∙ negate_shown (s.ints a.0) (s.bits bad.0) (s.bits nil.0);
}

-- an operator on two integers is nil, or a fault, where an operand is
both_shown :
    (op : BinaryOperator) (x y : ℤ) (bl br nl nr : Bool) →
    shown (bl || br) (nl || nr) (two_integers op x y)
    ≡ two_scalars op (shown bl nl (Integer x)) (shown br nr (Integer y))
both_shown op x y true br nl nr = refl
both_shown op x y false true true nr = refl
both_shown op x y false true false nr = refl
both_shown op x y false false true true = refl
both_shown op x y false false true false = refl
both_shown op x y false false false true = refl
both_shown op x y false false false false = refl

pub integers_for :
    (code : Code) (op : BinaryOperator) (kind : Kind) (a b : Holding) (x y : WordId)
    (nil : PlaneId) (h : Holding) → a.value ≡ Number x → b.value ≡ Number y →
    ((s : Lane) → HasRun (listed code.instructions) s →
    s.bits nil.0 ≡ (s.bits a.nil.0 || s.bits b.nil.0)) →
    IsFor code kind (λ s.
    shown (s.bits a.bad.0 || s.bits b.bad.0) (s.bits nil.0)
    (two_integers op (s.ints x.0) (s.ints y.0))) h →
    IsFor code kind (λ s. two_scalars op (scalar_at s a) (scalar_at s b)) h
integers_for code op kind a b x y nil h ea eb nils is = record {
  kind_is = is.kind_is;
  means = λ s r.
      is.means s r
      ∙ ap (λ n.
      shown (s.bits a.bad.0 || s.bits b.bad.0) n (two_integers op (s.ints x.0) (s.ints y.0)))
      (nils s r)
      ∙ both_shown op (s.ints x.0) (s.ints y.0) (s.bits a.bad.0) (s.bits b.bad.0)
      (s.bits a.nil.0) (s.bits b.nil.0)
      ∙ ap₂ (two_scalars op)
      (ap (λ v. shown (s.bits a.bad.0) (s.bits a.nil.0) (value_at s v)) (sym ea))
      (ap (λ v. shown (s.bits b.bad.0) (s.bits b.nil.0) (value_at s v)) (sym eb));
}
