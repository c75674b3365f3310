-- The scalars that holdings of truths hold.
use Rattle.std.proofs.Common.{◌≡◌, ◌≢◌, ◌||◌, Bool, true, false, Some, cond, refl, sym, ap, ap₂}
use Rattle.std.proofs.Common.{◌∙◌}
use Rattle.lb_syntax.specs.declared.tree.BinaryOperator.{BinaryOperator}
use Rattle.lb_syntax.specs.Operators.{class_of}
use Rattle.lb_syntax.specs.declared.tree.OperatorClass.TheVariants.{}
use Rattle.lb_syntax.specs.declared.tree.OperatorClass.{OperatorClass}
use Rattle.lb_syntax.specs.declared.tree.OperatorClass.TheVariants.{Equality, Logical}
use Rattle.lb_syntax.specs.declared.tree.BinaryOperator.TheVariants.{Plus, Minus, Times, Divide}
use Rattle.lb_syntax.specs.declared.tree.BinaryOperator.TheVariants.{Modulo}
use Rattle.lb_syntax.specs.declared.tree.Kind.{Kind}
use Rattle.lb_syntax.specs.declared.tree.Kind.TheVariants.{Bool as Bool_kind}
use Rattle.lb_check.specs.Scalars.{Scalar, Boolean, two_booleans, two_integers, two_scalars}
use Rattle.lb_flat.specs.Fitting.{binary_kind, class_on_truths, integers_kind, truths_kind}
use Rattle.lb_machine.specs.Listed.{listed}
use Rattle.lb_machine.specs.Meaning.{Lane, HasRun}
use Rattle.lb_machine.specs.declared.code.Code.{Code}
use Rattle.lb_machine.specs.declared.instruction.PlaneId.{PlaneId}
use Rattle.lb_machine.specs.declared.instruction.WordId.{WordId}
use Rattle.lb_sim.specs.Holdings.{IsFor, IsTruth, IsTruthFor, IsValueFor}
use Rattle.lb_sim.specs.Showing.{shown, kind_of, scalar_at, truth_at, value_at, value_kind}
use Rattle.lb_sim.specs.declared.place.Holding.{Holding}
use Rattle.lb_sim.specs.declared.place.Value.{Value}
use Rattle.lb_sim.specs.declared.literal.Literal.{Literal}

-- the scalar of a truth that is nil where one plane is true, and a fault where another is
shows_truth :
    (s : Lane) (h : Holding) (x : Literal) (nil bad : PlaneId) (v : Scalar) (b : Bool) →
    IsTruth h.value x → h.nil ≡ nil → h.bad ≡ bad → s.bits bad.0 ≡ b →
    Boolean (truth_at s x) ≡ v → scalar_at s h ≡ shown b (s.bits nil.0) v
shows_truth s h x nil bad v b is is_nil is_bad faults means =
    ap₂ (λ c w. shown c (s.bits h.nil.0) w) (ap (λ (p : PlaneId). s.bits p.0) is_bad ∙ faults)
    (is.shows s ∙ means)
    ∙ ap (λ (p : PlaneId). shown b (s.bits p.0) v) is_nil

-- ## Comparisons of integers

compared_kind :
    (op : BinaryOperator) (kind : Kind) → op ≢ Plus → op ≢ Minus → op ≢ Times → op ≢ Divide →
    op ≢ Modulo → integers_kind op ≡ Some kind → Bool_kind ≡ kind
compared_kind Plus kind a b c d e f = absurd (a refl)
compared_kind Minus kind a b c d e f = absurd (b refl)
compared_kind Times kind a b c d e f = absurd (c refl)
compared_kind Divide kind a b c d e f = absurd (d refl)
compared_kind Modulo kind a b c d e f = absurd (e refl)
compared_kind _ kind a b c d e f = cc

pub compared_for :
    (code : Code) (op : BinaryOperator) (kind : Kind) (a b : WordId) (nil left right bad : PlaneId)
    (x : Literal) (h : Holding) → op ≢ Plus → op ≢ Minus → op ≢ Times → op ≢ Divide →
    op ≢ Modulo → integers_kind op ≡ Some kind → IsTruth h.value x → h.nil ≡ nil → h.bad ≡ bad →
    ((s : Lane) → HasRun (listed code.instructions) s →
    s.bits bad.0 ≡ (s.bits left.0 || s.bits right.0)) →
    (integers_kind op ≡ Some Bool_kind → (s : Lane) → HasRun (listed code.instructions) s →
    Boolean (truth_at s x) ≡ two_integers op (s.ints a.0) (s.ints b.0)) →
    IsFor code kind (λ s.
    shown (s.bits left.0 || s.bits right.0) (s.bits nil.0)
    (two_integers op (s.ints a.0) (s.ints b.0))) h
compared_for code op kind a b nil left right bad x h c d f g k e is is_nil is_bad faults means =
    let same = compared_kind op kind c d f g k e in
    record {
      kind_is = is.kind_is ∙ same;
      means = λ s r.
          shows_truth s h x nil bad (two_integers op (s.ints a.0) (s.ints b.0))
          (s.bits left.0 || s.bits right.0) is is_nil is_bad (faults s r)
          (means (e ∙ ap Some (sym same)) s r);
    }

-- ## Operators on truths

truths_give : (op : BinaryOperator) (kind : Kind) → truths_kind op ≡ Some kind → Bool_kind ≡ kind
truths_give op kind e = by (class_of op) e
  where
    by : (c : OperatorClass) → class_on_truths c ≡ Some kind → Bool_kind ≡ kind
    by Logical is = cc
    by Equality is = cc
    by _ is = absurd (cc)

both_shown :
    (op : BinaryOperator) (x y bl br nl nr : Bool) →
    shown (bl || br) (nl || nr) (two_booleans op x y)
    ≡ two_scalars op (shown bl nl (Boolean x)) (shown br nr (Boolean y))
both_shown op x y true br nl nr = refl
both_shown op x y false true true nr = refl
both_shown op x y false true false nr = refl
both_shown op x y false false true true = refl
both_shown op x y false false true false = refl
both_shown op x y false false false true = refl
both_shown op x y false false false false = refl

pub truths_for :
    (code : Code) (op : BinaryOperator) (kind : Kind) (a b : Holding) (x y z : Literal)
    (nil bad : PlaneId) (h : Holding) → IsTruth a.value x → IsTruth b.value y →
    IsTruth h.value z → h.nil ≡ nil → h.bad ≡ bad →
    ((s : Lane) → HasRun (listed code.instructions) s →
    s.bits nil.0 ≡ (s.bits a.nil.0 || s.bits b.nil.0)) →
    ((s : Lane) → HasRun (listed code.instructions) s →
    s.bits bad.0 ≡ (s.bits a.bad.0 || s.bits b.bad.0)) →
    (truths_kind op ≡ Some Bool_kind → (s : Lane) → HasRun (listed code.instructions) s →
    Boolean (truth_at s z) ≡ two_booleans op (truth_at s x) (truth_at s y)) →
    binary_kind op (kind_of a) (kind_of b) ≡ Some kind →
    IsFor code kind (λ s. two_scalars op (scalar_at s a) (scalar_at s b)) h
truths_for code op kind a b x y z nil bad h is_x is_y is_z is_nil is_bad nils faults means fits =
    let e = ap₂ (binary_kind op) (sym is_x.kind_is) (sym is_y.kind_is) ∙ fits in
    let k = truths_give op kind e in
    record {
      kind_is = is_z.kind_is ∙ k;
      means = λ s r.
          shows_truth s h z nil bad (two_booleans op (truth_at s x) (truth_at s y))
          (s.bits a.bad.0 || s.bits b.bad.0) is_z is_nil is_bad (faults s r)
          (means (e ∙ ap Some (sym k)) s r)
          ∙ ap (λ n.
          shown (s.bits a.bad.0 || s.bits b.bad.0) n
          (two_booleans op (truth_at s x) (truth_at s y)))
          (nils s r)
          ∙ both_shown op (truth_at s x) (truth_at s y) (s.bits a.bad.0) (s.bits b.bad.0)
          (s.bits a.nil.0) (s.bits b.nil.0)
          ∙ ap₂ (two_scalars op)
          (ap (shown (s.bits a.bad.0) (s.bits a.nil.0)) (sym (is_x.shows s)))
          (ap (shown (s.bits b.bad.0) (s.bits b.nil.0)) (sym (is_y.shows s)));
    }

-- ## Choices

one_of : (c x y : Bool) → Boolean (cond c x y) ≡ cond c (Boolean x) (Boolean y)
one_of true x y = refl
one_of false x y = refl

pub picked_for :
    (code : Code) (mask : PlaneId) (a b v : Value) (x y z : Literal) → IsTruth a x → IsTruth b y →
    IsTruthFor code (λ s. cond (s.bits mask.0) (truth_at s x) (truth_at s y)) z → IsTruth v z →
    IsValueFor code (value_kind a) (λ s. cond (s.bits mask.0) (value_at s a) (value_at s b)) v
picked_for code mask a b v x y z is_x is_y picked is_z = record {
  kind_is = is_z.kind_is ∙ sym is_x.kind_is;
  means = λ s r.
      is_z.shows s
      ∙ ap Boolean (picked.means s r)
      ∙ one_of (s.bits mask.0) (truth_at s x) (truth_at s y)
      ∙ ap₂ (cond (s.bits mask.0)) (sym (is_x.shows s)) (sym (is_y.shows s));
}
