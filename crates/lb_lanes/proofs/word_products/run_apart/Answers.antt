use Rattle.std.proofs.Common.{◌≡◌, ℕ, ◌<◌, ◌*ℤ◌, cond, pos, ap, ◌∙◌}
use Rattle.std.proofs.Common.{get_or}
use Rattle.std.specs.Ordering.{int_eq}
use Rattle.lb_lanes.specs.Kernels.{bits_lane, lanes_in}
use Rattle.lb_lanes.specs.Operators.{is_int}
use Rattle.lb_lanes.specs.Planes.{on}
use Rattle.lb_lanes.proofs.LaneCases.{apart_value, apart_fault}
use Rattle.lb_lanes.proofs.OnPlanes.{on-flip}
use Rattle.lb_lanes.proofs.WordArithmetic.{word_zero_is, zero_word_at, zero_times}
use Rattle.lb_lanes.proofs.Widths.{inside}
use Rattle.lb_lanes.proofs.word_products.run_apart.Goals as goal

pub returns : goal.returns
returns c =
    let live = λ (i : ℕ). on c.args.active i in
    let a = λ (i : ℕ). bits_lane c.args.a.now i in
    let b = λ (i : ℕ). bits_lane c.args.b.now i in
    let within = c.tested-within.result in
    let masked : (i : ℕ) → i < lanes_in c.args.width
    → bits_lane c.blend.new.out i *ℤ b i ≡ cond (live i) (a i) (pos 0) *ℤ b i
    = λ i h. ap (λ v. v *ℤ b i)
    (c.blend.ensures i h ∙ ap (cond (live i) (a i)) (zero_word_at i (inside c.args.width i h))) in
    let test : (i : ℕ) → i < lanes_in c.args.width
    → on within i ≡ is_int (cond (live i) (a i) (pos 0) *ℤ b i)
    = λ i h. c.tested-within.ensures i h
    ∙ ap (int_eq (bits_lane c.multiply_apart.new.beyond i))
    (zero_word_at i (inside c.args.width i h))
    ∙ word_zero_is (get_or c.multiply_apart.new.beyond i 0)
    ∙ c.multiply_apart.ensures.beyond i h ∙ ap is_int (masked i h) in
    record {
      values = λ i h.
          apart_value (λ x y. x *ℤ y) (live i) (on within i) (a i) (b i)
          (bits_lane c.multiply_apart.new.lanes i) (bits_lane c.blend-2.new.out i)
          (zero_times (b i)) (test i h)
          (λ e. c.multiply_apart.ensures.values i h (ap is_int (masked i h) ∙ e) ∙ masked i h)
          (c.blend-2.ensures i h
          ∙ ap (cond (on within i) (bits_lane c.multiply_apart.new.lanes i))
          (zero_word_at i (inside c.args.width i h)));
      fault_bits = λ i h.
          on-flip within i c.tested-within.type_inv (inside c.args.width i h)
          ∙ apart_fault (λ x y. x *ℤ y) (live i) (on within i) (a i) (b i) (zero_times (b i))
          (test i h);
    }
