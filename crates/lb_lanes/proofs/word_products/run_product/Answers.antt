use Rattle.std.proofs.Common.{◌≡◌, ℕ, ◌<◌, ◌*ℤ◌, true, cond, pos, ap, ◌∙◌, sym}
use Rattle.lb_lanes.specs.Kernels.{bits_lane, lanes_in}
use Rattle.lb_lanes.specs.Operators.{is_int}
use Rattle.lb_lanes.specs.Planes.{on}
use Rattle.lb_lanes.proofs.OnPlanes.{on-zero}
use Rattle.lb_lanes.proofs.LaneCases.{kept_lawful, faulty_lawful}
use Rattle.lb_lanes.proofs.WordViews.{word_is_int}
use Rattle.lb_lanes.proofs.word_products.run_product.Goals as goal

pub returns-then-multiply : goal.returns-then-multiply
returns-then-multiply c =
    let live = λ (i : ℕ). on c.args.active i in
    let a = λ (i : ℕ). bits_lane c.args.a.now i in
    let b = λ (i : ℕ). bits_lane c.args.b.now i in
    let exact : (i : ℕ) → i < lanes_in c.args.width → bits_lane c.multiply.new.out i ≡ a i *ℤ b i
    = c.multiply.ensures c.if-multiply.true in
    let within : (i : ℕ) → i < lanes_in c.args.width → is_int (a i *ℤ b i) ≡ true
    = λ i h. ap is_int (sym (exact i h)) ∙ word_is_int _ in
    record {
      values = λ i h.
          c.keep.ensures i h ∙ ap (λ v. cond (live i) v (pos 0)) (exact i h)
          ∙ sym (kept_lawful (live i) (a i *ℤ b i) (within i h));
      fault_bits = λ i h. on-zero i ∙ sym (faulty_lawful (live i) (a i *ℤ b i) (within i h));
    }
