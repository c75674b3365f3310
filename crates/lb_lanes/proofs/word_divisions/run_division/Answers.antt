use Rattle.std.proofs.Common.{◌≡◌, ℕ, ◌<◌, true, ℤ, ap, ◌∙◌, sym}
use Rattle.std.proofs.Common.{w32, to_z}
use Rattle.lb_lanes.specs.Kernels.{bits_lane, lanes_in}
use Rattle.lb_lanes.specs.Operators.{can_divide}
use Rattle.lb_lanes.specs.Planes.{on}
use Rattle.lb_lanes.proofs.LaneCases.{kept_common, faulty_common}
use Rattle.lb_lanes.proofs.OnPlanes.{on-zero}
use Rattle.lb_lanes.proofs.word_divisions.run_division.Goals as goal

pub divide_by_one-requires : goal.divide_by_one-requires
divide_by_one-requires g c = c.in-Some.ensures.1

pub returns-in-Some : goal.returns-in-Some
returns-in-Some g c =
    let live = λ (i : ℕ). on c.args.active i in
    let a = λ (i : ℕ). bits_lane c.args.a.now i in
    let b = λ (i : ℕ). bits_lane c.args.b.now i in
    let d = to_z w32 c.in-Some.divisor in
    let f : ℤ → ℤ → ℤ = g.K.Division.divided in
    let common = c.in-Some.ensures.0 in
    let can : (i : ℕ) → i < lanes_in c.args.width → live i ≡ true → can_divide (a i) (b i) ≡ true
    = λ i h e. ap (can_divide (a i)) (common i h e) ∙ c.in-Some.ensures.1 (a i) in
    record {
      values = λ i h.
          c.keep.ensures i h
          ∙ kept_common f (live i) (a i) (b i) (bits_lane c.divide_by_one.new.out i)
          (λ e. (c.divide_by_one.ensures i h ∙ ap (f (a i)) (sym (common i h e)), can i h e));
      fault_bits = λ i h. on-zero i ∙ faulty_common f (live i) (a i) (b i) (can i h);
    }
