use Rattle.std.proofs.Common.{◌≡◌, ℕ, ◌<◌, true, not, ◌&&◌, ℤ, cond, pos, ap, ap₂}
use Rattle.std.proofs.Common.{◌∙◌, sym, get_or, replicate, w32, to_z}
use Rattle.std.proofs.lemmas.Simd.{get_or-replicate}
use lib.Bits.{bit_and}
use Rattle.lb_lanes.specs.Kernels.{bits_lane, lanes_in}
use Rattle.lb_lanes.specs.Operators.{can_divide}
use Rattle.lb_lanes.specs.Planes.{on}
use Rattle.lb_lanes.proofs.Divisions.{stand_in-can_divide, stand_in-divided}
use Rattle.lb_lanes.proofs.LaneCases.{kept_divided, faulty_divided, none_faulty, and_right}
use Rattle.lb_lanes.proofs.OnPlanes.{on-and, on-flip, on-zero, flip}
use Rattle.lb_lanes.proofs.Widths.{inside}
use Rattle.lb_lanes.proofs.word_divisions.run_one_by_one.Goals as goal

splat_lane : (k i : ℕ) → i < 64 → to_z w32 (get_or (replicate 64 k) i 0) ≡ to_z w32 k
splat_lane k i h = ap (to_z w32) (get_or-replicate 64 i k 0 h)

-- where each active lane can be divided and all are active
pub divide_all-requires : goal.divide_all-requires
divide_all-requires g c i h =
    let active = c.args.active in
    let divisible = c.tested-divisible.result in
    sym (c.tested-divisible.ensures i h)
    ∙ and_right (on active i) (on divisible i)
    (sym (on-and active divisible i)
    ∙ ap (λ n. on n i) c.if-divides-plane.true ∙ c.plane.ensures i h)

pub returns-then-divides-plane : goal.returns-then-divides-plane
returns-then-divides-plane g c =
    let active = c.args.active in
    let divisible = c.tested-divisible.result in
    let a = λ (i : ℕ). bits_lane c.args.a.now i in
    let b = λ (i : ℕ). bits_lane c.args.b.now i in
    let f : ℤ → ℤ → ℤ = g.K.Division.divided in
    let both : (i : ℕ) → i < lanes_in c.args.width → (on active i && can_divide (a i) (b i)) ≡ true
    = λ i h. ap (λ t. on active i && t) (sym (c.tested-divisible.ensures i h))
    ∙ sym (on-and active divisible i)
    ∙ ap (λ n. on n i) c.if-divides-plane.true ∙ c.plane.ensures i h in
    record {
      values = λ i h.
          c.divide_all.ensures i h
          ∙ ap (λ t. cond t (f (a i) (b i)) (pos 0)) (sym (both i h))
          ∙ kept_divided (on active i) (can_divide (a i) (b i)) (f (a i) (b i));
      fault_bits = λ i h.
          on-zero i
          ∙ sym (none_faulty (on active i) (can_divide (a i) (b i)) (f (a i) (b i)) (both i h));
    }

pub divide_all-requires-2 : goal.divide_all-requires-2
divide_all-requires-2 g c i h =
    let active = c.args.active in
    let divisible = c.tested-divisible.result in
    let divides = bit_and active divisible in
    let a = bits_lane c.args.a.now i in
    let b = bits_lane c.args.b.now i in
    ap (can_divide a)
    (c.blend.ensures i h
    ∙ ap (cond (on divides i) b) (splat_lane 1 i (inside c.args.width i h)))
    ∙ stand_in-can_divide (on divides i) a b
    (λ e. sym (c.tested-divisible.ensures i h)
    ∙ and_right (on active i) (on divisible i) (sym (on-and active divisible i) ∙ e))

pub returns : goal.returns
returns g c =
    let active = c.args.active in
    let divisible = c.tested-divisible.result in
    let divides = bit_and active divisible in
    let a = λ (i : ℕ). bits_lane c.args.a.now i in
    let b = λ (i : ℕ). bits_lane c.args.b.now i in
    let f : ℤ → ℤ → ℤ = g.K.Division.divided in
    record {
      values = λ i h.
          let divisor = c.blend.ensures i h
          ∙ ap (cond (on divides i) (b i)) (splat_lane 1 i (inside c.args.width i h)) in
          c.blend-2.ensures i h
          ∙ ap₂ (cond (on divides i)) (c.divide_all-2.ensures i h ∙ ap (f (a i)) divisor)
          (splat_lane 0 i (inside c.args.width i h))
          ∙ stand_in-divided f (on divides i) (a i) (b i)
          ∙ ap (λ t. cond t (f (a i) (b i)) (pos 0))
          (on-and active divisible i
          ∙ ap (λ t. on active i && t) (c.tested-divisible.ensures i h))
          ∙ kept_divided (on active i) (can_divide (a i) (b i)) (f (a i) (b i));
      fault_bits = λ i h.
          on-and active (flip divisible) i
          ∙ ap (λ t. on active i && t)
          (on-flip divisible i c.tested-divisible.type_inv (inside c.args.width i h)
          ∙ ap not (c.tested-divisible.ensures i h))
          ∙ faulty_divided (on active i) (can_divide (a i) (b i)) (f (a i) (b i));
    }
