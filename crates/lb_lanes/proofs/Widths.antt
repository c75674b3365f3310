-- The lanes of a width.
use Rattle.std.proofs.Common.{◌≡◌, ℕ, ◌<◌, ◌≤◌, ◌^◌, ◌⊎◌, inl, inr, true, true≢false}
use Rattle.std.proofs.Common.{◌&&◌, sym, ap, ◌∙◌}
use Rattle.std.proofs.Common.{arith}
use Rattle.std.proofs.Math.Bool.{and-true}
use Rattle.std.proofs.lemmas.Bool.{cases_lt}
use lib.Bits.{bit_and}
use Rattle.lb_lanes.specs.Kernels.{lanes_in}
use Rattle.lb_lanes.specs.Planes.{on}
use Rattle.lb_lanes.specs.declared.width.Width.{Width}
use Rattle.lb_lanes.proofs.OnPlanes.{on-above, on-and}

-- each lane of a width is below 64
pub inside : (w : Width) (i : ℕ) → i < lanes_in w → i < 64
inside w i h = omega (arith, h, w.few)

-- a lane that is true in a plane below 2 ^ `k` is below `k`
pub lane_below : (x k i : ℕ) → x < 2 ^ k → on x i ≡ true → i < k
lane_below x k i small there = by (cases_lt i k)
  where
    by : (i < k) ⊎ (k ≤ i) → i < k
    by (inl l) = l
    by (inr le) = absurd (true≢false (sym there ∙ on-above x k i small le))

-- in a lane where `plane` is true, `active` masked by `plane` is `active`
pub masked : (active plane i : ℕ) → on plane i ≡ true → on (bit_and active plane) i ≡ on active i
masked active plane i there =
    on-and active plane i ∙ ap (λ b. on active i && b) there ∙ and-true (on active i)
