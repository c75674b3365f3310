use Rattle.std.proofs.Common.{◌≡◌, ℕ, ◌<◌, ◌^◌, List, get_or, replicate, Bool, true, false, not}
use Rattle.std.proofs.Common.{nat_eq, ◌&&◌, ◌||◌, refl, ap, ap₂, ◌∙◌, lit<, arith, w32, to_z}
use Rattle.std.specs.Ordering.{int_eq}
use Rattle.std.proofs.lemmas.Nat.{and_le_l}
use lib.Bits.{bit_or}
use Rattle.lb_lanes.specs.Planes.{on}
use Rattle.lb_lanes.specs.Operators.{can_divide}
use Rattle.lb_lanes.proofs.OnPlanes.{on-and, on-or}
use Rattle.lb_lanes.proofs.WordVectors.{Words16, word_fits, splat_long, splat_at, word_bitmask}
use Rattle.lb_lanes.proofs.WordVectors.{word_bitmask_bound, on-word_bitmask}
use Rattle.lb_lanes.proofs.WordArithmetic.{word_equal_is}
use Rattle.lb_lanes.proofs.word_tests.DivisibleWordTest.test16.Goals as goal

-- the bits of `x != k`, lane by lane
abbrev unlike : List ℕ → ℕ → ℕ
unlike x k = word_bitmask (λ a b. not (nat_eq a b)) x (replicate 16 k)

on-unlike : (x : List ℕ) (k i : ℕ) → Words16 x → k < 2 ^ 32 → i < 16
    → on (unlike x k) i ≡ not (int_eq (to_z w32 (get_or x i 0)) (to_z w32 k))
on-unlike x k i w fits h =
    on-word_bitmask (λ a b. not (nat_eq a b)) x (replicate 16 k) i w.0 (splat_long k) h
    ∙ ap (λ n. not (nat_eq (get_or x i 0) n)) (splat_at k i h)
    ∙ ap not (word_equal_is (get_or x i 0) k (word_fits x i w h) fits)

-- `not a or not b` is `not (a and b)`
either : (a b : Bool) → (not a || not b) ≡ not (a && b)
either true b = refl
either false b = refl

pub returns-clause-lanes : goal.returns-clause-lanes
unfolding can_divide
returns-clause-lanes c i h =
    let x = c.args.x in
    let y = c.args.y in
    on-and (unlike y 0) _ i
    ∙ ap₂ (λ u v. u && v) (on-unlike y 0 i c.fits-y (lit< tt) h)
    (on-or (unlike x 2147483648) (unlike y 4294967295) i
    ∙ ap₂ (λ u v. u || v) (on-unlike x 2147483648 i c.fits-x (lit< tt) h)
    (on-unlike y 4294967295 i c.fits-y (lit< tt) h)
    ∙ either _ _)

pub returns-clause-within : goal.returns-clause-within
returns-clause-within c =
    let long = word_bitmask_bound (λ a b. not (nat_eq a b)) c.args.y (replicate 16 0) c.fits-y.0
    (splat_long 0) in
    omega (
      arith,
      long,
      and_le_l (unlike c.args.y 0)
          (bit_or (unlike c.args.x 2147483648) (unlike c.args.y 4294967295)),
    )
