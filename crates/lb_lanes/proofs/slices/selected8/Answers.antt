use Rattle.std.proofs.Common.{◌≡◌, ℕ, ◌<◌, List, get_or, replicate, length, subst, sym, ◌∙◌, ap}
use Rattle.std.proofs.Common.{ap₂}
use lib.Bits.{bit_and, bit_or}
use lib.Lanes.{zip2}
use Rattle.lb_lanes.specs.Correct.{IsSelection}
use Rattle.lb_lanes.proofs.OnPlanes.{selection_on, flip}
use Rattle.lb_lanes.proofs.WordVectors.{op_at, op_long, splat_at, splat_long}
use Rattle.lb_lanes.proofs.slices.selected8.Goals as goal

-- one lane of a vector under a mask
masked_at : (m : ℕ) (a : List ℕ) (k : ℕ) → length a ≡ 8 → k < 8
    → get_or (zip2 bit_and (replicate 8 m) a) k 0 ≡ bit_and m (get_or a k 0)
masked_at m a k p h =
    op_at bit_and (replicate 8 m) a k (splat_long m) p h
    ∙ ap (λ n. bit_and n (get_or a k 0)) (splat_at m k h)

-- one lane of the word that the code makes
at : (m n : ℕ) (a b : List ℕ) (k : ℕ) → length a ≡ 8 → length b ≡ 8 → k < 8
    → get_or (zip2 bit_or (zip2 bit_and (replicate 8 m) a) (zip2 bit_and (replicate 8 n) b)) k 0
    ≡ bit_or (bit_and m (get_or a k 0)) (bit_and n (get_or b k 0))
at m n a b k p q h =
    op_at bit_or (zip2 bit_and (replicate 8 m) a) (zip2 bit_and (replicate 8 n) b) k
    (op_long bit_and (replicate 8 m) a (splat_long m) p)
    (op_long bit_and (replicate 8 n) b (splat_long n) q) h
    ∙ ap₂ bit_or (masked_at m a k p h) (masked_at n b k q h)

pub returns : goal.returns
returns c k h =
    let m = c.args.mask in
    let x = get_or c.args.a k 0 in
    let y = get_or c.args.b k 0 in
    subst (IsSelection m x y) (sym (at m (flip m) c.args.a c.args.b k c.fits-a.0 c.fits-b.0 h))
    (selection_on m x y c.ranges.mask.fits)
