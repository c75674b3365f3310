use Rattle.std.proofs.Common.{ℕ, ◌+◌, ◌%◌, List, get_or, length, ◌≡◌, ◌<◌, ap, ap₂, ◌∙◌, w32}
use Rattle.std.proofs.Common.{to_z}
use lib.Bits.{bit_and, bit_xor}
use lib.Lanes.{zip2}
use Rattle.lb_lanes.specs.Planes.{on}
use Rattle.lb_lanes.proofs.WordVectors.{word_fits, op_at, op_long}
use Rattle.lb_lanes.proofs.WordArithmetic.{sum_look_is, sum_value_is}
use Rattle.lb_lanes.proofs.word_kernels.SumWrapping.wrapped16.Goals as goal

abbrev plus : ℕ → ℕ → ℕ
plus m n = (m + n) % 4294967296

abbrev sums : List ℕ → List ℕ → List ℕ
sums x y = zip2 plus x y

look_at : (x y : List ℕ) (i : ℕ) → length x ≡ 16 → length y ≡ 16 → i < 16
    → get_or (zip2 bit_and (zip2 bit_xor x (sums x y)) (zip2 bit_xor y (sums x y))) i 0
    ≡ bit_and (bit_xor (get_or x i 0) (plus (get_or x i 0) (get_or y i 0)))
    (bit_xor (get_or y i 0) (plus (get_or x i 0) (get_or y i 0)))
look_at x y i p q h =
    let s = op_at plus x y i p q h in
    let long = op_long plus x y p q in
    op_at bit_and (zip2 bit_xor x (sums x y)) (zip2 bit_xor y (sums x y)) i
    (op_long bit_xor x (sums x y) p long) (op_long bit_xor y (sums x y) q long) h
    ∙ ap₂ bit_and (op_at bit_xor x (sums x y) i p long h ∙ ap (bit_xor (get_or x i 0)) s)
    (op_at bit_xor y (sums x y) i q long h ∙ ap (bit_xor (get_or y i 0)) s)

pub returns-clause-value : goal.returns-clause-value
returns-clause-value c i h e =
    let x = c.args.x in
    let y = c.args.y in
    ap (to_z w32) (op_at plus x y i c.fits-x.0 c.fits-y.0 h)
    ∙ sum_value_is _ _ (word_fits x i c.fits-x h) (word_fits y i c.fits-y h) e

pub returns-clause-look : goal.returns-clause-look
returns-clause-look c i h =
    let x = c.args.x in
    let y = c.args.y in
    ap (λ n. on n 31) (look_at x y i c.fits-x.0 c.fits-y.0 h)
    ∙ sum_look_is _ _ (word_fits x i c.fits-x h) (word_fits y i c.fits-y h)
