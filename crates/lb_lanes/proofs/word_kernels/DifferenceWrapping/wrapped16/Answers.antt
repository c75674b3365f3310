use Rattle.std.proofs.Common.{ℕ, ◌+◌, ◌-◌, ◌%◌, List, get_or, length, ◌≡◌, ◌<◌, ap, ap₂, ◌∙◌}
use Rattle.std.proofs.Common.{w32, to_z}
use lib.Bits.{bit_and, bit_xor}
use lib.Lanes.{zip2}
use Rattle.lb_lanes.specs.Planes.{on}
use Rattle.lb_lanes.proofs.WordVectors.{word_fits, op_at, op_long}
use Rattle.lb_lanes.proofs.WordArithmetic.{difference_look_is, difference_value_is}
use Rattle.lb_lanes.proofs.word_kernels.DifferenceWrapping.wrapped16.Goals as goal

abbrev minus : ℕ → ℕ → ℕ
minus m n = (m + (4294967296 - n)) % 4294967296

abbrev differences : List ℕ → List ℕ → List ℕ
differences x y = zip2 minus x y

look_at : (x y : List ℕ) (i : ℕ) → length x ≡ 16 → length y ≡ 16 → i < 16
    → get_or (zip2 bit_and (zip2 bit_xor x y) (zip2 bit_xor x (differences x y))) i 0
    ≡ bit_and (bit_xor (get_or x i 0) (get_or y i 0))
    (bit_xor (get_or x i 0) (minus (get_or x i 0) (get_or y i 0)))
look_at x y i p q h =
    let s = op_at minus x y i p q h in
    let long = op_long minus x y p q in
    op_at bit_and (zip2 bit_xor x y) (zip2 bit_xor x (differences x y)) i
    (op_long bit_xor x y p q) (op_long bit_xor x (differences x y) p long) h
    ∙ ap₂ bit_and (op_at bit_xor x y i p q h)
    (op_at bit_xor x (differences x y) i p long h ∙ ap (bit_xor (get_or x i 0)) s)

pub returns-clause-value : goal.returns-clause-value
returns-clause-value c i h e =
    let x = c.args.x in
    let y = c.args.y in
    ap (to_z w32) (op_at minus x y i c.fits-x.0 c.fits-y.0 h)
    ∙ difference_value_is _ _ (word_fits x i c.fits-x h) (word_fits y i c.fits-y h) e

pub returns-clause-look : goal.returns-clause-look
returns-clause-look c i h =
    let x = c.args.x in
    let y = c.args.y in
    ap (λ n. on n 31) (look_at x y i c.fits-x.0 c.fits-y.0 h)
    ∙ difference_look_is _ _ (word_fits x i c.fits-x h) (word_fits y i c.fits-y h)
