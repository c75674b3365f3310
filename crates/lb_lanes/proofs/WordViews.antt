-- Every word of 32 bits stands for an integer in the range of `int`.
use Rattle.std.proofs.Common.{◌≡◌, ℕ, suc, ◌-◌, Bool, true, false, List, ℤ, pos, negsuc, map}
use Rattle.std.proofs.Common.{refl, ap, ◌∙◌, w32, SFits, to_z, of_z, ltb, arith}
use mir.Val.{sel}
use Rattle.lb_lanes.specs.Kernels.{AreInts}
use Rattle.lb_lanes.specs.Operators.{is_int}
use Rattle.lb_lanes.proofs.Views.{lane-view, word_of}

low_is_int : (n : ℕ) → ltb n 2147483648 ≡ true → is_int (pos n) ≡ true
unfolding is_int
low_is_int n e = grind arith

high_is_int : (n : ℕ) → ltb n 2147483648 ≡ false → is_int (negsuc (4294967296 - suc n)) ≡ true
unfolding is_int
high_is_int n e = grind arith

pub word_is_int : (n : ℕ) → is_int (to_z w32 n) ≡ true
word_is_int n = by (ltb n 2147483648) refl
  where
    by : (b : Bool) → ltb n 2147483648 ≡ b
        → is_int (sel b (pos n) (negsuc (4294967296 - suc n))) ≡ true
    by true e = low_is_int n e
    by false e = high_is_int n e

-- each word of a list stands for an integer in the range of `int`
pub bits_are_ints : (bits : List ℕ) → AreInts (map (to_z w32) bits)
bits_are_ints bits i h = ap is_int (lane-view w32 refl bits i) ∙ word_is_int _

-- a word that casts made of an integer stands for that integer
pub bits_of : (n : ℕ) (v : ℤ) → SFits w32 v → n ≡ of_z w32 (to_z w32 (of_z w32 v)) → to_z w32 n ≡ v
bits_of n v f e = word_of w32 n v f e
