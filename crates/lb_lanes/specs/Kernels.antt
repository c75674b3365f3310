-- Integer lanes, and the results of kernels in the first `n` of them. This project's rule.
use Rattle.std.specs.Prelude.{◌≡◌, ℕ, ◌<◌, ◌*◌, Bool, true, false, Option, Some, None, List, ℤ, pos}
use Rattle.std.specs.Prelude.{IsTrue, slice_index_or, if◌then◌else◌}
use Rattle.std.specs.Int.{cast_signed, w32}
use Rattle.lb_lanes.specs.Operators.{is_int}
use Rattle.lb_lanes.specs.Planes.{on}
use Rattle.lb_lanes.specs.declared.width.Width.{Width}

-- the number of lanes of a width
abbrev pub lanes_in : Width → ℕ
lanes_in w = 16 * w.chunks

-- lane i of a list of integers
abbrev pub lane_of : List ℤ → ℕ → ℤ
lane_of xs i = slice_index_or xs i (pos 0)

-- lane i of the words of 32 bits that hold integers
abbrev pub bits_lane : List ℕ → ℕ → ℤ
bits_lane words i = cast_signed w32 (slice_index_or words i 0)

-- the result in a lane after an operator: the value, if the lane is active and has one, and else 0
abbrev pub kept : Bool → Option ℤ → ℤ
kept true (Some v) = v
kept true None = pos 0
kept false v = pos 0

-- whether a lane has a fault after an operator: it is active, and has no value
abbrev pub faulty : Bool → Option ℤ → Bool
faulty true (Some v) = false
faulty true None = true
faulty false v = false

-- all 64 lanes are in the range of `int`
abbrev pub AreInts : List ℤ → Type 0
AreInts xs = (i : ℕ) → i < 64 → IsTrue (is_int (lane_of xs i))

-- the first `n` lanes, and their faults, are the results of the operator on the lanes of `a` and
-- `b` under the active plane
pub record IsKernelBelow (n : ℕ) (op : ℤ → ℤ → Option ℤ) (a b : ℕ → ℤ) (active : ℕ)
    (out : ℕ → ℤ) (faults : ℕ) : Type 0 where
  pub values : (i : ℕ) → i < n → out i ≡ kept (on active i) (op (a i) (b i))
  pub fault_bits : (i : ℕ) → i < n → on faults i ≡ faulty (on active i) (op (a i) (b i))

-- the first `n` lanes are those of `a` where the mask is true, and those of `b` where it is not
abbrev pub IsBlendBelow : ℕ → ℕ → (ℕ → ℤ) → (ℕ → ℤ) → (ℕ → ℤ) → Type 0
IsBlendBelow n mask a b out = (i : ℕ) → i < n → out i ≡ (if on mask i then a i else b i)
