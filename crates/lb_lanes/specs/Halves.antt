-- Integers of 64 bits as two halves of 32 bits. This project's rule.
use Rattle.std.specs.Prelude.{Bool, List, ℤ, pos, negsuc, ◌+ℤ◌, ◌*ℤ◌, nat_lt, map}
use Rattle.std.specs.Int.{cast_unsigned, w32}
use Rattle.std.specs.List.{range_with_len}
use Rattle.lb_lanes.specs.Kernels.{lane_of}

-- the integer whose upper half is `high`, and whose lower half has the bits of `low`
abbrev pub whole_of : ℤ → ℤ → ℤ
whole_of high low = high *ℤ pos 4294967296 +ℤ pos (cast_unsigned w32 low)

-- 64 integers, by their upper halves and their lower ones
abbrev pub whole_lanes : List ℤ → List ℤ → List ℤ
whole_lanes high low = map (λ i. whole_of (lane_of high i) (lane_of low i)) (range_with_len 0 64)

-- the upper half of an integer in the range of `int`, by the lower one
abbrev pub sign_of : ℤ → ℤ
sign_of (pos n) = pos 0
sign_of (negsuc n) = negsuc 0

-- whether the bits of the first are the smaller number
abbrev pub is_below_unsigned : ℤ → ℤ → Bool
is_below_unsigned a b = nat_lt (cast_unsigned w32 a) (cast_unsigned w32 b)
