-- The promises of the kernels: each lane is computed alike, from the same lane of the operands
-- alone. A test of two integers, and an operator on Booleans, returns a plane with its result in
-- each lane (`IsPlaneOf`); the promises of the other calls stand here.
-- Source: this project's rule.
use Rattle.std.specs.Prelude.{◌≡◌, ℕ, ◌<◌, Option, List, [], ℤ, EachIndex, slice_index}
use Rattle.std.specs.Prelude.{slice_index_or, if◌then◌else◌}
use Rattle.lb_lanes.specs.Kernels.{IsBlendBelow, IsKernelBelow, lane_of}
use Rattle.lb_lanes.specs.Planes.{IsPlaneOf, on}

-- ## 64 lanes

-- each lane holds the operator's value of the two integers of that lane, where it is active and
-- there is a value, and else 0; and it has a fault where it is active and there is none
abbrev pub IsKernel : (ℤ → ℤ → Option ℤ) → List ℤ → List ℤ → ℕ → List ℤ → ℕ → Type 0
IsKernel op a b active out faults =
    IsKernelBelow 64 op (lane_of a) (lane_of b) active (lane_of out) faults

-- each lane is the lane of `a` where the mask is true, and the lane of `b` where it is not
abbrev pub IsBlend : ℕ → List ℤ → List ℤ → List ℤ → Type 0
IsBlend mask a b out = IsBlendBelow 64 mask (lane_of a) (lane_of b) (lane_of out)

-- `IsBlend` for planes
abbrev pub IsSelection : ℕ → ℕ → ℕ → ℕ → Type 0
IsSelection mask a b plane = IsPlaneOf (λ i. if on mask i then on a i else on b i) plane

-- ## Slices, element by element

-- each word is the result of the operation on the two words at its place
abbrev pub IsWordwise : (ℕ → ℕ → ℕ) → List ℕ → List ℕ → List ℕ → Type 0
IsWordwise op a b out =
    EachIndex out (λ k. slice_index out k ≡ op (slice_index a k) (slice_index b k))

-- each plane has the lanes of the new one where the mask is true, and is as it was elsewhere
abbrev pub CommitsPlanes : ℕ → List ℕ → List ℕ → List ℕ → Type 0
CommitsPlanes mask old new out =
    EachIndex out
    (λ k. IsSelection mask (slice_index new k) (slice_index old k) (slice_index out k))

-- each element has the lanes of the new one where the mask is true, and is as it was elsewhere
abbrev pub CommitsInts : ℕ → List (List ℤ) → List (List ℤ) → List (List ℤ) → Type 0
CommitsInts mask old new out =
    EachIndex out
    (λ k.
    IsBlend mask (slice_index_or new k []) (slice_index_or old k []) (slice_index_or out k []))

-- ## Rows and columns

-- bit r of the new word c is bit c of the old word r
abbrev pub IsTransposed : List ℕ → List ℕ → Type 0
IsTransposed old new =
    (r c : ℕ) → r < 64 → c < 64 → on (slice_index new c) r ≡ on (slice_index old r) c
