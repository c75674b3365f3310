-- Sixteen lanes at once.
use Rattle.std.proofs.Common.{ℕ, ◌≡◌, ◌+◌, ◌-◌, ◌/◌, ◌%◌, ◌^◌, ◌<◌, ◌≤◌, ◌==◌, Bool, true}
use Rattle.std.proofs.Common.{false, cond, eqb, List, length, get_or, map, take, drop, replicate, ℤ}
use Rattle.std.proofs.Common.{pos, w32, to_z, of_z, Fits, refl, sym, ap, ◌∙◌, subst, arith}
use Rattle.std.proofs.Common.{length-drop}
use Rattle.std.proofs.lemmas.Bool.Decides.{nat_tests}
use Rattle.std.proofs.lemmas.Int.{to_z-of_z}
use Rattle.std.proofs.lemmas.List.{get_or-drop, get_or-map, get_or-take}
use Rattle.std.proofs.lemmas.List.FromFn.{get_or-range_with_len}
use Rattle.std.proofs.lemmas.List.{length-map, length-take-le}
use Rattle.std.proofs.lemmas.Nat.Bits.{bit_at_ones}
use Rattle.std.proofs.lemmas.Simd.{bit_mask_l, get_or-zip2, length-zip2, mask_l-lt, mask_l-mod}
use Rattle.std.proofs.lemmas.Simd.{tops_compared, zip2_splat, zip2_splat_left}
use Rattle.std.specs.Int.{bit_at}
use Rattle.std.specs.List.{range_with_len}
use Rattle.std.specs.Prelude.{int_le, negsuc}
use lib.Lanes.{mask_l, top, zip2}
use mir.Val.{SFits}
use Rattle.std.proofs.lemmas.Int.{ints}
use Rattle.lb_traces.specs.Traces.{IsInt}

is-bit : (b : Bool) → (cond b 1 0 == 1) ≡ b
is-bit true = refl
is-bit false = refl

is-set : (b : Bool) (n : ℕ) → n ≡ cond b 1 0 → n ≡ 1 → b ≡ true
is-set true n is one = refl
is-set false n is one = absurd (omega (arith, is, one))

-- ## Cells that are true

at_least : ℕ → ℕ → Bool
at_least a b = int_le (to_z w32 a) (to_z w32 b)

abbrev pub true_lanes : List ℤ → List Bool
true_lanes cells =
    map (top 31) (zip2 (λ a b. cond (int_le (to_z w32 a) (to_z w32 b)) 4294967295 0)
    (replicate 16 1) (map (of_z w32) (take 16 cells)))

lanes-are : (cells : List ℤ) → 15 < length cells
    → true_lanes cells ≡ map (λ b. int_le (to_z w32 1) (to_z w32 b)) (map (of_z w32) (take 16 cells))
lanes-are cells long =
    let ys : List ℕ = map (of_z w32) (take 16 cells) in
    let size : length ys ≡ 16 =
    length-map (take 16 cells) (of_z w32) ∙ length-take-le 16 cells (omega (arith, long)) in
    tops_compared w32 (λ a b. int_le (to_z w32 a) (to_z w32 b)) (replicate 16 1) ys
    ∙ zip2_splat_left (λ a b. int_le (to_z w32 a) (to_z w32 b)) 1 16 ys size

lanes-long : (cells : List ℤ) → 15 < length cells → length (true_lanes cells) ≡ 16
lanes-long cells long =
    let ys : List ℕ = map (of_z w32) (take 16 cells) in
    ap length (lanes-are cells long)
    ∙ length-map ys (λ b. int_le (to_z w32 1) (to_z w32 b))
    ∙ length-map (take 16 cells) (of_z w32) ∙ length-take-le 16 cells (omega (arith, long))

-- an `int` fits in 32 bits
fits-from : (v : ℤ) → IsInt v → SFits w32 v
fits-from (pos n) is = record { sfits = omega (arith, ints, is.1) }
fits-from (negsuc n) is = record { sfits = omega (arith, ints, is.0) }

pub truth-bit : (cells : List ℤ) (i : ℕ) → 15 < length cells → IsInt (get_or cells i (pos 0))
    → i < 16
    → (bit_at (mask_l (true_lanes cells) % 2 ^ 64) i == 1) ≡ int_le (pos 1) (get_or cells i (pos 0))
truth-bit cells i long fits below =
    let front : List ℤ = take 16 cells in
    let ys : List ℕ = map (of_z w32) front in
    let size : length front ≡ 16 = length-take-le 16 cells (omega (arith, long)) in
    let wide : length ys ≡ 16 = length-map front (of_z w32) ∙ size in
    ap (λ n. bit_at n i == 1) (mask_l-mod (true_lanes cells) 64
    (omega (arith, lanes-long cells long)))
    ∙ ap (λ n. n == 1) (bit_mask_l (true_lanes cells) i)
    ∙ is-bit (get_or (true_lanes cells) i false)
    ∙ ap (λ l. get_or l i false) (lanes-are cells long)
    ∙ get_or-map (λ b. int_le (to_z w32 1) (to_z w32 b)) ys i 0 false (omega (arith, below, wide))
    ∙ ap (λ n. int_le (pos 1) (to_z w32 n)) (get_or-map (of_z w32) front i (pos 0) 0
    (omega (arith, below, size)))
    ∙ ap (λ x. int_le (pos 1) (to_z w32 (of_z w32 x))) (get_or-take 16 cells i (pos 0) below)
    ∙ ap (int_le (pos 1)) (to_z-of_z w32 (get_or cells i (pos 0))
    (fits-from (get_or cells i (pos 0)) fits))

pub truths-small : (cells : List ℤ) → 15 < length cells
    → mask_l (true_lanes cells) % 2 ^ 64 < 65536
truths-small cells long =
    let small : mask_l (true_lanes cells) < 2 ^ 16 =
    subst (λ n. mask_l (true_lanes cells) < 2 ^ n) (lanes-long cells long)
    (mask_l-lt (true_lanes cells)) in
    omega (arith, small)

-- ## Neighbours

abbrev steps_of : List ℕ → ℕ → ℕ → List ℕ
steps_of columns first start =
    zip2 (λ a b. (a + (4294967296 - b)) % 4294967296) (take 16 (drop first columns))
    (replicate 16 start)

abbrev pub step_lanes : List ℕ → ℕ → ℕ → List Bool
step_lanes columns first start =
    map (top 31) (zip2 (λ a b. cond (eqb a b) 4294967295 0) (steps_of columns first start)
    (range_with_len 0 16))

pub equal-from : (a b : ℕ) → eqb a b ≡ true → a ≡ b
equal-from a b e = grind (arith, nat_tests)

step-at : (columns : List ℕ) (first start k : ℕ) → first + 16 ≤ length columns
    → mask_l (step_lanes columns first start) % 2 ^ 64 ≡ 65535 → k < 16
    → (get_or columns (first + k) 0 + (4294967296 - start)) % 4294967296 ≡ k
step-at columns first start k room all below =
    let some : List ℕ = take 16 (drop first columns) in
    let size : length some ≡ 16 =
    length-take-le 16 (drop first columns) (omega (arith, length-drop first columns, room)) in
    let steps : List ℕ = steps_of columns first start in
    let moved : steps ≡ map (λ a. (a + (4294967296 - start)) % 4294967296) some =
    zip2_splat (λ a b. (a + (4294967296 - b)) % 4294967296) some 16 start size in
    let wide : length steps ≡ 16 =
    ap length moved
    ∙ length-map some (λ a. (a + (4294967296 - start)) % 4294967296) ∙ size in
    let lanes : step_lanes columns first start ≡ zip2 eqb steps (range_with_len 0 16) =
    tops_compared w32 eqb steps (range_with_len 0 16) in
    let long : length (zip2 eqb steps (range_with_len 0 16)) ≡ 16 =
    length-zip2 eqb steps (range_with_len 0 16) wide ∙ wide in
    let whole : mask_l (zip2 eqb steps (range_with_len 0 16)) ≡ 65535 =
    sym (mask_l-mod (zip2 eqb steps (range_with_len 0 16)) 64 (omega (arith, long)))
    ∙ ap (λ ms. mask_l ms % 2 ^ 64) (sym lanes) ∙ all in
    let hit : get_or (zip2 eqb steps (range_with_len 0 16)) k false ≡ true =
    is-set (get_or (zip2 eqb steps (range_with_len 0 16)) k false)
    (mask_l (zip2 eqb steps (range_with_len 0 16)) / 2 ^ k % 2)
    (bit_mask_l (zip2 eqb steps (range_with_len 0 16)) k)
    (ap (λ n. n / 2 ^ k % 2) whole ∙ bit_at_ones 16 k below) in
    let same : eqb (get_or steps k 0) (get_or (range_with_len 0 16) k 0) ≡ true =
    sym (get_or-zip2 eqb steps (range_with_len 0 16) k 0 0 false (omega (arith, below, wide))
    below) ∙ hit in
    let value : get_or steps k 0 ≡ (get_or columns (first + k) 0 + (4294967296 - start))
    % 4294967296 =
    ap (λ l. get_or l k 0) moved
    ∙ get_or-map (λ a. (a + (4294967296 - start)) % 4294967296) some k 0 0
    (omega (arith, below, size))
    ∙ ap (λ a. (a + (4294967296 - start)) % 4294967296) (get_or-take 16 (drop first columns) k 0 below
    ∙ get_or-drop first columns k 0) in
    sym value ∙ equal-from (get_or steps k 0) (get_or (range_with_len 0 16) k 0) same
    ∙ get_or-range_with_len 0 16 k 0 below ∙ omega arith

pub neighbours-at : (columns : List ℕ) (first k : ℕ) → first + 16 ≤ length columns
    → ((j : ℕ) → Fits w32 (get_or columns j 0))
    → get_or columns first 0 ≤ get_or columns (first + 15) 0
    → mask_l (step_lanes columns first (get_or columns first 0)) % 2 ^ 64 ≡ 65535 → k < 16
    → get_or columns (first + k) 0 ≡ get_or columns first 0 + k
neighbours-at columns first k room fits least all below =
    let start : ℕ = get_or columns first 0 in
    let last = step-at columns first start 15 room all (omega arith) in
    let here = step-at columns first start k room all below in
    let a = (fits first).fits in
    let b = (fits (first + 15)).fits in
    let c = (fits (first + k)).fits in
    omega (arith, last, here, least, a, b, c, below)
