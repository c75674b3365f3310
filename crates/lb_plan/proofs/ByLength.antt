-- Pairs of a length and a number, once sorted, leave the numbers by length and then by number.
use Rattle.std.proofs.Common.{◌≡◌, ℕ, zero, suc, ◌+◌, ◌-◌, ◌<◌, ◌≤◌, ◌⊎◌, inl, inr, List, [], ◌∷◌}
use Rattle.std.proofs.Common.{false, length, get_or, map, refl, ap, subst, arith}
use Rattle.std.specs.List.{All, AllPairs, range_with_len}
use Rattle.std.specs.List.Sorted.{IsPermutation, IsSorted}
use Rattle.std.specs.Ordering.{nat_cmp, ordering_then, is_lt}
use Rattle.std.proofs.lemmas.Bool.{cases_lt}
use Rattle.std.proofs.lemmas.Bool.Decides.{nat_tests}
use Rattle.std.proofs.lemmas.List.{get_or-map, length-map}
use Rattle.std.proofs.lemmas.List.Elements.{All-map}
use Rattle.std.proofs.lemmas.List.Sorted.{IsPermutation-map, All-permutation}
use Rattle.lb_plan.specs.Cuts.{measured}
use Rattle.lb_plan.specs.Plans.{Precedes}

-- a pair comes no later than another
abbrev Le : ℕ × ℕ → ℕ × ℕ → Type 0
Le x y = (x.0 < y.0) ⊎ ((x.0 ≡ y.0) × (x.1 ≤ y.1))

le_trans : (x y z : ℕ × ℕ) → Le x y → Le y z → Le x z
le_trans x y z (inl a) (inl b) = inl (omega (arith, a, b))
le_trans x y z (inl a) (inr b) = inl (omega (arith, a, b.0))
le_trans x y z (inr a) (inl b) = inl (omega (arith, a.0, b))
le_trans x y z (inr a) (inr b) = inr (omega (arith, a.0, b.0), omega (arith, a.1, b.1))

-- y does not sort before x, so x comes no later than y
not_after :
    (x y : ℕ × ℕ) →
    is_lt (ordering_then (nat_cmp y.0 x.0) (nat_cmp y.1 x.1)) ≡ false → Le x y
not_after x y e = first (cases_lt x.0 y.0)
  where
    third : x.0 ≡ y.0 → (y.1 < x.1) ⊎ (x.1 ≤ y.1) → Le x y
    third same (inl h) = absurd (grind (arith, nat_tests, same, h, e))
    third same (inr h) = inr (same, h)

    second : y.0 ≤ x.0 → (y.0 < x.0) ⊎ (x.0 ≤ y.0) → Le x y
    second le (inl h) = absurd (grind (arith, nat_tests, h, e))
    second le (inr h) = third (omega (arith, le, h)) (cases_lt y.1 x.1)

    first : (x.0 < y.0) ⊎ (y.0 ≤ x.0) → Le x y
    first (inl h) = inl h
    first (inr h) = second h (cases_lt y.0 x.0)

module _ (ys : List (ℕ × ℕ))
    (sorted : IsSorted (λ x y. ordering_then (nat_cmp x.0 y.0) (nat_cmp x.1 y.1)) ys) where
  rises : (i k : ℕ) (d : ℕ × ℕ) → i + k < length ys → Le (get_or ys i d) (get_or ys (i + k) d)
  rises i zero d h =
      let same : i ≡ i + 0 = omega arith in
      subst (λ j. Le (get_or ys i d) (get_or ys j d)) same (inr (refl, omega arith))
  rises i (suc k) d h =
      let next : (i + k) + 1 ≡ i + suc k = omega arith in
      let before = rises i k d (omega (arith, h)) in
      let step = not_after (get_or ys (i + k) d) (get_or ys ((i + k) + 1) d)
      (sorted (i + k) d (omega arith) (omega (arith, h, next))) in
      subst (λ j. Le (get_or ys i d) (get_or ys j d)) next (le_trans _ _ _ before step)

same_numbers :
    (length_at : ℕ → ℕ) (xs : List ℕ) →
    map (λ (p : ℕ × ℕ). p.1) (map (λ k. (length_at k, k)) xs) ≡ xs
same_numbers length_at [] = refl
same_numbers length_at (x ∷ xs) = ap (λ l. x ∷ l) (same_numbers length_at xs)

module _ (length_at : ℕ → ℕ) (n : ℕ) (ys : List (ℕ × ℕ))
    (moved : IsPermutation (measured length_at n) ys) where
  pub each_once : IsPermutation (range_with_len 0 n) (map (λ p. p.1) ys)
  each_once =
      subst (λ l. IsPermutation l (map (λ (p : ℕ × ℕ). p.1) ys))
      (same_numbers length_at (range_with_len 0 n))
      (IsPermutation-map (λ (p : ℕ × ℕ). p.1) (measured length_at n) ys moved)

  are_measured : All (λ p. p.0 ≡ length_at p.1) ys
  are_measured =
      All-permutation (λ (p : ℕ × ℕ). p.0 ≡ length_at p.1) (measured length_at n) ys moved
      (All-map (λ (p : ℕ × ℕ). p.0 ≡ length_at p.1) (λ k. (length_at k, k)) (range_with_len 0 n)
      (λ k d h. refl))

  of_pairs :
      (x y : ℕ × ℕ) (a b : ℕ) → a ≡ x.1 → b ≡ y.1 → x.0 ≡ length_at x.1 →
      y.0 ≡ length_at y.1 → Le x y → Precedes length_at a b
  of_pairs x y a b p q r s (inl h) =
      inl (omega (arith, ap length_at p, ap length_at q, r, s, h))
  of_pairs x y a b p q r s (inr h) =
      inr (omega (arith, ap length_at p, ap length_at q, r, s, h.0), omega (arith, p, q, h.1))

  pub by_length :
      IsSorted (λ x y. ordering_then (nat_cmp x.0 y.0) (nat_cmp x.1 y.1)) ys →
      AllPairs (Precedes length_at) (map (λ p. p.1) ys)
  by_length sorted i j d before inside =
      let e : ℕ × ℕ = (0, d) in
      let long : length (map (λ (p : ℕ × ℕ). p.1) ys) ≡ length ys = length-map ys (λ p. p.1) in
      let here : j < length ys = omega (arith, long, inside) in
      let apart : i + (j - i) ≡ j = omega arith in
      let le = subst (λ m. Le (get_or ys i e) (get_or ys m e)) apart
      (rises ys sorted i (j - i) e (omega (arith, here, apart))) in
      of_pairs (get_or ys i e) (get_or ys j e) _ _
      (get_or-map (λ (p : ℕ × ℕ). p.1) ys i e d (omega (arith, here, before)))
      (get_or-map (λ (p : ℕ × ℕ). p.1) ys j e d here)
      (are_measured i e (omega (arith, here, before))) (are_measured j e here) le
