-- The nodes reached in any number of calls are reached in as many calls as there are nodes.
use Rattle.std.proofs.Common.{◌≡◌, ℕ, zero, suc, ◌+◌, ◌<◌, ◌≤◌, Bool, true, false, cond, List, []}
use Rattle.std.proofs.Common.{◌∷◌, length, refl, ap, sym, subst, ◌∙◌, ◌⊎◌, inl, inr, arith}
use Rattle.std.specs.Prelude.{◌||◌, filter}
use Rattle.std.specs.List.{list_any}
use Rattle.std.proofs.lemmas.Bool.{or_right}
use Rattle.lb_syntax.specs.Tree.{Node}
use Rattle.lb_static.specs.Instances.{Program}
use Rattle.lb_static.specs.Names.{calls, reached_within}

-- each item that passes `p` passes `q`
abbrev Implies : {A : Type 0} → (A → Bool) → (A → Bool) → Type 0
Implies p q = (x : _) → p x ≡ true → q x ≡ true

-- ## A list kept by two tests

few_or_same : {A : Type 0} (p q : A → Bool) → Implies p q → (xs : List A)
    → (length (filter p xs) < length (filter q xs)) ⊎ (filter p xs ≡ filter q xs)
few_or_same p q more [] = inr refl
few_or_same p q more (x ∷ xs) = by (p x) (q x) (more x) (few_or_same p q more xs)
  where
    by : (a b : Bool) → (a ≡ true → b ≡ true)
        → (length (filter p xs) < length (filter q xs)) ⊎ (filter p xs ≡ filter q xs)
        → (length (cond a (x ∷ filter p xs) (filter p xs))
        < length (cond b (x ∷ filter q xs) (filter q xs)))
        ⊎ (cond a (x ∷ filter p xs) (filter p xs) ≡ cond b (x ∷ filter q xs) (filter q xs))
    by true true h (inl few) = inl (omega arith)
    by true true h (inr same) = inr (ap (λ l. x ∷ l) same)
    by true false h next = absurd (let e = h refl in cc)
    by false true h (inl few) = inl (omega arith)
    by false true h (inr same) = let e = ap length same in inl (omega arith)
    by false false h next = next

any_more : {A : Type 0} (f p q : A → Bool) → Implies p q → (xs : List A)
    → list_any f (filter p xs) ≡ true → list_any f (filter q xs) ≡ true
any_more f p q more [] e = absurd cc
any_more f p q more (x ∷ xs) e = by (p x) (q x) (more x) (any_more f p q more xs) e
  where
    either : (b : Bool) (r s : Bool) → (r ≡ true → s ≡ true) → (b || r) ≡ true → (b || s) ≡ true
    either true r s next e = refl
    either false r s next e = next e

    by : (a b : Bool) → (a ≡ true → b ≡ true)
        → (list_any f (filter p xs) ≡ true → list_any f (filter q xs) ≡ true)
        → list_any f (cond a (x ∷ filter p xs) (filter p xs)) ≡ true
        → list_any f (cond b (x ∷ filter q xs) (filter q xs)) ≡ true
    by true true h next e = either (f x) (list_any f (filter p xs)) (list_any f (filter q xs)) next
        e
    by true false h next e = absurd (let g = h refl in cc)
    by false true h next e = or_right (f x) (list_any f (filter q xs)) (next e)
    by false false h next e = next e

filter_few : {A : Type 0} (p : A → Bool) (xs : List A) → length (filter p xs) ≤ length xs
filter_few p [] = omega arith
filter_few p (x ∷ xs) = by (p x) (filter_few p xs)
  where
    by : (b : Bool) → length (filter p xs) ≤ length xs
        → length (cond b (x ∷ filter p xs) (filter p xs)) ≤ length (x ∷ xs)
    by true h = omega arith
    by false h = omega arith

module _ (P : Program) (start : Node → Bool) where
  -- the test by which a node is reached in at most `k` calls
  abbrev reaches : ℕ → Node → Bool
  reaches zero m = start m
  reaches (suc k) m = start m || list_any (λ n. calls n m) (reached_within P start k)

  reached_is : (k : ℕ) → reached_within P start k ≡ filter (reaches k) P.source.nodes
  reached_is zero = refl
  reached_is (suc k) = refl

  or_more : (a b c : Bool) → (b ≡ true → c ≡ true) → (a || b) ≡ true → (a || c) ≡ true
  or_more true b c next e = refl
  or_more false b c next e = next e

  one_more : (k : ℕ) → Implies (reaches k) (reaches (suc k))
  one_more zero m e = ap (λ b. b || list_any (λ n. calls n m) (reached_within P start zero)) e
  one_more (suc k) m e =
      or_more (start m) (list_any (λ n. calls n m) (reached_within P start k))
      (list_any (λ n. calls n m) (reached_within P start (suc k)))
      (λ h. any_more (λ n. calls n m) (reaches k) (reaches (suc k)) (one_more k) P.source.nodes
      (subst (λ l. list_any (λ n. calls n m) l ≡ true) (reached_is k) h)) e

  -- one more call reaches more nodes, or the same nodes
  grows : (k : ℕ) → (length (reached_within P start k) < length (reached_within P start (suc k)))
      ⊎ (reached_within P start k ≡ reached_within P start (suc k))
  grows k =
      subst (λ l. (length l < length (reached_within P start (suc k)))
      ⊎ (l ≡ reached_within P start (suc k))) (sym (reached_is k))
      (few_or_same (reaches k) (reaches (suc k)) (one_more k) P.source.nodes)

  same_after : (k : ℕ) → reached_within P start k ≡ reached_within P start (suc k)
      → reached_within P start (suc k) ≡ reached_within P start (suc (suc k))
  same_after k e = ap (λ l. filter (λ m. start m || list_any (λ n. calls n m) l) P.source.nodes) e

  -- at most `k + 1` calls reach more than `k` nodes, or the same nodes as `k` calls
  many_or_same : (k : ℕ) → (k < length (reached_within P start (suc k)))
      ⊎ (reached_within P start k ≡ reached_within P start (suc k))
  many_or_same zero = by (grows zero)
    where
      by : (length (reached_within P start zero) < length (reached_within P start (suc zero)))
          ⊎ (reached_within P start zero ≡ reached_within P start (suc zero))
          → (zero < length (reached_within P start (suc zero)))
          ⊎ (reached_within P start zero ≡ reached_within P start (suc zero))
      by (inl more) = inl (omega arith)
      by (inr same) = inr same
  many_or_same (suc k) = by (many_or_same k) (grows (suc k))
    where
      by : (k < length (reached_within P start (suc k)))
          ⊎ (reached_within P start k ≡ reached_within P start (suc k))
          → (length (reached_within P start (suc k))
          < length (reached_within P start (suc (suc k))))
          ⊎ (reached_within P start (suc k) ≡ reached_within P start (suc (suc k)))
          → (suc k < length (reached_within P start (suc (suc k))))
          ⊎ (reached_within P start (suc k) ≡ reached_within P start (suc (suc k)))
      by (inr same) h = inr (same_after k same)
      by (inl many) (inl more) = inl (omega arith)
      by (inl many) (inr same) = inr same

  few : (k : ℕ) → length (reached_within P start k) ≤ length P.source.nodes
  few k = subst (λ l. length l ≤ length P.source.nodes) (sym (reached_is k))
      (filter_few (reaches k) P.source.nodes)

  all_at_last : reached_within P start (length P.source.nodes)
      ≡ reached_within P start (suc (length P.source.nodes))
  all_at_last = by (many_or_same (length P.source.nodes))
    where
      by : (length P.source.nodes < length (reached_within P start (suc (length P.source.nodes))))
          ⊎ (reached_within P start (length P.source.nodes)
          ≡ reached_within P start (suc (length P.source.nodes)))
          → reached_within P start (length P.source.nodes)
          ≡ reached_within P start (suc (length P.source.nodes))
      by (inl many) = absurd (omega (arith, few (suc (length P.source.nodes))))
      by (inr same) = same

  ever_after : (k : ℕ) → reached_within P start (k + length P.source.nodes)
      ≡ reached_within P start (suc (k + length P.source.nodes))
  ever_after zero =
      let same : 0 + length P.source.nodes ≡ length P.source.nodes = omega arith in
      subst (λ n. reached_within P start n ≡ reached_within P start (suc n)) (sym same) all_at_last
  ever_after (suc k) =
      let same : suc k + length P.source.nodes ≡ suc (k + length P.source.nodes) = omega arith in
      subst (λ n. reached_within P start n ≡ reached_within P start (suc n)) (sym same)
      (same_after (k + length P.source.nodes) (ever_after k))

  -- more calls than there are nodes reach no further nodes
  at_last : (k : ℕ) → reached_within P start (k + length P.source.nodes)
      ≡ reached_within P start (length P.source.nodes)
  at_last zero = let same : 0 + length P.source.nodes ≡ length P.source.nodes =
      omega arith in ap (reached_within P start) same
  at_last (suc k) =
      let same : suc k + length P.source.nodes ≡ suc (k + length P.source.nodes) = omega arith in
      ap (reached_within P start) same ∙ sym (ever_after k) ∙ at_last k

  more_calls : (f : Node → Bool) (k n : ℕ) → list_any f (reached_within P start k) ≡ true
      → list_any f (reached_within P start (n + k)) ≡ true
  more_calls f k zero e =
      let same : 0 + k ≡ k = omega arith in
      subst (λ m. list_any f (reached_within P start m) ≡ true) (sym same) e
  more_calls f k (suc n) e =
      let same : suc n + k ≡ suc (n + k) = omega arith in
      let before = subst (λ l. list_any f l ≡ true) (reached_is (n + k)) (more_calls f k n e) in
      subst (λ m. list_any f (reached_within P start m) ≡ true) (sym same)
      (any_more f (reaches (n + k)) (reaches (suc (n + k))) (one_more (n + k)) P.source.nodes
      before)

  -- a test that some reached node passes is passed by a node reached in as many calls as nodes
  pub enough_calls : (f : Node → Bool) (k : ℕ) → list_any f (reached_within P start k) ≡ true
      → list_any f (reached_within P start (length P.source.nodes)) ≡ true
  enough_calls f k e =
      let same : length P.source.nodes + k ≡ k + length P.source.nodes = omega arith in
      subst (λ l. list_any f l ≡ true) (ap (reached_within P start) same ∙ at_last k)
      (more_calls f k (length P.source.nodes) e)
