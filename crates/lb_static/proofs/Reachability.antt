-- Items that are reached by steps: more steps reach more, and a set that is closed under steps has
-- all of them.
use Rattle.std.proofs.Common.{◌≡◌, ℕ, zero, suc, ◌+◌, ◌-◌, ◌≤◌, Bool, true, false, cond, List, []}
use Rattle.std.proofs.Common.{◌∷◌, ◌++◌, length, Option, Some, None, refl, ap, sym, ◌∙◌, arith}
use Rattle.std.proofs.Common.{length-append}
use Rattle.std.specs.Prelude.{◌||◌, ◌&&◌, filter, slice_get, if◌then◌else◌}
use Rattle.std.specs.List.{list_all, list_any}
use Rattle.std.proofs.lemmas.List.Folds.{list_all-append}
use Rattle.std.proofs.lemmas.Bool.{and_from, or_left, or_right}
use Rattle.std.proofs.lemmas.Map.Keys.{any_passes_from_place}
use Rattle.lb_syntax.specs.Lists.{holds}
use Rattle.lb_syntax.proofs.TruthValues.{and_first, and_second}
use Rattle.lb_static.specs.WorkLists.{AreReachable, is_reachable, is_visited, visited_after}
use Rattle.lb_static.specs.WorkLists.{visited_after_all, within}
use Rattle.lb_static.proofs.WorkLists.{any_at, grows_once}
use Rattle.lb_static.proofs.Growth.{all_on}

pub any_filter : {A : Type 0} (f p : A → Bool) (xs : List A)
    → list_any f (filter p xs) ≡ list_any (λ x. p x && f x) xs
any_filter f p [] = refl
any_filter f p (x ∷ xs) = by (p x) ∙ ap (λ b. (p x && f x) || b) (any_filter f p xs)
  where
    by : (b : Bool) → list_any f (cond b (x ∷ filter p xs) (filter p xs))
        ≡ ((b && f x) || list_any f (filter p xs))
    by true = refl
    by false = refl

pub holds_more : {A : Type 0} (p q : A → Bool) (o : Option A) → ((a : A) → p a ≡ true → q a ≡ true)
    → holds p o ≡ true → holds q o ≡ true
holds_more p q None f e = e
holds_more p q (Some a) f e = f a e

module _ {A : Type 0} (items : List A) (start : A → Bool) (step : A → A → Bool) where
  pub within_is : (k : ℕ) → within items start step k
      ≡ filter (is_reachable items start step k) items
  within_is zero = refl
  within_is (suc k) = refl

  abbrev from_reachable : ℕ → A → A → Bool
  from_reachable k a b = is_reachable items start step k b && step b a

  stepped : (k : ℕ) (a : A)
      → list_any (λ b. step b a) (within items start step k) ≡ list_any (from_reachable k a) items
  stepped k a = ap (list_any (λ b. step b a)) (within_is k)
      ∙ any_filter (λ b. step b a) (is_reachable items start step k) items

  -- an item one step behind an item that is reached in `k` steps is reached in `k + 1`
  pub reachable_next : (k q : ℕ) (a b : A) → slice_get items q ≡ Some b
      → is_reachable items start step k b ≡ true → step b a ≡ true
      → is_reachable items start step (suc k) a ≡ true
  reachable_next k q a b at reachable s =
      or_right (start a) _ (stepped k a
      ∙ any_passes_from_place (from_reachable k a) items q b at (and_from _ _ reachable s))

  reachable_once : (k : ℕ) (a : A) → is_reachable items start step k a ≡ true
      → is_reachable items start step (suc k) a ≡ true
  reachable_once zero a e = or_left (start a) _ e
  reachable_once (suc k) a e = by (start a) refl e (reachable_once k)
    where
      by : (b : Bool) → start a ≡ b
          → (b || list_any (λ c. step c a) (within items start step k)) ≡ true
          → ((c : A) → is_reachable items start step k c ≡ true
          → is_reachable items start step (suc k) c ≡ true)
          → is_reachable items start step (suc (suc k)) a ≡ true
      by true h e more = or_left (start a) _ h
      by false h e more =
          let f = any_at (from_reachable k a) items (sym (stepped k a) ∙ e) in
          reachable_next (suc k) f.place a f.item f.at (more f.item (and_first _ _ f.passes))
          (and_second (is_reachable items start step k f.item) _ f.passes)

  pub reachable_more : (k d : ℕ) (a : A) → is_reachable items start step k a ≡ true
      → is_reachable items start step (d + k) a ≡ true
  reachable_more k zero a e = let same : 0 + k ≡ k =
      omega arith in ap (λ n. is_reachable items start step n a) same ∙ e
  reachable_more k (suc d) a e =
      let same : suc d + k ≡ suc (d + k) = omega arith in
      ap (λ n. is_reachable items start step n a) same
      ∙ reachable_once (d + k) a (reachable_more k d a e)

  pub reachable_by : (k m : ℕ) (a : A) → k ≤ m → is_reachable items start step k a ≡ true
      → is_reachable items start step m a ≡ true
  reachable_by k m a le e = let same : m - k + k ≡ m =
      omega arith in ap (λ n. is_reachable items start step n a) (sym same)
      ∙ reachable_more k (m - k) a e

  -- places stay reachable with one more, whose item is reached in one step from those before
  pub reachable_visit : (k place : ℕ) (order : List ℕ) → k ≤ length order
      → AreReachable items start step order
      → holds (is_reachable items start step (suc k)) (slice_get items place) ≡ true
      → AreReachable items start step (visited_after order place)
  reachable_visit k place order le reachable e = by (is_visited order place)
    where
      fresh : AreReachable items start step (order ++ place ∷ [])
      fresh =
          let more = length-append order (place ∷ []) in
          let n = length (order ++ place ∷ []) in
          list_all-append (λ p. holds (is_reachable items start step n) (slice_get items p)) order
          (place ∷ [])
          ∙ and_from _ _ (all_on _ _ order
          (λ p h. holds_more _ _ (slice_get items p)
          (λ a. reachable_by (length order) n a (omega arith))
          h) reachable)
          (and_from _ _ (holds_more _ _ (slice_get items place)
          (λ a. reachable_by (suc k) n a (omega arith))
          e) refl)

      by : (b : Bool) → AreReachable items start step (if b then order else order ++ place ∷ [])
      by true = reachable
      by false = fresh

  pub reachable_visits : (k : ℕ) (order places : List ℕ) → k ≤ length order
      → AreReachable items start step order
      → list_all (λ p. holds (is_reachable items start step (suc k)) (slice_get items p)) places
      ≡ true
      → AreReachable items start step (visited_after_all order places)
  unfolding visited_after_all
  reachable_visits k order [] le reachable e = reachable
  reachable_visits k order (p ∷ ps) le reachable e =
      reachable_visits k (visited_after order p) ps (omega (arith, (grows_once order p).longer))
      (reachable_visit k p order le reachable (and_first _ _ e))
      (and_second (holds (is_reachable items start step (suc k)) (slice_get items p)) _ e)

  -- places that are closed under steps have each item that is reached
  pub closed_has : (order : List ℕ)
      → ((p : ℕ) (a : A) → slice_get items p ≡ Some a → start a ≡ true → is_visited order p ≡ true)
      → ((p q : ℕ) (a b : A) → slice_get items q ≡ Some b → slice_get items p ≡ Some a
      → is_visited order q ≡ true → step b a ≡ true → is_visited order p ≡ true)
      → (k p : ℕ) (a : A) → slice_get items p ≡ Some a → is_reachable items start step k a ≡ true
      → is_visited order p ≡ true
  closed_has order starts closed zero p a at e = starts p a at e
  closed_has order starts closed (suc k) p a at e =
      by (start a) refl e (closed_has order starts closed k)
    where
      by : (b : Bool) → start a ≡ b
          → (b || list_any (λ c. step c a) (within items start step k)) ≡ true
          → ((q : ℕ) (c : A) → slice_get items q ≡ Some c → is_reachable items start step k c ≡ true
          → is_visited order q ≡ true) → is_visited order p ≡ true
      by true h e before = starts p a at h
      by false h e before =
          let f = any_at (from_reachable k a) items (sym (stepped k a) ∙ e) in
          closed p f.place a f.item f.at at (before f.place f.item f.at (and_first _ _ f.passes))
          (and_second (is_reachable items start step k f.item) _ f.passes)
