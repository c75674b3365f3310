-- Places that cut a list into pieces, after one more place and after a later last place.
use Rattle.std.proofs.Common.{ℕ, ◌≡◌, ◌+◌, ◌-◌, ◌<◌, ◌≤◌, List, [], ◌∷◌, ◌++◌, length, map, get_or}
use Rattle.std.proofs.Common.{set, take, drop, refl, sym, ap, ◌∙◌, ⊎_elim, arith, length-drop}
use Rattle.std.proofs.Common.{length-set, get_or-set_same, get_or-set_other}
use Rattle.std.proofs.lemmas.List.{get_or_read, get_or_append_left, get_or_push, length_push}
use Rattle.std.proofs.lemmas.List.{drop_at, take_all, take-append-le, drop-append-le}
use Rattle.std.proofs.lemmas.List.FromFn.{length-map-range_with_len, get_or-map-range_with_len}
use Rattle.std.proofs.lemmas.List.FromFn.{map-range_with_len_more, fill_by_all}
use Rattle.std.proofs.lemmas.Bool.{cases_lt}
use Rattle.std.specs.List.{range_with_len, slice_range}
use Rattle.lb_traces.specs.Ledger.{place, last_place, IsLedger, pieces, cut}

-- two functions that agree below `n` give the same list on the numbers below `n`
pub map-range-agree : {A : Type 0} (f g : ℕ → A) (n : ℕ) (d : A) → ((k : ℕ) → k < n → f k ≡ g k)
    → map f (range_with_len 0 n) ≡ map g (range_with_len 0 n)
map-range-agree f g n d agree =
    fill_by_all g (map f (range_with_len 0 n)) n d (length-map-range_with_len f 0 n)
    (λ k below. get_or-map-range_with_len f 0 n k k d below (omega arith) ∙ agree k below)

-- one more place at the end leaves the others as they are
pub place-push_before : (ends : List ℕ) (e k : ℕ) → k < length ends →
    place (ends ++ e ∷ []) k ≡ place ends k
place-push_before ends e k below = get_or_append_left ends (e ∷ []) 0 k below

pub last_place-push : (ends : List ℕ) (e : ℕ) → last_place (ends ++ e ∷ []) ≡ e
last_place-push ends e =
    let n : length (ends ++ e ∷ []) - 1 ≡ length ends = omega (arith, length_push ends e) in
    ap (λ k. place (ends ++ e ∷ []) k) n ∙ get_or_push ends e 0 (length ends) refl

-- each place is at most the last one
pub place-le-last : (ends : List ℕ) → IsLedger ends → (k : ℕ) → k < length ends →
    place ends k ≤ last_place ends
place-le-last ends ledger k below =
    ⊎_elim (λ (h : k < length ends - 1). let climb : place ends k < last_place ends =
    ledger.climbs k (length ends - 1) h (omega arith) in omega arith)
    (λ (h : length ends - 1 ≤ k). let e : k ≡ length ends - 1 = omega arith in
    let same : place ends k ≡ last_place ends = ap (place ends) e in omega arith)
    (cases_lt k (length ends - 1))

pub IsLedger-push : (ends : List ℕ) (e : ℕ) → IsLedger ends → last_place ends < e →
    IsLedger (ends ++ e ∷ [])
IsLedger-push ends e ledger above = record {
  not_empty = omega (arith, length_push ends e, ledger.not_empty);
  first = place-push_before ends e 0 ledger.not_empty ∙ ledger.first;
  climbs = λ i j before below.
      let n : length (ends ++ e ∷ []) ≡ length ends + 1 = length_push ends e in
      let at_i : place (ends ++ e ∷ []) i ≡ place ends i =
      place-push_before ends e i (omega arith) in
      ⊎_elim (λ (h : j < length ends).
      let at_j : place (ends ++ e ∷ []) j ≡ place ends j = place-push_before ends e j h in
      let climb : place ends i < place ends j = ledger.climbs i j before h in omega arith)
      (λ (h : length ends ≤ j).
      let is : length ends ≡ j = omega arith in
      let at_j : place (ends ++ e ∷ []) j ≡ e = get_or_push ends e 0 j is in
      let most : place ends i ≤ last_place ends = place-le-last ends ledger i (omega arith) in
      omega arith)
      (cases_lt j (length ends));
}

-- one more place makes one more piece
pub pieces-push : {A : Type 0} (f g : ℕ → ℕ → A) (ends : List ℕ) (e : ℕ) (d : A) → 0 < length ends
    → ((k : ℕ) → k + 1 < length ends → g (place ends k) (place ends (k + 1))
    ≡ f (place ends k) (place ends (k + 1)))
    → pieces g (ends ++ e ∷ []) ≡ pieces f ends ++ g (last_place ends) e ∷ []
pieces-push f g ends e d some agree =
    let n : length (ends ++ e ∷ []) - 1 ≡ (length ends - 1) + 1 =
    omega (arith, length_push ends e) in
    let last_is : place (ends ++ e ∷ []) (length ends - 1) ≡ last_place ends =
    place-push_before ends e (length ends - 1) (omega arith) in
    let end_is : place (ends ++ e ∷ []) ((length ends - 1) + 1) ≡ e =
    get_or_push ends e 0 ((length ends - 1) + 1) (omega arith) in
    let piece : ℕ → _ = λ k. g (place (ends ++ e ∷ []) k) (place (ends ++ e ∷ []) (k + 1)) in
    ap (λ m. map piece (range_with_len 0 m)) n
    ∙ map-range_with_len_more piece 0 (length ends - 1) (length ends - 1) (omega arith)
    ∙ ap (λ front. front ++ piece (length ends - 1) ∷ [])
    (map-range-agree piece (λ k. f (place ends k) (place ends (k + 1))) (length ends - 1) d
    (λ k below. ap (λ a. g a (place (ends ++ e ∷ []) (k + 1)))
    (place-push_before ends e k (omega arith))
    ∙ ap (λ b. g (place ends k) b) (place-push_before ends e (k + 1) (omega arith))
    ∙ agree k (omega arith)))
    ∙ ap (λ p. pieces f ends ++ p ∷ []) (ap (λ a. g a
    (place (ends ++ e ∷ []) ((length ends - 1) + 1))) last_is ∙ ap (g (last_place ends)) end_is)

pub length-pieces : {A : Type 0} (f : ℕ → ℕ → A) (ends : List ℕ) →
    length (pieces f ends) ≡ length ends - 1
length-pieces f ends = length-map-range_with_len (λ k. f (place ends k) (place ends (k + 1))) 0
    (length ends - 1)

pub get_or-pieces : {A : Type 0} (f : ℕ → ℕ → A) (ends : List ℕ) (k : ℕ) (d : A) →
    k + 1 < length ends
    → get_or (pieces f ends) k d ≡ f (place ends k) (place ends (k + 1))
get_or-pieces f ends k d below =
    get_or-map-range_with_len (λ k. f (place ends k) (place ends (k + 1))) 0 (length ends - 1) k k d
    (omega arith) (omega arith)

-- a part of a list stays the same when the list grows at its end
pub slice_range-append : (xs more : List ℕ) (from to : ℕ) → from ≤ to → to ≤ length xs
    → slice_range (xs ++ more) from to ≡ slice_range xs from to
slice_range-append xs more from to order within =
    ap (take (to - from)) (drop-append-le from xs more (omega arith))
    ∙ take-append-le (to - from) (drop from xs) more (omega (arith, length-drop from xs))

-- the part of a list behind its old end is the list that was appended
pub slice_range-grown : (xs more : List ℕ) (from to : ℕ) → from ≡ length xs →
    to ≡ length xs + length more
    → slice_range (xs ++ more) from to ≡ more
slice_range-grown xs more from to is_end is_all =
    ap (take (to - from)) (drop_at xs more from (sym is_end))
    ∙ take_all (to - from) more (omega arith)

-- a list that grows by one piece, with one more place, has that piece at the end
pub cut-push : (ends items more : List ℕ) (e : ℕ) → IsLedger ends → last_place ends ≡ length items
    → e ≡ length items + length more → cut (ends ++ e ∷ []) (items ++ more) ≡ cut ends items ++ more
    ∷ []
cut-push ends items more e ledger all grown =
    pieces-push (slice_range items) (slice_range (items ++ more)) ends e [] ledger.not_empty
    (λ k below. slice_range-append items more (place ends k) (place ends (k + 1))
    (let climb : place ends k < place ends (k + 1) = ledger.climbs k (k + 1) (omega arith) below in
    omega arith)
    (let most : place ends (k + 1) ≤ last_place ends = place-le-last ends ledger (k + 1) below in
    omega arith))
    ∙ ap (λ p. cut ends items ++ p ∷ []) (slice_range-grown items more (last_place ends) e all
    grown)

-- a place that is changed leaves those before it as they are
pub place-set_before : (ends : List ℕ) (n e k : ℕ) → k < n → place (set ends n e) k ≡ place ends k
place-set_before ends n e k below = get_or-set_other ends n k e 0 (omega arith)

pub last_place-set : (ends : List ℕ) (n e : ℕ) → n + 1 ≡ length ends → last_place (set ends n e) ≡ e
last_place-set ends n e last =
    let is_last : length (set ends n e) - 1 ≡ n = omega (arith, length-set ends n e) in
    ap (place (set ends n e)) is_last ∙ get_or-set_same ends n e 0 (omega arith)

pub IsLedger-set : (ends : List ℕ) (n e : ℕ) → IsLedger ends → n + 1 ≡ length ends → 0 < n →
    last_place ends ≤ e → IsLedger (set ends n e)
IsLedger-set ends n e ledger last later above = record {
  not_empty = omega (arith, length-set ends n e);
  first = place-set_before ends n e 0 later ∙ ledger.first;
  climbs = λ i j before below.
      let long : length (set ends n e) ≡ length ends = length-set ends n e in
      let at_i : place (set ends n e) i ≡ place ends i =
      place-set_before ends n e i (omega arith) in
      let climb : place ends i < place ends j = ledger.climbs i j before (omega arith) in
      ⊎_elim (λ (h : j < n). let at_j : place (set ends n e) j ≡ place ends j =
      place-set_before ends n e j h in omega arith)
      (λ (h : n ≤ j).
      let is : j ≡ n = omega arith in
      let at_j : place (set ends n e) j ≡ e = ap (place (set ends n e)) is
      ∙ get_or-set_same ends n e 0 (omega arith) in
      let most : place ends j ≤ last_place ends = place-le-last ends ledger j (omega arith) in
      omega arith)
      (cases_lt j n);
}

-- a read of the last place gives `last_place`
pub read_last : (ends : List ℕ) (n x : ℕ) → IsLedger ends → n ≡ length ends →
    x ≡ get_or ends (n - 1) x → x ≡ last_place ends
read_last ends n x ledger count read =
    let some : 0 < length ends = ledger.not_empty in
    get_or_read ends (n - 1) x (omega arith) read 0 ∙ ap (λ m. place ends (m - 1)) count
