-- Integers in 16 bits each: how one is read, and how one more comes in.
use Rattle.std.proofs.Common.{ℕ, zero, suc, ◌≡◌, ◌≢◌, ◌+◌, ◌-◌, ◌<◌, ◌≤◌, ◌==◌, true, false}
use Rattle.std.proofs.Common.{cond, List, [], ◌∷◌, ◌++◌, length, get_or, take, drop, ℤ, pos}
use Rattle.std.proofs.Common.{refl, sym, ap, ap₂, ◌∙◌, arith, eq-eqb, length-append}
use Rattle.std.proofs.Common.{length-drop, inl, inr, Ok, Err, ◌<ℤ◌, ◌≤ℤ◌}
use Rattle.std.proofs.lemmas.Bool.{cases_lt, ne_eqb}
use Rattle.std.proofs.lemmas.List.{get_or_append_left, get_or-append_right, get_or_push}
use Rattle.std.proofs.lemmas.List.{get_or-take, get_or-drop, get_or_default, length-take-le}
use Rattle.std.proofs.lemmas.List.{same_lists}
use Rattle.std.proofs.lemmas.List.{length_push}
use Rattle.std.proofs.lemmas.List.Elements.{All-cons}
use Rattle.std.proofs.lemmas.List.FromFn.{length-map-range_with_len, get_or-map-range_with_len}
use Rattle.std.specs.List.{All}
use Rattle.std.specs.Prelude.{negsuc, int_le}
use Rattle.std.proofs.lemmas.Int.{ints}
use Rattle.std.proofs.lemmas.List.{append_assoc, take_more}
use Rattle.std.proofs.lemmas.List.Sorted.{searched}
use Rattle.std.specs.List.Sorted.{IsBinarySearchResult}
use Rattle.std.specs.Ordering.{nat_cmp}
use Rattle.lb_traces.specs.Narrow.{value_at, integer_of, integer_at, integers_of, IsNarrow}
use Rattle.lb_traces.specs.Narrow.{AreCells, Integers}

-- ## What stands elsewhere

-- a value more, at a greater place, is found there
pub value-here :
    (places : List ℕ) (values : List ℤ) (p : ℕ) (v : ℤ) → length places ≡ length values →
    ((k : ℕ) → k < length places → get_or places k 0 < p) →
    value_at (places ++ p ∷ []) (values ++ v ∷ []) p ≡ v
value-here [] [] p v e below = ap (λ b. cond b v (pos 0)) (eq-eqb p p refl)
value-here [] (w ∷ values) p v e below = absurd (omega (arith, e))
value-here (q ∷ places) [] p v e below = absurd (omega (arith, e))
value-here (q ∷ places) (w ∷ values) p v e below =
    let first : q < p = below 0 (omega arith) in
    ap (λ b. cond b w (value_at (places ++ p ∷ []) (values ++ v ∷ []) p))
    (ne_eqb q p (λ same. absurd (omega (arith, first, same))))
    ∙ value-here places values p v (omega (arith, e)) (λ k l. below (suc k) (omega (arith, l)))

-- at other places stands what stood there
pub value-other :
    (places : List ℕ) (values : List ℤ) (p i : ℕ) (v : ℤ) → length places ≡ length values →
    i ≢ p → value_at (places ++ p ∷ []) (values ++ v ∷ []) i ≡ value_at places values i
value-other [] [] p i v e ne =
    ap (λ b. cond b v (pos 0)) (ne_eqb p i (λ same. ne (sym same)))
value-other [] (w ∷ values) p i v e ne = absurd (omega (arith, e))
value-other (q ∷ places) [] p i v e ne = absurd (omega (arith, e))
value-other (q ∷ places) (w ∷ values) p i v e ne =
    ap (cond (q == i) w) (value-other places values p i v (omega (arith, e)) ne)

-- the value number `k` stands at place number `k`
pub value-found :
    (places : List ℕ) (values : List ℤ) (i k : ℕ) → length places ≡ length values →
    ((a b : ℕ) → a < b → b < length places → get_or places a 0 < get_or places b 0) →
    k < length places → get_or places k 0 ≡ i → value_at places values i ≡ get_or values k (pos 0)
value-found [] values i k e up l here = absurd (omega (arith, l))
value-found (q ∷ places) [] i k e up l here = absurd (omega (arith, e))
value-found (q ∷ places) (w ∷ values) i zero e up l here =
    ap (λ b. cond b w (value_at places values i)) (eq-eqb q i here)
value-found (q ∷ places) (w ∷ values) i (suc k) e up l here =
    let first : q < get_or places k 0 = up 0 (suc k) (omega arith) l in
    ap (λ b. cond b w (value_at places values i))
    (ne_eqb q i (λ same. absurd (omega (arith, first, here, same))))
    ∙ value-found places values i k (omega (arith, e))
    (λ a b less last. up (suc a) (suc b) (omega (arith, less)) (omega (arith, last)))
    (omega (arith, l)) here

-- where no place is `i`, nothing stands there
pub value-missing :
    (places : List ℕ) (values : List ℤ) (i : ℕ) →
    ((k : ℕ) → k < length places → get_or places k 0 ≢ i) → value_at places values i ≡ pos 0
value-missing [] values i none = refl
value-missing (q ∷ places) [] i none = refl
value-missing (q ∷ places) (w ∷ values) i none =
    ap (λ b. cond b w (value_at places values i)) (ne_eqb q i (none 0 (omega arith)))
    ∙ value-missing places values i (λ k l. none (suc k) (omega (arith, l)))

-- places that climb do not fall
rises : (places : List ℕ) →
    ((i j : ℕ) → i < j → j < length places → get_or places i 0 < get_or places j 0) →
    (i j : ℕ) → i ≤ j → j < length places → get_or places i 0 ≤ get_or places j 0
rises places up i j le l =
    elim (cases_lt i j) [
      | inl less ↦ omega (arith, up i j less l)
      | inr ge ↦
          let same : i ≡ j = omega (arith, le, ge) in
          omega (arith, ap (λ n. get_or places n 0) same)
    ]

-- what a search among the places found stands there; and below, where it found none
pub search-found :
    (places : List ℕ) (values : List ℤ) (place k : ℕ) → length places ≡ length values →
    ((i j : ℕ) → i < j → j < length places → get_or places i 0 < get_or places j 0) →
    IsBinarySearchResult (λ y. nat_cmp y place) places (Ok k) →
    value_at places values place ≡ get_or values k (pos 0)
search-found places values place k paired up is =
    let h = searched places place (Ok k) is (rises places up) in
    value-found places values place k paired up h.0 h.1

pub search-missed :
    (places : List ℕ) (values : List ℤ) (place k : ℕ) →
    ((i j : ℕ) → i < j → j < length places → get_or places i 0 < get_or places j 0) →
    IsBinarySearchResult (λ y. nat_cmp y place) places (Err k) →
    value_at places values place ≡ pos 0
search-missed places values place k up is =
    let h = searched places place (Err k) is (rises places up) in
    value-missing places values place (λ j l. λ same.
    elim (cases_lt j k) [
      | inl before ↦ absurd (omega (arith, h.1 j before, same))
      | inr past ↦ absurd (omega (arith, h.2 j past l, same))
    ])

-- ## One integer

pub told-above : (v : ℤ) → negsuc 32767 <ℤ v → int_le v (negsuc 32767) ≡ false
told-above v h = grind (arith, ints)

pub silent-below : (v : ℤ) → v ≤ℤ negsuc 32767 → int_le v (negsuc 32767) ≡ true
silent-below v h = grind (arith, ints)

pub length-integers : (cells : List ℤ) (places : List ℕ) (values : List ℤ) →
    length (integers_of cells places values) ≡ length cells
unfolding integers_of
length-integers cells places values =
    length-map-range_with_len (integer_at cells places values) 0 (length cells)

-- integers in memory are as many as their cells
pub as-many : {r : Integers} {room : ℕ} (cells : List ℤ) (places : List ℕ) (values : List ℤ) →
    record { items = integers_of cells places values; room = room } ≡ r →
    length r.items ≡ length cells
as-many {r} {room} cells places values view =
    sym (ap (λ (r : Integers). length r.items) view) ∙ length-integers cells places values

pub integers-at : (cells : List ℤ) (places : List ℕ) (values : List ℤ) (i : ℕ) (d : ℤ) →
    i < length cells →
    get_or (integers_of cells places values) i d ≡ integer_at cells places values i
unfolding integers_of
integers-at cells places values i d l =
    get_or-map-range_with_len (integer_at cells places values) 0 (length cells) i i d l (omega arith)

-- a cell that tells is the integer
pub integers-told : (cells : List ℤ) (places : List ℕ) (values : List ℤ) (i : ℕ) →
    i < length cells → int_le (get_or cells i (pos 0)) (negsuc 32767) ≡ false →
    get_or (integers_of cells places values) i (pos 0) ≡ get_or cells i (pos 0)
unfolding integer_at
integers-told cells places values i l told =
    integers-at _ _ _ _ _ l
    ∙ ap (λ b. cond b (value_at places values i) (get_or cells i (pos 0))) told

-- another cell does not: what stands elsewhere is
pub integers-elsewhere : (cells : List ℤ) (places : List ℕ) (values : List ℤ) (i : ℕ) →
    i < length cells → int_le (get_or cells i (pos 0)) (negsuc 32767) ≡ true →
    get_or (integers_of cells places values) i (pos 0) ≡ value_at places values i
unfolding integer_at
integers-elsewhere cells places values i l silent =
    integers-at _ _ _ _ _ l
    ∙ ap (λ b. cond b (value_at places values i) (get_or cells i (pos 0))) silent

-- no integers
pub integers-none : (places : List ℕ) (values : List ℤ) → integers_of [] places values ≡ []
unfolding integers_of
integers-none places values = refl

-- ## More integers

-- a part grows by the integer behind it
pub part-more : (old xs : List ℤ) (start i : ℕ) (v : ℤ) → start ≤ i → i < length xs →
    v ≡ get_or xs i (pos 0) →
    (old ++ take (i - start) (drop start xs)) ++ v ∷ []
    ≡ old ++ take (i + 1 - start) (drop start xs)
part-more old xs start i v le l is =
    let n = i - start in
    let here : start + n ≡ i = omega (arith, le) in
    let next : n + 1 ≡ i + 1 - start = omega (arith, le) in
    let inside : n < length (drop start xs) = omega (arith, le, l, length-drop start xs) in
    append_assoc old (take n (drop start xs)) (v ∷ [])
    ∙ ap (λ w. old ++ (take n (drop start xs) ++ w ∷ []))
    (is ∙ ap (λ m. get_or xs m (pos 0)) (sym here) ∙ sym (get_or-drop start xs n (pos 0)))
    ∙ ap (λ ys. old ++ ys) (sym (take_more (drop start xs) n (pos 0) inside))
    ∙ ap (λ m. old ++ take m (drop start xs)) next

-- nothing stands at a place past all cells
value-past : (cells : List ℤ) (places : List ℕ) (values : List ℤ) (i : ℕ) →
    IsNarrow cells places values → length cells ≤ i → value_at places values i ≡ pos 0
value-past cells places values i is past =
    value-missing places values i
    (λ k l. λ same. absurd (omega (arith, is.within k l, same, past)))

-- cells that stand behind tell their integers, and 0 where they do not tell
pub integers-append : (cells more : List ℤ) (places : List ℕ) (values : List ℤ) →
    IsNarrow cells places values →
    integers_of (cells ++ more) places values
    ≡ integers_of cells places values ++ integers_of more [] []
unfolding integer_at
integers-append cells more places values is =
    let front = integers_of cells places values in
    let back = integers_of more [] [] in
    let front_long : length front ≡ length cells = length-integers cells places values in
    let back_long : length back ≡ length more = length-integers more [] [] in
    let whole : length (integers_of (cells ++ more) places values) ≡ length cells + length more =
    length-integers (cells ++ more) places values ∙ length-append cells more in
    same_lists (integers_of (cells ++ more) places values) (front ++ back)
    (whole ∙ sym (length-append front back ∙ ap₂ (λ a b. a + b) front_long back_long))
    (λ i d l.
    elim (cases_lt i (length cells)) [
      | inl before ↦
          integers-at _ _ _ _ _ (omega (arith, l, whole, length-append cells more))
          ∙ ap (λ c. integer_of c (value_at places values i))
          (get_or_append_left cells more (pos 0) i before)
          ∙ sym (integers-at _ _ _ _ _ before)
          ∙ sym (get_or_append_left front back d i (omega (arith, before, front_long)))
      | inr past ↦
          integers-at _ _ _ _ _ (omega (arith, l, whole, length-append cells more))
          ∙ ap₂ integer_of (get_or-append_right cells more (length cells) i (pos 0) refl past)
          (value-past cells places values i is past)
          ∙ sym (integers-at more [] [] (i - length cells) d (omega (arith, l, whole, past)))
          ∙ sym (get_or-append_right front back (length cells) i d front_long past)
    ])

-- cells that all tell are the integers
pub integers-plain : (cells : List ℤ) →
    All (λ v. int_le v (negsuc 32767) ≡ false) cells → integers_of cells [] [] ≡ cells
unfolding integer_at
integers-plain cells told =
    same_lists (integers_of cells [] []) cells (length-integers cells [] [])
    (λ i d l.
    let below : i < length cells = omega (arith, l, length-integers cells [] []) in
    integers-at cells [] [] i d below
    ∙ ap (λ b. cond b (pos 0) (get_or cells i (pos 0))) (told i (pos 0) below)
    ∙ get_or_default cells i (pos 0) d below)

-- one more cell that tells
pub integers-cell : (cells : List ℤ) (places : List ℕ) (values : List ℤ) (c : ℤ) →
    IsNarrow cells places values → int_le c (negsuc 32767) ≡ false →
    integers_of (cells ++ c ∷ []) places values ≡ integers_of cells places values ++ c ∷ []
integers-cell cells places values c is told =
    integers-append _ _ _ _ is ∙ ap (λ xs. integers_of cells places values ++ xs)
    (integers-plain (c ∷ []) (All-cons (λ v. int_le v (negsuc 32767) ≡ false) c [] told (λ k d l.
    absurd (omega (arith, l)))))

-- one more integer that stands elsewhere
pub integers-other : (cells : List ℤ) (places : List ℕ) (values : List ℤ) (v : ℤ) →
    IsNarrow cells places values →
    integers_of (cells ++ negsuc 32767 ∷ []) (places ++ length cells ∷ []) (values ++ v ∷ [])
    ≡ integers_of cells places values ++ v ∷ []
unfolding integer_at
integers-other cells places values v is =
    let n = length cells in
    let front = integers_of cells places values in
    let all = cells ++ negsuc 32767 ∷ [] in
    let front_long : length front ≡ n = length-integers cells places values in
    let long : length all ≡ n + 1 = length_push cells (negsuc 32767) in
    let whole : length (integers_of all (places ++ n ∷ []) (values ++ v ∷ [])) ≡ n + 1 =
    length-integers all (places ++ n ∷ []) (values ++ v ∷ []) ∙ long in
    same_lists (integers_of all (places ++ n ∷ []) (values ++ v ∷ [])) (front ++ v ∷ [])
    (whole ∙ sym (length_push front v ∙ ap (λ m. m + 1) front_long))
    (λ i d l.
    elim (cases_lt i n) [
      | inl before ↦
          integers-at _ _ _ _ _ (omega (arith, l, whole, long))
          ∙ ap₂ integer_of (get_or_append_left cells (negsuc 32767 ∷ []) (pos 0) i before)
          (value-other places values n i v is.paired
          (λ same. absurd (omega (arith, before, same))))
          ∙ sym (integers-at _ _ _ _ _ before)
          ∙ sym (get_or_append_left front (v ∷ []) d i (omega (arith, before, front_long)))
      | inr past ↦
          let here : i ≡ n = omega (arith, l, whole, past) in
          integers-at _ _ _ _ _ (omega (arith, l, whole, long))
          ∙ ap₂ integer_of (get_or_push cells (negsuc 32767) (pos 0) i (sym here))
          (ap (value_at (places ++ n ∷ []) (values ++ v ∷ [])) here
          ∙ value-here places values n v is.paired is.within)
          ∙ sym (get_or_push front v d i (front_long ∙ sym here))
    ])

-- the cells of a part tell its integers
pub cells-are : (cells : List ℤ) (places : List ℕ) (values : List ℤ) (start count : ℕ) →
    IsNarrow cells places values → start + count ≤ length cells →
    AreCells (take count (drop start cells)) (integers_of cells places values) start
cells-are cells places values start count is fits =
    let long : length (take count (drop start cells)) ≡ count =
    length-take-le count (drop start cells) (omega (arith, fits, length-drop start cells)) in
    record {
      within = omega (arith, long, fits, length-integers cells places values);
      few = omega (arith, long, fits, is.few);
      told = λ w l told.
          let below : w < count = omega (arith, l, long) in
          let same : get_or (take count (drop start cells)) w (pos 0)
          ≡ get_or cells (start + w) (pos 0) =
          get_or-take count (drop start cells) w (pos 0) below ∙ get_or-drop start cells w (pos 0) in
          same
          ∙ sym (integers-told _ _ _ _ (omega (arith, below, fits))
          (ap (λ c. int_le c (negsuc 32767)) (sym same) ∙ told));
    }

-- ## The parts fit one another

pub IsNarrow-append : (cells more : List ℤ) (places : List ℕ) (values : List ℤ) →
    IsNarrow cells places values → length cells + length more ≤ 4294967296 →
    IsNarrow (cells ++ more) places values
IsNarrow-append cells more places values is few = record {
  paired = is.paired;
  ascend = is.ascend;
  within = λ k l. omega (arith, is.within k l, length-append cells more);
  few = omega (arith, few, length-append cells more);
}

pub IsNarrow-other : (cells : List ℤ) (places : List ℕ) (values : List ℤ) (v : ℤ) →
    IsNarrow cells places values → length cells < 4294967296 →
    IsNarrow (cells ++ negsuc 32767 ∷ []) (places ++ length cells ∷ []) (values ++ v ∷ [])
IsNarrow-other cells places values v is few =
    let n = length cells in
    let long : length (places ++ n ∷ []) ≡ length places + 1 = length_push places n in
    let more : length (cells ++ negsuc 32767 ∷ []) ≡ n + 1 = length_push cells (negsuc 32767) in
    let before = λ (k : ℕ) (l : k < length places). get_or_append_left places (n ∷ []) 0 k l in
    record {
      paired =
          long ∙ ap (λ m. m + 1) is.paired ∙ sym (length_push values v);
      ascend = λ i j less l.
          elim (cases_lt j (length places)) [
            | inl inside ↦
                omega (
                  arith,
                  is.ascend i j less inside,
                  before i (omega (arith, less, inside)),
                  before j inside,
                )
            | inr past ↦
                let last : j ≡ length places = omega (arith, l, long, past) in
                let inside : i < length places = omega (arith, less, last) in
                omega (
                  arith,
                  is.within i inside,
                  before i inside,
                  get_or_push places n 0 j (sym last),
                )
          ];
      within = λ k l.
          elim (cases_lt k (length places)) [
            | inl inside ↦ omega (arith, is.within k inside, before k inside, more)
            | inr past ↦
                let last : k ≡ length places = omega (arith, l, long, past) in
                omega (arith, get_or_push places n 0 k (sym last), more)
          ];
      few = omega (arith, few, more);
    }

-- places that climb are at least their numbers
climbs : (places : List ℕ) →
    ((i j : ℕ) → i < j → j < length places → get_or places i 0 < get_or places j 0) → (k : ℕ) →
    k < length places → k ≤ get_or places k 0
climbs places up zero l = omega arith
climbs places up (suc k) l =
    omega (arith, climbs places up k (omega (arith, l)), up k (suc k) (omega arith) l)

-- no more integers stand elsewhere than there are
pub places-few : (cells : List ℤ) (places : List ℕ) (values : List ℤ) →
    IsNarrow cells places values → length places ≤ length cells
places-few cells places values is =
    elim (cases_lt 0 (length places)) [
      | inl some ↦
          let last : length places - 1 < length places = omega (arith, some) in
          omega (
            arith,
            climbs places is.ascend (length places - 1) last,
            is.within (length places - 1) last,
          )
      | inr none ↦ omega (arith, none)
    ]
