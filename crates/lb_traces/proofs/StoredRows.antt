-- Rows that lie one after the other: each row, and all traces after one more row.
use Rattle.std.proofs.Common.{ℕ, zero, suc, ◌≡◌, ◌+◌, ◌-◌, ◌*◌, ◌<◌, ◌≤◌, List, [], ◌∷◌, ◌++◌}
use Rattle.std.proofs.Common.{length, map, get_or, set, take, drop, refl, sym, ap, ◌∙◌, ℤ, arith}
use Rattle.std.proofs.Common.{length-append, length-drop, length-set, get_or-set_same}
use Rattle.std.proofs.lemmas.List.{get_or_append_left, get_or_push, length_push, drop_at, take_all}
use Rattle.std.proofs.lemmas.List.{take-append-le, drop-append-le, same_lists}
use Rattle.std.proofs.lemmas.List.FromFn.{length-map-range_with_len, get_or-map-range_with_len}
use Rattle.std.proofs.lemmas.List.FromFn.{map-range_with_len_more, sum_by-map-range_with_len_more}
use Rattle.std.proofs.Math.Nat.{mul-le-mul_right}
use Rattle.std.specs.List.{range_with_len}
use Rattle.lb_traces.specs.Traces.{Row, Trace, trace_at, with_row, with_trace, instants_of}
use Rattle.lb_traces.specs.Ledger.{IsLedger, place, last_place}
use Rattle.lb_traces.specs.Stored.{row_of, rows_between, stored_traces, AreRows}
use Rattle.lb_traces.proofs.Ledgers.{IsLedger-push, last_place-push, place-push_before}
use Rattle.lb_traces.proofs.Ledgers.{place-le-last, map-range-agree, place-set_before}
use Rattle.lb_traces.proofs.Ledgers.{last_place-set, IsLedger-set}
use Rattle.lb_traces.proofs.Recordings.{with_row-push}

-- a row before row `last` ends at most where row `last` begins
pub row_within : (width r last : ℕ) → r < last → r * width + width ≤ last * width
row_within width r last below = let h : (r + 1) * width ≤ last * width =
    mul-le-mul_right width (omega arith) in omega (arith, h)

-- a row stays the same when cells are appended
pub row_of-append : (width : ℕ) (cells more : List ℤ) (r : ℕ) → r * width + width ≤ length cells
    → row_of width (cells ++ more) r ≡ row_of width cells r
row_of-append width cells more r within =
    ap (take width) (drop-append-le (r * width) cells more (omega arith))
    ∙ take-append-le width (drop (r * width) cells) more
    (omega (arith, length-drop (r * width) cells))

-- the row behind the old cells is the row that was appended
pub row_of-grown : (width : ℕ) (cells row : List ℤ) (r : ℕ) → r * width ≡ length cells →
    length row ≡ width
    → row_of width (cells ++ row) r ≡ row
row_of-grown width cells row r is_end full =
    ap (take width) (drop_at cells row (r * width) (sym is_end)) ∙ take_all width row (omega arith)

pub rows_between-append : (width : ℕ) (cells more : List ℤ) (from to : ℕ) →
    to * width ≤ length cells
    → rows_between width (cells ++ more) from to ≡ rows_between width cells from to
rows_between-append width cells more from to within =
    same_lists (rows_between width (cells ++ more) from to) (rows_between width cells from to)
    (length-map-range_with_len (row_of width (cells ++ more)) from (to - from)
    ∙ sym (length-map-range_with_len (row_of width cells) from (to - from)))
    (λ k d below.
    let count : length (rows_between width (cells ++ more) from to) ≡ to - from =
    length-map-range_with_len (row_of width (cells ++ more)) from (to - from) in
    get_or-map-range_with_len (row_of width (cells ++ more)) from (to - from) k (from + k) d
    (omega arith) (omega arith)
    ∙ row_of-append width cells more (from + k) (omega
    (arith, row_within width (from + k) to (omega arith)))
    ∙ sym (get_or-map-range_with_len (row_of width cells) from (to - from) k (from + k) d
    (omega arith) (omega arith)))

-- the rows up to one more are the rows before, and then the row that was appended
pub rows_between-more : (width : ℕ) (cells row : List ℤ) (from to : ℕ) → from ≤ to →
    to * width ≡ length cells → length row ≡ width
    → rows_between width (cells ++ row) from (to + 1) ≡ rows_between width cells from to ++ row ∷ []
rows_between-more width cells row from to order is_end full =
    let n : (to + 1) - from ≡ (to - from) + 1 = omega arith in
    ap (λ m. map (row_of width (cells ++ row)) (range_with_len from m)) n
    ∙ map-range_with_len_more (row_of width (cells ++ row)) from (to - from) to (omega arith)
    ∙ ap (λ front. front ++ row_of width (cells ++ row) to ∷ [])
    (rows_between-append width cells row from to (omega arith))
    ∙ ap (λ last. rows_between width cells from to ++ last ∷ [])
    (row_of-grown width cells row to is_end full)

pub length-rows_between : (width : ℕ) (cells : List ℤ) (from to : ℕ) →
    length (rows_between width cells from to) ≡ to - from
length-rows_between width cells from to = length-map-range_with_len (row_of width cells) from
    (to - from)

-- trace `k` has name `k`, and the rows between the places `k` and `k + 1`
pub trace_at-stored : (width : ℕ) (names : List (List ℕ)) (cells : List ℤ) (ends : List ℕ) (k : ℕ) →
    k < length names
    → trace_at (stored_traces width names cells ends) k
    ≡ (get_or names k [], rows_between width cells (place ends k) (place ends (k + 1)))
trace_at-stored width names cells ends k below =
    get_or-map-range_with_len (λ k. (
      get_or names k [],
      rows_between width cells (place ends k) (place ends (k + 1)),
    )) 0 (length names) k k ([], [])
    below (omega arith)

pub length-stored : (width : ℕ) (names : List (List ℕ)) (cells : List ℤ) (ends : List ℕ) →
    length (stored_traces width names cells ends) ≡ length names
length-stored width names cells ends =
    length-map-range_with_len (λ k. (
      get_or names k [],
      rows_between width cells (place ends k) (place ends (k + 1)),
    )) 0 (length names)

-- the first `n` traces have `place ends n` instants
instants-front : (width : ℕ) (names : List (List ℕ)) (cells : List ℤ) (ends : List ℕ) →
    IsLedger ends → (n : ℕ) → n < length ends
    → instants_of (map (λ k. (
      get_or names k [],
      rows_between width cells (place ends k)
          (place ends (k + 1)),
    )) (range_with_len 0 n)) ≡ place ends n
instants-front width names cells ends ledger zero below = sym ledger.first
instants-front width names cells ends ledger (suc m) below =
    let trace : ℕ → Trace = λ k. (
      get_or names k [],
      rows_between width cells (place ends k) (place ends (k + 1)),
    ) in
    let next : suc m ≡ m + 1 = omega arith in
    let before : instants_of (map trace (range_with_len 0 m)) ≡ place ends m =
    instants-front width names cells ends ledger m (omega arith) in
    let long : length (rows_between width cells (place ends m) (place ends (m + 1)))
    ≡ place ends (m + 1) - place ends m =
    length-rows_between width cells (place ends m) (place ends (m + 1)) in
    let climb : place ends m < place ends (m + 1) =
    ledger.climbs m (m + 1) (omega arith) (omega arith) in
    let instants_in : Trace → ℕ = λ t. length t.1 in
    let more : instants_of (map trace (range_with_len 0 (m + 1)))
    ≡ instants_of (map trace (range_with_len 0 m)) + instants_in (trace m) =
    sum_by-map-range_with_len_more instants_in trace 0 m m (omega arith) in
    ap (λ j. instants_of (map trace (range_with_len 0 j))) next ∙ more
    ∙ (let sum : instants_of (map trace (range_with_len 0 m)) + instants_in (trace m)
    ≡ place ends (m + 1) = omega arith in sum) ∙ ap (place ends) (sym next)

-- all traces have `last_place ends` instants
pub instants-stored : (width : ℕ) (names : List (List ℕ)) (cells : List ℤ) (ends : List ℕ) →
    AreRows width names cells ends
    → instants_of (stored_traces width names cells ends) ≡ last_place ends
instants-stored width names cells ends rows =
    instants-front width names cells ends rows.ledger (length names) (omega (arith, rows.paired))
    ∙ ap (place ends) (let n : length names ≡ length ends - 1 = omega (arith, rows.paired) in n)

-- the rows before place `k` end within the cells
ends_within : (width : ℕ) (names : List (List ℕ)) (cells : List ℤ) (ends : List ℕ) →
    AreRows width names cells ends
    → (k : ℕ) → k < length ends → place ends k * width ≤ length cells
ends_within width names cells ends rows k below =
    let most : place ends k ≤ last_place ends = place-le-last ends rows.ledger k below in
    let product : place ends k * width ≤ last_place ends * width = mul-le-mul_right width most in
    omega (arith, rows.all, product)

-- names, cells and places with one more trace hold that trace at the end
pub stored-trace : (width : ℕ) (names : List (List ℕ)) (cells : List ℤ) (ends : List ℕ)
    (name : List ℕ) (row : Row)
    → AreRows width names cells ends → length row ≡ width
    → stored_traces width (names ++ name ∷ []) (cells ++ row) (ends ++ (last_place ends + 1) ∷ [])
    ≡ with_trace (stored_traces width names cells ends) name row
stored-trace width names cells ends name row rows full =
    let n : ℕ = length names in
    let end : ℕ = last_place ends in
    let more_names : List (List ℕ) = names ++ name ∷ [] in
    let more_cells : List ℤ = cells ++ row in
    let more_ends : List ℕ = ends ++ (last_place ends + 1) ∷ [] in
    let paired : length ends ≡ length names + 1 = rows.paired in
    let old : ℕ → Trace = λ k. (
      get_or names k [],
      rows_between width cells (place ends k) (place ends (k + 1)),
    ) in
    let new : ℕ → Trace = λ k. (
      get_or more_names k [],
      rows_between width more_cells (place more_ends k) (place more_ends (k + 1)),
    ) in
    let from_is : place more_ends n ≡ end = place-push_before ends (end + 1) n (omega arith)
    ∙ ap (place ends) (omega arith) in
    let to_is : place more_ends (n + 1) ≡ end + 1 = get_or_push ends (end + 1) 0 (n + 1) paired in
    let last_is : new n ≡ (name, row ∷ []) =
    ap (λ x. (x, rows_between width more_cells (place more_ends n) (place more_ends (n + 1))))
    (get_or_push names name [] n refl)
    ∙ ap (λ a. (name, rows_between width more_cells a (place more_ends (n + 1)))) from_is
    ∙ ap (λ b. (name, rows_between width more_cells end b)) to_is
    ∙ ap (λ x. (name, x)) (rows_between-more _ _ _ _ _ (omega arith) rows.all full)
    ∙ ap (λ m. (name, map (row_of width cells) (range_with_len end m) ++ row ∷ []))
    (let none : end - end ≡ 0 = omega arith in none) in
    ap (λ m. map new (range_with_len 0 m)) (length_push names name)
    ∙ map-range_with_len_more new 0 n n (omega arith)
    ∙ ap (λ front. front ++ new n ∷ []) (map-range-agree new old n ([], [])
    (λ k below.
    ap (λ x. (x, rows_between width more_cells (place more_ends k) (place more_ends (k + 1))))
    (get_or_append_left names (name ∷ []) [] k below)
    ∙ ap (λ a. (get_or names k [], rows_between width more_cells a (place more_ends (k + 1))))
    (place-push_before ends (end + 1) k (omega arith))
    ∙ ap (λ b. (get_or names k [], rows_between width more_cells (place ends k) b))
    (place-push_before ends (end + 1) (k + 1) (omega arith))
    ∙ ap (λ x. (get_or names k [], x)) (rows_between-append _ _ _ _ _
    (ends_within width names cells ends rows (k + 1) (omega arith)))))
    ∙ ap (λ t. stored_traces width names cells ends ++ t ∷ []) last_is

-- cells and places with one more row hold that row at the end of the last trace
pub stored-row : (width : ℕ) (names : List (List ℕ)) (cells : List ℤ) (ends : List ℕ) (row : Row)
    (n : ℕ)
    → AreRows width names cells ends → length row ≡ width → length names ≡ n + 1
    → stored_traces width names (cells ++ row) (set ends (n + 1) (last_place ends + 1))
    ≡ with_row (stored_traces width names cells ends) row
stored-row width names cells ends row n rows full some =
    let end : ℕ = last_place ends in
    let more_cells : List ℤ = cells ++ row in
    let more_ends : List ℕ = set ends (n + 1) (last_place ends + 1) in
    let paired : length ends ≡ length names + 1 = rows.paired in
    let old : ℕ → Trace = λ k. (
      get_or names k [],
      rows_between width cells (place ends k) (place ends (k + 1)),
    ) in
    let new : ℕ → Trace = λ k. (
      get_or names k [],
      rows_between width more_cells (place more_ends k) (place more_ends (k + 1)),
    ) in
    let end_is : place ends (n + 1) ≡ end = ap (place ends) (omega arith) in
    let climb : place ends n < place ends (n + 1) =
    rows.ledger.climbs n (n + 1) (omega arith) (omega arith) in
    let from_is : place more_ends n ≡ place ends n =
    place-set_before ends (n + 1) (end + 1) n (omega arith) in
    let to_is : place more_ends (n + 1) ≡ end + 1 =
    get_or-set_same ends (n + 1) (end + 1) 0 (omega arith) in
    let last_is : new n ≡ ((old n).0, (old n).1 ++ row ∷ []) =
    ap (λ a. (get_or names n [], rows_between width more_cells a (place more_ends (n + 1)))) from_is
    ∙ ap (λ b. (get_or names n [], rows_between width more_cells (place ends n) b)) to_is
    ∙ ap (λ x. (get_or names n [], x)) (rows_between-more width cells row (place ends n) end
    (omega arith) rows.all full)
    ∙ ap (λ b. (get_or names n [], rows_between width cells (place ends n) b ++ row ∷ []))
    (sym end_is) in
    ap (λ m. map new (range_with_len 0 m)) some
    ∙ map-range_with_len_more new 0 n n (omega arith)
    ∙ ap (λ front. front ++ new n ∷ []) (map-range-agree new old n ([], [])
    (λ k below.
    ap (λ a. (get_or names k [], rows_between width more_cells a (place more_ends (k + 1))))
    (place-set_before ends (n + 1) (end + 1) k (omega arith))
    ∙ ap (λ b. (get_or names k [], rows_between width more_cells (place ends k) b))
    (place-set_before ends (n + 1) (end + 1) (k + 1) (omega arith))
    ∙ ap (λ x. (get_or names k [], x)) (rows_between-append width cells row (place ends k)
    (place ends (k + 1))
    (ends_within width names cells ends rows (k + 1) (omega arith)))))
    ∙ ap (λ t. map old (range_with_len 0 n) ++ t ∷ []) last_is
    ∙ sym (with_row-push (map old (range_with_len 0 n)) (old n) row)
    ∙ ap (λ ts. with_row ts row) (sym (map-range_with_len_more old 0 n n (omega arith)))
    ∙ ap (λ m. with_row (map old (range_with_len 0 m)) row) (sym some)

-- the places part all rows after one more trace
pub AreRows-trace : (width : ℕ) (names : List (List ℕ)) (cells : List ℤ) (ends : List ℕ)
    (name : List ℕ) (row : Row)
    → AreRows width names cells ends → length row ≡ width →
    AreRows width (names ++ name ∷ []) (cells ++ row) (ends ++ (last_place ends + 1) ∷ [])
AreRows-trace width names cells ends name row rows full = record {
  ledger = IsLedger-push ends (last_place ends + 1) rows.ledger (omega arith);
  paired = omega (
    arith,
    length_push ends (last_place ends + 1),
    length_push names name,
    rows.paired,
  );
  all = ap (λ n. n * width) (last_place-push ends (last_place ends + 1))
      ∙ (let sum : (last_place ends + 1) * width ≡ length (cells ++ row) =
      omega (arith, length-append cells row, rows.all) in sum);
}

-- the places part all rows after one more row of the last trace
pub AreRows-row : (width : ℕ) (names : List (List ℕ)) (cells : List ℤ) (ends : List ℕ) (row : Row)
    (n : ℕ)
    → AreRows width names cells ends → length row ≡ width → length names ≡ n + 1
    → AreRows width names (cells ++ row) (set ends (n + 1) (last_place ends + 1))
AreRows-row width names cells ends row n rows full some = record {
  ledger = IsLedger-set ends (n + 1) (last_place ends + 1) rows.ledger (omega (arith, rows.paired))
      (omega arith) (omega arith);
  paired = length-set ends (n + 1) (last_place ends + 1) ∙ rows.paired;
  all = ap (λ m. m * width) (last_place-set ends (n + 1) (last_place ends + 1)
      (omega (arith, rows.paired)))
      ∙ (let sum : (last_place ends + 1) * width ≡ length (cells ++ row) =
      omega (arith, length-append cells row, rows.all) in sum);
}
