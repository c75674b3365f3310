-- The parts of a set after one more trace, after one more row, and after rows of another set.
use Rattle.std.proofs.Common.{ℕ, zero, suc, ◌≡◌, ◌+◌, ◌*◌, ◌/◌, ◌%◌, ◌<◌, ◌≤◌, ◌==◌}
use Rattle.std.proofs.Common.{List, [], ◌∷◌, ◌++◌, ℤ, pos, length, map, get_or, set, take, drop}
use Rattle.std.proofs.Common.{refl}
use Rattle.std.proofs.Common.{sym, ap, ap₂, ◌∙◌, subst, arith, length-drop, length-set}
use Rattle.std.proofs.lemmas.List.{append-nil, append_assoc, set-set, set-get_or, length_push}
use Rattle.std.proofs.lemmas.List.{length-take-le, get_or-take, get_or-drop, length-map}
use Rattle.std.proofs.lemmas.List.Elements.{All-head, All-tail}
use Rattle.std.proofs.lemmas.List.FromFn.{length-map-range_with_len}
use Rattle.std.proofs.lemmas.List.FromFn.{map-range_with_len_more}
use Rattle.std.proofs.lemmas.List.Sums.{sum_by_push}
use Rattle.std.proofs.Math.Nat.{mul-le-mul_right}
use Rattle.std.specs.Int.{bit_at}
use Rattle.std.specs.List.{All, Contains, range_with_len}
use Rattle.lb_syntax.specs.declared.tree.Kind.{Kind}
use Rattle.lb_static.specs.Signature.{Elements, kinds_of}
use Rattle.lb_traces.specs.Traces.{Row, Trace, Traces, Recording, IsRow, IsTraceName, HasRoom}
use Rattle.lb_traces.specs.Traces.{HasRoomFor, trace_names, instants_of, cells_of_instant}
use Rattle.lb_traces.specs.Traces.{last_rows, with_row, with_rows, with_trace}
use Rattle.lb_traces.specs.Ledger.{place, last_place}
use Rattle.lb_traces.specs.Stored.{stored, IsStored}
use Rattle.lb_traces.specs.Packed.{truth_columns, number_columns, bit_in, truth_in}
use Rattle.lb_traces.specs.Packed.{ArePacked, HasPushed, numbers_in, numbers_of, words_of, nth_row}
use Rattle.lb_traces.specs.Packed.{cells_held, cells_of, AreFilled, IsSet}
use Rattle.lb_traces.proofs.Ledgers.{last_place-push, last_place-set}
use Rattle.lb_traces.proofs.Recordings.{Front, front_of, with_row-push, last_rows-push}
use Rattle.lb_traces.proofs.Storing.{length-row, start_keeps, start_adds, push_keeps, push_adds}
use Rattle.lb_traces.proofs.PackedRows.{no_truth}
use Rattle.lb_traces.proofs.KindColumns.{truths_within, numbers_within}
use Rattle.lb_traces.proofs.HeldRows.{length-kinds, same_held, row_come, row_kept, same_cells}
use Rattle.lb_traces.proofs.HeldRows.{cells_more, filled_more, row_pushed}

-- ## One more row

-- the cells of a set after one more row, and the filling of its integers and words
pub record OneMore (elements : Elements) (numbers : List ℤ) (words ends integers : List ℕ)
    (row : Row) (new : List ℕ) (rows : ℕ) : Type 0 where
  pub cells :
      cells_held (kinds_of elements) (numbers ++ numbers_in row integers) new rows
      ≡ cells_of elements numbers words ends ++ row
  pub filled : AreFilled (kinds_of elements) rows (numbers ++ numbers_in row integers) new

pub one_more :
    (elements : Elements) (names : List (List ℕ)) (numbers : List ℤ)
    (words ends integers truths places : List ℕ) (row : Row) (new : List ℕ) (rows : ℕ) →
    IsSet elements names numbers words ends integers truths places → IsRow elements row →
    HasPushed words row truths new → rows ≡ last_place ends + 1 →
    OneMore elements numbers words ends integers row new rows
one_more elements names numbers words ends integers truths places row new rows is follows pushed
    count =
    let kinds = kinds_of elements in
    let last = last_place ends in
    let more = numbers_in row (number_columns 0 kinds) in
    let packed : ArePacked row (truth_columns 0 kinds) pushed.more =
    subst (λ ts. ArePacked row ts pushed.more) is.columns.truths_are pushed.packed in
    let long : length more ≡ 1 * numbers_of kinds =
    length-map (number_columns 0 kinds) (λ (j : ℕ). get_or row j (pos 0)) ∙ omega arith in
    let long_words : length pushed.more ≡ 1 * words_of kinds = packed.as_long ∙ omega arith in
    let filled : AreFilled kinds (last + 1) (numbers ++ more) (words ++ pushed.more) =
    filled_more kinds last numbers words is.filled more pushed.more 1 long long_words
    (λ r b l le lb.
    let none : r * words_of kinds ≡ 0 * words_of kinds =
    ap (λ x. x * words_of kinds) (omega (arith, l)) in
    let zero_is : 0 * words_of kinds ≡ 0 = omega arith in
    let inside : b / 64 < length pushed.more = omega (arith, lb, packed.as_long) in
    let small : b % 64 < 64 = omega arith in
    let whole : 64 * (b / 64) + b % 64 ≡ b = omega arith in
    ap (λ n. bit_in (drop n pushed.more) b) (none ∙ zero_is)
    ∙ packed.bits (b / 64) (b % 64) inside small
    ∙ ap (truth_in row (truth_columns 0 kinds)) whole
    ∙ no_truth row (truth_columns 0 kinds) b le) in
    let numbers_are : numbers ++ more ≡ numbers ++ numbers_in row integers =
    ap (λ xs. numbers ++ numbers_in row xs) (sym is.columns.integers_are) in
    let words_are : words ++ pushed.more ≡ new = sym pushed.is in
    record {
      cells =
          ap (λ ns. cells_held kinds ns new rows) (sym numbers_are)
          ∙ ap (λ ws. cells_held kinds (numbers ++ more) ws rows) (sym words_are)
          ∙ ap (cells_held kinds (numbers ++ more) (words ++ pushed.more)) count
          ∙ cells_more kinds last numbers more words pushed.more row is.filled
          (row_pushed elements row follows pushed.more packed);
      filled =
          subst (λ n. AreFilled kinds n (numbers ++ numbers_in row integers) new) (sym count)
          (subst (λ ws. AreFilled kinds (last + 1) (numbers ++ numbers_in row integers) ws)
          words_are
          (subst (λ ns. AreFilled kinds (last + 1) ns (words ++ pushed.more)) numbers_are filled));
    }

-- the columns of the integers lie within a row that follows the signature
pub integers_in :
    (old : Recording) (elements : Elements) (names : List (List ℕ)) (numbers : List ℤ)
    (words ends integers truths places : List ℕ) (row : Row) →
    stored elements names (cells_of elements numbers words ends) ends ≡ old →
    IsSet elements names numbers words ends integers truths places → IsRow old.signature row →
    All (λ j. j < length row) integers
integers_in old elements names numbers words ends integers truths places row view is follows =
    let long : length row ≡ length elements =
    length-row elements row (subst (λ (r : Recording). IsRow r.signature row) (sym view) follows) in
    subst (λ l. All (λ j. j < length row) l) (sym is.columns.integers_are)
    (λ k d h. omega (arith, numbers_within (kinds_of elements) k d h, long, length-kinds elements))

pub truths_in :
    (old : Recording) (elements : Elements) (names : List (List ℕ)) (numbers : List ℤ)
    (words ends integers truths places : List ℕ) (row : Row) →
    stored elements names (cells_of elements numbers words ends) ends ≡ old →
    IsSet elements names numbers words ends integers truths places → IsRow old.signature row →
    All (λ j. j < length row) truths
truths_in old elements names numbers words ends integers truths places row view is follows =
    let long : length row ≡ length elements =
    length-row elements row (subst (λ (r : Recording). IsRow r.signature row) (sym view) follows) in
    subst (λ l. All (λ j. j < length row) l) (sym is.columns.truths_are)
    (λ k d h. omega (arith, truths_within (kinds_of elements) k d h, long, length-kinds elements))

-- a set after a change
pub record Changed (elements : Elements) (names : List (List ℕ)) (numbers : List ℤ)
    (words ends integers truths places : List ℕ) (new : Recording) : Type 0 where
  pub is : IsSet elements names numbers words ends integers truths places
  pub view : stored elements names (cells_of elements numbers words ends) ends ≡ new

-- a set as it is
pub as_it_is :
    {elements : Elements} {names : List (List ℕ)} {numbers : List ℤ}
    {words ends integers truths places : List ℕ} {new : Recording} →
    IsSet elements names numbers words ends integers truths places →
    stored elements names (cells_of elements numbers words ends) ends ≡ new →
    Changed elements names numbers words ends integers truths places new
as_it_is is view = record { is = is; view = view }

-- a set whose parts are equal to those of a set after a change
pub changed_by :
    {elements : Elements} {names names' : List (List ℕ)} {numbers numbers' : List ℤ}
    {words words' ends ends' integers truths places : List ℕ} {new : Recording} →
    names' ≡ names → numbers' ≡ numbers → words' ≡ words → ends' ≡ ends →
    Changed elements names numbers words ends integers truths places new →
    Changed elements names' numbers' words' ends' integers truths places new
changed_by n u w e h = rw (n, u, w, e) h

-- a set with the parts of one more trace has that trace at the end
pub set_started :
    (old : Recording) (elements : Elements) (names : List (List ℕ)) (numbers : List ℤ)
    (words ends integers truths places : List ℕ) (name : List ℕ) (row : Row) (new : List ℕ) →
    stored elements names (cells_of elements numbers words ends) ends ≡ old →
    IsSet elements names numbers words ends integers truths places →
    IsTraceName name → ¬ (Contains (trace_names old.traces) name) → IsRow old.signature row →
    length old.traces < 1000000 → HasRoom old → HasPushed words row truths new →
    Changed elements (names ++ name ∷ []) (numbers ++ numbers_in row integers) new
    (ends ++ (last_place ends + 1) ∷ []) integers truths places
    (record { signature = old.signature; traces = with_trace old.traces name row })
set_started old elements names numbers words ends integers truths places name row new view is named
    fresh follows count room pushed =
    let follows' : IsRow elements row =
    subst (λ (r : Recording). IsRow r.signature row) (sym view) follows in
    let cells = cells_of elements numbers words ends in
    let ends' = ends ++ (last_place ends + 1) ∷ [] in
    let more = one_more elements names numbers words ends integers truths places row new
    (last_place ends') is follows' pushed (last_place-push ends (last_place ends + 1)) in
    record {
      is = record {
        parts =
            subst (λ cs. IsStored elements (names ++ name ∷ []) cs ends') (sym more.cells)
            (start_keeps old elements names cells ends name row view is.parts named fresh follows
            count room);
        columns = is.columns;
        filled = more.filled;
      };
      view =
          ap (λ cs. stored elements (names ++ name ∷ []) cs ends') more.cells
          ∙ start_adds old elements names cells ends name row view is.parts follows;
    }

-- a set with the parts of one more row has that row at the end of the last trace
pub set_pushed :
    (old : Recording) (elements : Elements) (names : List (List ℕ)) (numbers : List ℤ)
    (words ends integers truths places : List ℕ) (row : Row) (last : ℕ) (new : List ℕ) →
    stored elements names (cells_of elements numbers words ends) ends ≡ old →
    IsSet elements names numbers words ends integers truths places →
    0 < length old.traces → IsRow old.signature row → length (last_rows old.traces) < 1000000 →
    HasRoom old → last + 1 ≡ length ends → HasPushed words row truths new →
    Changed elements names (numbers ++ numbers_in row integers) new
    (set ends last (last_place ends + 1)) integers truths places
    (record { signature = old.signature; traces = with_row old.traces row })
set_pushed old elements names numbers words ends integers truths places row last new view is some
    follows instants room at_end pushed =
    let follows' : IsRow elements row =
    subst (λ (r : Recording). IsRow r.signature row) (sym view) follows in
    let cells = cells_of elements numbers words ends in
    let ends' = set ends last (last_place ends + 1) in
    let more = one_more elements names numbers words ends integers truths places row new
    (last_place ends') is follows' pushed (last_place-set ends last (last_place ends + 1) at_end) in
    record {
      is = record {
        parts =
            subst (λ cs. IsStored elements names cs ends') (sym more.cells)
            (push_keeps old elements names cells ends row last view is.parts some follows instants
            room at_end);
        columns = is.columns;
        filled = more.filled;
      };
      view =
          ap (λ cs. stored elements names cs ends') more.cells
          ∙ push_adds old elements names cells ends row last view is.parts some follows at_end;
    }

-- ## More rows at once

-- the cells of rows, one after the other
abbrev joined : List Row → List ℤ
joined [] = []
joined (row ∷ rows) = row ++ joined rows

joined_push : (rows : List Row) (row : Row) → joined (rows ++ row ∷ []) ≡ joined rows ++ row
joined_push [] row = append-nil row
joined_push (first ∷ rows) row =
    ap (λ l. first ++ l) (joined_push rows row) ∙ sym (append_assoc first (joined rows) row)

with_no_rows : (traces : Traces) → with_rows traces [] ≡ traces
with_no_rows [] = refl
with_no_rows (t ∷ []) = ap (λ rows. (t.0, rows) ∷ []) (append-nil t.1)
with_no_rows (t ∷ u ∷ more) = ap (λ r. t ∷ r) (with_no_rows (u ∷ more))

with_rows_after : (traces : Traces) (row : Row) (rows : List Row) →
    with_rows (with_row traces row) rows ≡ with_rows traces (row ∷ rows)
with_rows_after [] row rows = refl
with_rows_after (t ∷ []) row rows =
    ap (λ all. (t.0, all) ∷ []) (append_assoc t.1 (row ∷ []) rows)
with_rows_after (t ∷ u ∷ []) row rows = ap (λ r. t ∷ r) (with_rows_after (u ∷ []) row rows)
with_rows_after (t ∷ u ∷ v ∷ more) row rows =
    ap (λ r. t ∷ r) (with_rows_after (u ∷ v ∷ more) row rows)

-- the counts after one more row of the last trace
record Grows (traces : Traces) (row : Row) : Type 0 where
  pub count : length (with_row traces row) ≡ length traces
  pub last : length (last_rows (with_row traces row)) ≡ length (last_rows traces) + 1
  pub instants : instants_of (with_row traces row) ≡ instants_of traces + 1

grows : (traces : Traces) (row : Row) → 0 < length traces → Grows traces row
grows traces row some =
    let f : Front traces = front_of traces some in
    let t' : Trace = (f.last.0, f.last.1 ++ row ∷ []) in
    let instants_in : Trace → ℕ = λ t. length t.1 in
    let new_is : with_row traces row ≡ f.front ++ t' ∷ [] =
    ap (λ ts. with_row ts row) f.is ∙ with_row-push f.front f.last row in
    let long : length t'.1 ≡ length f.last.1 + 1 = length_push f.last.1 row in
    record {
      count =
          ap length new_is ∙ length_push f.front t' ∙ sym (length_push f.front f.last)
          ∙ ap length (sym f.is);
      last =
          ap (λ ts. length (last_rows ts)) new_is ∙ ap length (last_rows-push f.front t') ∙ long
          ∙ ap (λ rows. length rows + 1)
          (sym (ap last_rows f.is ∙ last_rows-push f.front f.last));
      instants =
          ap instants_of new_is ∙ sum_by_push instants_in f.front t'
          ∙ ap (λ n. instants_of f.front + n) long
          ∙ (let e : instants_of f.front + (length f.last.1 + 1)
          ≡ instants_of f.front + length f.last.1 + 1 = omega arith in e)
          ∙ ap (λ n. n + 1) (sym (ap instants_of f.is ∙ sum_by_push instants_in f.front f.last));
    }

-- the cells and the places after the rows `rows` of the last trace
record Added (old : Recording) (elements : Elements) (names : List (List ℕ)) (cells : List ℤ)
    (ends : List ℕ) (last : ℕ) (rows : List Row) : Type 0 where
  pub keeps :
      IsStored elements names (cells ++ joined rows)
      (set ends last (last_place ends + length rows))
  pub adds :
      stored elements names (cells ++ joined rows)
      (set ends last (last_place ends + length rows))
      ≡ record { signature = old.signature; traces = with_rows old.traces rows }

rows_added :
    (rows : List Row) (old : Recording) (elements : Elements) (names : List (List ℕ))
    (cells : List ℤ) (ends : List ℕ) (last : ℕ) →
    stored elements names cells ends ≡ old → IsStored elements names cells ends →
    0 < length old.traces → All (IsRow old.signature) rows →
    length (last_rows old.traces) + length rows ≤ 1000000 → HasRoomFor old (length rows) →
    last + 1 ≡ length ends → Added old elements names cells ends last rows
rows_added [] old elements names cells ends last view is some follows instants room at_end =
    let whole : Traces → Recording = λ traces. record
    { signature = old.signature; traces = traces } in
    let same_last : last_place ends + 0 ≡ place ends last =
    (let e : last_place ends + 0 ≡ last_place ends = omega arith in e)
    ∙ ap (place ends) (omega (arith, at_end)) in
    let same : cells ++ [] ≡ cells = append-nil cells in
    let same_ends : set ends last (last_place ends + 0) ≡ ends =
    ap (set ends last) same_last ∙ set-get_or ends last 0 in
    record {
      keeps =
          subst (λ cs. IsStored elements names cs (set ends last (last_place ends + 0))) (sym same)
          (subst (λ es. IsStored elements names cells es) (sym same_ends) is);
      adds =
          ap₂ (λ cs es. stored elements names cs es) same same_ends ∙ view
          ∙ ap whole (sym (with_no_rows old.traces));
    }
rows_added (row ∷ rows) old elements names cells ends last view is some follows instants room
    at_end =
    let whole : Traces → Recording = λ traces. record
    { signature = old.signature; traces = traces } in
    let head : IsRow old.signature row = All-head (IsRow old.signature) row rows follows in
    let least : (instants_of old.traces + 1) * cells_of_instant old.signature
    ≤ (instants_of old.traces + length (row ∷ rows)) * cells_of_instant old.signature =
    mul-le-mul_right (cells_of_instant old.signature) (omega arith) in
    let one : HasRoom old = omega (arith, least, room) in
    let below : length (last_rows old.traces) < 1000000 = omega (arith, instants) in
    let kept =
    push_keeps old elements names cells ends row last view is some head below one at_end in
    let added = push_adds old elements names cells ends row last view is some head at_end in
    let g = grows old.traces row some in
    let ends' = set ends last (last_place ends + 1) in
    let last_is : last_place ends' ≡ last_place ends + 1 =
    last_place-set ends last (last_place ends + 1) at_end in
    let rest_room : HasRoomFor (whole (with_row old.traces row)) (length rows) =
    subst (λ n. n * cells_of_instant old.signature ≤ 67108864)
    (let e : instants_of old.traces + length (row ∷ rows)
    ≡ instants_of (with_row old.traces row) + length rows = omega (arith, g.instants) in e) room in
    let h : Added (whole (with_row old.traces row)) elements names (cells ++ row) ends' last rows =
    rows_added rows (whole (with_row old.traces row)) elements names (cells ++ row) ends' last added
    kept (omega (arith, g.count, some)) (All-tail (IsRow old.signature) row rows follows)
    (omega (arith, g.last, instants)) rest_room
    (at_end ∙ sym (length-set ends last (last_place ends + 1))) in
    let cells_are : (cells ++ row) ++ joined rows ≡ cells ++ (row ++ joined rows) =
    append_assoc cells row (joined rows) in
    let ends_are : set ends' last (last_place ends' + length rows)
    ≡ set ends last (last_place ends + length (row ∷ rows)) =
    set-set ends last (last_place ends + 1) (last_place ends' + length rows)
    ∙ ap (set ends last) (omega (arith, last_is)) in
    record {
      keeps =
          subst
          (λ cs.
          IsStored elements names cs (set ends last (last_place ends + length (row ∷ rows))))
          cells_are
          (subst (λ es. IsStored elements names ((cells ++ row) ++ joined rows) es) ends_are
          h.keeps);
      adds =
          sym (ap₂ (λ cs es. stored elements names cs es) cells_are ends_are)
          ∙ h.adds ∙ ap whole (with_rows_after old.traces row rows);
    }

-- the cells after `n` more rows are the old ones and then those of the rows `f`
cells_further :
    (kinds : List Kind) (numbers : List ℤ) (words : List ℕ) (rows : ℕ) (old : List ℤ)
    (f : ℕ → Row) (first : ℕ) → cells_held kinds numbers words rows ≡ old → (n : ℕ) →
    ((j : ℕ) → j < n → nth_row kinds numbers words (rows + j) ≡ f (first + j)) →
    cells_held kinds numbers words (rows + n) ≡ old ++ joined (map f (range_with_len first n))
cells_further kinds numbers words rows old f first is zero each =
    ap (cells_held kinds numbers words) (let e : rows + 0 ≡ rows = omega arith in e)
    ∙ is ∙ sym (append-nil old)
cells_further kinds numbers words rows old f first is (suc n) each =
    let before = map f (range_with_len first n) in
    let next : rows + suc n ≡ suc (rows + n) = omega arith in
    let up : n + 1 ≡ suc n = omega arith in
    let more : map f (range_with_len first (suc n)) ≡ before ++ f (first + n) ∷ [] =
    ap (λ m. map f (range_with_len first m)) (sym up)
    ∙ map-range_with_len_more f first n (first + n) refl in
    ap (cells_held kinds numbers words) next
    ∙ ap₂ (λ a b. a ++ b)
    (cells_further _ _ _ _ _ _ _ is n (λ j l. each j (omega (arith, l)))) (each n (omega arith))
    ∙ append_assoc old (joined before) (f (first + n))
    ∙ ap (λ l. old ++ l) (sym (joined_push before (f (first + n))))
    ∙ ap (λ rs. old ++ joined rs) (sym more)

-- place `p` of row `j` of a part of `xs` is place `p` of row `first + j` of `xs`
taken_at :
    {A : Type 0} (xs : List A) (width first n j p : ℕ) (d : A) → j < n → p < width →
    get_or (drop (j * width) (take (n * width) (drop (first * width) xs))) p d
    ≡ get_or (drop ((first + j) * width) xs) p d
taken_at xs width first n j p d l lp =
    let most : (j + 1) * width ≤ n * width = mul-le-mul_right width (omega (arith, l)) in
    let inside : j * width + p < n * width = omega (arith, most, lp) in
    let there : first * width + (j * width + p) ≡ (first + j) * width + p = omega arith in
    get_or-drop (j * width) (take (n * width) (drop (first * width) xs)) p d
    ∙ get_or-take (n * width) (drop (first * width) xs) (j * width + p) d inside
    ∙ get_or-drop (first * width) xs (j * width + p) d
    ∙ ap (λ k. get_or xs k d) there
    ∙ sym (get_or-drop ((first + j) * width) xs p d)

-- the length of a part of `n` rows is `n * width`
pub length-taken :
    {A : Type 0} (xs : List A) (width first n rows : ℕ) → length xs ≡ rows * width →
    first + n ≤ rows → length (take (n * width) (drop (first * width) xs)) ≡ n * width
length-taken xs width first n rows long fits =
    let most : (first + n) * width ≤ rows * width = mul-le-mul_right width fits in
    length-take-le (n * width) (drop (first * width) xs)
    (omega (arith, most, long, length-drop (first * width) xs))

-- rows of another set at the end
module _ (old : Recording) (elements : Elements) (names : List (List ℕ)) (numbers : List ℤ)
    (words ends integers truths places : List ℕ) (last : ℕ)
    (view : stored elements names (cells_of elements numbers words ends) ends ≡ old)
    (is : IsSet elements names numbers words ends integers truths places)
    (from : List ℤ) (from_words : List ℕ) (rows first n : ℕ)
    (h : AreFilled (kinds_of elements) rows from from_words) (fits : first + n ≤ rows)
    (some : 0 < length old.traces) (at_end : last + 1 ≡ length ends) where
  abbrev kinds : List Kind
  kinds = kinds_of elements

  abbrev more : List ℤ
  more = take (n * numbers_of (kinds_of elements))
      (drop (first * numbers_of (kinds_of elements)) from)

  abbrev more_words : List ℕ
  more_words =
      take (n * words_of (kinds_of elements))
      (drop (first * words_of (kinds_of elements)) from_words)

  abbrev given : List Row
  given = map (nth_row (kinds_of elements) from from_words) (range_with_len first n)

  row_taken : (j : ℕ) → j < n →
      nth_row kinds more more_words j ≡ nth_row kinds from from_words (first + j)
  row_taken j l =
      same_held _ _ _ _ _ (λ p lp. taken_at from (numbers_of kinds) first n j p (pos 0) l lp)
      (λ g lg. taken_at from_words (words_of kinds) first n j g 0 l lg)

  filled : AreFilled kinds (last_place ends + n) (numbers ++ more) (words ++ more_words)
  filled =
      filled_more kinds (last_place ends) numbers words is.filled more more_words n
      (length-taken from (numbers_of kinds) first n rows h.numbers_long fits)
      (length-taken from_words (words_of kinds) first n rows h.words_long fits)
      (λ r b l le lb.
      let g : b / 64 < words_of kinds = omega (arith, lb) in
      ap (λ x. bit_at x (b % 64) == 1)
      (taken_at from_words (words_of kinds) first n r (b / 64) 0 l g)
      ∙ h.past (first + r) b (omega (arith, l, fits)) le lb)

  cells_are :
      cells_held kinds (numbers ++ more) (words ++ more_words) (last_place ends + n)
      ≡ cells_of elements numbers words ends ++ joined given
  cells_are =
      cells_further kinds (numbers ++ more) (words ++ more_words) (last_place ends)
      (cells_of elements numbers words ends) (nth_row kinds from from_words) first
      (same_cells kinds (numbers ++ more) numbers (words ++ more_words) words (last_place ends)
      (row_kept kinds (last_place ends) numbers words is.filled more more_words))
      n
      (λ j l.
      row_come kinds (last_place ends) numbers words is.filled more more_words j ∙ row_taken j l)

  pub set_extended :
      All (IsRow old.signature) given → length (last_rows old.traces) + length given ≤ 1000000 →
      HasRoomFor old (length given) →
      Changed elements names (numbers ++ more) (words ++ more_words)
      (set ends last (last_place ends + n)) integers truths places
      (record { signature = old.signature; traces = with_rows old.traces given })
  set_extended follows instants room =
      let long : length given ≡ n =
      length-map-range_with_len (nth_row kinds from from_words) first n in
      let cells = cells_of elements numbers words ends in
      let ends' = set ends last (last_place ends + n) in
      let last_is : last_place ends' ≡ last_place ends + n =
      last_place-set _ _ _ at_end in
      let all : cells_held kinds (numbers ++ more) (words ++ more_words) (last_place ends')
      ≡ cells ++ joined given =
      ap (cells_held kinds (numbers ++ more) (words ++ more_words)) last_is ∙ cells_are in
      let added = rows_added _ _ _ _ _ _ _ view is.parts some follows instants room at_end in
      let same : set ends last (last_place ends + length given) ≡ ends' =
      ap (λ m. set ends last (last_place ends + m)) long in
      record {
        is = record {
          parts =
              subst (λ cs. IsStored elements names cs ends') (sym all)
              (subst (λ es. IsStored elements names (cells ++ joined given) es) same added.keeps);
          columns = is.columns;
          filled =
              subst (λ m. AreFilled kinds m (numbers ++ more) (words ++ more_words)) (sym last_is)
              filled;
        };
        view =
            ap (λ cs. stored elements names cs ends') all
            ∙ ap (λ es. stored elements names (cells ++ joined given) es) (sym same)
            ∙ added.adds;
      }
