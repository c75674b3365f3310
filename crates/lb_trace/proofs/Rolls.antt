-- Traces behind those of a roll.
use Rattle.std.proofs.Common.{ℕ, suc, ◌≡◌, ◌≢◌, ◌+◌, ◌-◌, ◌*◌, ◌<◌, ◌≤◌, ◌==◌, Bool, true}
use Rattle.std.proofs.Common.{false}
use Rattle.std.proofs.Common.{List, [], ◌∷◌, ◌++◌, length, map, get_or, Ok, Err, refl}
use Rattle.std.proofs.Common.{sym, ap, ◌∙◌, subst, arith, inl, inr, ◌⊎◌, ⊎_elim, nat_lt}
use Rattle.std.proofs.Common.{eq-eqb, Some}
use Rattle.std.proofs.Common.{length-append}
use Rattle.std.proofs.lemmas.List.{get_or_at, get_or_default, length-map, length_push, map_push}
use Rattle.std.proofs.lemmas.List.Elements.{All-push}
use Rattle.std.proofs.lemmas.List.Quantifiers.{all_pairs_push}
use Rattle.std.proofs.lemmas.List.Sums.{sum_by-cons, sum_by_push}
use Rattle.std.specs.List.{AllPairs, AllZip, list_any}
use Rattle.std.specs.Str.{bytes_eq}
use Rattle.lb_static.specs.Signature.{Elements}
use Rattle.lb_traces.specs.Traces.{IsRecording, IsTrace, Row, Trace, Traces, cells_of_instant}
use Rattle.lb_traces.specs.Traces.{instants_of, last_rows, trace_names, with_row}
use Rattle.lb_traces.proofs.Recordings.{Front, front_of, last_rows-push, with_row-push}
use Rattle.lb_trace.specs.Refusals.{comes_back, has_room, is_last, is_trace_name, then_read}
use Rattle.lb_trace.specs.Refusals.{with_instant, with_record, with_records}
use Rattle.lb_trace.specs.Rolls.{lengths_of}
use Rattle.lb_trace.specs.Spelling.{Instant, Record, SpellsInstant, instants, row_of}
use Rattle.lb_trace.proofs.KnownNames.{names-any}
use Rattle.lb_trace.proofs.Names.{bytes_eq-same, comes_back-last, is_last-push}
use Rattle.lb_trace.proofs.Names.{is_trace_name-true}
use Rattle.lb_trace.proofs.Soundness.{Sound, none_contains, some_last, sound}
use Rattle.lb_trace.proofs.Steps.{good_record}

-- ## Names and lengths

-- whether the last one of some names is this name
last_is : List ℕ → List (List ℕ) → Bool
last_is q [] = false
last_is q (name ∷ []) = bytes_eq q name
last_is q (name ∷ other ∷ more) = last_is q (other ∷ more)

last_is-names : (q : List ℕ) (traces : Traces) → is_last q traces ≡ last_is q (trace_names traces)
unfolding last_is
last_is-names q [] = refl
last_is-names q (t ∷ []) = refl
last_is-names q (t ∷ u ∷ more) = last_is-names q (u ∷ more)

-- traces with the same names have the same last name
pub same_last : (q : List ℕ) (a b : Traces) → trace_names a ≡ trace_names b
    → is_last q a ≡ is_last q b
same_last q a b same =
    last_is-names q a ∙ ap (last_is q) same ∙ sym (last_is-names q b)

-- traces with the same names have, or lack, the same name
pub same_any : (q : List ℕ) (a b : Traces) → trace_names a ≡ trace_names b
    → list_any (λ t. bytes_eq q t.0) a ≡ list_any (λ t. bytes_eq q t.0) b
same_any q a b same =
    sym (names-any (bytes_eq q) a) ∙ ap (list_any (bytes_eq q)) same ∙ names-any (bytes_eq q) b

pub same_count : (a b : Traces) → trace_names a ≡ trace_names b → length a ≡ length b
same_count a b same =
    sym (length-map a (λ (t : Trace). t.0)) ∙ ap length same ∙ length-map b (λ (t : Trace). t.0)

pub names_push : (traces : Traces) (t : Trace)
    → trace_names (traces ++ t ∷ []) ≡ trace_names traces ++ t.0 ∷ []
names_push traces t = map_push (λ (u : Trace). u.0) traces t

pub lengths_push : (traces : Traces) (t : Trace)
    → lengths_of (traces ++ t ∷ []) ≡ lengths_of traces ++ length t.1 ∷ []
lengths_push traces t = map_push (λ (u : Trace). length u.1) traces t

pub instants_push : (traces : Traces) (t : Trace)
    → instants_of (traces ++ t ∷ []) ≡ instants_of traces + length t.1
instants_push traces t = sum_by_push (λ (u : Trace). length u.1) traces t

-- the last length is that of the last trace
pub last_length : (traces : Traces) (d : ℕ) → 0 < length traces
    → get_or (lengths_of traces) (length (lengths_of traces) - 1) d ≡ length (last_rows traces)
last_length traces d some =
    let f : Front traces = front_of traces some in
    let count : Trace → ℕ = λ u. length u.1 in
    let all : lengths_of traces ≡ lengths_of f.front ++ length f.last.1 ∷ [] =
    ap lengths_of f.is ∙ lengths_push f.front f.last in
    let place : length (lengths_of f.front) ≡ length (lengths_of traces) - 1 =
    omega (arith, ap length all, length_push (lengths_of f.front) (length f.last.1)) in
    ap (λ ls. get_or ls (length (lengths_of traces) - 1) d) all
    ∙ get_or_at (lengths_of f.front) (length f.last.1) [] d (length (lengths_of traces) - 1) place
    ∙ ap length (sym (ap last_rows f.is ∙ last_rows-push f.front f.last))

-- the length of `instants` is `instants_of`
pub instants_count : (traces : Traces) → length (instants traces) ≡ instants_of traces
instants_count [] = refl
instants_count (t ∷ more) =
    let named : Row → Instant = λ row. (t.0, row) in
    omega (
      arith,
      length-append (map named t.1) (instants more),
      length-map t.1 named,
      instants_count more,
      sum_by-cons (λ (u : Trace). length u.1) t more,
    )

-- ## Lawful recordings

-- a lawful recording stays so with one more lawful trace whose name is new, within the limits
pub IsRecording-more : (elements : Elements) (traces : Traces) (t : Trace)
    → IsRecording record { signature = elements; traces = traces } → IsTrace elements t
    → list_any (λ u. bytes_eq t.0 u.0) traces ≡ false → length traces < 1000000
    → (instants_of traces + length t.1) * cells_of_instant elements ≤ 67108864
    → IsRecording record { signature = elements; traces = traces ++ t ∷ [] }
IsRecording-more elements traces t lawful is new count room = record {
  each = All-push (IsTrace elements) traces t lawful.each is;
  distinct = subst (λ names. AllPairs (λ a b. a ≢ b) names) (sym (names_push traces t))
      (all_pairs_push (λ a b. a ≢ b) (trace_names traces) t.0 lawful.distinct
      (λ k d below same. none_contains t.0 traces new (
        k,
        below,
        get_or_default (trace_names traces) k t.0 d below
            ∙ same,
      )));
  count = omega (arith, length_push traces t);
  cells = subst (λ n. n * cells_of_instant elements ≤ 67108864) (sym (instants_push traces t)) room;
}

-- ## Records of a trace

-- `with_instant` gives traces whose last one has the name that was added
last_added : (name : List ℕ) (row : Row) (traces : Traces)
    → is_last name (with_instant name row traces) ≡ true
last_added name row traces = by (is_last name traces) refl
  where
    by : (b : Bool) → is_last name traces ≡ b → is_last name (with_instant name row traces) ≡ true
    by false is = rw is (is_last-push name traces (name, row ∷ []) ∙ bytes_eq-same name)
    by true is =
        let f : Front traces = front_of traces (some_last name traces is) in
        let grown : with_row traces row ≡ f.front ++ (f.last.0, f.last.1 ++ row ∷ []) ∷ [] =
        ap (λ ts. with_row ts row) f.is ∙ with_row-push f.front f.last row in
        let same : bytes_eq name f.last.0 ≡ true =
        sym (is_last-push name f.front f.last) ∙ ap (is_last name) (sym f.is) ∙ is in
        rw is (ap (is_last name) grown
        ∙ is_last-push name f.front (f.last.0, f.last.1 ++ row ∷ []) ∙ same)

-- a record that spells an instant is refused with 18 where there is no room
no_room : (elements : Elements) (columns : Record) (traces : Traces) (r : Record)
    (instant : Instant)
    → SpellsInstant elements columns r instant → comes_back instant.0 traces ≡ false
    → has_room elements instant.0 traces ≡ false
    → with_record elements columns traces r ≡ Err 18
no_room elements columns traces [] instant spells back room = absurd spells
no_room elements columns traces (name ∷ cells) instant spells back room =
    let same : name ≡ instant.0 = spells.1 in
    let count : (length cells == length columns) ≡ true =
    eq-eqb (length cells) (length columns) spells.0 in
    let lawful : is_trace_name name ≡ true = is_trace_name-true name spells.2 in
    let stays : comes_back name traces ≡ false = ap (λ n. comes_back n traces) same ∙ back in
    let full : has_room elements name traces ≡ false =
    ap (λ n. has_room elements n traces) same ∙ room in
    let value : row_of elements columns cells ≡ Some instant.1 = spells.3 in
    rw (count, lawful, stays, value, full) refl

-- a record whose name comes back is refused with 17
pub comes_back_refused : (elements : Elements) (columns : Record) (traces : Traces) (r : Record)
    (instant : Instant) (more : List Record)
    → SpellsInstant elements columns r instant → comes_back instant.0 traces ≡ true
    → with_records elements columns traces (r ∷ more) ≡ Err 17
unfolding with_records
comes_back_refused elements columns traces [] instant more spells back = absurd spells
comes_back_refused elements columns traces (name ∷ cells) instant more spells back =
    let count : (length cells == length columns) ≡ true =
    eq-eqb (length cells) (length columns) spells.0 in
    let lawful : is_trace_name name ≡ true = is_trace_name-true name spells.2 in
    let again : comes_back name traces ≡ true = ap (λ n. comes_back n traces) spells.1 ∙ back in
    rw (count, lawful, again) refl

-- the records of a trace are read, or they are refused with 18
abbrev pub Fits : Elements → Record → Traces → List Record → Type 0
Fits elements columns traces records =
    ((after : Traces) × (with_records elements columns traces records ≡ Ok after))
    ⊎ (with_records elements columns traces records ≡ Err 18)

fits : (elements : Elements) (columns : Record) (before : Traces) (name : List ℕ)
    (rows : List Row) (records : List Record)
    → AllZip (SpellsInstant elements columns) records (map (λ row. (name, row)) rows)
    → comes_back name before ≡ false → Fits elements columns before records
unfolding with_records
fits elements columns before name [] [] spelled back = inl (before, refl)
fits elements columns before name [] (r ∷ records) spelled back = absurd spelled
fits elements columns before name (row ∷ rows) [] spelled back = absurd spelled
fits elements columns before name (row ∷ rows) (r ∷ records) spelled back =
    by (has_room elements name before) refl
    (fits elements columns (with_instant name row before) name rows records spelled.1
    (comes_back-last name (with_instant name row before) (last_added name row before)))
  where
    by : (b : Bool) → has_room elements name before ≡ b
        → Fits elements columns (with_instant name row before) records
        → Fits elements columns before (r ∷ records)
    by false room rest =
        let bad : with_record elements columns before r ≡ Err 18 =
        no_room elements columns before r (name, row) spelled.0 back room in
        inr (ap (then_read (λ further. with_records elements columns further records)) bad)
    by true room rest =
        let next : Traces = with_instant name row before in
        let good : with_record elements columns before r ≡ Ok next =
        good_record elements columns before r (name, row) spelled.0 back room in
        let all : with_records elements columns before (r ∷ records)
        ≡ with_records elements columns next records =
        ap (then_read (λ further. with_records elements columns further records)) good in
        ⊎_elim
        (λ (h : (after : Traces) × (with_records elements columns next records ≡ Ok after)).
        inl (h.0, all ∙ h.1))
        (λ (h : with_records elements columns next records ≡ Err 18). inr (all ∙ h))
        rest

zip_length : {A B : Type 0} (R : A → B → Type 0) (xs : List A) (ys : List B) → AllZip R xs ys
    → length xs ≡ length ys
zip_length R [] [] h = refl
zip_length R [] (y ∷ ys) h = absurd h
zip_length R (x ∷ xs) [] h = absurd h
zip_length R (x ∷ xs) (y ∷ ys) h =
    ap suc (zip_length R xs ys h.1)

-- the records of a trace are too many where the limit of cells has no room for all of them
pub too_many : (elements : Elements) (columns : Record) (before : Traces) (t : Trace)
    (records : List Record)
    → IsRecording record { signature = elements; traces = before }
    → AllZip (SpellsInstant elements columns) records (map (λ row. (t.0, row)) t.1)
    → comes_back t.0 before ≡ false
    → 67108864 < (instants_of before + length t.1) * cells_of_instant elements
    → with_records elements columns before records ≡ Err 18
too_many elements columns before t records lawful spelled back past =
    ⊎_elim
    (λ (h : (after : Traces) × (with_records elements columns before records ≡ Ok after)).
    absurd (full h.0 h.1))
    (λ (h : with_records elements columns before records ≡ Err 18). h)
    (fits _ _ _ _ _ _ spelled back)
  where
    full : (after : Traces) → with_records elements columns before records ≡ Ok after → ⊥
    full after read =
        let s : Sound elements columns before after records =
        sound _ _ _ _ _ lawful read in
        let named : Row → Instant = λ row. (t.0, row) in
        let count : length s.more ≡ length t.1 =
        sym (zip_length (SpellsInstant elements columns) records s.more s.spelled)
        ∙ zip_length (SpellsInstant elements columns) records (map named t.1) spelled
        ∙ length-map t.1 named in
        let all : instants_of after ≡ instants_of before + length t.1 =
        sym (instants_count after) ∙ ap length s.is ∙ length-append (instants before) s.more
        ∙ ap (λ n. n + length s.more) (instants_count before)
        ∙ ap (λ n. instants_of before + n) count in
        let within : instants_of after * cells_of_instant elements ≤ 67108864 = s.lawful.cells in
        let same : instants_of after * cells_of_instant elements
        ≡ (instants_of before + length t.1) * cells_of_instant elements =
        ap (λ n. n * cells_of_instant elements) all in
        omega arith

-- the first record of a trace is refused where there are too many traces
pub one_too_many : (elements : Elements) (columns : Record) (before : Traces) (t : Trace)
    (records : List Record)
    → IsTrace elements t
    → AllZip (SpellsInstant elements columns) records (map (λ row. (t.0, row)) t.1)
    → comes_back t.0 before ≡ false → is_last t.0 before ≡ false
    → nat_lt (length before) 1000000 ≡ false
    → with_records elements columns before records ≡ Err 18
unfolding with_records
one_too_many elements columns before (name, []) records is spelled back other full =
    let some : 0 < 0 = is.started in absurd (omega arith)
one_too_many elements columns before (name, row ∷ rows) [] is spelled back other full =
    absurd spelled
one_too_many elements columns before (name, row ∷ rows) (r ∷ records) is spelled back other full =
    let room : has_room elements name before ≡ false = rw (other, full) refl in
    ap (then_read (λ further. with_records elements columns further records))
    (no_room elements columns before r (name, row) spelled.0 back room)

-- the first record of a trace is refused where its name is there and is not the last
pub name_there : (elements : Elements) (columns : Record) (before : Traces) (t : Trace)
    (records : List Record)
    → IsTrace elements t
    → AllZip (SpellsInstant elements columns) records (map (λ row. (t.0, row)) t.1)
    → list_any (λ u. bytes_eq t.0 u.0) before ≡ true → is_last t.0 before ≡ false
    → with_records elements columns before records ≡ Err 17
name_there elements columns before (name, []) records is spelled there other =
    let some : 0 < 0 = is.started in absurd (omega arith)
name_there elements columns before (name, row ∷ rows) [] is spelled there other = absurd spelled
name_there elements columns before (name, row ∷ rows) (r ∷ records) is spelled there other =
    comes_back_refused elements columns before r (name, row) records spelled.0
    (rw (there, other) refl)
