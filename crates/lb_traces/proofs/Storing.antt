-- The recording that a set holds, after one more trace and after one more row.
use Rattle.std.proofs.Common.{ℕ, ◌≡◌, ◌+◌, ◌-◌, ◌*◌, ◌<◌, ◌≤◌, List, [], ◌∷◌, ◌++◌, length, get_or}
use Rattle.std.proofs.Common.{set, sym, ap, ◌∙◌, subst, ℤ, arith}
use Rattle.std.proofs.lemmas.List.{get_or_read}
use Rattle.std.proofs.lemmas.Slice.Zip.{AllZip-long}
use Rattle.std.proofs.Math.Nat.{mul-le-mul_left}
use Rattle.std.specs.List.{Contains}
use Rattle.lb_static.specs.Signature.{Elements}
use Rattle.lb_traces.specs.Traces.{Row, Trace, Traces, Recording, IsRecording, IsTrace, IsTraceName}
use Rattle.lb_traces.specs.Traces.{IsRow, IsCell, HasRoom, trace_names, trace_at, instants_of}
use Rattle.lb_traces.specs.Traces.{cells_of_instant, last_rows, with_row, with_trace}
use Rattle.lb_traces.specs.Ledger.{place, last_place}
use Rattle.lb_traces.specs.Stored.{stored, stored_traces, IsStored}
use Rattle.lb_traces.proofs.Recordings.{IsRecording-trace, IsRecording-row}
use Rattle.lb_traces.proofs.StoredRows.{stored-trace, stored-row, AreRows-trace, AreRows-row}
use Rattle.lb_traces.proofs.StoredRows.{instants-stored, length-stored, trace_at-stored}
use Rattle.lb_traces.proofs.StoredRows.{length-rows_between}

-- a row that follows a signature is as long as it
pub length-row : (elements : Elements) (row : Row) → IsRow elements row →
    length row ≡ length elements
length-row elements row follows = AllZip-long (λ e v. IsCell e.1 v) elements row follows

-- the number of all rows is within 67,108,864 where there is room for one more
pub rows_fit : (elements : Elements) (names : List (List ℕ)) (cells : List ℤ) (ends : List ℕ) →
    IsStored elements names cells ends
    → HasRoom (stored elements names cells ends) → last_place ends + 1 ≤ 67108864
rows_fit elements names cells ends is room =
    let count : instants_of (stored_traces (length elements) names cells ends) ≡ last_place ends =
    instants-stored _ _ _ _ is.rows in
    let total : (last_place ends + 1) * cells_of_instant elements ≤ 67108864 =
    subst (λ n. (n + 1) * cells_of_instant elements ≤ 67108864) count room in
    let least : (last_place ends + 1) * 1 ≤ (last_place ends + 1) * cells_of_instant elements =
    mul-le-mul_left (last_place ends + 1) (omega arith) in
    omega (arith, total, least)

pub stored-with_trace : (elements : Elements) (names : List (List ℕ)) (cells : List ℤ)
    (ends : List ℕ) (name : List ℕ) (row : Row)
    → IsStored elements names cells ends → IsRow elements row
    → stored elements (names ++ name ∷ []) (cells ++ row) (ends ++ (last_place ends + 1) ∷ [])
    ≡ record {
      signature = elements;
      traces = with_trace
          (stored_traces (length elements) names cells ends) name row;
    }
stored-with_trace elements names cells ends name row is follows =
    let whole : Traces → Recording = λ traces. record { signature = elements; traces = traces } in
    ap whole (stored-trace (length elements) names cells ends name row is.rows
    (length-row elements row follows))

pub IsStored-trace : (elements : Elements) (names : List (List ℕ)) (cells : List ℤ) (ends : List ℕ)
    (name : List ℕ) (row : Row)
    → IsStored elements names cells ends → IsTraceName name →
    ¬ (Contains (trace_names (stored_traces (length elements) names cells ends)) name)
    → IsRow elements row → length (stored_traces (length elements) names cells ends) < 1000000 →
    HasRoom (stored elements names cells ends)
    → IsStored elements (names ++ name ∷ []) (cells ++ row) (ends ++ (last_place ends + 1) ∷ [])
IsStored-trace elements names cells ends name row is named fresh follows count room = record {
  rows = AreRows-trace (length elements) names cells ends name row is.rows
      (length-row elements row follows);
  lawful = subst IsRecording (sym (stored-with_trace _ _ _ _ _ _ is follows))
      (IsRecording-trace (stored elements names cells ends) name row is.lawful named fresh follows
      count room);
}

pub stored-with_row : (elements : Elements) (names : List (List ℕ)) (cells : List ℤ) (ends : List ℕ)
    (row : Row) (n : ℕ)
    → IsStored elements names cells ends → IsRow elements row → length names ≡ n + 1
    → stored elements names (cells ++ row) (set ends (n + 1) (last_place ends + 1))
    ≡ record {
      signature = elements;
      traces = with_row
          (stored_traces (length elements) names cells ends) row;
    }
stored-with_row elements names cells ends row n is follows some =
    let whole : Traces → Recording = λ traces. record { signature = elements; traces = traces } in
    ap whole (stored-row (length elements) names cells ends row n is.rows
    (length-row elements row follows) some)

pub IsStored-row : (elements : Elements) (names : List (List ℕ)) (cells : List ℤ) (ends : List ℕ)
    (row : Row) (n : ℕ)
    → IsStored elements names cells ends → length names ≡ n + 1 → IsRow elements row
    → length (last_rows (stored_traces (length elements) names cells ends)) < 1000000 →
    HasRoom (stored elements names cells ends)
    → IsStored elements names (cells ++ row) (set ends (n + 1) (last_place ends + 1))
IsStored-row elements names cells ends row n is some follows instants room = record {
  rows = AreRows-row (length elements) names cells ends row n is.rows
      (length-row elements row follows) some;
  lawful = subst IsRecording (sym (stored-with_row elements names cells ends row n is follows some))
      (IsRecording-row elements (stored_traces (length elements) names cells ends) row is.lawful
      (omega (arith, length-stored (length elements) names cells ends)) follows instants room);
}

-- `rows_fit` for the recording `old`, as a call requires it
pub rows_fit_of : (old : Recording) (elements : Elements) (names : List (List ℕ)) (cells : List ℤ)
    (ends : List ℕ)
    → stored elements names cells ends ≡ old → IsStored elements names cells ends → HasRoom old →
    last_place ends + 1 ≤ 67108864
rows_fit_of old elements names cells ends view is room =
    rows_fit _ _ _ _ is (subst HasRoom (sym view) room)

pub start_keeps : (old : Recording) (elements : Elements) (names : List (List ℕ)) (cells : List ℤ)
    (ends : List ℕ) (name : List ℕ) (row : Row)
    → stored elements names cells ends ≡ old → IsStored elements names cells ends →
    IsTraceName name → ¬ (Contains (trace_names old.traces) name)
    → IsRow old.signature row → length old.traces < 1000000 → HasRoom old
    → IsStored elements (names ++ name ∷ []) (cells ++ row) (ends ++ (last_place ends + 1) ∷ [])
start_keeps old elements names cells ends name row view is named fresh follows count room =
    IsStored-trace elements names cells ends name row is named
    (subst (λ (r : Recording). ¬ (Contains (trace_names r.traces) name)) (sym view) fresh)
    (subst (λ (r : Recording). IsRow r.signature row) (sym view) follows)
    (subst (λ (r : Recording). length r.traces < 1000000) (sym view) count)
    (subst HasRoom (sym view) room)

pub start_adds : (old : Recording) (elements : Elements) (names : List (List ℕ)) (cells : List ℤ)
    (ends : List ℕ) (name : List ℕ) (row : Row)
    → stored elements names cells ends ≡ old → IsStored elements names cells ends →
    IsRow old.signature row
    → stored elements (names ++ name ∷ []) (cells ++ row) (ends ++ (last_place ends + 1) ∷ [])
    ≡ record { signature = old.signature; traces = with_trace old.traces name row }
start_adds old elements names cells ends name row view is follows =
    let added : Recording → Recording = λ r. record
    { signature = r.signature; traces = with_trace r.traces name row } in
    stored-with_trace _ _ _ _ _ _ is
    (subst (λ (r : Recording). IsRow r.signature row) (sym view) follows) ∙ ap added view

-- a recording that is not empty has a last trace, number `length names - 1`
pub last_of : (old : Recording) (elements : Elements) (names : List (List ℕ)) (cells : List ℤ)
    (ends : List ℕ)
    → stored elements names cells ends ≡ old → 0 < length old.traces →
    length names ≡ (length names - 1) + 1
last_of old elements names cells ends view some =
    let count : 0 < length (stored_traces (length elements) names cells ends) =
    subst (λ (r : Recording). 0 < length r.traces) (sym view) some in
    omega (arith, count, length-stored (length elements) names cells ends)

pub push_keeps : (old : Recording) (elements : Elements) (names : List (List ℕ)) (cells : List ℤ)
    (ends : List ℕ) (row : Row) (last : ℕ)
    → stored elements names cells ends ≡ old → IsStored elements names cells ends →
    0 < length old.traces → IsRow old.signature row
    → length (last_rows old.traces) < 1000000 → HasRoom old → last + 1 ≡ length ends
    → IsStored elements names (cells ++ row) (set ends last (last_place ends + 1))
push_keeps old elements names cells ends row last view is some follows instants room at_end =
    let some_name : length names ≡ (length names - 1) + 1 =
    last_of _ _ _ _ _ view some in
    let is_last : (length names - 1) + 1 ≡ last = omega (arith, is.rows.paired) in
    subst (λ n. IsStored elements names (cells ++ row) (set ends n (last_place ends + 1))) is_last
    (IsStored-row elements names cells ends row (length names - 1) is some_name
    (subst (λ (r : Recording). IsRow r.signature row) (sym view) follows)
    (subst (λ (r : Recording). length (last_rows r.traces) < 1000000) (sym view) instants)
    (subst HasRoom (sym view) room))

pub push_adds : (old : Recording) (elements : Elements) (names : List (List ℕ)) (cells : List ℤ)
    (ends : List ℕ) (row : Row) (last : ℕ)
    → stored elements names cells ends ≡ old → IsStored elements names cells ends →
    0 < length old.traces → IsRow old.signature row → last + 1 ≡ length ends
    → stored elements names (cells ++ row) (set ends last (last_place ends + 1))
    ≡ record { signature = old.signature; traces = with_row old.traces row }
push_adds old elements names cells ends row last view is some follows at_end =
    let some_name : length names ≡ (length names - 1) + 1 =
    last_of _ _ _ _ _ view some in
    let is_last : last ≡ (length names - 1) + 1 = omega (arith, is.rows.paired) in
    let added : Recording → Recording = λ r. record
    { signature = r.signature; traces = with_row r.traces row } in
    ap (λ n. stored elements names (cells ++ row) (set ends n (last_place ends + 1))) is_last
    ∙ stored-with_row _ _ _ _ _ _ is
    (subst (λ (r : Recording). IsRow r.signature row) (sym view) follows) some_name
    ∙ ap added view

-- there are as many traces as names
pub count_of : (old : Recording) (elements : Elements) (names : List (List ℕ)) (cells : List ℤ)
    (ends : List ℕ)
    → stored elements names cells ends ≡ old → length old.traces ≡ length names
count_of old elements names cells ends view =
    ap (λ (r : Recording). length r.traces) (sym view)
    ∙ length-stored (length elements) names cells ends

-- the name of trace `k` is name `k`
pub name_of : (old : Recording) (elements : Elements) (names : List (List ℕ)) (cells : List ℤ)
    (ends : List ℕ) (k : ℕ)
    → stored elements names cells ends ≡ old → k < length names →
    (trace_at old.traces k).0 ≡ get_or names k []
name_of old elements names cells ends k view below =
    ap (λ (r : Recording). (trace_at r.traces k).0) (sym view)
    ∙ ap (λ (t : Trace). t.0) (trace_at-stored _ _ _ _ _ below)

-- the number of instants of trace `k` is the difference of the places around it
pub instants_at : (old : Recording) (elements : Elements) (names : List (List ℕ)) (cells : List ℤ)
    (ends : List ℕ) (k : ℕ)
    → stored elements names cells ends ≡ old → k < length names →
    length (trace_at old.traces k).1 ≡ place ends (k + 1) - place ends k
instants_at old elements names cells ends k view below =
    ap (λ (r : Recording). length (trace_at r.traces k).1) (sym view)
    ∙ ap (λ (t : Trace). length t.1) (trace_at-stored _ _ _ _ _ below)
    ∙ length-rows_between (length elements) cells (place ends k) (place ends (k + 1))

-- the places around a trace, from `from` to `to`: between them are 1 to 1,000,000 rows
pub record PartsTrace (instants from to : ℕ) : Type 0 where
  pub rises : from < to
  pub count : to - from ≡ instants
  pub limit : to - from ≤ 1000000

pub parts : (old : Recording) (elements : Elements) (names : List (List ℕ)) (cells : List ℤ)
    (ends : List ℕ) (k from to : ℕ)
    → stored elements names cells ends ≡ old → IsStored elements names cells ends →
    k < length old.traces
    → from ≡ get_or ends k from → to ≡ get_or ends (k + 1) to →
    PartsTrace (length (trace_at old.traces k).1) from to
parts old elements names cells ends k from to view is below read_from read_to =
    let count : length old.traces ≡ length names = count_of _ _ _ _ _ view in
    let paired : length ends ≡ length names + 1 = is.rows.paired in
    let from_is : from ≡ place ends k = get_or_read ends k from (omega arith) read_from 0 in
    let to_is : to ≡ place ends (k + 1) = get_or_read ends (k + 1) to (omega arith) read_to 0 in
    let climb : place ends k < place ends (k + 1) =
    is.rows.ledger.climbs k (k + 1) (omega arith) (omega arith) in
    let long : length (trace_at old.traces k).1 ≡ place ends (k + 1) - place ends k =
    instants_at _ _ _ _ _ _ view (omega arith) in
    let lawful : IsTrace old.signature (trace_at old.traces k) =
    (subst IsRecording view is.lawful).each k ([], []) below in
    let limit : length (trace_at old.traces k).1 ≤ 1000000 = lawful.instants in
    record { rises = omega arith; count = omega arith; limit = omega arith }

-- a lawful recording has no more instants than cells
pub few_instants : (r : Recording) → IsRecording r → instants_of r.traces ≤ 67108864
few_instants r lawful =
    let least : instants_of r.traces * 1 ≤ instants_of r.traces * cells_of_instant r.signature =
    mul-le-mul_left (instants_of r.traces) (omega arith) in
    omega (arith, lawful.cells, least)
