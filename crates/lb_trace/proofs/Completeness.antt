-- Completeness: records that spell traces are read as these traces.
use Rattle.std.proofs.Common.{ℕ, ◌≡◌, ◌≢◌, ◌+◌, ◌*◌, ◌<◌, ◌≤◌, true, false, List, [], ◌∷◌, ◌++◌}
use Rattle.std.proofs.Common.{length, map, get_or, Ok, refl, sym, ap, ◌∙◌, subst, arith}
use Rattle.std.proofs.Common.{append_assoc, length-append, nat_le, nat_lt}
use Rattle.std.proofs.lemmas.Bool.{le-leb, lt-ltb}
use Rattle.std.proofs.lemmas.List.{append-nil, get_or_append_left, get_or_at, length-map}
use Rattle.std.proofs.lemmas.List.{map-append}
use Rattle.std.proofs.lemmas.List.Sums.{sum_by-append, sum_by-cons}
use Rattle.std.proofs.Math.Nat.{mul-le-mul_right}
use Rattle.std.specs.List.{All, AllZip}
use Rattle.lb_static.specs.Signature.{Elements}
use Rattle.lb_traces.specs.Traces.{IsRecording, IsTrace, Row, Trace, Traces, cells_of_instant}
use Rattle.lb_traces.specs.Traces.{instants_of, last_rows, trace_names}
use Rattle.lb_traces.proofs.Recordings.{last_rows-push, with_row-push}
use Rattle.lb_trace.specs.Refusals.{has_room, is_last, with_instant, with_records}
use Rattle.lb_trace.specs.Spelling.{Record, SpellsInstant, instants}
use Rattle.lb_trace.proofs.Names.{bytes_eq-same, comes_back-last, comes_back-none, is_last-none}
use Rattle.lb_trace.proofs.Names.{is_last-push, none_named}
use Rattle.lb_trace.proofs.Steps.{step}

-- the instants of traces around one trace are those before it, its own, and those after it
count_around : (before : Traces) (t : Trace) (after : Traces)
    → instants_of (before ++ t ∷ after) ≡ instants_of before + (length t.1 + instants_of after)
count_around before t after =
    sum_by-append (λ (u : Trace). length u.1) before (t ∷ after)
    ∙ ap (λ n. instants_of before + n) (sum_by-cons (λ (u : Trace). length u.1) t after)

-- there is room for one more instant where a lawful recording has that many
room_within : (elements : Elements) (some all : Traces)
    → IsRecording record { signature = elements; traces = all }
    → instants_of some + 1 ≤ instants_of all
    → nat_le ((instants_of some + 1) * cells_of_instant elements) 67108864 ≡ true
room_within elements some all lawful fewer =
    let product : (instants_of some + 1) * cells_of_instant elements ≤ instants_of all
    * cells_of_instant elements =
    mul-le-mul_right (cells_of_instant elements) fewer in
    le-leb ((instants_of some + 1) * cells_of_instant elements) 67108864
    (omega (arith, product, lawful.cells))

-- each trace of a lawful recording is lawful
at_place : (elements : Elements) (before : Traces) (t : Trace) (after : Traces)
    → IsRecording record { signature = elements; traces = before ++ t ∷ after } → IsTrace elements t
at_place elements before t after lawful =
    subst (IsTrace elements) (get_or_at before t after t (length before) refl)
    (lawful.each (length before) t (omega (arith, length-append before (t ∷ after))))

-- no earlier trace of a lawful recording has the name of a trace
fresh : (elements : Elements) (before : Traces) (t : Trace) (after : Traces)
    → IsRecording record { signature = elements; traces = before ++ t ∷ after }
    → All (λ other. other ≢ t.0) (trace_names before)
fresh elements before t after lawful =
    let name_of : Trace → List ℕ = λ u. u.0 in
    let long : length (trace_names before) ≡ length before = length-map before name_of in
    let names : trace_names (before ++ t ∷ after) ≡ trace_names before ++ t.0 ∷ trace_names after =
    map-append name_of before (t ∷ after) in
    let total : length (trace_names (before ++ t ∷ after)) ≡ length before + length (t ∷ after) =
    length-map (before ++ t ∷ after) name_of ∙ length-append before (t ∷ after) in
    λ k d below same. lawful.distinct k (length before) d (omega arith) (omega arith)
    (ap (λ ns. get_or ns k d) names
    ∙ get_or_append_left (trace_names before) (t.0 ∷ trace_names after) d k below ∙ same
    ∙ sym (get_or_at (trace_names before) t.0 (trace_names after) d (length before) long)
    ∙ ap (λ ns. get_or ns (length before) d) (sym names))

-- the records of the rest of a trace that has begun, and of the traces after it, are read as these
rest_of_trace : (elements : Elements) (columns : Record) (before : Traces) (name : List ℕ)
    (read rest all : List Row) (after : Traces) (records : List Record)
    → IsRecording record { signature = elements; traces = before ++ (name, all) ∷ after }
    → read ++ rest ≡ all
    → ((more : List Record) → AllZip (SpellsInstant elements columns) more (instants after)
    → with_records elements columns (before ++ (name, all) ∷ []) more
    ≡ Ok (before ++ (name, all) ∷ after))
    → AllZip (SpellsInstant elements columns) records
    (map (λ row. (name, row)) rest ++ instants after)
    → with_records elements columns (before ++ (name, read) ∷ []) records
    ≡ Ok (before ++ (name, all) ∷ after)
rest_of_trace elements columns before name read [] all after records lawful parts go spelled =
    let whole : read ≡ all = sym (append-nil read) ∙ parts in
    ap (λ rows. with_records elements columns (before ++ (name, rows) ∷ []) records) whole
    ∙ go records spelled
rest_of_trace elements columns before name read (row ∷ rest) all after [] lawful parts go spelled =
    absurd spelled
rest_of_trace elements columns before name read (row ∷ rest) all after (r ∷ records) lawful parts go
    spelled =
    let so_far : Traces = before ++ (name, read) ∷ [] in
    let long : length read + (1 + length rest) ≡ length all =
    omega (arith, length-append read (row ∷ rest), ap length parts) in
    let last : is_last name so_far ≡ true =
    is_last-push name before (name, read) ∙ bytes_eq-same name in
    let limit : length all ≤ 1000000 =
    (at_place elements before (name, all) after lawful).instants in
    let instants_fit : nat_lt (length (last_rows so_far)) 1000000 ≡ true =
    ap (λ rows. nat_lt (length rows) 1000000) (last_rows-push before (name, read))
    ∙ lt-ltb (length read) 1000000 (omega arith) in
    let cells_fit : nat_le ((instants_of so_far + 1) * cells_of_instant elements) 67108864 ≡ true =
    room_within elements so_far (before ++ (name, all) ∷ after) lawful
    (omega (arith, count_around before (name, read) [], count_around before (name, all) after)) in
    let room : has_room elements name so_far ≡ true = rw (last, instants_fit, cells_fit) refl in
    let grown : with_instant name row so_far ≡ before ++ (name, read ++ row ∷ []) ∷ [] =
    rw last (with_row-push before (name, read) row) in
    step elements columns so_far r (name, row) records spelled.0 (comes_back-last name so_far last)
    room
    ∙ ap (λ traces. with_records elements columns traces records) grown
    ∙ rest_of_trace elements columns before name (read ++ row ∷ []) rest all after records lawful
    (append_assoc read (row ∷ []) rest ∙ parts) go spelled.1

-- the records of a whole trace, and of the traces after it, are read as these
one_trace : (elements : Elements) (columns : Record) (before : Traces) (name : List ℕ)
    (rows : List Row) (after : Traces) (records : List Record)
    → IsRecording record { signature = elements; traces = before ++ (name, rows) ∷ after }
    → ((more : List Record) → AllZip (SpellsInstant elements columns) more (instants after)
    → with_records elements columns (before ++ (name, rows) ∷ []) more
    ≡ Ok (before ++ (name, rows) ∷ after))
    → AllZip (SpellsInstant elements columns) records
    (map (λ row. (name, row)) rows ++ instants after)
    → with_records elements columns before records ≡ Ok (before ++ (name, rows) ∷ after)
one_trace elements columns before name [] after records lawful go spelled =
    let some : 0 < 0 = (at_place elements before (name, []) after lawful).started in absurd
    (omega arith)
one_trace elements columns before name (row ∷ rows) after [] lawful go spelled = absurd spelled
one_trace elements columns before name (row ∷ rows) after (r ∷ records) lawful go spelled =
    let others = none_named name before (fresh elements before (name, row ∷ rows) after lawful) in
    let last : is_last name before ≡ false = is_last-none name before others in
    let count_fits : nat_lt (length before) 1000000 ≡ true =
    lt-ltb (length before) 1000000
    (omega (arith, length-append before ((name, row ∷ rows) ∷ after), lawful.count)) in
    let cells_fit : nat_le ((instants_of before + 1) * cells_of_instant elements) 67108864 ≡ true =
    room_within elements before (before ++ (name, row ∷ rows) ∷ after) lawful
    (omega (arith, count_around before (name, row ∷ rows) after)) in
    let room : has_room elements name before ≡ true = rw (last, count_fits, cells_fit) refl in
    let grown : with_instant name row before ≡ before ++ (name, row ∷ []) ∷ [] = rw last refl in
    step elements columns before r (name, row) records spelled.0
    (comes_back-none name before others) room
    ∙ ap (λ traces. with_records elements columns traces records) grown
    ∙ rest_of_trace elements columns before name (row ∷ []) rows (row ∷ rows) after records lawful
    refl go spelled.1

-- records that spell traces are read as these
pub complete : (elements : Elements) (columns : Record) (before after : Traces)
    (records : List Record)
    → IsRecording record { signature = elements; traces = before ++ after }
    → AllZip (SpellsInstant elements columns) records (instants after)
    → with_records elements columns before records ≡ Ok (before ++ after)
unfolding with_records
complete elements columns before [] [] lawful spelled = ap Ok (sym (append-nil before))
complete elements columns before [] (r ∷ records) lawful spelled = absurd spelled
complete elements columns before (t ∷ after) records lawful spelled =
    let regroup : (before ++ t ∷ []) ++ after ≡ before ++ t ∷ after =
    append_assoc before (t ∷ []) after in
    one_trace elements columns before t.0 t.1 after records lawful
    (λ more rest. complete elements columns (before ++ t ∷ []) after more
    (subst (λ traces. IsRecording record { signature = elements; traces = traces }) (sym regroup)
    lawful) rest
    ∙ ap Ok regroup)
    spelled
