-- The progress of the reading of a text: the records and the traces so far.
use Rattle.std.proofs.Common.{ℕ, ◌≡◌, ◌+◌, ◌<◌, ◌≤◌, Bool, true, false, ◌==◌, ◌||◌, not}
use Rattle.std.proofs.Common.{if◌then◌else◌, List, [], ◌∷◌, ◌++◌, length, map, Some, Result, Ok}
use Rattle.std.proofs.Common.{Err, refl, sym, ap, ◌∙◌, subst, arith, append_assoc, inl, inr, ⊎_elim}
use Rattle.std.proofs.Common.{◌⊎◌}
use Rattle.std.proofs.lemmas.List.{length_push}
use Rattle.std.proofs.lemmas.List.Sums.{sum_by_push}
use Rattle.std.specs.Option.{option_and_then, option_map}
use Rattle.csv.specs.declared.parser.State.TheVariants as st
use Rattle.csv.specs.declared.reader.Trim.TheVariants as trim
use Rattle.csv.specs.Reading.{ReadRecord, Reached, Ready, default_config, source_of, strip_bom}
use Rattle.csv.proofs.ReadFacts.{rows-end, rows-more}
use Rattle.lb_static.specs.Signature.{Elements}
use Rattle.lb_traces.specs.Traces.{IsRecording, Recording, Row, Trace, Traces, instants_of}
use Rattle.lb_traces.specs.Traces.{with_row, with_trace}
use Rattle.lb_traces.proofs.Recordings.{IsRecording-none, Front, front_of, with_row-push}
use Rattle.lb_trace.specs.declared.error.TraceError.{TraceError}
use Rattle.lb_trace.specs.declared.header.Column.{Column}
use Rattle.lb_trace.specs.Cells.{cell_value}
use Rattle.lb_trace.specs.Correct.{IsTraceReading}
use Rattle.lb_trace.specs.Errors.{IsRefusal, Refuses, error_number}
use Rattle.lb_trace.specs.Mirrors.{RowsFollow, column_of, record_by, row_by}
use Rattle.lb_trace.specs.Readers.{Goes, Reaches, TextReader, left}
use Rattle.lb_trace.specs.Refusals.{comes_back, is_last, is_trace_name, outcome, then_read}
use Rattle.lb_trace.specs.Refusals.{with_cells, with_record, with_records}
use Rattle.lb_trace.specs.Spelling.{Record, Spells, after_first, is_header, records_of, row_of}
use Rattle.lb_trace.specs.Spelling.{under}
use Rattle.lb_trace.proofs.Outcomes.{complete_text, outcome-records, reading-none, reading-other}
use Rattle.lb_trace.proofs.Outcomes.{reading-rows, refused_text}
use Rattle.lb_trace.proofs.Records.{reached_all, reached_first}
use Rattle.lb_trace.proofs.Soundness.{IsRecording-instant, IsRow-cells, Reads, reads_record}
use Rattle.lb_trace.proofs.Soundness.{some_last}

-- a read that gives a record has reached one record more
pub reaches-more : (text : List ℕ) (records : List Record) (a b : TextReader) (fields : Record)
    → Reaches text records a
    → ReadRecord left a b true fields → b.first ≡ true → Reaches text (records ++ fields ∷ []) b
reaches-more text records a b fields at read first =
    let m = rows-more left a b fields default_config st.StartRecord (strip_bom text) at.rest records
    at.config at.source at.reached read in
    record {
      plain = read.3 ∙ at.plain;
      ready =
          inl first;
      config = read.2 ∙ at.config;
      rest = m.0;
      source = m.1;
      reached = m.2;
    }

-- a read that gives no record has reached all records of the text
pub reaches-end : (text : List ℕ) (records : List Record) (a b : TextReader) (fields : Record)
    → Reaches text records a
    → ReadRecord left a b false fields → records_of text ≡ records
reaches-end text records a b fields at read =
    reached_all _ _ _ _ at.reached
    (rows-end left a b fields default_config at.rest at.config at.source read)

pub reaches-first : (text : List ℕ) (records : List Record) (a : TextReader)
    → Reaches text records a
    → (more : List Record) × (records_of text ≡ records ++ more)
reaches-first text records a at = reached_first _ _ _ _ at.reached

-- the row that is read by the table is the row that is spelled
row_by-table : (elements : Elements) (columns cells : Record)
    → row_by (map (column_of columns) elements) cells ≡ row_of elements columns cells
row_by-table [] columns cells = refl
row_by-table (e ∷ more) columns cells =
    ap (λ o. option_and_then (λ v. option_map (λ row. v ∷ row) o)
    (cell_value e.1 (under columns cells e.0))) (row_by-table more columns cells)

pub record_by-table : (elements : Elements) (columns : Record) (table : List Column) (width : ℕ)
    (traces : Traces) (r : Record)
    → table ≡ map (column_of columns) elements → width ≡ length columns
    → record_by elements table width traces r ≡ with_record elements columns traces r
record_by-table elements columns table width traces [] is wide = refl
record_by-table elements columns table width traces (name ∷ cells) is wide =
    ap (λ n. record_by elements table n traces (name ∷ cells)) wide
    ∙ ap (λ row. if not (length cells == length columns) then Err 15 else if not
    (is_trace_name name) || comes_back name traces then Err 17
    else with_cells elements name traces row)
    (ap (λ t. row_by t cells) is ∙ row_by-table elements columns cells)

pub rows_follow : (elements : Elements) (columns : Record) (table : List Column)
    → table ≡ map (column_of columns) elements → RowsFollow table elements
rows_follow elements columns table is cells row read =
    IsRow-cells elements columns cells row
    (sym (ap (λ t. row_by t cells) is ∙ row_by-table elements columns cells) ∙ read)

-- a reading in two steps is the first step, and then the second
then_both : (x : Result Traces ℕ) (all some more : Traces → Result Traces ℕ)
    → ((t : Traces) → all t ≡ then_read more (some t))
    → then_read all x ≡ then_read more (then_read some x)
then_both (Ok t) all some more each = each t
then_both (Err n) all some more each = refl

pub with_records-append : (elements : Elements) (columns : Record) (before : Traces)
    (some more : List Record)
    → with_records elements columns before (some ++ more)
    ≡ then_read (λ traces. with_records elements columns traces more)
    (with_records elements columns before some)
unfolding with_records
with_records-append elements columns before [] more = refl
with_records-append elements columns before (r ∷ some) more =
    then_both _ _ _ _ (λ further. with_records-append elements columns further some more)

-- one more row of the last trace is one more instant
count_row : (traces : Traces) (row : Row) → 0 < length traces
    → instants_of (with_row traces row) ≡ instants_of traces + 1
count_row traces row some =
    let f : Front traces = front_of traces some in
    let long : Trace → ℕ = λ t. length t.1 in
    let grown : Trace = (f.last.0, f.last.1 ++ row ∷ []) in
    let after : instants_of (f.front ++ grown ∷ []) ≡ instants_of f.front
    + length (f.last.1 ++ row ∷ []) = sum_by_push long f.front grown in
    let before : instants_of (f.front ++ f.last ∷ []) ≡ instants_of f.front + length f.last.1 =
    sum_by_push long f.front f.last in
    let same : instants_of (with_row traces row) ≡ instants_of (f.front ++ grown ∷ []) =
    ap (λ ts. instants_of (with_row ts row)) f.is
    ∙ ap instants_of (with_row-push f.front f.last row) in
    let was : instants_of traces ≡ instants_of (f.front ++ f.last ∷ []) = ap instants_of f.is in
    omega (arith, length_push f.last.1 row)

pub count_either : (b : Bool) (traces : Traces) (name : List ℕ) (row : Row)
    → is_last name traces ≡ b
    → instants_of (if b then with_row traces row else with_trace traces name row)
    ≡ instants_of traces + 1
count_either true traces name row last = count_row traces row (some_last name traces last)
count_either false traces name row last =
    sum_by_push (λ (t : Trace). length t.1) traces (name, row ∷ [])

-- the progress of a reading: the records that were reached, and the traces that were read of them
pub record Progress (elements : Elements) (text : List ℕ) (header : Record) (traces : Traces)
    (reader : TextReader) (number : ℕ) : Type 0 where
  pub rows : List Record
  pub reaches : Reaches text (header ∷ rows) reader
  pub read : with_records elements (after_first header) [] rows ≡ Ok traces
  pub lawful : IsRecording record { signature = elements; traces = traces }
  pub counted : number ≡ instants_of traces + 1

-- a reader that has given no record yet
pub reaches-none : (text : List ℕ) (reader : TextReader) → reader.trim ≡ trim.None → Ready reader
    → reader.config ≡ default_config
    → source_of left reader ≡ Some (strip_bom text) → reader.state ≡ st.StartRecord
    → Reaches text [] reader
unfolding Reached
reaches-none text reader plain ready config source state = record {
  plain = plain;
  ready = ready;
  config = config;
  rest = strip_bom text;
  source = source;
  reached = (sym state, refl);
}

-- the progress after the header: no traces
pub progress-start : (elements : Elements) (text : List ℕ) (header : Record) (traces : Traces)
    (reader : TextReader)
    → Reaches text (header ∷ []) reader → traces ≡ []
    → Progress elements text header traces reader 1
unfolding with_records
progress-start elements text header traces reader at none = record {
  rows = [];
  reaches = at;
  read = ap Ok (sym none);
  lawful = subst (λ ts. IsRecording record { signature = elements; traces = ts }) (sym none)
      (IsRecording-none elements);
  counted = ap (λ ts. instants_of ts + 1) (sym none);
}

-- the progress after one more record that is not refused
pub progress-more : (elements : Elements) (text : List ℕ) (header : Record) (traces next : Traces)
    (a b : TextReader) (number : ℕ) (fields : Record)
    → (at : Progress elements text header traces a number)
    → Reaches text ((header ∷ at.rows) ++ fields ∷ []) b
    → with_record elements (after_first header) traces fields ≡ Ok next
    → Progress elements text header next b (number + 1)
unfolding with_records
progress-more elements text header traces next a b number fields at further good =
    let reads : Reads elements (after_first header) traces next fields =
    reads_record elements (after_first header) traces next fields good in
    let one_more : instants_of next ≡ instants_of traces + 1 =
    ap instants_of reads.is ∙ count_either (is_last reads.instant.0 traces) traces reads.instant.0
    reads.instant.1 refl in
    record {
      rows = at.rows ++ fields ∷ [];
      reaches = further;
      read = with_records-append elements (after_first header) [] at.rows (fields ∷ [])
          ∙ ap (then_read (λ t. with_records elements (after_first header) t (fields ∷ []))) at.read
          ∙ ap (then_read (λ t. Ok t)) good;
      lawful = IsRecording-instant elements (after_first header) traces next fields at.lawful reads;
      counted = omega (arith, at.counted);
    }

-- the traces so far are the outcome of the text where all records were reached
pub progress-end : (elements : Elements) (text : List ℕ) (header : Record) (traces : Traces)
    (a : TextReader) (number : ℕ)
    → (at : Progress elements text header traces a number) → length text ≤ 1073741824
    → is_header elements header ≡ true
    → records_of text ≡ header ∷ at.rows → outcome elements text ≡ Ok traces
progress-end elements text header traces a number at short headed all =
    outcome-records _ _ _ short all ∙ reading-rows _ _ _ headed ∙ at.read

-- the refusal of one more record is the outcome of the text
pub progress-bad : (elements : Elements) (text : List ℕ) (header : Record) (traces : Traces)
    (a b : TextReader) (number n : ℕ) (fields : Record)
    → (at : Progress elements text header traces a number) → length text ≤ 1073741824
    → is_header elements header ≡ true
    → Reaches text ((header ∷ at.rows) ++ fields ∷ []) b
    → with_record elements (after_first header) traces fields ≡ Err n
    → outcome elements text ≡ Err n
unfolding with_records
progress-bad elements text header traces a b number n fields at short headed further bad =
    let rest = reaches-first _ _ _ further in
    outcome-records _ _ _ short
    (rest.1 ∙ ap (λ rs. header ∷ rs) (append_assoc at.rows (fields ∷ []) rest.0))
    ∙ reading-rows _ _ _ headed
    ∙ with_records-append elements (after_first header) [] at.rows (fields ∷ rest.0)
    ∙ ap (then_read (λ t. with_records elements (after_first header) t (fields ∷ rest.0))) at.read
    ∙ ap (then_read (λ t. with_records elements (after_first header) t rest.0)) bad

-- the outcome of a text without records is 14
pub no_header : (elements : Elements) (text : List ℕ) → length text ≤ 1073741824
    → records_of text ≡ [] → outcome elements text ≡ Err 14
no_header elements text short none =
    outcome-records elements text [] short none ∙ reading-none elements

pub other_header : (elements : Elements) (text : List ℕ) (header : Record) (b : TextReader)
    → Reaches text (header ∷ []) b → length text ≤ 1073741824
    → is_header elements header ≡ false → outcome elements text ≡ Err 14
other_header elements text header b at short other =
    let rest = reaches-first text (header ∷ []) b at in
    outcome-records _ _ _ short rest.1 ∙ reading-other elements header rest.0 other

-- a refusal `n` of a text is one of a text that spells no traces
pub refused : (elements : Elements) (text : List ℕ) (n : ℕ) → outcome elements text ≡ Err n
    → (n ≡ 0) ⊎ ((outcome elements text ≡ Err n)
    × ((traces : Traces) → ¬ (Spells elements text traces)))
refused elements text n is = inr (is, refused_text elements text n is)

-- traces that a text spells are its reading
pub is_reading : (elements : Elements) (text : List ℕ) (r : Recording) → r.signature ≡ elements
    → Spells elements text r.traces → IsTraceReading elements text (Ok r)
is_reading elements text r same spells = record {
  signature = same;
  spelled = spells;
  only = λ other also. cc (
    complete_text elements text r.traces spells,
    complete_text elements text other also,
  );
  refused = tt;
}

-- an error that is the refusal of a text, or of a growth, is its reading
pub is_refusal : (elements : Elements) (text : List ℕ) (e : TraceError)
    → Refuses elements text e → IsTraceReading elements text (Err e)
is_refusal elements text e refuses = record {
  signature = tt;
  spelled = tt;
  only = tt;
  refused = refuses;
}

-- one read goes on to the next record, or ends the text
pub goes : (text : List ℕ) (records : List Record) (a b : TextReader) (fields : Record)
    (found : Bool) → Reaches text records a
    → ReadRecord left a b found fields → b.first ≡ true → Goes text records b fields found
goes text records a b fields true at read first = reaches-more text records a b fields at read first
goes text records a b fields false at read first = reaches-end text records a b fields at read

-- a recording is lawful where its traces are lawful under its signature
pub lawful_rows : (r : Recording) (elements : Elements) → r.signature ≡ elements
    → IsRecording record { signature = elements; traces = r.traces } → IsRecording r
lawful_rows r elements same lawful =
    subst (λ e. IsRecording record { signature = e; traces = r.traces }) (sym same) lawful

-- `record_by` of the table gives the same as `with_record`
pub added : (r : Recording) (elements : Elements) (columns : Record) (table : List Column)
    (width : ℕ) (fields : Record) (outcome_is : Result Traces ℕ)
    → r.signature ≡ elements → table ≡ map (column_of columns) elements → width ≡ length columns
    → record_by r.signature table width r.traces fields ≡ outcome_is
    → with_record elements columns r.traces fields ≡ outcome_is
added r elements columns table width fields outcome_is same is wide by =
    sym (record_by-table _ _ _ _ _ _ is wide)
    ∙ ap (λ e. record_by e table width r.traces fields) (sym same) ∙ by

-- a refusal of one more record by the table is the refusal of the text
pub refused_record : (r : Recording) (elements : Elements) (text : List ℕ) (header : Record)
    (a b : TextReader) (number : ℕ) (fields : Record)
    (table : List Column) (width : ℕ) (e : TraceError)
    → (at : Progress elements text header r.traces a number) → length text ≤ 1073741824
    → is_header elements header ≡ true → Reaches text ((header ∷ at.rows) ++ fields ∷ []) b
    → r.signature ≡ elements
    → table ≡ map (column_of (after_first header)) elements → width ≡ length (after_first header)
    → IsRefusal (record_by r.signature table width r.traces fields) e → Refuses elements text e
refused_record r elements text header a b number fields table width e at short headed further same
    is wide bad =
    ⊎_elim (λ (h : error_number e ≡ 0). inl h)
    (λ (h : record_by r.signature table width r.traces fields ≡ Err (error_number e)).
    refused elements text (error_number e)
    (progress-bad elements text header r.traces a b number (error_number e) fields at short headed
    further
    (added r elements (after_first header) table width fields (Err (error_number e)) same is wide
    h)))
    bad
