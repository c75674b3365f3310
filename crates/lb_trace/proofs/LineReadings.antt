-- The reading of the records of a text without quotes, one after the other.
use Rattle.std.proofs.Common.{ℕ, ◌≡◌, ◌+◌, ◌≤◌, ◌==◌, true, false, List, [], ◌∷◌, length, map}
use Rattle.std.proofs.Common.{Result, Ok, Err, refl, sym, ap, ◌∙◌, inl, inr, ⊎_elim}
use Rattle.lb_static.specs.Signature.{Elements}
use Rattle.lb_traces.specs.Traces.{Recording, Traces, instants_of}
use Rattle.lb_trace.specs.declared.error.TraceError.{TraceError}
use Rattle.lb_trace.specs.declared.header.Column.{Column}
use Rattle.lb_trace.specs.Errors.{IsRefusal, Refuses, error_number}
use Rattle.lb_trace.specs.Lines.{after_line, record_of}
use Rattle.lb_trace.specs.Mirrors.{column_of, record_by}
use Rattle.lb_trace.specs.Plain.{plain_records}
use Rattle.lb_trace.specs.Refusals.{is_last, outcome, reading, then_read, with_record, with_records}
use Rattle.lb_trace.specs.Scan.{begun_records}
use Rattle.lb_trace.specs.Spelling.{Record, after_first, is_header, records_of}
use Rattle.lb_trace.specs.Tables.{has_header}
use Rattle.lb_trace.proofs.Outcomes.{outcome-records, reading-none, reading-other, reading-rows}
use Rattle.lb_trace.proofs.PlainRecordings.{begun-more, begun-none}
use Rattle.lb_trace.proofs.Readings.{count_either, record_by-table, refused}
use Rattle.lb_trace.proofs.Soundness.{Reads, reads_record}

-- a rest that begins with a record is read as this record and then as the rest after its line
further : (elements : Elements) (columns : Record) (traces : Traces) (rest begun : List ℕ)
    → plain_records rest ≡ begun_records begun → (length begun == 0) ≡ false
    → with_records elements columns traces (plain_records rest)
    ≡ then_read (λ t. with_records elements columns t (plain_records (after_line begun)))
    (with_record elements columns traces (record_of begun))
unfolding with_records
further elements columns traces rest begun skipped some =
    ap (with_records elements columns traces) (skipped ∙ begun-more begun some)

-- the reading of a text goes on after the line of one more record
pub lines-more :
    (elements : Elements) (columns : Record) (table : List Column) (width : ℕ)
    (first traces next : Traces) (text rest begun after : List ℕ) →
    with_records elements columns first (plain_records text)
    ≡ with_records elements columns traces (plain_records rest) →
    plain_records rest ≡ begun_records begun → (length begun == 0) ≡ false →
    after ≡ after_line begun → table ≡ map (column_of columns) elements → width ≡ length columns →
    record_by elements table width traces (record_of begun) ≡ Ok next →
    with_records elements columns first (plain_records text)
    ≡ with_records elements columns next (plain_records after)
lines-more elements columns table width first traces next text rest begun after so_far skipped some
    is same wide good =
    so_far ∙ further elements columns traces rest begun skipped some
    ∙ ap (then_read (λ t. with_records elements columns t (plain_records (after_line begun))))
    (sym (record_by-table elements columns table width traces (record_of begun) same wide) ∙ good)
    ∙ ap (λ left. with_records elements columns next (plain_records left)) (sym is)

-- a record that is not refused is one more instant
pub lines-counted :
    (elements : Elements) (columns : Record) (table : List Column) (width : ℕ)
    (traces next : Traces) (r : Record) →
    table ≡ map (column_of columns) elements → width ≡ length columns →
    record_by elements table width traces r ≡ Ok next → instants_of next ≡ instants_of traces + 1
lines-counted elements columns table width traces next r same wide good =
    let reads : Reads elements columns traces next r =
    reads_record elements columns traces next r
    (sym (record_by-table elements columns table width traces r same wide) ∙ good) in
    ap instants_of reads.is ∙ count_either (is_last reads.instant.0 traces) traces reads.instant.0
    reads.instant.1 refl

-- the reading of a text ends with the traces so far where nothing is left
pub lines-end :
    (elements : Elements) (columns : Record) (first traces : Traces) (text rest begun : List ℕ) →
    with_records elements columns first (plain_records text)
    ≡ with_records elements columns traces (plain_records rest) →
    plain_records rest ≡ begun_records begun → (length begun == 0) ≡ true →
    with_records elements columns first (plain_records text) ≡ Ok traces
unfolding with_records
lines-end elements columns first traces text rest begun so_far skipped none =
    so_far ∙ ap (with_records elements columns traces) (skipped ∙ begun-none begun none)

-- a refusal of the next record is the refusal of the text
pub lines-refused :
    (elements : Elements) (columns : Record) (table : List Column) (width : ℕ)
    (first traces : Traces) (text rest begun : List ℕ) (e : TraceError) →
    with_records elements columns first (plain_records text)
    ≡ with_records elements columns traces (plain_records rest) →
    plain_records rest ≡ begun_records begun → (length begun == 0) ≡ false →
    table ≡ map (column_of columns) elements → width ≡ length columns →
    IsRefusal (record_by elements table width traces (record_of begun)) e →
    IsRefusal (with_records elements columns first (plain_records text)) e
lines-refused elements columns table width first traces text rest begun e so_far skipped some same
    wide bad =
    ⊎_elim (λ (h : error_number e ≡ 0). inl h)
    (λ (h : record_by elements table width traces (record_of begun) ≡ Err (error_number e)).
    inr (so_far ∙ further elements columns traces rest begun skipped some
    ∙ ap (then_read (λ t. with_records elements columns t (plain_records (after_line begun))))
    (sym (record_by-table elements columns table width traces (record_of begun) same wide) ∙ h)))
    bad

other_header : (elements : Elements) (records : List Record) → has_header elements records ≡ false
    → reading elements records ≡ Err 14
other_header elements [] other = reading-none elements
other_header elements (header ∷ rows) other = reading-other elements header rows other

-- a text whose first record is no header has the outcome 14
pub text-other :
    (elements : Elements) (text body : List ℕ) → length text ≤ 1073741824 →
    records_of text ≡ plain_records body → has_header elements (plain_records body) ≡ false →
    outcome elements text ≡ Err 14
text-other elements text body short plain other =
    outcome-records _ _ _ short plain ∙ other_header elements (plain_records body) other

-- the outcome of a text with a header is the reading of the records after it
pub text-headed :
    (elements : Elements) (text body rest : List ℕ) (header : Record) →
    length text ≤ 1073741824 → records_of text ≡ plain_records body →
    plain_records body ≡ header ∷ plain_records rest → is_header elements header ≡ true →
    outcome elements text ≡ with_records elements (after_first header) [] (plain_records rest)
text-headed elements text body rest header short plain begun headed =
    outcome-records _ _ _ short (plain ∙ begun) ∙ reading-rows _ _ _ headed

-- `text-headed` for the reading that begins with the empty recording `before`
pub text-read :
    (elements : Elements) (text body rest : List ℕ) (header : Record) (before : Recording)
    (read : Result Traces ℕ) →
    length text ≤ 1073741824 → records_of text ≡ plain_records body →
    plain_records body ≡ header ∷ plain_records rest → is_header elements header ≡ true →
    before ≡ record { signature = elements; traces = [] } →
    with_records before.signature (after_first header) before.traces (plain_records rest) ≡ read →
    outcome elements text ≡ read
text-read elements text body rest header before read short plain begun headed none good =
    text-headed _ _ _ _ _ short plain begun headed
    ∙ ap (λ (r : Recording). with_records r.signature (after_first header) r.traces
    (plain_records rest)) (sym none)
    ∙ good

-- a refusal of the records after the header is that of the text
pub text-refused :
    (elements : Elements) (text body rest : List ℕ) (header : Record) (before : Recording)
    (e : TraceError) →
    length text ≤ 1073741824 → records_of text ≡ plain_records body →
    plain_records body ≡ header ∷ plain_records rest → is_header elements header ≡ true →
    before ≡ record { signature = elements; traces = [] } →
    IsRefusal (with_records before.signature (after_first header) before.traces
    (plain_records rest)) e →
    Refuses elements text e
text-refused elements text body rest header before e short plain begun headed none bad =
    ⊎_elim (λ (h : error_number e ≡ 0). inl h)
    (λ (h : with_records before.signature (after_first header) before.traces (plain_records rest)
    ≡ Err (error_number e)).
    refused _ _ _ (text-read _ _ _ _ _ _ _ short plain begun headed none h)) bad
