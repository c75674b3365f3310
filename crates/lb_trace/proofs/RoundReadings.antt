-- The progress of the reading of the records of a text.
use Rattle.std.proofs.Common.{ℕ, ◌≡◌, ◌==◌, true, false, List, [], ◌∷◌, ◌++◌, length, map, Ok, refl}
use Rattle.std.proofs.Common.{sym, ap, ◌∙◌, append_assoc, subst, Some, None}
use Rattle.csv.specs.Records.{field_at}
use Rattle.lb_static.specs.Signature.{Elements}
use Rattle.lb_traces.specs.Traces.{Traces}
use Rattle.lb_trace.specs.declared.error.TraceError.{TraceError}
use Rattle.lb_trace.specs.declared.header.Column.{Column}
use Rattle.lb_trace.specs.Errors.{IsRefusal}
use Rattle.lb_trace.specs.Lines.{after_line, record_of}
use Rattle.lb_trace.specs.Mirrors.{column_of, record_by}
use Rattle.lb_trace.specs.Plain.{plain_records}
use Rattle.lb_trace.specs.Refusals.{is_last, then_read, with_record, with_records}
use Rattle.lb_trace.specs.RoundReaders.{goes_on}
use Rattle.lb_trace.specs.Rounds.{ReadsUpTo}
use Rattle.lb_trace.specs.Scan.{begun_records}
use Rattle.lb_trace.specs.Spelling.{Record}
use Rattle.lb_trace.proofs.PlainRecordings.{begun-more}
use Rattle.lb_trace.proofs.Readings.{record_by-table, with_records-append}

-- nothing of a text has been read at its start
pub reads-none : (elements : Elements) (columns : Record) (traces : Traces) (text : List ℕ)
    → ReadsUpTo elements columns traces traces text text
unfolding with_records
reads-none elements columns traces text = record { done = []; read = refl; cut = refl }

-- the reading goes on to the text after one more record
pub reads-more :
    (elements : Elements) (columns : Record) (table : List Column) (width : ℕ)
    (first traces next : Traces) (text rest begun after : List ℕ) →
    ReadsUpTo elements columns first traces text rest →
    plain_records rest ≡ begun_records begun → (length begun == 0) ≡ false →
    after ≡ after_line begun → table ≡ map (column_of columns) elements → width ≡ length columns →
    record_by elements table width traces (record_of begun) ≡ Ok next →
    ReadsUpTo elements columns first next text after
unfolding with_records
reads-more elements columns table width first traces next text rest begun after so_far skipped some
    is same wide good =
    let r : Record = record_of begun in
    record {
      done = so_far.done ++ r ∷ [];
      read = with_records-append elements columns first so_far.done (r ∷ [])
          ∙ ap (then_read (λ t. with_records elements columns t (r ∷ []))) so_far.read
          ∙ ap (then_read (λ t. Ok t))
          (sym (record_by-table elements columns table width traces r same wide) ∙ good);
      cut = so_far.cut
          ∙ ap (λ rs. so_far.done ++ rs)
          (skipped ∙ begun-more begun some
          ∙ ap (λ left. r ∷ plain_records left) (sym is))
          ∙ sym (append_assoc so_far.done (r ∷ []) (plain_records after));
    }

-- a refusal by the table is the refusal of the record
pub reads-refused :
    (elements : Elements) (columns : Record) (table : List Column) (width : ℕ)
    (before after : Traces) (r : Record) (e : TraceError) →
    table ≡ map (column_of columns) elements → width ≡ length columns → after ≡ before →
    IsRefusal (record_by elements table width before r) e →
    IsRefusal (with_record elements columns after r) e
reads-refused elements columns table width before after r e same wide kept bad =
    subst (λ o. IsRefusal o e)
    (record_by-table _ _ _ _ _ _ same wide
    ∙ ap (λ traces. with_record elements columns traces r) (sym kept))
    bad

-- ## The last trace

-- a record with a name goes on if the last trace has this name
pub goes_on-some : (r : Record) (name : List ℕ) (traces : Traces) → field_at r 0 ≡ Some name
    → goes_on r traces ≡ is_last name traces
unfolding field_at
goes_on-some [] name traces found = cc found
goes_on-some (first ∷ cells) name traces found = ap (λ n. is_last n traces) (cc found)

-- a record without a name goes on
pub goes_on-none : (r : Record) (traces : Traces) → field_at r 0 ≡ None → goes_on r traces ≡ true
unfolding field_at
goes_on-none [] traces missing = refl
goes_on-none (first ∷ cells) traces missing = cc missing
