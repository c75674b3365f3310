-- A text that is read part by part, each part by itself.
use Rattle.std.proofs.Common.{ℕ, ◌≡◌, ◌≤◌, true, false, List, [], ◌∷◌, ◌++◌, length}
use Rattle.std.proofs.Common.{Ok}
use Rattle.std.proofs.Common.{Err, sym, ap, ◌∙◌, subst, refl, inl, inr, ⊎_elim, ◌⊎◌, append_assoc}
use Rattle.std.proofs.lemmas.List.{append-nil}
use Rattle.std.specs.List.{AllZip}
use Rattle.csv.specs.Machine.{next_record}
use Rattle.csv.specs.Reading.{default_config, records, records_from, strip_bom}
use Rattle.csv.specs.Records.{fields_of}
use Rattle.lb_static.specs.Signature.{Elements}
use Rattle.lb_traces.specs.Traces.{IsRecording, Traces}
use Rattle.lb_traces.proofs.Recordings.{IsRecording-none}
use Rattle.lb_trace.specs.declared.error.TraceError.{TraceError}
use Rattle.lb_trace.specs.declared.table.ColumnTable.{ColumnTable}
use Rattle.lb_trace.specs.Chunks.{is_ended}
use Rattle.lb_trace.specs.Errors.{IsRefusal, error_number}
use Rattle.lb_trace.specs.Plain.{has_quote, plain_records}
use Rattle.lb_trace.specs.Refusals.{outcome, then_read, with_record, with_records}
use Rattle.lb_trace.specs.Spelling.{Record, SpellsInstant, instants, records_of}
use Rattle.lb_trace.specs.Tables.{columns_in}
use Rattle.lb_trace.specs.Texts.{IsFront, IsHead}
use Rattle.lb_trace.proofs.ChunkTexts.{strip-ended, strip-first}
use Rattle.lb_trace.proofs.Completeness.{complete}
use Rattle.lb_trace.proofs.Lines.{plain-none, plain-skip}
use Rattle.lb_trace.proofs.Outcomes.{outcome-records, reading-rows}
use Rattle.lb_trace.proofs.PlainPrefixes.{plain_front}
use Rattle.lb_trace.proofs.PlainRecords.{plain_text}
use Rattle.lb_trace.proofs.Readings.{with_records-append}
use Rattle.lb_trace.proofs.Soundness.{Sound, sound}

-- ## The text behind a header

-- the records of a text are the header and those of the text behind it
pub head_records : (elements : Elements) (table : ColumnTable) (head rest : List ℕ)
    → IsHead elements table head → is_ended head ≡ true
    → records_of (head ++ rest) ≡ fields_of table.header ∷ records default_config rest
unfolding records_of
head_records elements table head rest is ended =
    ap (records default_config) (strip-first head rest is.long)
    ∙ plain_front (strip_bom head) rest is.plain (strip-ended head is.long ended)
    ∙ ap (λ rs. rs ++ records default_config rest) is.only

-- `head_records` where nothing stands behind the header
pub head_alone : (elements : Elements) (table : ColumnTable) (head : List ℕ)
    → IsHead elements table head
    → records_of (head ++ []) ≡ fields_of table.header ∷ records default_config []
unfolding records_of records_from next_record
head_alone elements table head is =
    ap (λ t. records default_config (strip_bom t)) (append-nil head)
    ∙ plain_text (strip_bom head) is.plain ∙ is.only

-- the outcome of a text is the reading of the records behind its header
pub head_outcome : (elements : Elements) (table : ColumnTable) (head rest : List ℕ)
    → IsHead elements table head → (is_ended head ≡ true) ⊎ (rest ≡ [])
    → length (head ++ rest) ≤ 1073741824
    → outcome elements (head ++ rest)
    ≡ with_records elements (columns_in table) [] (records default_config rest)
head_outcome elements table head rest is end short =
    let all : records_of (head ++ rest) ≡ fields_of table.header ∷ records default_config rest =
    ⊎_elim (λ (h : is_ended head ≡ true). head_records _ _ _ _ is h) (λ (h : rest ≡ []).
    subst (λ t. records_of (head ++ t) ≡ fields_of table.header ∷ records default_config t)
    (sym h) (head_alone elements table head is))
    end in
    outcome-records _ _ _ short all ∙ reading-rows _ _ _ is.headed

-- ## The front of a text

pub front_none : IsFront [] []
front_none = record { gives = λ rest. refl }

-- whole lines without quotes have their records, whatever follows them
pub front_ended : (text : List ℕ) → has_quote text ≡ false → is_ended text ≡ true
    → IsFront text (plain_records text)
front_ended text plain ended = record { gives = λ rest. plain_front text rest plain ended }

-- two fronts, one after the other, have the records of both
pub front_more : (first second : List ℕ) (rows more : List Record) → IsFront first rows
    → IsFront second more → IsFront (first ++ second) (rows ++ more)
front_more first second rows more one two = record {
  gives = λ rest.
      ap (records default_config) (append_assoc first second rest)
      ∙ one.gives (second ++ rest)
      ∙ ap (λ rs. rows ++ rs) (two.gives rest)
      ∙ sym (append_assoc rows more (records default_config rest));
}

-- ## The end of a line before a text

no_mark : (text : List ℕ) → strip_bom (10 ∷ text) ≡ 10 ∷ text
unfolding strip_bom
no_mark [] = refl
no_mark (b ∷ []) = refl
no_mark (b ∷ c ∷ rest) = refl

-- behind a line feed a text keeps its records, also where it begins with a byte order mark
pub line_end_records : (text : List ℕ)
    → records_of (10 ∷ text) ≡ records default_config text
unfolding records_of
line_end_records text =
    ap (records default_config) (no_mark text)
    ∙ plain_front (10 ∷ []) text refl refl
    ∙ ap (λ rs. rs ++ records default_config text) (plain-skip 10 [] refl ∙ plain-none)

-- ## Parts that are read by themselves

-- the records of a part that is read by itself spell the instants that are read of it
pub part_spells : (elements : Elements) (columns : Record) (records : List Record) (set : Traces)
    → with_records elements columns [] records ≡ Ok set
    → AllZip (SpellsInstant elements columns) records (instants set)
part_spells elements columns records set read =
    let s : Sound elements columns [] set records =
    sound elements columns [] set records (IsRecording-none elements) read in
    subst (AllZip (SpellsInstant elements columns) records) (sym s.is) s.spelled

-- the records of a part are read as its traces also behind others, where all are lawful together
pub part_behind : (elements : Elements) (columns : Record) (part : List Record)
    (traces set : Traces)
    → with_records elements columns [] part ≡ Ok set
    → IsRecording record { signature = elements; traces = traces ++ set }
    → with_records elements columns traces part ≡ Ok (traces ++ set)
part_behind elements columns part traces set read lawful =
    complete _ _ _ _ _ lawful (part_spells _ _ _ _ read)

-- the records of two parts, each read by itself, are read as the traces of both
pub joined_parts : (elements : Elements) (columns : Record) (done part : List Record)
    (traces set : Traces)
    → with_records elements columns [] done ≡ Ok traces
    → with_records elements columns [] part ≡ Ok set
    → IsRecording record { signature = elements; traces = traces ++ set }
    → with_records elements columns [] (done ++ part) ≡ Ok (traces ++ set)
joined_parts elements columns done part traces set first second lawful =
    with_records-append elements columns [] done part
    ∙ ap (then_read (λ t. with_records elements columns t part)) first
    ∙ part_behind _ _ _ _ _ second lawful

-- a refusal of records behind the traces of a part is the refusal of the records of both
pub refused_behind : (elements : Elements) (columns : Record) (done more : List Record)
    (traces : Traces) (e : TraceError)
    → with_records elements columns [] done ≡ Ok traces
    → IsRefusal (with_records elements columns traces more) e
    → IsRefusal (with_records elements columns [] (done ++ more)) e
refused_behind elements columns done more traces e first bad =
    subst (λ o. IsRefusal o e)
    (sym (with_records-append elements columns [] done more
    ∙ ap (then_read (λ t. with_records elements columns t more)) first))
    bad

-- a refusal of some records is the refusal of all records that begin with them
pub refused_on : (elements : Elements) (columns : Record) (traces : Traces)
    (some more : List Record) (e : TraceError)
    → IsRefusal (with_records elements columns traces some) e
    → IsRefusal (with_records elements columns traces (some ++ more)) e
refused_on elements columns traces some more e bad =
    ⊎_elim (λ (h : error_number e ≡ 0). inl h)
    (λ (h : with_records elements columns traces some ≡ Err (error_number e)).
    inr (with_records-append elements columns traces some more
    ∙ ap (then_read (λ ts. with_records elements columns ts more)) h))
    bad

-- a refusal of one record is the refusal of the list of this record
pub refused_one : (elements : Elements) (columns : Record) (traces : Traces) (r : Record)
    (e : TraceError)
    → IsRefusal (with_record elements columns traces r) e
    → IsRefusal (with_records elements columns traces (r ∷ [])) e
unfolding with_records
refused_one elements columns traces r e bad =
    ⊎_elim (λ (h : error_number e ≡ 0). inl h)
    (λ (h : with_record elements columns traces r ≡ Err (error_number e)).
    inr (ap (then_read (λ ts. Ok ts)) h))
    bad
