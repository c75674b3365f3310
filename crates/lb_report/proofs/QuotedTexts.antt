-- Texts that are judged by a reader of records.
use Rattle.std.proofs.Common.{ℕ, ◌≡◌, ◌≤◌, true, List, [], ◌∷◌, ◌++◌, length, Ok, refl, sym, ap}
use Rattle.std.proofs.Common.{◌∙◌, subst}
use Rattle.std.proofs.Common.{append_assoc}
use Rattle.std.proofs.lemmas.List.{append-nil}
use Rattle.csv.specs.Records.{fields_of}
use Rattle.lb_static.specs.Signature.{Elements}
use Rattle.lb_flat.specs.declared.program.FlatProgram.{FlatProgram}
use Rattle.lb_trace.specs.declared.error.TraceError.{TraceError}
use Rattle.lb_trace.specs.declared.table.ColumnTable.{ColumnTable}
use Rattle.lb_trace.specs.Errors.{IsRefusal, error_number}
use Rattle.lb_trace.specs.Lines.{record_of}
use Rattle.lb_trace.specs.Refusals.{outcome, with_records}
use Rattle.lb_trace.specs.Spelling.{Record, after_first, is_header, records_of}
use Rattle.lb_trace.specs.Tables.{columns_in}
use Rattle.lb_trace.proofs.Outcomes.{outcome-records, reading-rows}
use Rattle.lb_trace.proofs.TextReadings.{refused_on}
use Rattle.lb_feed.specs.Windows.{HasTaken, Left, text_in}
use Rattle.lb_feed.specs.declared.window.Window.{Window}
use Rattle.lb_feed.proofs.WindowReads.{fault_on, read_on}
use Rattle.lb_report.specs.JudgedParts.{HasHaltedAt, HasRefusedText, IsHalt, IsHeadHalted}
use Rattle.lb_report.specs.JudgedParts.{IsJudgedFrom, IsLastHalt, IsPartRead, IsTextJudged}
use Rattle.lb_report.specs.JudgedParts.{IsTextRefused}
use Rattle.lb_report.specs.QuotedTexts.{IsWholeJudged, IsWholeRefused}
use Rattle.lb_report.specs.declared.rounds.Halt.{Halt}
use Rattle.lb_report.specs.declared.rounds.Halt.TheVariants as halt
use Rattle.lb_report.specs.declared.rounds.Judged.{Judged}
use Rattle.lb_report.specs.declared.rounds.State.{State}

-- ## Records

-- a halt of some records is a halt of all records that begin with them
pub halt_on : (elements : Elements) (table : ColumnTable) (rows more : List Record) (h : Halt)
    → IsHalt elements table rows h → IsHalt elements table (rows ++ more) h
halt_on elements table rows more (halt.Load e) is = is
halt_on elements table rows more (halt.Refused e) is = is
halt_on elements table rows more (halt.Early e) is =
    refused_on elements (columns_in table) [] rows more e is
halt_on elements table rows more (halt.Stopped judged line) is = record {
  done = is.done;
  more = is.more ++ more;
  is = ap (λ rs. rs ++ more) is.is
      ∙ append_assoc is.done (record_of line.items ∷ is.more) more;
  traces = is.traces;
  read = is.read;
  names = is.names;
}
halt_on elements table rows more halt.Quoted is = tt

-- an error for want of memory halts a text before a record is read
pub halted_at_once : (elements : Elements) (table : ColumnTable) (text : List ℕ)
    (rows : List Record) (e : TraceError)
    → error_number e ≡ 0 → HasHaltedAt elements table text [] rows (halt.Refused e)
halted_at_once elements table text rows e none = record {
  more = [];
  others = records_of text;
  is = refl;
  halt = none;
}

-- a state with the same judged traces and the same rows has read the same records
pub part_kept : (p : FlatProgram) (elements : Elements) (table : ColumnTable)
    (rows : List Record) (s next : State)
    → IsPartRead p elements table rows s → next.judged ≡ s.judged
    → next.round.recorder.rows ≡ s.round.recorder.rows
    → IsPartRead p elements table rows next
part_kept p elements table rows s next is same kept = record {
  done = is.done;
  part = is.part;
  is = is.is;
  judged = rw same is.judged;
  set = is.set;
  read = is.read;
  held = kept ∙ is.held;
}

-- ## A text from its begin

-- the outcome of a text with a header is that of the records behind it
behind_header : (elements : Elements) (table : ColumnTable) (text : List ℕ) (header : Record)
    (rows : List Record)
    → length text ≤ 1073741824 → is_header elements header ≡ true
    → fields_of table.header ≡ header → records_of text ≡ header ∷ rows
    → outcome elements text ≡ with_records elements (columns_in table) [] rows
behind_header elements table text header rows short headed same all =
    outcome-records elements text (header ∷ rows) short all
    ∙ reading-rows elements header rows headed
    ∙ ap (λ (h : Record). with_records elements (after_first h) [] rows) (sym same)

pub whole_judged : (p : FlatProgram) (elements : Elements) (table : ColumnTable) (text : List ℕ)
    (header : Record) (j : Judged)
    → is_header elements header ≡ true → fields_of table.header ≡ header
    → IsJudgedFrom p elements table text (header ∷ []) [] j
    → IsWholeJudged p elements text j
whole_judged p elements table text header j headed same from = record {
  traces = from.judged.traces;
  given = λ short.
      behind_header elements table text header from.more short headed same from.is
      ∙ from.judged.read;
  judged = from.judged.judged;
}

pub whole_refused : (elements : Elements) (table : ColumnTable) (text : List ℕ)
    (header : Record) (h last : Halt)
    → is_header elements header ≡ true → fields_of table.header ≡ header
    → HasHaltedAt elements table text (header ∷ []) [] h
    → ((rows : List Record) → IsHalt elements table rows h → IsLastHalt elements table rows last)
    → IsWholeRefused elements text last
whole_refused elements table text header h (halt.Load e) headed same at known =
    known at.more at.halt
whole_refused elements table text header h (halt.Refused e) headed same at known = λ short.
    subst (λ o. IsRefusal o e)
    (sym (behind_header elements table text header (at.more ++ at.others) short headed same at.is))
    (refused_on elements (columns_in table) [] at.more at.others e (known at.more at.halt))
whole_refused elements table text header h (halt.Early e) headed same at known = tt
whole_refused elements table text header h (halt.Stopped judged line) headed same at known = tt
whole_refused elements table text header h halt.Quoted headed same at known = tt

-- ## A text that is in a window

pub taken_judged : (p : FlatProgram) (elements : Elements) (a b : Window) (x y : Left)
    (j : Judged)
    → HasTaken a b x y → b.is_over ≡ true → IsWholeJudged p elements (text_in b) j
    → IsTextJudged p elements a b x y j
taken_judged p elements a b x y j taken over whole = record {
  read = taken.read;
  over = over;
  traces = whole.traces;
  given = subst (λ t. length t ≤ 1073741824 → outcome elements t ≡ Ok whole.traces) taken.taken
      whole.given;
  judged = whole.judged;
}

pub taken_refused : (elements : Elements) (a b : Window) (x y : Left) (h : Halt)
    → HasTaken a b x y → b.is_over ≡ true → IsWholeRefused elements (text_in b) h
    → IsTextRefused elements a b x y h
taken_refused elements a b x y (halt.Load e) taken over whole = absurd whole
taken_refused elements a b x y (halt.Refused e) taken over whole = record {
  read = taken.read;
  refused = λ tail none.
      let all : text_in b ≡ (text_in a ++ taken.read.more) ++ tail =
      taken.taken ∙ sym (append-nil (text_in a ++ taken.read.more))
      ∙ ap (λ t. (text_in a ++ taken.read.more) ++ t) (sym (none over)) in
      subst (λ t. length t ≤ 1073741824 → IsRefusal (outcome elements t) e) all whole;
}
taken_refused elements a b x y (halt.Early e) taken over whole = taken.read
taken_refused elements a b x y (halt.Stopped judged line) taken over whole = taken.read
taken_refused elements a b x y halt.Quoted taken over whole = taken.read

-- ## A text whose first bytes stood in the window

text_on : (a b : Window) (x y : Left) (more : List ℕ) → (taken : HasTaken a b x y)
    → text_in b ++ more ≡ text_in a ++ (taken.read.more ++ more)
text_on a b x y more taken =
    ap (λ t. t ++ more) taken.taken ∙ append_assoc (text_in a) taken.read.more more

pub judged_on : (p : FlatProgram) (elements : Elements) (a b c : Window) (x y z : Left)
    (j : Judged)
    → HasTaken a b x y → IsTextJudged p elements b c y z j
    → IsTextJudged p elements a c x z j
unfolding read_on
judged_on p elements a b c x y z j taken is = record {
  read = read_on a b c x y z taken.read is.read;
  over = is.over;
  traces = is.traces;
  given = subst (λ t. length t ≤ 1073741824 → outcome elements t ≡ Ok is.traces)
      (text_on a b x y is.read.more taken) is.given;
  judged = is.judged;
}

text_refused_on : (elements : Elements) (a b c : Window) (x y z : Left) (e : TraceError)
    → HasTaken a b x y → HasRefusedText elements b c y z e
    → HasRefusedText elements a c x z e
unfolding read_on
text_refused_on elements a b c x y z e taken is = record {
  read = read_on a b c x y z taken.read is.read;
  refused = λ tail none.
      subst (λ t. length (t ++ tail) ≤ 1073741824 → IsRefusal (outcome elements (t ++ tail)) e)
      (text_on a b x y is.read.more taken) (is.refused tail none);
}

pub refused_further : (elements : Elements) (a b c : Window) (x y z : Left) (h : Halt)
    → HasTaken a b x y → IsTextRefused elements b c y z h
    → IsTextRefused elements a c x z h
refused_further elements a b c x y z (halt.Load e) taken is =
    fault_on a b x y z e taken.read is
refused_further elements a b c x y z (halt.Refused e) taken is =
    text_refused_on elements a b c x y z e taken is
refused_further elements a b c x y z (halt.Early e) taken is =
    read_on a b c x y z taken.read is
refused_further elements a b c x y z (halt.Stopped judged line) taken is =
    read_on a b c x y z taken.read is
refused_further elements a b c x y z halt.Quoted taken is =
    read_on a b c x y z taken.read is

-- ## A header that is not there

pub head_refused : (elements : Elements) (a b : Window) (x y : Left) (h : Halt)
    → IsHeadHalted elements a b x y h → IsTextRefused elements a b x y h
head_refused elements a b x y (halt.Load e) is = is
head_refused elements a b x y (halt.Refused e) is = is
head_refused elements a b x y (halt.Early e) is = is
head_refused elements a b x y (halt.Stopped judged line) is = is
head_refused elements a b x y halt.Quoted is = is.0.read
