-- Records that a reader of a text gives, read behind others.
use Rattle.std.proofs.Common.{ℕ, ◌≡◌, true, List, [], ◌∷◌, ◌++◌, sym, ap, ◌∙◌, subst, append_assoc}
use Rattle.std.proofs.lemmas.List.{append-nil}
use Rattle.csv.specs.Reading.{default_config, records}
use Rattle.lb_static.specs.Signature.{Elements}
use Rattle.lb_flat.specs.declared.program.FlatProgram.{FlatProgram}
use Rattle.lb_trace.specs.declared.table.ColumnTable.{ColumnTable}
use Rattle.lb_trace.specs.Readers.{Reaches, TextReader}
use Rattle.lb_trace.specs.Spelling.{Record, records_of}
use Rattle.lb_trace.proofs.Readings.{reaches-first}
use Rattle.lb_trace.proofs.TextReadings.{line_end_records}
use Rattle.lb_feed.specs.Windows.{HasTaken, Left, text_in}
use Rattle.lb_feed.specs.declared.window.Window.{Window}
use Rattle.lb_report.specs.JudgedParts.{HasHalted, HasHaltedAt, IsHalt, IsJudgedFrom}
use Rattle.lb_report.specs.JudgedParts.{IsJudgedPart, IsPartRead, IsRestHalted, IsRestJudged}
use Rattle.lb_report.specs.declared.rounds.Halt.{Halt}
use Rattle.lb_report.specs.declared.rounds.Halt.TheVariants as halt
use Rattle.lb_report.specs.declared.rounds.Judged.{Judged}
use Rattle.lb_report.specs.declared.rounds.State.{State}

-- ## Record by record

-- a reader has given `more` records behind `given`, and they have been read
pub record ReadOn (p : FlatProgram) (elements : Elements) (table : ColumnTable) (text : List ℕ)
    (given rows : List Record) (reader : TextReader) (s : State)
    : Type 0 where
  pub more : List Record
  pub reaches : Reaches text (given ++ more) reader
  pub part : IsPartRead p elements table (rows ++ more) s

pub on_none : (p : FlatProgram) (elements : Elements) (table : ColumnTable) (text : List ℕ)
    (given rows : List Record) (reader : TextReader) (s : State)
    → Reaches text given reader → IsPartRead p elements table rows s
    → ReadOn p elements table text given rows reader s
on_none p elements table text given rows reader s reaches part = record {
  more = [];
  reaches = subst (λ rs. Reaches text rs reader) (sym (append-nil given)) reaches;
  part = subst (λ rs. IsPartRead p elements table rs s) (sym (append-nil rows)) part;
}

pub on_more : (p : FlatProgram) (elements : Elements) (table : ColumnTable) (text : List ℕ)
    (given rows : List Record) (a b : TextReader) (s next : State) (r : Record)
    → (at : ReadOn p elements table text given rows a s)
    → Reaches text ((given ++ at.more) ++ r ∷ []) b
    → IsPartRead p elements table ((rows ++ at.more) ++ r ∷ []) next
    → ReadOn p elements table text given rows b next
on_more p elements table text given rows a b s next r at reaches part = record {
  more = at.more ++ r ∷ [];
  reaches = subst (λ rs. Reaches text rs b) (append_assoc given at.more (r ∷ [])) reaches;
  part = subst (λ rs. IsPartRead p elements table rs next) (append_assoc rows at.more (r ∷ []))
      part;
}

-- where there is no further record and all are judged, the text is judged
pub on_end : (p : FlatProgram) (elements : Elements) (table : ColumnTable) (text : List ℕ)
    (given rows : List Record) (reader : TextReader) (s : State) (j : Judged)
    → (at : ReadOn p elements table text given rows reader s)
    → records_of text ≡ given ++ at.more → IsJudgedPart p elements table (rows ++ at.more) j
    → IsJudgedFrom p elements table text given rows j
on_end p elements table text given rows reader s j at all judged = record {
  more = at.more;
  is = all;
  judged = judged;
}

-- a halt of the records read is a halt of the text
pub on_halt : (elements : Elements) (table : ColumnTable) (text : List ℕ)
    (given rows more : List Record) (reader : TextReader) (h : Halt)
    → Reaches text (given ++ more) reader → IsHalt elements table (rows ++ more) h
    → HasHaltedAt elements table text given rows h
on_halt elements table text given rows more reader h reaches halt =
    let rest = reaches-first text (given ++ more) reader reaches in
    record {
      more = more;
      others = rest.0;
      is = rest.1 ∙ append_assoc given more rest.0;
      halt = halt;
    }

-- a halt of the records read and one more is a halt of the text
pub on_refused : (elements : Elements) (table : ColumnTable) (text : List ℕ)
    (given rows more : List Record) (reader : TextReader) (r : Record) (h : Halt)
    → Reaches text ((given ++ more) ++ r ∷ []) reader
    → IsHalt elements table ((rows ++ more) ++ r ∷ []) h
    → HasHaltedAt elements table text given rows h
on_refused elements table text given rows more reader r h reaches halt =
    on_halt elements table text given rows (more ++ r ∷ []) reader h
    (subst (λ rs. Reaches text rs reader) (append_assoc given more (r ∷ [])) reaches)
    (subst (λ rs. IsHalt elements table rs h) (append_assoc rows more (r ∷ [])) halt)

-- ## All that is left of a text, behind the end of a line

-- the rest is judged where the text of the window, behind the end of a line, is judged
pub rest_judged : (p : FlatProgram) (elements : Elements) (table : ColumnTable)
    (rows : List Record) (before after : Window) (old new : Left) (line : List ℕ) (j : Judged)
    → HasTaken before after old new → line ≡ 10 ∷ text_in after → after.is_over ≡ true
    → IsJudgedFrom p elements table line [] rows j
    → IsRestJudged p elements table rows before after old new j
rest_judged p elements table rows before after old new line j taken whole over from =
    let all : from.more ≡ records default_config (text_in before ++ taken.read.more) =
    sym from.is ∙ ap records_of whole ∙ line_end_records (text_in after)
    ∙ ap (records default_config) taken.taken in
    record {
      read = taken.read;
      over = over;
      judged = subst (λ rs. IsJudgedPart p elements table (rows ++ rs) j) all from.judged;
    }

-- the rest is halted where the text of the window, behind the end of a line, is halted
pub rest_halted : (elements : Elements) (table : ColumnTable)
    (rows : List Record) (before after : Window) (old new : Left) (line : List ℕ) (h : Halt)
    → HasTaken before after old new → line ≡ 10 ∷ text_in after → after.is_over ≡ true
    → HasHaltedAt elements table line [] rows h
    → HasHalted elements table rows before after old new h
rest_halted elements table rows before after old new line h taken whole over at =
    let text : List ℕ = text_in before ++ taken.read.more in
    let all : records default_config text ≡ at.more ++ at.others =
    ap (records default_config) (sym taken.taken) ∙ sym (line_end_records (text_in after))
    ∙ ap records_of (sym whole) ∙ at.is in
    record {
      read = taken.read;
      more = at.more;
      begins = λ tail none. (
        at.others,
        ap (λ t. records default_config (text ++ t)) (none over)
            ∙ ap (records default_config) (append-nil text) ∙ all,
      );
      halt = at.halt;
    }

pub rest_stopped : (elements : Elements) (table : ColumnTable)
    (rows : List Record) (before after : Window) (old new : Left) (line : List ℕ) (h : Halt)
    → HasTaken before after old new → line ≡ 10 ∷ text_in after → after.is_over ≡ true
    → HasHaltedAt elements table line [] rows h
    → IsRestHalted elements table rows before after old new h
rest_stopped elements table rows before after old new line (halt.Load e) taken whole over at =
    absurd at.halt
rest_stopped elements table rows before after old new line (halt.Refused e) taken whole over at =
    rest_halted elements table rows before after old new line (halt.Refused e) taken whole over at
rest_stopped elements table rows before after old new line (halt.Early e) taken whole over at =
    rest_halted elements table rows before after old new line (halt.Early e) taken whole over at
rest_stopped elements table rows before after old new line (halt.Stopped judged text) taken whole
    over at =
    rest_halted elements table rows before after old new line (halt.Stopped judged text) taken whole
    over at
rest_stopped elements table rows before after old new line halt.Quoted taken whole over at =
    rest_halted elements table rows before after old new line halt.Quoted taken whole over at
