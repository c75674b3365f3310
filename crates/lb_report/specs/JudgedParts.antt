-- The records of a text that are read and judged so far.
-- This file says what data of the program mean; no definition of the language stands on it.
use Rattle.std.specs.Prelude.{ℕ, ◌≡◌, ◌≤◌, ◌⊎◌, List, [], ◌∷◌, ◌++◌, length, false, true}
use Rattle.std.specs.Prelude.{Result, Ok, Err, IfSome}
use Rattle.csv.specs.Reading.{default_config, records}
use Rattle.lb_static.specs.Signature.{Elements}
use Rattle.lb_traces.specs.Traces.{Recording, Traces}
use Rattle.lb_flat.specs.declared.program.FlatProgram.{FlatProgram}
use Rattle.lb_trace.specs.declared.error.TraceError.{TraceError}
use Rattle.lb_trace.specs.declared.roll.Roll.{Roll}
use Rattle.lb_trace.specs.declared.table.ColumnTable.{ColumnTable}
use Rattle.lb_trace.specs.Chunks.{is_ended}
use Rattle.lb_trace.specs.Errors.{IsRefusal, error_number}
use Rattle.lb_trace.specs.Lines.{record_of}
use Rattle.lb_trace.specs.Plain.{has_quote}
use Rattle.lb_trace.specs.Refusals.{outcome, with_records}
use Rattle.lb_trace.specs.Rolls.{IsRoll, IsRollOf, RefusesRows}
use Rattle.lb_trace.specs.Spelling.{Record, records_of}
use Rattle.lb_trace.specs.Tables.{columns_in}
use Rattle.lb_trace.specs.Texts.{IsHead}
use Rattle.lb_pool.specs.Correct.{AreVerdicts}
use Rattle.lb_feed.specs.Windows.{HasRead, HasTaken, IsLoadFault, IsWindow, Left, text_in}
use Rattle.lb_feed.specs.declared.window.Window.{Window}
use Rattle.lb_report.specs.Pieces.{BeginsWith, IsAllRead, IsFrontRead, IsOpenRound}
use Rattle.lb_report.specs.declared.pieces.Cut.{Cut}
use Rattle.lb_report.specs.declared.pieces.Cut.TheVariants as cut
use Rattle.lb_report.specs.declared.rounds.Halt.{Halt}
use Rattle.lb_report.specs.declared.rounds.Halt.TheVariants as halt
use Rattle.lb_report.specs.declared.rounds.Judged.{Judged}
use Rattle.lb_report.specs.declared.rounds.Reading.{Reading}
use Rattle.lb_report.specs.declared.rounds.Reading.TheVariants as reading
use Rattle.lb_report.specs.declared.rounds.State.{State}

-- `j` holds the names and verdicts of `traces`
pub record AreJudgedTraces (p : FlatProgram) (elements : Elements) (traces : Traces) (j : Judged)
    : Type 0 where
  pub names : IsRollOf elements j.roll traces
  pub verdicts : AreVerdicts p record { signature = elements; traces = traces } j.verdicts.items

-- `next` names the traces of `roll`, and behind them those of `set`
abbrev pub IsNamed : Roll → (set : Recording) → (next : Roll) → Type 0
IsNamed roll set next =
    (traces : Traces) → IsRollOf set.signature roll traces
    → IsRollOf set.signature next (traces ++ set.traces)

-- the records of the traces of `set` are refused behind those of `roll`
abbrev pub RefusesNames : Roll → (set : Recording) → Halt → Type 0
RefusesNames roll set (halt.Load e) = ⊥
RefusesNames roll set (halt.Refused e) = ⊥
RefusesNames roll set (halt.Early e) = RefusesRows roll set e
RefusesNames roll set (halt.Stopped judged line) = ⊥
RefusesNames roll set halt.Quoted = ⊥

-- `rows`, with no records before them, have been read and judged
pub record IsJudgedPart (p : FlatProgram) (elements : Elements) (table : ColumnTable)
    (rows : List Record) (j : Judged)
    : Type 0 where
  pub traces : Traces
  pub read : with_records elements (columns_in table) [] rows ≡ Ok traces
  pub judged : AreJudgedTraces p elements traces j

-- the names and the rounds of a state go together
pub record IsState (elements : Elements) (s : State) : Type 0 where
  pub roll : IsRoll s.judged.roll
  pub round : IsOpenRound elements s.round
  pub spare : IfSome s.spare (λ r. r.recorder.rows.signature ≡ elements)

-- the first of `rows` have been judged, and the others have been read
pub record IsPartRead (p : FlatProgram) (elements : Elements) (table : ColumnTable)
    (rows : List Record) (s : State)
    : Type 0 where
  pub done : List Record
  pub part : List Record
  pub is : rows ≡ done ++ part
  pub judged : IsJudgedPart p elements table done s.judged
  pub set : Traces
  pub read : with_records elements (columns_in table) [] part ≡ Ok set
  pub held : s.round.recorder.rows ≡ record { signature = elements; traces = set }

-- `line` is one of `rows`, and `roll` names the traces of those before it
pub record IsStopped (elements : Elements) (table : ColumnTable) (rows : List Record) (roll : Roll)
    (line : List ℕ)
    : Type 0 where
  pub done : List Record
  pub more : List Record
  pub is : rows ≡ done ++ record_of line ∷ more
  pub traces : Traces
  pub read : with_records elements (columns_in table) [] done ≡ Ok traces
  pub names : IsRollOf elements roll traces

-- why `rows`, with no records before them, are not judged
abbrev pub IsHalt : Elements → ColumnTable → List Record → Halt → Type 0
IsHalt elements table rows (halt.Load e) = ⊥
IsHalt elements table rows (halt.Refused e) = error_number e ≡ 0
IsHalt elements table rows (halt.Early e) =
    IsRefusal (with_records elements (columns_in table) [] rows) e
IsHalt elements table rows (halt.Stopped judged line) =
    IsStopped elements table rows judged.roll line.items
IsHalt elements table rows halt.Quoted = Unit {0}

-- what `s` has read, `next` has read too
abbrev pub KeepsPart : FlatProgram → Elements → (s next : State) → Type 0
KeepsPart p elements s next =
    (table : ColumnTable) → (rows : List Record) → IsPartRead p elements table rows s
    → IsPartRead p elements table rows next

-- what `s` has read is judged
abbrev pub JudgesPart : FlatProgram → Elements → State → Judged → Type 0
JudgesPart p elements s j =
    (table : ColumnTable) → (rows : List Record) → IsPartRead p elements table rows s
    → IsJudgedPart p elements table rows j

-- `h` says why what `s` has read is not judged
abbrev pub HaltsPart : FlatProgram → Elements → State → Halt → Type 0
HaltsPart p elements s h =
    (table : ColumnTable) → (rows : List Record) → IsPartRead p elements table rows s
    → IsHalt elements table rows h

-- the names that a halt keeps are a roll
abbrev pub HasRoll : Halt → Type 0
HasRoll (halt.Load e) = Unit {0}
HasRoll (halt.Refused e) = Unit {0}
HasRoll (halt.Early e) = Unit {0}
HasRoll (halt.Stopped judged line) = IsRoll judged.roll
HasRoll halt.Quoted = Unit {0}

-- memory ran out
abbrev pub IsSpent : Halt → Type 0
IsSpent h = (e : TraceError) × (h ≡ halt.Refused e) × (error_number e ≡ 0)

-- why `rows`, with no records before them, are refused, where that is certain
abbrev pub IsLastHalt : Elements → ColumnTable → List Record → Halt → Type 0
IsLastHalt elements table rows (halt.Load e) = ⊥
IsLastHalt elements table rows (halt.Refused e) =
    IsRefusal (with_records elements (columns_in table) [] rows) e
IsLastHalt elements table rows (halt.Early e) = Unit {0}
IsLastHalt elements table rows (halt.Stopped judged line) = Unit {0}
IsLastHalt elements table rows halt.Quoted = Unit {0}

-- all that a window and its feed had left has been read and judged behind `rows`
pub record IsRestJudged (p : FlatProgram) (elements : Elements) (table : ColumnTable)
    (rows : List Record) (before after : Window) (old new : Left) (j : Judged)
    : Type 0 where
  pub read : HasRead before after old new
  pub over : after.is_over ≡ true
  pub judged : IsJudgedPart p elements table
      (rows ++ records default_config (text_in before ++ read.more)) j

-- `IsRestJudged` of a rest without quotes
pub record IsPiecesJudged (p : FlatProgram) (elements : Elements) (table : ColumnTable)
    (rows : List Record) (before after : Window) (old new : Left) (j : Judged)
    : Type 0 where
  pub rest : IsRestJudged p elements table rows before after old new j
  pub plain : has_quote (text_in before ++ rest.read.more) ≡ false

-- the front of what a window and its feed had left has been read behind `rows`
pub record IsRestRead (p : FlatProgram) (elements : Elements) (table : ColumnTable)
    (rows : List Record) (before after : Window) (old new : Left) (s : State)
    : Type 0 where
  pub more : List Record
  pub text : IsFrontRead before after old new more
  pub part : IsPartRead p elements table (rows ++ more) s

-- all that a window and its feed had left has been read behind `rows`
pub record IsRestDone (p : FlatProgram) (elements : Elements) (table : ColumnTable)
    (rows : List Record) (before after : Window) (old new : Left) (s : State)
    : Type 0 where
  pub more : List Record
  pub text : IsAllRead before after old new more
  pub part : IsPartRead p elements table (rows ++ more) s

abbrev pub IsMoreRead :
    FlatProgram → Elements → ColumnTable → List Record → (before after : Window)
    → (old new : Left) → State → Type 0
IsMoreRead p elements table rows before after old new s =
    IsRestRead p elements table rows before after old new s
    ⊎ IsRestDone p elements table rows before after old new s

-- why the rest behind `rows` was not judged to its end
pub record HasHalted (elements : Elements) (table : ColumnTable) (rows : List Record)
    (before after : Window) (old new : Left) (h : Halt)
    : Type 0 where
  pub read : HasRead before after old new
  pub more : List Record
  pub begins : BeginsWith after.is_over (text_in before ++ read.more) more
  pub halt : IsHalt elements table (rows ++ more) h

-- `HasHalted`, or the feed is at fault
abbrev pub IsRestHalted :
    Elements → ColumnTable → List Record → (before after : Window) → (old new : Left) → Halt
    → Type 0
IsRestHalted elements table rows before after old new (halt.Load e) =
    IsLoadFault before old new e
IsRestHalted elements table rows before after old new (halt.Refused e) =
    HasHalted elements table rows before after old new (halt.Refused e)
IsRestHalted elements table rows before after old new (halt.Early e) =
    HasHalted elements table rows before after old new (halt.Early e)
IsRestHalted elements table rows before after old new (halt.Stopped judged line) =
    HasHalted elements table rows before after old new (halt.Stopped judged line)
IsRestHalted elements table rows before after old new halt.Quoted =
    HasHalted elements table rows before after old new halt.Quoted

-- all that a window and its feed had left is judged behind what `s` has read
abbrev pub JudgesRest :
    FlatProgram → Elements → ColumnTable → (before after : Window) → (old new : Left) → State
    → Judged → Type 0
JudgesRest p elements table before after old new s j =
    (rows : List Record) → IsPartRead p elements table rows s
    → IsRestJudged p elements table rows before after old new j

-- `h` says why that rest is not judged to its end
abbrev pub HaltsRest :
    FlatProgram → Elements → ColumnTable → (before after : Window) → (old new : Left) → State
    → Halt → Type 0
HaltsRest p elements table before after old new s h =
    (rows : List Record) → IsPartRead p elements table rows s
    → IsRestHalted elements table rows before after old new h

-- why the pieces of the rest behind `rows` were not judged to its end
abbrev pub IsReading :
    FlatProgram → Elements → ColumnTable → List Record → (before after : Window)
    → (old new : Left) → Reading → Type 0
IsReading p elements table rows before after old new (reading.Quoted s) =
    IsRestRead p elements table rows before after old new s
IsReading p elements table rows before after old new (reading.Halted h) =
    IsRestHalted elements table rows before after old new h

-- why the text was not judged to its end, where reading into the round of `s` was cut
abbrev pub IsReadingOf : FlatProgram → Elements → State → Cut → Reading → Type 0
IsReadingOf p elements s (cut.Load e) r = r ≡ reading.Halted (halt.Load e)
IsReadingOf p elements s (cut.Refused e) r = r ≡ reading.Halted (halt.Refused e)
IsReadingOf p elements s (cut.Stopped line) r =
    (h : Halt) × (r ≡ reading.Halted h) × HasRoll h
    × ((table : ColumnTable) (rows more : List Record) → IsPartRead p elements table rows s
    → IsHalt elements table (rows ++ record_of line.items ∷ more) h)
IsReadingOf p elements s cut.Quoted r = r ≡ reading.Quoted s

-- why the text was not judged to its end, where memory ran out and a read gave `r`
abbrev pub IsOutOfMemory : (r : Result (Unit {0}) Cut) → Halt → Type 0
IsOutOfMemory (Err (cut.Load e)) h = h ≡ halt.Load e
IsOutOfMemory (Err (cut.Refused e)) h = IsSpent h
IsOutOfMemory (Err (cut.Stopped line)) h = IsSpent h
IsOutOfMemory (Err cut.Quoted) h = IsSpent h
IsOutOfMemory (Ok x) h = IsSpent h

-- a reading that met a quote can go on: its state and window are sound, and the feed did not fail
abbrev pub IsReadOn : Elements → Window → (old new : Left) → Reading → Type 0
IsReadOn elements w old new (reading.Quoted s) =
    IsState elements s × IsWindow w × (new.failures ≡ old.failures)
IsReadOn elements w old new (reading.Halted h) = HasRoll h

-- why the rest behind `rows` is refused, where that is certain
pub record HasRefused (elements : Elements) (table : ColumnTable) (rows : List Record)
    (before after : Window) (old new : Left) (e : TraceError)
    : Type 0 where
  pub read : HasRead before after old new
  pub more : List Record
  pub begins : BeginsWith after.is_over (text_in before ++ read.more) more
  pub refused : IsRefusal (with_records elements (columns_in table) [] (rows ++ more)) e

-- `HasRefused` for a certain refusal, or the feed is at fault
abbrev pub IsRestRefused :
    Elements → ColumnTable → List Record → (before after : Window) → (old new : Left) → Halt
    → Type 0
IsRestRefused elements table rows before after old new (halt.Load e) =
    IsLoadFault before old new e
IsRestRefused elements table rows before after old new (halt.Refused e) =
    HasRefused elements table rows before after old new e
IsRestRefused elements table rows before after old new (halt.Early e) =
    HasRead before after old new
IsRestRefused elements table rows before after old new (halt.Stopped judged line) =
    HasRead before after old new
IsRestRefused elements table rows before after old new halt.Quoted =
    HasRead before after old new

-- why the records of `text` behind `given` are not judged to the end, behind `rows`
pub record HasHaltedAt (elements : Elements) (table : ColumnTable) (text : List ℕ)
    (given rows : List Record) (h : Halt)
    : Type 0 where
  pub more : List Record
  pub others : List Record
  pub is : records_of text ≡ given ++ (more ++ others)
  pub halt : IsHalt elements table (rows ++ more) h

-- the records of `text` behind `given` are judged, behind `rows`
pub record IsJudgedFrom (p : FlatProgram) (elements : Elements) (table : ColumnTable)
    (text : List ℕ) (given rows : List Record) (j : Judged)
    : Type 0 where
  pub more : List Record
  pub is : records_of text ≡ given ++ more
  pub judged : IsJudgedPart p elements table (rows ++ more) j

-- all bytes of a feed have been judged, as a text
pub record IsTextJudged (p : FlatProgram) (elements : Elements) (before after : Window)
    (old new : Left) (j : Judged)
    : Type 0 where
  pub read : HasRead before after old new
  pub over : after.is_over ≡ true
  pub traces : Traces
  pub given : length (text_in before ++ read.more) ≤ 1073741824
      → outcome elements (text_in before ++ read.more) ≡ Ok traces
  pub judged : AreJudgedTraces p elements traces j

-- the text of a feed is refused, however it goes on
pub record HasRefusedText (elements : Elements) (before after : Window) (old new : Left)
    (e : TraceError)
    : Type 0 where
  pub read : HasRead before after old new
  pub refused : (tail : List ℕ) → (after.is_over ≡ true → tail ≡ [])
      → length ((text_in before ++ read.more) ++ tail) ≤ 1073741824
      → IsRefusal (outcome elements ((text_in before ++ read.more) ++ tail)) e

-- `HasRefusedText` for a certain refusal, or the feed is at fault
abbrev pub IsTextRefused :
    Elements → (before after : Window) → (old new : Left) → Halt → Type 0
IsTextRefused elements before after old new (halt.Load e) = IsLoadFault before old new e
IsTextRefused elements before after old new (halt.Refused e) =
    HasRefusedText elements before after old new e
IsTextRefused elements before after old new (halt.Early e) =
    HasRead before after old new
IsTextRefused elements before after old new (halt.Stopped judged line) =
    HasRead before after old new
IsTextRefused elements before after old new halt.Quoted =
    HasRead before after old new

-- the header of a text has been read, and what stands behind it is left
pub record IsHeadRead (elements : Elements) (table : ColumnTable) (before after : Window)
    (old new : Left)
    : Type 0 where
  pub read : HasRead before after old new
  pub head : List ℕ
  pub taken : text_in before ++ read.more ≡ head ++ text_in after
  pub is : IsHead elements table head
  pub end : (is_ended head ≡ true) ⊎ ((after.is_over ≡ true) × (text_in after ≡ []))

-- why no header has been read; where its line has a quote, the window keeps all that was read
abbrev pub IsHeadHalted :
    Elements → (before after : Window) → (old new : Left) → Halt → Type 0
IsHeadHalted elements before after old new (halt.Load e) = IsLoadFault before old new e
IsHeadHalted elements before after old new (halt.Refused e) =
    HasRefusedText elements before after old new e
IsHeadHalted elements before after old new (halt.Early e) = HasRead before after old new
IsHeadHalted elements before after old new (halt.Stopped judged line) =
    HasRead before after old new
IsHeadHalted elements before after old new halt.Quoted =
    HasTaken before after old new × IsWindow after
