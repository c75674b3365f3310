-- Sections of a file, each judged by itself.
-- This file says what data of the program mean; no definition of the language stands on it.
use Rattle.std.specs.Prelude.{ℕ, ◌≡◌, ◌≤◌, ◌+◌, List, [], ◌++◌, length, Option, Result, Ok, Err}
use Rattle.std.specs.Prelude.{Bool as Truth, false}
use Rattle.csv.specs.Reading.{default_config, records}
use Rattle.lb_static.specs.Signature.{Elements}
use Rattle.lb_traces.specs.Traces.{Traces}
use Rattle.lb_flat.specs.declared.program.FlatProgram.{FlatProgram}
use Rattle.lb_trace.specs.Errors.{IsRefusal}
use Rattle.lb_trace.specs.Plain.{plain_records}
use Rattle.lb_trace.specs.Refusals.{outcome, with_records}
use Rattle.lb_trace.specs.Spelling.{Record}
use Rattle.lb_trace.specs.Tables.{columns_in}
use Rattle.lb_trace.specs.Texts.{IsFront}
use Rattle.lb_trace.specs.declared.error.TraceError.{TraceError}
use Rattle.lb_trace.specs.declared.table.ColumnTable.{ColumnTable}
use Rattle.lb_feed.specs.Ranges.{IsFileFault, IsFileText, IsRange}
use Rattle.lb_report.specs.JudgedParts.{AreJudgedTraces, IsJudgedPart}
use Rattle.lb_report.specs.Sections.{IsSectionJudged, IsSetAside}
use Rattle.lb_report.specs.declared.rounds.Halt.{Halt}
use Rattle.lb_report.specs.declared.rounds.Halt.TheVariants as halt
use Rattle.lb_report.specs.declared.rounds.Judged.{Judged}

-- a section of a file is judged by itself; where other sections stand behind it, its bytes are
-- whole lines that end before the next one begins
pub record IsRangeJudged (p : FlatProgram) (elements : Elements) (table : ColumnTable)
    (bytes : Option (List ℕ)) (start past : ℕ) (last : Truth) (j : Judged)
    : Type 0 where
  pub text : List ℕ
  pub range : IsRange bytes start past text
  pub front : last ≡ false → IsFront text (plain_records text)
  pub within : last ≡ false → start + length text ≤ past
  pub judged : IsSectionJudged p elements table text j

-- the result of a worker for a section: judged, or set aside
abbrev pub IsRangeTold :
    FlatProgram → Elements → ColumnTable → (bytes : Option (List ℕ)) → (start past : ℕ)
    → (last : Truth) → Result Judged Halt → Type 0
IsRangeTold p elements table bytes start past last (Ok j) =
    IsRangeJudged p elements table bytes start past last j
IsRangeTold p elements table bytes start past last (Err h) = IsSetAside h

-- the bytes of a file between two places are judged behind `rows`
pub record AreRangesJudged (p : FlatProgram) (elements : Elements) (table : ColumnTable)
    (rows : List Record) (bytes : Option (List ℕ)) (from size : ℕ) (j : Judged)
    : Type 0 where
  pub text : List ℕ
  pub range : IsRange bytes from size text
  pub judged : IsJudgedPart p elements table (rows ++ records default_config text) j

-- the bytes of a file between two places are refused behind `rows`
pub record AreRangesRefused (elements : Elements) (table : ColumnTable) (rows : List Record)
    (bytes : Option (List ℕ)) (from size : ℕ) (e : TraceError)
    : Type 0 where
  pub text : List ℕ
  pub range : IsRange bytes from size text
  pub refused :
      IsRefusal
      (with_records elements (columns_in table) [] (rows ++ records default_config text)) e

-- the bytes of a file between two places are refused behind `rows`, or could not be read
abbrev pub IsRangesHalt :
    Elements → ColumnTable → (rows : List Record) → (bytes : Option (List ℕ)) → (may_fail : Truth)
    → (from size : ℕ) → Halt → Type 0
IsRangesHalt elements table rows bytes may_fail from size (halt.Load e) = IsFileFault may_fail e
IsRangesHalt elements table rows bytes may_fail from size (halt.Refused e) =
    AreRangesRefused elements table rows bytes from size e
IsRangesHalt elements table rows bytes may_fail from size (halt.Early e) = Unit {0}
IsRangesHalt elements table rows bytes may_fail from size (halt.Stopped judged line) = Unit {0}
IsRangesHalt elements table rows bytes may_fail from size halt.Quoted = Unit {0}

-- ## A whole file

-- the bytes of a file are judged, as a text
pub record IsOutcomeJudged (p : FlatProgram) (elements : Elements) (bytes : Option (List ℕ))
    (j : Judged)
    : Type 0 where
  pub text : List ℕ
  pub is : IsFileText bytes text
  pub traces : Traces
  pub given : outcome elements text ≡ Ok traces
  pub judged : AreJudgedTraces p elements traces j

-- the bytes of a file are refused, as a text
pub record IsOutcomeRefused (elements : Elements) (bytes : Option (List ℕ)) (e : TraceError)
    : Type 0 where
  pub text : List ℕ
  pub is : IsFileText bytes text
  pub refused : IsRefusal (outcome elements text) e

-- a file is judged or refused, or could not be read
abbrev pub IsFileJudged :
    FlatProgram → Elements → (bytes : Option (List ℕ)) → (may_fail : Truth) → Result Judged Halt
    → Type 0
IsFileJudged p elements bytes may_fail (Ok j) = IsOutcomeJudged p elements bytes j
IsFileJudged p elements bytes may_fail (Err (halt.Load e)) = IsFileFault may_fail e
IsFileJudged p elements bytes may_fail (Err (halt.Refused e)) = IsOutcomeRefused elements bytes e
IsFileJudged p elements bytes may_fail (Err (halt.Early e)) = Unit {0}
IsFileJudged p elements bytes may_fail (Err (halt.Stopped judged line)) = Unit {0}
IsFileJudged p elements bytes may_fail (Err halt.Quoted) = Unit {0}
