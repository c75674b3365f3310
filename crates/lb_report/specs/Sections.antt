-- A text in sections, each judged by itself.
-- This file says what data of the program mean; no definition of the language stands on it.
use Rattle.std.specs.Prelude.{ℕ, ◌≡◌, ◌<◌, ◌≤◌, ◌++◌, List, [], Option, None, Some, Result, Ok, Err}
use Rattle.std.specs.Prelude.{Bool as Truth, false, true, flat_map, length, take}
use Rattle.std.specs.List.{All}
use Rattle.lb_static.specs.Signature.{Elements}
use Rattle.lb_flat.specs.declared.program.FlatProgram.{FlatProgram}
use Rattle.lb_trace.specs.Errors.{IsRefusal, error_number}
use Rattle.lb_trace.specs.Plain.{has_quote, plain_records}
use Rattle.lb_trace.specs.Refusals.{with_records}
use Rattle.lb_trace.specs.Rolls.{IsRoll}
use Rattle.lb_trace.specs.Spelling.{Record}
use Rattle.lb_trace.specs.Tables.{columns_in}
use Rattle.lb_trace.specs.declared.error.TraceError.{TraceError}
use Rattle.lb_trace.specs.declared.table.ColumnTable.{ColumnTable}
use Rattle.lb_report.specs.JudgedParts.{HasRoll, IsHalt, IsJudgedPart}
use Rattle.lb_report.specs.declared.rounds.Halt.{Halt}
use Rattle.lb_report.specs.declared.rounds.Halt.TheVariants as halt
use Rattle.lb_report.specs.declared.rounds.Judged.{Judged}
use Rattle.lb_report.specs.declared.sections.Appended.{Appended}

-- ## The result for a section

-- the lines of a section, which has no quotes, have been read and judged with none before them
pub record IsSectionJudged (p : FlatProgram) (elements : Elements) (table : ColumnTable)
    (text : List ℕ) (j : Judged)
    : Type 0 where
  pub plain : has_quote text ≡ false
  pub part : IsJudgedPart p elements table (plain_records text) j
  pub roll : IsRoll j.roll

-- a section that is halted by `Stopped` or `Early` has no quotes
abbrev pub IsPlainHalt : (text : List ℕ) → Halt → Type 0
IsPlainHalt text (halt.Stopped judged line) = has_quote text ≡ false
IsPlainHalt text (halt.Early e) = has_quote text ≡ false
IsPlainHalt text h = Unit {0}

-- why a section was not judged
pub record IsSectionHalted (elements : Elements) (table : ColumnTable) (text : List ℕ) (h : Halt)
    : Type 0 where
  pub plain : IsPlainHalt text h
  pub halt : IsHalt elements table (plain_records text) h
  pub kept : HasRoll h

abbrev pub IsSection :
    FlatProgram → Elements → ColumnTable → (text : List ℕ) → Result Judged Halt → Type 0
IsSection p elements table text (Ok j) = IsSectionJudged p elements table text j
IsSection p elements table text (Err h) = IsSectionHalted elements table text h

-- the names in the result for a section, if any, are a roll
abbrev pub KeepsRoll : Result Judged Halt → Type 0
KeepsRoll (Ok j) = IsRoll j.roll
KeepsRoll (Err h) = HasRoll h

-- whether a section with this halt is to be judged again, behind those before it
abbrev pub is_alone : Halt → Truth
is_alone (halt.Load e) = false
is_alone (halt.Refused e) = false
is_alone (halt.Early e) = true
is_alone (halt.Stopped judged line) = false
is_alone halt.Quoted = true

-- a halt that says nothing of the bytes of a section: memory ran out, or it is to be judged again
abbrev pub IsSetAside : Halt → Type 0
IsSetAside (halt.Load e) = ⊥
IsSetAside (halt.Refused e) = error_number e ≡ 0
IsSetAside (halt.Early e) = ⊥
IsSetAside (halt.Stopped judged line) = ⊥
IsSetAside halt.Quoted = Unit {0}

-- ## Sections one after the other

-- the lines of some texts
abbrev pub lines_of : List (List ℕ) → List Record
lines_of texts = flat_map plain_records texts

-- a halt that `append_all` returns: no failed read, and no refusal but for want of memory
abbrev pub IsToldOn : Halt → Type 0
IsToldOn (halt.Load e) = ⊥
IsToldOn (halt.Refused e) = error_number e ≡ 0
IsToldOn (halt.Early e) = Unit {0}
IsToldOn (halt.Stopped judged line) = Unit {0}
IsToldOn halt.Quoted = Unit {0}

abbrev pub IsHaltAfter : (count all : ℕ) → Option Halt → Type 0
IsHaltAfter count all None = count ≡ all
IsHaltAfter count all (Some h) = (count < all) × IsToldOn h

-- the first sections have been judged behind `rows`: all of them if no halt stopped them
pub record AreAppended (p : FlatProgram) (elements : Elements) (table : ColumnTable)
    (rows : List Record) (texts : List (List ℕ)) (a : Appended)
    : Type 0 where
  pub plain : All (λ text. has_quote text ≡ false) (take a.count texts)
  pub part : IsJudgedPart p elements table (rows ++ lines_of (take a.count texts)) a.all
  pub stopped : IsHaltAfter a.count (length texts) a.halt

-- a line of a section is refused behind those before it
pub record IsRefusedWithin (elements : Elements) (table : ColumnTable) (rows : List Record)
    (texts : List (List ℕ)) (e : TraceError)
    : Type 0 where
  pub count : ℕ
  pub within : count ≤ length texts
  pub plain : All (λ text. has_quote text ≡ false) (take count texts)
  pub refused :
      IsRefusal (with_records elements (columns_in table) [] (rows ++ lines_of (take count texts)))
      e
