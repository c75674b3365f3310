-- A turn of a reader: more of a text is read behind a state.
-- This file says what data of the program mean; no definition of the language stands on it.
use Rattle.std.specs.Prelude.{◌≡◌, List, Result, Ok, Err}
use Rattle.lb_static.specs.Signature.{Elements}
use Rattle.lb_flat.specs.declared.program.FlatProgram.{FlatProgram}
use Rattle.lb_trace.specs.declared.table.ColumnTable.{ColumnTable}
use Rattle.lb_trace.specs.Spelling.{Record}
use Rattle.lb_feed.specs.Windows.{GoesOn, IsWindow, Left}
use Rattle.lb_feed.specs.declared.window.Window.{Window}
use Rattle.lb_report.specs.JudgedParts.{IsMoreRead, IsPartRead, IsReading, IsReadOn, IsState}
use Rattle.lb_report.specs.declared.rounds.Reading.{Reading}
use Rattle.lb_report.specs.declared.rounds.State.{State}

-- more has been read behind the state `s`, which gave `next`
pub record IsTurned (p : FlatProgram) (elements : Elements) (table : ColumnTable)
    (before after : Window) (old new : Left) (s next : State)
    : Type 0 where
  pub window : IsWindow after
  pub state : IsState elements next
  pub read : (rows : List Record) → IsPartRead p elements table rows s
      → IsMoreRead p elements table rows before after old new next
  pub failures : new.failures ≡ old.failures
  pub goes : GoesOn before after

-- `r` says why no more is read behind the state `s`
pub record IsTurnCut (p : FlatProgram) (elements : Elements) (table : ColumnTable)
    (before after : Window) (old new : Left) (s : State) (r : Reading)
    : Type 0 where
  pub why : (rows : List Record) → IsPartRead p elements table rows s
      → IsReading p elements table rows before after old new r
  pub on : IsReadOn elements after old new r

-- what a turn behind the state `s` comes to
abbrev pub IsTurn :
    FlatProgram → Elements → ColumnTable → (before after : Window) → (old new : Left) → State
    → Result State Reading → Type 0
IsTurn p elements table before after old new s (Ok next) =
    IsTurned p elements table before after old new s next
IsTurn p elements table before after old new s (Err r) =
    IsTurnCut p elements table before after old new s r
