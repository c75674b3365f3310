-- The note that a run reads its traces from standard input.
-- Source: this project's rule.
use Rattle.std.specs.Prelude.{◌&&◌, Bool, true, false, not, is_some, List, codes}
use Rattle.clap.specs.Words.{Text}
use Rattle.lb_words.specs.Words.{IsRequest}
use Rattle.lb_words.specs.declared.request.Aim.{Aim}
use Rattle.lb_words.specs.declared.request.Aim.TheVariants.{Report, LiveReport, OneTrace, Check}
use Rattle.lb_words.specs.declared.request.Aim.TheVariants.{Header, Merge}
use Rattle.lb_words.specs.declared.request.Request.{Request}
use Rattle.lb_words.specs.declared.request.Request.TheVariants.{Help, Version, Run}
use Rattle.lb_words.specs.declared.request.Task.{Task}
use Rattle.lb_command.specs.Streams.{Change, IsUntouched, TookOrFailed}

-- the text of the note
abbrev pub note : Text
note = codes "lbench: the traces are read from standard input\n"

-- whether a run with this aim reads traces: for a report, or for the values of one trace
abbrev pub reads_traces : Aim → Bool
reads_traces Report = true
reads_traces LiveReport = true
reads_traces OneTrace = true
reads_traces Check = false
reads_traces Header = false
reads_traces Merge = false

-- whether a task reads a source at a path and then the traces from standard input
abbrev pub awaits_traces : Task → Bool
awaits_traces task = reads_traces task.aim && (is_some task.source && not (is_some task.traces))

-- where the flag is true the note went to the errors, unless these failed; else the errors are as
-- they were
abbrev pub IsNotedBy : Bool → (errors : Change) → Type 0
IsNotedBy true errors = TookOrFailed errors note
IsNotedBy false errors = IsUntouched errors

-- where a request awaits traces the note went to the errors, unless these failed; else the errors
-- are as they were
abbrev pub IsNoted : Request → (errors : Change) → Type 0
IsNoted (Run task) errors = IsNotedBy (awaits_traces task) errors
IsNoted (Help text) errors = IsNotedBy false errors
IsNoted Version errors = IsNotedBy false errors

-- the words make a request, and `IsNoted` holds of it
pub record IsAnnounced (words : List Text) (errors : Change) : Type 0 where
  pub request : Request
  pub asked : IsRequest words request
  pub noted : IsNoted request errors
