-- Runs of the program: their outputs and their exit statuses.
-- Source: this project's rule.
use Rattle.std.specs.Prelude.{◌≡◌, ◌⊎◌, ◌++◌, ℕ, List, [], Option, Result, Ok, Err, string_bytes}
use Rattle.lb_output.specs.declared.text.Report.{Report}
use Rattle.clap.specs.Words.{Text}
use Rattle.lb_words.specs.Words.{AsksForHelp, AsksForVersion, IsAsked, IsUnlawful}
use Rattle.lb_words.specs.declared.request.Aim.{Aim}
use Rattle.lb_words.specs.declared.request.Aim.TheVariants as aim
use Rattle.lb_words.specs.declared.request.Task.{Task}
use Rattle.lb_command.specs.Conclusions.{IsBaselineRefused, IsConcluded}
use Rattle.lb_command.specs.Judging.{IsJudgingRun}
use Rattle.lb_command.specs.Lines.{line}
use Rattle.lb_command.specs.Live.{IsLiveRun}
use Rattle.lb_command.specs.Merging.{IsMergeRun}
use Rattle.lb_command.specs.Outcomes.{AreTexts, HasPath, IsDelivered, IsRefusedOn, IsReportOn}
use Rattle.lb_command.specs.Outcomes.{IsTold, IsUsage, TellsOfInput, refusal_status}
use Rattle.lb_command.specs.Showing.{IsShowingRun}
use Rattle.lb_command.specs.Streams.{Change, Input, IsUnread, IsUntouched, NeverFailed}
use Rattle.lb_command.specs.Warnings.{AreRemarks}
use Rattle.lb_command.specs.declared.answer.Answer.{Answer}
use Rattle.lb_command.specs.declared.answer.Answer.TheVariants.{OfTraces, OfSource, Help, Version}
use Rattle.lb_command.specs.declared.answer.Warned.{Warned}
use Rattle.lb_command.specs.declared.refusal.Refusal.{Refusal}

-- the output for the report on the texts of a task, and what is said beside it: first the notes
-- that the terms ask for, then the remarks
pub record IsToldOn (words : List Text) (task : Task) (known : Option Text) (told : Warned Report)
    : Type 0 where
  pub report : Report
  pub notes : List ℕ
  pub remarks : List ℕ
  pub reported : IsReportOn (AreTexts task known) task.options report
  pub remarked : AreRemarks words task.options remarks
  pub concluded : IsConcluded task.terms (string_bytes task.options.node) report remarks told.value
      notes
  pub said : told.warnings.items ≡ notes ++ remarks

-- the output for the report of a task (`IsToldOn`), or a refusal
abbrev pub IsToldOutcome : (words : List Text) → Task → (known : Option Text)
    → Result (Warned Report) Refusal → Type 0
IsToldOutcome words task known (Ok told) = IsToldOn words task known told
IsToldOutcome words task known (Err refusal) =
    IsRefusedOn (AreTexts task known) task.options refusal

-- a run of a task whose report is written at once. Answered: no read of the input failed, and the
-- output for the report is delivered. Refused: the input or the texts are refused. No baseline: the
-- earlier report is refused, before anything of the input is read. After a refusal the output is as
-- it was, and the refusal is reported
pub data IsWholeRun
    (words : List Text) (task : Task) (i : Input) (status : ℕ) (output errors : Change)
    : Type 0 where
  answered : (told : Warned Report) → IsToldOn words task i.coming told → NeverFailed i
      → IsDelivered words (OfTraces told.value) told.warnings.items status output errors
      → IsWholeRun words task i status output errors
  refused : (refusal : Refusal) → IsRefusedOn (AreTexts task i.coming) task.options refusal
      → TellsOfInput (HasPath task) i refusal
      → status ≡ refusal_status refusal.number → IsUntouched output
      → IsTold words errors (line refusal.number refusal.position)
      → IsWholeRun words task i status output errors
  no_baseline : (refusal : Refusal) → IsBaselineRefused task.terms refusal → IsUnread i
      → status ≡ refusal_status refusal.number → IsUntouched output
      → IsTold words errors (line refusal.number refusal.position)
      → IsWholeRun words task i status output errors

-- a run of a task, by its aim
abbrev pub IsRunFor : Aim → (words : List Text) → Task → Input → (status : ℕ)
    → (output errors : Change) → Type 0
IsRunFor aim.Report words task i status output errors =
    IsWholeRun words task i status output errors
IsRunFor aim.LiveReport words task i status output errors =
    IsLiveRun words task i status output errors
IsRunFor aim.OneTrace words task i status output errors =
    IsShowingRun words task i status output errors
IsRunFor aim.Merge words task i status output errors =
    IsUnread i × IsMergeRun words task status output errors
IsRunFor _ words task i status output errors = IsJudgingRun words task i status output errors

abbrev pub IsTaskRun : (words : List Text) → Task → Input → (status : ℕ)
    → (output errors : Change) → Type 0
IsTaskRun words task i status output errors =
    IsRunFor task.aim words task i status output errors

-- an answer about the program itself, as the words ask: the help text, or the version
abbrev pub TellsOfProgram : List Text → Answer → Type 0
TellsOfProgram words (OfTraces report) = ⊥
TellsOfProgram words (OfSource text) = ⊥
TellsOfProgram words (Help text) = AsksForHelp words
TellsOfProgram words Version = AsksForVersion words

-- memory ran out, or the words are unlawful
abbrev pub IsRefusal : List Text → Refusal → Type 0
IsRefusal words refusal =
    (refusal.number ≡ 0) ⊎ (IsUsage refusal × IsUnlawful words)

-- a run with these words, this input and this exit status. Asked: a run of the task that the words
-- ask for. Told: the help text or the version is delivered. Refused: the words are refused, the
-- output is as it was, and the refusal is reported. The last two read nothing of the input
pub data IsRun
    (words : List Text) (i : Input) (status : ℕ) (output errors : Change)
    : Type 0 where
  asked : (task : Task) → IsAsked words task → IsTaskRun words task i status output errors
      → IsRun words i status output errors
  told : (answer : Answer) → TellsOfProgram words answer → IsUnread i
      → IsDelivered words answer [] status output errors → IsRun words i status output errors
  refused : (refusal : Refusal) → IsRefusal words refusal → IsUnread i
      → status ≡ refusal_status refusal.number → IsUntouched output
      → IsTold words errors (line refusal.number refusal.position)
      → IsRun words i status output errors
