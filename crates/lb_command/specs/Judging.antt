-- A run that judges the source alone.
-- Source: this project's rule.
use Rattle.std.specs.Prelude.{◌≡◌, ℕ, List, [], ◌∷◌, ◌++◌, Option, Result, Ok, Err, codes}
use Rattle.std.specs.List.{flat_map}
use Rattle.std.specs.Prelude.{Vec}
use Rattle.std.specs.Global.{Global as Heap}
use Rattle.lb_static.specs.Signature.{Elements, names_of}
use Rattle.lb_report.specs.Judging.{IsAcceptedSource, IsRefusedSource}
use Rattle.lb_refusal.specs.declared.error.BenchError.{BenchError}
use Rattle.clap.specs.Words.{Text}
use Rattle.lb_words.specs.declared.request.Aim.{Aim}
use Rattle.lb_words.specs.declared.request.Aim.TheVariants.{Header}
use Rattle.lb_words.specs.declared.request.Task.{Task}
use Rattle.lb_command.specs.Lines.{line}
use Rattle.lb_command.specs.Outcomes.{HasPath, IsDelivered, IsSource, IsTold, IsToldBy, IsUnread}
use Rattle.lb_command.specs.Outcomes.{TellsOfInput, refusal_status}
use Rattle.lb_command.specs.Streams.{Change, Input, IsUntouched, NeverFailed}
use Rattle.lb_command.specs.Warnings.{AreWarnings}
use Rattle.lb_command.specs.declared.answer.Answer.{Answer}
use Rattle.lb_command.specs.declared.answer.Answer.TheVariants.{OfSource}
use Rattle.lb_command.specs.declared.answer.Warned.{Warned}
use Rattle.lb_command.specs.declared.refusal.Refusal.{Refusal}

-- the header of traces with these columns, as `trace,open,level`, and a newline
abbrev pub header : (names : List Text) → Text
header names = codes "trace" ++ flat_map (λ name. 44 ∷ name) names ++ codes "\n"

-- the output for an accepted source whose scalar inputs have these names: with the aim `Header` its
-- header, else nothing
abbrev pub answer_of : Aim → (names : List Text) → Text
answer_of Header names = header names
answer_of _ names = []

-- the source is accepted, and this text is the output for it
pub record IsAnswer (task : Task) (source : Text) (text : Text) : Type 0 where
  pub inputs : Elements
  pub accepted : IsAcceptedSource source task.options inputs
  pub told : text ≡ answer_of task.aim (names_of inputs)

-- memory ran out, or the source is refused, as it would be with any traces
pub data IsRefused (task : Task) (source : Text) (refusal : Refusal) : Type 0 where
  memory : refusal.number ≡ 0 → IsRefused task source refusal
  judged : (e : BenchError) → IsRefusedSource source task.options e → IsToldBy e refusal
      → IsRefused task source refusal

-- the source of a task is accepted, and this text is the output for it
pub record IsAnswered (task : Task) (known : Option Text) (text : Text) : Type 0 where
  pub source : Text
  pub of : IsSource task known source
  pub answer : IsAnswer task source text

abbrev pub IsAnswerTo : Task → (known : Option Text) → Answer → Type 0
IsAnswerTo task known (OfSource text) = IsAnswered task known text.items
IsAnswerTo task known _ = ⊥

-- the source could not be read, or it is refused
pub data IsTurnedAway (task : Task) (known : Option Text) (refusal : Refusal) : Type 0 where
  unread : IsUnread refusal → IsTurnedAway task known refusal
  refused : (source : Text) → IsSource task known source → IsRefused task source refusal
      → IsTurnedAway task known refusal

abbrev pub IsOutcome : Task → (known : Option Text) → Result (Warned (Vec ℕ Heap)) Refusal → Type 0
IsOutcome task known (Ok found) = IsAnswered task known found.value.items
IsOutcome task known (Err refusal) = IsTurnedAway task known refusal

-- a run of a task that asks about its source alone. Answered: no read of the input failed, the
-- source is accepted, and the output for it is delivered. Refused: the source could not be read or
-- is refused, the output is as it was, and the refusal is reported
pub data IsJudgingRun
    (words : List Text) (task : Task) (i : Input) (status : ℕ) (output errors : Change)
    : Type 0 where
  answered : (answer : Answer) → (warnings : List ℕ) → IsAnswerTo task i.coming answer
      → NeverFailed i → AreWarnings words task.options warnings
      → IsDelivered words answer warnings status output errors
      → IsJudgingRun words task i status output errors
  refused : (refusal : Refusal) → IsTurnedAway task i.coming refusal
      → TellsOfInput (HasPath task) i refusal → status ≡ refusal_status refusal.number
      → IsUntouched output → IsTold words errors (line refusal.number refusal.position)
      → IsJudgingRun words task i status output errors
