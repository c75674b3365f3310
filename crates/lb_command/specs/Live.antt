-- A run whose report is written line by line.
-- Source: this project's rule.
use Rattle.std.specs.Prelude.{◌≡◌, ◌≢◌, ℕ, List, None, Result, Ok, Err}
use Rattle.lb_report.specs.Correct.{IsBenchAnswer}
use Rattle.lb_report.specs.LiveReports.{IsUnderWay}
use Rattle.lb_refusal.specs.declared.error.BenchError.{BenchError}
use Rattle.lb_refusal.specs.declared.options.Options.{Options}
use Rattle.lb_output.specs.declared.follow_error.FollowError.{FollowError}
use Rattle.lb_output.specs.declared.follow_error.FollowError.TheVariants.{Memory, Write}
use Rattle.clap.specs.Words.{Text}
use Rattle.lb_words.specs.declared.request.Task.{Task}
use Rattle.lb_command.specs.Outcomes.{AreTexts, HasPath, IsRefusedOn, IsToldBy, TellsOfInput}
use Rattle.lb_command.specs.Outcomes.{IsTold, refusal_status}
use Rattle.lb_command.specs.Lines.{line}
use Rattle.lb_command.specs.Streams.{Change, Input, IsUntouched, NeverFailed}
use Rattle.lb_command.specs.Warnings.{AreWarnings, IsWarned}
use Rattle.lb_command.specs.declared.live.LiveFault.{LiveFault}
use Rattle.lb_command.specs.declared.live.LiveFault.TheVariants.{Refused, Stopped}
use Rattle.lb_command.specs.declared.refusal.Refusal.{Refusal}

-- the number of the refusal for what stopped a live report
abbrev pub stop_number : FollowError → ℕ
stop_number (Memory count) = 0
stop_number (Write count) = 19

-- the report on two texts goes to an output: all of it, or its first bytes, as `run` says
abbrev pub GoesTo : (source traces : Text) → Options → Change → Result (Unit {0}) FollowError
    → Type 0
GoesTo source traces options output run =
    IsUnderWay source traces options output.before output.after output.failures_before
    output.failures_after run

-- two texts are refused, and the output is as it was
pub record AreRefused (source traces : Text) (options : Options) (output : Change)
    (refusal : Refusal) : Type 0 where
  pub cause : BenchError
  pub answered : IsBenchAnswer source traces options (Err cause)
  pub told : IsToldBy cause refusal
  pub not_read : refusal.number ≢ 21
  pub untouched : IsUntouched output

-- a live report on two texts: it went out, or it stopped, or the texts are refused
abbrev pub IsLive : {T : Type 0} → (source traces : Text) → Options → Change → Result T LiveFault
    → Type 0
IsLive source traces options output (Ok x) = GoesTo source traces options output (Ok tt)
IsLive source traces options output (Err (Stopped e)) =
    GoesTo source traces options output (Err e)
IsLive source traces options output (Err (Refused refusal)) =
    AreRefused source traces options output refusal

-- the report on two texts for which `Are` holds goes to an output, and no read of the input failed
pub record GoesOn (Are : Text → Text → Type 0) (options : Options) (i : Input) (output : Change)
    (run : Result (Unit {0}) FollowError) : Type 0 where
  pub source : Text
  pub traces : Text
  pub texts : Are source traces
  pub goes : GoesTo source traces options output run
  pub read : NeverFailed i

-- the input could not be read, or two texts for which `Are` holds are refused; and the output is as
-- it was
pub record IsRefusedWith (Are : Text → Text → Type 0) (HasFile : Type 0) (options : Options)
    (i : Input) (output : Change) (refusal : Refusal) : Type 0 where
  pub refused : IsRefusedOn Are options refusal
  pub read : TellsOfInput HasFile i refusal
  pub untouched : IsUntouched output

-- a live report on two texts for which `Are` holds
abbrev pub IsLiveOn : {T : Type 0} → (Are : Text → Text → Type 0) → (HasFile : Type 0) → Options
    → Input → Change → Result T LiveFault → Type 0
IsLiveOn Are HasFile options i output (Ok x) = GoesOn Are options i output (Ok tt)
IsLiveOn Are HasFile options i output (Err (Stopped e)) = GoesOn Are options i output (Err e)
IsLiveOn Are HasFile options i output (Err (Refused refusal)) =
    IsRefusedWith Are HasFile options i output refusal

-- a live run of a task. Whole: the whole report went out, the status is 0, and the warnings went to
-- the errors. Stopped: the first bytes of the report went out, and the cause is reported, E0 or
-- E19. Refused: the input or the texts are refused, nothing went out, and the refusal is reported
pub data IsLiveRun
    (words : List Text) (task : Task) (i : Input) (status : ℕ) (output errors : Change)
    : Type 0 where
  whole : (warnings : List ℕ) → GoesOn (AreTexts task i.coming) task.options i output (Ok tt)
      → status ≡ 0 → AreWarnings words task.options warnings → IsWarned errors warnings
      → IsLiveRun words task i status output errors
  stopped : (e : FollowError) → GoesOn (AreTexts task i.coming) task.options i output (Err e)
      → status ≡ refusal_status (stop_number e) → IsTold words errors (line (stop_number e) None)
      → IsLiveRun words task i status output errors
  refused : (refusal : Refusal)
      → IsRefusedWith (AreTexts task i.coming) (HasPath task) task.options i output refusal
      → status ≡ refusal_status refusal.number
      → IsTold words errors (line refusal.number refusal.position)
      → IsLiveRun words task i status output errors
