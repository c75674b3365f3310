-- A run that writes the values of one trace.
-- Source: this project's rule.
use Rattle.std.specs.Prelude.{◌≡◌, ◌≢◌, ℕ, ◌==◌, ◌⊎◌, if◌then◌else◌, List, Option, Some, None}
use Rattle.std.specs.Prelude.{Result, Ok, Err}
use Rattle.lb_check.specs.Acceptance.{IsAccepted}
use Rattle.lb_output.specs.declared.follow_error.FollowError.{FollowError}
use Rattle.lb_report.specs.Bench.{OnlyProgram}
use Rattle.lb_report.specs.Correct.{IsBenchAnswer}
use Rattle.lb_refusal.specs.declared.error.BenchError.{BenchError}
use Rattle.lb_show.specs.declared.options.ShowOptions.{ShowOptions}
use Rattle.lb_values.specs.Values.{AreSent, IsNoTrace}
use Rattle.lb_values.specs.declared.values.ValuesFault.{ValuesFault}
use Rattle.lb_values.specs.declared.values.ValuesFault.TheVariants as values
use Rattle.clap.specs.Words.{Text}
use Rattle.lb_words.specs.declared.request.Task.{Task}
use Rattle.lb_words.specs.declared.values_request.Values.{Values}
use Rattle.lb_command.specs.Lines.{line}
use Rattle.lb_command.specs.Live.{stop_number}
use Rattle.lb_command.specs.Outcomes.{AreTexts, HasPath, IsToldBy, IsUnread, TellsOfInput}
use Rattle.lb_command.specs.Outcomes.{IsTold, IsUsage, refusal_status}
use Rattle.lb_command.specs.Streams.{Change, Input, IsUntouched, NeverFailed}
use Rattle.lb_command.specs.Warnings.{AreWarnings, IsWarned}
use Rattle.lb_command.specs.declared.refusal.Refusal.{Refusal}
use Rattle.lb_command.specs.declared.showing.ShowingFault.{ShowingFault}
use Rattle.lb_command.specs.declared.showing.ShowingFault.TheVariants.{Refused, Stopped}

-- the number of last instants that are shown; `None`, for 0, leaves none out
abbrev pub last_of : ℕ → Option ℕ
last_of n = if n == 0 then None else Some n

-- the options `asked` are those that the words give
pub record AreAsked (values : Values) (asked : ShowOptions) : Type 0 where
  pub trace : asked.trace.now ≡ values.trace.now
  pub format : asked.format ≡ values.format
  pub last : asked.last ≡ last_of values.last

-- the values of two texts went to an output: all that are asked for, or their first bytes, as `run`
-- says
pub record AreShown
    (source traces : Text) (task : Task) (output : Change) (run : Result (Unit {0}) FollowError)
    : Type 0 where
  pub asked : ShowOptions
  pub are_asked : AreAsked task.values asked
  pub sent :
      AreSent source traces task.options asked output.before output.after output.failures_before
      output.failures_after run

-- the values of two texts are not shown: memory ran out; or the texts are refused; or no trace, or
-- no variable, has a name that is asked for, which is E20 without a place
pub data IsUnshown (source traces : Text) (task : Task) (refusal : Refusal) : Type 0 where
  memory : refusal.number ≡ 0 → IsUnshown source traces task refusal
  judged : (e : BenchError) → IsBenchAnswer source traces task.options (Err e)
      → IsToldBy e refusal → IsUnshown source traces task refusal
  no_trace : IsUsage refusal
      → OnlyProgram source task.options (λ P. IsNoTrace P traces task.values.trace.now)
      → IsUnshown source traces task refusal
  no_variable : IsUsage refusal → OnlyProgram source task.options (λ P. IsAccepted P)
      → IsUnshown source traces task refusal

-- the values of two texts are not shown, and the output is as it was
pub record AreUnshown (source traces : Text) (task : Task) (output : Change) (refusal : Refusal)
    : Type 0 where
  pub cause : IsUnshown source traces task refusal
  pub not_read : refusal.number ≢ 21
  pub untouched : IsUntouched output

-- the fault of a run for a cause: `Stopped` stays as it is, and any other cause becomes a refusal
abbrev pub IsFaultTold : ValuesFault → ShowingFault → Type 0
IsFaultTold (values.Refused e) (Refused refusal) = IsToldBy e refusal
IsFaultTold values.UnknownTrace (Refused refusal) = IsUsage refusal
IsFaultTold (values.UnknownVariable place) (Refused refusal) = IsUsage refusal
IsFaultTold (values.Stopped e) fault = fault ≡ Stopped e
IsFaultTold cause (Stopped e) = ⊥

-- the values of two texts: they went out, or their first bytes did, or none
abbrev pub IsShowing : {T : Type 0} → (source traces : Text) → Task → Change
    → Result T ShowingFault → Type 0
IsShowing source traces task output (Ok x) = AreShown source traces task output (Ok tt)
IsShowing source traces task output (Err (Stopped e)) =
    AreShown source traces task output (Err e)
IsShowing source traces task output (Err (Refused refusal)) =
    AreUnshown source traces task output refusal

-- a task has two texts, no read of the input failed, and the values of these texts were written, or
-- not, as the result of the run says
pub record IsShowingOf
    {T : Type 0} (task : Task) (i : Input) (output : Change) (run : Result T ShowingFault)
    : Type 0 where
  pub source : Text
  pub traces : Text
  pub texts : AreTexts task i.coming source traces
  pub shown : IsShowing source traces task output run
  pub read : NeverFailed i

-- an input could not be read, and the output is as it was
pub record IsNotRead (task : Task) (i : Input) (output : Change) (refusal : Refusal) : Type 0 where
  pub unread : IsUnread refusal
  pub tells : TellsOfInput (HasPath task) i refusal
  pub untouched : IsUntouched output

-- the values of a task: as `IsShowingOf` says, or an input could not be read
abbrev pub IsShowingOn : {T : Type 0} → Task → Input → Change → Result T ShowingFault → Type 0
IsShowingOn task i output (Ok x) = IsShowingOf {T = Unit {0}} task i output (Ok tt)
IsShowingOn task i output (Err (Stopped e)) =
    IsShowingOf {T = Unit {0}} task i output (Err (Stopped e))
IsShowingOn task i output (Err (Refused refusal)) =
    IsNotRead task i output refusal
    ⊎ IsShowingOf {T = Unit {0}} task i output (Err (Refused refusal))

-- a run that writes the values of one trace. Whole: they went out, the status is 0, and the
-- warnings went to the errors. Stopped: their first bytes went out, and the cause is reported, E0
-- or E19. Refused: the input or the texts are refused, or no trace or variable has a name that is
-- asked for; nothing went out, and the refusal is reported
pub data IsShowingRun
    (words : List Text) (task : Task) (i : Input) (status : ℕ) (output errors : Change)
    : Type 0 where
  whole : (warnings : List ℕ) → IsShowingOn {T = Unit {0}} task i output (Ok tt) → status ≡ 0
      → AreWarnings words task.options warnings → IsWarned errors warnings
      → IsShowingRun words task i status output errors
  stopped : (e : FollowError) → IsShowingOn {T = Unit {0}} task i output (Err (Stopped e))
      → status ≡ refusal_status (stop_number e) → IsTold words errors (line (stop_number e) None)
      → IsShowingRun words task i status output errors
  refused : (refusal : Refusal) → IsShowingOn {T = Unit {0}} task i output (Err (Refused refusal))
      → status ≡ refusal_status refusal.number
      → IsTold words errors (line refusal.number refusal.position)
      → IsShowingRun words task i status output errors
