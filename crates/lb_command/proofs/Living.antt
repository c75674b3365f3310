-- The outcome of a live report, from what its parts answer.
use Rattle.std.proofs.Common.{◌≡◌, ◌∙◌, Result, Ok, Err, inl, subst, sym}
use Rattle.clap.specs.Words.{Text}
use Rattle.lb_report.specs.LiveReports.{IsTurnedAway}
use Rattle.lb_refusal.specs.declared.error.BenchError.{BenchError}
use Rattle.lb_refusal.specs.declared.options.Options.{Options}
use Rattle.lb_output.specs.declared.follow_error.FollowError.{FollowError}
use Rattle.lb_command.specs.Live.{AreRefused, GoesOn, GoesTo, IsLive, IsLiveOn, IsRefusedWith}
use Rattle.lb_command.specs.Outcomes.{IsRefusedOn, IsToldBy, IsUnread, TellsOfInput, source_in}
use Rattle.lb_command.specs.Outcomes.{traces_in}
use Rattle.lb_command.specs.Outcomes.IsRefusedOn.{judged, unread}
use Rattle.lb_command.specs.Streams.{Change, Input, IsUntouched, NeverFailed}
use Rattle.lb_command.specs.declared.live.LiveFault.{LiveFault}
use Rattle.lb_command.specs.declared.live.LiveFault.TheVariants.{Refused, Stopped}
use Rattle.lb_command.specs.declared.refusal.Refusal.{Refusal}
use Rattle.lb_command.specs.declared.refusal.Texts.{Texts}
use Rattle.lb_command.proofs.Inputs.{is_not_read, tells_more}

-- `IsLive` of two texts for which `Are` holds gives `IsLiveOn Are`, where no read of the input
-- failed
pub live_of : {T : Type 0} (Are : Text → Text → Type 0) (HasFile : Type 0) (source traces : Text)
    (options : Options) (i : Input) (output : Change) (r : Result T LiveFault)
    → Are source traces → NeverFailed i → IsLive source traces options output r
    → IsLiveOn Are HasFile options i output r
live_of Are HasFile source traces options i output (Ok x) are never h =
    record { source = source; traces = traces; texts = are; goes = h; read = never }
live_of Are HasFile source traces options i output (Err (Stopped e)) are never h =
    record { source = source; traces = traces; texts = are; goes = h; read = never }
live_of Are HasFile source traces options i output (Err (Refused refusal)) are never h = record {
  refused = judged source traces are h.cause h.answered h.told;
  read = record { read = λ number. absurd (h.not_read number); other = λ number. never };
  untouched = h.untouched;
}

-- two texts that the bench refuses are refused, and no byte went out
pub are_refused : (source traces : Text) (options : Options) (output : Change)
    (cause : BenchError) (refusal : Refusal)
    → IsTurnedAway source traces options output.before output.after output.failures_before
    output.failures_after cause
    → IsToldBy cause refusal → AreRefused source traces options output refusal
are_refused source traces options output cause refusal away told = record {
  cause = cause;
  answered = record {
    report = tt;
    refused = away.refused;
    first = away.first;
  };
  told = told;
  not_read = λ number. is_not_read cause (sym told.number ∙ number);
  untouched = record { kept = away.kept; never_failed = away.never_failed };
}

-- a live report is refused where an input could not be read
pub unread_with : (Are : Text → Text → Type 0) (HasFile : Type 0) (options : Options)
    (i : Input) (output : Change) (refusal : Refusal) → IsUnread refusal
    → TellsOfInput HasFile i refusal → IsUntouched output
    → IsRefusedWith Are HasFile options i output refusal
unread_with Are HasFile options i output refusal unseen tells untouched =
    record { refused = unread unseen; read = tells; untouched = untouched }

-- `TellsOfInput` holds where a file is read and no read of the input failed
pub tells_of_file : (i : Input) (refusal : Refusal) → NeverFailed i
    → TellsOfInput (Unit {0}) i refusal
tells_of_file i refusal never = record { read = λ number. inl tt; other = λ number. never }

refused_on : (Are Other : Text → Text → Type 0) (options : Options) (refusal : Refusal)
    → ((source traces : Text) → Are source traces → Other source traces)
    → IsRefusedOn Are options refusal → IsRefusedOn Other options refusal
refused_on Are Other options refusal f (unread h) = unread h
refused_on Are Other options refusal f (judged source traces are e answered told) =
    judged source traces (f source traces are) e answered told

goes_on : (Are Other : Text → Text → Type 0) (options : Options) (i : Input) (output : Change)
    (run : _) → ((source traces : Text) → Are source traces → Other source traces)
    → GoesOn Are options i output run → GoesOn Other options i output run
goes_on Are Other options i output run f h = record {
  source = h.source;
  traces = h.traces;
  texts = f h.source h.traces h.texts;
  goes = h.goes;
  read = h.read;
}

-- `IsLiveOn Are` gives `IsLiveOn Other`, where `Other` follows from `Are`
pub live_on : {T : Type 0} (Are Other : Text → Text → Type 0) (HasFile HasOther : Type 0)
    (options : Options) (i : Input) (output : Change) (r : Result T LiveFault)
    → ((source traces : Text) → Are source traces → Other source traces) → (HasFile → HasOther)
    → IsLiveOn Are HasFile options i output r → IsLiveOn Other HasOther options i output r
live_on Are Other HasFile HasOther options i output (Ok x) f more h =
    goes_on Are Other options i output _ f h
live_on Are Other HasFile HasOther options i output (Err (Stopped e)) f more h =
    goes_on Are Other options i output _ f h
live_on Are Other HasFile HasOther options i output (Err (Refused refusal)) f more h = record {
  refused = refused_on Are Other options refusal f h.refused;
  read = tells_more HasFile HasOther i refusal more h.read;
  untouched = h.untouched;
}

-- `IsLiveOn` holds of a live report on two texts from files that went out whole
pub live_run : {T : Type 0} (source traces : Text) (options : Options) (i : Input) (output : Change)
    (x : T) → NeverFailed i → GoesTo source traces options output (Ok tt)
    → IsLiveOn (λ source traces. Unit {0}) (Unit {0}) options i output (Ok x)
live_run source traces options i output x never goes = record {
  source = source;
  traces = traces;
  texts = tt;
  goes = goes;
  read = never;
}

-- `IsLive` of two texts gives `IsLive` of a value of `Texts` that holds them
pub live_in : {T : Type 0} (texts : Texts) (source traces : Text) (options : Options)
    (output : Change) (r : Result T LiveFault) → source ≡ source_in texts
    → traces ≡ traces_in texts → IsLive source traces options output r
    → IsLive (source_in texts) (traces_in texts) options output r
live_in texts source traces options output r first second live =
    subst (λ (s : Text). IsLive s (traces_in texts) options output r) first
    (subst (λ (s : Text). IsLive source s options output r) second live)
