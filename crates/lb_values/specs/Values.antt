-- The promise of `show_values` on the values of one trace.
-- Source: this project's rule.
use Rattle.std.specs.Prelude.{◌≡◌, ◌≢◌, ◌<◌, ℕ, List, Result, Ok, Err, length}
use Rattle.lb_syntax.specs.Tokens.{Text}
use Rattle.lb_static.specs.Instances.{Program}
use Rattle.lb_check.specs.Acceptance.{IsAccepted}
use Rattle.lb_flat.specs.FlatPrograms.{IsFlatOf}
use Rattle.lb_flat.specs.Judging.{FlatProgram}
use Rattle.lb_traces.specs.Traces.{Recording, trace_at}
use Rattle.lb_output.specs.Taken.{Taken, TakesNothing}
use Rattle.lb_output.specs.declared.follow_error.FollowError.{FollowError}
use Rattle.lb_report.specs.Bench.{IsOnlyRecording, OnlyProgram}
use Rattle.lb_report.specs.Correct.{IsBenchAnswer}
use Rattle.lb_refusal.specs.declared.error.BenchError.{BenchError}
use Rattle.lb_refusal.specs.declared.error.BenchError.TheVariants.{Memory}
use Rattle.lb_refusal.specs.declared.options.Options.{Options}
use Rattle.lb_show.specs.Shows.{IsCsvOf}
use Rattle.lb_show.specs.declared.error.ShowError.{ShowError}
use Rattle.lb_show.specs.declared.error.ShowError.TheVariants as show
use Rattle.lb_show.specs.declared.options.Format.TheVariants.{Csv}
use Rattle.lb_show.specs.declared.options.ShowOptions.{ShowOptions}
use Rattle.lb_values.specs.Sending.{IsSent}
use Rattle.lb_values.specs.declared.values.ValuesFault.{ValuesFault}
use Rattle.lb_values.specs.declared.values.ValuesFault.TheVariants.{Refused, UnknownTrace}
use Rattle.lb_values.specs.declared.values.ValuesFault.TheVariants.{UnknownVariable, Stopped}

-- a program is accepted, and a text spells just one recording. Where CSV is asked for, it is the
-- CSV of a flat program that stands for the program, on the named trace
pub record AreValuesOn (P : Program) (traces : Text) (asked : ShowOptions) (text : List ℕ) : Type 0
  where
    pub accepted : IsAccepted P
    pub recording : Recording
    pub recorded : IsOnlyRecording P traces recording
    pub flat : FlatProgram
    pub equations : IsFlatOf P flat
    pub csv : asked.format ≡ Csv → IsCsvOf flat recording asked text

-- a program is accepted, a text spells just one recording, and no trace of it has the name
pub record IsNoTrace (P : Program) (traces name : Text) : Type 0 where
  pub accepted : IsAccepted P
  pub recording : Recording
  pub recorded : IsOnlyRecording P traces recording
  pub none :
      (k : ℕ) → k < length recording.traces → (trace_at recording.traces k).0 ≢ name

-- the values that are asked for went to a sink, all of them or their first bytes
pub record AreSent
    (source traces : Text) (options : Options) (asked : ShowOptions)
    (before after : Taken) (failures_before failures_after : ℕ)
    (run : Result (Unit {0}) FollowError)
    : Type 0 where
  pub text : List ℕ
  pub values : OnlyProgram source options (λ P. AreValuesOn P traces asked text)
  pub sent : IsSent text before after failures_before failures_after run

-- a sink is as it was
pub record IsLeft (before after : Taken) (failures_before failures_after : ℕ) : Type 0
  where
    pub kept : TakesNothing before after
    pub never_failed : failures_after ≡ failures_before

-- the fault for an error of showing values
abbrev pub IsFaultOf : ShowError → ValuesFault → Type 0
IsFaultOf show.Memory fault = fault ≡ Refused Memory
IsFaultOf show.UnknownTrace fault = fault ≡ UnknownTrace
IsFaultOf (show.UnknownVariable place) fault = fault ≡ UnknownVariable place

-- the statement on texts for a fault before any byte goes out
abbrev pub IsFault : (source traces : Text) → Options → ShowOptions → ValuesFault → Type 0
IsFault source traces options asked (Refused e) = IsBenchAnswer source traces options (Err e)
IsFault source traces options asked UnknownTrace =
    OnlyProgram source options (λ P. IsNoTrace P traces asked.trace.now)
IsFault source traces options asked (UnknownVariable place) =
    OnlyProgram source options (λ P. IsAccepted P)
IsFault source traces options asked (Stopped e) = ⊥

-- the values went out; or their first bytes did; or the texts are refused, or what is asked for is
-- not there, and the sink is as it was
abbrev pub IsValuesAnswer : (source traces : Text) → Options → ShowOptions
    → (before after : Taken) → (failures_before failures_after : ℕ)
    → Result (Unit {0}) ValuesFault → Type 0
IsValuesAnswer source traces options asked before after m n (Ok x) =
    AreSent source traces options asked before after m n (Ok x)
IsValuesAnswer source traces options asked before after m n (Err (Stopped e)) =
    AreSent source traces options asked before after m n (Err e)
IsValuesAnswer source traces options asked before after m n (Err fault) =
    IsFault source traces options asked fault × IsLeft before after m n
