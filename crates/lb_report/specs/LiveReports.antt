-- The live report on a source and a trace text.
-- Source: this project's rule.
use Rattle.std.specs.Prelude.{◌≡◌, ℕ, List, length, Option, Some, None, Result, Ok, Err}
use Rattle.lb_syntax.specs.Tokens.{Text}
use Rattle.lb_static.specs.Instances.{Program}
use Rattle.lb_check.specs.Acceptance.{IsAccepted}
use Rattle.lb_check.specs.declared.verdict.Verdict.{Verdict}
use Rattle.lb_flat.specs.Programs as flat
use Rattle.lb_flat.specs.Standing.{HasKindsOf}
use Rattle.lb_traces.specs.Traces.{Recording, trace_names}
use Rattle.lb_trace.specs.Correct.{IsTraceReading}
use Rattle.lb_output.specs.Follows.{IsFollowed}
use Rattle.lb_plan.specs.Plans.{numbers_in}
use Rattle.lb_output.specs.Reports.{report_of}
use Rattle.lb_output.specs.Taken.{Taken, TakesNothing}
use Rattle.lb_output.specs.declared.follow_error.FollowError.{FollowError}
use Rattle.lb_feed.specs.Ranges.{IsFileText}
use Rattle.lb_report.specs.AcceptedPrograms.{IsAcceptedProgram}
use Rattle.lb_report.specs.Bench.{AreVerdicts, IsOnlyRecording, IsRefused, OnlyProgram}
use Rattle.lb_report.specs.Correct.{IsFirstTold, first_of}
use Rattle.lb_refusal.specs.Refusals.{number_of}
use Rattle.lb_refusal.specs.declared.error.BenchError.{BenchError}
use Rattle.lb_report.specs.declared.live.FollowFault.{FollowFault}
use Rattle.lb_report.specs.declared.live.FollowFault.TheVariants.{Refused, Stopped}
use Rattle.lb_report.specs.declared.live.Prepared.{Prepared}
use Rattle.lb_refusal.specs.declared.options.Options.{Options}

-- a program is accepted, a text spells just one recording, and the report lists the names and the
-- verdicts of its traces
pub record IsTextOn (P : Program) (traces : Text) (report : List ℕ) : Type 0 where
  pub accepted : IsAccepted P
  pub recording : Recording
  pub recorded : IsOnlyRecording P traces recording
  pub verdicts : List Verdict
  pub judged : AreVerdicts P recording verdicts
  pub reported : report ≡ report_of (trace_names recording.traces) verdicts

-- the report on the one program of the source and the one recording of the traces
abbrev pub IsBenchText : (source traces : Text) → Options → List ℕ → Type 0
IsBenchText source traces options report =
    OnlyProgram source options (λ P. IsTextOn P traces report)

-- nothing refuses the texts, and their report goes to a sink: all of it, or its first bytes before
-- it stops
pub record IsUnderWay
    (source traces : Text) (options : Options) (before after : Taken)
    (failures_before failures_after : ℕ) (run : Result (Unit {0}) FollowError)
    : Type 0 where
  pub report : List ℕ
  pub reported : IsBenchText source traces options report
  pub nothing_refuses : first_of source traces options ≡ None
  pub followed : IsFollowed report before after failures_before failures_after run

-- a live report on a file is under way: `traces` are the file's bytes where it tells them, and else
-- some text
pub record IsFileUnderWay
    (source : Text) (bytes : Option (List ℕ)) (options : Options) (before after : Taken)
    (failures_before failures_after : ℕ) (run : Result (Unit {0}) FollowError)
    : Type 0 where
  pub traces : Text
  pub is : IsFileText bytes traces
  pub goes :
      IsUnderWay source traces options before after failures_before failures_after run

-- the texts are refused, and the sink is left as it was
pub record IsTurnedAway
    (source traces : Text) (options : Options) (before after : Taken)
    (failures_before failures_after : ℕ) (e : BenchError)
    : Type 0 where
  pub refused : IsRefused source traces options e
  pub first : IsFirstTold source traces options (Some (number_of e))
  pub kept : TakesNothing before after
  pub never_failed : failures_after ≡ failures_before

-- the whole report went out; or the texts are refused; or its first bytes went out
abbrev pub IsFollowAnswer : (source traces : Text) → Options → (before after : Taken)
    → (failures_before failures_after : ℕ) → Result (Unit {0}) FollowFault → Type 0
IsFollowAnswer source traces options before after m n (Ok x) =
    IsUnderWay source traces options before after m n (Ok x)
IsFollowAnswer source traces options before after m n (Err (Refused e)) =
    IsTurnedAway source traces options before after m n e
IsFollowAnswer source traces options before after m n (Err (Stopped e)) =
    IsUnderWay source traces options before after m n (Err e)

-- `p` is ready to be run: it has the program of the source, the traces of the text and a plan over
-- them
pub record IsPrepared (source traces : Text) (options : Options) (p : Prepared) : Type 0 where
  pub program : OnlyProgram source options (IsAcceptedProgram p.program)
  pub reading : IsTraceReading p.program.signature traces (Ok p.set)
  pub over_all : length (numbers_in p.plan) ≡ length p.set.traces
  pub kinds : HasKindsOf (flat.program_of p.program.ordered.program) p.set

-- `p` is ready to be run on a file: `traces` are the file's bytes where it tells them, and else
-- some text
pub record IsPreparedFile (source : Text) (bytes : Option (List ℕ)) (options : Options)
    (p : Prepared)
    : Type 0 where
  pub traces : Text
  pub is : IsFileText bytes traces
  pub ready : IsPrepared source traces options p
