-- The results for a source and the traces of a feed, before the feed is read to its end.
-- This file says what data of the program mean; no definition of the language stands on it.
use Rattle.std.specs.Prelude.{ℕ, ◌≡◌, ◌<◌, ◌≤◌, ◌&&◌, ◌==◌, ◌⊎◌, ◌++◌, length, nat_lt}
use Rattle.std.specs.Prelude.{None, Ok, not, true, if◌then◌else◌}
use Rattle.lb_syntax.specs.Tokens.{Text}
use Rattle.lb_static.specs.DataTypes.{signature}
use Rattle.lb_static.specs.Instances.{Program}
use Rattle.lb_check.specs.Acceptance.{IsAccepted}
use Rattle.lb_traces.specs.Traces.{Traces, trace_names}
use Rattle.lb_trace.specs.Refusals.{outcome}
use Rattle.lb_trace.specs.Errors.{error_number}
use Rattle.lb_trace.specs.declared.error.TraceError.{TraceError}
use Rattle.lb_trace.specs.declared.error.TraceError.TheVariants as trace
use Rattle.lb_feed.specs.Windows.{HasRead, IsLoadFault, Left, text_in}
use Rattle.lb_feed.specs.declared.window.Window.{Window}
use Rattle.lb_report.specs.Bench.{AreVerdicts, IsRefused, OnlyProgram}
use Rattle.lb_report.specs.JudgedParts.{HasRefusedText}
use Rattle.lb_refusal.specs.declared.error.BenchError.{BenchError}
use Rattle.lb_refusal.specs.declared.error.BenchError.TheVariants as part
use Rattle.lb_report.specs.declared.feeding.FeedFault.{FeedFault}
use Rattle.lb_report.specs.declared.feeding.FeedFault.TheVariants as fault
use Rattle.lb_refusal.specs.declared.options.Options.{Options}
use Rattle.lb_report.specs.declared.rounds.Halt.{Halt}
use Rattle.lb_report.specs.declared.rounds.Halt.TheVariants as halt
use Rattle.lb_report.specs.declared.rounds.Judged.{Judged}

-- a program has judged the traces of a feed; all bytes of the feed spell them, if they are not too
-- many
pub record IsProgramJudged (P : Program) (before after : Window) (old new : Left) (j : Judged)
    : Type 0 where
  pub accepted : IsAccepted P
  pub read : HasRead before after old new
  pub over : after.is_over ≡ true
  pub traces : Traces
  pub given : length (text_in before ++ read.more) ≤ 1073741824
      → outcome (signature P) (text_in before ++ read.more) ≡ Ok traces
  pub names : trace_names j.roll.names.traces ≡ trace_names traces
  pub verdicts : AreVerdicts P record { signature = signature P; traces = traces } j.verdicts.items

-- the source is refused, whatever the traces are
pub record HasRefusedSource (source : Text) (options : Options) (before after : Window)
    (old new : Left) (e : BenchError)
    : Type 0 where
  pub read : HasRead before after old new
  pub refused : (traces : Text) → IsRefused source traces options e

-- the source is accepted, and the bytes so far are refused, however they go on
abbrev pub HasRefusedTraces :
    (source : Text) → Options → (before after : Window) → (old new : Left) → TraceError → Type 0
HasRefusedTraces source options before after old new e =
    OnlyProgram source options (λ P.
    IsAccepted P × HasRefusedText (signature P) before after old new e)

-- why judging stopped: a part refuses the texts, or the feed is at fault
abbrev pub IsJudgingFault :
    (source : Text) → Options → (before after : Window) → (old new : Left) → FeedFault → Type 0
IsJudgingFault source options before after old new (fault.Load e) =
    IsLoadFault before old new e
IsJudgingFault source options before after old new (fault.Refused part.Memory) =
    HasRefusedSource source options before after old new part.Memory
IsJudgingFault source options before after old new (fault.Refused (part.Syntax e)) =
    HasRefusedSource source options before after old new (part.Syntax e)
IsJudgingFault source options before after old new (fault.Refused (part.Static e)) =
    HasRefusedSource source options before after old new (part.Static e)
IsJudgingFault source options before after old new (fault.Refused (part.Check e)) =
    HasRefusedSource source options before after old new (part.Check e)
IsJudgingFault source options before after old new (fault.Refused (part.Flat e)) =
    HasRefusedSource source options before after old new (part.Flat e)
IsJudgingFault source options before after old new (fault.Refused (part.Order e)) =
    HasRefusedSource source options before after old new (part.Order e)
IsJudgingFault source options before after old new (fault.Refused (part.Trace e)) =
    HasRefusedSource source options before after old new (part.Trace e)
    ⊎ HasRefusedTraces source options before after old new e

-- the refusal of a trace text that has too many bytes
abbrev pub too_long : BenchError
too_long = part.Trace (trace.Limit None)

-- the refusal of a source and a trace text of `bytes` bytes, where a cause was found while they
-- were judged: that the text is too long comes before what is wrong with its records
abbrev pub told_first : BenchError → ℕ → BenchError
told_first part.Memory bytes = part.Memory
told_first (part.Syntax e) bytes = part.Syntax e
told_first (part.Static e) bytes = part.Static e
told_first (part.Check e) bytes = part.Check e
told_first (part.Flat e) bytes = part.Flat e
told_first (part.Order e) bytes = part.Order e
told_first (part.Trace e) bytes =
    if nat_lt 1073741824 bytes && not (error_number e == 0) then too_long else part.Trace e

-- why there is no report: the text has too many bytes, or memory ran out
abbrev pub IsLastFault : (bytes : ℕ) → FeedFault → Type 0
IsLastFault bytes f =
    ((1073741824 < bytes) × (f ≡ fault.Refused too_long)) ⊎ (f ≡ fault.Refused part.Memory)

-- the fault of a text that was not judged to its end
abbrev pub fault_by : Halt → FeedFault
fault_by (halt.Load e) = fault.Load e
fault_by (halt.Refused e) = fault.Refused (part.Trace e)
fault_by (halt.Early e) = fault.Refused part.Memory
fault_by (halt.Stopped judged line) = fault.Refused part.Memory
fault_by halt.Quoted = fault.Refused part.Memory
