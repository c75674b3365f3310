-- The reports and refusals of `bench` on a source text and a trace text.
-- Source: this project's rule.
use Rattle.std.specs.Prelude.{◌≡◌, ℕ, ◌<◌, Some, None, Err, List, length, get_or}
use Rattle.std.specs.Prelude.{string_bytes}
use Rattle.std.specs.Option.{option_map}
use Rattle.lb_syntax.specs.Tree.{Source}
use Rattle.lb_syntax.specs.Tokens.{Text}
use Rattle.lb_syntax.specs.Correct.{IsOnlyProgram, Parses}
use Rattle.lb_syntax.specs.Refusals.{E12, E13}
use Rattle.lb_static.specs.Correct.{Elaborates}
use Rattle.lb_static.specs.Instances.{Program}
use Rattle.lb_static.specs.DataTypes.{signature}
use Rattle.lb_static.specs.Instantiation.{static_refusal}
use Rattle.lb_check.specs.Acceptance.{refusal, IsAccepted, IsFirst}
use Rattle.lb_cause.specs.Correct.{IsAnswer}
use Rattle.lb_check.specs.Solutions.{HasOneHistory}
use Rattle.lb_check.specs.Verdicts.{IsOnlyVerdict}
use Rattle.lb_check.specs.declared.verdict.Verdict.{Verdict}
use Rattle.lb_check.specs.declared.verdict.Verdict.TheVariants.{Passed}
use Rattle.lb_flat.specs.Inputs.{inputs_of}
use Rattle.lb_flat.specs.Programs.{numbers_of}
use Rattle.lb_flat.specs.Reading.{IsCertificate}
use Rattle.lb_expand.specs.SizeFaults.{IsSizeFault}
use Rattle.lb_traces.specs.Traces.{Recording, Traces, trace_names}
use Rattle.lb_expand.specs.declared.error.FlatError.{FlatError}
use Rattle.lb_expand.specs.declared.error.FlatError.TheVariants as flat
use Rattle.lb_flat.specs.declared.error.OrderError.{OrderError}
use Rattle.lb_flat.specs.declared.error.OrderError.TheVariants as order
use Rattle.lb_trace.specs.Errors.{Refuses}
use Rattle.lb_trace.specs.Spelling.{Spells}
use Rattle.lb_output.specs.Reports.{IsReport}
use Rattle.lb_refusal.specs.declared.error.BenchError.{BenchError}
use Rattle.lb_refusal.specs.declared.error.BenchError.TheVariants as part
use Rattle.lb_refusal.specs.declared.options.Options.{Options}
use Rattle.lb_output.specs.declared.text.Report.{Report}

-- ## The program

-- the program of a tree, with the node under test and the observer that the options name
abbrev pub program_of : Source → Options → Program
program_of tree options = record {
  source = tree;
  root = string_bytes options.node;
  observer = option_map string_bytes options.observer;
}

-- the text spells one tree and no other, and `Holds` is true of its program
pub record OnlyProgram (text : Text) (options : Options) (Holds : Program → Type 0) : Type 0 where
  pub tree : Source
  pub spelled : IsOnlyProgram tree text
  pub holds : Holds (program_of tree options)

-- ## The report

-- the text spells the traces of this recording under the program's signature, and no others
pub record IsOnlyRecording (P : Program) (text : Text) (r : Recording) : Type 0 where
  pub under_signature : r.signature ≡ signature P
  pub text_spells_it : Spells (signature P) text r.traces
  pub no_other_is_spelled : (other : Traces) → Spells (signature P) text other → other ≡ r.traces

-- the one verdict that the equations give on trace k alone, by the one history that solves them
pub record IsVerdict (P : Program) (r : Recording) (k : ℕ) (v : Verdict) : Type 0 where
  pub is_only_verdict : IsOnlyVerdict P (inputs_of r k) v
  pub has_one_history : HasOneHistory P (inputs_of r k)

-- a verdict for each trace, in order
pub record AreVerdicts (P : Program) (r : Recording) (verdicts : List Verdict) : Type 0 where
  pub count : length verdicts ≡ length r.traces
  pub each : (k : ℕ) → k < length r.traces → IsVerdict P r k (get_or verdicts k Passed)

-- a program is accepted, a text spells just one recording, and the report lists the names and
-- the verdicts of its traces
pub record IsReportOn (P : Program) (text : Text) (report : Report) : Type 0 where
  pub accepted : IsAccepted P
  pub recording : Recording
  pub recorded : IsOnlyRecording P text recording
  pub verdicts : List Verdict
  pub judged : AreVerdicts P recording verdicts
  pub reported : IsReport (trace_names recording.traces) verdicts report

-- a report on the one program of the source and the one recording of the traces
abbrev pub IsBenchReport : (source traces : Text) → Options → Report → Type 0
IsBenchReport source traces options report =
    OnlyProgram source options (λ P. IsReportOn P traces report)

-- ## Refusals

-- the first refusal of a program is its size, and the error names what is too large
abbrev pub IsTooLarge : Program → FlatError → Type 0
IsTooLarge P flat.Memory = Unit {0}
IsTooLarge P (flat.Large fault) = (refusal P ≡ Some E12) × IsSizeFault P fault

-- the first refusal of a program is that an element needs itself at the same instant; the error
-- lists elements, each of which needs the next one, and the last one the first
abbrev pub IsCycle : Program → OrderError → Type 0
IsCycle P order.Memory = Unit {0}
IsCycle P (order.Cycle cycle) =
    IsFirst P (Some E13) × IsCertificate P (numbers_of cycle.value.elements.items)

-- the named part refuses, and none before it; nothing is said where memory ran out
abbrev pub IsRefused : (source traces : Text) → Options → BenchError → Type 0
IsRefused source traces options part.Memory = Unit {0}
IsRefused source traces options (part.Syntax e) = Parses source (Err e)
IsRefused source traces options (part.Static e) =
    OnlyProgram source options (λ P. Elaborates P (Err e))
IsRefused source traces options (part.Check e) =
    OnlyProgram source options (λ P. (static_refusal P ≡ None) × IsAnswer P (Err e))
IsRefused source traces options (part.Flat e) =
    OnlyProgram source options (λ P. IsTooLarge P e)
IsRefused source traces options (part.Order e) =
    OnlyProgram source options (λ P. IsCycle P e)
IsRefused source traces options (part.Trace e) =
    OnlyProgram source options (λ P. IsAccepted P × Refuses (signature P) traces e)
