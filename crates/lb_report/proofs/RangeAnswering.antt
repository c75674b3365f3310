-- The answer of the bench to a source and a file that is read in sections.
use Rattle.std.proofs.Common.{Bool, ℕ, ◌≡◌, ◌∙◌, ◌≤◌, Result, Ok, Err, ap, arith, inl, inr, length}
use Rattle.std.proofs.Common.{List, None, Option, Some, [], refl, subst, sym}
use Rattle.std.specs.Prelude.{IfErr, IfOk}
use Rattle.lb_syntax.specs.Tokens.{Text}
use Rattle.lb_static.specs.DataTypes.{signature}
use Rattle.lb_static.specs.Instances.{Program}
use Rattle.lb_static.specs.Signature.{Elements}
use Rattle.lb_traces.specs.Traces.{trace_names}
use Rattle.lb_flat.specs.declared.program.FlatProgram.{FlatProgram}
use Rattle.lb_trace.specs.Errors.{IsRefusal}
use Rattle.lb_trace.specs.Refusals.{outcome}
use Rattle.lb_trace.specs.declared.error.TraceError.{TraceError}
use Rattle.lb_trace.proofs.KnownNames.{names_long}
use Rattle.lb_trace.proofs.Outcomes.{complete_text, sound_text}
use Rattle.lb_pool.specs.Correct as run
use Rattle.lb_output.specs.Reports.{IsReport}
use Rattle.lb_output.specs.declared.text.Report.{Report}
use Rattle.lb_report.specs.AcceptedPrograms.{IsAcceptedProgram}
use Rattle.lb_report.specs.Bench.{IsBenchReport, OnlyProgram, program_of}
use Rattle.lb_report.specs.FeedJudging.{IsLastFault, fault_by}
use Rattle.lb_report.specs.RangeAnswers.{IsFileAnswer, IsRangeAnswer, IsReadingFault}
use Rattle.lb_report.specs.Ranges.{IsFileJudged, IsOutcomeJudged, IsOutcomeRefused}
use Rattle.lb_report.specs.declared.answer.AcceptedProgram.{AcceptedProgram}
use Rattle.lb_refusal.specs.declared.error.BenchError.TheVariants as part
use Rattle.lb_report.specs.declared.feeding.FeedFault.{FeedFault}
use Rattle.lb_report.specs.declared.feeding.FeedFault.TheVariants as fault
use Rattle.lb_refusal.specs.declared.options.Options.{Options}
use Rattle.lb_report.specs.declared.rounds.Halt.{Halt}
use Rattle.lb_report.specs.declared.rounds.Halt.TheVariants as halt
use Rattle.lb_report.specs.declared.rounds.Judged.{Judged}
use Rattle.lb_report.proofs.Answering.{answered}
use Rattle.lb_report.proofs.FeedAnswering.{outcome_refused}
use Rattle.lb_report.proofs.VerdictLists.{are_verdicts}

-- ## The answer

-- a judged file has a verdict for each trace
pub outcome_long : (p : FlatProgram) (elements : Elements) (bytes : Option (List ℕ)) (j : Judged)
    → IsOutcomeJudged p elements bytes j → length j.verdicts.items ≡ length j.roll.names.traces
outcome_long p elements bytes j is =
    is.judged.verdicts.count ∙ sym (names_long is.traces) ∙ ap length (sym is.judged.names.names)
    ∙ names_long j.roll.names.traces

-- an answer for any text is an answer on a file
any_answer : (source : Text) (options : Options) (bytes : Option (List ℕ)) (may_fail : Bool)
    (r : Result Report FeedFault)
    → ((text : Text) → IsRangeAnswer source text options r) → IsReadingFault may_fail r
    → IsFileAnswer source bytes may_fail options r
any_answer source options None may_fail r given fault =
    record { traces = []; is = tt; answer = given []; fault = fault }
any_answer source options (Some all) may_fail r given fault =
    record { traces = all; is = refl; answer = given all; fault = fault }

module _ (source : Text) (options : Options) (bytes : Option (List ℕ)) (may_fail : Bool)
    (p : AcceptedProgram) (found : OnlyProgram source options (IsAcceptedProgram p)) where
  abbrev P : Program
  P = program_of found.tree options

  elements : p.signature ≡ signature P
  elements = sym found.holds.inputs

  range_reported : (j : Judged) (report : Report)
      → (is : IsOutcomeJudged p.ordered.program p.signature bytes j)
      → IsReport (trace_names j.roll.names.traces) j.verdicts.items report
      → IsBenchReport source is.text options report
  range_reported j report is listed =
      let given : outcome (signature P) is.text ≡ Ok is.traces =
      subst (λ es. outcome es is.text ≡ Ok is.traces) elements is.given in
      record {
        tree = found.tree;
        spelled = found.spelled;
        holds = record {
          accepted = found.holds.accepted;
          recording = record { signature = signature P; traces = is.traces };
          recorded = record {
            under_signature = refl;
            text_spells_it = sound_text (signature P) is.text is.traces given;
            no_other_is_spelled = λ other spelled.
                cc (complete_text (signature P) is.text other spelled, given);
          };
          verdicts = j.verdicts.items;
          judged =
              are_verdicts P p.ordered.program
              record { signature = signature P; traces = is.traces } j.verdicts.items
              found.holds.equations refl
              (subst (λ es. run.AreVerdicts p.ordered.program
              record { signature = es; traces = is.traces } j.verdicts.items) elements
              is.judged.verdicts);
          reported = subst (λ names. IsReport names j.verdicts.items report) is.judged.names.names
              listed;
        };
      }

  -- an error for want of memory is an answer on a file
  no_memory : IsFileAnswer source bytes may_fail options (Err (fault.Refused part.Memory))
  no_memory =
      any_answer source options bytes may_fail (Err (fault.Refused part.Memory))
      (λ text. answered source text options (Err part.Memory) tt tt) tt

  -- a report on judged traces, or an error for want of memory, is an answer on a file
  pub range_answered : (j : Judged) (size : ℕ) (r : Result Report FeedFault)
      → IsOutcomeJudged p.ordered.program p.signature bytes j → size ≤ 1073741824
      → IfOk r (IsReport (trace_names j.roll.names.traces) j.verdicts.items)
      → IfErr r (IsLastFault size) → IsFileAnswer source bytes may_fail options r
  range_answered j size (Ok report) is short listed bad = record {
    traces = is.text;
    is = is.is;
    answer = answered source is.text options (Ok report) (range_reported j report is listed) tt;
    fault = tt;
  }
  range_answered j size (Err f) is short listed bad =
      elim bad [
        | inl long ↦ absurd (omega (arith, short, long.0))
        | inr memory ↦
            subst (λ g. IsFileAnswer source bytes may_fail options (Err g)) (sym memory)
            no_memory
      ]

  range_refused : (e : TraceError) → IsOutcomeRefused p.signature bytes e
      → IsFileAnswer source bytes may_fail options (Err (fault.Refused (part.Trace e)))
  range_refused e is = record {
    traces = is.text;
    is = is.is;
    answer =
        answered source is.text options (Err (part.Trace e)) tt record {
          tree = found.tree;
          spelled = found.spelled;
          holds = (
            found.holds.accepted,
            outcome_refused P is.text e
                (subst (λ es. IsRefusal (outcome es is.text) e) elements is.refused),
          );
        };
    fault = tt;
  }

  -- the fault of a file that was not judged to its end is an answer on the file
  pub range_faulted : (h : Halt)
      → IsFileJudged p.ordered.program p.signature bytes may_fail (Err h)
      → IsFileAnswer source bytes may_fail options (Err (fault_by h))
  range_faulted (halt.Load e) bad =
      any_answer source options bytes may_fail (Err (fault.Load e)) (λ text. tt) bad
  range_faulted (halt.Refused e) bad = range_refused e bad
  range_faulted (halt.Early e) bad = no_memory
  range_faulted (halt.Stopped judged line) bad = no_memory
  range_faulted halt.Quoted bad = no_memory
