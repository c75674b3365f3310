-- The answer on the values of a trace, from the answers of the parts.
use Rattle.std.proofs.Common.{◌≡◌, ◌≢◌, ◌<◌, ℕ, List, Result, Err, true, length}
use Rattle.std.proofs.Common.{refl, subst, sym}
use Rattle.lb_syntax.specs.Correct.{IsOnlyProgram}
use Rattle.lb_syntax.specs.Tokens.{Text}
use Rattle.lb_syntax.specs.Tree.{Source}
use Rattle.lb_flat.specs.Programs as flat
use Rattle.lb_traces.specs.Traces.{trace_at}
use Rattle.lb_output.specs.Taken.{Taken}
use Rattle.lb_output.specs.declared.follow_error.FollowError.{FollowError}
use Rattle.lb_output.proofs.SinkBytes.{takes_nothing}
use Rattle.lb_report.specs.Bench.{IsRefused, program_of}
use Rattle.lb_refusal.specs.declared.error.BenchError.{BenchError}
use Rattle.lb_refusal.specs.declared.error.BenchError.TheVariants.{Memory}
use Rattle.lb_refusal.specs.declared.options.Options.{Options}
use Rattle.lb_report.proofs.Answering.{answered}
use Rattle.lb_show.specs.Shows.{IsCsvOf, csv_rest, is_csv}
use Rattle.lb_show.specs.declared.error.ShowError.{ShowError}
use Rattle.lb_show.specs.declared.error.ShowError.TheVariants as show
use Rattle.lb_show.specs.declared.options.Format.TheVariants.{Csv}
use Rattle.lb_show.specs.declared.options.ShowOptions.{ShowOptions}
use Rattle.lb_show.specs.declared.show.Show.{Show}
use Rattle.lb_values.specs.Programs.{IsCase}
use Rattle.lb_values.specs.Sending.{IsText}
use Rattle.lb_values.specs.Values.{AreSent, IsFaultOf, IsLeft, IsValuesAnswer}
use Rattle.lb_values.specs.declared.case.Case.{Case}
use Rattle.lb_values.specs.declared.values.ValuesFault.{ValuesFault}
use Rattle.lb_values.specs.declared.values.ValuesFault.TheVariants.{Refused}

left_as_it_was : (a : Taken) (m : ℕ) → IsLeft a a m m
left_as_it_was a m = record { kept = takes_nothing a; never_failed = refl }

module _ (source traces : Text) (options : Options) (asked : ShowOptions) where
  -- where the texts are refused and the sink is as it was, the refusal is an answer on the values
  pub refused_by :
      (a : Taken) (m : ℕ) (e : BenchError) → IsRefused source traces options e →
      IsValuesAnswer source traces options asked a a m m (Err (Refused e))
  refused_by a m e refused =
      (answered source traces options (Err e) tt refused, left_as_it_was a m)

  module _ (tree : Source) (only : IsOnlyProgram tree source) (case : Case)
      (is : IsCase (program_of tree options) traces case) where
    -- where the trace or variable asked for is not there, its fault is an answer on the values
    pub unshown :
        (a : Taken) (m : ℕ) (error : ShowError) (fault : ValuesFault) →
        IsFaultOf error fault →
        (error ≡ show.UnknownTrace → (k : ℕ) → k < length case.set.traces →
        (trace_at case.set.traces k).0 ≢ asked.trace.now) →
        IsValuesAnswer source traces options asked a a m m (Err fault)
    unshown a m show.Memory fault told none =
        subst (λ (f : ValuesFault). IsValuesAnswer source traces options asked a a m m (Err f))
        (sym told) (refused_by a m Memory tt)
    unshown a m show.UnknownTrace fault told none =
        subst (λ (f : ValuesFault). IsValuesAnswer source traces options asked a a m m (Err f))
        (sym told) (
          record {
            tree = tree;
            spelled = only;
            holds = record {
              accepted = is.accepted;
              recording = case.set;
              recorded = is.recorded;
              none = none refl;
            };
          },
          left_as_it_was a m,
        )
    unshown a m (show.UnknownVariable place) fault told none =
        subst (λ (f : ValuesFault). IsValuesAnswer source traces options asked a a m m (Err f))
        (sym told)
        (record { tree = tree; spelled = only; holds = is.accepted }, left_as_it_was a m)

    -- values that went out, or their first bytes, are an answer on the values
    pub sent_of :
        (shown : Show) (before after : Taken) (m n : ℕ)
        (run : Result (Unit {0}) FollowError) →
        (asked.format ≡ Csv → (is_csv shown ≡ true)
        × IsCsvOf (flat.program_of case.program.ordered.program) case.set asked
        (csv_rest shown)) →
        IsText (is_csv shown) (csv_rest shown) before after m n run →
        AreSent source traces options asked before after m n run
    sent_of shown before after m n run csv gone = record {
      text = gone.0;
      values = record {
        tree = tree;
        spelled = only;
        holds = record {
          accepted = is.accepted;
          recording = case.set;
          recorded = is.recorded;
          flat = flat.program_of case.program.ordered.program;
          equations = is.equations;
          csv = λ format.
              subst
              (λ (text : List ℕ). IsCsvOf (flat.program_of case.program.ordered.program) case.set
              asked text)
              (sym (gone.1 (csv format).0))
              (csv format).1;
        };
      };
      sent = gone.2;
    }
