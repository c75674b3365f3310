-- The report on a program and traces that are ready to be run is the report on the texts.
use Rattle.std.proofs.Common.{◌≡◌, ◌∙◌, ℕ, Result, ap, refl}
use Rattle.std.proofs.Common.{subst, sym}
use Rattle.lb_syntax.specs.Tokens.{Text}
use Rattle.lb_static.specs.DataTypes.{signature}
use Rattle.lb_static.specs.Signature.{kinds_of}
use Rattle.lb_flat.specs.Programs as flat
use Rattle.lb_flat.specs.Standing.{HasKindsOf}
use Rattle.lb_flat.specs.RightVerdicts.{right_verdicts}
use Rattle.lb_traces.specs.Traces.{Recording, Traces}
use Rattle.lb_trace.specs.Spelling.{Spells}
use Rattle.lb_pool.specs.Correct as run
use Rattle.lb_output.specs.Follows.{IsFollowed}
use Rattle.lb_pool.specs.RightReports.{right_report}
use Rattle.lb_output.specs.Taken.{Taken}
use Rattle.lb_output.specs.declared.follow_error.FollowError.{FollowError}
use Rattle.lb_output.proofs.SinkBytes.{takes_nothing}
use Rattle.lb_report.specs.AcceptedPrograms.{IsAcceptedProgram}
use Rattle.lb_report.specs.Bench.{IsRefused, OnlyProgram, program_of}
use Rattle.lb_report.specs.LiveReports.{IsBenchText, IsPrepared, IsTurnedAway}
use Rattle.lb_report.specs.LiveReports.{IsUnderWay}
use Rattle.lb_report.specs.declared.answer.AcceptedProgram.{AcceptedProgram}
use Rattle.lb_refusal.specs.declared.error.BenchError.{BenchError}
use Rattle.lb_report.specs.declared.live.Prepared.{Prepared}
use Rattle.lb_refusal.specs.declared.options.Options.{Options}
use Rattle.lb_report.proofs.Answering.{none_refuses, first_told}
use Rattle.lb_report.proofs.VerdictLists.{are_verdicts}

-- the report on the right verdicts is that of the texts
is_bench_text : (source traces : Text) (options : Options) (p : Prepared)
    → IsPrepared source traces options p
    → run.AreVerdicts p.program.ordered.program p.set
    (right_verdicts (flat.program_of p.program.ordered.program) p.set)
    → IsBenchText source traces options (right_report p.program.ordered.program p.set)
is_bench_text source traces options p ready right =
    let found = ready.program in
    let read = ready.reading in
    let P = program_of found.tree options in
    let elements : p.program.signature ≡ signature P = sym found.holds.inputs in
    let same : p.set.signature ≡ signature P = read.signature ∙ elements in
    let all = p.set.traces in
    record {
      tree = found.tree;
      spelled = found.spelled;
      holds = record {
        accepted = found.holds.accepted;
        recording = p.set;
        recorded = record {
          under_signature = same;
          text_spells_it = subst (λ es. Spells es traces all) elements read.spelled;
          no_other_is_spelled =
              subst (λ es. (other : Traces) → Spells es traces other → other ≡ all) elements
              read.only;
        };
        verdicts = right_verdicts (flat.program_of p.program.ordered.program) p.set;
        judged =
            are_verdicts P p.program.ordered.program p.set _ found.holds.equations (sym same)
            right;
        reported = refl;
      };
    }

-- the traces of the text have the kinds that the program reads
pub has_kinds : (source traces : Text) (options : Options) (p : AcceptedProgram)
    (set : Recording) → OnlyProgram source options (IsAcceptedProgram p)
    → set.signature ≡ p.signature
    → HasKindsOf (flat.program_of p.ordered.program) set
has_kinds source traces options p set found same =
    ap kinds_of (same ∙ sym found.holds.inputs) ∙ sym found.holds.equations.signature

pub is_under_way : (source traces : Text) (options : Options) (p : Prepared)
    (before after : Taken) (m n : ℕ) (r : Result (Unit {0}) FollowError)
    → IsPrepared source traces options p
    → run.AreVerdicts p.program.ordered.program p.set
    (right_verdicts (flat.program_of p.program.ordered.program) p.set)
    → IsFollowed (right_report p.program.ordered.program p.set) before after m n r
    → IsUnderWay source traces options before after m n r
is_under_way source traces options p before after m n r ready right followed =
    let text = is_bench_text source traces options p ready right in
    record {
      report = right_report p.program.ordered.program p.set;
      reported = text;
      nothing_refuses = none_refuses source traces options _ text;
      followed = followed;
    }

-- a sink is left as it was where the texts are refused
pub is_turned_away : (source traces : Text) (options : Options) (e : BenchError)
    (a : Taken) (n : ℕ) → IsRefused source traces options e
    → IsTurnedAway source traces options a a n n e
is_turned_away source traces options e a n refused = record {
  refused = refused;
  first = first_told source traces options e refused;
  kept = takes_nothing a;
  never_failed = refl;
}
