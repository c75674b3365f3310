use Rattle.std.proofs.Common.{[], ◌∷◌, refl}
use Rattle.lb_static.specs.Instances.{Root}
use Rattle.lb_check.specs.Needs.{needs}
use Rattle.lb_check.specs.declared.verdict.Verdict.TheVariants.{Assertion as Assertion_fails, False}
use Rattle.lb_check.specs.declared.verdict.Verdict.TheVariants.{Passed}
use Rattle.lb_worked.specs.WorkedSamples.{at, history}
use Rattle.lb_worked.specs.WorkedScalars as worked
use Rattle.lb_worked.proofs.CausalTest.{all_accepted}
use Rattle.lb_worked.proofs.SolvesTest.{by_history}
use Rattle.lb_worked.proofs.scalars.the_counter_of_the_first_run.Goals as goal

pub returns : goal.returns
unfolding needs
returns c = record {
  accepted = (all_accepted (worked.counter ∷ worked.assuming_counter ∷ [])).shows refl;
  false_where_the_sum_is_eleven = by_history _ _ (False 2) (history (
      at Root "x 1 5 6; ok t t f; n 0 5 11" ∷ [])) refl refl;
  passes_on_one_instant = by_history _ _ Passed (history (
      at Root "x 0; ok t; n 0" ∷ [])) refl refl;
  assertion_first = by_history _ _ (Assertion_fails 2) (history (
      at Root "x 1 5 6; ok t t f; n 0 5 11" ∷ [])) refl refl;
}
