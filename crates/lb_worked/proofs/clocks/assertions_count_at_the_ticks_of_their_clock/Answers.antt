use Rattle.std.proofs.Common.{[], ◌∷◌, refl}
use Rattle.lb_static.specs.Instances.{Root, Child}
use Rattle.lb_check.specs.Needs.{needs}
use Rattle.lb_check.specs.declared.verdict.Verdict.TheVariants.{Assertion as Assertion_fails, False}
use Rattle.lb_worked.specs.WorkedSamples.{at, history}
use Rattle.lb_worked.specs.WorkedClocks as worked
use Rattle.lb_worked.proofs.CausalTest.{all_accepted}
use Rattle.lb_worked.proofs.SolvesTest.{by_history}
use Rattle.lb_worked.proofs.clocks.assertions_count_at_the_ticks_of_their_clock.Goals as goal

pub returns : goal.returns
unfolding needs
returns c = record {
  accepted = (all_accepted (worked.slow_assertion ∷ worked.asserted_call ∷ [])).shows refl;
  ticks_alone = by_history _ _ (Assertion_fails 2) (history (
      at Root "c f t t; x -1 2 0; ok t t t" ∷ [])) refl refl;
  assertion_by_a_call_holds = by_history _ _ (False 1) (history (
      at Root "x 1 3; ok t f"
      ∷ at (Child Root 0 0) "x 1 3; p t t" ∷ [])) refl refl;
  assertion_by_a_call_fails = by_history _ _ (Assertion_fails 0) (history (
      at Root "x 0; ok t"
      ∷ at (Child Root 0 0) "x 0; p f" ∷ [])) refl refl;
}
