use Rattle.std.proofs.Common.{[], ◌∷◌, refl}
use Rattle.lb_static.specs.Instances.{Root, Child}
use Rattle.lb_check.specs.Needs.{needs}
use Rattle.lb_check.specs.declared.verdict.Verdict.TheVariants.{Passed}
use Rattle.lb_worked.specs.WorkedSamples.{at, history}
use Rattle.lb_worked.specs.WorkedClocks as worked
use Rattle.lb_worked.proofs.CausalTest.{accepted}
use Rattle.lb_worked.proofs.SolvesTest.{by_history}
use Rattle.lb_worked.proofs.clocks.calls_with_clocked_parameters.Goals as goal

pub returns : goal.returns
unfolding needs
returns c = record {
  result_on_the_clock_of_the_caller = (accepted worked.clocked_result).shows refl;
  clocked_result = by_history _ _ Passed (history (
      at Root "c t f; x 3 4; w 3 .; ok t t"
      ∷ at (Child Root 0 0) "c t f; y 3 .; z 3 ." ∷ [])) refl refl;
  current_of_a_result = (accepted worked.current_of_a_result).shows refl;
  current_of_it = by_history _ _ Passed (history (
      at Root "c t f t; x 2 4 3; e 2 2 3; w 2 2 3; ok t t t"
      ∷ at (Child Root 0 0) "c t f t; y 2 . 3; z 2 . 3" ∷ [])) refl refl;
  truth_for_a_clock_parameter = refl;
  expression_for_a_clock_parameter = refl;
  argument_on_another_clock = refl;
  output_that_is_the_clock_of_another = (accepted worked.clock_among_results).shows refl;
  clock_among_results = by_history _ _ Passed (history (
      at Root "x 4 -3 5; e 4 4 5; d t f t; z 4 . 5; m 4 4 5; ok t t t"
      ∷ at (Child Root 0 0) "x 4 -3 5; c t f t; y 4 . 5" ∷ [])) refl refl;
  result_on_a_clock_of_its_own = refl;
}
