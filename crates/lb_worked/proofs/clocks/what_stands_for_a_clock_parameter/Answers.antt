use Rattle.std.proofs.Common.{[], ◌∷◌, refl}
use Rattle.lb_static.specs.Instances.{Root, Child}
use Rattle.lb_check.specs.Needs.{needs}
use Rattle.lb_check.specs.declared.verdict.Verdict.TheVariants.{Passed}
use Rattle.lb_worked.specs.WorkedSamples.{at, history}
use Rattle.lb_worked.specs.WorkedClocks as worked
use Rattle.lb_worked.proofs.CausalTest.{accepted}
use Rattle.lb_worked.proofs.SolvesTest.{by_history}
use Rattle.lb_worked.proofs.clocks.what_stands_for_a_clock_parameter.Goals as goal

pub returns : goal.returns
unfolding needs
returns c = record {
  one_variable_for_two = (accepted worked.one_variable_for_two).shows refl;
  two_parameters_are_two_clocks = refl;
  literal_for_a_clocked_input = (accepted worked.literal_for_a_clocked_input).shows refl;
  at_its_ticks = by_history _ _ Passed (history (
      at Root "c t f; e 3 3; w 3 3; ok t t"
      ∷ at (Child Root 0 0) "c t f; y 3 .; z 3 ." ∷ [])) refl refl;
  any_expression_for_an_inner_clock =
      (accepted worked.any_expression_for_an_inner_clock).shows refl;
  a_clock_inside = by_history _ _ Passed (history (
      at Root "x 5 -1; e 5 5; ok t t"
      ∷ at (Child Root 0 0) "c t f; x 5 -1; z 5 .; y 5 5" ∷ [])) refl refl;
}
