use Rattle.std.proofs.Common.{[], ◌∷◌, refl}
use Rattle.lb_static.specs.Instances.{Root}
use Rattle.lb_check.specs.Needs.{needs}
use Rattle.lb_check.specs.declared.verdict.Verdict.TheVariants.{Passed}
use Rattle.lb_worked.specs.WorkedSamples.{at, history}
use Rattle.lb_worked.specs.WorkedClocks as worked
use Rattle.lb_worked.proofs.CausalTest.{accepted}
use Rattle.lb_worked.proofs.SolvesTest.{by_history}
use Rattle.lb_worked.proofs.clocks.what_clock_an_expression_is_on.Goals as goal

pub returns : goal.returns
unfolding needs
returns c = record {
  literals_on_a_slower_clock = (accepted worked.slower_literals).shows refl;
  slower_literals = by_history _ _ Passed (history (
      at Root "c t f; x 0 0; e 7 7; y 6 .; m 7 7; ok t t" ∷ [])) refl refl;
  arrays_on_a_slower_clock = (accepted worked.slower_arrays).shows refl;
  slower_arrays = by_history _ _ Passed (history (
      at Root
      "c t f t; A 3 5 1; A 4 6 2; e 78 78 12; B 7 . 1; B 8 . 2; C 7 7 1; C 8 8 2; ok t t t"
      ∷ [])) refl refl;
  current_of_a_literal = refl;
  current_on_the_base_clock = refl;
  operands_on_two_clocks = refl;
  operands_on_both_signs = refl;
  equal_variables_are_two_clocks = refl;
  when_of_an_int = refl;
  declared_clocks_in_a_circle = refl;
  circle_though_literals_fit = refl;
  input_clocked_by_a_local = refl;
  iterated_node_with_a_clocked_parameter = refl;
  clocked_input_of_the_node_under_test = refl;
}
