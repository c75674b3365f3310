use Rattle.std.proofs.Common.{refl}
use Rattle.lb_check.specs.Needs.{needs}
use Rattle.lb_worked.specs.WorkedRefusals as worked
use Rattle.lb_worked.proofs.CausalTest.{accepted}
use Rattle.lb_worked.proofs.refusals.types.Goals as goal

pub returns : goal.returns
unfolding needs
returns c = record {
  int_for_a_truth = refl;
  truths_in_order = refl;
  branches_of_two_types = refl;
  index_past_the_end = refl;
  slice_past_the_end = refl;
  equal_arrays = refl;
  joined_past_4096 = refl;
  two_results_inside = refl;
  two_results_in_parentheses = (accepted worked.two_results_in_parentheses).shows refl;
  assertion_of_an_int = refl;
  map_of_other_length = refl;
  red_without_arrays = (accepted worked.red_without_arrays).shows refl;
  fill_of_one_output = refl;
}
