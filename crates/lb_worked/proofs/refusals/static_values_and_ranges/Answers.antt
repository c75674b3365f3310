use Rattle.std.proofs.Common.{refl}
use Rattle.lb_check.specs.Needs.{needs}
use Rattle.lb_worked.specs.WorkedRefusals as worked
use Rattle.lb_worked.proofs.CausalTest.{accepted}
use Rattle.lb_worked.proofs.refusals.static_values_and_ranges.Goals as goal

pub returns : goal.returns
unfolding needs
returns c = record {
  constant_without_a_value = refl;
  constants_in_a_circle = refl;
  constant_out_of_range = refl;
  constant_in_an_expression = refl;
  unreached_constant = (accepted worked.unreached_constant).shows refl;
  size_of_zero = refl;
  negative_size = refl;
  size_above_4096 = refl;
  index_above_4095 = refl;
  slice_backwards = refl;
  type_of_65792_elements = refl;
  calls_itself = refl;
  calls_in_a_circle = refl;
  unreached_recursion = (accepted worked.unreached_recursion).shows refl;
}
