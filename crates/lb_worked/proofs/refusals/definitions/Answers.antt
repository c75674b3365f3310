use Rattle.std.proofs.Common.{refl}
use Rattle.lb_check.specs.Needs.{needs}
use Rattle.lb_worked.specs.WorkedRefusals as worked
use Rattle.lb_worked.proofs.CausalTest.{accepted}
use Rattle.lb_worked.proofs.refusals.definitions.Goals as goal

pub returns : goal.returns
unfolding needs
returns c = record {
  local_without_a_definition = refl;
  two_equations = refl;
  two_left_sides_of_one_name = refl;
  input_on_the_left = refl;
  function_with_a_memory = refl;
  function_that_calls_a_node = refl;
  function_that_iterates_a_node = refl;
  unreached_function_with_a_memory =
      (accepted worked.unreached_function_with_a_memory).shows refl;
}
