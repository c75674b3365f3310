use Rattle.std.proofs.Common.{refl}
use Rattle.lb_check.specs.Needs.{needs}
use Rattle.lb_worked.specs.WorkedRefusals as worked
use Rattle.lb_worked.proofs.CausalTest.{accepted}
use Rattle.lb_worked.proofs.refusals.the_interface_of_the_starts.Goals as goal

pub returns : goal.returns
unfolding needs
returns c = record {
  output_is_an_int = refl;
  two_outputs = refl;
  parameter_of_the_start = refl;
  observer_of_other_types = refl;
  observer_of_an_int = refl;
  functions_under_test = (accepted worked.functions_under_test).shows refl;
}
