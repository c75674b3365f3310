use Rattle.std.proofs.Common.{refl}
use Rattle.lb_check.specs.Needs.{needs}
use Rattle.lb_worked.specs.WorkedRefusals as worked
use Rattle.lb_worked.proofs.CausalTest.{accepted}
use Rattle.lb_worked.proofs.refusals.names.Goals as goal

pub returns : goal.returns
unfolding needs
returns c = record {
  nothing_wrong = (accepted worked.nothing_wrong).shows refl;
  unknown_name = refl;
  unknown_node = refl;
  unknown_left_name = refl;
  unknown_clock_name = refl;
  constant_for_a_clock_name = refl;
  unknown_static_name = refl;
  variable_in_a_static_expression = refl;
  variable_hides_a_constant = (accepted worked.variable_hides_a_constant).shows refl;
  doubled_variable = refl;
  doubled_unreached_nodes = refl;
  constant_named_as_a_node = refl;
  static_argument_too_many = refl;
  static_argument_missing = refl;
  unknown_name_unreached = (accepted worked.unknown_name_unreached).shows refl;
  no_node_under_test = refl;
  no_observer = refl;
}
