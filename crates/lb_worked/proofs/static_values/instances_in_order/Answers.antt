use Rattle.std.proofs.Common.{refl}
use Rattle.lb_worked.proofs.static_values.instances_in_order.Goals as goal

pub returns : goal.returns
returns c = record {
  nodes = refl;
  places = refl;
  parameter_values = refl;
  with_an_observer = refl;
}
