use Rattle.std.proofs.Common.{refl}
use Rattle.lb_worked.proofs.static_values.what_is_reached_by_name.Goals as goal

pub returns : goal.returns
returns c = record {
  nodes = refl;
  constants = refl;
}
