use Rattle.std.proofs.Common.{rules}
use Rattle.lb_lanes.proofs.planes.Plane.select.Goals as goal

pub returns : goal.returns
returns c = search rules
