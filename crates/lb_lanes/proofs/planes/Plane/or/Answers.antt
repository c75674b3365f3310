use Rattle.lb_lanes.proofs.OnPlanes.{on-or}
use Rattle.lb_lanes.proofs.planes.Plane.or.Goals as goal

pub returns : goal.returns
returns c i h = on-or c.args.self.0 c.args.other.0 i
