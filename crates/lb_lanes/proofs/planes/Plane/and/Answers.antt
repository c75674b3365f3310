use Rattle.lb_lanes.proofs.OnPlanes.{on-and}
use Rattle.lb_lanes.proofs.planes.Plane.and.Goals as goal

pub returns : goal.returns
returns c i h = on-and c.args.self.0 c.args.other.0 i
