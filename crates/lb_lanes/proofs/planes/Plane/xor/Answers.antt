use Rattle.lb_lanes.proofs.OnPlanes.{on-xor}
use Rattle.lb_lanes.proofs.planes.Plane.xor.Goals as goal

pub returns : goal.returns
returns c i h = on-xor c.args.self.0 c.args.other.0 i
