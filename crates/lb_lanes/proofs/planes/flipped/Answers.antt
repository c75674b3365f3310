use Rattle.lb_lanes.proofs.OnPlanes.{on-flip}
use Rattle.lb_lanes.proofs.planes.flipped.Goals as goal

pub returns : goal.returns
returns c i h = on-flip c.args.word i c.ranges.word.fits h
