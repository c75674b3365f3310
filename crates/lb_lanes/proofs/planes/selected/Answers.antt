use Rattle.lb_lanes.proofs.OnPlanes.{selection_on}
use Rattle.lb_lanes.proofs.planes.selected.Goals as goal

pub returns : goal.returns
returns c = selection_on c.args.mask c.args.a c.args.b c.ranges.mask.fits
