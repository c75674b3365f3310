use Rattle.std.proofs.Common.{w32}
use Rattle.std.proofs.lemmas.Int.{rem_is}
use Rattle.lb_lanes.proofs.Divisions.{divisor, quotient_fits_words}
use Rattle.lb_lanes.proofs.division.RemainderDivision.divide.Goals as goal

pub nonzero_rem-result : goal.nonzero_rem-result
nonzero_rem-result c = (
  divisor c.args.x c.args.y c.ranges.y c.requires,
  quotient_fits_words c.args.x c.args.y c.ranges.x c.ranges.y c.requires,
)

pub returns : goal.returns
returns c = rem_is w32 c.args.x c.args.y c.ranges.x c.ranges.y
