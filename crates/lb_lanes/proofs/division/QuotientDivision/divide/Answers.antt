use Rattle.std.proofs.Common.{w32}
use Rattle.std.proofs.lemmas.Int.{quot_is}
use Rattle.lb_lanes.proofs.Divisions.{divisor, quotient_fits_words, quotient_fits}
use Rattle.lb_lanes.proofs.division.QuotientDivision.divide.Goals as goal

pub nonzero_div-result : goal.nonzero_div-result
nonzero_div-result c = (
  divisor c.args.x c.args.y c.ranges.y c.requires,
  quotient_fits_words c.args.x c.args.y c.ranges.x c.ranges.y c.requires,
)

pub returns : goal.returns
returns c = quot_is w32 c.args.x c.args.y c.ranges.x c.ranges.y
    (quotient_fits c.args.x c.args.y c.ranges.x c.requires)
