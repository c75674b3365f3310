use Rattle.lb_lanes.proofs.SignedDivisions.{remainder_word, abs_positive, abs_small}
use Rattle.lb_lanes.proofs.division.RemainderDivision.from_quotient.Goals as goal

pub returns : goal.returns
returns c =
    remainder_word c.args.x c.args.quotient c.args.divisor c.ranges.x.fits c.ranges.quotient.fits
    c.ranges.divisor.fits (abs_positive _ _ c.requires.divisible) (abs_small c.args.divisor)
    c.requires.quotient
