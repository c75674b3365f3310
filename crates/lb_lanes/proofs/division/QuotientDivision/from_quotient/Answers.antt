use Rattle.lb_lanes.proofs.division.QuotientDivision.from_quotient.Goals as goal

pub returns : goal.returns
returns c = c.requires.quotient
