use Rattle.lb_trace.proofs.WordLanes.{minus-lane}
use Rattle.lb_trace.proofs.words.minus_of.Goals as goal

pub returns-clause-minus : goal.returns-clause-minus
returns-clause-minus c = λ j below. minus-lane c.args.bytes j c.requires below
