use Rattle.lb_traces.proofs.SixteenLanes.{truth-bit, truths-small}
use Rattle.lb_traces.proofs.neighbours.truths_in.Goals as goal

pub returns-clause-bits : goal.returns-clause-bits
returns-clause-bits c = λ i below.
    truth-bit c.args.cells.now i c.requires.long (c.requires.ints i below) below

pub returns-clause-small : goal.returns-clause-small
returns-clause-small c = truths-small c.args.cells.now c.requires.long
