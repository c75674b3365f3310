use Rattle.lb_traces.proofs.NarrowLists.{integers-none}
use Rattle.lb_traces.proofs.narrow_numbers.NarrowNumbers.clear.Goals as goal

pub returns : goal.returns
returns c = rw c.clear.ensures.items (integers-none _ _)
