use Rattle.lb_traces.proofs.NarrowLists.{integers-none}
use Rattle.lb_traces.proofs.narrow_numbers.NarrowNumbers.new.Goals as goal

pub returns : goal.returns
returns c = rw c.new.ensures.items (integers-none _ _)
