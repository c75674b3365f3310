use Rattle.lb_traces.proofs.PackedRows.{bit_here, bit_there}
use Rattle.lb_traces.proofs.traces.with_bit.Goals as goal

pub returns-then-b-clause-here : goal.returns-then-b-clause-here
returns-then-b-clause-here c = bit_here _ _ _ c.if-b.true c.requires

pub returns-then-b-clause-others : goal.returns-then-b-clause-others
returns-then-b-clause-others c j ne = bit_there c.args.word c.args.i j c.requires ne
