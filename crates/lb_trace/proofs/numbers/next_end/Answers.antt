use Rattle.std.proofs.Common.{arith}
use Rattle.lb_trace.proofs.LowestBits.{lowest}
use Rattle.lb_trace.proofs.numbers.next_end.Goals as goal

pub returns : goal.returns
returns c = lowest c.args.bits (omega (arith, c.if-bits-eq0.false)) (omega arith)
