use Rattle.std.proofs.Common.{[]}
use Rattle.lb_sim.proofs.LaneBits.{Put}
use Rattle.lb_sim.proofs.lane_bits.copy_words.Given as goal

abbrev pub invariant-loop-c : goal.invariant-loop-c
invariant-loop-c l = Put [] l.first l.from l.fn.words l.words l.c
