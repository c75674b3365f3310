use Rattle.lb_expand.proofs.Words.{take, length, HasFlags}
use Rattle.lb_expand.proofs.expansion.clock_uses.mark.Given as goal

abbrev pub invariant-loop-name : goal.invariant-loop-name
invariant-loop-name l = HasFlags (length l.fn.flags) (take l.name-index l.names) l.flags
