use Rattle.lb_flat.proofs.Words.{length, take, IsTableOf}
use Rattle.lb_flat.proofs.scheduling.table.enter.Given as goal

abbrev pub invariant-loop-i : goal.invariant-loop-i
invariant-loop-i l = IsTableOf (length l.fn.table) (take l.i l.equations) l.table
