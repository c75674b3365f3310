use Rattle.lb_sim.proofs.LaneBits.{ColumnSoFar}
use Rattle.lb_sim.proofs.lane_bits.column.Given as goal

abbrev pub invariant-loop-i : goal.invariant-loop-i
invariant-loop-i l = ColumnSoFar l.rows l.from l.c l.plane l.i
