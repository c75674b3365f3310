use Rattle.lb_flat.proofs.Words.{IsScheduled}
use Rattle.lb_flat.proofs.scheduling.topological_sort.schedule_in_depth.Given as goal

abbrev pub invariant-loop-entry : goal.invariant-loop-entry
invariant-loop-entry l = IsScheduled l.clocks l.table l.done l.out.items
