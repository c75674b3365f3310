use Rattle.lb_flat.proofs.Words.{IsScheduled}
use Rattle.lb_flat.proofs.scheduling.topological_sort.schedule_stack.Given as goal

abbrev pub invariant-visits : goal.invariant-visits
invariant-visits l = IsScheduled l.clocks l.table l.done l.out.items
