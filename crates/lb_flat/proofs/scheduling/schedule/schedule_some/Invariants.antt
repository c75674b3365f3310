use Rattle.lb_flat.proofs.{Words.IsScheduled, ordering.Ordering.IsPassing}
use Rattle.lb_flat.proofs.scheduling.schedule.schedule_some.Given as goal

abbrev pub invariant-loop-e : goal.invariant-loop-e
invariant-loop-e l = record {
  state : IsScheduled l.clocks l.table l.done l.out.items;
  passing : IsPassing l.clocks l.table l.fn.done l.done l.some l.e;
}
