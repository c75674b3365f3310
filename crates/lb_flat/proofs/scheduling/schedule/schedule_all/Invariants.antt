use Rattle.lb_flat.proofs.Words.{IsScheduled, left}
use Rattle.lb_flat.proofs.scheduling.schedule.schedule_all.Given as goal

abbrev pub invariant-passes : goal.invariant-passes
invariant-passes l = IsScheduled l.clocks l.table l.done l.out.items

abbrev pub decreases-passes : goal.decreases-passes
decreases-passes l = left l.done
