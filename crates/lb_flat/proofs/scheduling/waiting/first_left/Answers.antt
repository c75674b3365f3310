use Rattle.lb_flat.proofs.ordering.Tables.{number_below}
use Rattle.lb_flat.proofs.scheduling.waiting.first_left.Goals as goal

pub bounds-done-a : goal.bounds-done-a
bounds-done-a c = number_below _ _ _ _ c.requires c.loop-a-test.true
