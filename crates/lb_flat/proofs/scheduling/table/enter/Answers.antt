use Rattle.lb_flat.proofs.ordering.Tables.{empty_table, enters}
use Rattle.lb_flat.proofs.scheduling.table.enter.Goals as goal

pub loop-i-init : goal.loop-i-init
loop-i-init c = empty_table c.args.table.now c.requires.empty

pub loop-i-preserved : goal.loop-i-preserved
loop-i-preserved c =
    enters _ _ _ _ _ c.loop-i-test.true c.loop-i.invariant c.requires.once c.requires.within
