-- The numbers of a batch are those of traces.
use Rattle.std.proofs.Common.{length}
use Rattle.lb_pool.proofs.Covering.{batch_below}
use Rattle.lb_pool.proofs.batch.Work.batch.Goals as goal

pub returns-clause-within : goal.returns-clause-within
returns-clause-within c =
    let work = c.args.self.now in
    batch_below (length work.set.now.traces) work.plan.now c.args.i c.batch.result.now
    c.batch.ensures.lawful work.over_all c.requires c.batch.ensures.numbers
