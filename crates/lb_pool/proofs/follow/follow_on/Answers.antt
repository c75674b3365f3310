-- The writer may run.
use Rattle.lb_pool.proofs.RightPosts.{length-right_of}
use Rattle.lb_pool.proofs.follow.follow_on.Goals as goal

pub beside_workers-sink-requires-clause-task : goal.beside_workers-sink-requires-clause-task
beside_workers-sink-requires-clause-task g c κs within =
    let work = c.args.work.now in (
      c.in-Ok.ensures.first,
      length-right_of work.program.now.program.now work.set.now work.plan.now c.args.board.now
          c.requires.board,
      c.requires.failures,
    )
