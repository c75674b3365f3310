use Rattle.lb_pool.proofs.RightPosts.{are_on_board}
use Rattle.lb_pool.proofs.follow_worker.settle_batch.Goals as goal

pub post_failed-requires-clause-within : goal.post_failed-requires-clause-within
post_failed-requires-clause-within c =
    let work = c.args.work.now in
    are_on_board work.program.now.program.now work.set.now work.plan.now c.args.board.now
    c.batch.result.now c.requires.board c.batch.ensures.within
