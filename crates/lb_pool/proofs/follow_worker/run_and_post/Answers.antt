-- A batch may be posted, and was.
use Rattle.std.proofs.Common.{rules}
use Rattle.lb_pool.proofs.WorkerPosts.{each_posted, may_post_each, same_posted}
use Rattle.lb_pool.proofs.follow_worker.run_and_post.Goals as goal

pub run_queue_to-requires-clause-takes : goal.run_queue_to-requires-clause-takes
run_queue_to-requires-clause-takes c =
    let work = c.args.work.now in
    may_post_each work.program.now.program.now work.set.now work.plan.now c.args.board.now
    c.args.seat.now c.batch-members.result.now c.requires.board c.batch-members.ensures.within
    c.requires.seat

pub returns-clause-posted : goal.returns-clause-posted
returns-clause-posted c =
    let work = c.args.work.now in
    let posting = c.run_queue_to.new.verdicts in
    let members = c.batch-members.result.now in
    same_posted posting.seat.now _ members _
    (each_posted work.program.now.program.now work.set.now posting.seat.now members
    posting.members.now c.run_queue_to.ensures.becomes.1.members_are
    c.run_queue_to.ensures.judged)
    (search rules) c.batch-members.ensures.numbers
