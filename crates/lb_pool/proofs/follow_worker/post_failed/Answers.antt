-- One more member was posted.
use Rattle.std.proofs.Common.{◌<◌, length, arith, rules, subst}
use Rattle.std.specs.Prelude.{None}
use Rattle.std.specs.List.{All}
use Rattle.std.proofs.lemmas.List.{take_all}
use Rattle.lb_pool.specs.Postings.{IsPostedWith}
use Rattle.lb_pool.proofs.WorkerPosts.{one_more_posted}
use Rattle.lb_pool.proofs.follow_worker.post_failed.Goals as goal

pub loop-k-preserved : goal.loop-k-preserved
loop-k-preserved c =
    let i = c.loop-k.k-index in
    let members = c.args.members.now in
    let inside : i < length members = omega (arith, c.loop-k-test.true) in (
      c.post.ensures.seat,
      search rules,
      one_more_posted c.loop-k.seat c.post.new.seat members i None inside c.post.ensures.posts
          c.loop-k.invariant.2,
    )

pub returns-clause-posted : goal.returns-clause-posted
returns-clause-posted c =
    let members = c.args.members.now in
    subst (All (IsPostedWith c.loop-k.seat))
    (take_all c.loop-k.k-index members (omega (arith, c.loop-k-test.false)))
    c.loop-k.invariant.2
