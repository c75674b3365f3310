use Rattle.std.proofs.Common.{Some}
use Rattle.lb_pool.proofs.follow_writer.next_verdict.Goals as goal

pub returns-in-Ready-clause-right : goal.returns-in-Ready-clause-right
returns-in-Ready-clause-right g c =
    c.look.ensures.right (Some c.in-Ready.verdict) c.in-Ready.is
