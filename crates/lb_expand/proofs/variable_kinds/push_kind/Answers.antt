-- Each pass adds one copy of the kind.
use Rattle.lb_expand.proofs.numbering.RowInstances.{copy_added}
use Rattle.lb_expand.proofs.variable_kinds.push_kind.Goals as goal

pub loop-copy-preserved : goal.loop-copy-preserved
loop-copy-preserved c =
    let l = c.loop-copy in
    copy_added c.args.kind l.copy c.args.kinds.now.items l.kinds.items c.push.new.self.items
    l.invariant c.in_ok-push.ensures.items
