use Rattle.lb_check.proofs.clocking.ClockSetRows.{same_variable, two_variables}
use Rattle.lb_check.proofs.clocking.OwnClocks.{same_signs, other_variable}
use Rattle.lb_check.proofs.own_clock.is_same.Goals as goal

pub returns-then-x-y-clause-mirror : goal.returns-then-x-y-clause-mirror
returns-then-x-y-clause-mirror c =
    same_variable c.args.left c.args.right c.in-On-On.x c.in-On-On.y c.in-On-On.sign
    c.in-On-On.other
    c.in-On-On.is-0 c.in-On-On.is-1 c.if-x-y.true

pub returns-else-x-y-clause-mirror : goal.returns-else-x-y-clause-mirror
returns-else-x-y-clause-mirror c =
    two_variables c.args.left c.args.right c.in-On-On.x c.in-On-On.y c.in-On-On.sign
    c.in-On-On.other
    c.in-On-On.is-0 c.in-On-On.is-1 c.if-x-y.false

pub returns-then-x-y-clause-same : goal.returns-then-x-y-clause-same
returns-then-x-y-clause-same c r h left right =
    same_signs r h c.args.left c.args.right c.in-On-On.x c.in-On-On.y c.in-On-On.sign
    c.in-On-On.other
    c.in-On-On.is-0 c.in-On-On.is-1 left right c.if-x-y.true

pub returns-else-x-y-clause-same : goal.returns-else-x-y-clause-same
returns-else-x-y-clause-same c r h left right =
    other_variable r h c.args.left c.args.right c.in-On-On.x c.in-On-On.y c.in-On-On.sign
    c.in-On-On.other
    c.in-On-On.is-0 c.in-On-On.is-1 left right c.if-x-y.false
