-- Each pass adds one variable, or finds too many elements.
use Rattle.lb_expand.proofs.Words.{◌-◌, ◌<◌, ◌≤◌, refl, arith, declared_width}
use Rattle.lb_expand.proofs.numbering.StoredLayouts.{one_added, past_most}
use Rattle.lb_expand.proofs.layout.add_variables.Goals as goal

pub returns-then-width-next-clause-large : goal.returns-then-width-next-clause-large
returns-then-width-next-clause-large c e =
    let l = c.loop-variable in
    let test = c.if-width-next.true in
    let over : 65536 - l.next < c.width-width.result = omega (arith, test) in
    past_most (declared_width c.args.statics.now) c.args.variables.now l.variable-index _
    c.args.last l.next c.width-width.result c.args.starts.now.items l.starts.items
    c.loop-variable-test.true l.invariant c.width-width.ensures over

pub loop-variable-preserved : goal.loop-variable-preserved
loop-variable-preserved c =
    let l = c.loop-variable in
    let test = c.if-width-next.false in
    let fits : c.width-width.result ≤ 65536 - l.next = omega (arith, test) in
    one_added (declared_width c.args.statics.now) c.args.variables.now l.variable-index _
    c.args.last l.next c.width-width.result _ c.args.starts.now.items l.starts.items
    c.push.new.self.items c.loop-variable-test.true l.invariant c.width-width.ensures fits refl
    c.in_ok-push.ensures.items
