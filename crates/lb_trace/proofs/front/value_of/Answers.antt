use Rattle.std.proofs.Common.{◌<◌, All, arith, ap, sym, subst, ◌∙◌}
use Rattle.lb_trace.specs.Fronts.{joined}
use Rattle.lb_trace.proofs.JoinedDigits.{digits-small, lone-digits, lone-value}
use Rattle.lb_trace.proofs.front.value_of.Goals as goal

pub joined-requires : goal.joined-requires
joined-requires c =
    subst (All (λ digit. digit < 10)) (sym c.lone.ensures)
    (lone-digits c.args.count c.args.text.now (omega (arith, c.requires.room, c.requires.few))
    c.requires.digits)

pub returns-clause-spelled : goal.returns-clause-spelled
returns-clause-spelled c =
    c.joined.ensures ∙ ap joined c.lone.ensures ∙ lone-value c.args.count c.args.text.now

pub returns-clause-small : goal.returns-clause-small
returns-clause-small c =
    let spelled = c.joined.ensures ∙ ap joined c.lone.ensures
    ∙ lone-value c.args.count c.args.text.now in
    let small = digits-small c.args.count c.args.text.now
    (omega (arith, c.requires.room, c.requires.few)) c.requires.digits in
    omega (arith, spelled, small)
