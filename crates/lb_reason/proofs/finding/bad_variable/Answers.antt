use Rattle.std.proofs.Common.{◌≡◌, ◌∙◌, true, false, ap, sym}
use Rattle.lb_flat.specs.Run.{cell}
use Rattle.lb_reason.specs.Deciding.{is_bad}
use Rattle.lb_reason.specs.Moments.{row_now}
use Rattle.lb_reason.proofs.Firsts.{one_number, other_number}
use Rattle.lb_reason.proofs.finding.bad_variable.Goals as goal

pub returns-then-passes : goal.returns-then-passes
returns-then-passes c =
    let row = row_now c.args.moment.now in
    let here : is_bad (cell row c.loop-number.number) ≡ true =
    sym (c.passes.ensures ∙ ap is_bad c.cell.ensures) ∙ c.if-passes.true in
    one_number is_bad row c.loop-number.number c.args.program.now.variables
    c.loop-number-test.true here
    ∙ c.loop-number.invariant

pub loop-number-preserved : goal.loop-number-preserved
loop-number-preserved c =
    let row = row_now c.args.moment.now in
    let here : is_bad (cell row c.loop-number.number) ≡ false =
    sym (c.passes.ensures ∙ ap is_bad c.cell.ensures) ∙ c.if-passes.false in
    other_number is_bad row c.loop-number.number c.args.program.now.variables
    c.loop-number-test.true here
    ∙ c.loop-number.invariant
