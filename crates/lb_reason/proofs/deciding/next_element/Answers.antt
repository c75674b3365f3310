use Rattle.std.proofs.Common.{◌∙◌, Some, None, ap}
use Rattle.lb_flat.specs.Values.{equation_of, operation_of}
use Rattle.lb_reason.specs.Deciding as spec
use Rattle.lb_reason.specs.Moments.{equations_now, row_now}
use Rattle.lb_reason.proofs.Chains.{decided_is}
use Rattle.lb_reason.proofs.deciding.next_element.Goals as goal

pub returns-in-Some : goal.returns-in-Some
returns-in-Some c =
    let m = c.args.moment.now in
    let clocks = m.program.now.clocks.items in
    let q = c.in-Some.q.now in
    c.deciding.ensures
    ∙ ap (λ x. spec.deciding (row_now m) x (operation_of q.operation)) c.cell.ensures
    ∙ decided_is (equations_now m) _ (row_now m) c.args.element.0 (Some (equation_of clocks q))
    c.equations.ensures (c.in-Some.ensures clocks)

pub returns-in-None : goal.returns-in-None
returns-in-None c =
    let m = c.args.moment.now in
    let clocks = m.program.now.clocks.items in
    decided_is (equations_now m) _ (row_now m) c.args.element.0 None c.equations.ensures
    (c.in-None.ensures clocks)
