-- The specialization of the row, and then its node.
use Rattle.lb_expand.proofs.Words.{Specialization, ap, option_map, slice_get, sym, ◌>>=◌, ◌∙◌}
use Rattle.lb_static.proofs.Lookups.{held, looked_up, past}
use Rattle.{lb_static.specs.declared.resolved.ResolvedNode.ResolvedNode, std.proofs.Common.Bor}
use Rattle.lb_expand.proofs.clocks.node_at.Goals as goal

pub returns-in_err-specialization : goal.returns-in_err-specialization
returns-in_err-specialization c =
    let nodes = c.args.reached.now.nodes.items in
    ap (option_map (λ (n : Bor ResolvedNode). n.now)) c.from_residual.ensures
    ∙ sym (ap (λ o. o >>= λ (s : Specialization). slice_get nodes s.node.0)
    (past c.deref.result.now c.args.table.now.specializations.items
    c.args.row.now.specialization.0 c.deref.ensures.value
    c.in_err-specialization.ensures.lookup.3))

pub returns : goal.returns
returns c =
    let nodes = c.args.reached.now.nodes.items in
    let s = c.in_ok-specialization.specialization.now in
    looked_up c.get-2.result c.deref-2.result.now nodes s.node.0 c.deref-2.ensures.value
    c.get-2.ensures.lookup.3
    ∙ sym (ap (λ o. o >>= λ (s : Specialization). slice_get nodes s.node.0)
    (held c.deref.result.now c.args.table.now.specializations.items
    c.args.row.now.specialization.0 s c.deref.ensures.value
    c.in_ok-specialization.ensures.lookup.3.0 c.in_ok-specialization.ensures.lookup.1))
