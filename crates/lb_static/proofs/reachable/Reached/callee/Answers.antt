-- The call site, its callee, and the node of the callee, one after the other.
use Rattle.std.proofs.Common.{Bor, ap, sym, ◌∙◌, option_map}
use Rattle.std.specs.Prelude.{slice_get}
use Rattle.lb_syntax.specs.Lists.{◌>>=◌}
use Rattle.lb_static.specs.ReachedNodes.{id_at}
use Rattle.lb_static.specs.declared.resolved.ResolvedNode.{ResolvedNode}
use Rattle.lb_static.proofs.Lookups.{held, past, looked_up}
use Rattle.lb_static.proofs.reachable.Reached.callee.Goals as goal

pub returns : goal.returns
returns c =
    let r = c.args.self.now in
    let site = c.in_ok-site.site.now in
    looked_up c.get-2.result c.deref-2.result.now r.nodes.items c.in_ok-id.id.0
    c.deref-2.ensures.value c.get-2.ensures.lookup.3
    ∙ ap (λ o. o >>= λ id. slice_get r.nodes.items id.0) c.in_ok-id.ensures
    ∙ sym (ap (λ o. o >>= λ s. id_at r s.callee >>= λ id. slice_get r.nodes.items id.0)
    (held c.deref.result.now c.args.node.now.calls.items c.args.call.0 site c.deref.ensures.value
    c.in_ok-site.ensures.lookup.3.0 c.in_ok-site.ensures.lookup.1))

pub returns-in_err-id : goal.returns-in_err-id
returns-in_err-id c =
    let r = c.args.self.now in
    let site = c.in_ok-site.site.now in
    ap (option_map (λ (n : Bor ResolvedNode). n.now)) c.from_residual-in_err-id.ensures
    ∙ ap (λ o. o >>= λ id. slice_get r.nodes.items id.0) c.in_err-id.ensures
    ∙ sym (ap (λ o. o >>= λ s. id_at r s.callee >>= λ id. slice_get r.nodes.items id.0)
    (held c.deref.result.now c.args.node.now.calls.items c.args.call.0 site c.deref.ensures.value
    c.in_ok-site.ensures.lookup.3.0 c.in_ok-site.ensures.lookup.1))

pub returns-in_err-site : goal.returns-in_err-site
returns-in_err-site c =
    let r = c.args.self.now in
    ap (option_map (λ (n : Bor ResolvedNode). n.now)) c.from_residual.ensures
    ∙ sym (ap (λ o. o >>= λ s. id_at r s.callee >>= λ id. slice_get r.nodes.items id.0)
    (past c.deref.result.now c.args.node.now.calls.items c.args.call.0 c.deref.ensures.value
    c.in_err-site.ensures.lookup.3))
