-- A place of the source is looked up among those of the reached nodes.
use Rattle.std.proofs.Common.{ap, sym, ◌∙◌}
use Rattle.lb_syntax.specs.Lists.{◌>>=◌}
use Rattle.lb_static.proofs.Lookups.{held, past}
use Rattle.lb_static.proofs.reachable.Reached.called.Goals as goal

pub returns : goal.returns
returns c =
    sym (ap (λ o. o >>= λ id. id)
    (held c.deref.result.now c.args.self.now.ids.items c.args.site.now.callee.0
    c.in_ok-get.field-0.now c.deref.ensures.value c.in_ok-get.ensures.lookup.3.0
    c.in_ok-get.ensures.lookup.1))

pub returns-in_err-get : goal.returns-in_err-get
returns-in_err-get c =
    c.from_residual.ensures
    ∙ sym (ap (λ o. o >>= λ id. id)
    (past c.deref.result.now c.args.self.now.ids.items c.args.site.now.callee.0
    c.deref.ensures.value c.in_err-get.ensures.lookup.3))
