-- The call site at this place, if there is one.
use Rattle.lb_check.{proofs.Words.{ap, repeats_of, sym, ◌>>=◌, ◌∙◌}, specs.TermTypes.context_of}
use Rattle.lb_static.proofs.Lookups.{held, past}
use Rattle.lb_check.proofs.type_env.TypeEnv.repeats.Goals as goal

pub returns : goal.returns
unfolding context_of
returns c =
    let sites = c.args.self.now.node.now.calls.items in
    c.repeats_of.ensures
    ∙ ap (λ l. repeats_of l c.in_ok-site.field-0.now) c.deref-2.ensures.value
    ∙ sym (ap (λ o. o >>= repeats_of c.args.self.now.specialization.now.statics.items)
    (held c.deref.result.now sites c.args.c.0 c.in_ok-site.field-0.now c.deref.ensures.value
    c.in_ok-site.ensures.lookup.3.0 c.in_ok-site.ensures.lookup.1))

pub returns-in_err-site : goal.returns-in_err-site
unfolding context_of
returns-in_err-site c =
    let sites = c.args.self.now.node.now.calls.items in
    c.from_residual.ensures
    ∙ sym (ap (λ o. o >>= repeats_of c.args.self.now.specialization.now.statics.items)
    (past c.deref.result.now sites c.args.c.0 c.deref.ensures.value
    c.in_err-site.ensures.lookup.3))
