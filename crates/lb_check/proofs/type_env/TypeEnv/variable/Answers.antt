-- The type of the variable at this place, if there is one.
use Rattle.lb_check.proofs.Words.{IfOk, Some, ap, declared_type, option_map, reverse, subst, sym}
use Rattle.lb_check.{proofs.Words.{view_type, ◌>>=◌, ◌∙◌, ◌≡◌}, specs.TermTypes.context_of}
use Rattle.lb_static.{proofs.Lookups.{held, past}, specs.StoredTypes.sizes_at}
use Rattle.lb_check.proofs.type_env.TypeEnv.variable.Goals as goal

pub returns-in-Some : goal.returns-in-Some
unfolding context_of
returns-in-Some c =
    let statics = c.args.self.now.specialization.now.statics.items in
    ap Some c.scalar.ensures
    ∙ sym (ap (λ o. o >>= declared_type statics)
    (held c.deref.result.now c.args.self.now.node.now.variables.items c.args.x.0
    c.in-Some.variable.now c.deref.ensures.value c.in-Some.ensures.lookup.3.0
    c.in-Some.ensures.lookup.1) ∙ ap (λ n. option_map (λ ns. record {
      kind =
          c.in-Some.variable.now.kind;
      sizes = reverse ns;
    }) (sizes_at statics
    c.in-Some.variable.now.first_size n)) c.if-variable-eq0.true)

pub returns-in-Some-2 : goal.returns-in-Some-2
unfolding context_of
returns-in-Some-2 c =
    let statics = c.args.self.now.specialization.now.statics.items in
    subst (λ t. IfOk c.of.result (λ o. option_map view_type o ≡ t))
    (ap (λ l. declared_type l c.in-Some.variable.now) c.deref-in-Some-2.ensures.value
    ∙ sym (ap (λ o. o >>= declared_type statics)
    (held c.deref.result.now c.args.self.now.node.now.variables.items c.args.x.0
    c.in-Some.variable.now c.deref.ensures.value c.in-Some.ensures.lookup.3.0
    c.in-Some.ensures.lookup.1))) c.of.ensures

pub returns-in-None : goal.returns-in-None
unfolding context_of
returns-in-None c =
    sym (ap (λ o. o >>= declared_type c.args.self.now.specialization.now.statics.items)
    (past c.deref.result.now c.args.self.now.node.now.variables.items c.args.x.0
    c.deref.ensures.value c.in-None.ensures.lookup.3))
