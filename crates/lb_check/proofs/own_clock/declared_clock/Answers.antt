use Rattle.lb_check.proofs.Words.{Variable, ap, clock_in, clock_with, length, ltb-true, refl}
use Rattle.lb_check.proofs.Words.{slice_get_past, subst, sym, ◌>>=◌, ◌∙◌, ◌≤◌}
use Rattle.{lb_check.proofs.clocking.ClockSetRows.declared_there, lb_static.proofs.Lookups.held}
use Rattle.lb_check.proofs.own_clock.declared_clock.Goals as goal

pub returns-in-Some-clause-same : goal.returns-in-Some-clause-same
returns-in-Some-clause-same c h within =
    let r = c.args.node.now in
    let x = c.args.variable in
    let v = c.in-Some.declared.now in
    let found = c.in-Some.ensures.lookup in
    ap (clock_in r) c.clock_with.ensures
    ∙ declared_there r h x v
    (held c.deref.result.now r.variables.items x.0 v c.deref.ensures.value found.3.0 found.1)
    (ltb-true x.0 (length r.variables.items) within)

pub returns-in-Some-clause-mirror : goal.returns-in-Some-clause-mirror
returns-in-Some-clause-mirror c =
    let r = c.args.node.now in
    let x = c.args.variable in
    let found = c.in-Some.ensures.lookup in
    c.clock_with.ensures
    ∙ sym (ap (λ o. clock_with (o >>= λ (v : Variable). v.clock))
    (held c.deref.result.now r.variables.items x.0 c.in-Some.declared.now c.deref.ensures.value
    found.3.0 found.1))

pub returns-in-None-clause-mirror : goal.returns-in-None-clause-mirror
returns-in-None-clause-mirror c =
    let le : length c.args.node.now.variables.items ≤ c.args.variable.0 =
    subst (λ us. length us ≤ c.args.variable.0) c.deref.ensures.value c.in-None.ensures.lookup.3 in
    rw (slice_get_past c.args.node.now.variables.items c.args.variable.0 le) refl
