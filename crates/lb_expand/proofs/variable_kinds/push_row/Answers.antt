-- A row has the kinds of the variables of its node; a row without a node has none.
use Rattle.lb_expand.proofs.Words.{Declared, Kind, List, OnOk, ap, append-nil, declared_kinds}
use Rattle.lb_expand.proofs.Words.{flat_map, subst, sym, ℤ, ◌++◌, ◌∙◌, ◌≡◌}
use Rattle.lb_expand.proofs.numbering.RowVariables.{of_node, unspecialized, without_node}
use Rattle.lb_static.proofs.Lookups.{held, past}
use Rattle.lb_expand.proofs.variable_kinds.push_row.Goals as goal

abbrev kinds : List ℤ → List Declared → List Kind
kinds statics vs = flat_map (declared_kinds statics) vs

pub returns-in_default : goal.returns-in_default
returns-in_default c =
    let before = c.args.kinds.now.items in
    sym (ap (λ l. before ++ l)
    (unspecialized kinds c.args.reached.now c.args.table.now c.args.row.now
    (past c.deref.result.now _ _ c.deref.ensures.value c.in_default.ensures.lookup.3))
    ∙ append-nil before)

pub returns-in-None : goal.returns-in-None
returns-in-None c =
    let before = c.args.kinds.now.items in
    let there = c.in-Some.ensures.lookup in
    sym (ap (λ l. before ++ l)
    (without_node kinds c.args.reached.now c.args.table.now c.args.row.now _
    (held c.deref.result.now _ _ c.in-Some.specialization.now c.deref.ensures.value there.3.0
    there.1) (past c.deref-2.result.now _ _ c.deref-2.ensures.value c.in-None.ensures.lookup.3))
    ∙ append-nil before)

pub returns-in-Some-get : goal.returns-in-Some-get
returns-in-Some-get c =
    let before = c.args.kinds.now.items in
    let there = c.in-Some.ensures.lookup in
    let at = c.in-Some-get.ensures.lookup in
    subst (λ l. OnOk c.push_variables.result (c.push_variables.new.kinds.items ≡ before ++ l))
    (of_node kinds c.args.reached.now c.args.table.now c.args.row.now _ _ _ _
    (held c.deref.result.now _ _ c.in-Some.specialization.now c.deref.ensures.value there.3.0
    there.1)
    (held c.deref-2.result.now _ _ c.in-Some-get.node.now c.deref-2.ensures.value at.3.0 at.1)
    c.deref-in-Some-get.ensures.value c.deref-in-Some-get-2.ensures.value) c.push_variables.ensures
