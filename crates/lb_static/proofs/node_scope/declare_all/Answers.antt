-- A name that is doubled among some names of a node is doubled among all of them.
use Rattle.std.proofs.Common.{◌≡◌, ◌∙◌, ◌++◌, ap, length, subst}
use Rattle.std.proofs.lemmas.Result.{err_from_is_err_and}
use Rattle.lb_syntax.specs.Grammar.{declared as declarations_in}
use Rattle.lb_syntax.specs.SourceView.{view_groups, view_node}
use Rattle.lb_static.specs.SourceNames.{names_in}
use Rattle.lb_static.specs.CountedNames.{Declares, are_once}
use Rattle.lb_static.specs.NameFaults.{IsNameFault, is_told}
use Rattle.lb_static.specs.Parts.{declared_names}
use Rattle.lb_static.proofs.NodeScopes.{front_fault, inputs_in, outputs_in, locals_in}
use Rattle.lb_static.proofs.NodeScopes.{names_split}
use Rattle.lb_static.proofs.node_scope.declare_all.Goals as goal

pub returns-in_err-declare_groups-clause-err : goal.returns-in_err-declare_groups-clause-err
returns-in_err-declare_groups-clause-err c =
    let p = err_from_is_err_and c.from_residual.result c.from_residual.ensures.1 in
    let n = view_node c.args.tree.now in
    let found = names_in (declarations_in (view_groups c.deref.result.now)) in
    let front = ap (λ l. l ++ found) c.requires
    ∙ ap (λ l. names_in (declarations_in (view_groups l))) c.deref.ensures.value in
    let rest = names_in n.outputs ++ (names_in n.locals ++ n.parameters) in
    rw (p.1, p.2) (front_fault c.in_err-declare_groups.field-0.0 (c.args.declared.now ++ found) rest
    (declared_names n) (inputs_in n _ front) c.in_err-declare_groups.ensures.err)

pub returns-in_err-declare_groups-2-clause-err : goal.returns-in_err-declare_groups-2-clause-err
returns-in_err-declare_groups-2-clause-err c =
    let p = err_from_is_err_and c.from_residual-in_err-declare_groups-2.result
    c.from_residual-in_err-declare_groups-2.ensures.1 in
    let n = view_node c.args.tree.now in
    let found = names_in (declarations_in (view_groups c.deref.result.now)) in
    let found-2 = names_in (declarations_in (view_groups c.deref-2.result.now)) in
    let front = c.in_ok-declare_groups.ensures.ok ∙ ap (λ l. l ++ found) c.requires
    ∙ ap (λ l. names_in (declarations_in (view_groups l))) c.deref.ensures.value in
    let more = ap (λ l. l ++ found-2) front
    ∙ ap (λ l. names_in n.inputs ++ names_in (declarations_in (view_groups l)))
    c.deref-2.ensures.value in
    let rest = names_in n.locals ++ n.parameters in
    rw (p.1, p.2) (front_fault c.in_err-declare_groups-2.field-0.0
    (c.declare_groups.new.declared ++ found-2) rest (declared_names n) (outputs_in n _ more)
    c.in_err-declare_groups-2.ensures.err)

pub returns-in_err-declare_groups-3-clause-err : goal.returns-in_err-declare_groups-3-clause-err
returns-in_err-declare_groups-3-clause-err c =
    let p = err_from_is_err_and c.from_residual-in_err-declare_groups-3.result
    c.from_residual-in_err-declare_groups-3.ensures.1 in
    let n = view_node c.args.tree.now in
    let found = names_in (declarations_in (view_groups c.deref.result.now)) in
    let found-2 = names_in (declarations_in (view_groups c.deref-2.result.now)) in
    let found-3 = names_in (declarations_in (view_groups c.deref-3.result.now)) in
    let front = c.in_ok-declare_groups.ensures.ok ∙ ap (λ l. l ++ found) c.requires
    ∙ ap (λ l. names_in (declarations_in (view_groups l))) c.deref.ensures.value in
    let more = c.in_ok-declare_groups-2.ensures.ok ∙ ap (λ l. l ++ found-2) front
    ∙ ap (λ l. names_in n.inputs ++ names_in (declarations_in (view_groups l)))
    c.deref-2.ensures.value in
    let all = ap (λ l. l ++ found-3) more
    ∙ ap (λ l. (names_in n.inputs ++ names_in n.outputs)
    ++ names_in (declarations_in (view_groups l))) c.deref-3.ensures.value in
    rw (p.1, p.2) (front_fault c.in_err-declare_groups-3.field-0.0
    (c.declare_groups-2.new.declared ++ found-3) n.parameters (declared_names n) (locals_in n _ all)
    c.in_err-declare_groups-3.ensures.err)

pub returns-in_err-declare_names-clause-err : goal.returns-in_err-declare_names-clause-err
returns-in_err-declare_names-clause-err c =
    let p = err_from_is_err_and c.from_residual-in_err-declare_names.result
    c.from_residual-in_err-declare_names.ensures.1 in
    let n = view_node c.args.tree.now in
    let found = names_in (declarations_in (view_groups c.deref.result.now)) in
    let found-2 = names_in (declarations_in (view_groups c.deref-2.result.now)) in
    let found-3 = names_in (declarations_in (view_groups c.deref-3.result.now)) in
    let front = c.in_ok-declare_groups.ensures.ok ∙ ap (λ l. l ++ found) c.requires
    ∙ ap (λ l. names_in (declarations_in (view_groups l))) c.deref.ensures.value in
    let more = c.in_ok-declare_groups-2.ensures.ok ∙ ap (λ l. l ++ found-2) front
    ∙ ap (λ l. names_in n.inputs ++ names_in (declarations_in (view_groups l)))
    c.deref-2.ensures.value in
    let all = c.in_ok-declare_groups-3.ensures.ok ∙ ap (λ l. l ++ found-3) more
    ∙ ap (λ l. (names_in n.inputs ++ names_in n.outputs)
    ++ names_in (declarations_in (view_groups l))) c.deref-3.ensures.value in
    let same = ap (λ l. c.declare_groups-3.new.declared ++ l) c.deref-4.ensures.value
    ∙ locals_in n _ all in
    rw (p.1, p.2) (subst (λ l. IsNameFault c.in_err-declare_names.field-0.0
    (are_once (is_told c.in_err-declare_names.field-0.0 Declares) l)) same
    c.in_err-declare_names.ensures.err)

-- the names that are declared before the static parameters
variables_declared : (c : goal.In_ok-declare_names) → c.declare_groups-3.new.declared
    ≡ (names_in (view_node c.args.tree.now).inputs ++ names_in (view_node c.args.tree.now).outputs)
    ++ names_in (view_node c.args.tree.now).locals
variables_declared c =
    let n = view_node c.args.tree.now in
    let found = names_in (declarations_in (view_groups c.deref.result.now)) in
    let found-2 = names_in (declarations_in (view_groups c.deref-2.result.now)) in
    let found-3 = names_in (declarations_in (view_groups c.deref-3.result.now)) in
    let front = c.in_ok-declare_groups.ensures.ok ∙ ap (λ l. l ++ found) c.requires
    ∙ ap (λ l. names_in (declarations_in (view_groups l))) c.deref.ensures.value in
    let more = c.in_ok-declare_groups-2.ensures.ok ∙ ap (λ l. l ++ found-2) front
    ∙ ap (λ l. names_in n.inputs ++ names_in (declarations_in (view_groups l)))
    c.deref-2.ensures.value in
    c.in_ok-declare_groups-3.ensures.ok ∙ ap (λ l. l ++ found-3) more
    ∙ ap (λ l. (names_in n.inputs ++ names_in n.outputs)
    ++ names_in (declarations_in (view_groups l))) c.deref-3.ensures.value

pub returns-clause-ok : goal.returns-clause-ok
returns-clause-ok c =
    let all = variables_declared c in
    c.in_ok-declare_names.ensures.ok
    ∙ ap (λ l. c.declare_groups-3.new.declared ++ l) c.deref-4.ensures.value
    ∙ locals_in (view_node c.args.tree.now) _ all

pub returns-clause-variables : goal.returns-clause-variables
returns-clause-variables c =
    let n = view_node c.args.tree.now in
    let all = variables_declared c in
    c.len-variables.ensures.count ∙ ap length (all ∙ names_split n.inputs n.outputs n.locals)
