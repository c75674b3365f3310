-- The groups of a node are resolved one after the other, and then its statements.
use Rattle.std.proofs.Common.{◌≡◌, true, map, refl, ap, sym, subst, ◌∙◌, arith}
use Rattle.std.specs.List.{list_all}
use Rattle.std.proofs.lemmas.Result.{err_from_is_err_and}
use Rattle.lb_syntax.specs.SourceView.{view_groups, view_node, view_statement}
use Rattle.lb_static.specs.NodeProgress.{after_groups, after_statements, statement_fits}
use Rattle.lb_static.specs.NodeProgress.{StatementsStand}
use Rattle.lb_static.specs.Progressed.{progress}
use Rattle.lb_static.proofs.FinishedNodes.{groups_after, groups_fit, groups_refused, body_refused}
use Rattle.lb_static.proofs.FinishedNodes.{inputs_counted, outputs_counted}
use Rattle.lb_static.proofs.NamedNodes.{all_fit, inputs_fault, outputs_fault, locals_fault}
use Rattle.lb_static.proofs.NamedNodes.{body_fault}
use Rattle.lb_static.proofs.NodeVariables.{more_declared}
use Rattle.lb_static.proofs.resolving_nodes.resolve_parts.Goals as goal

pub returns-in_err-resolve_groups-clause-err : goal.returns-in_err-resolve_groups-clause-err
returns-in_err-resolve_groups-clause-err c =
    let p = err_from_is_err_and c.from_residual.result c.from_residual.ensures.1 in
    let n = c.args.node.now in
    let s = progress c.args.here.now in
    let f = c.in_err-resolve_groups.field-0.0 in
    rw (p.1, p.2) (inputs_fault s (view_node n) f
    (groups_refused f s s _ n.inputs.items refl c.deref.ensures.value
    c.in_err-resolve_groups.ensures.err))

pub returns-in_err-resolve_groups-2-clause-err : goal.returns-in_err-resolve_groups-2-clause-err
returns-in_err-resolve_groups-2-clause-err c =
    let p = err_from_is_err_and c.from_residual-in_err-resolve_groups-2.result
    c.from_residual-in_err-resolve_groups-2.ensures.1 in
    let n = c.args.node.now in
    let s = progress c.args.here.now in
    let b = groups_after s s (progress c.resolve_groups.new.here) _ n.inputs.items refl
    c.deref.ensures.value c.in_ok-resolve_groups.ensures.ok in
    let s1 = after_groups s (view_groups n.inputs.items) in
    let f = c.in_err-resolve_groups-2.field-0.0 in
    rw (p.1, p.2) (outputs_fault s (view_node n) f
    (groups_refused f _ s1 _ n.outputs.items b c.deref-2.ensures.value
    c.in_err-resolve_groups-2.ensures.err))

pub returns-in_err-resolve_groups-3-clause-err : goal.returns-in_err-resolve_groups-3-clause-err
returns-in_err-resolve_groups-3-clause-err c =
    let p = err_from_is_err_and c.from_residual-in_err-resolve_groups-3.result
    c.from_residual-in_err-resolve_groups-3.ensures.1 in
    let n = c.args.node.now in
    let s = progress c.args.here.now in
    let b = groups_after s s (progress c.resolve_groups.new.here) _ n.inputs.items refl
    c.deref.ensures.value c.in_ok-resolve_groups.ensures.ok in
    let s1 = after_groups s (view_groups n.inputs.items) in
    let d = groups_after _ s1 (progress c.resolve_groups-2.new.here) _ n.outputs.items b
    c.deref-2.ensures.value c.in_ok-resolve_groups-2.ensures.ok in
    let s2 = after_groups s1 (view_groups n.outputs.items) in
    let f = c.in_err-resolve_groups-3.field-0.0 in
    rw (p.1, p.2) (locals_fault s (view_node n) f
    (groups_refused f _ s2 _ n.locals.items d c.deref-3.ensures.value
    c.in_err-resolve_groups-3.ensures.err))

pub returns-in_err-body-clause-err : goal.returns-in_err-body-clause-err
returns-in_err-body-clause-err c =
    let p = err_from_is_err_and c.from_residual-in_err-body.result
    c.from_residual-in_err-body.ensures.1 in
    let n = c.args.node.now in
    let s = progress c.args.here.now in
    let b = groups_after s s (progress c.resolve_groups.new.here) _ n.inputs.items refl
    c.deref.ensures.value c.in_ok-resolve_groups.ensures.ok in
    let s1 = after_groups s (view_groups n.inputs.items) in
    let d = groups_after _ s1 (progress c.resolve_groups-2.new.here) _ n.outputs.items b
    c.deref-2.ensures.value c.in_ok-resolve_groups-2.ensures.ok in
    let s2 = after_groups s1 (view_groups n.outputs.items) in
    let e = groups_after _ s2 (progress c.resolve_groups-3.new.here) _ n.locals.items d
    c.deref-3.ensures.value c.in_ok-resolve_groups-3.ensures.ok in
    let s3 = after_groups s2 (view_groups n.locals.items) in
    let f = c.in_err-body.field-0.0 in
    rw (p.1, p.2) (body_fault s (view_node n) f
    (body_refused f _ s3 _ (map view_statement n.body.items) e
    (ap (map view_statement) c.deref-4.ensures.value) c.in_err-body.ensures))

pub returns-clause-found : goal.returns-clause-found
returns-clause-found c =
    let n = c.args.node.now in
    let s = progress c.args.here.now in
    let b = groups_after s s (progress c.resolve_groups.new.here) _ n.inputs.items refl
    c.deref.ensures.value c.in_ok-resolve_groups.ensures.ok in
    let s1 = after_groups s (view_groups n.inputs.items) in
    let d = groups_after _ s1 (progress c.resolve_groups-2.new.here) _ n.outputs.items b
    c.deref-2.ensures.value c.in_ok-resolve_groups-2.ensures.ok in
    let s2 = after_groups s1 (view_groups n.outputs.items) in
    let e = groups_after _ s2 (progress c.resolve_groups-3.new.here) _ n.locals.items d
    c.deref-3.ensures.value c.in_ok-resolve_groups-3.ensures.ok in
    let same = c.deref-4.ensures.value in
    c.in_ok-body.ensures.0 ∙ (λ j. after_statements (e j) (map view_statement (same j)))

pub returns-clause-stand : goal.returns-clause-stand
returns-clause-stand c =
    subst (λ l. StatementsStand (progress c.resolve_statements.new.here) (map view_statement l)
    c.in_ok-body.body.items) c.deref-4.ensures.value c.in_ok-body.ensures.1

pub returns-clause-fit : goal.returns-clause-fit
returns-clause-fit c =
    let n = c.args.node.now in
    let s = progress c.args.here.now in
    let b = groups_after s s (progress c.resolve_groups.new.here) _ n.inputs.items refl
    c.deref.ensures.value c.in_ok-resolve_groups.ensures.ok in
    let s1 = after_groups s (view_groups n.inputs.items) in
    let d = groups_after _ s1 (progress c.resolve_groups-2.new.here) _ n.outputs.items b
    c.deref-2.ensures.value c.in_ok-resolve_groups-2.ensures.ok in
    let s2 = after_groups s1 (view_groups n.outputs.items) in
    let e = groups_after _ s2 (progress c.resolve_groups-3.new.here) _ n.locals.items d
    c.deref-3.ensures.value c.in_ok-resolve_groups-3.ensures.ok in
    let s3 = after_groups s2 (view_groups n.locals.items) in
    let same = c.deref-4.ensures.value in
    let ins = groups_fit s s _ n.inputs.items refl c.deref.ensures.value
    c.in_ok-resolve_groups.ensures.fit in
    let outs = groups_fit _ s1 _ n.outputs.items b c.deref-2.ensures.value
    c.in_ok-resolve_groups-2.ensures.fit in
    let locals = groups_fit _ s2 _ n.locals.items d c.deref-3.ensures.value
    c.in_ok-resolve_groups-3.ensures.fit in
    let body : list_all (statement_fits s3) (map view_statement n.body.items) ≡ true =
    (λ j. list_all (statement_fits (sym e j)) (map view_statement (sym same j)))
    ∙ c.in_ok-body.ensures.2 in
    all_fit s (view_node n) ins outs locals body

pub returns-clause-inputs : goal.returns-clause-inputs
returns-clause-inputs c =
    let n = c.args.node.now in
    let s = progress c.args.here.now in
    let b = groups_after s s (progress c.resolve_groups.new.here) _ n.inputs.items refl
    c.deref.ensures.value c.in_ok-resolve_groups.ensures.ok in
    c.variable_count-inputs.ensures
    ∙ inputs_counted n s (progress c.resolve_groups.new.here) c.requires b

pub returns-clause-outputs : goal.returns-clause-outputs
returns-clause-outputs c =
    let n = c.args.node.now in
    let s = progress c.args.here.now in
    let b = groups_after s s (progress c.resolve_groups.new.here) _ n.inputs.items refl
    c.deref.ensures.value c.in_ok-resolve_groups.ensures.ok in
    let s1 = after_groups s (view_groups n.inputs.items) in
    let d = groups_after _ s1 (progress c.resolve_groups-2.new.here) _ n.outputs.items b
    c.deref-2.ensures.value c.in_ok-resolve_groups-2.ensures.ok in
    let inputs = c.variable_count-inputs.ensures
    ∙ inputs_counted n s (progress c.resolve_groups.new.here) c.requires b in
    let all = c.variable_count.ensures
    ∙ outputs_counted n s (progress c.resolve_groups-2.new.here) c.requires d in
    omega (arith, inputs, all)

pub overflow_sub-outputs : goal.overflow_sub-outputs
overflow_sub-outputs c =
    more_declared (progress c.resolve_groups.new.here) (progress c.resolve_groups-2.new.here)
    (view_groups c.deref-2.result.now) c.variable_count-inputs.result c.variable_count.result
    c.in_ok-resolve_groups-2.ensures.ok c.variable_count-inputs.ensures c.variable_count.ensures
