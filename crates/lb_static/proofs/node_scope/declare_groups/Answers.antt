-- The names of a group are a part of all names.
use Rattle.std.proofs.Common.{◌∙◌, ◌++◌, ◌+◌, ap, drop}
use Rattle.std.proofs.lemmas.Result.{err_from_is_err_and}
use Rattle.lb_syntax.specs.Grammar.{declared as declarations_in}
use Rattle.lb_syntax.specs.SourceView.{view_groups}
use Rattle.lb_static.specs.SourceNames.{names_in}
use Rattle.lb_static.proofs.NodeScopes.{front_fault, group_names_join}
use Rattle.lb_static.proofs.node_scope.declare_groups.Goals as goal

pub returns-in_err-declare_names-clause-err : goal.returns-in_err-declare_names-clause-err
returns-in_err-declare_names-clause-err c =
    let p = err_from_is_err_and c.from_residual.result c.from_residual.ensures.1 in
    let groups = c.args.groups.now in
    let before = c.loop-group.declared in
    let names = c.deref.result.now in
    let rest = names_in (declarations_in
    (view_groups (drop (c.loop-group.group-index + 1) groups))) in
    let all = group_names_join before _ groups c.loop-group.group-index c.group-item.result names
    c.loop-group-test.true c.group-item.is
    c.deref.ensures.value c.loop-group.invariant in
    rw (p.1, p.2) (front_fault c.in_err-declare_names.field-0.0 (before ++ names) rest _ all
    c.in_err-declare_names.ensures.err)

pub loop-group-preserved : goal.loop-group-preserved
loop-group-preserved c =
    let groups = c.args.groups.now in
    let rest = names_in (declarations_in
    (view_groups (drop (c.loop-group.group-index + 1) groups))) in
    ap (λ l. l ++ rest) c.in_ok-declare_names.ensures.ok
    ∙ group_names_join c.loop-group.declared _ groups c.loop-group.group-index c.group-item.result
    c.deref.result.now c.loop-group-test.true c.group-item.is
    c.deref.ensures.value c.loop-group.invariant
