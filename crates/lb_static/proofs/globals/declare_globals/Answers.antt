-- A global name that is declared already is doubled.
use Rattle.std.proofs.Common.{refl, ap, sym, ◌∙◌, ◌++◌, drop}
use Rattle.std.proofs.lemmas.Result.{err_from_is_err_and}
use Rattle.lb_syntax.specs.SourceView.{view_source, view_constant, view_node}
use Rattle.lb_static.specs.SourceNames.{constants_in, names_in_source}
use Rattle.lb_static.proofs.Lists.{at_place, map_map, one_more_name}
use Rattle.lb_static.proofs.Scopes.{once_here, once_before}
use Rattle.lb_static.specs.CountedNames.{Declares}
use Rattle.lb_static.specs.NameFaults.{is_told}
use Rattle.lb_static.proofs.Faults.{fault_within}
use Rattle.lb_static.proofs.globals.declare_globals.Goals as goal

pub returns-in_err-declare_new-clause-err : goal.returns-in_err-declare_new-clause-err
returns-in_err-declare_new-clause-err c =
    let p = err_from_is_err_and c.from_residual.result c.from_residual.ensures.1 in
    let x = c.constant-item.result in
    let names = c.loop-constant.names in
    let items = c.deref-constant-items.result.now in
    let i = c.loop-constant.constant-index in
    let before = ap (λ l. names ++ l) (sym (map_map view_constant (λ k. k.name) (drop i items)))
    ∙ c.loop-constant.invariant in
    let all = at_place (λ k. (view_constant k).name) names items i x _ c.loop-constant-test.true
    c.constant-item.is before in
    let counts = is_told c.in_err-declare_new.field-0.0 Declares in
    rw (p.1, p.2) (fault_within _ _ _ c.in_err-declare_new.ensures.err
    (λ e. once_before counts (constants_in (view_source c.args.source.now)) _ _ refl
    (once_here counts names _ _ x.name all e)))

pub returns-in_err-declare_new-2-clause-err : goal.returns-in_err-declare_new-2-clause-err
returns-in_err-declare_new-2-clause-err c =
    let p = err_from_is_err_and c.from_residual-in_err-declare_new-2.result
    c.from_residual-in_err-declare_new-2.ensures.1 in
    let x = c.node-item.result in
    let names = c.loop-node.names in
    let items = c.deref-node-items.result.now in
    let i = c.loop-node.node-index in
    let before = ap (λ l. names ++ l) (sym (map_map view_node (λ n. n.name) (drop i items)))
    ∙ c.loop-node.invariant in
    let all = at_place (λ n. (view_node n).name) names items i x _ c.loop-node-test.true
    c.node-item.is before in
    rw (p.1, p.2) (fault_within _ _ _ c.in_err-declare_new-2.ensures.err
    (λ e. once_here (is_told c.in_err-declare_new-2.field-0.0 Declares) names _ _ x.name all e))

pub loop-constant-preserved : goal.loop-constant-preserved
loop-constant-preserved c =
    one_more_name view_constant (λ k. k.name) c.loop-constant.names c.declare_new.new.names
    c.constant-item.result.name c.deref-constant-items.result.now c.loop-constant.constant-index
    c.constant-item.result (constants_in (view_source c.args.source.now))
    c.loop-constant-test.true c.constant-item.is refl c.in_ok-declare_new.ensures.ok
    c.loop-constant.invariant

pub loop-node-preserved : goal.loop-node-preserved
loop-node-preserved c =
    one_more_name view_node (λ n. n.name) c.loop-node.names c.declare_new-in-loop-node.new.names
    c.node-item.result.name c.deref-node-items.result.now c.loop-node.node-index
    c.node-item.result (names_in_source (view_source c.args.source.now)) c.loop-node-test.true
    c.node-item.is refl c.in_ok-declare_new-2.ensures.ok c.loop-node.invariant
