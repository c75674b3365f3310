-- A node is resolved part by part, once its names are known.
use Rattle.std.proofs.Common.{◌≡◌, true, ap, subst, ◌∙◌}
use Rattle.std.proofs.lemmas.Result.{err_from_is_err_and}
use Rattle.lb_syntax.specs.SourceView.{view_node, view_source}
use Rattle.lb_static.specs.NameFaults.{IsNameFault}
use Rattle.lb_static.specs.NodeProgress.{after_node, node_fits, node_told}
use Rattle.lb_static.specs.Progressed.{progress}
use Rattle.lb_static.proofs.FinishedNodes.{at_start, started, all_found, resolved}
use Rattle.lb_static.proofs.NamedNodes.{all_named, node_fault}
use Rattle.lb_static.proofs.resolving_nodes.resolve_node.Goals as goal

pub resolve_parts-requires : goal.resolve_parts-requires
resolve_parts-requires c = ap (λ s. s.declared) c.new-here.ensures

pub returns-in_err-parts-clause-err : goal.returns-in_err-parts-clause-err
returns-in_err-parts-clause-err c =
    let p = err_from_is_err_and c.from_residual-in_err-parts.result
    c.from_residual-in_err-parts.ensures.1 in
    let n = c.args.node.now in
    let a = started c.in_ok-node_scope.node_scope (progress c.new-here.result) c.args.source.now n
    c.new-here.ensures c.in_ok-node_scope.ensures.source c.in_ok-node_scope.ensures.tree in
    let f = c.in_err-parts.field-0.0 in
    let fault = subst (λ t. IsNameFault f (node_told f t (view_node n))) a
    c.in_err-parts.ensures.err in
    rw (p.1, p.2) (node_fault (at_start (view_source c.args.source.now) n) f fault)

pub returns-clause-tree : goal.returns-clause-tree
returns-clause-tree c = c.finish.ensures.tree_is

pub returns-clause-resolved : goal.returns-clause-resolved
returns-clause-resolved c =
    let n = c.args.node.now in
    let a = started c.in_ok-node_scope.node_scope (progress c.new-here.result) c.args.source.now n
    c.new-here.ensures c.in_ok-node_scope.ensures.source c.in_ok-node_scope.ensures.tree in
    let parts = c.in_ok-parts.parts in
    let told = c.in_ok-parts.ensures in
    let all = told.found ∙ ap (λ t. after_node t n) a
    ∙ all_found (view_source c.args.source.now) n in
    resolved c.resolve_parts.new.here c.args.source.now n parts.inputs parts.outputs parts.body
    c.finish.result all c.finish.ensures told.stand told.inputs told.outputs

pub returns-clause-named : goal.returns-clause-named
returns-clause-named c =
    let n = c.args.node.now in
    let a = started c.in_ok-node_scope.node_scope (progress c.new-here.result) c.args.source.now n
    c.new-here.ensures c.in_ok-node_scope.ensures.source c.in_ok-node_scope.ensures.tree in
    let fit = subst (λ t. node_fits t (view_node n) ≡ true) a c.in_ok-parts.ensures.fit in
    all_named (at_start (view_source c.args.source.now) n) c.in_ok-node_scope.ensures.distinct fit
