use Rattle.std.proofs.Common.{◌≡◌, ◌++◌, map, drop}
use Rattle.lb_syntax.specs.SourceView.{view_source, view_constant, view_node}
use Rattle.lb_static.specs.SourceNames.{names_in_source, constants_in}
use Rattle.lb_static.proofs.globals.declare_globals.Given as goal

abbrev pub invariant-loop-constant : goal.invariant-loop-constant
invariant-loop-constant l =
    l.names ++ map (λ c. c.name) (map view_constant (drop l.constant-index l.constant-items))
    ≡ constants_in (view_source l.source)

abbrev pub invariant-loop-node : goal.invariant-loop-node
invariant-loop-node l =
    l.names ++ map (λ n. n.name) (map view_node (drop l.node-index l.node-items))
    ≡ names_in_source (view_source l.source)
