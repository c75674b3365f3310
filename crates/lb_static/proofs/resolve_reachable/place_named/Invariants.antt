use Rattle.std.proofs.Common.{◌≡◌, map, drop}
use Rattle.lb_syntax.specs.SourceView.{view_node}
use Rattle.lb_static.specs.SourceNames.{node_in_source}
use Rattle.lb_static.specs.StaticValues.{named}
use Rattle.lb_static.proofs.resolve_reachable.place_named.Given as goal

abbrev pub invariant-loop-place : goal.invariant-loop-place
invariant-loop-place l =
    node_in_source l.source l.name
    ≡ named (λ n. n.name) l.name (map view_node (drop l.place l.source.nodes.items))
