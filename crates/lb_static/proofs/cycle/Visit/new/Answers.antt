-- The calls of the node, by its place in the graph.
use Rattle.std.proofs.Common.{◌∙◌, [], ap, length, option_map, refl, sym}
use Rattle.std.proofs.lemmas.Option.{slice_get-map, slice_get_read}
use Rattle.lb_syntax.specs.Lists.{either_or}
use Rattle.lb_static.proofs.cycle.Visit.new.Goals as goal

pub returns-clause-left : goal.returns-clause-left
returns-clause-left c =
    let graph = c.args.graph.now in
    c.as_slice-left.ensures.value
    ∙ sym (ap (λ o. either_or o []) (slice_get-map (λ v. v.items) graph c.args.node
    ∙ ap (option_map (λ v. v.items)) (slice_get_read graph (length graph) c.args.node
    c.index-graph-node.result refl c.requires c.index-graph-node.is)))
