-- Before the first search no node is begun.
use Rattle.std.proofs.Common.{◌∙◌, length, map, sym}
use Rattle.std.proofs.lemmas.List.{length-map}
use Rattle.lb_static.proofs.CycleSteps.{none_begun}
use Rattle.lb_static.proofs.cycle.find_cycle.Goals as goal

pub search_from_each-requires-clause-between : goal.search_from_each-requires-clause-between
search_from_each-requires-clause-between c =
    none_begun (map (λ v. v.items) c.args.graph.now) c.deref_mut.result.now
    (length c.args.graph.now)
    (c.deref_mut.ensures.value ∙ c.in_ok-progress.ensures.items_if_clones_equal (λ y e. e))
    (sym (length-map c.args.graph.now (λ v. v.items)))
