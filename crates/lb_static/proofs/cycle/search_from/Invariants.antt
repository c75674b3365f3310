use Rattle.std.proofs.Common.{◌+◌, map, reverse}
use Rattle.lb_static.specs.CycleSearch.{IsSearchFrom, unseen, on_path}
use Rattle.lb_static.proofs.cycle.search_from.Given as goal

abbrev pub invariant-loop-visit : goal.invariant-loop-visit
invariant-loop-visit l =
    IsSearchFrom (map (λ v. v.items) l.graph) l.fn.progress l.fn.start l.progress
    (reverse l.path.items)

abbrev pub decreases-loop-visit : goal.decreases-loop-visit
decreases-loop-visit l = unseen l.progress (map (λ v. v.items) l.graph) + on_path l.path.items
