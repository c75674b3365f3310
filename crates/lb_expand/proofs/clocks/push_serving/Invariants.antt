use Rattle.lb_expand.proofs.Words.{◌≡◌, ◌++◌, map, range_with_len, sources_of, serving_element}
use Rattle.lb_expand.proofs.clocks.push_serving.Given as goal

abbrev pub invariant-loop-x : goal.invariant-loop-x
invariant-loop-x l =
    l.serving.items
    ≡ l.fn.serving.items
    ++ map (serving_element (sources_of l.checked l.layout) l.fn.serving.items l.row.0 l.origin)
    (range_with_len 0 l.x)
