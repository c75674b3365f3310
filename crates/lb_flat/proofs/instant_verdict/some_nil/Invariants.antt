use Rattle.lb_flat.proofs.Words.{◌≡◌, map, drop, is_nil, some_in, cell_of, numbers_of}
use Rattle.lb_flat.proofs.instant_verdict.some_nil.Given as goal

-- an element of all passes exactly where an element of the rest does
abbrev pub invariant-loop-i : goal.invariant-loop-i
invariant-loop-i l =
    some_in is_nil (map cell_of l.row) (numbers_of (drop l.i l.elements))
    ≡ some_in is_nil (map cell_of l.row) (numbers_of l.elements)
