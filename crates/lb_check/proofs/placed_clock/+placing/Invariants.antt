use Rattle.lb_check.proofs.Words.{drop, known_among}
use Rattle.lb_check.{specs.StoredClocks.context_in, proofs.clocking.WalkedClocks.AreLeft}
use Rattle.lb_check.specs.PlacedClocks as placed_mirror
use Rattle.lb_check.proofs.placed_clock.+placing.Given as goal

abbrev pub invariant-place_all-loop-term : goal.invariant-place_all-loop-term
invariant-place_all-loop-term l =
    let ctx = context_in l.env in
    let of = placed_mirror.placed_all ctx l.clock in
    let rest = drop l.term-index l.terms in
    AreLeft (known_among ctx l.terms) (known_among ctx rest) (of l.terms) (of rest)
    (placed_mirror.found_in l.fn.placed) (placed_mirror.found_in l.placed) l.fn.known l.left

abbrev pub invariant-place_each-loop-i : goal.invariant-place_each-loop-i
invariant-place_each-loop-i l =
    let ctx = context_in l.env in
    let of = placed_mirror.placed_each ctx in
    let rest = drop l.i l.terms in
    AreLeft (known_among ctx l.terms) (known_among ctx rest) (of l.clocks l.terms)
    (of (drop l.i l.clocks) rest)
    (placed_mirror.found_in l.fn.placed) (placed_mirror.found_in l.placed) l.fn.known l.left
