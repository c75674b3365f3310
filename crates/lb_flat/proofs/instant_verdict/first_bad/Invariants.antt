use Rattle.lb_flat.proofs.Words.{◌≡◌, ℕ, ◌+◌, map, range_with_len, is_bad, some_in, cell_of}
use Rattle.lb_flat.proofs.instant_verdict.first_bad.Given as goal

-- an element of all holds a fault exactly where an element of the rest does
abbrev pub invariant-loop-i : goal.invariant-loop-i
invariant-loop-i l =
    (n : ℕ) → l.i + n ≡ l.count →
    some_in is_bad (map cell_of l.row) (range_with_len l.i n)
    ≡ some_in is_bad (map cell_of l.row) (range_with_len 0 l.count)
