use Rattle.std.proofs.Common.{◌≡◌, ◌<◌, ℕ, true, get_or, pos}
use Rattle.lb_traces.specs.Narrow.{IsTold}
use Rattle.lb_traces.proofs.narrow_numbers.are_told.Given as goal

abbrev pub invariant-loop-number : goal.invariant-loop-number
invariant-loop-number l =
    l.all ≡ true → (i : ℕ) → i < l.number-index → IsTold (get_or l.numbers i (pos 0))
