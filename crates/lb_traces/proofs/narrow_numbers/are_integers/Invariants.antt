use Rattle.std.proofs.Common.{◌≡◌, ◌<◌, ℕ, true, false, get_or, pos, negsuc}
use Rattle.std.specs.Prelude.{int_le}
use Rattle.lb_traces.proofs.narrow_numbers.are_integers.Given as goal

abbrev pub invariant-loop-cell : goal.invariant-loop-cell
invariant-loop-cell l =
    l.all ≡ true → (i : ℕ) → i < l.cell-index →
    int_le (get_or l.cells i (pos 0)) (negsuc 32767) ≡ false
