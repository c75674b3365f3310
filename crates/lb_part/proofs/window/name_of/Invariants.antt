use Rattle.std.proofs.Common.{◌≡◌, ℕ, ◌<◌, false, get_or}
use Rattle.lb_part.specs.Cuts.{ends_cell}
use Rattle.lb_part.proofs.window.name_of.Given as goal

abbrev pub invariant-loop-i : goal.invariant-loop-i
invariant-loop-i l = (k : ℕ) → k < l.i → ends_cell (get_or l.text k 0) ≡ false
