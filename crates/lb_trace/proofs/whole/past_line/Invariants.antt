use Rattle.std.proofs.Common.{ℕ, ◌≡◌, ◌<◌, ◌≤◌, true, get_or}
use Rattle.lb_trace.specs.Plain.{ends_line}
use Rattle.lb_trace.proofs.whole.past_line.Given as goal

-- only ends of lines stand from `past` up to `before`
abbrev pub invariant-loop-past : goal.invariant-loop-past
invariant-loop-past l =
    (l.past ≤ l.before)
    × ((i : ℕ) → l.past ≤ i → i < l.before → ends_line (get_or l.text i 0) ≡ true)

abbrev pub decreases-loop-past : goal.decreases-loop-past
decreases-loop-past l = l.past
