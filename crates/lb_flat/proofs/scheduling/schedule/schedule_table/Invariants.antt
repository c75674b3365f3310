use Rattle.lb_flat.proofs.Words.{◌≡◌, ◌<◌, ℕ, true, is_done}
use Rattle.lb_flat.proofs.scheduling.schedule.schedule_table.Given as goal

abbrev pub invariant-loop-e : goal.invariant-loop-e
invariant-loop-e l = (k : ℕ) → k < l.e → is_done l.done k ≡ true
