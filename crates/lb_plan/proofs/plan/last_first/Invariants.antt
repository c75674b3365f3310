use Rattle.std.proofs.Common.{◌≡◌}
use Rattle.lb_plan.proofs.LastFirst.{from_the_end}
use Rattle.lb_plan.proofs.plan.last_first.Given as goal

abbrev pub invariant-loop-i : goal.invariant-loop-i
invariant-loop-i l = l.moved.items ≡ from_the_end l.numbers l.i
