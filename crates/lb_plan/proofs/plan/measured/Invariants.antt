use Rattle.std.proofs.Common.{◌≡◌}
use Rattle.lb_plan.specs.Cuts.{measured}
use Rattle.lb_plan.specs.Plans.{length_of}
use Rattle.lb_plan.proofs.plan.measured.Given as goal

abbrev pub invariant-loop-k : goal.invariant-loop-k
invariant-loop-k l = l.pairs.items ≡ measured (length_of l.set.traces) l.k
