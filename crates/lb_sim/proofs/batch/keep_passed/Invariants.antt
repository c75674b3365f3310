use Rattle.std.proofs.Common.{ℕ, ◌<◌}
use Rattle.lb_check.specs.declared.verdict.Verdict.TheVariants.{Passed}
use Rattle.lb_sim.proofs.batch.keep_passed.Given as goal

abbrev pub invariant-loop-place : goal.invariant-loop-place
invariant-loop-place g l =
    g.V.Verdicts.becomes l.fn.verdicts l.verdicts
    × ((k : ℕ) → k < l.place → g.V.Verdicts.has l.verdicts k Passed)
