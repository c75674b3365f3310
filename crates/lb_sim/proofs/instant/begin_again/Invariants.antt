use Rattle.lb_check.specs.declared.verdict.Verdict.TheVariants.{Passed}
use Rattle.lb_sim.proofs.LaneParts.{Settled}
use Rattle.lb_sim.proofs.instant.begin_again.Given as goal

abbrev pub invariant-loop-lane : goal.invariant-loop-lane
invariant-loop-lane l = record {
  passed : Settled Passed l.lanes.0 (λ i. Passed) l.fn.verdicts l.verdicts l.lane;
  begun : Settled 0 l.lanes.0 (λ i. l.t) l.fn.begins l.begins l.lane;
}
