use Rattle.std.proofs.Common.{[]}
use Rattle.lb_check.specs.declared.verdict.Verdict.TheVariants.{Passed}
use Rattle.lb_machine.specs.Meaning.{lane_at}
use Rattle.lb_sim.specs.InputRows.{instant_in}
use Rattle.lb_sim.specs.Watching.{lane_judged}
use Rattle.lb_sim.proofs.LaneParts.{Settled}
use Rattle.lb_sim.proofs.instant.give_verdicts.Given as goal

abbrev pub invariant-loop-lane : goal.invariant-loop-lane
invariant-loop-lane l =
    Settled Passed l.lanes.0
    (λ i. lane_judged l.watched (instant_in l.begins l.t i) (lane_at l.planes [] i))
    l.fn.verdicts l.verdicts l.lane
