use Rattle.std.proofs.Common.{◌<◌, ◌+◌, ℕ, [], length, sym, ◌∙◌, subst, arith}
use Rattle.lb_check.specs.declared.verdict.Verdict.{Verdict}
use Rattle.lb_check.specs.declared.verdict.Verdict.TheVariants.{Passed}
use Rattle.lb_machine.specs.Meaning.{lane_at}
use Rattle.lb_sim.specs.InputRows.{instant_in}
use Rattle.lb_sim.specs.Watching.{lane_judged}
use Rattle.lb_sim.proofs.LaneParts.{Settled, settled_on, settled_off}
use Rattle.lb_sim.proofs.instant.give_verdicts.Goals as goal
use Rattle.lb_sim.proofs.instant.give_verdicts.Goals.{then-get, else-get}

pub loop-lane-preserved : goal.loop-lane-preserved
loop-lane-preserved c =
    let judged : ℕ → Verdict =
    λ i.
    lane_judged c.args.watched (instant_in c.args.begins.now c.args.t i)
    (lane_at c.args.planes.now [] i) in
    let lanes = c.args.lanes.0 in
    let old = c.args.verdicts.now in
    let n = c.loop-lane.lane in
    let lt : n < length old = omega (arith, c.requires.verdicts, c.loop-lane-test.true) in
    elim c.if-get.branch [
      | then-get w ↦
          subst (λ vs. Settled Passed lanes judged old vs (n + 1)) (sym w.verdicts-is)
          (settled_on Passed lanes judged old c.loop-lane.verdicts n _ c.loop-lane.invariant lt
          (sym c.get.ensures ∙ w.if-get.true) w.decided.ensures)
      | else-get w ↦
          subst (λ vs. Settled Passed lanes judged old vs (n + 1)) (sym w.verdicts-is)
          (settled_off Passed lanes judged old c.loop-lane.verdicts n c.loop-lane.invariant
          (sym c.get.ensures ∙ w.if-get.false))
    ]
