use Rattle.std.proofs.Common.{◌≡◌, ◌+◌, ◌-◌}
use Rattle.lb_sim.specs.Progress.{AreRunTo}
use Rattle.lb_sim.proofs.batch.run_lanes.Given as goal

abbrev pub invariant-loop-run : goal.invariant-loop-run
invariant-loop-run g l = record {
  done :
      AreRunTo l.fn.run.program.now l.queue.set.now l.queue.members.now l.queue.lanes l.run
      l.traces l.places l.left.pending.0 l.left.rest (g.V.Verdicts.has l.verdicts);
  columns : l.inputs.columns ≡ l.fn.inputs.columns;
  becomes : g.V.Verdicts.becomes l.fn.verdicts l.verdicts;
}

abbrev pub decreases-loop-run : goal.decreases-loop-run
decreases-loop-run g l = (l.most - l.run.steps) + l.left.rest
