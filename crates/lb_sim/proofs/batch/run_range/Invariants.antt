use Rattle.std.proofs.Common.{◌≡◌, ◌≤◌, ◌<◌, ℕ, true, length}
use Rattle.lb_lanes.specs.Planes.{on}
use Rattle.lb_sim.specs.BatchLanes.{end_in}
use Rattle.lb_sim.specs.Inputs.{IsAhead}
use Rattle.lb_sim.proofs.RunningBatches.{AreComeTo}
use Rattle.lb_sim.proofs.batch.run_range.Given as goal

abbrev pub invariant-loop-t : goal.invariant-loop-t
invariant-loop-t l = record {
  done : AreComeTo l.fn.run.program.now l.fn.run l.run l.set l.members l.t;
  begun : l.fn.run.steps ≤ l.t;
  within :
      (bound : ℕ) → l.fn.run.steps ≤ bound →
      ((i : ℕ) → i < length l.members → on l.fn.run.active.0 i ≡ true →
      end_in l.set l.members l.fn.run.begins.items i ≤ bound) →
      l.t ≤ bound;
  fewer : (i : ℕ) → i < 64 → on l.run.active.0 i ≡ true → on l.fn.run.active.0 i ≡ true;
  still : l.run.steps ≡ l.fn.run.steps → l.run.active ≡ l.fn.run.active;
  columns : l.inputs.columns ≡ l.fn.inputs.columns;
  ahead :
      IsAhead l.set l.members l.fn.run.begins.items l.fn.run.program.now.read.numbers.items
      l.inputs l.t l.run.active.0 l.loaded;
}
