use Rattle.std.proofs.Common.{◌≡◌, ◌<◌, ◌≤◌, ◌-◌, true}
use Rattle.lb_lanes.specs.Planes.{on}
use Rattle.lb_sim.proofs.Queueing.{TakenSoFar}
use Rattle.lb_sim.proofs.queue.refill_lanes.Given as goal

abbrev pub invariant-loop-left : goal.invariant-loop-left
invariant-loop-left l = record {
  done :
      TakenSoFar l.queue.members.now l.queue.lanes l.settled.0 l.queue.few l.fn.places l.fn.traces
      l.fn.rest l.places l.traces l.lanes l.left l.lane;
  within : l.lane ≤ 64;
  there : l.lane < 64 → on l.settled.0 l.lane ≡ true;
}

abbrev pub decreases-loop-left : goal.decreases-loop-left
decreases-loop-left l = 64 - l.lane
