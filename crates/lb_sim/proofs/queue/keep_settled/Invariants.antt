use Rattle.std.proofs.Common.{◌≡◌, ℕ, ◌<◌, ◌≤◌, ◌-◌, true, get_or}
use Rattle.lb_flat.specs.Programs.{program_of}
use Rattle.lb_lanes.specs.Planes.{on}
use Rattle.lb_sim.specs.Correct.{HasVerdict}
use Rattle.lb_sim.proofs.queue.keep_settled.Given as goal

abbrev pub invariant-loop-lane : goal.invariant-loop-lane
invariant-loop-lane g l = record {
  becomes : g.V.Verdicts.becomes l.fn.verdicts l.verdicts;
  stays :
      (k : ℕ) →
      HasVerdict (program_of l.run.program.now.program.now) l.queue.set.now l.queue.members.now
      (g.V.Verdicts.has l.fn.verdicts) k →
      HasVerdict (program_of l.run.program.now.program.now) l.queue.set.now l.queue.members.now
      (g.V.Verdicts.has l.verdicts) k;
  kept :
      (i : ℕ) → i < l.lane → i < l.queue.lanes → on l.settled.0 i ≡ true →
      HasVerdict (program_of l.run.program.now.program.now) l.queue.set.now l.queue.members.now
      (g.V.Verdicts.has l.verdicts) (get_or l.places i 0);
  within : l.lane ≤ 64;
  there : l.lane < 64 → on l.settled.0 l.lane ≡ true;
}

abbrev pub decreases-loop-lane : goal.decreases-loop-lane
decreases-loop-lane g l = 64 - l.lane
