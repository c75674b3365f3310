use Rattle.lb_sim.proofs.RunningLanes.{RunningSoFar}
use Rattle.lb_sim.proofs.running.running_at.Given as goal

abbrev pub invariant-loop-i : goal.invariant-loop-i
invariant-loop-i l = RunningSoFar l.set l.members l.begins l.t l.lanes l.until l.i
