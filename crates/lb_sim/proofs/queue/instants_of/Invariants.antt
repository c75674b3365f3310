use Rattle.std.proofs.Common.{◌≡◌, ◌≤◌, ◌*◌, take}
use Rattle.std.specs.List.{sum_by}
use Rattle.lb_sim.specs.Queues.{length_of}
use Rattle.lb_sim.proofs.queue.instants_of.Given as goal

abbrev pub invariant-loop-k : goal.invariant-loop-k
invariant-loop-k l =
    (l.sum ≡ sum_by (length_of l.queue.set.now) (take l.k l.queue.members.now))
    × (l.sum ≤ 1000000 * l.k)
