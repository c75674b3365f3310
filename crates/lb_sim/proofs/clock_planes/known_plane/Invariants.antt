use Rattle.std.proofs.Common.{length}
use Rattle.lb_sim.proofs.ClockPlanes.{IsDescending}
use Rattle.lb_sim.proofs.clock_planes.known_plane.Given as goal

abbrev pub invariant-loop-id : goal.invariant-loop-id
invariant-loop-id l =
    IsDescending l.fn.code l.code l.places l.program.clocks.items l.fn.clock l.fn.known l.known
    l.waiting.items l.plane

abbrev pub decreases-loop-id : goal.decreases-loop-id
decreases-loop-id l = length l.waiting.items
