use Rattle.std.proofs.Common.{◌≡◌, ◌<◌, ℕ, [], true}
use Rattle.lb_lanes.specs.Planes.{on}
use Rattle.lb_sim.specs.InputRows.{IsAmid}
use Rattle.lb_core_tests.proofs.batches.have_instant.Given as goal

abbrev pub invariant-loop-i : goal.invariant-loop-i
invariant-loop-i l =
    (i : ℕ) → i < l.i → on l.live.0 i ≡ true → IsAmid l.set l.members [] l.t i
