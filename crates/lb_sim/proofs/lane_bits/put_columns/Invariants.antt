use Rattle.std.proofs.Common.{◌≡◌, ℕ, ◌<◌, ◌+◌, get_or}
use Rattle.lb_lanes.specs.Planes.{on}
use Rattle.lb_sim.proofs.lane_bits.put_columns.Given as goal

abbrev pub invariant-loop-c : goal.invariant-loop-c
invariant-loop-c l = record {
  put : (k i : ℕ) → k < l.c → i < 64
      → on (get_or l.planes (l.first + k) 0) i ≡ on (get_or l.rows (l.from + i) 0) k;
  below : (k : ℕ) → k < l.first → get_or l.planes k 0 ≡ get_or l.fn.planes k 0;
}
