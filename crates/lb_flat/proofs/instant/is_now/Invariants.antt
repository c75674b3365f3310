use Rattle.lb_flat.proofs.Words.{◌≡◌, ℕ, length, map, ◌+◌, is_now, cell_of, clock_of, clock_within}
use Rattle.lb_flat.proofs.Words.{IsClock}
use Rattle.lb_flat.proofs.instant.is_now.Given as goal

-- the rest of the clock has an instant exactly where all of it has
abbrev pub invariant-loop-depth : goal.invariant-loop-depth
invariant-loop-depth l = record {
  same : (n : ℕ) → n + l.depth ≡ length l.clocks →
      is_now (map cell_of l.row) (clock_within n l.clocks l.rest)
      ≡ is_now (map cell_of l.row) (clock_of l.clocks l.fn.clock);
  in_table : IsClock l.clocks l.rest;
}
