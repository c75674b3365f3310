use Rattle.lb_flat.proofs.{Words.{◌≡◌, ℕ, ◌+◌, length, IsClock}, ordering.Ordering.clock_awaited}
use Rattle.lb_flat.proofs.scheduling.waiting.awaited_by_clock.Given as goal

-- the rest of the clock waits for the same element as the whole clock
abbrev pub invariant-loop-depth : goal.invariant-loop-depth
invariant-loop-depth l = record {
  same : (n : ℕ) → n + l.depth ≡ length l.clocks →
      clock_awaited l.done l.clocks n l.rest
      ≡ clock_awaited l.done l.clocks (length l.clocks) l.fn.clock;
  in_table : IsClock l.clocks l.rest;
}
