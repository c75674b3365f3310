use Rattle.std.proofs.Common.{◌≡◌, ℕ, ◌*◌, ◌<◌, ◌≤◌, [], List, length, get_or}
use Rattle.std.specs.Prelude.{All}
use Rattle.lb_board.specs.Seats.{IsSeatOf, shares_of, drawn_of}
use Rattle.lb_pool.specs.Runs.{AreDrawnAfter}
use Rattle.lb_pool.proofs.claims.draw.Given as goal

abbrev pub invariant-loop : goal.invariant-loop
invariant-loop g l = record {
  seat : IsSeatOf l.board l.seat;
  shares : shares_of l.seat ≡ shares_of l.fn.seat;
  draws : length (drawn_of l.fn.seat) ≤ length (drawn_of l.seat);
  within : All (λ k. k < length l.work.set.now.traces) l.members.items;
  few : length l.members.items ≤ 64 * l.counter;
  members : (before : List ℕ) →
      AreDrawnAfter l.work.plan.now before (drawn_of l.fn.seat) (get_or l.work.plan.now l.i []) →
      AreDrawnAfter l.work.plan.now before (drawn_of l.seat) l.members.items;
}
