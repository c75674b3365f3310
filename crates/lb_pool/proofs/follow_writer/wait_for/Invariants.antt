use Rattle.lb_board.specs.FollowSeats.{IsFollowSeatOf}
use Rattle.lb_pool.proofs.follow_writer.wait_for.Given as goal

abbrev pub invariant-loop : goal.invariant-loop
invariant-loop g l =
    IsFollowSeatOf l.board l.seat
    × (goal.iterator-loop g).can_next l.iterator'
    × (goal.iterator-loop g).is_finite l.iterator'
