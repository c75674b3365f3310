use Rattle.std.specs.Prelude.{All}
use Rattle.lb_board.specs.FollowSeats.{IsFollowSeatOf}
use Rattle.lb_pool.proofs.follow.worker_seats.Given as goal

abbrev pub invariant-loop-left : goal.invariant-loop-left
invariant-loop-left l =
    IsFollowSeatOf l.board l.first × All (IsFollowSeatOf l.board) l.seats.items

abbrev pub decreases-loop-left : goal.decreases-loop-left
decreases-loop-left l = l.left
