use Rattle.std.proofs.Common.{◌-◌, length}
use Rattle.lb_board.specs.FollowSeats.{IsFollowSeatOf, batches_of, drawn_of}
use Rattle.lb_pool.proofs.follow_worker.drain_board.Given as goal

abbrev pub invariant-loop-i : goal.invariant-loop-i
invariant-loop-i g l = IsFollowSeatOf l.board l.seat

abbrev pub decreases-loop-i : goal.decreases-loop-i
decreases-loop-i g l = batches_of l.board - length (drawn_of l.seat)
