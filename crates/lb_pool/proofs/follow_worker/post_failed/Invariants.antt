use Rattle.std.proofs.Common.{take}
use Rattle.std.specs.List.{All}
use Rattle.lb_board.specs.FollowSeats.{IsFollowSeatOf, HasSameDraws}
use Rattle.lb_pool.specs.Postings.{IsPostedWith}
use Rattle.lb_pool.proofs.follow_worker.post_failed.Given as goal

abbrev pub invariant-loop-k : goal.invariant-loop-k
invariant-loop-k l =
    IsFollowSeatOf l.board l.seat × HasSameDraws l.fn.seat l.seat
    × All (IsPostedWith l.seat) (take l.k-index l.members)
