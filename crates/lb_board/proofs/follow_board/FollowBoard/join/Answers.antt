-- A join keeps the law.
use Rattle.std.proofs.Common.{arith}
use Rattle.lb_board.specs.FollowKeys.{right_by}
use Rattle.lb_board.proofs.Following.{joins}
use Rattle.lb_board.proofs.follow_board.FollowBoard.join.Goals as goal

pub join_seat-requires : goal.join_seat-requires
join_seat-requires c =
    let first = c.args.first in
    let second = c.args.second in
    let shared = c.args.self.now.table.shared in (
      c.requires.first.table,
      c.requires.second.table,
      second.empty,
      omega (arith, c.args.self.now.words),
      joins shared.key.batches (right_by shared.key) first.seat.id first.seat.me.0 second.seat.id
          second.seat.me.0 (omega (arith, first.view.0, first.part.0)),
    )
