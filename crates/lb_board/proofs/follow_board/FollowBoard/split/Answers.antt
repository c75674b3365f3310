-- A split keeps the law.
use Rattle.std.proofs.Common.{arith}
use Rattle.lb_board.specs.FollowKeys.{right_by}
use Rattle.lb_board.proofs.Following.{splits}
use Rattle.lb_board.proofs.follow_board.FollowBoard.split.Goals as goal

pub split_seat-other-requires : goal.split_seat-other-requires
split_seat-other-requires c =
    let seat = c.args.seat.seat in
    let shared = c.args.self.now.table.shared in (
      c.requires.seat.table,
      omega (arith, c.args.self.now.words),
      splits shared.key.batches (right_by shared.key) seat.id seat.me.0 c.requires.shares,
    )
