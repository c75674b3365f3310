-- A split keeps the law.
use Rattle.std.proofs.Common.{arith, rules}
use Rattle.lb_board.proofs.Claiming.{splits}
use Rattle.lb_board.proofs.board.ClaimBoard.split.Goals as goal

pub split_seat-other-requires : goal.split_seat-other-requires
split_seat-other-requires c =
    let seat = c.args.seat.seat in (
      c.requires.seat.0,
      omega (arith, c.args.self.now.word),
      splits c.args.self.now.table.shared.key seat.id seat.me.0 c.requires.shares,
    )

-- the first seat has the larger half
pub invariant_of-result : goal.invariant_of-result
invariant_of-result c = search rules
