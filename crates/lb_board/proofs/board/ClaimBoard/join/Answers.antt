-- A join keeps the law.
use Rattle.std.proofs.Common.{arith, rules}
use Rattle.lb_board.proofs.Claiming.{joins}
use Rattle.lb_board.proofs.board.ClaimBoard.join.Goals as goal

pub join_seat-requires : goal.join_seat-requires
join_seat-requires c =
    let first = c.args.first in
    let second = c.args.second in (
      c.requires.first.0,
      c.requires.second.0,
      second.empty,
      omega (arith, c.args.self.now.word),
      joins c.args.self.now.table.shared.key first.seat.id first.seat.me.0 second.seat.id
          second.seat.me.0 (omega (arith, first.view.0, first.part.0)),
    )

-- the seat has the shares of both, and was told where one of them was
pub invariant_of-result : goal.invariant_of-result
invariant_of-result c = search rules
