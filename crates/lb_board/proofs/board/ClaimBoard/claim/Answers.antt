-- One fetch_add keeps the law.
use Rattle.std.proofs.Common.{arith, rules, ◌∙◌}
use Rattle.lb_board.proofs.Claiming.{claims}
use Rattle.lb_board.proofs.board.ClaimBoard.claim.Goals as goal

pub fetch_add-found-requires : goal.fetch_add-found-requires
fetch_add-found-requires c =
    let shared = c.args.self.now.table.shared in
    let seat = c.args.seat.now in (
      c.requires.seat.0,
      omega (arith, c.args.self.now.word),
      claims shared.key shared.table_id.slots seat.seat.id seat.seat.me
          (omega (arith, seat.view.0, seat.part.0)) (seat.view.1 ∙ c.if-seat.false),
    )

-- where nothing is left the seat is told
pub invariant_of-seat-else-found-self : goal.invariant_of-seat-else-found-self
invariant_of-seat-else-found-self c = search rules
