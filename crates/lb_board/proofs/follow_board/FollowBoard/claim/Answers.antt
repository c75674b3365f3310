-- One fetch_add keeps the law.
use Rattle.std.proofs.Common.{arith, ◌∙◌}
use Rattle.lb_board.specs.FollowKeys.{right_by}
use Rattle.lb_board.proofs.Following.{claims_batch}
use Rattle.lb_board.proofs.follow_board.FollowBoard.claim.Goals as goal

pub fetch_add-found-requires : goal.fetch_add-found-requires
fetch_add-found-requires c =
    let shared = c.args.self.now.table.shared in
    let seat = c.args.seat.now in (
      c.requires.seat.table,
      omega (arith, c.args.self.now.words),
      claims_batch shared.key.batches (right_by shared.key) shared.table_id.slots seat.seat.id
          seat.seat.me (omega (arith, seat.view.0, seat.part.0)) (seat.view.1 ∙ c.if-seat.false),
    )
