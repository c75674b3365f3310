-- The seat with all shares has all draws.
use Rattle.std.proofs.Common.{◌∙◌, subst, sym}
use Rattle.lb_board.specs.Draws.{AreAllBelow}
use Rattle.lb_board.specs.Seats.{drawn_of}
use Rattle.lb_board.proofs.Claiming.{settled}
use Rattle.lb_board.proofs.board.ClaimBoard.close.Goals as goal

pub returns-clause-told : goal.returns-clause-told
returns-clause-told c = sym c.args.seat.view.1

pub returns-clause-drawn : goal.returns-clause-drawn
returns-clause-drawn c told =
    let board = c.args.self in
    let seat = c.args.seat in
    let last = c.close_with-closed.ensures.values.2 in
    subst (λ n. AreAllBelow n (drawn_of seat)) board.limit
    (settled board.table.shared.key seat.seat.id seat.seat.me.0 last.0 last.1.0 last.1.1
    c.requires.shares (seat.view.1 ∙ told))
