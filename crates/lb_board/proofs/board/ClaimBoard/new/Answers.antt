-- The first seat has all shares.
use Rattle.std.proofs.Common.{rules}
use Rattle.lb_board.proofs.board.ClaimBoard.new.Goals as goal

pub invariant_of-seat : goal.invariant_of-seat
invariant_of-seat c = search rules
