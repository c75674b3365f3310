use Rattle.lb_board.specs.Seats.{IsSeatOf}
use Rattle.lb_tests.proofs.pool.push_moves.Given as goal

abbrev pub invariant-loop-turn : goal.invariant-loop-turn
invariant-loop-turn l = IsSeatOf l.board l.a × IsSeatOf l.board l.b
