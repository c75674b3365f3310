use Rattle.std.proofs.Common.{◌≡◌}
use Rattle.lb_board.specs.Seats.{IsSeatOf, shares_of}
use Rattle.lb_tests.proofs.pool.push_draws.Given as goal

abbrev pub invariant-loop-turn : goal.invariant-loop-turn
invariant-loop-turn l =
    IsSeatOf l.board l.first
    × IsSeatOf l.board l.second
    × (shares_of l.first ≡ shares_of l.fn.first)
    × (shares_of l.second ≡ shares_of l.fn.second)
