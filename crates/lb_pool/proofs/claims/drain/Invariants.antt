use Rattle.std.proofs.Common.{◌≡◌, ◌-◌, length}
use Rattle.lb_board.specs.Seats.{IsSeatOf, limit_of, shares_of, drawn_of}
use Rattle.lb_pool.specs.Runs.{AreJudged, numbers_of, numbers_drawn}
use Rattle.lb_pool.proofs.claims.drain.Given as goal

abbrev pub invariant-loop-i : goal.invariant-loop-i
invariant-loop-i g l =
    IsSeatOf l.board l.seat
    × (shares_of l.seat ≡ shares_of l.fn.seat)
    × (numbers_of l.judged.items ≡ numbers_drawn l.work.plan.now (drawn_of l.seat))
    × AreJudged l.work.program.now.program.now l.work.set.now l.judged.items

abbrev pub decreases-loop-i : goal.decreases-loop-i
decreases-loop-i g l = limit_of l.board - length (drawn_of l.seat)
