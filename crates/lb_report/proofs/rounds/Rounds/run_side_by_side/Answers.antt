-- The plan of several workers has each trace of the round.
use Rattle.std.proofs.Common.{refl}
use Rattle.lb_report.proofs.Planning.{is_over_all}
use Rattle.lb_report.proofs.rounds.Rounds.run_side_by_side.Goals as goal

pub run_workers-requires-clause-plan : goal.run_workers-requires-clause-plan
run_workers-requires-clause-plan g c κs within =
    is_over_all _ _ _ c.in_ok-plan.plan c.in_ok-plan.ensures.plan refl
