-- What was cut is told behind the records of the state.
use Rattle.std.proofs.Common.{refl}
use Rattle.lb_report.proofs.rounds.Rounds.reading_of.Goals as goal

pub returns-in-Stopped : goal.returns-in-Stopped
returns-in-Stopped c = rw c.in-Stopped.is (
  c.stop.result,
  refl,
  c.stop.ensures.kept,
  λ table rows more is. c.stop.ensures.halt table rows more is,
)
