use Rattle.lb_laws.proofs.ClockAssignments.{one_assignment}
use Rattle.lb_laws.proofs.clocks.the_clock_of_an_occurrence.Goals as goal

pub returns : goal.returns
returns c P accepted = one_assignment P accepted
