use Rattle.lb_flat.proofs.Words.{IsLeft, numbers_of, program_of}
use Rattle.lb_flat.proofs.ordering.ReadCycles.{IsWay, unnoted}
use Rattle.lb_flat.proofs.scheduling.cycle.read_cycle.Given as goal

abbrev pub invariant-path : goal.invariant-path
invariant-path l = record {
  left : IsLeft l.program l.done l.at.0;
  way : IsWay (program_of l.program) (numbers_of l.path.items) l.places.items l.at.0;
}

abbrev pub decreases-path : goal.decreases-path
decreases-path l = unnoted l.places.items
