use Rattle.lb_flat.proofs.Words.{IsLeft, program_of, Leads}
use Rattle.lb_flat.proofs.scheduling.next_variable.next_variable.Given as goal

abbrev pub invariant-reads : goal.invariant-reads
invariant-reads l = record {
  left : IsLeft l.program l.done l.to.0;
  leads : Leads (program_of l.program) l.to.0 l.fn.from.0;
}

abbrev pub decreases-reads : goal.decreases-reads
decreases-reads l = l.to.0
