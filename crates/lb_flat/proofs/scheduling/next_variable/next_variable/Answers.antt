use Rattle.lb_flat.proofs.ordering.ReadCycles.{leads_on}
use Rattle.lb_flat.proofs.scheduling.next_variable.next_variable.Goals as goal

pub reads-preserved : goal.reads-preserved
reads-preserved c = record {
  left = c.next_left-to-in-reads.ensures.left;
  leads =
      leads_on _ _ _ _ c.reads.invariant.leads c.reads-test.true
      c.next_left-to-in-reads.ensures.leads;
}
