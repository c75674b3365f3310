use Rattle.lb_flat.proofs.ordering.Tables.{elements_apart}
use Rattle.lb_flat.proofs.scheduling.table.equation_table.Goals as goal

pub enter-requires-clause-once : goal.enter-requires-clause-once
enter-requires-clause-once c =
    rw c.as_slice.ensures.value (elements_apart c.args.program.now c.requires.given)
