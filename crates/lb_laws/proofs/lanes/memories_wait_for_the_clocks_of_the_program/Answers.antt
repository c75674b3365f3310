use Rattle.lb_laws.proofs.MemoryWaits.{waits_for_clocks}
use Rattle.lb_laws.proofs.lanes.memories_wait_for_the_clocks_of_the_program.Goals as goal

pub returns : goal.returns
returns c P r s same flat i X given trace was is on_r on_s =
    waits_for_clocks P r s same flat i X given trace was is on_r on_s
