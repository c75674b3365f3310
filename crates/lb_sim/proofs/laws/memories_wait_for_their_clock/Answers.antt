use Rattle.lb_sim.specs.BatchRuns.{lane_in}
use Rattle.lb_sim.proofs.Waiting.{program_keeps}
use Rattle.lb_sim.proofs.laws.memories_wait_for_their_clock.Goals as goal

pub returns : goal.returns
returns c r s same i X given stands_r stands_s on_r on_s =
    program_keeps r.program.now s.program.now same (lane_in r i) (lane_in s i) X given
    (stands_r.state on_r) (stands_s.state on_s)
