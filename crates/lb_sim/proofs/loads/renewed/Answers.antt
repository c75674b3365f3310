use Rattle.std.proofs.Common.{◌<◌, ◌+◌, arith}
use Rattle.lb_sim.proofs.loads.renewed.Goals as goal

pub gather-requires-clause-there : goal.gather-requires-clause-there
gather-requires-clause-there c d l =
    let at = c.args.at.now in
    let within : at.at.t + d < at.until = omega (arith, l, at.later, c.min-count.ensures) in
    at.further (at.at.t + d) (omega arith) within
