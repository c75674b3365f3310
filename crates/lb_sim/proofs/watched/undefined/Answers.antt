use Rattle.std.proofs.Common.{arith}
use Rattle.lb_sim.proofs.watched.undefined.Goals as goal

pub some_sought-requires-clause-above : goal.some_sought-requires-clause-above
some_sought-requires-clause-above c =
    omega (arith, c.args.code.now.constants, c.args.code.now.more_planes)
