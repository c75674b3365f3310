use Rattle.std.proofs.Common.{arith}
use Rattle.lb_sim.proofs.watch.false_plane.Goals as goal

pub sign_plane-requires-clause-above : goal.sign_plane-requires-clause-above
sign_plane-requires-clause-above c =
    omega (arith, c.args.code.now.constants, c.args.code.now.more_planes)
