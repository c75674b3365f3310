use Rattle.std.proofs.Common.{arith}
use Rattle.lb_sim.proofs.truths.not_plane.Goals as goal

pub select-requires-clause-left : goal.select-requires-clause-left
select-requires-clause-left c =
    omega (arith, c.args.code.now.constants, c.args.code.now.more_planes)

pub select-requires-clause-right : goal.select-requires-clause-right
select-requires-clause-right c =
    omega (arith, c.args.code.now.constants, c.args.code.now.more_planes)
