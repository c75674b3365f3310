use Rattle.std.proofs.Common.{◌+◌}
use Rattle.lb_static.specs.Signature.{kinds_of}
use Rattle.lb_sim.specs.InputRows.{number_columns}
use Rattle.lb_sim.specs.Loads.{AreLoadedAhead}
use Rattle.lb_sim.proofs.ahead.put_member.Given as goal

abbrev pub invariant-loop-d : goal.invariant-loop-d
invariant-loop-d l =
    AreLoadedAhead l.at.at.set.now l.at.at.members.now l.at.at.begins.now l.at.at.t l.d
    l.at.at.live.0 (number_columns 0 (kinds_of l.at.at.set.now.signature)) l.places l.i (l.i + 1)
    l.fn.room l.room
