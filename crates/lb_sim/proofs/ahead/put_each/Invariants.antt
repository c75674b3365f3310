use Rattle.lb_static.specs.Signature.{kinds_of}
use Rattle.lb_sim.specs.InputRows.{number_columns}
use Rattle.lb_sim.specs.Loads.{AreLoadedAhead}
use Rattle.lb_sim.proofs.ahead.put_each.Given as goal

abbrev pub invariant-loop-i : goal.invariant-loop-i
invariant-loop-i l =
    AreLoadedAhead l.at.at.set.now l.at.at.members.now l.at.at.begins.now l.at.at.t l.count
    l.at.at.live.0 (number_columns 0 (kinds_of l.at.at.set.now.signature)) l.places l.first l.i
    l.fn.room l.room
