use Rattle.lb_static.specs.Signature.{kinds_of}
use Rattle.lb_sim.specs.InputRows.{truth_columns}
use Rattle.lb_sim.specs.Loads.{AreTruthsLoaded}
use Rattle.lb_sim.proofs.loads.put_each.Given as goal

abbrev pub invariant-loop-i : goal.invariant-loop-i
invariant-loop-i l =
    AreTruthsLoaded l.at.set.now l.at.members.now l.at.begins.now l.at.t l.count l.at.live.0
    (truth_columns 0 (kinds_of l.at.set.now.signature)) l.first l.i l.fn.rows l.rows
