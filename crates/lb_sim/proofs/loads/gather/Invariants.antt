use Rattle.std.proofs.Common.{◌*◌}
use Rattle.lb_static.specs.Signature.{kinds_of}
use Rattle.lb_sim.specs.InputRows.{truth_columns}
use Rattle.lb_sim.specs.Loads.{AreTruthsLoaded}
use Rattle.lb_sim.proofs.loads.gather.Given as goal

abbrev pub invariant-loop-f : goal.invariant-loop-f
invariant-loop-f l =
    AreTruthsLoaded l.at.set.now l.at.members.now l.at.begins.now l.at.t l.count l.at.live.0
    (truth_columns 0 (kinds_of l.at.set.now.signature)) 0 (4 * l.f) l.fn.rows l.rows
