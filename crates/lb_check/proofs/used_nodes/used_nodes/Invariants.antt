use Rattle.lb_check.proofs.typing.Specializations.{AreFirst, AreThere}
use Rattle.lb_check.proofs.used_nodes.used_nodes.Given as goal

abbrev pub invariant-loop-specialization : goal.invariant-loop-specialization
invariant-loop-specialization l =
    AreFirst l.ids.items l.specialization-index l.specializations
    × AreThere l.ids.items l.seen.items
