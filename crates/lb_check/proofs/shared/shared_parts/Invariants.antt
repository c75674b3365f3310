use Rattle.lb_check.specs.SharedTypes.{AreJudgedParts}
use Rattle.lb_check.proofs.shared.shared_parts.Given as goal

abbrev pub invariant-loop-part : goal.invariant-loop-part
invariant-loop-part l = AreJudgedParts l.reached l.table l.parts.items
