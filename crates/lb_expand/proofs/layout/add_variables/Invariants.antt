use Rattle.lb_expand.proofs.Words.{map, take, declared_width, AreAdded}
use Rattle.lb_expand.proofs.layout.add_variables.Given as goal

abbrev pub invariant-loop-variable : goal.invariant-loop-variable
invariant-loop-variable l =
    AreAdded (map (declared_width l.statics) (take l.variable-index l.variables)) l.last
    l.fn.starts.items l.starts.items l.next
