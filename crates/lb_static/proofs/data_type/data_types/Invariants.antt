use Rattle.lb_static.specs.StoredTypes.{view_types, declared_type}
use Rattle.lb_static.proofs.Options.{IsSoFar}
use Rattle.lb_static.proofs.data_type.data_types.Given as goal

abbrev pub invariant-loop-variable : goal.invariant-loop-variable
invariant-loop-variable l =
    IsSoFar (declared_type l.statics) (view_types l.found) l.variables l.variable-index
