use Rattle.std.proofs.Common.{◌≡◌, drop}
use Rattle.std.specs.List.{list_all}
use Rattle.lb_static.specs.Specialized.{is_narrow}
use Rattle.lb_static.proofs.specialize.are_narrow.Given as goal

abbrev pub invariant-loop-variable : goal.invariant-loop-variable
invariant-loop-variable l =
    list_all (is_narrow l.values) (drop l.variable-index l.variables)
    ≡ list_all (is_narrow l.values) l.variables
