use Rattle.std.proofs.Common.{◌≡◌, drop}
use Rattle.std.specs.List.{list_all}
use Rattle.std.specs.Prelude.{is_some, not}
use Rattle.lb_static.proofs.interface.have_no_clocks.Given as goal

abbrev pub invariant-loop-variable : goal.invariant-loop-variable
invariant-loop-variable l =
    list_all (λ v. not (is_some v.clock)) (drop l.variable-index l.variables)
    ≡ list_all (λ v. not (is_some v.clock)) l.variables
