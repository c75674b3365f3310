use Rattle.std.proofs.Common.{◌≡◌, List, drop}
use Rattle.lb_flat.specs.Programs.{flat_equations}
use Rattle.lb_flat.specs.declared.equation.Clock.{Clock}
use Rattle.lb_reason.specs.Deciding as spec
use Rattle.lb_reason.proofs.deciding.given_by.Given as goal

abbrev pub invariant-loop-q : goal.invariant-loop-q
invariant-loop-q l =
    (clocks : List Clock) →
    spec.given_by (flat_equations clocks (drop l.q-index l.equations)) l.element.0
    ≡ spec.given_by (flat_equations clocks l.equations) l.element.0
