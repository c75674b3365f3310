use Rattle.std.proofs.Common.{◌≡◌, take}
use Rattle.lb_static.specs.NodeProgress.{with_alike}
use Rattle.lb_static.specs.Progressed.{progress}
use Rattle.lb_static.proofs.resolving_variables.push_variables.Given as goal

abbrev pub invariant-loop-name : goal.invariant-loop-name
invariant-loop-name l = progress l.here
    ≡ with_alike (progress l.fn.here) (take l._name-index l.names) l.variable
