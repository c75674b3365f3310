use Rattle.std.proofs.Common.{◌≡◌, ◌++◌, Some, option_map}
use Rattle.lb_flat.specs.Programs.{numbers_of}
use Rattle.lb_reason.specs.Deciding as spec
use Rattle.lb_reason.specs.Moments.{equations_now, row_now}
use Rattle.lb_reason.specs.Tests.{number}
use Rattle.lb_reason.proofs.deciding.chain.Given as goal

abbrev pub invariant-steps : goal.invariant-steps
invariant-steps l =
    numbers_of l.elements.items
    ++ spec.chain l.left (equations_now l.moment) (row_now l.moment) (option_map number l.next)
    ≡ spec.chain l.most (equations_now l.moment) (row_now l.moment) (Some l.fn.first.0)

abbrev pub decreases-steps : goal.decreases-steps
decreases-steps l = l.left
