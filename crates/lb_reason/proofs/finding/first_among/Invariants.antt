use Rattle.std.proofs.Common.{◌≡◌, drop}
use Rattle.lb_flat.specs.Programs.{numbers_of}
use Rattle.lb_reason.specs.Deciding.{first_of}
use Rattle.lb_reason.specs.Moments.{row_now}
use Rattle.lb_reason.specs.Tests.{passes}
use Rattle.lb_reason.proofs.finding.first_among.Given as goal

abbrev pub invariant-loop-element : goal.invariant-loop-element
invariant-loop-element l =
    first_of (passes l.test) (row_now l.moment) (numbers_of (drop l.element-index l.elements))
    ≡ first_of (passes l.test) (row_now l.moment) (numbers_of l.elements)
