use Rattle.std.proofs.Common.{arith}
use Rattle.lb_trace.proofs.JoinedDigits.{pairs-joined}
use Rattle.lb_trace.proofs.front.joined.Goals as goal

pub overflow_mul-pairs : goal.overflow_mul-pairs
overflow_mul-pairs c =
    omega (arith, (pairs-joined c.args.digits c.ranges.digits.fits c.requires).0)

pub overflow_add-pairs : goal.overflow_add-pairs
overflow_add-pairs c =
    omega (arith, (pairs-joined c.args.digits c.ranges.digits.fits c.requires).0)

pub overflow_add-result : goal.overflow_add-result
overflow_add-result c =
    omega (arith, (pairs-joined c.args.digits c.ranges.digits.fits c.requires).1)

pub returns : goal.returns
returns c = (pairs-joined c.args.digits c.ranges.digits.fits c.requires).2

pub overflow_cast-result : goal.overflow_cast-result
overflow_cast-result c =
    omega (arith, (pairs-joined c.args.digits c.ranges.digits.fits c.requires).1)
