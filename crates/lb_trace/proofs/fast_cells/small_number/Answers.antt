use Rattle.std.proofs.Common.{arith}
use Rattle.lb_trace.proofs.SmallNumbers.{below, number-ended}
use Rattle.lb_trace.proofs.fast_cells.small_number.Goals as goal

pub returns-then-not-is_ascii_digit : goal.returns-then-not-is_ascii_digit
returns-then-not-is_ascii_digit c =
    let a = c.loop-i.invariant in
    number-ended _ _ _ _ c.loop-i-test.true
    (omega arith) a.few a.small a.digits a.value c.in_ok-is_last.ensures

pub overflow_mul-n : goal.overflow_mul-n
overflow_mul-n c = omega
    (arith, below c.loop-i.n c.loop-i.i 8 c.loop-i.invariant.small (omega arith))

pub overflow_add-n : goal.overflow_add-n
overflow_add-n c = omega
    (arith, c.from.ensures, below c.loop-i.n c.loop-i.i 8 c.loop-i.invariant.small (omega arith))
