use Rattle.std.proofs.Common.{◌≡◌, ◌-◌}
use Rattle.std.specs.List.{range_with_len}
use Rattle.lb_reason.specs.Deciding.{first_of, is_bad}
use Rattle.lb_reason.specs.Moments.{row_now}
use Rattle.lb_reason.proofs.finding.bad_variable.Given as goal

abbrev pub invariant-loop-number : goal.invariant-loop-number
invariant-loop-number l =
    first_of is_bad (row_now l.moment) (range_with_len l.number (l.program.variables - l.number))
    ≡ first_of is_bad (row_now l.moment) (range_with_len 0 l.program.variables)
