use Rattle.std.proofs.Common.{ap, ◌∙◌, arith, take, List, ℕ}
use Rattle.std.specs.Char.{is_ascii_digit}
use Rattle.std.specs.List.{list_all}
use Rattle.lb_trace.proofs.Fronts.{digits-long}
use Rattle.lb_trace.proofs.SmallNumbers.{number-ended}
use Rattle.lb_trace.proofs.fast_cells.long_number.Goals as goal

pub returns : goal.returns
returns c =
    let count = c.count_after-count.result in
    let found = c.count_after-count.ensures (omega (arith, c.if-count-gt7.false)) in
    let long = digits-long c.args.is_negative c.args.text.now c.args.digits.now
    (omega (arith, c.if-text-lt9.false)) c.requires in
    number-ended c.args.digits.now count c.value_of.result c.in_ok-is_last.is_last
    (omega (arith, found.0, long)) (omega (arith, c.if-count-eq0.false))
    (omega (arith, c.if-count-gt7.false)) c.value_of.ensures.small
    (ap (λ (d : List ℕ). list_all is_ascii_digit (take count d)) c.requires ∙ found.1)
    c.value_of.ensures.spelled c.in_ok-is_last.ensures
