use Rattle.std.proofs.Common.{◌+◌, length, subst, sym, take}
use Rattle.std.proofs.lemmas.List.{take_rest}
use Rattle.lb_trace.specs.Numbers.{IsWhole}
use Rattle.lb_trace.proofs.numbers.last_numbers.Goals as goal

pub returns : goal.returns
returns c =
    let columns = c.args.columns.now in
    let text = c.args.text.now in
    let n = length columns in
    let whole = c.in_ok-last.ensures.whole in (
      c.in_ok-last.ensures.few,
      subst (λ rest. IsWhole columns text (take n c.values_of-values.result) rest)
          (sym (take_rest text (c.in_ok-last.last.end + 1)))
          (rw c.values_of-values.ensures whole),
    )
