use Rattle.std.proofs.Common.{rules}
use Rattle.lb_syntax.proofs.LimitLaws.{counts_stop, counts_end, counts_find_first}
use Rattle.lb_syntax.proofs.limits.over_limit.Goals as goal

pub returns-in-None : goal.returns-in-None
returns-in-None c =
    let item = c.index-tokens-index in
    let answer =
    counts_stop c.args.tokens.now _ _ _ _ item.result c.loop-index-test.true item.is (search rules)
    c.loop-index.invariant.answer_is in
    let found = counts_find_first c.args.tokens.now _ answer in
    record { kept = found.kept; first = found.first }

pub returns : goal.returns
returns c =
    let over = c.loop-index-test.false in
    let answer = counts_end c.args.tokens.now _ _ _ _ over c.loop-index.invariant.answer_is in
    let found = counts_find_first c.args.tokens.now _ answer in
    record { kept = found.kept; first = found.first }
