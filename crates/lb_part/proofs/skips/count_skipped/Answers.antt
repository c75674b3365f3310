use Rattle.std.proofs.Common.{◌≡◌, ◌∙◌, ◌-◌, ap, arith, length}
use Rattle.std.proofs.lemmas.Result.{IfOk-weaker}
use Rattle.lb_part.specs.Counts.{reach}
use Rattle.lb_part.proofs.SkippedLines.{lines-skipped}
use Rattle.lb_part.proofs.skips.count_skipped.Goals as goal

pub returns-clause-lines : goal.returns-clause-lines
returns-clause-lines g c =
    IfOk-weaker c.count.result _ _ (λ skipped counted all known.
    let size : c.in_ok-size.size ≡ length all = c.in_ok-size.ensures all known in
    let head = c.in_ok-load_head.ensures.head all known in
    let begin = c.begin.ensures.value
    ∙ ap (λ n. reach (c.args.part.number - 1) c.args.part.count n) size in
    let found = c.in_ok-from.ensures.cut all known in
    lines-skipped all c.args.part c.len-head.result c.max.result c.in_ok-from.from
    c.max-2.result skipped.lines
    (c.len-head.ensures ∙ head.0)
    (let m : c.max.result - c.len-head.result ≡ c.begin.result - c.len-head.result = omega arith
    in m ∙ ap (λ n. n - c.len-head.result) begin)
    found
    (let low = found.0 in omega (arith, low))
    (counted all known)) c.count.ensures.lines
