use Rattle.std.proofs.Common.{◌≡◌, ◌∙◌, ◌-◌, ap, arith, length, sym}
use Rattle.lb_part.specs.Counts.{reach}
use Rattle.lb_part.proofs.LoadedParts.{part-loaded}
use Rattle.lb_part.proofs.load.load_bytes.Goals as goal

pub returns-clause-part : goal.returns-clause-part
returns-clause-part g c =
    λ all known.
    let size : c.in_ok-size.size ≡ length all = c.in_ok-size.ensures all known in
    let head = c.in_ok-bytes.ensures.head all known in
    let begin = c.begin.ensures.value
    ∙ ap (λ n. reach (c.args.part.number - 1) c.args.part.count n) size in
    let end = c.end.ensures.value
    ∙ ap (λ n. reach c.args.part.number c.args.part.count n) size in
    part-loaded all c.in_ok-bytes.bytes.items c.extend.new.bytes.items c.args.part c.len-head.result
    c.max.result c.max-2.result c.in_ok-from.from c.in_ok-to.to
    (c.len-head.ensures ∙ head.0)
    (sym c.in_ok-bytes.bytes.ok.0 ∙ sym c.len-head.ensures)
    head.1
    (let m : c.max.result - c.len-head.result ≡ c.begin.result - c.len-head.result = omega arith in
    m ∙ ap (λ n. n - c.len-head.result) begin)
    (let m : c.max-2.result - c.len-head.result ≡ c.end.result - c.len-head.result = omega arith in
    m ∙ ap (λ n. n - c.len-head.result) end)
    (c.in_ok-from.ensures.cut all known) (c.in_ok-to.ensures.cut all known)
    (c.in_ok-extend.ensures.range all known)
