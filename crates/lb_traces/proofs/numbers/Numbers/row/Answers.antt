-- The part of the tail is the row.
use Rattle.std.proofs.Common.{arith, ◌≡◌, ◌+◌, ◌-◌, ◌≤◌, ◌++◌, ◌∙◌, ap, sym, length, take, drop}
use Rattle.lb_traces.specs.Narrow.{Integers}
use Rattle.lb_traces.proofs.RowParts.{part-back}
use Rattle.lb_traces.proofs.numbers.Numbers.row.Goals as goal

pub returns-then-packed-start : goal.returns-then-packed-start
returns-then-packed-start c =
    let packed = c.self.inside.packed.items in
    let tail = c.self.inside.tail.items in
    let start = c.args.start in
    let count = c.args.count in
    let first = start - c.len-packed.result in
    let long : c.len-packed.result ≡ length packed = c.len-packed.ensures.count in
    let past : length packed ≤ start = omega (arith, c.if-packed-start.true, long) in
    let fits : start + count ≤ length (packed ++ tail) =
    omega (arith, c.requires.within, ap (λ (r : Integers). length r.items) c.self.view_is) in
    let n : first + count - first ≡ count = omega arith in
    ap (λ m. take m (drop first c.as_slice.result.now)) n
    ∙ ap (λ xs. take count (drop first xs)) c.as_slice.ensures.value
    ∙ ap (λ m. take count (drop (start - m) tail)) long
    ∙ sym (part-back packed tail start count past fits)
    ∙ ap (λ (r : Integers). take count (drop start r.items)) c.self.view_is
