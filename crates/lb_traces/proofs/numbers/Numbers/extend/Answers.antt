-- The part of the other tail stands behind this one.
use Rattle.std.proofs.Common.{arith, ◌≡◌, ◌+◌, ◌-◌, ◌≤◌, ◌++◌, ◌∙◌, ap, ap₂, sym, length, take, drop}
use Rattle.std.proofs.lemmas.List.{append_assoc}
use Rattle.lb_traces.specs.Narrow.{Integers}
use Rattle.lb_traces.proofs.RowParts.{part-back}
use Rattle.lb_traces.proofs.numbers.Numbers.extend.Goals as goal

pub returns-clause-ok : goal.returns-clause-ok
returns-clause-ok c =
    let packed = c.self.inside.packed.items in
    let tail = c.self.inside.tail.items in
    let front = c.from.inside.packed.items in
    let back = c.from.inside.tail.items in
    let start = c.args.start in
    let end = c.args.end in
    let skipped = c.len-packed.result in
    let slice = c.as_slice.result.now in
    let part = take (end - skipped - (start - skipped)) (drop (start - skipped) slice) in
    let long : skipped ≡ length front = c.len-packed.ensures.count in
    let past : length front ≤ start = omega (arith, c.if-start-packed.false, long) in
    let n : end - skipped - (start - skipped) ≡ end - start =
    omega (arith, c.if-start-packed.false, c.requires.order) in
    let fits : start + (end - start) ≤ length (front ++ back) =
    omega (
      arith,
      c.requires.order,
      c.requires.within,
      ap (λ (r : Integers). length r.items) c.from.view_is,
    ) in
    let is : part ≡ take (end - start) (drop start c.args.from.now.items) =
    ap (λ m. take m (drop (start - skipped) slice)) n
    ∙ ap (λ xs. take (end - start) (drop (start - skipped) xs)) c.as_slice.ensures.value
    ∙ ap (λ m. take (end - start) (drop (start - m) back)) long
    ∙ sym (part-back front back start (end - start) past fits)
    ∙ ap (λ (r : Integers). take (end - start) (drop start r.items)) c.from.view_is in
    ap (λ xs. packed ++ xs) c.in_ok-extend_from_slice.ensures.items
    ∙ sym (append_assoc packed tail part)
    ∙ ap₂ (λ xs ys. xs ++ ys) (ap (λ (r : Integers). r.items) c.self.view_is) is
