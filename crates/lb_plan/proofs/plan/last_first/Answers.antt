use Rattle.std.proofs.Common.{◌≡◌, ◌-◌, ◌++◌, length, take, drop, reverse}
use Rattle.std.proofs.Common.{sym, ap, ◌∙◌, subst, arith}
use Rattle.std.specs.List.Sorted.{IsPermutation}
use Rattle.lb_plan.proofs.LastFirst.{last_first_permuted, last_first_back}
use Rattle.lb_plan.proofs.plan.last_first.Goals as goal

pub returns-clause-each_once : goal.returns-clause-each_once
returns-clause-each_once c =
    let xs = c.args.numbers.now in
    let w = length xs - c.min.result in
    let at : length xs - c.loop-i.i ≡ w = omega arith in
    subst (IsPermutation xs)
    (sym
    (c.in_ok-extend_from_slice.ensures.items
    ∙ ap (λ l. l ++ take w xs) (c.loop-i.invariant ∙ ap (λ n. reverse (drop n xs)) at)))
    (last_first_permuted xs w)

pub returns-clause-order : goal.returns-clause-order
returns-clause-order c =
    let xs = c.args.numbers.now in
    let count = c.args.count in
    let w = length xs - c.min.result in
    let at : length xs - c.loop-i.i ≡ w = omega arith in
    ap (λ l. drop count l ++ reverse (take count l))
    (c.in_ok-extend_from_slice.ensures.items
    ∙ ap (λ l. l ++ take w xs) (c.loop-i.invariant ∙ ap (λ n. reverse (drop n xs)) at))
    ∙ last_first_back xs count w (λ more. omega (arith, more)) (λ few. omega (arith, few))
