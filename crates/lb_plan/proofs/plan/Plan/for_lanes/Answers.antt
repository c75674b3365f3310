-- The numbers are those of the traces, each once, and by length once the first ones are put back.
use Rattle.std.proofs.Common.{◌≡◌, ◌++◌, length, vec_len, take, drop, reverse, sym, ap, ◌∙◌, subst}
use Rattle.std.proofs.Common.{rules, arith}
use Rattle.std.specs.List.{range_with_len}
use Rattle.std.specs.List.Sorted.{IsPermutation}
use Rattle.std.proofs.lemmas.List.FromFn.{length-range_with_len}
use Rattle.std.proofs.lemmas.List.Sorted.{length_permutation, IsPermutation-trans}
use Rattle.lb_plan.specs.Plans.{IsPlan, IsByLength}
use Rattle.lb_plan.proofs.plan.Plan.for_lanes.Goals as goal

pub of_numbers-requires-clause-few : goal.of_numbers-requires-clause-few
of_numbers-requires-clause-few c =
    let n = length c.args.set.now.traces in
    let numbers = c.in_ok-numbers.numbers in
    let each =
    IsPermutation-trans (range_with_len 0 n) c.in_ok-by_length.by_length.items numbers.items
    c.in_ok-by_length.ensures.each_once
    (subst (λ l. IsPermutation l numbers.items) c.as_slice.ensures.value
    c.in_ok-numbers.ensures.each_once) in
    let count : vec_len numbers ≡ length numbers.items = search rules in
    omega (
      arith,
      count,
      length_permutation (range_with_len 0 n) numbers.items each,
      length-range_with_len 0 n,
      c.in_ok-by_length.ensures.limit,
    )

pub of_numbers-requires-clause-each_once : goal.of_numbers-requires-clause-each_once
of_numbers-requires-clause-each_once c =
    let n = length c.args.set.now.traces in
    let numbers = c.in_ok-numbers.numbers in
    let each =
    IsPermutation-trans (range_with_len 0 n) c.in_ok-by_length.by_length.items numbers.items
    c.in_ok-by_length.ensures.each_once
    (subst (λ l. IsPermutation l numbers.items) c.as_slice.ensures.value
    c.in_ok-numbers.ensures.each_once) in
    let count : vec_len numbers ≡ length numbers.items = search rules in
    subst (λ k. IsPermutation (range_with_len 0 k) numbers.items)
    (sym
    (count ∙ length_permutation (range_with_len 0 n) numbers.items each
    ∙ length-range_with_len 0 n))
    each

pub returns-clause-plan : goal.returns-clause-plan
returns-clause-plan c =
    let n = length c.args.set.now.traces in
    let numbers = c.in_ok-numbers.numbers in
    let each =
    IsPermutation-trans (range_with_len 0 n) c.in_ok-by_length.by_length.items numbers.items
    c.in_ok-by_length.ensures.each_once
    (subst (λ l. IsPermutation l numbers.items) c.as_slice.ensures.value
    c.in_ok-numbers.ensures.each_once) in
    let count : vec_len numbers ≡ length numbers.items = search rules in
    subst (λ k. IsPlan k c.args.lanes c.of_numbers.result)
    (count ∙ length_permutation (range_with_len 0 n) numbers.items each ∙ length-range_with_len 0 n)
    c.of_numbers.ensures.plan

pub returns-clause-order : goal.returns-clause-order
returns-clause-order c =
    let lanes = c.args.lanes in
    subst (IsByLength c.args.set.now.traces)
    (sym
    (ap (λ l. drop lanes l ++ reverse (take lanes l)) c.of_numbers.ensures.numbers
    ∙ c.in_ok-numbers.ensures.order ∙ c.as_slice.ensures.value))
    c.in_ok-by_length.ensures.order
