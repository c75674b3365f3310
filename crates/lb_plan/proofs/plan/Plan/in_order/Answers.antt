-- The numbers below n stand in order.
use Rattle.std.proofs.Common.{◌≡◌, ◌++◌, ◌∷◌, [], List, ℕ, length, vec_len, sym, ap, ◌∙◌, subst}
use Rattle.std.proofs.Common.{arith, rules}
use Rattle.std.specs.List.{range_with_len}
use Rattle.std.specs.List.Sorted.{IsPermutation}
use Rattle.std.proofs.lemmas.List.FromFn.{length-range_with_len}
use Rattle.std.proofs.lemmas.List.Sorted.{IsPermutation-refl}
use Rattle.lb_plan.proofs.Cutting.{range_more}
use Rattle.lb_plan.proofs.plan.Plan.in_order.Goals as goal

pub loop-k-preserved : goal.loop-k-preserved
loop-k-preserved c =
    let k = c.loop-k.k in
    c.in_ok-push.ensures.items
    ∙ ap (λ (l : List ℕ). l ++ k ∷ []) c.loop-k.invariant
    ∙ sym (range_more k)

pub of_numbers-requires-clause-few : goal.of_numbers-requires-clause-few
of_numbers-requires-clause-few c =
    let numbers = c.loop-k.numbers in
    let count : vec_len numbers ≡ length numbers.items = search rules in
    omega (arith, count, ap length c.loop-k.invariant, length-range_with_len 0 c.loop-k.k)

pub of_numbers-requires-clause-each_once : goal.of_numbers-requires-clause-each_once
of_numbers-requires-clause-each_once c =
    let numbers = c.loop-k.numbers in
    let k = c.loop-k.k in
    let count : vec_len numbers ≡ length numbers.items = search rules in
    let same : k ≡ vec_len numbers =
    sym (count ∙ ap length c.loop-k.invariant ∙ length-range_with_len 0 k) in
    subst (λ (n : ℕ). IsPermutation (range_with_len 0 n) numbers.items) same
    (subst (λ (l : List ℕ). IsPermutation (range_with_len 0 k) l) (sym c.loop-k.invariant)
    (IsPermutation-refl (range_with_len 0 k)))
