-- A plan over `n` traces holds `n` numbers.
use Rattle.std.proofs.Common.{◌≡◌, ℕ, List, length, ◌∙◌}
use Rattle.std.specs.List.{range_with_len}
use Rattle.std.proofs.lemmas.List.FromFn.{length-range_with_len}
use Rattle.std.proofs.lemmas.List.Sorted.{length_permutation}
use Rattle.lb_plan.specs.Plans.{numbers_in, IsPlan}

-- n has another name in the promise of `Plan::in_order`
pub is_over_all :
    (n m width : ℕ) (batches : List (List ℕ)) → IsPlan n width batches → n ≡ m →
    length (numbers_in batches) ≡ m
is_over_all n m width batches plan same =
    length_permutation (range_with_len 0 n) (numbers_in batches) plan.each_once
    ∙ length-range_with_len 0 n
    ∙ same
