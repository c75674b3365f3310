-- Sorted pairs give the numbers by length.
use Rattle.std.proofs.Common.{◌≡◌, ℕ, length, map, vec_len, sym, ap, ◌∙◌, subst, rules}
use Rattle.std.specs.List.{range_with_len}
use Rattle.std.specs.List.Sorted.{IsPermutation}
use Rattle.std.proofs.lemmas.List.FromFn.{length-range_with_len}
use Rattle.std.proofs.lemmas.List.Sorted.{length_permutation}
use Rattle.lb_plan.specs.Plans.{length_of, IsByLength}
use Rattle.lb_plan.proofs.ByLength.{each_once, by_length}
use Rattle.lb_plan.proofs.plan.numbers_by_length.Goals as goal

pub returns-clause-each_once : goal.returns-clause-each_once
returns-clause-each_once c =
    let n = length c.args.set.now.traces in
    let length_at = length_of c.args.set.now.traces in
    let pairs = c.sort_unstable.new.self.items in
    let moved = subst (λ l. IsPermutation l pairs) c.in_ok-pairs.ensures.pairs
    c.sort_unstable.ensures.permutation in
    let out : c.in_ok-numbers.numbers.items ≡ map (λ (p : ℕ × ℕ). p.1) pairs =
    c.in_ok-numbers.ensures ∙ ap (map (λ (p : ℕ × ℕ). p.1)) c.as_slice.ensures.value in
    subst (IsPermutation (range_with_len 0 n)) (sym out) (each_once length_at n pairs moved)

pub returns-clause-order : goal.returns-clause-order
returns-clause-order c =
    let n = length c.args.set.now.traces in
    let length_at = length_of c.args.set.now.traces in
    let pairs = c.sort_unstable.new.self.items in
    let moved = subst (λ l. IsPermutation l pairs) c.in_ok-pairs.ensures.pairs
    c.sort_unstable.ensures.permutation in
    let out : c.in_ok-numbers.numbers.items ≡ map (λ (p : ℕ × ℕ). p.1) pairs =
    c.in_ok-numbers.ensures ∙ ap (map (λ (p : ℕ × ℕ). p.1)) c.as_slice.ensures.value in
    subst (IsByLength c.args.set.now.traces) (sym out)
    (by_length length_at n pairs moved c.sort_unstable.ensures.sorted)

pub returns-clause-count : goal.returns-clause-count
returns-clause-count c =
    let n = length c.args.set.now.traces in
    let numbers = c.in_ok-numbers.numbers in
    let count : vec_len numbers ≡ length numbers.items = search rules in
    count
    ∙ length_permutation (range_with_len 0 n) numbers.items (returns-clause-each_once c)
    ∙ length-range_with_len 0 n
