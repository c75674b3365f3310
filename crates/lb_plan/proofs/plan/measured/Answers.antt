-- One more pair.
use Rattle.std.proofs.Common.{◌++◌, ◌∷◌, [], List, ℕ, sym, ap, ◌∙◌, arith}
use Rattle.std.proofs.lemmas.List.FromFn.{map-range_with_len_more}
use Rattle.lb_plan.specs.Plans.{length_of}
use Rattle.lb_plan.proofs.plan.measured.Goals as goal

pub loop-k-preserved : goal.loop-k-preserved
loop-k-preserved c =
    let k = c.loop-k.k in
    let before = c.loop-k.pairs.items in
    let length_at = length_of c.args.set.now.traces in
    c.in_ok-push.ensures.items
    ∙ ap (λ (n : ℕ). before ++ (n, k) ∷ []) c.length.ensures.instants
    ∙ ap (λ (l : List (ℕ × ℕ)). l ++ (length_at k, k) ∷ []) c.loop-k.invariant
    ∙ sym (map-range_with_len_more (λ j. (length_at j, j)) 0 k k (omega arith))
