-- The numbers stand in order.
use Rattle.std.proofs.Common.{◌≡◌, ◌∙◌, ◌+◌, ◌∷◌, ◌++◌, ℕ, List, [], ap, arith, sym}
use Rattle.std.specs.List.{range_with_len}
use Rattle.lb_feed.proofs.ChunkNumbers.{numbers_more}
use Rattle.lb_feed.proofs.file_chunks.numbers_to.Goals as goal

pub loop-k-preserved : goal.loop-k-preserved
loop-k-preserved c =
    let k = c.loop-k.k in
    let at : k + 1 ≡ 1 + k = omega arith in
    c.in_ok-push.ensures.items
    ∙ ap (λ (l : List ℕ). l ++ (k + 1) ∷ []) c.loop-k.invariant
    ∙ ap (λ (n : ℕ). range_with_len 1 k ++ n ∷ []) at
    ∙ sym (numbers_more 1 k)
