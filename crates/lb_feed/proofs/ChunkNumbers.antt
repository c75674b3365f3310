-- The numbers of chunks.
use Rattle.std.proofs.Common.{ℕ, ◌≡◌, ◌∙◌, ◌+◌, [], ◌∷◌, ◌++◌, ap, arith, sym}
use Rattle.std.proofs.lemmas.List.{map-id}
use Rattle.std.proofs.lemmas.List.FromFn.{map-range_with_len_more}
use Rattle.std.specs.List.{range_with_len}

-- a range with one number more ends with that number
pub numbers_more : (from count : ℕ)
    → range_with_len from (count + 1) ≡ range_with_len from count ++ (from + count) ∷ []
numbers_more from count =
    sym (map-id (range_with_len from (count + 1)))
    ∙ map-range_with_len_more (λ k. k) from count (from + count) (omega arith)
    ∙ ap (λ ks. ks ++ (from + count) ∷ []) (map-id (range_with_len from count))
