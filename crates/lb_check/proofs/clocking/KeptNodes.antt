-- What is kept of the node at a place: the clocks of its terms, or what is found of its calls.
use Rattle.lb_check.proofs.Words.{List, [], ap, get_or, length, listed, slice_get, sym, ℕ, ◌<◌, ◌∙◌}
use Rattle.lb_check.{proofs.Words.{◌≡◌, ◌≤◌}, specs.declared.checked.Checking.Checking}
use Rattle.lb_check.specs.declared.found_clocks.NodeClocks.{NodeClocks}
use Rattle.lb_static.proofs.Lookups.{held, past}

-- the list `field` of the node that is found at this place
pub kept_at : {A : Type 0} (field : NodeClocks → List A) (read : List NodeClocks)
    (inside now : Checking) (i : ℕ) (found : NodeClocks) → read ≡ inside.clocks.items
    → inside ≡ now → i < length read → found ≡ get_or read i found
    → field found ≡ listed field (slice_get now.clocks.items i)
kept_at field read inside now i found same view below is =
    sym (ap (listed field)
    (held read now.clocks.items i found (same ∙ ap (λ k. k.clocks.items) view) below is))

-- no such list past the last node
pub kept_past : {A : Type 0} (field : NodeClocks → List A) (read : List NodeClocks)
    (inside now : Checking) (i : ℕ) → read ≡ inside.clocks.items → inside ≡ now
    → length read ≤ i → [] ≡ listed field (slice_get now.clocks.items i)
kept_past field read inside now i same view above =
    sym (ap (listed field)
    (past read now.clocks.items i (same ∙ ap (λ k. k.clocks.items) view) above))
