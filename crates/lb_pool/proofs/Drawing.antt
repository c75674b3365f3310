-- The draws of a worker that claims one batch, and then more.
use Rattle.std.proofs.Common.{◌≡◌, ℕ, ◌∙◌, ◌++◌, ◌∷◌, [], List, get_or, sym, ap}
use Rattle.std.proofs.lemmas.List.{append-nil}
use Rattle.std.proofs.lemmas.List.Concat.{flat_map-append}
use Rattle.lb_pool.specs.Runs.{numbers_drawn, AreDrawnAfter}

drawn_one :
    (batches : List (List ℕ)) (drawn : List ℕ) (i : ℕ) →
    AreDrawnAfter batches drawn (drawn ++ i ∷ []) (get_or batches i [])
drawn_one batches drawn i =
    flat_map-append (λ j. get_or batches j []) drawn (i ∷ [])
    ∙ ap (λ l. numbers_drawn batches drawn ++ l) (append-nil (get_or batches i []))

-- what is judged is what is drawn, if it was so before and all that was drawn since was judged
pub judged_further :
    (batches : List (List ℕ)) (old first new : List ℕ) (i : ℕ) (members before after : List ℕ) →
    first ≡ old ++ i ∷ [] →
    ((drawn : List ℕ) → AreDrawnAfter batches drawn first (get_or batches i []) →
    AreDrawnAfter batches drawn new members) →
    before ≡ numbers_drawn batches old → after ≡ before ++ members →
    after ≡ numbers_drawn batches new
judged_further batches old first new i members before after one since same more =
    more
    ∙ ap (λ l. l ++ members) same
    ∙ sym (since old (ap (numbers_drawn batches) one ∙ drawn_one batches old i))
