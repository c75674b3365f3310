-- The list of instructions after one more is added, or after the last one is replaced.
use Rattle.std.proofs.Common.{◌≡◌, ℕ, ◌+◌, List, [], ◌∷◌, ◌++◌, length, ap, ◌∙◌, sym, arith}
use Rattle.std.proofs.Common.{refl, ◌⊎◌, inl, inr, zero, suc, get_or, set, ap₂, length-set}
use Rattle.std.proofs.lemmas.List.{append_assoc}
use Rattle.lb_machine.specs.Listed.{before_last, select_at, selects_from, unpacked}
use Rattle.lb_machine.specs.declared.instructions.Block.{Block}
use Rattle.lb_machine.specs.declared.instructions.Choice.{Choice}

choice_behind :
    (choices : List Choice) (first out : ℕ) (c : Choice) → first + length choices ≡ out →
    selects_from first (choices ++ c ∷ []) ≡ selects_from first choices ++ select_at out c ∷ []
choice_behind [] first out c e =
    let same : first ≡ out = omega (arith, e) in ap (λ n. select_at n c ∷ []) same
choice_behind (x ∷ choices) first out c e =
    ap (λ is. select_at first x ∷ is) (choice_behind choices (first + 1) out c (omega (arith, e)))

pub choice_listed :
    (blocks : List Block) (first : ℕ) (choices : List Choice) (out : ℕ) (c : Choice) →
    first + length choices ≡ out →
    unpacked blocks first (choices ++ c ∷ [])
    ≡ unpacked blocks first choices ++ select_at out c ∷ []
choice_listed [] first choices out c e = choice_behind choices first out c e
choice_listed (b ∷ blocks) first choices out c e =
    ap (λ is. selects_from b.first b.choices.items ++ b.last ∷ is)
    (choice_listed blocks first choices out c e)
    ∙ sym (append_assoc (selects_from b.first b.choices.items)
    (b.last ∷ unpacked blocks first choices) (select_at out c ∷ []))

pub block_listed :
    (blocks : List Block) (b : Block) (first : ℕ) →
    unpacked (blocks ++ b ∷ []) first [] ≡ unpacked blocks b.first b.choices.items ++ b.last ∷ []
block_listed [] b first = refl
block_listed (a ∷ blocks) b first =
    ap (λ is. selects_from a.first a.choices.items ++ a.last ∷ is) (block_listed blocks b first)
    ∙ sym (append_assoc (selects_from a.first a.choices.items)
    (a.last ∷ unpacked blocks b.first b.choices.items) (b.last ∷ []))

-- without choices behind the blocks, the list does not depend on `first`
pub none_listed :
    (blocks : List Block) (first first' : ℕ) → unpacked blocks first [] ≡ unpacked blocks first' []
none_listed [] first first' = refl
none_listed (a ∷ blocks) first first' =
    ap (λ is. selects_from a.first a.choices.items ++ a.last ∷ is) (none_listed blocks first first')

-- the list with one more choice, behind other choices or as the first one
pub choice_pushed :
    (blocks : List Block) (first old : ℕ) (choices new : List Choice) (out : ℕ) (c : Choice) →
    new ≡ choices ++ c ∷ [] → first + length choices ≡ out →
    (length choices ≡ 0) ⊎ (first ≡ old) →
    unpacked blocks first new ≡ unpacked blocks old choices ++ select_at out c ∷ []
choice_pushed blocks first old choices new out c is e from =
    ap (unpacked blocks first) is
    ∙ choice_listed blocks first choices out c e
    ∙ ap (λ l. l ++ select_at out c ∷ []) (by choices from)
  where
    by : (cs : List Choice) → (length cs ≡ 0) ⊎ (first ≡ old) →
        unpacked blocks first cs ≡ unpacked blocks old cs
    by [] from = none_listed blocks first old
    by (x ∷ cs) (inl none) = absurd (omega (arith, none))
    by (x ∷ cs) (inr same) = ap (λ n. unpacked blocks n (x ∷ cs)) same

-- ## The last instruction

-- the list of blocks is `before_last` and then the last instruction
pub last_listed :
    (blocks : List Block) (d : Block) (first k : ℕ) → length blocks ≡ k + 1 →
    unpacked blocks first [] ≡ before_last blocks ++ (get_or blocks k d).last ∷ []
last_listed [] d first k e = absurd (omega (arith, e))
last_listed (b ∷ []) d first zero e = refl
last_listed (b ∷ []) d first (suc k) e = absurd (omega (arith, e))
last_listed (b ∷ (c ∷ blocks)) d first zero e = absurd (omega (arith, e))
last_listed (b ∷ (c ∷ blocks)) d first (suc k) e =
    ap (λ is. selects_from b.first b.choices.items ++ b.last ∷ is)
    (last_listed (c ∷ blocks) d first k (omega (arith, e)))
    ∙ sym (append_assoc (selects_from b.first b.choices.items)
    (b.last ∷ before_last (c ∷ blocks)) ((get_or (c ∷ blocks) k d).last ∷ []))

-- a new last instruction changes none before it
pub last_set :
    (blocks : List Block) (d new : Block) (k : ℕ) → length blocks ≡ k + 1 →
    new.first ≡ (get_or blocks k d).first →
    new.choices.items ≡ (get_or blocks k d).choices.items →
    before_last (set blocks k new) ≡ before_last blocks
last_set [] d new k e f g = absurd (omega (arith, e))
last_set (b ∷ []) d new zero e f g = ap₂ selects_from f g
last_set (b ∷ []) d new (suc k) e f g = absurd (omega (arith, e))
last_set (b ∷ (c ∷ blocks)) d new zero e f g = absurd (omega (arith, e))
last_set (b ∷ (c ∷ blocks)) d new (suc k) e f g =
    more (set (c ∷ blocks) k new) (length-set (c ∷ blocks) k new)
    ∙ ap (λ is. selects_from b.first b.choices.items ++ b.last ∷ is)
    (last_set (c ∷ blocks) d new k (omega (arith, e)) f g)
  where
    more :
        (bs : List Block) → length bs ≡ length (c ∷ blocks) →
        before_last (b ∷ bs) ≡ selects_from b.first b.choices.items ++ b.last ∷ before_last bs
    more [] l = absurd (omega (arith, l))
    more (x ∷ bs) l = refl

pub no_choices : (choices : List Choice) → length choices ≡ 0 → choices ≡ []
no_choices [] e = refl
no_choices (c ∷ choices) e = absurd (omega (arith, e))
