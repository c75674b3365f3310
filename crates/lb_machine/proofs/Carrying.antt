-- Copies to places in a row, one after the other, from places behind the row.
use Rattle.std.proofs.Common.{◌≡◌, ◌≢◌, ℕ, ◌+◌, ◌<◌, ◌≤◌, List, length, get_or, set, refl, ap, ◌∙◌}
use Rattle.std.proofs.Common.{subst, arith, below_more, length-set}
use Rattle.std.proofs.lemmas.List.{get_or-set_same, get_or-set_other, get_or_default}

-- the first `i` places have what their sources had, and no other place has changed
pub record IsCarried {A S : Type 0} (z : A) (source : S → ℕ) (first : ℕ) (sources : List S)
    (old new : List A) (i : ℕ) : Type 0 where
  pub as_long : length new ≡ length old
  pub below : (k : ℕ) → k < first → get_or new k z ≡ get_or old k z
  pub above : (k : ℕ) → first + i ≤ k → get_or new k z ≡ get_or old k z
  pub carried :
      (j : ℕ) → j < i → (s : S) →
      get_or new (first + j) z ≡ get_or old (source (get_or sources j s)) z

pub nothing_carried :
    {A S : Type 0} (z : A) (source : S → ℕ) (first : ℕ) (sources : List S) (old : List A) →
    IsCarried z source first sources old old 0
nothing_carried z source first sources old = record {
  as_long = refl;
  below = λ k h. refl;
  above = λ k h. refl;
  carried = λ j h s. absurd (omega (arith, h));
}

-- with one more place copied, the first `i + 1` places have what their sources had
pub one_carried :
    {A S : Type 0} (z : A) (source : S → ℕ) (first : ℕ) (sources : List S) (old new new' : List A)
    (i : ℕ) (d : S) → IsCarried z source first sources old new i → i < length sources →
    first + length sources ≤ source (get_or sources i d) → length new' ≡ length new →
    get_or new' (first + i) z ≡ get_or new (source (get_or sources i d)) z →
    ((k : ℕ) → k ≢ first + i → get_or new' k z ≡ get_or new k z) →
    IsCarried z source first sources old new' (i + 1)
one_carried {A} {S} z source first sources old new new' i d h lt behind long copied others =
    record {
      as_long = long ∙ h.as_long;
      below = λ k l. let ne : k ≢ first + i = omega (arith, l) in others k ne ∙ h.below k l;
      above = λ k l.
          let ne : k ≢ first + i = omega (arith, l) in
          others k ne ∙ h.above k (omega (arith, l));
      carried = below_more
          (λ j. (s : S) →
          get_or new' (first + j) z ≡ get_or old (source (get_or sources j s)) z) i
          (λ j l s.
          let ne : first + j ≢ first + i = omega (arith, l) in
          others (first + j) ne ∙ h.carried j l s)
          (λ s.
          copied
          ∙ ap (λ x. get_or new (source x) z) (get_or_default sources i d s lt)
          ∙ h.above (source (get_or sources i s))
          (subst (λ x. first + i ≤ source x) (get_or_default sources i d s lt)
          (omega (arith, behind, lt))));
    }

-- `one_carried` for a place that is `set`
pub one_set :
    {A S : Type 0} (z : A) (source : S → ℕ) (first : ℕ) (sources : List S) (old new : List A)
    (i : ℕ) (d : S) (v : A) → IsCarried z source first sources old new i → i < length sources →
    first + length sources ≤ source (get_or sources i d) → first + length sources ≤ length old →
    v ≡ get_or new (source (get_or sources i d)) z →
    IsCarried z source first sources old (set new (first + i) v) (i + 1)
one_set z source first sources old new i d v h lt behind room is_v =
    one_carried z source first sources old new (set new (first + i) v) i d h lt behind
    (length-set new (first + i) v)
    (get_or-set_same new (first + i) v z (omega (arith, h.as_long, room, lt)) ∙ is_v)
    (λ k ne. get_or-set_other new (first + i) k v z ne)
