-- A table that gets a holding for each element, equation by equation: the laws of earlier holdings
-- still hold.
use Rattle.std.proofs.Common.{◌≡◌, ◌≢◌, ℕ, ◌+◌, ◌<◌, ◌≤◌, List, [], ◌∷◌, ◌++◌, length, get_or, set}
use Rattle.std.proofs.Common.{take, drop, refl, sym, ap, ◌∙◌, subst, inl, inr, add-one, length-set}
use Rattle.std.proofs.Common.{take_all, take-suc}
use Rattle.std.proofs.Math.Seq.{drop-cons}
use Rattle.std.proofs.lemmas.List.{get_or-set_same}
use Rattle.lb_syntax.specs.Lists.{Every, In}
use Rattle.lb_flat.specs.Flat.{FlatEquation}
use Rattle.lb_flat.specs.Run.{IsNext, Ready}
use Rattle.lb_flat.proofs.lists.Lists.{Every-append}
use Rattle.lb_sim.specs.Homes.{IsRow, plane_in, word_in, plane_row, word_row}
use Rattle.lb_sim.specs.States.{kept_at, no_holding}
use Rattle.lb_sim.specs.declared.place.Holding.{Holding}
use Rattle.lb_sim.proofs.HomeRows.{row_append, planes_push, words_push, planes_stay, words_stay}
use Rattle.lb_sim.proofs.HomeRows.{kept_stays}

-- the elements of the first `i` equations have their holdings
pub record IsFilling (size : ℕ) (Q : List FlatEquation) (table : List Holding) (i : ℕ) :
    Type 0 where
  pub done : List ℕ
  pub ready : Ready size done (drop i Q)
  pub as_long : length table ≡ size
  pub gives : Every (λ (q : FlatEquation). In q.element done) (take i Q)

pub filling_none : (size : ℕ) (Q : List FlatEquation) (table : List Holding) → Ready size [] Q →
    length table ≡ size → IsFilling size Q table 0
filling_none size Q table ready long =
    record { done = []; ready = ready; as_long = long; gives = tt }

all_apart : (done : List ℕ) (e : ℕ) → (In e done → ⊥) → (Q : List FlatEquation) →
    Every (λ (q : FlatEquation). In q.element done) Q →
    Every (λ (q : FlatEquation). q.element ≢ e) Q
all_apart done e new [] h = tt
all_apart done e new (q ∷ Q) h =
    (λ same. new (subst (λ k. In k done) same h.0), all_apart done e new Q h.1)

all_given : (done : List ℕ) (e : ℕ) (Q : List FlatEquation) →
    Every (λ (q : FlatEquation). In q.element done) Q →
    Every (λ (q : FlatEquation). In q.element (e ∷ done)) Q
all_given done e [] h = tt
all_given done e (q ∷ Q) h = (inr h.0, all_given done e Q h.1)

module _ (size : ℕ) (Q : List FlatEquation) (table : List Holding) (i : ℕ)
    (h : IsFilling size Q table i) (q : FlatEquation) (lt : i < length Q) (is : get_or Q i q ≡ q)
  where
    cut_there : drop i Q ≡ get_or Q i q ∷ drop (i + 1) Q
    cut_there = rw (add-one, drop-cons Q i q)

    pub cut : drop i Q ≡ q ∷ drop (i + 1) Q
    cut = cut_there ∙ ap (λ (r : FlatEquation). r ∷ drop (i + 1) Q) is

    parts : IsNext size h.done q × Ready size (q.element ∷ h.done) (drop (i + 1) Q)
    parts = subst (Ready size h.done) cut h.ready

    pub front : take (i + 1) Q ≡ take i Q ++ q ∷ []
    front =
        ap (λ n. take n Q) (add-one i) ∙ take-suc Q i q lt
        ∙ ap (λ (r : FlatEquation). take i Q ++ r ∷ []) is

    pub apart : Every (λ (r : FlatEquation). r.element ≢ q.element) (take i Q)
    apart = all_apart h.done q.element parts.0.is_new (take i Q) h.gives

    -- the element has a place in the table
    pub element_there : q.element < length table
    element_there = subst (λ n. q.element < n) (sym h.as_long) parts.0.is_element

    module _ (g : Holding) where
      abbrev filled : List Holding
      filled = set table q.element g

      here : kept_at filled q.element ≡ g
      here = get_or-set_same table q.element g no_holding element_there

      pub filling_more : IsFilling size Q filled (i + 1)
      filling_more = record {
        done = q.element ∷ h.done;
        ready = parts.1;
        as_long = length-set table q.element g ∙ h.as_long;
        gives =
            subst (Every (λ (r : FlatEquation). In r.element (q.element ∷ h.done))) (sym front)
            (Every-append (λ (r : FlatEquation). In r.element (q.element ∷ h.done)) (take i Q)
            (q ∷ []) (all_given h.done q.element (take i Q) h.gives) (inl refl, tt));
      }

      -- a law of each earlier holding still holds
      module _ (law law' : Holding → FlatEquation → Type 0)
          (stays : (x : Holding) (r : FlatEquation) → law x r → law' x r) where
        all_stay : (P : List FlatEquation) → Every (λ (r : FlatEquation). r.element ≢ q.element) P →
            Every (λ (r : FlatEquation). law (kept_at table r.element) r) P →
            Every (λ (r : FlatEquation). law' (kept_at filled r.element) r) P
        all_stay [] a w = tt
        all_stay (r ∷ P) a w = (
          subst (λ x. law' x r) (sym (kept_stays table q.element g r.element a.0))
              (stays (kept_at table r.element) r w.0),
          all_stay P a.1 w.1,
        )

        pub laws_more :
            Every (λ (r : FlatEquation). law (kept_at table r.element) r) (take i Q) → law' g q →
            Every (λ (r : FlatEquation). law' (kept_at filled r.element) r) (take (i + 1) Q)
        laws_more w new =
            subst (Every (λ (r : FlatEquation). law' (kept_at filled r.element) r)) (sym front)
            (Every-append (λ (r : FlatEquation). law' (kept_at filled r.element) r) (take i Q)
            (q ∷ []) (all_stay (take i Q) apart w)
            (subst (λ x. law' x q) (sym here) new, tt))

      -- the row of planes with one more memory
      pub planes_more :
          (p m n : ℕ) → IsRow p (plane_row table (take i Q)) m →
          IsRow m (plane_in g.value ∷ g.nil.0 ∷ g.bad.0 ∷ []) n →
          IsRow p (plane_row filled (take (i + 1) Q)) n
      planes_more p m n w new =
          subst (λ ks. IsRow p ks n)
          (sym (ap (plane_row filled) front ∙ planes_push filled (take i Q) q))
          (row_append p m n (plane_row filled (take i Q)) _
          (subst (λ ks. IsRow p ks m) (sym (planes_stay table q.element g (take i Q) apart)) w)
          (subst (λ (x : Holding). IsRow m (plane_in x.value ∷ x.nil.0 ∷ x.bad.0 ∷ []) n)
          (sym here) new))

      pub words_more :
          (p m n : ℕ) → IsRow p (word_row table (take i Q)) m →
          IsRow m (word_in g.value ∷ []) n → IsRow p (word_row filled (take (i + 1) Q)) n
      words_more p m n w new =
          subst (λ ks. IsRow p ks n)
          (sym (ap (word_row filled) front ∙ words_push filled (take i Q) q))
          (row_append p m n (word_row filled (take i Q)) _
          (subst (λ ks. IsRow p ks m) (sym (words_stay table q.element g (take i Q) apart)) w)
          (subst (λ (x : Holding). IsRow m (word_in x.value ∷ []) n) (sym here) new))

-- at the end the law holds of all equations
pub all_filled : (law : Holding → FlatEquation → Type 0) (Q : List FlatEquation)
    (table : List Holding) (i : ℕ) → length Q ≤ i →
    Every (λ (r : FlatEquation). law (kept_at table r.element) r) (take i Q) →
    Every (λ (r : FlatEquation). law (kept_at table r.element) r) Q
all_filled law Q table i le w =
    subst (Every (λ (r : FlatEquation). law (kept_at table r.element) r)) (take_all i Q le) w
