-- Rows of places that stand side by side, and the memories of a program.
use Rattle.std.proofs.Common.{◌≡◌, ◌≢◌, ℕ, suc, ◌<◌, ◌≤◌, List, [], ◌∷◌, ◌++◌, refl, sym}
use Rattle.std.proofs.Common.{ap, ap₂, subst, inl, inr, set, arith}
use Rattle.std.proofs.lemmas.List.{get_or-set_other}
use Rattle.lb_syntax.specs.Lists.{Every}
use Rattle.lb_flat.specs.Flat.{FlatEquation}
use Rattle.lb_sim.specs.Compiled.{IsHomeAt}
use Rattle.lb_sim.specs.Homes.{IsRow, IsHomeIn, plane_in, word_in, plane_row, word_row}
use Rattle.lb_sim.specs.States.{kept_at, no_holding}
use Rattle.lb_sim.specs.declared.place.Holding.{Holding}

-- ## Rows

pub row_append : (p m n : ℕ) (xs ys : List ℕ) → IsRow p xs m → IsRow m ys n → IsRow p (xs ++ ys) n
row_append p m n [] ys h g = subst (λ k. IsRow k ys n) (sym h) g
row_append p m n (x ∷ xs) ys (inl h) g = inl (h.0, row_append p m n xs ys h.1 g)
row_append p m n (x ∷ xs) ys (inr h) g = inr (h.0, row_append (suc p) m n xs ys h.1 g)

pub row_grows : (p m : ℕ) (xs : List ℕ) → IsRow p xs m → p ≤ m
row_grows p m [] h = omega (arith, h)
row_grows p m (x ∷ xs) (inl h) = row_grows p m xs h.1
row_grows p m (x ∷ xs) (inr h) = omega (arith, row_grows (suc p) m xs h.1)

-- each place of a row is 0, or one of the places that the row takes
pub row_homes : (p m : ℕ) (xs : List ℕ) → IsRow p xs m → Every (IsHomeAt p m) xs
row_homes p m [] h = tt
row_homes p m (x ∷ xs) (inl h) = (inl h.0, row_homes p m xs h.1)
row_homes p m (x ∷ xs) (inr h) =
    let here : p ≤ x = omega (arith, h.0) in
    let within : x < m = omega (arith, h.0, row_grows (suc p) m xs h.1) in
    (inr (here, within), wider xs (row_homes (suc p) m xs h.1))
  where
    wide : (y : ℕ) → IsHomeAt (suc p) m y → IsHomeAt p m y
    wide y (inl e) = inl e
    wide y (inr g) = let low : p ≤ y = omega (arith, g.0) in inr (low, g.1)

    wider : (ys : List ℕ) → Every (IsHomeAt (suc p) m) ys → Every (IsHomeAt p m) ys
    wider [] g = tt
    wider (y ∷ ys) g = (wide y g.0, wider ys g.1)

-- a row without its first place: 0 takes no place, and any other is the first that the row takes
pub row_passes : (p n k : ℕ) (ks : List ℕ) → 0 < p → k ≡ 0 → IsRow p (k ∷ ks) n → IsRow p ks n
row_passes p n k ks lt e (inl h) = h.1
row_passes p n k ks lt e (inr h) = absurd (omega (arith, lt, e, h.0))

pub row_takes : (p n k : ℕ) (ks : List ℕ) → k ≢ 0 → IsRow p (k ∷ ks) n →
    (k ≡ p) × IsRow (suc p) ks n
row_takes p n k ks ne (inl h) = absurd (ne h.0)
row_takes p n k ks ne (inr h) = h

-- a place among memories is one among a larger range of memories
pub home_wider : (m p q k : ℕ) → p ≤ q → IsHomeAt m p k → IsHomeAt m q k
home_wider m p q k le (inl e) = inl e
home_wider m p q k le (inr h) = let lt : k < q = omega (arith, h.1, le) in inr (h.0, lt)

pub home_lower : (l m p k : ℕ) → l ≤ m → IsHomeAt m p k → IsHomeAt l p k
home_lower l m p k le (inl e) = inl e
home_lower l m p k le (inr h) = let low : l ≤ k = omega (arith, h.0, le) in inr (low, h.1)

pub home_below : (m p k : ℕ) → 0 < p → IsHomeAt m p k → k < p
home_below m p k lt (inl e) = omega (arith, e, lt)
home_below m p k lt (inr h) = h.1

pub in_wider :
    (mp p q mw w v : ℕ) (h : Holding) → p ≤ q → w ≤ v → IsHomeIn mp p mw w h → IsHomeIn mp q mw v h
in_wider mp p q mw w v h planes words g = record {
  plane = home_wider mp p q (plane_in h.value) planes g.plane;
  word = home_wider mw w v (word_in h.value) words g.word;
  nil = home_wider mp p q h.nil.0 planes g.nil;
  bad = home_wider mp p q h.bad.0 planes g.bad;
}

pub in_none : (mp p mw w : ℕ) → IsHomeIn mp p mw w no_holding
in_none mp p mw w = record { plane = inl refl; word = inl refl; nil = inl refl; bad = inl refl }

-- a holding whose places are a row stands among memories
pub in_row :
    (mp p q mw w v : ℕ) (h : Holding) → mp ≤ p → mw ≤ w →
    IsRow p (plane_in h.value ∷ h.nil.0 ∷ h.bad.0 ∷ []) q → IsRow w (word_in h.value ∷ []) v →
    IsHomeIn mp q mw v h
in_row mp p q mw w v h below_p below_w planes words =
    let ps = row_homes p q (plane_in h.value ∷ h.nil.0 ∷ h.bad.0 ∷ []) planes in
    let ws = row_homes w v (word_in h.value ∷ []) words in
    record {
      plane = home_lower mp p q (plane_in h.value) below_p ps.0;
      word = home_lower mw w v (word_in h.value) below_w ws.0;
      nil = home_lower mp p q h.nil.0 below_p ps.1.0;
      bad = home_lower mp p q h.bad.0 below_p ps.1.1.0;
    }

-- ## The rows of a program's memories

module _ (kept : List Holding) where
  pub planes_push :
      (Q : List FlatEquation) (q : FlatEquation) →
      plane_row kept (Q ++ q ∷ [])
      ≡ plane_row kept Q
      ++ (plane_in (kept_at kept q.element).value
      ∷ (kept_at kept q.element).nil.0 ∷ (kept_at kept q.element).bad.0 ∷ [])
  planes_push [] q = refl
  planes_push (r ∷ Q) q =
      ap (λ (ks : List ℕ).
      plane_in (kept_at kept r.element).value
      ∷ (kept_at kept r.element).nil.0 ∷ (kept_at kept r.element).bad.0 ∷ ks)
      (planes_push Q q)

  pub words_push :
      (Q : List FlatEquation) (q : FlatEquation) →
      word_row kept (Q ++ q ∷ [])
      ≡ word_row kept Q ++ word_in (kept_at kept q.element).value ∷ []
  words_push [] q = refl
  words_push (r ∷ Q) q =
      ap (λ (ks : List ℕ). word_in (kept_at kept r.element).value ∷ ks) (words_push Q q)

-- when another element gets its memory, the rows of earlier memories stay
module _ (kept : List Holding) (e : ℕ) (h : Holding) where
  pub kept_stays : (a : ℕ) → a ≢ e → kept_at (set kept e h) a ≡ kept_at kept a
  kept_stays a ne = get_or-set_other kept e a h no_holding ne

  pub planes_stay : (Q : List FlatEquation) → Every (λ (q : FlatEquation). q.element ≢ e) Q →
      plane_row (set kept e h) Q ≡ plane_row kept Q
  planes_stay [] apart = refl
  planes_stay (q ∷ Q) apart =
      ap₂ (λ (g : Holding) (ks : List ℕ). plane_in g.value ∷ g.nil.0 ∷ g.bad.0 ∷ ks)
      (kept_stays q.element apart.0) (planes_stay Q apart.1)

  pub words_stay : (Q : List FlatEquation) → Every (λ (q : FlatEquation). q.element ≢ e) Q →
      word_row (set kept e h) Q ≡ word_row kept Q
  words_stay [] apart = refl
  words_stay (q ∷ Q) apart =
      ap₂ (λ (g : Holding) (ks : List ℕ). word_in g.value ∷ ks)
      (kept_stays q.element apart.0) (words_stay Q apart.1)
