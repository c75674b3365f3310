-- The columns of a signature, one after the other, and the row of them that a lane shows.
use Rattle.std.proofs.Common.{◌≡◌, ℕ, suc, ◌+◌, ◌<◌, Bool, false, List, [], ◌∷◌, ◌++◌}
use Rattle.std.proofs.Common.{ℤ, pos, get_or, length, map, drop, cond, refl, sym, ap, ap₂, ◌∙◌}
use Rattle.std.proofs.Common.{arith}
use Rattle.std.proofs.lemmas.List.{drop_more}
use Rattle.std.proofs.lemmas.List.Recursion.{is_count_by}
use Rattle.std.specs.List.{count_by}
use Rattle.std.specs.Prelude.{int_le}
use Rattle.lb_syntax.specs.declared.tree.Kind.{Kind}
use Rattle.lb_syntax.specs.declared.tree.Kind.TheVariants.{Int as Int_kind, Bool as Bool_kind}
use Rattle.lb_syntax.specs.Lists.{zip2}
use Rattle.lb_check.specs.Scalars.{Scalar, Integer, Boolean}
use Rattle.lb_flat.specs.Inputs.{scalar_in}
use Rattle.lb_machine.specs.Meaning.{Lane}
use Rattle.lb_sim.specs.InputRows.{is_truth, places_of, truth_columns, number_columns, zero_of}
use Rattle.lb_sim.specs.Showing.{value_at}
use Rattle.lb_sim.specs.declared.place.Value.TheVariants.{Truth, Number}

-- ## One column more

pub places_push :
    (j p w : ℕ) (kinds : List Kind) (k : Kind) →
    places_of p w (kinds ++ k ∷ [])
    ≡ places_of p w kinds
    ++ places_of (p + length (truth_columns j kinds)) (w + length (number_columns j kinds)) (k ∷ [])
places_push j p w [] k =
    let at_p : p ≡ p + 0 = omega arith in
    let at_w : w ≡ w + 0 = omega arith in
    ap₂ (λ a b. places_of a b (k ∷ [])) at_p at_w
places_push j p w (Bool_kind ∷ kinds) k =
    let n = length (truth_columns (suc j) kinds) in
    let m = length (number_columns (suc j) kinds) in
    let e : suc p + n ≡ p + suc n = omega arith in
    ap (λ l. Truth (record { 0 = p }) ∷ l)
    (places_push (suc j) (suc p) w kinds k
    ∙ ap (λ a. places_of (suc p) w kinds ++ places_of a (w + m) (k ∷ [])) e)
places_push j p w (Int_kind ∷ kinds) k =
    let n = length (truth_columns (suc j) kinds) in
    let m = length (number_columns (suc j) kinds) in
    let e : suc w + m ≡ w + suc m = omega arith in
    ap (λ l. Number (record { 0 = w }) ∷ l)
    (places_push (suc j) p (suc w) kinds k
    ∙ ap (λ a. places_of p (suc w) kinds ++ places_of (p + n) a (k ∷ [])) e)

-- the number of Boolean columns does not depend on the first column
same_truths :
    (j k : ℕ) (kinds : List Kind) → length (truth_columns j kinds) ≡ length (truth_columns k kinds)
same_truths j k [] = refl
same_truths j k (Bool_kind ∷ kinds) = ap suc (same_truths (suc j) (suc k) kinds)
same_truths j k (Int_kind ∷ kinds) = same_truths (suc j) (suc k) kinds

-- the number of Boolean columns is the count of Boolean kinds, and the others hold integers
pub truths_counted :
    (kinds : List Kind) → length (truth_columns 0 kinds) ≡ count_by is_truth kinds
truths_counted = is_count_by (λ ks. length (truth_columns 0 ks)) is_truth refl more
  where
    more : (k : Kind) (ks : List Kind) →
        length (truth_columns 0 (k ∷ ks))
        ≡ cond (is_truth k) (1 + length (truth_columns 0 ks)) (length (truth_columns 0 ks))
    more Bool_kind ks = let e = same_truths 1 0 ks in omega (arith, e)
    more Int_kind ks = same_truths 1 0 ks

pub columns_counted :
    (j : ℕ) (kinds : List Kind) →
    length (truth_columns j kinds) + length (number_columns j kinds) ≡ length kinds
columns_counted j [] = refl
columns_counted j (Bool_kind ∷ kinds) =
    let e = columns_counted (suc j) kinds in omega (arith, e)
columns_counted j (Int_kind ∷ kinds) =
    let e = columns_counted (suc j) kinds in omega (arith, e)

-- ## The row of a lane

module _ (s : Lane) (whole : List ℤ) where
  -- the lane shows the cells of a row
  pub row_shown :
      (kinds : List Kind) (j p w : ℕ) → length whole ≡ j + length kinds →
      ((b : ℕ) → b < length (truth_columns j kinds) →
      s.bits (p + b) ≡ int_le (pos 1) (get_or whole (get_or (truth_columns j kinds) b 0) (pos 0))) →
      ((c : ℕ) → c < length (number_columns j kinds) →
      s.ints (w + c) ≡ get_or whole (get_or (number_columns j kinds) c 0) (pos 0)) →
      map (value_at s) (places_of p w kinds) ≡ zip2 scalar_in kinds (drop j whole)
  row_shown [] j p w long bits ints = refl
  row_shown (Bool_kind ∷ kinds) j p w long bits ints =
      let here : p ≡ p + 0 = omega arith in
      let next : suc j ≡ j + 1 = omega arith in
      let rest = row_shown kinds (suc j) (suc p) w (omega (arith, long))
      (λ b l.
      let e : suc p + b ≡ p + suc b = omega arith in
      ap s.bits e ∙ bits (suc b) (omega (arith, l)))
      ints in
      ap₂ (λ (x : Bool) (l : List Scalar). Boolean x ∷ l) (ap s.bits here ∙ bits 0 (omega arith))
      (rest ∙ ap (λ n. zip2 scalar_in kinds (drop n whole)) next)
      ∙ ap (zip2 scalar_in (Bool_kind ∷ kinds))
      (sym (drop_more whole j (pos 0) (omega (arith, long))))
  row_shown (Int_kind ∷ kinds) j p w long bits ints =
      let here : w ≡ w + 0 = omega arith in
      let next : suc j ≡ j + 1 = omega arith in
      let rest = row_shown kinds (suc j) p (suc w) (omega (arith, long)) bits
      (λ c l.
      let e : suc w + c ≡ w + suc c = omega arith in
      ap s.ints e ∙ ints (suc c) (omega (arith, l))) in
      ap₂ (λ (x : ℤ) (l : List Scalar). Integer x ∷ l) (ap s.ints here ∙ ints 0 (omega arith))
      (rest ∙ ap (λ n. zip2 scalar_in kinds (drop n whole)) next)
      ∙ ap (zip2 scalar_in (Int_kind ∷ kinds))
      (sym (drop_more whole j (pos 0) (omega (arith, long))))

module _ (s : Lane) where
  -- the lane shows 0 and false
  pub row_zero :
      (kinds : List Kind) (j p w : ℕ) →
      ((b : ℕ) → b < length (truth_columns j kinds) → s.bits (p + b) ≡ false) →
      ((c : ℕ) → c < length (number_columns j kinds) → s.ints (w + c) ≡ pos 0) →
      map (value_at s) (places_of p w kinds) ≡ map zero_of kinds
  row_zero [] j p w bits ints = refl
  row_zero (Bool_kind ∷ kinds) j p w bits ints =
      let here : p ≡ p + 0 = omega arith in
      let rest = row_zero kinds (suc j) (suc p) w
      (λ b l.
      let e : suc p + b ≡ p + suc b = omega arith in
      ap s.bits e ∙ bits (suc b) (omega (arith, l)))
      ints in
      ap₂ (λ (x : Bool) (l : List Scalar). Boolean x ∷ l) (ap s.bits here ∙ bits 0 (omega arith))
      rest
  row_zero (Int_kind ∷ kinds) j p w bits ints =
      let here : w ≡ w + 0 = omega arith in
      let rest = row_zero kinds (suc j) p (suc w) bits
      (λ c l.
      let e : suc w + c ≡ w + suc c = omega arith in
      ap s.ints e ∙ ints (suc c) (omega (arith, l))) in
      ap₂ (λ (x : ℤ) (l : List Scalar). Integer x ∷ l) (ap s.ints here ∙ ints 0 (omega arith)) rest

module _ (s s' : Lane) where
  -- the lane shows what another lane shows at other places
  pub row_moved :
      (kinds : List Kind) (j p w p' w' : ℕ) →
      ((b : ℕ) → b < length (truth_columns j kinds) → s'.bits (p' + b) ≡ s.bits (p + b)) →
      ((c : ℕ) → c < length (number_columns j kinds) → s'.ints (w' + c) ≡ s.ints (w + c)) →
      map (value_at s') (places_of p' w' kinds) ≡ map (value_at s) (places_of p w kinds)
  row_moved [] j p w p' w' bits ints = refl
  row_moved (Bool_kind ∷ kinds) j p w p' w' bits ints =
      let here : p + 0 ≡ p = omega arith in
      let there : p' ≡ p' + 0 = omega arith in
      let rest = row_moved kinds (suc j) (suc p) w (suc p') w'
      (λ b l.
      let e : suc p' + b ≡ p' + suc b = omega arith in
      let d : p + suc b ≡ suc p + b = omega arith in
      ap s'.bits e ∙ bits (suc b) (omega (arith, l)) ∙ ap s.bits d)
      ints in
      ap₂ (λ (x : Bool) (l : List Scalar). Boolean x ∷ l)
      (ap s'.bits there ∙ bits 0 (omega arith) ∙ ap s.bits here) rest
  row_moved (Int_kind ∷ kinds) j p w p' w' bits ints =
      let here : w + 0 ≡ w = omega arith in
      let there : w' ≡ w' + 0 = omega arith in
      let rest = row_moved kinds (suc j) p (suc w) p' (suc w') bits
      (λ c l.
      let e : suc w' + c ≡ w' + suc c = omega arith in
      let d : w + suc c ≡ suc w + c = omega arith in
      ap s'.ints e ∙ ints (suc c) (omega (arith, l)) ∙ ap s.ints d) in
      ap₂ (λ (x : ℤ) (l : List Scalar). Integer x ∷ l)
      (ap s'.ints there ∙ ints 0 (omega arith) ∙ ap s.ints here) rest
