-- The columns of a signature by their kinds: after one more column, and the place of each column.
use Rattle.std.proofs.Common.{◌≡◌, ℕ, zero, suc, ◌+◌, ◌<◌, ◌≤◌, Bool, true, false, List, [], ◌∷◌}
use Rattle.std.proofs.Common.{◌++◌, get_or, length, take, refl, sym, ap, ap₂, ◌∙◌, arith}
use Rattle.std.proofs.lemmas.Bool.{true≢false}
use Rattle.std.proofs.lemmas.List.{take_more, length-take-le, append-nil}
use Rattle.std.specs.List.{All}
use Rattle.lb_syntax.specs.declared.tree.Kind.{Kind}
use Rattle.lb_syntax.specs.declared.tree.Kind.TheVariants.{Int as Int_kind, Bool as Bool_kind}
use Rattle.lb_syntax.specs.Lists.{zip2}
use Rattle.lb_traces.specs.Packed.{truth_columns, number_columns, places_from, AreColumns}

-- ## One more column

pub truths_push :
    (j : ℕ) (kinds : List Kind) (k : Kind) →
    truth_columns j (kinds ++ k ∷ [])
    ≡ truth_columns j kinds ++ truth_columns (j + length kinds) (k ∷ [])
truths_push j [] k =
    let e : j ≡ j + 0 = omega arith in
    ap (λ a. truth_columns a (k ∷ [])) e
truths_push j (Bool_kind ∷ kinds) k =
    let e : suc j + length kinds ≡ j + suc (length kinds) = omega arith in
    ap (λ l. j ∷ l)
    (truths_push (suc j) kinds k
    ∙ ap (λ a. truth_columns (suc j) kinds ++ truth_columns a (k ∷ [])) e)
truths_push j (Int_kind ∷ kinds) k =
    let e : suc j + length kinds ≡ j + suc (length kinds) = omega arith in
    truths_push (suc j) kinds k
    ∙ ap (λ a. truth_columns (suc j) kinds ++ truth_columns a (k ∷ [])) e

pub numbers_push :
    (j : ℕ) (kinds : List Kind) (k : Kind) →
    number_columns j (kinds ++ k ∷ [])
    ≡ number_columns j kinds ++ number_columns (j + length kinds) (k ∷ [])
numbers_push j [] k =
    let e : j ≡ j + 0 = omega arith in
    ap (λ a. number_columns a (k ∷ [])) e
numbers_push j (Bool_kind ∷ kinds) k =
    let e : suc j + length kinds ≡ j + suc (length kinds) = omega arith in
    numbers_push (suc j) kinds k
    ∙ ap (λ a. number_columns (suc j) kinds ++ number_columns a (k ∷ [])) e
numbers_push j (Int_kind ∷ kinds) k =
    let e : suc j + length kinds ≡ j + suc (length kinds) = omega arith in
    ap (λ l. j ∷ l)
    (numbers_push (suc j) kinds k
    ∙ ap (λ a. number_columns (suc j) kinds ++ number_columns a (k ∷ [])) e)

places_push :
    (j u v : ℕ) (kinds : List Kind) (k : Kind) →
    places_from u v (kinds ++ k ∷ [])
    ≡ places_from u v kinds
    ++ places_from (u + length (number_columns j kinds)) (v + length (truth_columns j kinds))
    (k ∷ [])
places_push j u v [] k =
    let at_u : u ≡ u + 0 = omega arith in
    let at_v : v ≡ v + 0 = omega arith in
    ap₂ (λ a b. places_from a b (k ∷ [])) at_u at_v
places_push j u v (Bool_kind ∷ kinds) k =
    let n = length (truth_columns (suc j) kinds) in
    let m = length (number_columns (suc j) kinds) in
    let e : suc v + n ≡ v + suc n = omega arith in
    ap (λ l. v ∷ l)
    (places_push (suc j) u (suc v) kinds k
    ∙ ap (λ a. places_from u (suc v) kinds ++ places_from (u + m) a (k ∷ [])) e)
places_push j u v (Int_kind ∷ kinds) k =
    let n = length (truth_columns (suc j) kinds) in
    let m = length (number_columns (suc j) kinds) in
    let e : suc u + m ≡ u + suc m = omega arith in
    ap (λ l. u ∷ l)
    (places_push (suc j) (suc u) v kinds k
    ∙ ap (λ a. places_from (suc u) v kinds ++ places_from a (v + n) (k ∷ [])) e)

-- there are no more columns of a kind than columns
pub few_truths : (j : ℕ) (kinds : List Kind) → length (truth_columns j kinds) ≤ length kinds
few_truths j [] = omega arith
few_truths j (Bool_kind ∷ kinds) = omega (arith, few_truths (suc j) kinds)
few_truths j (Int_kind ∷ kinds) = omega (arith, few_truths (suc j) kinds)

pub few_numbers : (j : ℕ) (kinds : List Kind) → length (number_columns j kinds) ≤ length kinds
few_numbers j [] = omega arith
few_numbers j (Bool_kind ∷ kinds) = omega (arith, few_numbers (suc j) kinds)
few_numbers j (Int_kind ∷ kinds) = omega (arith, few_numbers (suc j) kinds)

module _ (kinds : List Kind) (j : ℕ) (integers truths places : List ℕ)
    (h : AreColumns (take j kinds) integers truths places) (lt : j < length kinds) where
  long : length (take j kinds) ≡ j
  long = length-take-le j kinds (omega arith)

  at_end : 0 + length (take j kinds) ≡ j
  at_end = omega (arith, long)

  one_more : (k : Kind) → get_or kinds j k ≡ k → take (j + 1) kinds ≡ take j kinds ++ k ∷ []
  one_more k is = take_more kinds j k lt ∙ ap (λ x. take j kinds ++ x ∷ []) is

  -- there are no more Booleans, and no more integers, than columns so far
  pub truths_few : length truths ≤ j
  truths_few =
      let count : length truths ≡ length (truth_columns 0 (take j kinds)) =
      ap length h.truths_are in
      omega (arith, count, few_truths 0 (take j kinds), long)

  pub integers_few : length integers ≤ j
  integers_few =
      let count : length integers ≡ length (number_columns 0 (take j kinds)) =
      ap length h.integers_are in
      omega (arith, count, few_numbers 0 (take j kinds), long)

  -- the columns of a signature after one more Boolean
  pub columns_truth :
      (n : ℕ) → get_or kinds j Bool_kind ≡ Bool_kind → n ≡ length truths →
      AreColumns (take (j + 1) kinds) integers (truths ++ j ∷ []) (places ++ n ∷ [])
  columns_truth n is e =
      let front = take j kinds in
      let more = sym (one_more Bool_kind is) in
      let count : n ≡ length (truth_columns 0 front) = e ∙ ap length h.truths_are in
      let there : n ≡ 0 + length (truth_columns 0 front) = omega (arith, count) in
      record {
        integers_are =
            h.integers_are
            ∙ sym (append-nil (number_columns 0 front))
            ∙ sym (numbers_push 0 front Bool_kind)
            ∙ ap (number_columns 0) more;
        truths_are =
            ap (λ l. l ++ j ∷ []) h.truths_are
            ∙ ap (λ a. truth_columns 0 front ++ a ∷ []) (sym at_end)
            ∙ sym (truths_push 0 front Bool_kind)
            ∙ ap (truth_columns 0) more;
        places_are =
            ap (λ l. l ++ n ∷ []) h.places_are
            ∙ ap (λ a. places_from 0 0 front ++ a ∷ []) there
            ∙ sym (places_push 0 0 0 front Bool_kind)
            ∙ ap (places_from 0 0) more;
      }

  -- the columns of a signature after one more integer
  pub columns_integer :
      (n : ℕ) → get_or kinds j Int_kind ≡ Int_kind → n ≡ length integers →
      AreColumns (take (j + 1) kinds) (integers ++ j ∷ []) truths (places ++ n ∷ [])
  columns_integer n is e =
      let front = take j kinds in
      let more = sym (one_more Int_kind is) in
      let count : n ≡ length (number_columns 0 front) = e ∙ ap length h.integers_are in
      let there : n ≡ 0 + length (number_columns 0 front) = omega (arith, count) in
      record {
        integers_are =
            ap (λ l. l ++ j ∷ []) h.integers_are
            ∙ ap (λ a. number_columns 0 front ++ a ∷ []) (sym at_end)
            ∙ sym (numbers_push 0 front Int_kind)
            ∙ ap (number_columns 0) more;
        truths_are =
            h.truths_are
            ∙ sym (append-nil (truth_columns 0 front))
            ∙ sym (truths_push 0 front Int_kind)
            ∙ ap (truth_columns 0) more;
        places_are =
            ap (λ l. l ++ n ∷ []) h.places_are
            ∙ ap (λ a. places_from 0 0 front ++ a ∷ []) there
            ∙ sym (places_push 0 0 0 front Int_kind)
            ∙ ap (places_from 0 0) more;
      }

-- ## The place of a column

pub length-places : (u v : ℕ) (kinds : List Kind) → length (places_from u v kinds) ≡ length kinds
length-places u v [] = refl
length-places u v (Int_kind ∷ kinds) = ap suc (length-places (suc u) v kinds)
length-places u v (Bool_kind ∷ kinds) = ap suc (length-places u (suc v) kinds)

abbrev is_integer : Kind → Bool
is_integer Int_kind = true
is_integer Bool_kind = false

-- the column of integer number `w`, and below, of Boolean number `w`
pub record IntColumn (j u v : ℕ) (kinds : List Kind) (w : ℕ) : Type 0 where
  pub column : ℕ
  pub is : get_or (number_columns j kinds) w 0 ≡ j + column
  pub below : column < length kinds
  pub kind : get_or kinds column Int_kind ≡ Int_kind
  pub place : get_or (places_from u v kinds) column 0 ≡ u + w

pub int_column :
    (j u v : ℕ) (kinds : List Kind) (w : ℕ) → w < length (number_columns j kinds) →
    IntColumn j u v kinds w
int_column j u v [] w l = absurd (omega (arith, l))
int_column j u v (Int_kind ∷ kinds) zero l = record {
  column = 0;
  is = let e : j ≡ j + 0 = omega arith in e;
  below = omega arith;
  kind = refl;
  place = let e : u ≡ u + 0 = omega arith in e;
}
int_column j u v (Int_kind ∷ kinds) (suc w) l =
    let h = int_column (suc j) (suc u) v kinds w (omega (arith, l)) in
    let e : suc j + h.column ≡ j + suc h.column = omega arith in
    let f : suc u + w ≡ u + suc w = omega arith in
    record {
      column = suc h.column;
      is = h.is ∙ e;
      below = omega (arith, h.below);
      kind = h.kind;
      place = h.place ∙ f;
    }
int_column j u v (Bool_kind ∷ kinds) w l =
    let h = int_column (suc j) u (suc v) kinds w l in
    let e : suc j + h.column ≡ j + suc h.column = omega arith in
    record {
      column = suc h.column;
      is = h.is ∙ e;
      below = omega (arith, h.below);
      kind = h.kind;
      place = h.place;
    }

pub record BoolColumn (j u v : ℕ) (kinds : List Kind) (b : ℕ) : Type 0 where
  pub column : ℕ
  pub is : get_or (truth_columns j kinds) b 0 ≡ j + column
  pub below : column < length kinds
  pub kind : get_or kinds column Int_kind ≡ Bool_kind
  pub place : get_or (places_from u v kinds) column 0 ≡ v + b

pub bool_column :
    (j u v : ℕ) (kinds : List Kind) (b : ℕ) → b < length (truth_columns j kinds) →
    BoolColumn j u v kinds b
bool_column j u v [] b l = absurd (omega (arith, l))
bool_column j u v (Bool_kind ∷ kinds) zero l = record {
  column = 0;
  is = let e : j ≡ j + 0 = omega arith in e;
  below = omega arith;
  kind = refl;
  place = let e : v ≡ v + 0 = omega arith in e;
}
bool_column j u v (Bool_kind ∷ kinds) (suc b) l =
    let h = bool_column (suc j) u (suc v) kinds b (omega (arith, l)) in
    let e : suc j + h.column ≡ j + suc h.column = omega arith in
    let f : suc v + b ≡ v + suc b = omega arith in
    record {
      column = suc h.column;
      is = h.is ∙ e;
      below = omega (arith, h.below);
      kind = h.kind;
      place = h.place ∙ f;
    }
bool_column j u v (Int_kind ∷ kinds) b l =
    let h = bool_column (suc j) (suc u) v kinds b l in
    let e : suc j + h.column ≡ j + suc h.column = omega arith in
    record {
      column = suc h.column;
      is = h.is ∙ e;
      below = omega (arith, h.below);
      kind = h.kind;
      place = h.place;
    }

-- the number of a column among those of its kind
pub record IntPlace (j u v : ℕ) (kinds : List Kind) (c : ℕ) : Type 0 where
  pub number : ℕ
  pub place : get_or (places_from u v kinds) c 0 ≡ u + number
  pub below : number < length (number_columns j kinds)
  pub is : get_or (number_columns j kinds) number 0 ≡ j + c

pub int_place :
    (j u v : ℕ) (kinds : List Kind) (c : ℕ) → c < length kinds →
    get_or kinds c Int_kind ≡ Int_kind → IntPlace j u v kinds c
int_place j u v [] c l k = absurd (omega (arith, l))
int_place j u v (Int_kind ∷ kinds) zero l k = record {
  number = 0;
  place = let e : u ≡ u + 0 = omega arith in e;
  below = omega arith;
  is = let e : j ≡ j + 0 = omega arith in e;
}
int_place j u v (Bool_kind ∷ kinds) zero l k = absurd (true≢false (sym (ap is_integer k)))
int_place j u v (Int_kind ∷ kinds) (suc c) l k =
    let h = int_place (suc j) (suc u) v kinds c (omega (arith, l)) k in
    let e : suc j + c ≡ j + suc c = omega arith in
    let f : suc u + h.number ≡ u + suc h.number = omega arith in
    record {
      number = suc h.number;
      place = h.place ∙ f;
      below = omega (arith, h.below);
      is = h.is ∙ e;
    }
int_place j u v (Bool_kind ∷ kinds) (suc c) l k =
    let h = int_place (suc j) u (suc v) kinds c (omega (arith, l)) k in
    let e : suc j + c ≡ j + suc c = omega arith in
    record { number = h.number; place = h.place; below = h.below; is = h.is ∙ e }

pub record BoolPlace (j u v : ℕ) (kinds : List Kind) (c : ℕ) : Type 0 where
  pub number : ℕ
  pub place : get_or (places_from u v kinds) c 0 ≡ v + number
  pub below : number < length (truth_columns j kinds)
  pub is : get_or (truth_columns j kinds) number 0 ≡ j + c

pub bool_place :
    (j u v : ℕ) (kinds : List Kind) (c : ℕ) → c < length kinds →
    get_or kinds c Int_kind ≡ Bool_kind → BoolPlace j u v kinds c
bool_place j u v [] c l k = absurd (omega (arith, l))
bool_place j u v (Bool_kind ∷ kinds) zero l k = record {
  number = 0;
  place = let e : v ≡ v + 0 = omega arith in e;
  below = omega arith;
  is = let e : j ≡ j + 0 = omega arith in e;
}
bool_place j u v (Int_kind ∷ kinds) zero l k = absurd (true≢false (ap is_integer k))
bool_place j u v (Bool_kind ∷ kinds) (suc c) l k =
    let h = bool_place (suc j) u (suc v) kinds c (omega (arith, l)) k in
    let e : suc j + c ≡ j + suc c = omega arith in
    let f : suc v + h.number ≡ v + suc h.number = omega arith in
    record {
      number = suc h.number;
      place = h.place ∙ f;
      below = omega (arith, h.below);
      is = h.is ∙ e;
    }
bool_place j u v (Int_kind ∷ kinds) (suc c) l k =
    let h = bool_place (suc j) (suc u) v kinds c (omega (arith, l)) k in
    let e : suc j + c ≡ j + suc c = omega arith in
    record { number = h.number; place = h.place; below = h.below; is = h.is ∙ e }

-- the columns of Booleans, and of integers, are below the number of columns
pub truths_within : (kinds : List Kind) → All (λ j. j < length kinds) (truth_columns 0 kinds)
truths_within kinds b d l = omega (arith, within 0 kinds b l)
  where
    within : (j : ℕ) (ks : List Kind) (k : ℕ) → k < length (truth_columns j ks) →
        get_or (truth_columns j ks) k d < j + length ks
    within j [] k h = absurd (omega (arith, h))
    within j (Bool_kind ∷ ks) zero h = omega arith
    within j (Bool_kind ∷ ks) (suc k) h = omega (arith, within (suc j) ks k (omega (arith, h)))
    within j (Int_kind ∷ ks) k h = omega (arith, within (suc j) ks k h)

pub numbers_within : (kinds : List Kind) → All (λ j. j < length kinds) (number_columns 0 kinds)
numbers_within kinds w d l = omega (arith, within 0 kinds w l)
  where
    within : (j : ℕ) (ks : List Kind) (k : ℕ) → k < length (number_columns j ks) →
        get_or (number_columns j ks) k d < j + length ks
    within j [] k h = absurd (omega (arith, h))
    within j (Int_kind ∷ ks) zero h = omega arith
    within j (Int_kind ∷ ks) (suc k) h = omega (arith, within (suc j) ks k (omega (arith, h)))
    within j (Bool_kind ∷ ks) k h = omega (arith, within (suc j) ks k h)

-- two functions that agree on the numbers of each kind make the same row
pub rows_agree :
    {A : Type 0} (j u v : ℕ) (kinds : List Kind) (f g : Kind → ℕ → A) →
    ((p : ℕ) → p < u + length (number_columns j kinds) → f Int_kind p ≡ g Int_kind p) →
    ((p : ℕ) → p < v + length (truth_columns j kinds) → f Bool_kind p ≡ g Bool_kind p) →
    zip2 f kinds (places_from u v kinds) ≡ zip2 g kinds (places_from u v kinds)
rows_agree j u v [] f g ints bools = refl
rows_agree j u v (Int_kind ∷ kinds) f g ints bools =
    ap₂ (λ x l. x ∷ l) (ints u (omega arith))
    (rows_agree (suc j) (suc u) v kinds f g (λ p l. ints p (omega (arith, l))) bools)
rows_agree j u v (Bool_kind ∷ kinds) f g ints bools =
    ap₂ (λ x l. x ∷ l) (bools v (omega arith))
    (rows_agree (suc j) u (suc v) kinds f g ints (λ p l. bools p (omega (arith, l))))
