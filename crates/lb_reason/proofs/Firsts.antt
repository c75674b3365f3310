-- The first of some elements that passes a test in a row.
use Rattle.std.proofs.Common.{◌≡◌, ◌∙◌, ◌<◌, ◌≤◌, ℕ, suc, ◌+◌, ◌-◌, List, [], ◌∷◌, ◌++◌}
use Rattle.std.proofs.Common.{◌||◌, Bool, true, false, Option, Some, None, add-one, ap, arith, drop}
use Rattle.std.proofs.Common.{get_or, length, refl, sym, is_some}
use Rattle.std.specs.Prelude.{if◌then◌else◌}
use Rattle.std.specs.List.{list_any, range_with_len}
use Rattle.std.proofs.Math.ListN.{drop_of_length-le}
use Rattle.std.proofs.Math.Seq.{drop-cons}
use Rattle.std.proofs.lemmas.List.Folds.{find-append}
use Rattle.std.specs.Option.{option_map, option_or}
use Rattle.lb_check.specs.Scalars.{Cell}
use Rattle.lb_flat.specs.Programs.{numbers_of}
use Rattle.lb_flat.specs.Run.{Row, cell}
use Rattle.lb_flat.specs.declared.equation.ElementId.{ElementId}
use Rattle.lb_reason.specs.Deciding.{first_of}
use Rattle.lb_reason.specs.Tests.{number}

module _ (test : Cell → Bool) (row : Row) where
  -- ## A list of elements

  module _ (elements : List ElementId) (i : ℕ) where
    first_here :
        (d a : ElementId) → i < length elements → a ≡ get_or elements i d →
        first_of test row (numbers_of (drop i elements))
        ≡ (if test (cell row a.0) then Some a.0
        else first_of test row (numbers_of (drop (i + 1) elements)))
    first_here d a lt is =
        let here : drop i elements ≡ a ∷ drop (i + 1) elements =
        rw (is, add-one, drop-cons elements i d) in
        ap (λ es. first_of test row (numbers_of es)) here

    -- `first_of` skips an element that does not pass
    pub other_first :
        (d a : ElementId) → i < length elements → a ≡ get_or elements i d →
        test (cell row a.0) ≡ false →
        first_of test row (numbers_of (drop (i + 1) elements))
        ≡ first_of test row (numbers_of (drop i elements))
    other_first d a lt is fails =
        sym
        (first_here d a lt is
        ∙ ap (λ b. if b then Some a.0
        else first_of test row (numbers_of (drop (i + 1) elements))) fails)

    -- `first_of` finds an element that passes
    pub one_first :
        (d a : ElementId) → i < length elements → a ≡ get_or elements i d →
        test (cell row a.0) ≡ true →
        Some a.0 ≡ first_of test row (numbers_of (drop i elements))
    one_first d a lt is passes =
        sym
        (first_here d a lt is
        ∙ ap (λ b. if b then Some a.0
        else first_of test row (numbers_of (drop (i + 1) elements))) passes)

    pub no_first :
        length elements ≤ i → None ≡ first_of test row (numbers_of (drop i elements))
    no_first le =
        sym (ap (λ es. first_of test row (numbers_of es)) (drop_of_length-le elements le))

  -- ## A range

  numbers_from :
      (i n : ℕ) → i < n → range_with_len i (n - i) ≡ i ∷ range_with_len (i + 1) (n - (i + 1))
  numbers_from i n lt =
      let left : n - i ≡ suc (n - (i + 1)) = omega (arith, lt) in
      ap (range_with_len i) left

  pub other_number :
      (i n : ℕ) → i < n → test (cell row i) ≡ false →
      first_of test row (range_with_len (i + 1) (n - (i + 1)))
      ≡ first_of test row (range_with_len i (n - i))
  other_number i n lt fails =
      sym
      (ap (first_of test row) (numbers_from i n lt)
      ∙ ap (λ b. if b then Some i
      else first_of test row (range_with_len (i + 1) (n - (i + 1)))) fails)

  pub one_number :
      (i n : ℕ) → i < n → test (cell row i) ≡ true →
      Some i ≡ first_of test row (range_with_len i (n - i))
  one_number i n lt passes =
      sym
      (ap (first_of test row) (numbers_from i n lt)
      ∙ ap (λ b. if b then Some i
      else first_of test row (range_with_len (i + 1) (n - (i + 1)))) passes)

  pub no_number : (i n : ℕ) → n ≤ i → None ≡ first_of test row (range_with_len i (n - i))
  no_number i n le =
      let none : n - i ≡ 0 = omega (arith, le) in
      sym (ap (λ k. first_of test row (range_with_len i k)) none)

  -- ## One list behind another

  pub in_front :
      (xs ys : List ℕ) (e : ℕ) → Some e ≡ first_of test row xs →
      Some e ≡ first_of test row (xs ++ ys)
  in_front xs ys e is =
      sym
      (find-append (λ i. test (cell row i)) xs ys
      ∙ ap (λ o. option_or o (first_of test row ys)) (sym is))

  pub behind :
      (xs ys : List ℕ) (o : Option ℕ) → None ≡ first_of test row xs →
      o ≡ first_of test row ys → o ≡ first_of test row (xs ++ ys)
  behind xs ys o none is =
      is
      ∙ sym
      (find-append (λ i. test (cell row i)) xs ys
      ∙ ap (λ p. option_or p (first_of test row ys)) (sym none))

  -- `in_front` for elements of the code
  pub found_in_front :
      (xs ys : List ℕ) (o : Option ElementId) → is_some o ≡ true →
      option_map number o ≡ first_of test row xs →
      option_map number o ≡ first_of test row (xs ++ ys)
  found_in_front xs ys None has is = absurd (cc)
  found_in_front xs ys (Some e) has is = in_front xs ys e.0 is

  pub none_in_front :
      (xs ys : List ℕ) (o : Option ElementId) (p : Option ℕ) → is_some o ≡ false →
      option_map number o ≡ first_of test row xs → p ≡ first_of test row ys →
      p ≡ first_of test row (xs ++ ys)
  none_in_front xs ys None p none is more = behind xs ys p is more
  none_in_front xs ys (Some e) p none is more = absurd (cc)

  -- some element passes where there is a first one
  pub some_first :
      (es : List ℕ) → list_any (λ i. test (cell row i)) es ≡ is_some (first_of test row es)
  some_first [] = refl
  some_first (e ∷ es) = more (test (cell row e)) (some_first es)
    where
      more :
          (b : Bool) →
          list_any (λ i. test (cell row i)) es ≡ is_some (first_of test row es) →
          (b || list_any (λ i. test (cell row i)) es)
          ≡ is_some (if b then Some e else first_of test row es)
      more true rest = refl
      more false rest = rest
