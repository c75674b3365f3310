-- Names in a table: put one after the other, and looked up.
use Rattle.std.proofs.Common.{◌≡◌, ◌≢◌, ℕ, ◌+◌, ◌-◌, ◌<◌, ◌≤◌, Bool, true, false, cond, List, []}
use Rattle.std.proofs.Common.{length, get_or, set, length-set, refl, sym, ap, ◌∙◌, arith}
use Rattle.std.proofs.Common.{◌⊎◌, inl, inr, subst, ◌∷◌, ◌++◌, ◌||◌}
use Rattle.std.proofs.lemmas.Bool.{true≢false, cases_eq, false_from_ne_true}
use Rattle.std.proofs.lemmas.List.{get_or_append_left, get_or_default, get_or-set_same}
use Rattle.std.proofs.lemmas.List.{get_or-set_other}
use Rattle.std.proofs.lemmas.List.Folds.{list_any-append, list_any_at, list_any_none}
use Rattle.std.proofs.lemmas.Slice.Eq.{bytes_eq-Decides}
use Rattle.std.specs.List.{list_any}
use Rattle.std.specs.Str.{bytes_eq}
use Rattle.lb_trace.specs.NamePlaces.{at_first, at_second, first_among, second_among, HavePlaces}

same_name : (a b : List ℕ) → a ≡ b → bytes_eq a b ≡ true
same_name a b is = (bytes_eq-Decides a b).1 is

module _ (places : List ℕ) (has : List ℕ → Bool) (names : List (List ℕ)) (n : ℕ)
    (h : HavePlaces places has names n) where
  -- one more name gets a place that is free
  module _ (p : ℕ) (inside : p < length places) (free : get_or places p 0 ≡ 0) where
    abbrev after : List ℕ
    after = set places p (n + 1)

    here : get_or after p 0 ≡ n + 1
    here = get_or-set_same places p (n + 1) 0 inside

    other : (i : ℕ) → i ≢ p → get_or after i 0 ≡ get_or places i 0
    other i ne = get_or-set_other places p i (n + 1) 0 ne

    -- a place that is taken stays as it is
    stays : (i : ℕ) → get_or places i 0 ≢ 0 → get_or after i 0 ≡ get_or places i 0
    stays i some = other i (λ same. some (ap (λ j. get_or places j 0) same ∙ free))

    first_now : (name : List ℕ) →
        at_first after name ≡ get_or after (first_among (length places) name) 0
    first_now name =
        ap (λ m. get_or after (first_among m name) 0) (length-set places p (n + 1))

    second_now : (name : List ℕ) →
        at_second after name ≡ get_or after (second_among (length places) name) 0
    second_now name =
        ap (λ m. get_or after (second_among m name) 0) (length-set places p (n + 1))

    first_stays : (name : List ℕ) → at_first places name ≢ 0 →
        at_first after name ≡ at_first places name
    first_stays name some =
        first_now name ∙ stays (first_among (length places) name) some

    second_stays : (name : List ℕ) → at_second places name ≢ 0 →
        at_second after name ≡ at_second places name
    second_stays name some =
        second_now name ∙ stays (second_among (length places) name) some

    within_now : (i : ℕ) → (i ≡ p) ⊎ (i ≢ p) → get_or after i 0 ≤ n + 1
    within_now i (inl same) =
        let now = here in
        let e = ap (λ j. get_or after j 0) same in
        omega (arith, now, e)
    within_now i (inr ne) =
        let e = other i ne in
        let le = h.within i in
        omega (arith, e, le)

    -- the first places of the names before it stay taken
    first_had : (k : ℕ) → k < n → at_first after (get_or names k []) ≢ 0
    first_had k l none =
        h.first k l (sym (first_stays (get_or names k []) (h.first k l)) ∙ none)

    second_had : (k : ℕ) → k < n →
        (at_first places (get_or names k []) ≡ k + 1)
        ⊎ (at_second places (get_or names k []) ≢ 0) →
        (at_first after (get_or names k []) ≡ k + 1)
        ⊎ (at_second after (get_or names k []) ≢ 0)
    second_had k l (inl at) = inl (first_stays (get_or names k []) (h.first k l) ∙ at)
    second_had k l (inr some) =
        inr (λ none. some (sym (second_stays (get_or names k []) some) ∙ none))

    found_had : (k : ℕ) → k < n →
        (at_first places (get_or names k []) ≡ k + 1)
        ⊎ ((at_second places (get_or names k []) ≡ k + 1) ⊎ (has (get_or names k []) ≡ true)) →
        (at_first after (get_or names k []) ≡ k + 1)
        ⊎ ((at_second after (get_or names k []) ≡ k + 1) ⊎ (has (get_or names k []) ≡ true))
    found_had k l (inl at) = inl (first_stays (get_or names k []) (h.first k l) ∙ at)
    found_had k l (inr (inl at)) =
        inr
        (inl
        (second_stays (get_or names k []) (λ none. absurd (omega (arith, at, none))) ∙ at))
    found_had k l (inr (inr there)) = inr (inr there)

    -- the place is the first one of the name
    module _ (place_is : p ≡ first_among (length places) (get_or names n [])) where
      first_this : (k : ℕ) → k ≡ n → at_first after (get_or names k []) ≡ k + 1
      first_this k same =
          ap (λ j. at_first after (get_or names j [])) same
          ∙ first_now (get_or names n [])
          ∙ ap (λ i. get_or after i 0) (sym place_is)
          ∙ here
          ∙ ap (λ j. j + 1) (sym same)

      pub put_first : HavePlaces after has names (n + 1)
      put_first = record {
        within = λ i. within_now i (cases_eq i p);
        first = λ k l. first k l (cases_eq k n);
        second = λ k l. second k l (cases_eq k n);
        found = λ k l. found k l (cases_eq k n);
        others = h.others;
      }
        where
          first : (k : ℕ) → k < n + 1 → (k ≡ n) ⊎ (k ≢ n) →
              at_first after (get_or names k []) ≢ 0
          first k l (inl same) none =
              let now = first_this k same in absurd (omega (arith, none, now))
          first k l (inr ne) none = first_had k (omega (arith, l, ne)) none

          second : (k : ℕ) → k < n + 1 → (k ≡ n) ⊎ (k ≢ n) →
              (at_first after (get_or names k []) ≡ k + 1)
              ⊎ (at_second after (get_or names k []) ≢ 0)
          second k l (inl same) = inl (first_this k same)
          second k l (inr ne) =
              second_had k (omega (arith, l, ne)) (h.second k (omega (arith, l, ne)))

          found : (k : ℕ) → k < n + 1 → (k ≡ n) ⊎ (k ≢ n) →
              (at_first after (get_or names k []) ≡ k + 1)
              ⊎ ((at_second after (get_or names k []) ≡ k + 1)
              ⊎ (has (get_or names k []) ≡ true))
          found k l (inl same) = inl (first_this k same)
          found k l (inr ne) =
              found_had k (omega (arith, l, ne)) (h.found k (omega (arith, l, ne)))

    -- the place is the second one of the name, whose first one is taken
    module _ (place_is : p ≡ second_among (length places) (get_or names n []))
        (taken : at_first places (get_or names n []) ≢ 0) where
      first_taken : (k : ℕ) → k ≡ n → at_first after (get_or names k []) ≢ 0
      first_taken k same none =
          taken
          (sym (first_stays (get_or names n []) taken)
          ∙ ap (λ j. at_first after (get_or names j [])) (sym same)
          ∙ none)

      second_this : (k : ℕ) → k ≡ n → at_second after (get_or names k []) ≡ k + 1
      second_this k same =
          ap (λ j. at_second after (get_or names j [])) same
          ∙ second_now (get_or names n [])
          ∙ ap (λ i. get_or after i 0) (sym place_is)
          ∙ here
          ∙ ap (λ j. j + 1) (sym same)

      pub put_second : HavePlaces after has names (n + 1)
      put_second = record {
        within = λ i. within_now i (cases_eq i p);
        first = λ k l. first k l (cases_eq k n);
        second = λ k l. second k l (cases_eq k n);
        found = λ k l. found k l (cases_eq k n);
        others = h.others;
      }
        where
          first : (k : ℕ) → k < n + 1 → (k ≡ n) ⊎ (k ≢ n) →
              at_first after (get_or names k []) ≢ 0
          first k l (inl same) = first_taken k same
          first k l (inr ne) = first_had k (omega (arith, l, ne))

          second : (k : ℕ) → k < n + 1 → (k ≡ n) ⊎ (k ≢ n) →
              (at_first after (get_or names k []) ≡ k + 1)
              ⊎ (at_second after (get_or names k []) ≢ 0)
          second k l (inl same) =
              inr (λ none. let now = second_this k same in absurd (omega (arith, none, now)))
          second k l (inr ne) =
              second_had k (omega (arith, l, ne)) (h.second k (omega (arith, l, ne)))

          found : (k : ℕ) → k < n + 1 → (k ≡ n) ⊎ (k ≢ n) →
              (at_first after (get_or names k []) ≡ k + 1)
              ⊎ ((at_second after (get_or names k []) ≡ k + 1)
              ⊎ (has (get_or names k []) ≡ true))
          found k l (inl same) = inr (inl (second_this k same))
          found k l (inr ne) =
              found_had k (omega (arith, l, ne)) (h.found k (omega (arith, l, ne)))

  -- one more name is put among the others, where other names have both its places
  pub put_other :
      (has' : List ℕ → Bool) → n < length names → at_first places (get_or names n []) ≢ 0 →
      at_second places (get_or names n []) ≢ 0 →
      ((q : List ℕ) → has' q ≡ cond (bytes_eq (get_or names n []) q) true (has q)) →
      HavePlaces places has' names (n + 1)
  put_other has' inside taken taken' is = record {
    within = λ i. let le = h.within i in omega (arith, le);
    first = λ k l. first k l (cases_eq k n);
    second = λ k l. second k l (cases_eq k n);
    found = λ k l. found k l (cases_eq k n);
    others = λ q there. others q there (bytes_eq (get_or names n []) q) refl;
  }
    where
      kept : (b c : Bool) → c ≡ true → cond b true c ≡ true
      kept true c e = refl
      kept false c e = e

      first : (k : ℕ) → k < n + 1 → (k ≡ n) ⊎ (k ≢ n) →
          at_first places (get_or names k []) ≢ 0
      first k l (inl same) none =
          taken (ap (λ j. at_first places (get_or names j [])) (sym same) ∙ none)
      first k l (inr ne) none = h.first k (omega (arith, l, ne)) none

      second : (k : ℕ) → k < n + 1 → (k ≡ n) ⊎ (k ≢ n) →
          (at_first places (get_or names k []) ≡ k + 1)
          ⊎ (at_second places (get_or names k []) ≢ 0)
      second k l (inl same) =
          inr (λ none. taken' (ap (λ j. at_second places (get_or names j [])) (sym same) ∙ none))
      second k l (inr ne) = h.second k (omega (arith, l, ne))

      now : has' (get_or names n []) ≡ true
      now =
          is (get_or names n [])
          ∙ ap (λ b. cond b true (has (get_or names n [])))
          (same_name (get_or names n []) (get_or names n []) refl)

      found : (k : ℕ) → k < n + 1 → (k ≡ n) ⊎ (k ≢ n) →
          (at_first places (get_or names k []) ≡ k + 1)
          ⊎ ((at_second places (get_or names k []) ≡ k + 1)
          ⊎ (has' (get_or names k []) ≡ true))
      found k l (inl same) =
          inr (inr (ap (λ j. has' (get_or names j [])) same ∙ now))
      found k l (inr ne) = by (h.found k (omega (arith, l, ne)))
        where
          by :
              (at_first places (get_or names k []) ≡ k + 1)
              ⊎ ((at_second places (get_or names k []) ≡ k + 1)
              ⊎ (has (get_or names k []) ≡ true)) →
              (at_first places (get_or names k []) ≡ k + 1)
              ⊎ ((at_second places (get_or names k []) ≡ k + 1)
              ⊎ (has' (get_or names k []) ≡ true))
          by (inl at) = inl at
          by (inr (inl at)) = inr (inl at)
          by (inr (inr there)) =
              inr
              (inr
              (is (get_or names k [])
              ∙ kept (bytes_eq (get_or names n []) (get_or names k []))
              (has (get_or names k [])) there))

      others : (q : List ℕ) → has' q ≡ true → (b : Bool) →
          bytes_eq (get_or names n []) q ≡ b → list_any (bytes_eq q) names ≡ true
      others q there true e =
          list_any_at (bytes_eq q) names n [] inside
          (same_name q (get_or names n [])
          (sym ((bytes_eq-Decides (get_or names n []) q).0 e)))
      others q there false e =
          h.others q (sym (is q ∙ ap (λ b. cond b true (has q)) e) ∙ there)

  -- ## Names that are looked up

  module _ (all : n ≡ length names) (q : List ℕ) where
    none_by : ((k : ℕ) → k < length names → get_or names k [] ≡ q → ⊥) →
        list_any (bytes_eq q) names ≡ false
    none_by never =
        list_any_none (bytes_eq q) names
        (λ k d l.
        false_from_ne_true (bytes_eq q (get_or names k d))
        (λ same.
        never k l
        (get_or_default names k [] d l
        ∙ sym ((bytes_eq-Decides q (get_or names k d)).0 same))))

    below : (k : ℕ) → k < length names → k < n
    below k l = omega (arith, l, all)

    -- a name does not stand at a place where another name stands
    not_at :
        (place : ℕ) → bytes_eq (get_or names (place - 1) []) q ≡ false → (k : ℕ) →
        get_or names k [] ≡ q → place ≡ k + 1 → ⊥
    not_at place differs k same at =
        let less : place - 1 ≡ k = omega (arith, at) in
        true≢false
        (sym (same_name (get_or names (place - 1) []) q
        (ap (λ j. get_or names j []) less ∙ same))
        ∙ differs)

    -- a name that stands at a place is one of `names`
    pub look_same :
        (place : ℕ) → place ≢ 0 → place ≤ n → bytes_eq (get_or names (place - 1) []) q ≡ true →
        list_any (bytes_eq q) names ≡ true
    look_same place some within same =
        list_any_at (bytes_eq q) names (place - 1) [] (omega (arith, within, some, all))
        (same_name q (get_or names (place - 1) [])
        (sym ((bytes_eq-Decides (get_or names (place - 1) []) q).0 same)))

    -- a name whose first place is free is none of `names`
    pub look_none : at_first places q ≡ 0 → list_any (bytes_eq q) names ≡ false
    look_none none =
        none_by (λ k l same. h.first k (below k l) (ap (at_first places) same ∙ none))

    -- another name stands at its first place
    module _ (differs : bytes_eq (get_or names (at_first places q - 1) []) q ≡ false) where
      not_first : (k : ℕ) → get_or names k [] ≡ q →
          at_first places (get_or names k []) ≡ k + 1 → ⊥
      not_first k same at =
          not_at (at_first places q) differs k same (ap (at_first places) (sym same) ∙ at)

      -- its second place is free: it is none of `names`
      pub look_second : at_second places q ≡ 0 → list_any (bytes_eq q) names ≡ false
      look_second none = none_by (λ k l same. by k same (h.second k (below k l)))
        where
          by : (k : ℕ) → get_or names k [] ≡ q →
              (at_first places (get_or names k []) ≡ k + 1)
              ⊎ (at_second places (get_or names k []) ≢ 0) → ⊥
          by k same (inl at) = not_first k same at
          by k same (inr some) = some (ap (at_second places) same ∙ none)

      -- another name stands at its second place too: it is in `names` where `has` has it
      pub look_other :
          bytes_eq (get_or names (at_second places q - 1) []) q ≡ false →
          has q ≡ list_any (bytes_eq q) names
      look_other differs' = by (has q) refl
        where
          from : has q ≡ false → (k : ℕ) → get_or names k [] ≡ q →
              (at_first places (get_or names k []) ≡ k + 1)
              ⊎ ((at_second places (get_or names k []) ≡ k + 1)
              ⊎ (has (get_or names k []) ≡ true)) → ⊥
          from e k same (inl at) = not_first k same at
          from e k same (inr (inl at)) =
              not_at (at_second places q) differs' k same
              (ap (at_second places) (sym same) ∙ at)
          from e k same (inr (inr there)) =
              true≢false (sym there ∙ ap has same ∙ e)

          by : (b : Bool) → has q ≡ b → has q ≡ list_any (bytes_eq q) names
          by true e = e ∙ sym (h.others q e)
          by false e = e ∙ sym (none_by (λ k l same. from e k same (h.found k (below k l))))

-- a table of `names` is one of the first names of a longer list
pub have_more :
    (places : List ℕ) (has : List ℕ → Bool) (names : List (List ℕ)) (name : List ℕ) →
    HavePlaces places has names (length names) →
    HavePlaces places has (names ++ name ∷ []) (length names)
have_more places has names name h = record {
  within = h.within;
  first = λ k l none. h.first k l (ap (at_first places) (sym (at k l)) ∙ none);
  second = λ k l. subst
      (λ nm. (at_first places nm ≡ k + 1) ⊎ (at_second places nm ≢ 0)) (sym (at k l))
      (h.second k l);
  found = λ k l. subst
      (λ nm.
      (at_first places nm ≡ k + 1) ⊎ ((at_second places nm ≡ k + 1) ⊎ (has nm ≡ true)))
      (sym (at k l)) (h.found k l);
  others = λ q there.
      list_any-append (bytes_eq q) names (name ∷ [])
      ∙ ap (λ b. b || list_any (bytes_eq q) (name ∷ [])) (h.others q there);
}
  where
    at : (k : ℕ) → k < length names → get_or (names ++ name ∷ []) k [] ≡ get_or names k []
    at k l = get_or_append_left names (name ∷ []) [] k l
