-- Loads of the integers of members into lanes of words.
use Rattle.std.proofs.Common.{◌≡◌, ℕ, ◌+◌, ◌<◌, ◌≤◌, ◌==◌, ◌⊎◌, inl, inr, Bool, true, false, List}
use Rattle.std.proofs.Common.{[], ℤ, cond, get_or, length, refl, sym, ap, ◌∙◌, arith}
use Rattle.std.proofs.lemmas.Bool.{cases_lt, eqb-true, eqb-false}
use Rattle.lb_traces.specs.Traces.{Recording}
use Rattle.lb_lanes.specs.Kernels.{lane_of}
use Rattle.lb_lanes.specs.Planes.{on}
use Rattle.lb_sim.specs.InputRows.{member_cell}
use Rattle.lb_sim.specs.Loads.{AreLoaded, one_of_four}

-- ## Lanes that lie side by side, word by word

module _ (first count : ℕ) (value : ℕ → ℕ → ℤ) (places : List ℕ) (old : List (List ℤ)) where
  -- in the words at the first `n` places the lanes hold their values
  pub record LanesPut (new : List (List ℤ)) (n : ℕ) : Type 0 where
    pub as_long : length new ≡ length old
    pub put :
        (k i : ℕ) → k < n → first ≤ i → i < first + count →
        lane_of (get_or new (get_or places k 0) []) i ≡ value i (get_or places k 0)
    pub others :
        (w i : ℕ) → i < 64 → (i < first) ⊎ (first + count ≤ i) →
        lane_of (get_or new w []) i ≡ lane_of (get_or old w []) i

-- ## Four lanes of a word

-- four integers are the values of `f` at their lanes
pub four_are :
    (first i : ℕ) (a b c d : ℤ) (f : ℕ → ℤ) → a ≡ f first → b ≡ f (first + 1) →
    c ≡ f (first + 2) → d ≡ f (first + 3) → first ≤ i → i < first + 4 →
    one_of_four first a b c d i ≡ f i
four_are first i a b c d f ea eb ec ed ge lt =
    by (i == first + 3) (i == first + 2) (i == first + 1) refl refl refl
  where
    by : (x y z : Bool) → (i == first + 3) ≡ x → (i == first + 2) ≡ y → (i == first + 1) ≡ z →
        cond x d (cond y c (cond z b a)) ≡ f i
    by true y z ex ey ez = ed ∙ ap f (sym (eqb-true i (first + 3) ex))
    by false true z ex ey ez = ec ∙ ap f (sym (eqb-true i (first + 2) ey))
    by false false true ex ey ez = eb ∙ ap f (sym (eqb-true i (first + 1) ez))
    by false false false ex ey ez =
        let n3 = eqb-false i (first + 3) ex in
        let n2 = eqb-false i (first + 2) ey in
        let n1 = eqb-false i (first + 1) ez in
        let same : first ≡ i = omega (arith, ge, lt, n3, n2, n1) in
        ea ∙ ap f same

-- ## Members one after the other

module _ (r : Recording) (members begins : List ℕ) (t live : ℕ) (columns places : List ℕ) where
  abbrev Loaded : (first end : ℕ) → (old new : List (List ℤ)) → Type 0
  Loaded = AreLoaded r members begins t live columns places

  pub loaded_none : (first : ℕ) (words : List (List ℤ)) → Loaded first first words words
  loaded_none first words = record {
    words = refl;
    put = λ i k ge lt. absurd (omega (arith, ge, lt));
    others = λ i w h o. refl;
  }

  -- members from `a` to `b` are loaded, and then those from `b` to `c`: those from `a` to `c` are
  pub loaded_then :
      (a b c : ℕ) (x y z : List (List ℤ)) → a ≤ b → b ≤ c → c ≤ 64 → Loaded a b x y →
      Loaded b c y z → Loaded a c x z
  loaded_then a b c x y z le le' few h g = record {
    words = g.words ∙ h.words;
    put = λ i k ge lt e l. put i k ge lt e l (cases_lt i b);
    others = λ i w li o. others i w li o;
  }
    where
      put : (i k : ℕ) → a ≤ i → i < c → on live i ≡ true → k < length places →
          (i < b) ⊎ (b ≤ i) →
          lane_of (get_or z (get_or places k 0) []) i
          ≡ member_cell r members begins t i (get_or columns (get_or places k 0) 0)
      put i k ge lt e l (inl before) =
          g.others i (get_or places k 0) (omega (arith, lt, few)) (inl before)
          ∙ h.put i k ge before e l
      put i k ge lt e l (inr behind) = g.put i k behind lt e l

      others : (i w : ℕ) → i < 64 → (i < a) ⊎ (c ≤ i) →
          lane_of (get_or z w []) i ≡ lane_of (get_or x w []) i
      others i w li (inl before) =
          g.others i w li (inl (omega (arith, before, le))) ∙ h.others i w li (inl before)
      others i w li (inr behind) =
          g.others i w li (inr behind) ∙ h.others i w li (inr (omega (arith, behind, le')))
