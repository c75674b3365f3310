-- Loads of the integers of some instants into lanes of words, a word for each place and each
-- instant.
use Rattle.std.proofs.Common.{◌≡◌, ◌≢◌, ℕ, ◌+◌, ◌*◌, ◌<◌, ◌≤◌, ◌==◌, ◌⊎◌, inl, inr, Bool, true}
use Rattle.std.proofs.Common.{false, List, [], ℤ, pos, get_or, set, length, length-set, refl}
use Rattle.std.proofs.Common.{sym, ap, ◌∙◌, arith, below_more}
use Rattle.std.proofs.lemmas.Bool.{cases_lt, eqb-true, eqb-false}
use Rattle.std.proofs.lemmas.List.{get_or-set_same, get_or-set_other}
use Rattle.lb_traces.specs.Traces.{Recording}
use Rattle.lb_lanes.specs.Kernels.{lane_of}
use Rattle.lb_lanes.specs.Planes.{on}
use Rattle.lb_sim.specs.InputRows.{member_cell}
use Rattle.lb_sim.specs.Loads.{AreAhead, AreLoadedAhead}

-- ## A lane of a word that is set

same_or_other : (a b : ℕ) → (a ≡ b) ⊎ (a ≢ b)
same_or_other a b = by (a == b) refl
  where
    by : (x : Bool) → (a == b) ≡ x → (a ≡ b) ⊎ (a ≢ b)
    by true e = inl (eqb-true a b e)
    by false e = inr (eqb-false a b e)

-- ## The words of an instant

module _ (row : List ℤ) (lane d : ℕ) (places : List ℕ) (old : List (List ℤ)) where
  pub record RowAhead (new : List (List ℤ)) (n : ℕ) : Type 0 where
    pub as_long : length new ≡ length old
    pub put :
        (k : ℕ) → k < n →
        lane_of (get_or new (65 * k + d) []) lane ≡ get_or row (get_or places k 0) (pos 0)
    pub others :
        (k e i : ℕ) → e < 64 → i < 64 → (e ≢ d) ⊎ (i ≢ lane) →
        lane_of (get_or new (65 * k + e) []) i ≡ lane_of (get_or old (65 * k + e) []) i

-- ## Four lanes of the words of an instant

module _ (first d : ℕ) (value : ℕ → ℕ → ℤ) (places : List ℕ) (old : List (List ℤ)) where
  pub record FourAhead (new : List (List ℤ)) (n : ℕ) : Type 0 where
    pub as_long : length new ≡ length old
    pub put :
        (k i : ℕ) → k < n → first ≤ i → i < first + 4 →
        lane_of (get_or new (65 * k + d) []) i ≡ value i (get_or places k 0)
    pub others :
        (k e i : ℕ) → e < 64 → i < 64 → (e ≢ d) ⊎ ((i < first) ⊎ (first + 4 ≤ i)) →
        lane_of (get_or new (65 * k + e) []) i ≡ lane_of (get_or old (65 * k + e) []) i

-- ## Instants of members

module _ (r : Recording) (members begins : List ℕ) (t live : ℕ) (columns places : List ℕ) where
  abbrev Filled : (count first end : ℕ) → (old new : List (List ℤ)) → Type 0
  Filled count = AreLoadedAhead r members begins t count live columns places

  pub filled_none : (count first : ℕ) (room : List (List ℤ)) → Filled count first first room room
  filled_none count first room = record {
    room = refl;
    put = λ i d k ge lt. absurd (omega (arith, ge, lt));
    others = λ k e i le li o. refl;
  }

  -- members from `a` to `b` are loaded, and then those from `b` to `c`: those from `a` to `c` are
  pub filled_then :
      (count a b c : ℕ) (x y z : List (List ℤ)) → a ≤ b → b ≤ c → c ≤ 64 → count ≤ 64 →
      Filled count a b x y → Filled count b c y z → Filled count a c x z
  filled_then count a b c x y z le le' few some h g = record {
    room = g.room ∙ h.room;
    put = λ i d k ge lt e ld lk. put i d k ge lt e ld lk (cases_lt i b);
    others = λ k e i l li o. others k e i l li o;
  }
    where
      put : (i d k : ℕ) → a ≤ i → i < c → on live i ≡ true → d < count → k < length places →
          (i < b) ⊎ (b ≤ i) →
          lane_of (get_or z (65 * k + d) []) i
          ≡ member_cell r members begins (t + d) i (get_or columns (get_or places k 0) 0)
      put i d k ge lt e ld lk (inl before) =
          g.others k d i (omega (arith, ld, some)) (omega (arith, lt, few)) (inl before)
          ∙ h.put i d k ge before e ld lk
      put i d k ge lt e ld lk (inr behind) = g.put i d k behind lt e ld lk

      others : (k e i : ℕ) → e < 64 → i < 64 → (i < a) ⊎ (c ≤ i) →
          lane_of (get_or z (65 * k + e) []) i ≡ lane_of (get_or x (65 * k + e) []) i
      others k e i l li (inl before) =
          g.others k e i l li (inl (omega (arith, before, le)))
          ∙ h.others k e i l li (inl before)
      others k e i l li (inr behind) =
          g.others k e i l li (inr behind)
          ∙ h.others k e i l li (inr (omega (arith, behind, le')))

  pub instants_none : (first end : ℕ) (room : List (List ℤ)) → Filled 0 first end room room
  instants_none first end room = record {
    room = refl;
    put = λ i d k ge lt e ld. absurd (omega (arith, ld));
    others = λ k e i le li o. refl;
  }

  -- one more instant of the members is loaded
  pub instant_more :
      (n first end : ℕ) (old rows new : List (List ℤ)) → Filled n first end old rows → n < 64 →
      end ≤ 64 → length new ≡ length rows →
      ((i k : ℕ) → first ≤ i → i < end → on live i ≡ true → k < length places →
      lane_of (get_or new (65 * k + n) []) i
      ≡ member_cell r members begins (t + n) i (get_or columns (get_or places k 0) 0)) →
      ((k e i : ℕ) → e < 64 → i < 64 → (e ≢ n) ⊎ ((i < first) ⊎ (end ≤ i)) →
      lane_of (get_or new (65 * k + e) []) i ≡ lane_of (get_or rows (65 * k + e) []) i) →
      Filled (n + 1) first end old new
  instant_more n first end old rows new h ln few long put others = record {
    room = long ∙ h.room;
    put = λ i d k ge lt live_i ld lk.
        below_more
        (λ m. lane_of (get_or new (65 * k + m) []) i
        ≡ member_cell r members begins (t + m) i (get_or columns (get_or places k 0) 0)) n
        (λ m lm.
        let ne : m ≢ n = λ e. absurd (omega (arith, lm, e)) in
        others k m i (omega (arith, lm, ln)) (omega (arith, lt, few)) (inl ne)
        ∙ h.put i m k ge lt live_i lm lk)
        (put i k ge lt live_i lk)
        d ld;
    others = λ k e i le li o. others k e i le li (inr o) ∙ h.others k e i le li o;
  }

  -- all live lanes are loaded, if each has a member
  pub all_filled :
      (count n : ℕ) (old new : List (List ℤ)) → Filled count 0 n old new →
      ((i : ℕ) → i < 64 → on live i ≡ true → i < n) →
      AreAhead r members begins t (t + count) live columns places new
  all_filled count n old new h inside = record {
    cells = λ i d k l e lt lk.
        h.put i d k (omega arith) (inside i l e) e (omega (arith, lt)) lk;
  }

-- ## Copies of a loaded instant

module _ (room : List (List ℤ)) (d : ℕ) (places : List ℕ) (old : List (List ℤ)) where
  pub record Taken (new : List (List ℤ)) (n : ℕ) : Type 0 where
    pub as_long : length new ≡ length old
    pub put :
        (i : ℕ) (value : ℕ → ℤ) →
        ((k : ℕ) → k < length places →
        lane_of (get_or room (65 * k + d) []) i ≡ value (get_or places k 0)) →
        (k : ℕ) → k < n → lane_of (get_or new (get_or places k 0) []) i ≡ value (get_or places k 0)

  -- one more place is taken
  pub taken_more :
      (new : List (List ℤ)) (n : ℕ) (word : List ℤ) → Taken new n → n < length places →
      get_or places n 0 < length old → word ≡ get_or room (65 * n + d) [] →
      Taken (set new (get_or places n 0) word) (n + 1)
  taken_more new n word h lt within is_word = record {
    as_long = length-set new (get_or places n 0) word ∙ h.as_long;
    put = λ i value is. below_more
        (λ k. lane_of (get_or (set new (get_or places n 0) word) (get_or places k 0) []) i
        ≡ value (get_or places k 0)) n
        (λ k lk. by i value is k lk (same_or_other (get_or places k 0) (get_or places n 0)))
        (here i value is);
  }
    where
      here :
          (i : ℕ) (value : ℕ → ℤ) →
          ((k : ℕ) → k < length places →
          lane_of (get_or room (65 * k + d) []) i ≡ value (get_or places k 0)) →
          lane_of (get_or (set new (get_or places n 0) word) (get_or places n 0) []) i
          ≡ value (get_or places n 0)
      here i value is =
          let inside : get_or places n 0 < length new = omega (arith, within, h.as_long) in
          ap (λ x. lane_of x i) (get_or-set_same new (get_or places n 0) word [] inside ∙ is_word)
          ∙ is n lt

      by :
          (i : ℕ) (value : ℕ → ℤ) →
          ((k : ℕ) → k < length places →
          lane_of (get_or room (65 * k + d) []) i ≡ value (get_or places k 0)) →
          (k : ℕ) → k < n →
          (get_or places k 0 ≡ get_or places n 0) ⊎ (get_or places k 0 ≢ get_or places n 0) →
          lane_of (get_or (set new (get_or places n 0) word) (get_or places k 0) []) i
          ≡ value (get_or places k 0)
      by i value is k lk (inl e) =
          ap (λ m. lane_of (get_or (set new (get_or places n 0) word) m []) i) e
          ∙ here i value is
          ∙ ap value (sym e)
      by i value is k lk (inr ne) =
          ap (λ x. lane_of x i)
          (get_or-set_other new (get_or places n 0) (get_or places k 0) word [] ne)
          ∙ h.put i value is k lk
