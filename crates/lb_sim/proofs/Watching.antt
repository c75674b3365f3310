-- The tests of a cell that a lane shows, plane by plane; and a test of some elements, one after the
-- other.
use Rattle.std.proofs.Common.{arith, suc, ◌+◌, ◌-◌, ◌<◌, ◌≤◌, [], ◌∷◌, length, ◌≡◌}
use Rattle.std.proofs.Common.{ℕ, Bool, true, false, ◌||◌, Option, Some, None, List, get_or, refl}
use Rattle.std.proofs.Common.{sym, ap, ◌∙◌, zero, ◌⊎◌, inl, inr, All}
use Rattle.std.specs.List.{range_with_len}
use Rattle.std.proofs.lemmas.List.{get_or-map}
use Rattle.std.proofs.Math.Bool.{or-false}
use Rattle.lb_check.specs.Scalars.{Cell}
use Rattle.lb_flat.specs.Judging.{some_in}
use Rattle.lb_flat.specs.Programs.{numbers_of}
use Rattle.lb_flat.specs.Run.{Row, cell}
use Rattle.lb_flat.specs.declared.equation.ElementId.{ElementId}
use Rattle.lb_machine.specs.Correct.{IsGrown, IsPlaneFor}
use Rattle.lb_machine.specs.Listed.{listed}
use Rattle.lb_machine.specs.Meaning.{Lane, HasRun}
use Rattle.lb_machine.specs.declared.code.Code.{Code}
use Rattle.lb_machine.specs.declared.instruction.PlaneId.{PlaneId}
use Rattle.lb_sim.specs.Showing.{cell_at, row_at}
use Rattle.lb_sim.specs.Watching.{AreWithin}
use Rattle.lb_sim.specs.declared.place.Place.{Place}
use Rattle.lb_sim.proofs.Growth.{grown_none, grown_then}

-- ## Some elements

or_further : (a b c : Bool) → ((a || b) || c) ≡ (a || (b || c))
or_further true b c = refl
or_further false b c = refl

-- `plane` holds the test of some elements, and `rest` is still to be tested
pub record IsWatching (test : Option Cell → Bool) (before code : Code) (places : List Place)
    (elements rest : List ℕ) (above plane : PlaneId) : Type 0 where
  pub grown : IsGrown before code
  pub within : plane.0 < code.planes
  pub means :
      (s : Lane) → HasRun (listed code.instructions) s →
      (s.bits plane.0 || some_in test (row_at s places) rest)
      ≡ (s.bits above.0 || some_in test (row_at s places) elements)

pub watching_first :
    (test : Option Cell → Bool) (code : Code) (places : List Place) (elements : List ℕ)
    (above : PlaneId) → above.0 < code.planes →
    IsWatching test code code places elements elements above above
watching_first test code places elements above lt =
    record { grown = grown_none code; within = lt; means = λ s r. refl }

module _ (test : Option Cell → Bool) (before code : Code) (places : List Place)
    (elements rest : List ℕ) (above plane : PlaneId)
    (h : IsWatching test before code places elements rest above plane) where
  pub watching_last : rest ≡ [] →
      IsPlaneFor code (λ s. s.bits above.0 || some_in test (row_at s places) elements) plane
  watching_last e = record {
    within = h.within;
    means = λ s r.
        sym (or-false (s.bits plane.0))
        ∙ ap (λ is. s.bits plane.0 || some_in test (row_at s places) is) (sym e)
        ∙ h.means s r;
  }

  pub watching_next :
      (i : ℕ) (more : List ℕ) (p : Place) → rest ≡ i ∷ more → i < length places →
      p ≡ get_or places i p → (code₁ code₂ : Code) (here plane' : PlaneId) →
      IsGrown code code₁ → IsPlaneFor code₁ (λ s. test (Some (cell_at s p))) here →
      IsGrown code₁ code₂ → IsPlaneFor code₂ (λ s. s.bits plane.0 || s.bits here.0) plane' →
      IsWatching test before code₂ places elements more above plane'
  watching_next i more p e lt is_p code₁ code₂ here plane' g₁ seen g₂ made = record {
    grown = grown_then before code code₂ h.grown (grown_then code code₁ code₂ g₁ g₂);
    within = made.within;
    means = λ s r.
        let row = row_at s places in
        let later = some_in test row more in
        let r₁ = g₂.runs s r in
        let here_is : s.bits here.0 ≡ test (Some (cell row i)) =
        seen.means s r₁
        ∙ ap (λ x. test (Some x)) (sym (get_or-map (cell_at s) places i p None lt
        ∙ ap (cell_at s) (sym is_p))) in
        ap (λ b. b || later) (made.means s r)
        ∙ or_further (s.bits plane.0) (s.bits here.0) later
        ∙ ap (λ b. s.bits plane.0 || (b || later)) here_is
        ∙ ap (λ is. s.bits plane.0 || some_in test row is) (sym e)
        ∙ h.means s (g₁.runs s r₁);
  }

-- ## Marked planes

-- marked planes within a plane are still within it when the code has grown
pub within_grown : (a b : Code) (marked : List Bool) (p : PlaneId) → IsGrown a b →
    AreWithin a marked p → AreWithin b marked p
within_grown a b marked p g h = record { within = λ k e s r. h.within k e s (g.runs s r) }

-- a plane within another one adds nothing
pub or_within : (a b : Bool) → (b ≡ true → a ≡ true) → a ≡ (a || b)
or_within true b h = refl
or_within false true h = h refl
or_within false false h = refl

or_left : (a b : Bool) → a ≡ true → (a || b) ≡ true
or_left true b e = refl
or_left false b e = cc

or_right : (a b : Bool) → b ≡ true → (a || b) ≡ true
or_right true b e = refl
or_right false b e = e

-- one more plane is marked, and is within the new plane
pub within_more :
    (a b : Code) (old new : List Bool) (plane here both : PlaneId) → IsGrown a b →
    AreWithin a old plane →
    IsPlaneFor b (λ s. s.bits plane.0 || s.bits here.0) both →
    ((k : ℕ) → get_or new k false ≡ true → (k ≡ here.0) ⊎ (get_or old k false ≡ true)) →
    AreWithin b new both
within_more a b old new plane here both g h made more = record {
  within = λ k e s r on. made.means s r ∙ by k s r on (more k e);
}
  where
    by :
        (k : ℕ) (s : Lane) → HasRun (listed b.instructions) s → s.bits k ≡ true →
        (k ≡ here.0) ⊎ (get_or old k false ≡ true) → (s.bits plane.0 || s.bits here.0) ≡ true
    by k s r on (inl e) = or_right _ _ (ap s.bits (sym e) ∙ on)
    by k s r on (inr e) = or_left _ _ (h.within k e s (g.runs s r) on)

-- ## The elements that are still to come

pub range_cut : (i count : ℕ) → i < count →
    range_with_len i (count - i) ≡ i ∷ range_with_len (i + 1) (count - (i + 1))
range_cut i count lt =
    let e : count - i ≡ suc (count - (i + 1)) = omega (arith, lt) in
    ap (range_with_len i) e

pub range_end : (i count : ℕ) → count ≤ i → range_with_len i (count - i) ≡ []
range_end i count le =
    let e : count - i ≡ 0 = omega (arith, le) in
    ap (range_with_len i) e

pub range_all : (count : ℕ) → range_with_len 0 count ≡ range_with_len 0 (count - 0)
range_all count =
    let e : count ≡ count - 0 = omega arith in
    ap (range_with_len 0) e

-- ## Elements that are among the first

some_here :
    (test : Option Cell → Bool) (row : Row) (n from i : ℕ) → from ≤ i → i < from + n →
    test (Some (cell row i)) ≡ true → some_in test row (range_with_len from n) ≡ true
some_here test row zero from i le lt e = absurd (omega (arith, le, lt))
some_here test row (suc n) from i le lt e =
    by (or_more from i le)
    (λ more. some_here test row n (from + 1) i more (omega (arith, lt)) e)
  where
    or_more : (a b : ℕ) → a ≤ b → (a ≡ b) ⊎ (a + 1 ≤ b)
    or_more a b h = Prim.search (arith, h)

    by :
        (from ≡ i) ⊎ (from + 1 ≤ i) →
        (from + 1 ≤ i → some_in test row (range_with_len (from + 1) n) ≡ true) →
        some_in test row (range_with_len from (suc n)) ≡ true
    by (inl same) later = or_left _ _ (ap (λ k. test (Some (cell row k))) same ∙ e)
    by (inr more) later = or_right _ _ (later more)

-- if one of some elements passes a test, and each of them is among the first `n`, one of the first
-- `n` passes it
pub some_among :
    (test : Option Cell → Bool) (row : Row) (n : ℕ) (ids : List ElementId) →
    All (λ a. a.0 < n) ids → some_in test row (numbers_of ids) ≡ true →
    some_in test row (range_with_len 0 n) ≡ true
some_among test row n [] all e = absurd (false_not_true e)
  where
    false_not_true : false ≡ true → ⊥
    false_not_true h = cc
some_among test row n (a ∷ ids) all e =
    by (test (Some (cell row a.0))) (some_in test row (numbers_of ids)) e
    (some_here test row n 0 a.0 (omega arith) (omega (arith, all 0 a (omega arith))))
    (some_among test row n ids (λ k d lt. all (suc k) d (omega (arith, lt))))
  where
    by :
        (x y : Bool) → (x || y) ≡ true →
        (x ≡ true → some_in test row (range_with_len 0 n) ≡ true) →
        (y ≡ true → some_in test row (range_with_len 0 n) ≡ true) →
        some_in test row (range_with_len 0 n) ≡ true
    by true y f here later = here refl
    by false y f here later = later f
