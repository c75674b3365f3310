-- The move of the memories of a lane by an instant.
use Rattle.std.proofs.Common.{◌≡◌, ◌<◌, ℕ, Bool, true, false, ◌||◌, Some, List, []}
use Rattle.std.proofs.Common.{◌∷◌}
use Rattle.std.proofs.Common.{map, length, cond, refl, sym, ap, ap₂, ◌∙◌, subst, inl, inr}
use Rattle.std.proofs.lemmas.Bool.{or_parts, true≢false}
use Rattle.lb_syntax.specs.Lists.{Every, In}
use Rattle.lb_check.specs.Scalars.{Scalar}
use Rattle.lb_check.specs.Streams.{held, newest}
use Rattle.lb_check.specs.Verdicts.{is_bad}
use Rattle.lb_flat.specs.Flat.{Operation, Input, Constant, Copy, ApplyUnary, ApplyBinary, Choose}
use Rattle.lb_flat.specs.Flat.{FirstThen, Previous, Latest, Sample, FlatEquation}
use Rattle.lb_flat.specs.Judging.{some_in}
use Rattle.lb_flat.specs.Run.{Row, cell, started_by, remembered, advanced}
use Rattle.lb_machine.specs.Meaning.{Lane}
use Rattle.lb_sim.specs.Showing.{shown, value_at, scalar_at, row_at}
use Rattle.lb_sim.specs.States.{IsMoved, holding_of, present_at, kept_at, flag_at, with_memory}
use Rattle.lb_sim.specs.States.{equation_in}
use Rattle.lb_sim.specs.declared.place.Value.{Value}
use Rattle.lb_sim.specs.declared.place.Value.TheVariants.{Truth, Negated, Number}
use Rattle.lb_sim.specs.declared.place.Holding.{Holding}
use Rattle.lb_sim.specs.declared.place.Place.{Place}
use Rattle.lb_sim.proofs.RowsAt.{cell_is}

-- ## One memory

started_held : (m : Bool) (v : Scalar) (b : Bool) → (m || b) ≡ started_by m (held v b)
started_held true v b = refl
started_held false v true = refl
started_held false v false = refl

newest_held : (m v : Scalar) (b : Bool) → cond b v m ≡ newest m (held v b)
newest_held m v true = refl
newest_held m v false = refl

-- the operand of a memory is one of the places
abbrev pub IsKeptIn : List Place → Operation → Type 0
IsKeptIn places (FirstThen started a b) = a < length places
IsKeptIn places (Previous v a) = a < length places
IsKeptIn places (Latest v a) = a < length places
IsKeptIn places o = Unit {0}

module _ (s s' : Lane) (places : List Place) where
  newest_is :
      (a : ℕ) → a < length places → (m : Scalar) →
      cond (present_at s places a) (scalar_at s (holding_of places a)) m
      ≡ newest m (cell (row_at s places) a)
  newest_is a lt m =
      newest_held m (scalar_at s (holding_of places a)) (present_at s places a)
      ∙ ap (newest m) (sym (cell_is s places a lt))

  -- the operation with the new memory is the one that the row leads to
  pub memory_moved :
      (h : Holding) (o : Operation) → IsKeptIn places o → IsMoved s s' places h o →
      with_memory s' h o ≡ remembered (row_at s places) (with_memory s h o)
  memory_moved h (Input j) k e = refl
  memory_moved h (Constant v) k e = refl
  memory_moved h (Copy a) k e = refl
  memory_moved h (ApplyUnary op a) k e = refl
  memory_moved h (ApplyBinary op a b) k e = refl
  memory_moved h (Choose c a b) k e = refl
  memory_moved h (FirstThen started a b) k e =
      ap (λ m. FirstThen m a b)
      (e
      ∙ started_held (flag_at s h) (scalar_at s (holding_of places a)) (present_at s places a)
      ∙ ap (started_by (flag_at s h)) (sym (cell_is s places a k)))
  memory_moved h (Previous v a) k e =
      ap (λ m. Previous m a) (e ∙ newest_is a k (scalar_at s h))
  memory_moved h (Latest v a) k e = ap (λ m. Latest m a) (e ∙ newest_is a k (scalar_at s h))
  memory_moved h (Sample a) k e = refl

  -- each equation with its new memory is the one that the row leads to
  pub all_moved :
      (kept : List Holding) (Q : List FlatEquation) →
      Every (λ q. IsKeptIn places q.operation) Q →
      Every (λ q. IsMoved s s' places (kept_at kept q.element) q.operation) Q →
      map (equation_in s' kept) Q ≡ map (advanced (row_at s places)) (map (equation_in s kept) Q)
  all_moved kept [] k h = refl
  all_moved kept (q ∷ Q) k h =
      ap₂ (λ (o : Operation) (qs : List FlatEquation).
      record { element = q.element; clock = q.clock; operation = o } ∷ qs)
      (memory_moved (kept_at kept q.element) q.operation k.0 h.0) (all_moved kept Q k.1 h.1)

-- ## What is carried over

-- `h` shows in lane `s'` what `g` shows in lane `s`
pub carried_holding :
    (s s' : Lane) (h g : Holding) → value_at s' h.value ≡ value_at s g.value →
    s'.bits h.nil.0 ≡ s.bits g.nil.0 → s'.bits h.bad.0 ≡ s.bits g.bad.0 →
    scalar_at s' h ≡ scalar_at s g
carried_holding s s' h g is_value is_nil bad_is =
    ap₂ (λ b n. shown b n (value_at s' h.value)) bad_is is_nil
    ∙ ap (shown (s.bits g.bad.0) (s.bits g.nil.0)) is_value

not_bad_cases : (b n : Bool) (v : Scalar) → is_bad (Some (Some (shown b n v))) ≡ false → b ≡ false
not_bad_cases true n v e = absurd (true≢false e)
not_bad_cases false n v e = refl

-- a scalar that is no fault has no bit in the plane of faults
pub not_bad : (s : Lane) (g : Holding) → is_bad (Some (Some (scalar_at s g))) ≡ false →
    s.bits g.bad.0 ≡ false
not_bad s g e = not_bad_cases (s.bits g.bad.0) (s.bits g.nil.0) (value_at s g.value) e

sound_value : (s : Lane) (n : Bool) (v : Value) →
    is_bad (Some (Some (shown false n (value_at s v)))) ≡ false
sound_value s true v = refl
sound_value s false (Truth p) = refl
sound_value s false (Negated p) = refl
sound_value s false (Number w) = refl

-- a holding with no bit in the plane of faults is no fault
pub sound_holding : (s : Lane) (h : Holding) → s.bits h.bad.0 ≡ false →
    is_bad (Some (Some (scalar_at s h))) ≡ false
sound_holding s h e =
    ap (λ b. is_bad (Some (Some (shown b (s.bits h.nil.0) (value_at s h.value))))) e
    ∙ sound_value s (s.bits h.nil.0) h.value

-- the cell of an element is no fault, if no element of a list shows one
none_bad : (row : Row) (is : List ℕ) → some_in is_bad row is ≡ false → (a : ℕ) → In a is →
    is_bad (Some (cell row a)) ≡ false
none_bad row [] e a i = absurd i
none_bad row (j ∷ is) e a (inl p) =
    subst (λ k. is_bad (Some (cell row k)) ≡ false) p
    ((or_parts (is_bad (Some (cell row j))) (some_in is_bad row is) e).0)
none_bad row (j ∷ is) e a (inr r) =
    none_bad row is ((or_parts (is_bad (Some (cell row j))) (some_in is_bad row is) e).1) a r

kept_sound : (b : Bool) (v m : Scalar) → is_bad (Some (held v b)) ≡ false →
    is_bad (Some (Some m)) ≡ false → is_bad (Some (Some (cond b v m))) ≡ false
kept_sound true v m e f = e
kept_sound false v m e f = f

-- the memory of a named element, without a plane of faults, takes over all that its operand shows
pub named_moved :
    (s s' : Lane) (places : List Place) (named : List ℕ) (a : ℕ) (h g : Holding) →
    a < length places → some_in is_bad (row_at s places) named ≡ false → In a named →
    s.bits h.bad.0 ≡ false → s'.bits h.bad.0 ≡ false → value_at s' h.value ≡ value_at s g.value →
    s'.bits h.nil.0 ≡ s.bits g.nil.0 →
    scalar_at s g
    ≡ cond (present_at s places a) (scalar_at s (holding_of places a)) (scalar_at s h) →
    scalar_at s' h
    ≡ cond (present_at s places a) (scalar_at s (holding_of places a)) (scalar_at s h)
named_moved s s' places named a h g lt quiet i sound sound' is_value is_nil picked =
    let here : is_bad (Some (held (scalar_at s (holding_of places a)) (present_at s places a)))
    ≡ false =
    ap (λ x. is_bad (Some x)) (sym (cell_is s places a lt))
    ∙ none_bad (row_at s places) named quiet a i in
    let good : is_bad (Some (Some (scalar_at s g))) ≡ false =
    ap (λ v. is_bad (Some (Some v))) picked
    ∙ kept_sound (present_at s places a) (scalar_at s (holding_of places a)) (scalar_at s h) here
    (sound_holding s h sound) in
    carried_holding s s' h g is_value is_nil (sound' ∙ sym (not_bad s g good)) ∙ picked
