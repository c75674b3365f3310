-- The row that a lane has after an instant was loaded is that of its trace.
use Rattle.std.proofs.Common.{◌≡◌, ℕ, zero, suc, ◌+◌, ◌-◌, ◌<◌, ◌≤◌, Bool, true, false, Option}
use Rattle.std.proofs.Common.{Some, None, List, [], ◌∷◌, ℤ, pos, get_or, length, map, refl, sym, ap}
use Rattle.std.proofs.Common.{◌∙◌, subst, arith, replicate}
use Rattle.std.proofs.lemmas.Option.{slice_get-map}
use Rattle.std.specs.Option.{option_map}
use Rattle.std.specs.Prelude.{slice_get}
use Rattle.std.proofs.lemmas.List.{get_or-map, get_or-replicate, length-map}
use Rattle.std.specs.Prelude.{int_le}
use Rattle.lb_syntax.specs.declared.tree.Kind.{Kind}
use Rattle.lb_syntax.specs.declared.tree.Kind.TheVariants.{Int as Int_kind, Bool as Bool_kind}
use Rattle.lb_syntax.specs.Lists.{zip2}
use Rattle.lb_static.specs.Signature.{Element, Elements, kinds_of}
use Rattle.lb_check.specs.Scalars.{Integer, Boolean}
use Rattle.lb_check.specs.Verdicts.{is_bad}
use Rattle.lb_flat.specs.Inputs.{scalar_in, scalars_in, inputs_of}
use Rattle.lb_traces.specs.Traces.{Recording, IsRecording, cell_at, trace_at}
use Rattle.lb_traces.proofs.RowsFound.{row_follows}
use Rattle.lb_traces.proofs.Storing.{length-row}
use Rattle.lb_lanes.specs.Kernels.{lane_of}
use Rattle.lb_lanes.specs.Planes.{on}
use Rattle.lb_machine.specs.Meaning.{Lane, lane_at}
use Rattle.lb_machine.specs.declared.instruction.PlaneId.{PlaneId}
use Rattle.lb_sim.specs.Homes.{plane_in}
use Rattle.lb_sim.specs.InputRows.{truth_columns, number_columns, places_of, lane_row}
use Rattle.lb_sim.specs.InputRows.{IsAmid, begin_of, instant_in}
use Rattle.lb_sim.specs.ReadInputs.{AreAlike, IsLoadedAt}
use Rattle.lb_sim.specs.Showing.{value_at}
use Rattle.lb_sim.specs.declared.place.Value.{Value}
use Rattle.lb_sim.specs.declared.place.Value.TheVariants.{Truth, Negated, Number}
use Rattle.lb_sim.proofs.InputColumns.{row_shown, row_moved}

-- ## Lanes whose traces all began with the batch

begin_at_start : (n i : ℕ) → i < n → begin_of (replicate n 0) i ≡ 0
begin_at_start n i h = get_or-replicate n i 0 0 h

pub instant_from_start : (n t i : ℕ) → i < n → instant_in (replicate n 0) t i ≡ t
instant_from_start n t i h = omega (arith, begin_at_start n i h)

pub amid_from_start :
    (r : Recording) (members : List ℕ) (n t i : ℕ) → i < n → IsAmid r members [] t i →
    IsAmid r members (replicate n 0) t i
amid_from_start r members n t i h amid = record {
  member = amid.member;
  begun = omega (arith, begin_at_start n i h);
  there = omega (arith, instant_from_start n t i h, amid.there);
}

-- ## A row that is loaded

-- a signature has as many kinds as elements
as_many : (elements : Elements) (kinds : List Kind) → kinds_of elements ≡ kinds →
    length kinds ≡ length elements
as_many elements kinds same =
    ap length (sym same) ∙ length-map elements (λ (e : Element). e.1)

module _ (r : Recording) (trace t i : ℕ) (kinds : List Kind) (planes : List ℕ)
    (words : List (List ℤ)) (truths numbers : List ℕ) (lawful : IsRecording r)
    (same : kinds_of r.signature ≡ kinds) (is_truths : truths ≡ truth_columns 0 kinds)
    (is_numbers : numbers ≡ number_columns 0 kinds)
    (below : trace < length r.traces)
    (inside : t < length (trace_at r.traces trace).1)
    (bits : (b : ℕ) → b < length truths →
    on (get_or planes b 0) i ≡ int_le (pos 1) (cell_at r.traces trace t (get_or truths b 0)))
    (ints : (c : ℕ) → c < length numbers →
    lane_of (get_or words c []) i ≡ cell_at r.traces trace t (get_or numbers c 0)) where
  abbrev row : List ℤ
  row = get_or (trace_at r.traces trace).1 t []

  long : length row ≡ 0 + length kinds
  long =
      let full : length row ≡ length r.signature =
      length-row r.signature row (row_follows r trace t lawful below inside) in
      omega (arith, full, as_many r.signature kinds same)

  bits_there : (b : ℕ) → b < length (truth_columns 0 kinds) →
      on (get_or planes (0 + b) 0) i
      ≡ int_le (pos 1) (get_or row (get_or (truth_columns 0 kinds) b 0) (pos 0))
  bits_there b l =
      let e : 0 + b ≡ b = omega arith in
      ap (λ n. on (get_or planes n 0) i) e
      ∙ bits b (subst (λ xs. b < length xs) (sym is_truths) l)
      ∙ ap (λ xs. int_le (pos 1) (get_or row (get_or xs b 0) (pos 0))) is_truths

  ints_there : (c : ℕ) → c < length (number_columns 0 kinds) →
      lane_of (get_or words (0 + c) []) i
      ≡ get_or row (get_or (number_columns 0 kinds) c 0) (pos 0)
  ints_there c l =
      let e : 0 + c ≡ c = omega arith in
      ap (λ n. lane_of (get_or words n []) i) e
      ∙ ints c (subst (λ xs. c < length xs) (sym is_numbers) l)
      ∙ ap (λ xs. get_or row (get_or xs c 0) (pos 0)) is_numbers

  pub row_loaded :
      lane_row kinds planes words i ≡ get_or (inputs_of r trace) t []
  row_loaded =
      row_shown (lane_at planes words i) row kinds 0 0 0 long bits_there ints_there
      ∙ ap (λ ks. zip2 scalar_in ks row) (sym same)
      ∙ sym (get_or-map (scalars_in r.signature) (trace_at r.traces trace).1 t [] []
      inside)

-- ## Where some inputs are loaded

abbrev plane_found : Option Value → ℕ
plane_found None = 0
plane_found (Some v) = plane_in v

-- a Boolean stands in one of the planes of Booleans
place_in :
    (j p w : ℕ) (kinds : List Kind) (k : ℕ) (plane : PlaneId) →
    slice_get (places_of p w kinds) k ≡ Some (Truth plane) →
    (p ≤ plane.0) × (plane.0 < p + length (truth_columns j kinds))
place_in j p w [] k plane e = absurd (cc)
place_in j p w (Bool_kind ∷ kinds) zero plane e =
    let same : p ≡ plane.0 = ap plane_found e in
    (omega (arith, same), omega (arith, same))
place_in j p w (Bool_kind ∷ kinds) (suc k) plane e =
    let h = place_in (suc j) (suc p) w kinds k plane e in
    (omega (arith, h.0), omega (arith, h.1))
place_in j p w (Int_kind ∷ kinds) zero plane e = absurd (cc)
place_in j p w (Int_kind ∷ kinds) (suc k) plane e = place_in (suc j) p (suc w) kinds k plane e

-- no input stands at a negation
no_negation :
    (p w : ℕ) (kinds : List Kind) (k : ℕ) (plane : PlaneId) →
    slice_get (places_of p w kinds) k ≡ Some (Negated plane) → ⊥
no_negation p w [] k plane e = cc
no_negation p w (Bool_kind ∷ kinds) zero plane e = cc
no_negation p w (Bool_kind ∷ kinds) (suc k) plane e = no_negation (suc p) w kinds k plane e
no_negation p w (Int_kind ∷ kinds) zero plane e = cc
no_negation p w (Int_kind ∷ kinds) (suc k) plane e = no_negation p (suc w) kinds k plane e

-- no lane and no row of a trace shows a fault
no_fault : (s : Lane) (places : List Value) (k : ℕ) →
    is_bad (Some (slice_get (map (value_at s) places) k)) ≡ false
no_fault s [] k = refl
no_fault s (Truth p ∷ places) zero = refl
no_fault s (Negated p ∷ places) zero = refl
no_fault s (Number w ∷ places) zero = refl
no_fault s (v ∷ places) (suc k) = no_fault s places k

module _ (r : Recording) (trace t i : ℕ) (kinds : List Kind) (planes : List ℕ)
    (words : List (List ℤ)) (numbers : List ℕ) (truths : Bool) (lawful : IsRecording r)
    (same : kinds_of r.signature ≡ kinds) (below : trace < length r.traces)
    (inside : t < length (trace_at r.traces trace).1)
    (bits : truths ≡ true → (b : ℕ) → b < length (truth_columns 0 kinds) →
    on (get_or planes b 0) i
    ≡ int_le (pos 1) (cell_at r.traces trace t (get_or (truth_columns 0 kinds) b 0)))
    (ints : (k : ℕ) → k < length numbers →
    lane_of (get_or words (get_or numbers k 0) []) i
    ≡ cell_at r.traces trace t (get_or (number_columns 0 kinds) (get_or numbers k 0) 0)) where
  abbrev whole : List ℤ
  whole = get_or (trace_at r.traces trace).1 t []

  -- two lanes: one with the loaded inputs behind two planes and a word, one with the row of the
  -- trace
  abbrev held : Lane
  held = record {
    bits = λ p. on (get_or planes (p - 2) 0) i;
    ints = λ w. lane_of (get_or words (w - 1) []) i;
  }

  abbrev wanted : Lane
  wanted = record {
    bits = λ p. int_le (pos 1) (get_or whole (get_or (truth_columns 0 kinds) (p - 2) 0) (pos 0));
    ints = λ w. get_or whole (get_or (number_columns 0 kinds) (w - 1) 0) (pos 0);
  }

  held_is : map (value_at held) (places_of 2 1 kinds) ≡ lane_row kinds planes words i
  held_is =
      row_moved (lane_at planes words i) held kinds 0 0 0 2 1
      (λ b l. let e : 2 + b - 2 ≡ 0 + b = omega arith in ap (λ n. on (get_or planes n 0) i) e)
      (λ c l. let e : 1 + c - 1 ≡ 0 + c = omega arith in ap (λ n. lane_of (get_or words n []) i) e)

  wanted_is :
      map (value_at wanted) (places_of 2 1 kinds)
      ≡ get_or (inputs_of r trace) t []
  wanted_is =
      let full : length whole ≡ length r.signature =
      length-row r.signature whole (row_follows r trace t lawful below inside) in
      let long : length whole ≡ 0 + length kinds =
      omega (arith, full, as_many r.signature kinds same) in
      row_shown wanted whole kinds 0 2 1 long
      (λ b l.
      let e : 2 + b - 2 ≡ b = omega arith in
      ap (λ n. int_le (pos 1) (get_or whole (get_or (truth_columns 0 kinds) n 0) (pos 0))) e)
      (λ c l.
      let e : 1 + c - 1 ≡ c = omega arith in
      ap (λ n. get_or whole (get_or (number_columns 0 kinds) n 0) (pos 0)) e)
      ∙ ap (λ ks. zip2 scalar_in ks whole) (sym same)
      ∙ sym (get_or-map (scalars_in r.signature) (trace_at r.traces trace).1 t [] []
      inside)

  value_same :
      (j : ℕ) (v : Value) → slice_get (places_of 2 1 kinds) j ≡ Some v →
      IsLoadedAt numbers truths v → value_at held v ≡ value_at wanted v
  value_same j (Truth p) at loaded =
      let within = place_in 0 2 1 kinds j p at in
      ap Boolean (bits loaded (p.0 - 2) (omega (arith, within.0, within.1)))
  value_same j (Negated p) at loaded = absurd (no_negation 2 1 kinds j p at)
  value_same j (Number w) at (k, lt, e) =
      let place : w.0 - 1 ≡ get_or numbers k 0 = omega (arith, e) in
      ap Integer
      (ap (λ n. lane_of (get_or words n []) i) place ∙ ints k lt
      ∙ ap (λ n. get_or whole (get_or (number_columns 0 kinds) n 0) (pos 0)) (sym place))

  shown_at :
      (j : ℕ) (o : Option Value) → slice_get (places_of 2 1 kinds) j ≡ o → (s : Lane) →
      slice_get (map (value_at s) (places_of 2 1 kinds)) j ≡ option_map (value_at s) o
  shown_at j o at s =
      slice_get-map (value_at s) (places_of 2 1 kinds) j ∙ ap (option_map (value_at s)) at

  rows_alike :
      AreAlike (places_of 2 1 kinds) numbers truths
      (map (value_at held) (places_of 2 1 kinds)) (map (value_at wanted) (places_of 2 1 kinds))
  rows_alike = record {
    same = λ j v at loaded.
        shown_at j (Some v) at held
        ∙ ap Some (value_same j v at loaded)
        ∙ sym (shown_at j (Some v) at wanted);
    bad = λ j.
        no_fault held (places_of 2 1 kinds) j ∙ sym (no_fault wanted (places_of 2 1 kinds) j);
    there = λ j at. shown_at j None at held ∙ sym (shown_at j None at wanted);
  }

  pub row_alike :
      AreAlike (places_of 2 1 kinds) numbers truths (lane_row kinds planes words i)
      (get_or (inputs_of r trace) t [])
  row_alike =
      subst
      (λ given.
      AreAlike (places_of 2 1 kinds) numbers truths given
      (get_or (inputs_of r trace) t []))
      held_is
      (subst
      (λ other.
      AreAlike (places_of 2 1 kinds) numbers truths (map (value_at held) (places_of 2 1 kinds))
      other)
      wanted_is rows_alike)

-- the row of a lane that was copied behind two planes and a word
module _ (i : ℕ) (kinds : List Kind) (planes planes' from : List ℕ)
    (words words' words_from : List (List ℤ))
    (planes_room : length planes ≡ length (truth_columns 0 kinds))
    (words_room : length words ≡ length (number_columns 0 kinds))
    (is_from : from ≡ planes) (is_words : words_from ≡ words)
    (put : (c : ℕ) → c < length from → get_or planes' (2 + c) 0 ≡ get_or from c 0)
    (put_words : (c : ℕ) → c < length words_from →
    get_or words' (1 + c) [] ≡ get_or words_from c []) where
  bits_handed : (b : ℕ) → b < length (truth_columns 0 kinds) →
      on (get_or planes' (2 + b) 0) i ≡ on (get_or planes (0 + b) 0) i
  bits_handed b l =
      let e : b ≡ 0 + b = omega arith in
      let long : length from ≡ length (truth_columns 0 kinds) =
      ap length is_from ∙ planes_room in
      ap (λ w. on w i) (put b (omega (arith, l, long)))
      ∙ ap (λ xs. on (get_or xs b 0) i) is_from
      ∙ ap (λ n. on (get_or planes n 0) i) e

  ints_handed : (c : ℕ) → c < length (number_columns 0 kinds) →
      lane_of (get_or words' (1 + c) []) i ≡ lane_of (get_or words (0 + c) []) i
  ints_handed c l =
      let e : c ≡ 0 + c = omega arith in
      let long : length words_from ≡ length (number_columns 0 kinds) =
      ap length is_words ∙ words_room in
      ap (λ w. lane_of w i) (put_words c (omega (arith, l, long)))
      ∙ ap (λ xs. lane_of (get_or xs c []) i) is_words
      ∙ ap (λ n. lane_of (get_or words n []) i) e

  pub row_handed :
      map (value_at (lane_at planes' words' i)) (places_of 2 1 kinds)
      ≡ lane_row kinds planes words i
  row_handed =
      row_moved (lane_at planes words i) (lane_at planes' words' i) kinds 0 0 0 2 1
      bits_handed ints_handed
