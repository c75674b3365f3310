-- The parts of an instant of a batch, in one lane.
use Rattle.std.proofs.Common.{◌≡◌, ◌≢◌, ◌<◌, ◌≤◌, ◌+◌, ℕ, true, false, List, [], map, length}
use Rattle.std.proofs.Common.{get_or, set, ℤ, sym, ap, ◌∙◌, arith}
use Rattle.std.proofs.Common.{below_more, length-set, Bool}
use Rattle.std.proofs.Math.Logic.{∥∥₁_elim}
use Rattle.std.proofs.lemmas.List.{get_or-set_same, get_or-set_other}
use Rattle.std.specs.List.{AllByRecursion}
use Rattle.std.specs.Prelude.{nat_lt, slice_index, slice_index_or, if◌then◌else◌}
use Rattle.std.proofs.lemmas.Bool.{le-ltb}
use Rattle.lb_syntax.specs.declared.tree.Kind.{Kind}
use Rattle.lb_check.specs.Scalars.{Scalar}
use Rattle.lb_flat.specs.Programs.{program_of}
use Rattle.lb_lanes.specs.Kernels.{lane_of}
use Rattle.lb_lanes.specs.Planes.{IsPlaneOf, on}
use Rattle.lb_lanes.proofs.OnPlanes.{on-zero}
use Rattle.lb_machine.specs.Listed.{listed}
use Rattle.lb_machine.specs.Meaning.{Lane, IsDone, HasConstants, lane_at}
use Rattle.lb_sim.specs.Compiled.{HasConstantWords, given_at}
use Rattle.lb_sim.specs.InputRows.{places_of, truth_columns, number_columns}
use Rattle.lb_sim.specs.LaneStates.{HoldSame, IsCodeIn, IsComputed}
use Rattle.lb_sim.specs.Showing.{value_at}
use Rattle.lb_sim.specs.declared.program.LaneCode.{LaneCode}
use Rattle.lb_sim.specs.declared.program.LaneProgram.{LaneProgram}
use Rattle.lb_sim.proofs.LaneLayouts.{inputs_same, hold_same}
use Rattle.lb_sim.proofs.LanePrograms.{scalars_prop, memory_planes, memory_words, inputs_planes}
use Rattle.lb_sim.proofs.LanePrograms.{inputs_words, constants_words}

-- ## The start

pub lanes_none : IsPlaneOf (λ i. nat_lt i 0) 0
lanes_none i h = on-zero i ∙ sym (le-ltb i 0 (omega arith))

-- the lanes of a plane are put into the first `n` elements of a list, and any other lane does not
-- change
module _ {A B : Type 0} (z : A) (lane : A → ℕ → B) (lanes : ℕ) (given : ℕ → ℕ → B) where
  pub record LanesTakenOver (old new : List A) (n : ℕ) : Type 0 where
    pub as_long : length new ≡ length old
    pub put :
        (k i : ℕ) → k < n → i < 64 → on lanes i ≡ true → lane (get_or new k z) i ≡ given k i
    pub others :
        (k i : ℕ) → i < 64 → on lanes i ≡ false →
        lane (get_or new k z) i ≡ lane (get_or old k z) i

-- ## The run of the code

-- `planes0`, `planes1` and `planes2` are the planes before inputs are copied in, after that, and
-- after the run; `words0` to `words2` are the words
module _ (p : LaneProgram) (c : LaneCode) (law : IsCodeIn p c) (np nw : ℕ)
    (is_np : np ≡ length (truth_columns 0 (program_of p.program.now).inputs))
    (is_nw : nw ≡ length (number_columns 0 (program_of p.program.now).inputs))
    (planes0 planes1 planes2 : List ℕ) (words0 words1 words2 : List (List ℤ))
    (fp : (k : ℕ) → k < 2 → slice_index planes1 k ≡ slice_index planes0 k)
    (op : (k : ℕ) → 2 + np ≤ k → slice_index planes1 k ≡ slice_index planes0 k)
    (fw : (k : ℕ) → k < 1 → slice_index_or words1 k [] ≡ slice_index_or words0 k [])
    (ow : (k : ℕ) → 1 + nw ≤ k → slice_index_or words1 k [] ≡ slice_index_or words0 k [])
    (rp : (k : ℕ) → k < c.code.first_plane → slice_index planes2 k ≡ slice_index planes1 k)
    (rw : (k : ℕ) → k < c.code.first_word →
    slice_index_or words2 k [] ≡ slice_index_or words1 k [])
    (i : ℕ) where
  abbrev s0 : Lane
  s0 = lane_at planes0 words0 i

  abbrev s1 : Lane
  s1 = lane_at planes1 words1 i

  abbrev s2 : Lane
  s2 = lane_at planes2 words2 i

  bits_ran : (k : ℕ) → k < c.code.first_plane → s2.bits k ≡ s1.bits k
  bits_ran k h = ap (λ x. on x i) (rp k h)

  ints_ran : (k : ℕ) → k < c.code.first_word → s2.ints k ≡ s1.ints k
  ints_ran k h = ap (λ x. lane_of x i) (rw k h)

  bits_first : (k : ℕ) → k < 2 → s1.bits k ≡ s0.bits k
  bits_first k h = ap (λ x. on x i) (fp k h)

  ints_first : (k : ℕ) → k < 1 → s1.ints k ≡ s0.ints k
  ints_first k h = ap (λ x. lane_of x i) (fw k h)

  ints_other : (k : ℕ) → 1 + nw ≤ k → s1.ints k ≡ s0.ints k
  ints_other k h = ap (λ x. lane_of x i) (ow k h)

  -- the memories do not change
  memories_same : HoldSame c.code p.memory_plane p.memory_word s0 s2
  memories_same =
      hold_same c.code p.memory_plane p.memory_word np nw s0 s1 s2
      (omega (arith, is_np, inputs_planes p))
      (omega (arith, is_nw, inputs_words p, constants_words p)) bits_first
      (λ k h. ap (λ x. on x i) (op k h)) ints_first ints_other bits_ran ints_ran

  -- the constants that are the same everywhere stay as they are
  constants_same : HasConstants s0 → HasConstants s2
  constants_same h = record {
    nowhere =
        bits_ran 0 (omega (arith, c.code.constants)) ∙ bits_first 0 (omega arith) ∙ h.nowhere;
    everywhere =
        bits_ran 1 (omega (arith, c.code.constants)) ∙ bits_first 1 (omega arith) ∙ h.everywhere;
    zero = ints_ran 0 (omega (arith, c.code.zero)) ∙ ints_first 0 (omega arith) ∙ h.zero;
  }

  -- the constants of the program stay as they are
  constant_words_same :
      HasConstantWords p.constant_word p.memory_word p.start_words.items s0 →
      HasConstantWords p.constant_word p.memory_word p.start_words.items s2
  constant_words_same h w from to =
      ints_ran w (omega (arith, to, memory_words p c law))
      ∙ ints_other w (omega (arith, is_nw, inputs_words p, from))
      ∙ h w from to

  -- the inputs are those that were copied in
  given_same :
      (kinds : List Kind) (row : List Scalar) → kinds ≡ (program_of p.program.now).inputs →
      map (value_at s1) (places_of 2 1 kinds) ≡ row → given_at s2 p.inputs.items ≡ row
  given_same kinds row same is =
      let inputs = (program_of p.program.now).inputs in
      let at : given_at s2 p.inputs.items ≡ given_at s2 (places_of 2 1 inputs) =
      ∥∥₁_elim law (scalars_prop _ _) (λ h. ap (given_at s2) h.laid_out.inputs_at) in
      at
      ∙ inputs_same s1 s2 c.code.first_plane c.code.first_word 2 1 0 inputs bits_ran ints_ran
      (omega (arith, inputs_planes p, memory_planes p c law))
      (omega (arith, inputs_words p, constants_words p, memory_words p c law))
      ∙ ap (λ ks. map (value_at s1) (places_of 2 1 ks)) (sym same)
      ∙ is

  -- the lane has run the code on its row
  pub computed :
      (kinds : List Kind) (row : List Scalar) (going : Bool) →
      kinds ≡ (program_of p.program.now).inputs →
      map (value_at s1) (places_of 2 1 kinds) ≡ row → HasConstants s0 →
      HasConstantWords p.constant_word p.memory_word p.start_words.items s0 →
      (going ≡ true → AllByRecursion (IsDone s2) (listed c.code.instructions)) →
      IsComputed p c row going s0 s2
  computed kinds row going same is constants words done = record {
    run = λ there. record { constants = constants_same constants; done = done there };
    constants = constants_same constants;
    constant_words = constant_words_same words;
    given = given_same kinds row same is;
    same = memories_same;
  }

-- ## Lists with an item for each lane

module _ {A : Type 0} (z : A) (lanes : ℕ) (given : ℕ → A) where
  -- the first `n` items are put in the lanes of a plane, and stay as they are in the others
  pub record Settled (old new : List A) (n : ℕ) : Type 0 where
    pub as_long : length new ≡ length old
    pub put :
        (i : ℕ) → i < n → get_or new i z ≡ (if on lanes i then given i else get_or old i z)
    pub rest : (i : ℕ) → n ≤ i → get_or new i z ≡ get_or old i z

  -- one more lane, which the plane has
  pub settled_on :
      (old new : List A) (n : ℕ) (v : A) → Settled old new n → n < length old →
      on lanes n ≡ true → v ≡ given n → Settled old (set new n v) (n + 1)
  settled_on old new n v h lt there is =
      let within : n < length new = omega (arith, h.as_long, lt) in
      record {
        as_long = length-set new n v ∙ h.as_long;
        put =
            below_more
            (λ i. get_or (set new n v) i z
            ≡ (if on lanes i then given i else get_or old i z)) n
            (λ i l.
            let ne : i ≢ n = λ e. absurd (omega (arith, l, e)) in
            get_or-set_other new n i v z ne ∙ h.put i l)
            (get_or-set_same new n v z within
            ∙ is
            ∙ sym (ap (λ b. if b then given n else get_or old n z) there));
        rest = λ i l.
            let ne : i ≢ n = λ e. absurd (omega (arith, l, e)) in
            get_or-set_other new n i v z ne ∙ h.rest i (omega (arith, l));
      }

  -- one more lane, which the plane does not have
  pub settled_off :
      (old new : List A) (n : ℕ) → Settled old new n → on lanes n ≡ false →
      Settled old new (n + 1)
  settled_off old new n h off = record {
    as_long = h.as_long;
    put =
        below_more
        (λ i. get_or new i z ≡ (if on lanes i then given i else get_or old i z)) n
        (λ i l. h.put i l)
        (h.rest n (omega arith)
        ∙ sym (ap (λ b. if b then given n else get_or old n z) off));
    rest = λ i l. h.rest i (omega (arith, l));
  }
