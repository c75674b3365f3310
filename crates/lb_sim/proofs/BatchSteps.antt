-- One instant of a batch in each of its lanes, and the start of a batch.
use Rattle.std.proofs.Common.{◌≡◌, ◌≢◌, ◌<◌, ◌≤◌, ◌+◌, ◌-◌, ℕ, Bool, true, false, not, ◌&&◌}
use Rattle.std.proofs.Common.{◌||◌, List, [], ◌∷◌, ◌++◌, get_or, length, ℤ, pos, refl, sym}
use Rattle.std.proofs.Common.{ap, ap₂, ◌∙◌, subst, inl, inr, arith}
use Rattle.std.proofs.Math.Bool.{and-true, and-false, or-true, or-false}
use Rattle.std.proofs.Math.Logic.{∥∥₁_elim}
use Rattle.std.proofs.Props.{props}
use mathlib.Core.Path.{fun_ext}
use Rattle.std.specs.Prelude.{slice_index, slice_index_or, if◌then◌else◌}
use Rattle.lb_check.specs.Scalars.{Scalar}
use Rattle.lb_check.specs.Solutions.{Inputs}
use Rattle.lb_check.specs.declared.verdict.Verdict.{Verdict}
use Rattle.lb_check.specs.declared.verdict.Verdict.TheVariants.{Passed, Fault, Undefined, Assertion}
use Rattle.lb_check.specs.declared.verdict.Verdict.TheVariants.{False}
use Rattle.lb_flat.specs.Fitting.{IsFitting}
use Rattle.lb_flat.specs.Flat.{FlatClock}
use Rattle.lb_flat.specs.TemporaryKinds.{kind_among}
use Rattle.lb_flat.specs.Judging.{FlatProgram}
use Rattle.lb_flat.specs.Programs.{program_of}
use Rattle.lb_lanes.specs.Kernels.{lane_of}
use Rattle.lb_lanes.specs.Planes.{IsPlaneOf, on}
use Rattle.lb_lanes.proofs.OnPlanes.{on-zero}
use Rattle.lb_machine.specs.Meaning.{Lane, HasConstants, lane_at}
use Rattle.lb_machine.specs.declared.code.Code.{Code}
use Rattle.lb_sim.specs.Codes.{Suits}
use Rattle.lb_sim.specs.Compiled.{IsHomeAt, HasConstantWords, given_at}
use Rattle.lb_sim.specs.InputRows.{begin_of, instant_in}
use Rattle.lb_sim.specs.LaidOut.{start_lane}
use Rattle.lb_sim.specs.LaneMoves.{IsMovedOn, StandsIn}
use Rattle.lb_sim.specs.LaneStates.{HoldSame, IsCodeIn, IsComputed, StandsAt, is_passed}
use Rattle.lb_sim.specs.States.{IsCarriedOver}
use Rattle.lb_sim.specs.Watching.{lane_judged}
use Rattle.lb_sim.specs.declared.program.LaneCode.{LaneCode}
use Rattle.lb_sim.specs.declared.program.LaneProgram.{LaneProgram}
use Rattle.lb_sim.proofs.LaneLayouts as layouts
use Rattle.lb_sim.proofs.LanePrograms.{stands_prop, program_ready, memory_words, suits_still}
use Rattle.lb_sim.proofs.LanePrograms.{inputs_planes, inputs_words, constants_words}
use Rattle.lb_sim.proofs.LanePrograms.{start_planes_room, start_words_room}
use Rattle.lb_sim.proofs.LaneSteps as steps_of

-- ## The start

-- lane `i` of the first planes and words holds what the program starts with
pub record IsStarted (p : LaneProgram) (planes : List ℕ) (words : List (List ℤ)) (i : ℕ) :
    Type 0 where
  pub planes_put :
      (k : ℕ) → k < length p.start_planes.items →
      on (slice_index planes k) i ≡ on (slice_index p.start_planes.items k) i
  pub words_put :
      (k : ℕ) → k < length p.start_words.items →
      lane_of (slice_index_or words k []) i ≡ slice_index_or p.start_words.items k (pos 0)

-- `IsStarted` for lists that are equal to the planes and words
pub started_as :
    (p : LaneProgram) (P p0 : List ℕ) (W w0 : List (List ℤ)) (i : ℕ) → p0 ≡ P → w0 ≡ W →
    IsStarted p P W i → IsStarted p p0 w0 i
started_as p P p0 W w0 i a b h =
    subst (λ x. IsStarted p p0 x i) (sym b) (subst (λ x. IsStarted p x W i) (sym a) h)

module _ (p : LaneProgram) (planes : List ℕ) (words : List (List ℤ)) (i : ℕ) (below : i < 64)
    (started : IsStarted p planes words i) where
  abbrev begun : Lane
  begun = lane_at planes words i

  abbrev at_start : Lane
  at_start = start_lane p.start_planes.items p.start_words.items i

  abbrev code : Code
  code = p.general.code

  bits_start : (k : ℕ) → k < code.first_plane → begun.bits k ≡ at_start.bits k
  bits_start k h =
      started.planes_put k (omega (arith, h, start_planes_room p p.general p.general_law))

  ints_start : (k : ℕ) → k < code.first_word → begun.ints k ≡ at_start.ints k
  ints_start k h =
      started.words_put k (omega (arith, h, start_words_room p p.general p.general_law))

  -- the lane has the constants that are the same everywhere
  pub begun_constants : HasConstants begun
  begun_constants =
      let given : HasConstants at_start =
      ∥∥₁_elim p.general_law (Prim.hlevel props) (λ h. h.laid_out.start_constants i below) in
      record {
        nowhere = bits_start 0 (omega (arith, code.constants)) ∙ given.nowhere;
        everywhere = bits_start 1 (omega (arith, code.constants)) ∙ given.everywhere;
        zero = ints_start 0 (omega (arith, code.zero)) ∙ given.zero;
      }

  -- the lane has the constants of the program
  pub begun_constant_words :
      HasConstantWords p.constant_word p.memory_word p.start_words.items begun
  begun_constant_words w from to =
      ints_start w (omega (arith, to, memory_words p p.general p.general_law))

  starts_same : HoldSame code p.memory_plane p.memory_word at_start begun
  starts_same = record { planes = plane; words = word }
    where
      plane : (k : ℕ) → IsHomeAt p.memory_plane code.first_plane k →
          begun.bits k ≡ at_start.bits k
      plane k (inl e) = bits_start k (omega (arith, e, code.constants))
      plane k (inr h) = bits_start k (h.1)

      word : (k : ℕ) → IsHomeAt p.memory_word code.first_word k →
          begun.ints k ≡ at_start.ints k
      word k (inl e) = ints_start k (omega (arith, e, code.zero))
      word k (inr h) = ints_start k (h.1)

  -- the lane stands for the empty trace
  pub begun_stands :
      (v : Verdict) (active : Bool) (steps : ℕ) → v ≡ Passed → steps ≡ 0 →
      StandsAt (program_of p.program.now) p.kept.items begun v active steps []
  begun_stands v active steps e none =
      let f = program_of p.program.now in
      subst (λ n. StandsAt f p.kept.items begun v active n []) (sym none)
      (subst (λ u. StandsAt f p.kept.items begun u active 0 []) (sym e)
      (∥∥₁_elim p.general_law (stands_prop f p.kept.items begun Passed active 0 [])
      (λ law. layouts.stands_empty f code p.memory_plane p.memory_word p.kept.items
      law.compiled.homes at_start begun starts_same (law.laid_out.start_state i below) active)))

not_passed : (v : Verdict) → v ≢ Passed → is_passed v ≡ false
not_passed Passed ne = absurd (ne refl)
not_passed (Fault t) ne = refl
not_passed (Undefined t) ne = refl
not_passed (Assertion t) ne = refl
not_passed (False t) ne = refl

-- ## An instant

-- `s0`, `s1` and `s2` are one lane: before the instant, once code has run that suits it if it takes
-- part, and after the instant
module _ (p : LaneProgram) (c : LaneCode) (law : IsCodeIn p c) (row : List Scalar)
    (s0 s1 s2 : Lane) (v v' : Verdict) (active live going passed : Bool) (steps : ℕ)
    (suits : going ≡ true → Suits c s0) (computed : IsComputed p c row going s0 s1)
    (going_is : going ≡ (active && live))
    (passed_is : passed ≡ (going && is_passed (lane_judged c.watched steps s1)))
    (put : v' ≡ (if going && not passed then lane_judged c.watched steps s1 else v))
    (carried :
    IsCarriedOver p.memory_plane p.memory_word c.plane_sources.items c.word_sources.items s1
    s2) where
  abbrev f : FlatProgram
  f = program_of p.program.now

  abbrev judged : Verdict
  judged = lane_judged c.watched steps s1

  passed_at : passed ≡ ((active && live) && is_passed judged)
  passed_at = passed_is ∙ ap (λ b. b && is_passed judged) going_is

  put_at : v' ≡ (if (active && live) && not passed then judged else v)
  put_at = put ∙ ap (λ b. if b && not passed then judged else v) going_is

  -- a live lane stands for its trace and one row more
  lane_moves :
      live ≡ true → active ≡ is_passed v → (K : ℕ → FlatClock) →
      IsFitting f.inputs K (kind_among f.kinds) f.equations → (X : Inputs) →
      StandsIn p s0 v active steps X → StandsIn p s2 v' passed (steps + 1) (X ++ row ∷ [])
  lane_moves there was K fits X stands =
      let is_passed_now =
      layouts.live_passed v judged v' active live passed passed_at put_at there was in
      let is_verdict =
      layouts.live_verdict v judged v' active live passed passed_at put_at there was in
      let going_there : is_passed v ≡ true → going ≡ true =
      λ e. going_is ∙ ap₂ (λ a b. a && b) (was ∙ e) there in
      let suits_now : is_passed v ≡ true → Suits c s1 =
      λ e. suits_still p c law s0 s1 computed.same (suits (going_there e)) in
      subst (λ r. StandsIn p s2 v' passed (steps + 1) (X ++ r ∷ [])) computed.given
      (∥∥₁_elim law
      (stands_prop f p.kept.items s2 v' passed (steps + 1)
      (X ++ given_at s1 p.inputs.items ∷ []))
      (λ h. steps_of.moves f c.code p.inputs.items c.places.items p.kept.items c.watched
      p.start_words.items p.constant_word p.memory_plane p.memory_word c.plane_sources.items
      c.word_sources.items (Suits c) h.compiled (program_ready p) K fits s0 s1 s2
      computed.constant_words computed.same carried X steps v v' is_verdict
      (λ e. computed.run (going_there e)) suits_now active passed was is_passed_now stands))

  -- a lane that is not live stands for the trace it stood for
  lane_stays :
      live ≡ false → (X : Inputs) → StandsIn p s0 v active steps X →
      StandsIn p s2 v' passed (steps + 1) X
  lane_stays off X stands =
      steps_of.stays f p.kept.items s0 s2 v v' active passed steps (steps + 1) X stands
      (layouts.resting_verdict v judged v' active live passed passed_at put_at off)
      (layouts.resting_passed v judged v' active live passed passed_at put_at off)

  -- the constants that are the same everywhere stay as they are
  lane_constants : HasConstants s2
  lane_constants =
      let c = computed.constants in
      record {
        nowhere = carried.first_planes 0 (omega (arith, inputs_planes p)) ∙ c.nowhere;
        everywhere = carried.first_planes 1 (omega (arith, inputs_planes p)) ∙ c.everywhere;
        zero =
            carried.first_words 0 (omega (arith, inputs_words p, constants_words p)) ∙ c.zero;
      }

  -- the instant moves the lane on
  pub lane_moved : IsMovedOn p row s0 s2 v v' active live passed steps
  lane_moved = record {
    moves = lane_moves;
    stays = lane_stays;
    settled = λ off.
        put_at ∙ ap (λ a. if (a && live) && not passed then judged else v) off;
    passes = λ there was.
        layouts.live_active v judged v' active live passed passed_at put_at there was;
    rests = λ off. layouts.resting_passed v judged v' active live passed passed_at put_at off;
    constants = lane_constants;
    constant_words = λ w from to. carried.first_words w to ∙ computed.constant_words w from to;
  }

-- ## A step of a run

-- all lanes have been moved on
abbrev pub AreMovedOn :
    (p : LaneProgram) (rows : ℕ → List Scalar) (planes planes' : List ℕ)
    (words words' : List (List ℤ)) (verdicts verdicts' : List Verdict)
    (active live active' : ℕ) (steps : ℕ → ℕ) → Type 0
AreMovedOn p rows planes planes' words words' verdicts verdicts' active live active' steps =
    (i : ℕ) → i < 64 →
    IsMovedOn p (rows i) (lane_at planes words i) (lane_at planes' words' i)
    (get_or verdicts i Passed) (get_or verdicts' i Passed) (on active i) (on live i)
    (on active' i) (steps i)

-- the statement for lists that are equal to these
pub moved_as :
    (p : LaneProgram) (rows : ℕ → List Scalar) (P P' p0 p1 : List ℕ)
    (W W' w0 w1 : List (List ℤ)) (V V' v0 v1 : List Verdict) (B b0 : List ℕ)
    (active live active' t : ℕ) →
    p0 ≡ P → p1 ≡ P' → w0 ≡ W → w1 ≡ W' → v0 ≡ V → v1 ≡ V' → b0 ≡ B →
    AreMovedOn p rows P P' W W' V V' active live active' (instant_in B t) →
    AreMovedOn p rows p0 p1 w0 w1 v0 v1 active live active' (instant_in b0 t)
moved_as p rows P P' p0 p1 W W' w0 w1 V V' v0 v1 B b0 active live active' t a b c d e g k h =
    let s = instant_in B t in
    let h1 = subst (λ x. AreMovedOn p rows x P' W W' V V' active live active' s) (sym a) h in
    let h2 = subst (λ x. AreMovedOn p rows p0 x W W' V V' active live active' s) (sym b) h1 in
    let h3 = subst (λ x. AreMovedOn p rows p0 p1 x W' V V' active live active' s) (sym c) h2 in
    let h4 = subst (λ x. AreMovedOn p rows p0 p1 w0 x V V' active live active' s) (sym d) h3 in
    let h5 = subst (λ x. AreMovedOn p rows p0 p1 w0 w1 x V' active live active' s) (sym e) h4 in
    let h6 = subst (λ x. AreMovedOn p rows p0 p1 w0 w1 v0 x active live active' s) (sym g) h5 in
    subst
    (λ (x : List ℕ).
    AreMovedOn p rows p0 p1 w0 w1 v0 v1 active live active' (instant_in x t)) (sym k) h6

module _ (p : LaneProgram) (rows : ℕ → List Scalar) (planes planes' : List ℕ)
    (words words' : List (List ℤ)) (verdicts verdicts' : List Verdict)
    (live0 active live active' : ℕ) (begins : List ℕ) (t : ℕ)
    (moved : AreMovedOn p rows planes planes' words words' verdicts verdicts' active live active'
    (instant_in begins t))
    (was : IsPlaneOf (λ i. on live0 i && is_passed (get_or verdicts i Passed)) active) where
  -- a verdict other than `Passed` stays
  pub run_settled :
      (i : ℕ) → i < 64 → get_or verdicts i Passed ≢ Passed →
      get_or verdicts' i Passed ≡ get_or verdicts i Passed
  run_settled i h ne =
      (moved i h).settled
      (was i h
      ∙ ap (λ b. on live0 i && b) (not_passed (get_or verdicts i Passed) ne)
      ∙ and-false (on live0 i))

  module _ (begun : (i : ℕ) → i < 64 → begin_of begins i ≤ t) where
    one_more : (i : ℕ) → i < 64 → instant_in begins t i + 1 ≡ instant_in begins (t + 1) i
    one_more i h = omega (arith, begun i h)

    -- a lane that is not live stands for the trace it stood for
    pub run_stays :
        (i : ℕ) (X : Inputs) → i < 64 → on live i ≡ false →
        StandsIn p (lane_at planes words i) (get_or verdicts i Passed) (on active i)
        (instant_in begins t i) X →
        StandsIn p (lane_at planes' words' i) (get_or verdicts' i Passed) (on active' i)
        (instant_in begins (t + 1) i) X
    run_stays i X h off stands =
        subst
        (λ n. StandsIn p (lane_at planes' words' i) (get_or verdicts' i Passed) (on active' i) n X)
        (one_more i h) ((moved i h).stays off X stands)

    module _ (shrinks : (i : ℕ) → i < 64 → on live i ≡ true → on live0 i ≡ true) where
      active_was :
          (i : ℕ) → i < 64 → on live i ≡ true →
          on active i ≡ is_passed (get_or verdicts i Passed)
      active_was i h there =
          was i h ∙ ap (λ b. b && is_passed (get_or verdicts i Passed)) (shrinks i h there)

      -- a live lane stands for its trace and one row more
      pub run_moves :
          (K : ℕ → FlatClock) →
          IsFitting (program_of p.program.now).inputs K
          (kind_among (program_of p.program.now).kinds) (program_of p.program.now).equations →
          (i : ℕ) (X : Inputs) → i < 64 → on live i ≡ true →
          StandsIn p (lane_at planes words i) (get_or verdicts i Passed) (on active i)
          (instant_in begins t i) X →
          StandsIn p (lane_at planes' words' i) (get_or verdicts' i Passed) (on active' i)
          (instant_in begins (t + 1) i) (X ++ rows i ∷ [])
      run_moves K fits i X h there stands =
          subst
          (λ n. StandsIn p (lane_at planes' words' i) (get_or verdicts' i Passed) (on active' i)
          n (X ++ rows i ∷ []))
          (one_more i h) ((moved i h).moves there (active_was i h there) K fits X stands)

      -- the active lanes are the live lanes that have passed
      pub run_going : IsPlaneOf (λ i. on live i && is_passed (get_or verdicts' i Passed)) active'
      run_going i h = by (on live i) refl
        where
          by : (b : Bool) → on live i ≡ b →
              on active' i ≡ (on live i && is_passed (get_or verdicts' i Passed))
          by true e =
              (moved i h).passes e (active_was i h e)
              ∙ sym (ap (λ b. b && is_passed (get_or verdicts' i Passed)) e)
          by false e =
              (moved i h).rests e
              ∙ sym (ap (λ b. b && is_passed (get_or verdicts' i Passed)) e)

-- ## Lanes that begin again

-- `lanes` hold what the program starts with, and any other lane has not changed
pub record AreRestarted (p : LaneProgram) (planes planes' : List ℕ)
    (words words' : List (List ℤ)) (lanes : ℕ) : Type 0 where
  pub started : (i : ℕ) → i < 64 → on lanes i ≡ true → IsStarted p planes' words' i
  pub other_planes :
      (k i : ℕ) → i < 64 → on lanes i ≡ false →
      on (slice_index planes' k) i ≡ on (slice_index planes k) i
  pub other_words :
      (k i : ℕ) → i < 64 → on lanes i ≡ false →
      lane_of (slice_index_or words' k []) i ≡ lane_of (slice_index_or words k []) i

-- the statement for lists that are equal to these
pub restarted_as :
    (p : LaneProgram) (P P' p0 p1 : List ℕ) (W W' w0 w1 : List (List ℤ)) (lanes : ℕ) →
    p0 ≡ P → p1 ≡ P' → w0 ≡ W → w1 ≡ W' → AreRestarted p P P' W W' lanes →
    AreRestarted p p0 p1 w0 w1 lanes
restarted_as p P P' p0 p1 W W' w0 w1 lanes a b c d h =
    let h1 = subst (λ x. AreRestarted p x P' W W' lanes) (sym a) h in
    let h2 = subst (λ x. AreRestarted p p0 x W W' lanes) (sym b) h1 in
    let h3 = subst (λ x. AreRestarted p p0 p1 x W' lanes) (sym c) h2 in
    subst (λ x. AreRestarted p p0 p1 w0 x lanes) (sym d) h3

-- two lanes with equal planes and words are equal
same_lane :
    (s s' : Lane) → ((k : ℕ) → s'.bits k ≡ s.bits k) → ((k : ℕ) → s'.ints k ≡ s.ints k) →
    s' ≡ s
same_lane s s' bits ints = λ j. record { bits = fun_ext bits j; ints = fun_ext ints j }

-- equal lanes, verdicts and steps stand for the same traces
stands_as :
    (p : LaneProgram) (s s' : Lane) (v v' : Verdict) (active active' : Bool) (n n' : ℕ)
    (X : Inputs) → s' ≡ s → v' ≡ v → active' ≡ active → n' ≡ n → StandsIn p s v active n X →
    StandsIn p s' v' active' n' X
stands_as p s s' v v' active active' n n' X a b c d h =
    let h1 = subst (λ x. StandsIn p x v active n X) (sym a) h in
    let h2 = subst (λ x. StandsIn p s' x active n X) (sym b) h1 in
    let h3 = subst (λ x. StandsIn p s' v' x n X) (sym c) h2 in
    subst (λ x. StandsIn p s' v' active' x X) (sym d) h3

-- `new` has `v` in each of `lanes`, and the items of `old` elsewhere
abbrev HavePut : {A : Type 0} (z : A) (lanes : ℕ) (v : A) (old new : List A) → Type 0
HavePut z lanes v old new =
    (i : ℕ) → i < 64 → get_or new i z ≡ (if on lanes i then v else get_or old i z)

-- the statement for lists that are equal to these
pub put_as :
    {A : Type 0} (z : A) (lanes : ℕ) (v : A) (old new a b : List A) → a ≡ old → b ≡ new →
    HavePut z lanes v old new → HavePut z lanes v a b
put_as {A} z lanes v old new a b same same' h =
    subst (λ x. HavePut z lanes v a x) (sym same')
    (subst (λ x. HavePut z lanes v x new) (sym same) h)

pub put_there :
    {A : Type 0} (z : A) (lanes : ℕ) (v : A) (old new : List A) → HavePut z lanes v old new →
    (i : ℕ) → i < 64 → on lanes i ≡ true → get_or new i z ≡ v
put_there z lanes v old new h i below e =
    h i below ∙ ap (λ b. if b then v else get_or old i z) e

put_other :
    {A : Type 0} (z : A) (lanes : ℕ) (v : A) (old new : List A) → HavePut z lanes v old new →
    (i : ℕ) → i < 64 → on lanes i ≡ false → get_or new i z ≡ get_or old i z
put_other z lanes v old new h i below e =
    h i below ∙ ap (λ b. if b then v else get_or old i z) e

-- the plane of the lanes that are not in plane 0 has all lanes
pub every_lane :
    (lanes : ℕ) → IsPlaneOf (λ i. not (on 0 i)) lanes → (i : ℕ) → i < 64 → on lanes i ≡ true
every_lane lanes h i below = h i below ∙ ap not (on-zero i)

-- `new` has the lanes of `old` and `lanes`
abbrev WithLanes : (old new lanes : ℕ) → Type 0
WithLanes old new lanes = IsPlaneOf (λ i. on old i || on lanes i) new

with_lanes_there :
    (old new lanes i : ℕ) → i < 64 → on lanes i ≡ true → WithLanes old new lanes →
    on new i ≡ true
with_lanes_there old new lanes i below e h =
    h i below ∙ ap (λ b. on old i || b) e ∙ or-true (on old i)

with_lanes_other :
    (old new lanes i : ℕ) → i < 64 → on lanes i ≡ false → WithLanes old new lanes →
    on new i ≡ on old i
with_lanes_other old new lanes i below e h =
    h i below ∙ ap (λ b. on old i || b) e ∙ or-false (on old i)

module _ (p : LaneProgram) (planes planes' : List ℕ) (words words' : List (List ℤ)) (lanes : ℕ)
    (restarted : AreRestarted p planes planes' words words' lanes) where
  other_same :
      (i : ℕ) → i < 64 → on lanes i ≡ false → lane_at planes' words' i ≡ lane_at planes words i
  other_same i h off =
      same_lane (lane_at planes words i) (lane_at planes' words' i)
      (λ k. restarted.other_planes k i h off) (λ k. restarted.other_words k i h off)

  -- the constants that are the same everywhere stay as they are
  pub restart_constants :
      ((i : ℕ) → i < 64 → HasConstants (lane_at planes words i)) → (i : ℕ) → i < 64 →
      HasConstants (lane_at planes' words' i)
  restart_constants were i h = by (on lanes i) refl
    where
      by : (b : Bool) → on lanes i ≡ b → HasConstants (lane_at planes' words' i)
      by true e = begun_constants p planes' words' i h (restarted.started i h e)
      by false e = subst HasConstants (sym (other_same i h e)) (were i h)

  abbrev Constants : Lane → Type 0
  Constants = HasConstantWords p.constant_word p.memory_word p.start_words.items

  -- the constants of the program stay as they are
  pub restart_constant_words :
      ((i : ℕ) → i < 64 → Constants (lane_at planes words i)) → (i : ℕ) → i < 64 →
      Constants (lane_at planes' words' i)
  restart_constant_words were i h = by (on lanes i) refl
    where
      by : (b : Bool) → on lanes i ≡ b → Constants (lane_at planes' words' i)
      by true e = begun_constant_words p planes' words' i h (restarted.started i h e)
      by false e = subst Constants (sym (other_same i h e)) (were i h)

module _ (lanes : ℕ) (begins begins' : List ℕ) (t : ℕ)
    (begins_are : HavePut 0 lanes t begins begins') where
  -- where all lanes begin at instant `t`, none begins after it
  pub all_begun :
      ((i : ℕ) → i < 64 → on lanes i ≡ true) → (i : ℕ) → i < 64 → begin_of begins' i ≤ t
  all_begun every i h =
      omega (arith, put_there 0 lanes t begins begins' begins_are i h (every i h))

  pub restart_begun :
      ((i : ℕ) → i < 64 → begin_of begins i ≤ t) → (i : ℕ) → i < 64 → begin_of begins' i ≤ t
  restart_begun begun i h = by (on lanes i) refl
    where
      by : (b : Bool) → on lanes i ≡ b → begin_of begins' i ≤ t
      by true e = omega (arith, put_there 0 lanes t begins begins' begins_are i h e)
      by false e = omega (arith, put_other 0 lanes t begins begins' begins_are i h e, begun i h)

module _ (lanes : ℕ) (verdicts verdicts' : List Verdict)
    (verdicts_are : HavePut Passed lanes Passed verdicts verdicts') where
  has_passed : (i : ℕ) → i < 64 → on lanes i ≡ true → get_or verdicts' i Passed ≡ Passed
  has_passed = put_there Passed lanes Passed verdicts verdicts' verdicts_are

  pub restart_verdict :
      (i : ℕ) → i < 64 → on lanes i ≡ false →
      get_or verdicts' i Passed ≡ get_or verdicts i Passed
  restart_verdict = put_other Passed lanes Passed verdicts verdicts' verdicts_are

  -- where all lanes have passed, the live lanes are active
  pub all_passed :
      (live : ℕ) → ((i : ℕ) → i < 64 → on lanes i ≡ true) →
      IsPlaneOf (λ i. on live i && is_passed (get_or verdicts' i Passed)) live
  all_passed live every i h =
      sym
      (ap (λ v. on live i && is_passed v) (has_passed i h (every i h)) ∙ and-true (on live i))

  -- the active lanes are the live lanes that have passed
  pub restart_going :
      (live active live' active' : ℕ) →
      IsPlaneOf (λ i. on live i && is_passed (get_or verdicts i Passed)) active →
      WithLanes live live' lanes → WithLanes active active' lanes →
      IsPlaneOf (λ i. on live' i && is_passed (get_or verdicts' i Passed)) active'
  restart_going live active live' active' was lives acts i h = by (on lanes i) refl
    where
      by : (b : Bool) → on lanes i ≡ b →
          on active' i ≡ (on live' i && is_passed (get_or verdicts' i Passed))
      by true e =
          with_lanes_there active active' lanes i h e acts
          ∙ sym
          (ap₂ (λ b v. b && is_passed v) (with_lanes_there live live' lanes i h e lives)
          (has_passed i h e))
      by false e =
          with_lanes_other active active' lanes i h e acts
          ∙ was i h
          ∙ sym
          (ap₂ (λ b v. b && is_passed v) (with_lanes_other live live' lanes i h e lives)
          (restart_verdict i h e))

  module _ (begins begins' : List ℕ) (t : ℕ)
      (begins_are : HavePut 0 lanes t begins begins') (active active' : ℕ)
      (acts : WithLanes active active' lanes) (p : LaneProgram) (planes planes' : List ℕ)
      (words words' : List (List ℤ))
      (restarted : AreRestarted p planes planes' words words' lanes) where
    -- the lanes stand for the empty trace
    pub restart_empty :
        (i : ℕ) → i < 64 → on lanes i ≡ true →
        StandsIn p (lane_at planes' words' i) (get_or verdicts' i Passed) (on active' i)
        (instant_in begins' t i) []
    restart_empty i h e =
        begun_stands p planes' words' i h (restarted.started i h e) _ _ _ (has_passed i h e)
        (omega (arith, put_there 0 lanes t begins begins' begins_are i h e))

    -- any other lane stands for the trace it stood for
    pub restart_others :
        (i : ℕ) (X : Inputs) → i < 64 → on lanes i ≡ false →
        StandsIn p (lane_at planes words i) (get_or verdicts i Passed) (on active i)
        (instant_in begins t i) X →
        StandsIn p (lane_at planes' words' i) (get_or verdicts' i Passed) (on active' i)
        (instant_in begins' t i) X
    restart_others i X h off stands =
        stands_as p (lane_at planes words i) (lane_at planes' words' i) _ _ _ _ _ _ X
        (other_same p planes planes' words words' lanes restarted i h off)
        (restart_verdict i h off) (with_lanes_other active active' lanes i h off acts)
        (ap (λ b. t - b) (put_other 0 lanes t begins begins' begins_are i h off)) stands
