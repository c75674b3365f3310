-- The laws of a lane program and of its codes, place by place.
use Rattle.std.proofs.Common.{◌≡◌, ◌<◌, ◌≤◌, ◌+◌, ℕ, List, length, All, inl, inr}
use Rattle.std.proofs.Common.{arith, Bool, true, false, [], get_or, sym, subst, ◌∙◌}
use Rattle.std.proofs.Math.Logic.{∥∥₁_elim}
use Rattle.std.proofs.Props.{props}
use Rattle.lb_check.specs.Scalars.{Scalar}
use Rattle.lb_check.specs.Solutions.{Inputs}
use Rattle.lb_check.specs.declared.verdict.Verdict.{Verdict}
use Rattle.lb_flat.specs.Judging.{FlatProgram}
use Rattle.lb_flat.specs.PreparedPrograms.{prepared_props}
use Rattle.lb_flat.specs.Programs.{program_of}
use Rattle.lb_flat.specs.Run.{Ready}
use Rattle.lb_flat.proofs.ordering.Ordering.{ready_of}
use Rattle.lb_machine.specs.Meaning.{Lane}
use Rattle.lb_machine.specs.declared.instruction.PlaneId.{PlaneId}
use Rattle.lb_machine.specs.declared.instruction.WordId.{WordId}
use Rattle.lb_sim.specs.InputRows.{truth_columns, number_columns}
use Rattle.lb_sim.specs.Codes.{Suits}
use Rattle.lb_sim.specs.Compiled.{IsHomeAt}
use Rattle.lb_sim.specs.LaneStates.{IsCodeIn, HoldSame, StandsAt}
use Rattle.lb_sim.specs.declared.place.Holding.{Holding}
use Rattle.lb_sim.specs.declared.program.LaneCode.{LaneCode}
use Rattle.lb_sim.specs.declared.program.LaneProgram.{LaneProgram}

-- ## There is one proof at most

-- two lists of scalars are equal in one way at most
pub scalars_prop : (a b : List Scalar) → IsProp (a ≡ b)
scalars_prop a b = Prim.hlevel prepared_props

-- a lane stands for a trace in one way at most
pub stands_prop :
    (f : FlatProgram) (kept : List Holding) (s : Lane) (v : Verdict) (active : Bool) (steps : ℕ)
    (X : Inputs) → IsProp (StandsAt f kept s v active steps X)
stands_prop f kept s v active steps X = Prim.hlevel prepared_props

-- ## Places

module _ (p : LaneProgram) where
  abbrev f : FlatProgram
  f = program_of p.program.now

  -- the equations of the program stand in order
  pub program_ready : Ready f.size [] f.equations
  program_ready = ready_of f.size f.equations p.in_order

  -- inputs stand first, then constants, then memories
  pub inputs_planes : 2 + length (truth_columns 0 f.inputs) ≤ p.memory_plane
  inputs_planes = ∥∥₁_elim p.general_law (Prim.hlevel props) (λ h. h.laid_out.inputs_planes)

  pub inputs_words : 1 + length (number_columns 0 f.inputs) ≤ p.constant_word
  inputs_words = ∥∥₁_elim p.general_law (Prim.hlevel props) (λ h. h.laid_out.inputs_words)

  pub constants_words : p.constant_word ≤ p.memory_word
  constants_words = ∥∥₁_elim p.general_law (Prim.hlevel props) (λ h. h.laid_out.constants_words)

  module _ (c : LaneCode) (law : IsCodeIn p c) where
    -- there is a place for each plane of the code
    pub planes_room : c.code.planes ≤ p.planes
    planes_room = ∥∥₁_elim law (Prim.hlevel props) (λ h. h.planes_room)

    -- the memories lie side by side before the code
    pub memory_planes : p.memory_plane + length c.plane_sources.items ≡ c.code.first_plane
    memory_planes = ∥∥₁_elim law (Prim.hlevel props) (λ h. h.compiled.planes_room)

    pub memory_words : p.memory_word + length c.word_sources.items ≡ c.code.first_word
    memory_words = ∥∥₁_elim law (Prim.hlevel props) (λ h. h.compiled.words_room)

    -- the start planes of a program are the planes before the code
    pub start_planes_room : length p.start_planes.items ≡ c.code.first_plane
    start_planes_room = ∥∥₁_elim law (Prim.hlevel props) (λ h. h.laid_out.start_planes_room)

    pub start_words_room : length p.start_words.items ≡ c.code.first_word
    start_words_room = ∥∥₁_elim law (Prim.hlevel props) (λ h. h.laid_out.start_words_room)

    -- there is a place for each word of the code
    pub words_room : c.code.words ≤ p.words
    words_room = ∥∥₁_elim law (Prim.hlevel props) (λ h. h.words_room)

    -- the code has its planes and words in a run of the program
    pub planes_fit : (n m : ℕ) → n ≡ m → m ≡ p.planes → c.code.planes ≤ n
    planes_fit n m same is = omega (arith, same, is, planes_room)

    pub words_fit : (n m : ℕ) → n ≡ m → m ≡ p.words → c.code.words ≤ n
    words_fit n m same is = omega (arith, same, is, words_room)

    -- there is a plane for each Boolean, and a word for each integer, of the inputs
    pub truths_fit :
        (n m : ℕ) → n ≡ length (truth_columns 0 f.inputs) → m ≡ p.planes → 2 + n ≤ m
    truths_fit n m many is =
        omega (arith, many, is, inputs_planes, memory_planes, c.code.more_planes, planes_room)

    pub numbers_fit :
        (n m : ℕ) → n ≡ length (number_columns 0 f.inputs) → m ≡ p.words → 1 + n ≤ m
    numbers_fit n m many is =
        omega (
          arith,
          many,
          is,
          inputs_words,
          constants_words,
          memory_words,
          c.code.more_words,
          words_room,
        )

    -- the planes that are watched are planes of a run of the program
    pub faults_fit : (n m : ℕ) → n ≡ m → m ≡ p.planes → c.watched.faults.0 < n
    faults_fit n m same is =
        let there : c.watched.faults.0 < c.code.planes =
        ∥∥₁_elim law (Prim.hlevel props) (λ h. h.compiled.watches.faults.within) in
        omega (arith, there, same, is, planes_room)

    pub undefined_fit : (n m : ℕ) → n ≡ m → m ≡ p.planes → c.watched.undefined.0 < n
    undefined_fit n m same is =
        let there : c.watched.undefined.0 < c.code.planes =
        ∥∥₁_elim law (Prim.hlevel props) (λ h. h.compiled.watches.undefined.within) in
        omega (arith, there, same, is, planes_room)

    pub failed_fit : (n m : ℕ) → n ≡ m → m ≡ p.planes → c.watched.failed.0 < n
    failed_fit n m same is =
        let there : c.watched.failed.0 < c.code.planes =
        ∥∥₁_elim law (Prim.hlevel props) (λ h. h.compiled.watches.failed.within) in
        omega (arith, there, same, is, planes_room)

    pub violated_fit : (n m : ℕ) → n ≡ m → m ≡ p.planes → c.watched.violated.0 < n
    violated_fit n m same is =
        let there : c.watched.violated.0 < c.code.planes =
        ∥∥₁_elim law (Prim.hlevel props) (λ h. h.compiled.watches.violated.within) in
        omega (arith, there, same, is, planes_room)

    -- ## The sources of memories, which lie behind the memories

    pub planes_carried :
        (n : ℕ) (xs : List PlaneId) → n ≡ p.planes → xs ≡ c.plane_sources.items →
        All (λ (q : PlaneId). p.memory_plane + length xs ≤ q.0 × q.0 < n) xs
    planes_carried n xs is same =
        subst (λ ys. All (λ (q : PlaneId). p.memory_plane + length ys ≤ q.0 × q.0 < n) ys)
        (sym same)
        (λ i d lt.
        let low : c.code.first_plane ≤ (get_or c.plane_sources.items i d).0 =
        ∥∥₁_elim law (Prim.hlevel props) (λ h. (h.laid_out.planes_behind i d lt).0) in
        let high : (get_or c.plane_sources.items i d).0 < c.code.planes =
        ∥∥₁_elim law (Prim.hlevel props) (λ h. (h.laid_out.planes_behind i d lt).1) in
        (omega (arith, low, memory_planes), omega (arith, high, planes_room, is)))

    pub words_carried :
        (n : ℕ) (xs : List WordId) → n ≡ p.words → xs ≡ c.word_sources.items →
        All (λ (w : WordId). p.memory_word + length xs ≤ w.0 × w.0 < n) xs
    words_carried n xs is same =
        subst (λ ys. All (λ (w : WordId). p.memory_word + length ys ≤ w.0 × w.0 < n) ys)
        (sym same)
        (λ i d lt.
        let low : c.code.first_word ≤ (get_or c.word_sources.items i d).0 =
        ∥∥₁_elim law (Prim.hlevel props) (λ h. (h.laid_out.words_behind i d lt).0) in
        let high : (get_or c.word_sources.items i d).0 < c.code.words =
        ∥∥₁_elim law (Prim.hlevel props) (λ h. (h.laid_out.words_behind i d lt).1) in
        (omega (arith, low, memory_words), omega (arith, high, words_room, is)))

    pub word_memories_fit :
        (n : ℕ) (xs : List WordId) → n ≡ p.words → xs ≡ c.word_sources.items →
        p.memory_word + length xs ≤ n
    word_memories_fit n xs is same =
        subst (λ ys. p.memory_word + length ys ≤ n) (sym same)
        (omega (arith, memory_words, c.code.more_words, words_room, is))

    -- ## The lanes that suit a code

    home_within : (k : ℕ) → IsHomeAt p.memory_plane c.code.first_plane k → k < p.planes
    home_within k (inl e) = omega (arith, e, c.code.constants, c.code.more_planes, planes_room)
    home_within k (inr h) = omega (arith, h.1, c.code.more_planes, planes_room)

    -- the planes that a code takes to be false or true are planes of the program
    pub clear_within : All (λ (q : PlaneId). q.0 < p.planes) c.clear.items
    clear_within = λ i d lt.
        ∥∥₁_elim law (Prim.hlevel props)
        (λ h. home_within (get_or c.clear.items i d).0 (h.clear_homes i d lt))

    pub set_within : All (λ (q : PlaneId). q.0 < p.planes) c.set.items
    set_within = λ i d lt.
        ∥∥₁_elim law (Prim.hlevel props)
        (λ h. home_within (get_or c.set.items i d).0 (h.set_homes i d lt))

    -- a lane that suits a code does so as long as its memories do not change
    pub suits_still :
        (s s' : Lane) → HoldSame c.code p.memory_plane p.memory_word s s' → Suits c s → Suits c s'
    suits_still s s' same suits = record {
      clear = λ i d lt.
          let h : s'.bits (get_or c.clear.items i d).0 ≡ s.bits (get_or c.clear.items i d).0 =
          ∥∥₁_elim law (Prim.hlevel props)
          (λ h. same.planes (get_or c.clear.items i d).0 (h.clear_homes i d lt)) in
          h ∙ suits.clear i d lt;
      set = λ i d lt.
          let h : s'.bits (get_or c.set.items i d).0 ≡ s.bits (get_or c.set.items i d).0 =
          ∥∥₁_elim law (Prim.hlevel props)
          (λ h. same.planes (get_or c.set.items i d).0 (h.set_homes i d lt)) in
          h ∙ suits.set i d lt;
    }

-- each lane suits code that takes nothing for granted
pub suits_any : (c : LaneCode) (s : Lane) → c.clear.items ≡ [] → c.set.items ≡ [] → Suits c s
suits_any c s no_clear no_set = record {
  clear =
      subst (λ ps. All (λ (q : PlaneId). s.bits q.0 ≡ false) ps) (sym no_clear)
      (λ i d lt. absurd (omega (arith, lt)));
  set =
      subst (λ ps. All (λ (q : PlaneId). s.bits q.0 ≡ true) ps) (sym no_set)
      (λ i d lt. absurd (omega (arith, lt)));
}
