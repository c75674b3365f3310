-- The loop that gives memories their sources, equation by equation.
use Rattle.std.proofs.Common.{◌≡◌, ℕ, ◌+◌, ◌<◌, ◌≤◌, false, List, [], ◌∷◌, ◌++◌, get_or}
use Rattle.std.proofs.Common.{length, take, drop, All, sym, ap, ◌∙◌, subst, arith, add-one}
use Rattle.std.proofs.Common.{take_all, take-suc}
use Rattle.std.proofs.Math.Seq.{drop-cons}
use Rattle.std.proofs.Math.ListN.{drop_of_length-le}
use Rattle.lb_syntax.specs.Lists.{Every}
use Rattle.lb_check.specs.Verdicts.{is_bad}
use Rattle.lb_flat.specs.Fitting.{KindFits}
use Rattle.lb_flat.specs.Flat.{FlatEquation}
use Rattle.lb_flat.specs.TemporaryKinds.{kind_among}
use Rattle.lb_flat.specs.Judging.{FlatProgram, some_in, named_elements}
use Rattle.lb_flat.proofs.lists.Lists.{Every-append, Every-drop}
use Rattle.lb_machine.specs.Correct.{IsGrown}
use Rattle.lb_machine.specs.Listed.{listed}
use Rattle.lb_machine.specs.Meaning.{Lane, HasRun}
use Rattle.lb_machine.specs.declared.code.Code.{Code}
use Rattle.lb_machine.specs.declared.instruction.PlaneId.{PlaneId}
use Rattle.lb_machine.specs.declared.instruction.WordId.{WordId}
use Rattle.lb_sim.specs.Homes.{IsRow, plane_in, word_in, plane_row, word_row}
use Rattle.lb_sim.specs.Passing.{IsPlaneSource, IsWordSource, AreTaken, IsNextOf, AreSources}
use Rattle.lb_sim.specs.Presets.{IsMemoryOf}
use Rattle.lb_sim.specs.Showing.{kind_of, row_at}
use Rattle.lb_sim.specs.States.{kept_at, holding_of, IsMoved, IsCarriedOver}
use Rattle.lb_sim.specs.Steady.{AreHeldFor, IsHeldFor, ShowsMemory, ShowsMemories}
use Rattle.lb_sim.specs.declared.place.Holding.{Holding}
use Rattle.lb_sim.specs.declared.place.Place.{Place}
use Rattle.lb_sim.proofs.Committing.{IsKeptIn}
use Rattle.lb_sim.proofs.Growth.{grown_none, grown_then}
use Rattle.lb_sim.proofs.TakenPlaces.{taken_all, taken_row, carried_before, carried_here}
use Rattle.lb_sim.proofs.TakenPlaces.{IsHandedOver, memory_moves, next_grown}

-- the planes, and the words, that the code writes
abbrev pub IsOwnPlane : Code → PlaneId → Type 0
IsOwnPlane code p = (code.first_plane ≤ p.0) × (p.0 < code.planes)

abbrev pub IsOwnWord : Code → WordId → Type 0
IsOwnWord code w = (code.first_word ≤ w.0) × (w.0 < code.words)

own_planes_grown : (a b : Code) → IsGrown a b → (ps : List PlaneId) → All (IsOwnPlane a) ps →
    All (IsOwnPlane b) ps
own_planes_grown a b g ps h k d lt =
    let x = h k d lt in
    let low : b.first_plane ≤ (get_or ps k d).0 = omega (arith, x.0, g.first_plane) in
    let high : (get_or ps k d).0 < b.planes = omega (arith, x.1, g.planes) in
    (low, high)

own_words_grown : (a b : Code) → IsGrown a b → (ws : List WordId) → All (IsOwnWord a) ws →
    All (IsOwnWord b) ws
own_words_grown a b g ws h k d lt =
    let x = h k d lt in
    let low : b.first_word ≤ (get_or ws k d).0 = omega (arith, x.0, g.first_word) in
    let high : (get_or ws k d).0 < b.words = omega (arith, x.1, g.words) in
    (low, high)

-- ## One memory's sources

module _ (code : Code) (home next : Holding) (mp mw : ℕ) (P P' : List PlaneId) (W W' : List WordId)
    (taken : AreTaken code home next P P' W W') where
  own_plane : (n : ℕ) (p : PlaneId) → IsPlaneSource code n p → IsOwnPlane code p
  own_plane n p h = (h.own, h.within)

  own_word : (n : ℕ) (w : WordId) → IsWordSource code n w → IsOwnWord code w
  own_word n w h = (h.own, h.within)

  pub planes_own : All (IsOwnPlane code) P → All (IsOwnPlane code) P'
  planes_own all =
      taken_all (IsPlaneSource code next.bad.0) 0 home.bad.0 taken.after_nil P' taken.bad
      (IsOwnPlane code) (own_plane next.bad.0)
      (taken_all (IsPlaneSource code next.nil.0) 0 home.nil.0 taken.after_value taken.after_nil
      taken.nil (IsOwnPlane code) (own_plane next.nil.0)
      (taken_all (IsPlaneSource code (plane_in next.value)) 0 (plane_in home.value) P
      taken.after_value taken.value (IsOwnPlane code) (own_plane (plane_in next.value)) all))

  pub words_own : All (IsOwnWord code) W → All (IsOwnWord code) W'
  words_own all =
      taken_all (IsWordSource code (word_in next.value)) 0 (word_in home.value) W W' taken.word
      (IsOwnWord code) (own_word (word_in next.value)) all

  module _ (lt_p : 0 < mp) (lt_w : 0 < mw) (planes words : List ℕ) (end_p end_w : ℕ)
      (row_p : IsRow (mp + length P)
      (plane_in home.value ∷ home.nil.0 ∷ home.bad.0 ∷ planes) end_p)
      (row_w : IsRow (mw + length W) (word_in home.value ∷ words) end_w) where
    row_nil : IsRow (mp + length taken.after_value) (home.nil.0 ∷ home.bad.0 ∷ planes) end_p
    row_nil =
        taken_row (IsPlaneSource code (plane_in next.value)) mp (plane_in home.value) P
        taken.after_value taken.value (home.nil.0 ∷ home.bad.0 ∷ planes) end_p lt_p row_p

    row_bad : IsRow (mp + length taken.after_nil) (home.bad.0 ∷ planes) end_p
    row_bad =
        taken_row (IsPlaneSource code next.nil.0) mp home.nil.0 taken.after_value taken.after_nil
        taken.nil (home.bad.0 ∷ planes) end_p lt_p row_nil

    pub planes_left : IsRow (mp + length P') planes end_p
    planes_left =
        taken_row (IsPlaneSource code next.bad.0) mp home.bad.0 taken.after_nil P' taken.bad planes
        end_p lt_p row_bad

    pub words_left : IsRow (mw + length W') words end_w
    words_left =
        taken_row (IsWordSource code (word_in next.value)) mw (word_in home.value) W W' taken.word
        words end_w lt_w row_w

    module _ (s s' : Lane) (run : HasRun (listed code.instructions) s)
        (over : IsCarriedOver mp mw P' W' s s') where
      carried_nil : (j : ℕ) (d : PlaneId) → j < length taken.after_nil →
          s'.bits (mp + j) ≡ s.bits (get_or taken.after_nil j d).0
      carried_nil =
          carried_before (IsPlaneSource code next.bad.0) mp home.bad.0 taken.after_nil P' taken.bad
          (λ (p : PlaneId). p.0) s.bits s'.bits over.planes_carried

      carried_value : (j : ℕ) (d : PlaneId) → j < length taken.after_value →
          s'.bits (mp + j) ≡ s.bits (get_or taken.after_value j d).0
      carried_value =
          carried_before (IsPlaneSource code next.nil.0) mp home.nil.0 taken.after_value
          taken.after_nil taken.nil (λ (p : PlaneId). p.0) s.bits s'.bits carried_nil

      -- the memories before it are carried over
      pub over_before : IsCarriedOver mp mw P W s s'
      over_before = record {
        planes_carried =
            carried_before (IsPlaneSource code (plane_in next.value)) mp (plane_in home.value) P
            taken.after_value taken.value (λ (p : PlaneId). p.0) s.bits s'.bits carried_value;
        words_carried =
            carried_before (IsWordSource code (word_in next.value)) mw (word_in home.value) W W'
            taken.word (λ (w : WordId). w.0) s.ints s'.ints over.words_carried;
        first_planes = over.first_planes;
        first_words = over.first_words;
      }

      -- the memory itself is carried over
      pub handed : IsHandedOver s s' home next
      handed = record {
        value =
            carried_here (IsPlaneSource code (plane_in next.value)) mp (plane_in home.value) P
            taken.after_value taken.value (λ (p : PlaneId). p.0) s.bits s'.bits carried_value
            (home.nil.0 ∷ home.bad.0 ∷ planes) end_p (plane_in next.value) row_p
            (λ p h. h.means s run);
        nil =
            carried_here (IsPlaneSource code next.nil.0) mp home.nil.0 taken.after_value
            taken.after_nil taken.nil (λ (p : PlaneId). p.0) s.bits s'.bits carried_nil
            (home.bad.0 ∷ planes) end_p next.nil.0 row_nil (λ p h. h.means s run);
        bad =
            carried_here (IsPlaneSource code next.bad.0) mp home.bad.0 taken.after_nil P' taken.bad
            (λ (p : PlaneId). p.0) s.bits s'.bits over.planes_carried planes end_p next.bad.0
            row_bad (λ p h. h.means s run);
        word =
            carried_here (IsWordSource code (word_in next.value)) mw (word_in home.value) W W'
            taken.word (λ (w : WordId). w.0) s.ints s'.ints over.words_carried words end_w
            (word_in next.value) row_w (λ w h. h.means s run);
        now = run.constants.nowhere;
        after = over.first_planes 0 lt_p ∙ run.constants.nowhere;
      }

-- ## The loop

module _ (f : FlatProgram) (places : List Place) (kept held : List Holding) (mp mw : ℕ)
    (before : Code) where
  abbrev IsQuiet : Lane → Type 0
  IsQuiet s = some_in is_bad (row_at s places) (named_elements f) ≡ false

  abbrev AreMoved : Lane → Lane → List FlatEquation → Type 0
  AreMoved s s' Q =
      Every (λ (q : FlatEquation). IsMoved s s' places (kept_at kept q.element) q.operation) Q

  -- the memories of the first i equations have their sources
  pub record IsCommitting (code : Code) (P : List PlaneId) (W : List WordId) (i : ℕ) :
      Type 0 where
    pub grown : IsGrown before code
    pub planes_behind : All (IsOwnPlane code) P
    pub words_behind : All (IsOwnWord code) W
    pub planes : IsRow (mp + length P) (plane_row kept (drop i f.equations)) code.first_plane
    pub words : IsRow (mw + length W) (word_row kept (drop i f.equations)) code.first_word
    pub moved :
        Every (KindFits f.inputs (kind_among f.kinds)) f.equations →
        (s s' : Lane) → HasRun (listed code.instructions) s →
        ShowsMemories s kept held f.equations → IsCarriedOver mp mw P W s s' → IsQuiet s →
        AreMoved s s' (take i f.equations)

  pub committing_none :
      IsRow mp (plane_row kept f.equations) before.first_plane →
      IsRow mw (word_row kept f.equations) before.first_word → IsCommitting before [] [] 0
  committing_none planes words =
      let p : mp ≡ mp + 0 = omega arith in
      let w : mw ≡ mw + 0 = omega arith in
      record {
        grown = grown_none before;
        planes_behind = λ k d lt. absurd (omega (arith, lt));
        words_behind = λ k d lt. absurd (omega (arith, lt));
        planes =
            subst (λ n. IsRow n (plane_row kept f.equations) before.first_plane) p planes;
        words = subst (λ n. IsRow n (word_row kept f.equations) before.first_word) w words;
        moved = λ fits s s' r shows o quiet. tt;
      }

  module _ (code : Code) (P : List PlaneId) (W : List WordId) (i : ℕ)
      (h : IsCommitting code P W i) (lt_p : 0 < mp) (lt_w : 0 < mw) where
    module _ (q : FlatEquation) (lt : i < length f.equations) (is : get_or f.equations i q ≡ q)
      where
        cut_there : drop i f.equations ≡ get_or f.equations i q ∷ drop (i + 1) f.equations
        cut_there = rw (add-one, drop-cons f.equations i q)

        cut : drop i f.equations ≡ q ∷ drop (i + 1) f.equations
        cut = cut_there ∙ ap (λ (r : FlatEquation). r ∷ drop (i + 1) f.equations) is

        front : take (i + 1) f.equations ≡ take i f.equations ++ q ∷ []
        front =
            ap (λ n. take n f.equations) (add-one i) ∙ take-suc f.equations i q lt
            ∙ ap (λ (r : FlatEquation). take i f.equations ++ r ∷ []) is

        -- the next equation's memory gets its sources
        pub commits :
            (home now next : Holding) → home ≡ kept_at kept q.element →
            now ≡ kept_at held q.element → (mid code' : Code) →
            IsGrown code mid → IsGrown mid code' →
            (P' : List PlaneId) (W' : List WordId) → AreTaken code' home next P P' W W' →
            ((e : ℕ) → e < length places → kind_of (holding_of places e) ≡ kind_among f.kinds e) →
            IsMemoryOf f q home → AreHeldFor kept held f.equations → IsKeptIn places q.operation →
            IsNextOf mid places now q.operation next → IsCommitting code' P' W' (i + 1)
        commits home now next at now_at mid code' first second P' W' taken kinds memory alike
            kept_in law =
            let grown = grown_then code mid code' first second in
            let rows_p = subst (λ Q. IsRow (mp + length P) (plane_row kept Q) code.first_plane)
            cut h.planes in
            let rows_w = subst (λ Q. IsRow (mw + length W) (word_row kept Q) code.first_word) cut
            h.words in
            let row_p = subst
            (λ (x : Holding). IsRow (mp + length P)
            (plane_in x.value ∷ x.nil.0 ∷ x.bad.0 ∷ plane_row kept (drop (i + 1) f.equations))
            code.first_plane) (sym at) rows_p in
            let row_w = subst
            (λ (x : Holding). IsRow (mw + length W)
            (word_in x.value ∷ word_row kept (drop (i + 1) f.equations)) code.first_word)
            (sym at) rows_w in
            let IsAlike : FlatEquation → Type 0 = λ x.
            IsHeldFor x.operation (kept_at kept x.element) (kept_at held x.element) in
            let here = (subst (Every IsAlike) cut (Every-drop IsAlike i f.equations alike)).0 in
            let like : IsHeldFor q.operation home now =
            subst (λ (x : Holding). IsHeldFor q.operation x now) (sym at)
            (subst (IsHeldFor q.operation (kept_at kept q.element)) (sym now_at) here) in
            let ps = plane_row kept (drop (i + 1) f.equations) in
            let ws = word_row kept (drop (i + 1) f.equations) in
            record {
              grown = grown_then before code code' h.grown grown;
              planes_behind =
                  planes_own code' home next mp mw P P' W W' taken
                  (own_planes_grown code code' grown P h.planes_behind);
              words_behind =
                  words_own code' home next mp mw P P' W W' taken
                  (own_words_grown code code' grown W h.words_behind);
              planes =
                  subst (λ n. IsRow (mp + length P') ps n) (sym grown.first_plane)
                  (planes_left code' home next mp mw P P' W W' taken lt_p lt_w ps ws
                  code.first_plane code.first_word row_p row_w);
              words =
                  subst (λ n. IsRow (mw + length W') ws n) (sym grown.first_word)
                  (words_left code' home next mp mw P P' W W' taken lt_p lt_w ps ws
                  code.first_plane code.first_word row_p row_w);
              moved = λ fits s s' r shows over quiet.
                  let own = subst (Every (KindFits f.inputs (kind_among f.kinds))) cut
                  (Every-drop (KindFits f.inputs (kind_among f.kinds)) i f.equations fits) in
                  let IsOne : FlatEquation → Type 0 = λ x.
                  ShowsMemory s x.operation (kept_at kept x.element) (kept_at held x.element) in
                  let one = (subst (Every IsOne) cut (Every-drop IsOne i f.equations shows)).0 in
                  let shown : ShowsMemory s q.operation home now =
                  subst (λ (x : Holding). ShowsMemory s q.operation x now) (sym at)
                  (subst (ShowsMemory s q.operation (kept_at kept q.element)) (sym now_at) one) in
                  subst (AreMoved s s') (sym front)
                  (Every-append
                  (λ (x : FlatEquation). IsMoved s s' places (kept_at kept x.element) x.operation)
                  (take i f.equations) (q ∷ [])
                  (h.moved fits s s' (grown.runs s r) shows
                  (over_before code' home next mp mw P P' W W' taken lt_p lt_w ps ws
                  code.first_plane code.first_word row_p row_w s s' r over) quiet) (
                    subst (λ (x : Holding). IsMoved s s' places x q.operation) at
                        (memory_moves code' s s' r places (named_elements f) quiet
                        (kind_among f.kinds) kinds f.inputs (kind_among f.kinds q.element)
                        q.operation home now next own.0 memory like shown kept_in
                        (handed code' home next mp mw P P' W W' taken lt_p lt_w ps ws
                        code.first_plane code.first_word row_p row_w s s' r over)
                        (next_grown mid code' places now q.operation next second law)),
                    tt,
                  ));
            }

    pub all_committed : length f.equations ≤ i →
        AreSources f code places kept held mp mw P W
    all_committed le =
        let none = drop_of_length-le f.equations le in
        record {
          planes_room =
              subst (λ Q. IsRow (mp + length P) (plane_row kept Q) code.first_plane) none
              h.planes;
          words_room =
              subst (λ Q. IsRow (mw + length W) (word_row kept Q) code.first_word) none h.words;
          planes_behind = h.planes_behind;
          words_behind = h.words_behind;
          moved = λ fits s s' r shows over quiet.
              subst (AreMoved s s') (take_all i f.equations le)
              (h.moved fits s s' r shows over quiet);
        }
