-- Tables of holdings that stand in for memories: the loop that fills one, and the table of the
-- memories themselves.
use Rattle.std.proofs.Common.{◌≡◌, ℕ, ◌+◌, ◌<◌, ◌≤◌, List, []}
use Rattle.std.proofs.Common.{◌∷◌, length}
use Rattle.std.proofs.Common.{get_or, set as put, take, All, refl, sym, ap, ◌∙◌, subst, arith}
use Rattle.std.proofs.Common.{replicate}
use Rattle.std.proofs.lemmas.List.{get_or-replicate, length-replicate}
use Rattle.std.proofs.lemmas.List.Elements.{All-set}
use Rattle.lb_syntax.specs.Lists.{Every}
use Rattle.lb_syntax.specs.declared.tree.Kind.{Kind}
use Rattle.lb_check.specs.Scalars.{Scalar}
use Rattle.lb_flat.specs.Flat.{Operation, Input, Constant, Copy, ApplyUnary, ApplyBinary, Choose}
use Rattle.lb_flat.specs.Flat.{FirstThen, Previous, Latest, Sample, FlatEquation}
use Rattle.lb_flat.specs.Judging.{FlatProgram}
use Rattle.lb_flat.specs.Run.{Ready}
use Rattle.lb_machine.specs.Meaning.{Lane, HasConstants}
use Rattle.lb_machine.specs.declared.instruction.PlaneId.{PlaneId}
use Rattle.lb_sim.specs.Compiled.{IsHomeAt}
use Rattle.lb_sim.specs.Homes.{plane_in, word_in, IsMemory, IsHomeIn}
use Rattle.lb_sim.specs.Presets.{AreMemories, IsMemoryOf}
use Rattle.lb_sim.specs.States.{kept_at, no_holding}
use Rattle.lb_sim.specs.Steady.{AreClear, AreSet, IsBelow, IsFlagIn, IsHeldFor, ShowsMemory}
use Rattle.lb_sim.specs.Steady.{IsNotNil, IsSteadyFor, AreHeldFor, ShowsMemories, IsTableOf}
use Rattle.lb_sim.specs.declared.place.Holding.{Holding}
use Rattle.lb_sim.specs.declared.preset.Preset.{Preset}
use Rattle.lb_sim.proofs.Filling.{IsFilling, filling_none, filling_more, laws_more, all_filled}
use Rattle.lb_sim.proofs.HomeRows.{home_below}
use Rattle.lb_sim.proofs.TakenPlaces.{flag_holding}

-- ## One memory

module _ (home held : Holding) (clear clear' set : List PlaneId)
    (h : IsNotNil home held clear clear') where
  pub previous_steady : (v : Scalar) (a : ℕ) →
      IsSteadyFor (Previous v a) home held clear clear' set set
  previous_steady v a = record {
    held_for = h.kind_is;
    below = λ planes words two one g. h.below planes words two g;
    shows = λ s flag c off on. h.shows s c off;
    clear_before = h.clear_before;
    set_before = λ s g. g;
    clear_homes = h.clear_homes;
    set_homes = λ first end at g. g;
  }

  pub latest_steady : (v : Scalar) (a : ℕ) →
      IsSteadyFor (Latest v a) home held clear clear' set set
  latest_steady v a = record {
    held_for = h.kind_is;
    below = λ planes words two one g. h.below planes words two g;
    shows = λ s flag c off on. h.shows s c off;
    clear_before = h.clear_before;
    set_before = λ s g. g;
    clear_homes = h.clear_homes;
    set_homes = λ first end at g. g;
  }

-- ## The loop

-- the memories of the first `i` equations have holdings that stand in for them
pub record IsSteadying (f : FlatProgram) (mp np nw : ℕ) (kept table : List Holding)
    (clear set : List PlaneId) (i : ℕ) : Type 0 where
  pub filling : IsFilling f.size f.equations table i
  pub below : All (IsBelow np nw) table
  pub held_for : AreHeldFor kept table (take i f.equations)
  pub shows :
      (s : Lane) → HasConstants s → AreClear clear s → AreSet set s →
      ShowsMemories s kept table (take i f.equations)
  pub clear_homes : All (λ (p : PlaneId). IsHomeAt mp np p.0) clear
  pub set_homes : All (λ (p : PlaneId). IsHomeAt mp np p.0) set

-- ## The memories themselves

flag_in : (kind : Kind) (W : ℕ → Type 0) (o : Operation) (h : Holding) → IsMemory kind W o h →
    IsFlagIn o h
flag_in kind W (FirstThen s a b) h m = flag_holding h m
flag_in kind W (Previous v a) h m = tt
flag_in kind W (Latest v a) h m = tt
flag_in kind W (Input j) h m = tt
flag_in kind W (Constant v) h m = tt
flag_in kind W (Copy a) h m = tt
flag_in kind W (ApplyUnary op a) h m = tt
flag_in kind W (ApplyBinary op a b) h m = tt
flag_in kind W (Choose c a b) h m = tt
flag_in kind W (Sample a) h m = tt

same_kind : (o : Operation) (h : Holding) → IsFlagIn o h → IsHeldFor o h h
same_kind (FirstThen s a b) h m = m
same_kind (Previous v a) h m = refl
same_kind (Latest v a) h m = refl
same_kind (Input j) h m = tt
same_kind (Constant v) h m = tt
same_kind (Copy a) h m = tt
same_kind (ApplyUnary op a) h m = tt
same_kind (ApplyBinary op a b) h m = tt
same_kind (Choose c a b) h m = tt
same_kind (Sample a) h m = tt

same_shown : (s : Lane) (o : Operation) (h : Holding) → ShowsMemory s o h h
same_shown s (FirstThen x a b) h = refl
same_shown s (Previous v a) h = refl
same_shown s (Latest v a) h = refl
same_shown s (Input j) h = tt
same_shown s (Constant v) h = tt
same_shown s (Copy a) h = tt
same_shown s (ApplyUnary op a) h = tt
same_shown s (ApplyBinary op a b) h = tt
same_shown s (Choose c a b) h = tt
same_shown s (Sample a) h = tt

module _ (f : FlatProgram) (mp mw : ℕ) (preset : Preset) (kept : List Holding)
    (m : AreMemories f mp mw preset kept) where
  abbrev np : ℕ
  np = length preset.planes.items

  abbrev nw : ℕ
  nw = length preset.words.items

  home_is_below : (h : Holding) → IsHomeIn mp np mw nw h → IsBelow np nw h
  home_is_below h g =
      let few : 0 < length preset.planes.items = omega (arith, preset.two_planes) in
      let some : 0 < length preset.words.items = omega (arith, preset.one_word) in
      record {
        plane = home_below mp np (plane_in h.value) few g.plane;
        word = home_below mw nw (word_in h.value) some g.word;
        nil = home_below mp np h.nil.0 few g.nil;
        bad = home_below mp np h.bad.0 few g.bad;
      }

  all_alike : (Q : List FlatEquation) →
      Every (λ (q : FlatEquation). IsMemoryOf f q (kept_at kept q.element)) Q →
      AreHeldFor kept kept Q
  all_alike [] h = tt
  all_alike (q ∷ Q) h = (
    same_kind q.operation (kept_at kept q.element)
        (flag_in _ _ q.operation (kept_at kept q.element) h.0),
    all_alike Q h.1,
  )

  all_shown : (s : Lane) (Q : List FlatEquation) → ShowsMemories s kept kept Q
  all_shown s [] = tt
  all_shown s (q ∷ Q) = (same_shown s q.operation (kept_at kept q.element), all_shown s Q)

  -- the table of the memories shows them in each lane
  pub own_table : IsTableOf f mp np nw kept kept [] []
  own_table = record {
    as_long = m.as_long;
    below = λ k d lt. home_is_below (get_or kept k d) (m.homes k d lt);
    held_for = all_alike f.equations m.memories;
    shows = λ s c off on. all_shown s f.equations;
    clear_homes = λ k d lt. absurd (omega (arith, lt));
    set_homes = λ k d lt. absurd (omega (arith, lt));
  }

  nothing_below : IsBelow np nw no_holding
  nothing_below = record {
    plane = omega (arith, preset.two_planes);
    word = omega (arith, preset.one_word);
    nil = omega (arith, preset.two_planes);
    bad = omega (arith, preset.two_planes);
  }

  pub steadying_none :
      (table : List Holding) → Ready f.size [] f.equations →
      table ≡ replicate f.size no_holding → IsSteadying f mp np nw kept table [] [] 0
  steadying_none table ready is =
      let long = ap length is ∙ length-replicate f.size no_holding in
      record {
        filling = filling_none f.size f.equations table ready long;
        below = λ k d lt.
            subst (IsBelow np nw)
            (sym (ap (λ l. get_or l k d) is
            ∙ get_or-replicate f.size k no_holding d (omega (arith, lt, long))))
            nothing_below;
        held_for = tt;
        shows = λ s c off on. tt;
        clear_homes = λ k d lt. absurd (omega (arith, lt));
        set_homes = λ k d lt. absurd (omega (arith, lt));
      }

  module _ (table : List Holding) (clear set : List PlaneId) (i : ℕ)
      (h : IsSteadying f mp np nw kept table clear set i) where
    -- the next memory has a holding that stands in for it
    pub steadying_more :
        (q : FlatEquation) → i < length f.equations → get_or f.equations i q ≡ q →
        (home held : Holding) → home ≡ kept_at kept q.element → IsMemoryOf f q home →
        IsHomeIn mp np mw nw home → (clear' set' : List PlaneId) →
        IsSteadyFor q.operation home held clear clear' set set' →
        IsSteadying f mp np nw kept (put table q.element held) clear' set' (i + 1)
    steadying_more q lt is home held at memory there clear' set' new =
        let below = new.below np nw preset.two_planes preset.one_word (home_is_below home there) in
        record {
          filling = filling_more f.size f.equations table i h.filling q lt is held;
          below = All-set (IsBelow np nw) table q.element held below h.below;
          held_for =
              laws_more f.size f.equations table i h.filling q lt is held
              (λ x (r : FlatEquation). IsHeldFor r.operation (kept_at kept r.element) x)
              (λ x (r : FlatEquation). IsHeldFor r.operation (kept_at kept r.element) x)
              (λ x r w. w) h.held_for
              (subst (λ x. IsHeldFor q.operation x held) at new.held_for);
          shows = λ s c off on.
              laws_more f.size f.equations table i h.filling q lt is held
              (λ x (r : FlatEquation). ShowsMemory s r.operation (kept_at kept r.element) x)
              (λ x (r : FlatEquation). ShowsMemory s r.operation (kept_at kept r.element) x)
              (λ x r w. w) (h.shows s c (new.clear_before s off) (new.set_before s on))
              (subst (λ x. ShowsMemory s q.operation x held) at
              (new.shows s (flag_in _ _ q.operation home memory) c off on));
          clear_homes = new.clear_homes mp np there.nil h.clear_homes;
          set_homes = new.set_homes mp np there.plane h.set_homes;
        }

    -- at the end all memories have holdings that stand in for them
    pub all_steady : length f.equations ≤ i → IsTableOf f mp np nw kept table clear set
    all_steady le = record {
      as_long = h.filling.as_long;
      below = h.below;
      held_for =
          all_filled (λ x (r : FlatEquation). IsHeldFor r.operation (kept_at kept r.element) x)
          f.equations table i le h.held_for;
      shows = λ s c off on.
          all_filled
          (λ x (r : FlatEquation). ShowsMemory s r.operation (kept_at kept r.element) x)
          f.equations table i le (h.shows s c off on);
      clear_homes = h.clear_homes;
      set_homes = h.set_homes;
    }
