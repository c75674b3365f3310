-- The assembly of a lane program: the places before the code, the code of the equations, the planes
-- that are watched, and the sources of memories.
use Rattle.std.proofs.Common.{◌≡◌, ℕ, zero, suc, ◌+◌, ◌<◌, ◌≤◌, Bool, List, [], ◌∷◌}
use Rattle.std.proofs.Common.{cond, get_or, length}
use Rattle.std.proofs.Common.{map, ℤ, All, refl, sym, ap, ◌∙◌, subst, arith}
use Rattle.lb_syntax.specs.Lists.{Every}
use Rattle.lb_syntax.specs.declared.tree.Kind.{Kind}
use Rattle.lb_syntax.specs.declared.tree.Kind.TheVariants.{Int as Int_kind, Bool as Bool_kind}
use Rattle.lb_check.specs.Scalars.{Scalar}
use Rattle.lb_flat.specs.Fitting.{KindFits}
use Rattle.lb_flat.specs.Flat.{Operation, Input, Constant, Copy, ApplyUnary, ApplyBinary, Choose}
use Rattle.lb_flat.specs.Flat.{FirstThen, Previous, Latest, Sample, FlatEquation}
use Rattle.lb_flat.specs.TemporaryKinds.{kind_among}
use Rattle.lb_flat.specs.Judging.{FlatProgram}
use Rattle.lb_lanes.specs.Planes.{on}
use Rattle.lb_lanes.proofs.OnPlanes.{on-zero}
use Rattle.lb_machine.specs.Correct.{IsGrown, IsPlaneFor}
use Rattle.lb_machine.specs.Listed.{listed}
use Rattle.lb_machine.specs.Meaning.{Lane, HasRun, HasConstants}
use Rattle.lb_machine.specs.declared.code.Code.{Code}
use Rattle.lb_machine.specs.declared.instruction.PlaneId.{PlaneId}
use Rattle.lb_machine.specs.declared.instruction.WordId.{WordId}
use Rattle.lb_sim.specs.Allotted.{IsAllotted, HasKinds, HasKindsIn, HasConstant, HasAllConstants}
use Rattle.lb_sim.specs.Compiled.{IsCompiled, IsHome, IsHomeValue, IsHomeAt, HasConstantWords}
use Rattle.lb_sim.specs.Compiled.{given_at}
use Rattle.lb_sim.specs.Codes.{IsCodeOf, Suits}
use Rattle.lb_sim.specs.Holdings.{IsIn, IsValueIn}
use Rattle.lb_sim.specs.Homes.{plane_in, word_in, IsMemory}
use Rattle.lb_sim.specs.InputRows.{places_of, truth_columns, number_columns}
use Rattle.lb_sim.specs.LaidOut.{IsLaidOut, start_lane}
use Rattle.lb_sim.specs.Layouts.{AreAllotted}
use Rattle.lb_sim.specs.Passing.{AreSources}
use Rattle.lb_sim.specs.Presets.{IsConstant, IsMemoryOf}
use Rattle.lb_sim.specs.Showing.{scalar_at, value_kind}
use Rattle.lb_sim.specs.States.{kept_at, holding_of, present_at, IsShown, IsShownBy}
use Rattle.lb_sim.specs.Steady.{AreClear, AreSet, AreHeldFor, IsHeldFor, IsTableOf, ShowsMemory}
use Rattle.lb_sim.specs.Steady.{ShowsMemories}
use Rattle.lb_sim.specs.Watching.{AreWatched}
use Rattle.lb_sim.specs.declared.allotted.Allotted.{Allotted}
use Rattle.lb_sim.specs.declared.place.Holding.{Holding}
use Rattle.lb_sim.specs.declared.place.Place.{Place}
use Rattle.lb_sim.specs.declared.place.Value.{Value}
use Rattle.lb_sim.specs.declared.place.Value.TheVariants.{Truth, Negated, Number}
use Rattle.lb_sim.specs.declared.place.Watched.{Watched}
use Rattle.lb_sim.specs.declared.program.LaneCode.{LaneCode}
use Rattle.lb_sim.proofs.FirstPlaces.{all_on}

-- ## Before the code

value_in : (code : Code) (v : Value) → plane_in v < code.planes → word_in v < code.words →
    IsValueIn code v
value_in code (Truth p) h g = h
value_in code (Negated p) h g = h
value_in code (Number w) h g = g

inputs_there :
    (code : Code) (j p w : ℕ) (kinds : List Kind) →
    p + length (truth_columns j kinds) ≤ code.planes →
    w + length (number_columns j kinds) ≤ code.words → All (IsValueIn code) (places_of p w kinds)
inputs_there code j p w [] planes words k d lt = absurd (omega (arith, lt))
inputs_there code j p w (Bool_kind ∷ kinds) planes words zero d lt = omega (arith, planes)
inputs_there code j p w (Bool_kind ∷ kinds) planes words (suc k) d lt =
    inputs_there code (suc j) (suc p) w kinds (omega (arith, planes)) words k d (omega (arith, lt))
inputs_there code j p w (Int_kind ∷ kinds) planes words zero d lt = omega (arith, words)
inputs_there code j p w (Int_kind ∷ kinds) planes words (suc k) d lt =
    inputs_there code (suc j) p (suc w) kinds planes (omega (arith, words)) k d (omega (arith, lt))

input_kinds : (p w : ℕ) (kinds : List Kind) → map value_kind (places_of p w kinds) ≡ kinds
input_kinds p w [] = refl
input_kinds p w (Bool_kind ∷ kinds) = ap (λ ks. Bool_kind ∷ ks) (input_kinds (suc p) w kinds)
input_kinds p w (Int_kind ∷ kinds) = ap (λ ks. Int_kind ∷ ks) (input_kinds p (suc w) kinds)

has_kinds :
    (kind : Kind) (first last : ℕ) (start : List ℤ) (W : ℕ → Type 0) (o : Operation)
    (constant home held : Holding) → IsConstant first last start kind o constant →
    IsMemory kind W o home → IsHeldFor o home held → HasKinds kind o constant held
has_kinds kind first last start W (Constant v) constant home held c m h = c.kind_is
has_kinds kind first last start W (FirstThen s a b) constant home held c m h = h
has_kinds kind first last start W (Previous v a) constant home held c m h = λ is. h ∙ m.kind_is is
has_kinds kind first last start W (Latest v a) constant home held c m h = λ is. h ∙ m.kind_is is
has_kinds kind first last start W (Input j) constant home held c m h = tt
has_kinds kind first last start W (Copy a) constant home held c m h = tt
has_kinds kind first last start W (ApplyUnary op a) constant home held c m h = tt
has_kinds kind first last start W (ApplyBinary op a b) constant home held c m h = tt
has_kinds kind first last start W (Choose x a b) constant home held c m h = tt
has_kinds kind first last start W (Sample a) constant home held c m h = tt

has_constant :
    (kind : Kind) (first last : ℕ) (start : List ℤ) (o : Operation) (constant : Holding) →
    (s : Lane) → HasConstants s → HasConstantWords first last start s →
    IsConstant first last start kind o constant → HasConstant s o constant
has_constant kind first last start (Constant v) constant s c w h = h.means s c w
has_constant kind first last start (FirstThen x a b) constant s c w h = tt
has_constant kind first last start (Previous v a) constant s c w h = tt
has_constant kind first last start (Latest v a) constant s c w h = tt
has_constant kind first last start (Input j) constant s c w h = tt
has_constant kind first last start (Copy a) constant s c w h = tt
has_constant kind first last start (ApplyUnary op a) constant s c w h = tt
has_constant kind first last start (ApplyBinary op a b) constant s c w h = tt
has_constant kind first last start (Choose x a b) constant s c w h = tt
has_constant kind first last start (Sample a) constant s c w h = tt

-- an element that is shown with the holding `held` in place of a memory is shown with the memory
shown_by :
    (given : List Scalar) (s : Lane) (places : List Place) (home held : Holding) (o : Operation)
    (v : Scalar) → ShowsMemory s o home held → IsShown given s places held o v →
    IsShown given s places home o v
shown_by given s places home held (FirstThen x a b) v e h =
    h
    ∙ ap
    (λ m. cond m (scalar_at s (holding_of places b)) (scalar_at s (holding_of places a))) e
shown_by given s places home held (Previous w a) v e h = h ∙ e
shown_by given s places home held (Latest w a) v e h =
    h ∙ ap (cond (present_at s places a) (scalar_at s (holding_of places a))) e
shown_by given s places home held (Input j) v e h = h
shown_by given s places home held (Constant w) v e h = h
shown_by given s places home held (Copy a) v e h = h
shown_by given s places home held (ApplyUnary op a) v e h = h
shown_by given s places home held (ApplyBinary op a b) v e h = h
shown_by given s places home held (Choose x a b) v e h = h
shown_by given s places home held (Sample a) v e h = h

all_shown_by :
    (given : List Scalar) (s : Lane) (places : List Place) (kept held : List Holding)
    (Q : List FlatEquation) → ShowsMemories s kept held Q →
    Every (IsShownBy given s places held) Q → Every (IsShownBy given s places kept) Q
all_shown_by given s places kept held [] e h = tt
all_shown_by given s places kept held (q ∷ Q) e h = (
  record {
    present = h.0.present;
    scalar =
        shown_by given s places (kept_at kept q.element) (kept_at held q.element) q.operation
        (scalar_at s (holding_of places q.element)) e.0 h.0.scalar;
  },
  all_shown_by given s places kept held Q e.1 h.1,
)

home_value :
    (code : Code) (mp mw : ℕ) (v : Value) → IsHomeAt mp code.first_plane (plane_in v) →
    IsHomeAt mw code.first_word (word_in v) → IsHomeValue code mp mw v
home_value code mp mw (Truth p) h g = h
home_value code mp mw (Negated p) h g = h
home_value code mp mw (Number w) h g = g

plane_grown : (a b : Code) (v : Lane → Bool) (p : PlaneId) → IsGrown a b → IsPlaneFor a v p →
    IsPlaneFor b v p
plane_grown a b v p g h =
    record { within = omega (arith, h.within, g.planes); means = λ s r. h.means s (g.runs s r) }

watched_later : (f : FlatProgram) (a b : Code) (places : List Place) (w : Watched) → IsGrown a b →
    AreWatched a f places w → AreWatched b f places w
watched_later f a b places w g h = record {
  faults = plane_grown a b _ w.faults g h.faults;
  undefined = plane_grown a b _ w.undefined g h.undefined;
  failed = plane_grown a b _ w.failed g h.failed;
  violated = plane_grown a b _ w.violated g h.violated;
}

-- each equation is shown in a lane that holds the constants
abbrev pub ShowAll : FlatProgram → Code → List Place → (inputs : List Value) →
    (constants held : List Holding) → Type 0
ShowAll f emitted places inputs constants held =
    Every (KindFits f.inputs (kind_among f.kinds)) f.equations →
    (s : Lane) → HasRun (listed emitted.instructions) s →
    HasAllConstants s constants f.equations →
    Every (IsShownBy (given_at s inputs) s places held) f.equations

module _ (f : FlatProgram) (known : Allotted) (a : AreAllotted f known) where
  abbrev start_words : List ℤ
  start_words = known.preset.words.items

  kinds_of_all :
      (held : List Holding) (Q : List FlatEquation) →
      Every
      (λ (q : FlatEquation).
      IsConstant known.constant_word known.memory_word known.preset.words.items
      (kind_among f.kinds q.element) q.operation (kept_at known.constants.items q.element))
      Q →
      Every (λ (q : FlatEquation). IsMemoryOf f q (kept_at known.kept.items q.element)) Q →
      AreHeldFor known.kept.items held Q → Every (HasKindsIn f.kinds known.constants.items held) Q
  kinds_of_all held [] c m h = tt
  kinds_of_all held (q ∷ Q) c m h = (
    has_kinds (kind_among f.kinds q.element) known.constant_word known.memory_word
        known.preset.words.items _ q.operation (kept_at known.constants.items q.element)
        (kept_at known.kept.items q.element) (kept_at held q.element) c.0 m.0 h.0,
    kinds_of_all held Q c.1 m.1 h.1,
  )

  constants_of_all :
      (s : Lane) → HasConstants s →
      HasConstantWords known.constant_word known.memory_word known.preset.words.items s →
      (Q : List FlatEquation) →
      Every
      (λ (q : FlatEquation).
      IsConstant known.constant_word known.memory_word known.preset.words.items
      (kind_among f.kinds q.element) q.operation (kept_at known.constants.items q.element))
      Q → HasAllConstants s known.constants.items Q
  constants_of_all s c w [] h = tt
  constants_of_all s c w (q ∷ Q) h = (
    has_constant (kind_among f.kinds q.element) known.constant_word known.memory_word
        known.preset.words.items q.operation (kept_at known.constants.items q.element) s c w h.0,
    constants_of_all s c w Q h.1,
  )

  module _ (held : List Holding) (clear set : List PlaneId)
      (table : IsTableOf f known.memory_plane (length known.preset.planes.items)
      (length known.preset.words.items) known.kept.items held clear set) where
    -- the holdings that stand in for memories have their places in the code
    pub table_in :
        (code : Code) → length known.preset.planes.items ≤ code.planes →
        length known.preset.words.items ≤ code.words → All (IsIn code) held
    table_in code planes words = λ k d lt.
        let h = table.below k d lt in
        record {
          value =
              value_in code (get_or held k d).value (omega (arith, h.plane, planes))
              (omega (arith, h.word, words));
          nil = omega (arith, h.nil, planes);
          bad = omega (arith, h.bad, planes);
        }

    -- the places before the code are as the code of the equations asks for
    pub is_allotted :
        (code : Code) → code.planes ≡ length known.preset.planes.items →
        code.words ≡ length known.preset.words.items →
        IsAllotted f code known.inputs.items known.constants.items held
    is_allotted code planes words = record {
      inputs_in =
          subst (All (IsValueIn code)) (sym a.inputs_at)
          (inputs_there code 0 2 1 f.inputs (omega (arith, planes, a.inputs_planes, a.planes_room))
          (omega (arith, words, a.inputs_words, a.constants_words, a.words_room)));
      constants_in = λ k d lt.
          let h = a.constants.fixed k d lt in
          record {
            value =
                value_in code (get_or known.constants.items k d).value
                (omega (arith, h.plane, planes, known.preset.two_planes))
                (omega (arith, h.word, words, a.words_room));
            nil = omega (arith, h.nil, planes, known.preset.two_planes);
            bad = omega (arith, h.bad, planes, known.preset.two_planes);
          };
      kept_in = table_in code (omega (arith, planes)) (omega (arith, words));
      all_constants = a.constants.as_long;
      all_kept = table.as_long;
      input_kinds = ap (map value_kind) a.inputs_at ∙ input_kinds 2 1 f.inputs;
      kinds =
          kinds_of_all held f.equations a.constants.constants a.memories.memories table.held_for;
    }

  -- ## The code behind these places

  module _ (held : List Holding) (clear set : List PlaneId)
      (table : IsTableOf f known.memory_plane (length known.preset.planes.items)
      (length known.preset.words.items) known.kept.items held clear set)
      (emitted watching code : Code) (places : List Place) (w : Watched)
      (P : List PlaneId) (W : List WordId)
      (planes : code.first_plane ≡ length known.preset.planes.items)
      (words : code.first_word ≡ length known.preset.words.items)
      (watching_grown : IsGrown emitted watching) (grown : IsGrown watching code)
      (sources :
      AreSources f code places known.kept.items held known.memory_plane known.memory_word P W)
    where
      all_homes : All (IsHome code known.memory_plane known.memory_word) known.kept.items
      all_homes k d lt =
          let h = a.memories.homes k d lt in
          let g = get_or known.kept.items k d in
          let end_p = sym planes in
          let end_w = sym words in
          record {
            value =
                home_value code known.memory_plane known.memory_word g.value
                (subst (λ n. IsHomeAt known.memory_plane n (plane_in g.value)) end_p h.plane)
                (subst (λ n. IsHomeAt known.memory_word n (word_in g.value)) end_w h.word);
            nil = subst (λ n. IsHomeAt known.memory_plane n g.nil.0) end_p h.nil;
            bad = subst (λ n. IsHomeAt known.memory_plane n g.bad.0) end_p h.bad;
          }

      is_compiled :
          (Suited : Lane → Type 0) → ((s : Lane) → Suited s → AreClear clear s) →
          ((s : Lane) → Suited s → AreSet set s) → length places ≡ f.size →
          ShowAll f emitted places known.inputs.items known.constants.items held →
          AreWatched watching f places w →
          IsCompiled f code known.inputs.items places known.kept.items w known.preset.words.items
          known.constant_word known.memory_plane known.memory_word P W Suited
      is_compiled Suited off on long shown watches = record {
        as_long = long;
        homes = all_homes;
        planes_room = sources.planes_room;
        words_room = sources.words_room;
        shown = λ K fits s r c suited.
            let run = grown.runs s r in
            all_shown_by (given_at s known.inputs.items) s places known.kept.items held f.equations
            (table.shows s r.constants (off s suited) (on s suited))
            (shown fits.kinds s (watching_grown.runs s run)
            (constants_of_all s r.constants c f.equations a.constants.constants));
        watches = watched_later f watching code places w grown watches;
        moved = λ K fits s s' r c suited over quiet.
            sources.moved fits.kinds s s' r
            (table.shows s r.constants (off s suited) (on s suited)) over quiet;
      }

      starts : (i : ℕ) → i < 64 →
          HasConstants (start_lane known.preset.planes.items known.preset.words.items i)
      starts i lt = record {
        nowhere = ap (λ n. on n i) known.preset.nowhere ∙ on-zero i;
        everywhere = ap (λ n. on n i) known.preset.everywhere ∙ all_on i lt;
        zero = known.preset.zero;
      }

      is_laid_out :
          IsLaidOut f code known.inputs.items known.kept.items known.preset.planes.items
          known.preset.words.items known.constant_word known.memory_plane known.memory_word P W
      is_laid_out = record {
        inputs_at = a.inputs_at;
        inputs_planes = a.inputs_planes;
        inputs_words = a.inputs_words;
        constants_words = a.constants_words;
        planes_behind = sources.planes_behind;
        words_behind = sources.words_behind;
        start_planes_room = sym planes;
        start_words_room = sym words;
        start_constants = starts;
        start_state = a.memories.start;
      }

  -- the assembled code is code of the program
  module _ (c : LaneCode) (held : List Holding)
      (table : IsTableOf f known.memory_plane (length known.preset.planes.items)
      (length known.preset.words.items) known.kept.items held c.clear.items c.set.items)
      (emitted watching : Code)
      (planes : c.code.first_plane ≡ length known.preset.planes.items)
      (words : c.code.first_word ≡ length known.preset.words.items)
      (watching_grown : IsGrown emitted watching) (grown : IsGrown watching c.code)
      (sources :
      AreSources f c.code c.places.items known.kept.items held known.memory_plane known.memory_word
      c.plane_sources.items c.word_sources.items)
      (long : length c.places.items ≡ f.size)
      (shown : ShowAll f emitted c.places.items known.inputs.items known.constants.items held)
      (watches : AreWatched watching f c.places.items c.watched) where
    pub is_code :
        IsCodeOf f known.inputs.items known.kept.items known.preset.planes.items
        known.preset.words.items known.constant_word known.memory_plane known.memory_word
        c.code.planes c.code.words c
    is_code = record {
      compiled =
          is_compiled held c.clear.items c.set.items table emitted watching c.code c.places.items
          c.watched c.plane_sources.items c.word_sources.items planes words watching_grown grown
          sources (Suits c) (λ s h. h.clear) (λ s h. h.set) long shown watches;
      laid_out =
          is_laid_out held c.clear.items c.set.items table emitted watching c.code c.places.items
          c.watched c.plane_sources.items c.word_sources.items planes words watching_grown grown
          sources;
      planes_room = omega arith;
      words_room = omega arith;
      clear_homes =
          subst
          (λ n. All (λ (p : PlaneId). IsHomeAt known.memory_plane n p.0) c.clear.items)
          (sym planes) table.clear_homes;
      set_homes =
          subst
          (λ n. All (λ (p : PlaneId). IsHomeAt known.memory_plane n p.0) c.set.items)
          (sym planes) table.set_homes;
    }

-- code within `planes` and `words` is within more planes and words
pub code_within :
    (f : FlatProgram) (inputs : List Value) (kept : List Holding) (start_planes : List ℕ)
    (start_words : List ℤ) (cw mp mw planes words planes' words' : ℕ) (c : LaneCode) →
    planes ≤ planes' → words ≤ words' →
    IsCodeOf f inputs kept start_planes start_words cw mp mw planes words c →
    IsCodeOf f inputs kept start_planes start_words cw mp mw planes' words' c
code_within f inputs kept start_planes start_words cw mp mw planes words planes' words' c p w h =
    record {
      compiled = h.compiled;
      laid_out = h.laid_out;
      planes_room = omega (arith, h.planes_room, p);
      words_room = omega (arith, h.words_room, w);
      clear_homes = h.clear_homes;
      set_homes = h.set_homes;
    }
