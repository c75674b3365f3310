-- The loops that give constants and memories their places: what holds of the first equations, and
-- at the end of all equations.
use Rattle.std.proofs.Common.{◌≡◌, ℕ, ◌+◌, ◌<◌, ◌≤◌, List, [], ◌∷◌, length, get_or, set}
use Rattle.std.proofs.Common.{map, take, All, refl, sym, ap, ap₂, ◌∙◌, subst, arith, inl}
use Rattle.std.proofs.Common.{inr}
use Rattle.std.proofs.Common.{take_all, ◌⊎◌}
use Rattle.std.proofs.Common.{replicate}
use Rattle.std.proofs.lemmas.List.{get_or-replicate, length-replicate}
use Rattle.std.proofs.lemmas.List.Elements.{All-set, All-weaker}
use Rattle.lb_syntax.specs.Lists.{Every, In}
use Rattle.lb_syntax.specs.declared.tree.Kind.{Kind}
use Rattle.lb_check.specs.Scalars.{Scalar}
use Rattle.lb_flat.specs.Flat.{Operation, Input, Constant, Copy, ApplyUnary, ApplyBinary, Choose}
use Rattle.lb_flat.specs.Flat.{FirstThen, Previous, Latest, Sample, FlatEquation}
use Rattle.lb_flat.specs.TemporaryKinds.{kind_among}
use Rattle.lb_flat.specs.Judging.{FlatProgram, named_elements}
use Rattle.lb_flat.specs.Run.{Ready}
use Rattle.lb_machine.specs.Meaning.{Lane}
use Rattle.lb_sim.specs.Compiled.{HasConstantWords}
use Rattle.lb_sim.specs.Homes.{IsRow, IsHomeIn, IsCellHome, IsMemory, plane_in, word_in, plane_row}
use Rattle.lb_sim.specs.Homes.{word_row}
use Rattle.lb_sim.specs.Presets.{IsMore, IsFixed, IsConstant, AreConstants}
use Rattle.lb_sim.specs.Presets.{first_lane}
use Rattle.lb_sim.specs.Presets.{IsFirstMemory, IsMemoryOf, AreMemories}
use Rattle.lb_sim.specs.Showing.{scalar_at}
use Rattle.lb_sim.specs.States.{kept_at, no_holding, flag_of, with_memory, equation_in}
use Rattle.lb_sim.specs.declared.place.Holding.{Holding}
use Rattle.lb_sim.specs.declared.preset.Preset.{Preset}
use Rattle.lb_sim.proofs.Filling.{IsFilling, filling_none, filling_more, laws_more, planes_more}
use Rattle.lb_sim.proofs.Filling.{words_more, all_filled}
use Rattle.lb_sim.proofs.FirstPlaces.{more_none, more_then, scalar_more}
use Rattle.lb_sim.proofs.HomeRows.{home_below, in_wider, in_none, in_row}

-- ## Constants

pub fixed_none : (n : ℕ) → 0 < n → IsFixed n no_holding
fixed_none n lt = record { plane = omega arith; word = lt; nil = omega arith; bad = omega arith }

fixed_more : (n m : ℕ) → n ≤ m → (h : Holding) → IsFixed n h → IsFixed m h
fixed_more n m le h g =
    record { plane = g.plane; word = omega (arith, g.word, le); nil = g.nil; bad = g.bad }

words_before : (first : ℕ) (a b : Preset) → IsMore a b → (s : Lane) →
    HasConstantWords first (length b.words.items) b.words.items s →
    HasConstantWords first (length a.words.items) a.words.items s
words_before first a b m s h = λ w le lt.
    h w le (omega (arith, lt, m.words)) ∙ m.same_words w lt

constant_more :
    (first : ℕ) (a b : Preset) → IsMore a b → (kind : Kind) (o : Operation) (h : Holding) →
    IsConstant first (length a.words.items) a.words.items kind o h →
    IsConstant first (length b.words.items) b.words.items kind o h
constant_more first a b m kind (Constant v) h g = record {
  kind_is = g.kind_is;
  means = λ s c w. g.means s c (words_before first a b m s w);
}
constant_more first a b m kind (Input j) h g = tt
constant_more first a b m kind (Copy x) h g = tt
constant_more first a b m kind (ApplyUnary op x) h g = tt
constant_more first a b m kind (ApplyBinary op x y) h g = tt
constant_more first a b m kind (Choose c x y) h g = tt
constant_more first a b m kind (FirstThen s x y) h g = tt
constant_more first a b m kind (Previous v x) h g = tt
constant_more first a b m kind (Latest v x) h g = tt
constant_more first a b m kind (Sample x) h g = tt

module _ (f : FlatProgram) (old : Preset) where
  abbrev pub first : ℕ
  first = length old.words.items

  -- the law of one constant
  abbrev pub constant_law : Preset → Holding → FlatEquation → Type 0
  constant_law preset h q =
      IsConstant first (length preset.words.items) preset.words.items
      (kind_among f.kinds q.element) q.operation h

  pub record FillsConstants (preset : Preset) (table : List Holding) (i : ℕ) : Type 0 where
    pub filling : IsFilling f.size f.equations table i
    pub more : IsMore old preset
    pub planes : preset.planes.items ≡ old.planes.items
    pub few : length preset.words.items ≤ first + i
    pub fixed : All (IsFixed (length preset.words.items)) table
    pub constants :
        Every (λ (q : FlatEquation). constant_law preset (kept_at table q.element) q)
        (take i f.equations)

  pub constants_none :
      (table : List Holding) → Ready f.size [] f.equations → length table ≡ f.size →
      ((k : ℕ) (d : Holding) → k < length table → get_or table k d ≡ no_holding) →
      FillsConstants old table 0
  constants_none table ready long none = record {
    filling = filling_none f.size f.equations table ready long;
    more = more_none old;
    planes = refl;
    few = omega arith;
    fixed = λ k d lt.
        subst (IsFixed (length old.words.items)) (sym (none k d lt))
        (fixed_none (length old.words.items) (omega (arith, old.one_word)));
    constants = tt;
  }

  pub constants_first :
      (table : List Holding) → Ready f.size [] f.equations →
      table ≡ replicate f.size no_holding → FillsConstants old table 0
  constants_first table ready is =
      let long = ap length is ∙ length-replicate f.size no_holding in
      constants_none table ready long
      (λ k d lt.
      ap (λ l. get_or l k d) is
      ∙ get_or-replicate f.size k no_holding d (omega (arith, lt, long)))

  module _ (preset : Preset) (table : List Holding) (i : ℕ)
      (h : FillsConstants preset table i) where
    pub constants_more :
        (q : FlatEquation) → i < length f.equations → get_or f.equations i q ≡ q →
        (kind : Kind) → kind ≡ kind_among f.kinds q.element → (next : Preset) (g : Holding) →
        IsMore preset next → next.planes.items ≡ preset.planes.items →
        length next.words.items ≤ length preset.words.items + 1 →
        IsFixed (length next.words.items) g →
        IsConstant first (length next.words.items) next.words.items kind q.operation g →
        FillsConstants next (set table q.element g) (i + 1)
    constants_more q lt is kind is_kind next g m planes longer fixed law = record {
      filling = filling_more f.size f.equations table i h.filling q lt is g;
      more = more_then old preset next h.more m;
      planes = planes ∙ h.planes;
      few = omega (arith, longer, h.few);
      fixed =
          All-set (IsFixed (length next.words.items)) table q.element g fixed
          (All-weaker (IsFixed (length preset.words.items)) (IsFixed (length next.words.items))
          (fixed_more (length preset.words.items) (length next.words.items) m.words) table h.fixed);
      constants =
          laws_more f.size f.equations table i h.filling q lt is g (constant_law preset)
          (constant_law next)
          (λ x r w.
          constant_more first preset next m (kind_among f.kinds r.element) r.operation x w)
          h.constants
          (subst (λ k.
          IsConstant first (length next.words.items) next.words.items k q.operation g) is_kind
          law);
    }

    pub constants_all :
        length f.equations ≤ i →
        AreConstants f first (length preset.words.items) preset.words.items table
    constants_all le = record {
      as_long = h.filling.as_long;
      fixed = h.fixed;
      constants = all_filled (constant_law preset) f.equations table i le h.constants;
    }

constant_last :
    (first last : ℕ) (a b : Preset) → IsMore a b → last ≤ length a.words.items → (kind : Kind)
    (o : Operation) (h : Holding) → IsConstant first last a.words.items kind o h →
    IsConstant first last b.words.items kind o h
constant_last first last a b m le kind (Constant v) h g = record {
  kind_is = g.kind_is;
  means = λ s c w.
      g.means s c (λ n low lt. w n low lt ∙ m.same_words n (omega (arith, lt, le)));
}
constant_last first last a b m le kind (Input j) h g = tt
constant_last first last a b m le kind (Copy x) h g = tt
constant_last first last a b m le kind (ApplyUnary op x) h g = tt
constant_last first last a b m le kind (ApplyBinary op x y) h g = tt
constant_last first last a b m le kind (Choose c x y) h g = tt
constant_last first last a b m le kind (FirstThen s x y) h g = tt
constant_last first last a b m le kind (Previous v x) h g = tt
constant_last first last a b m le kind (Latest v x) h g = tt
constant_last first last a b m le kind (Sample x) h g = tt

-- memories behind the constants change no constant
pub constants_last :
    (f : FlatProgram) (first last : ℕ) (a b : Preset) (table : List Holding) → IsMore a b →
    last ≤ length a.words.items → AreConstants f first last a.words.items table →
    AreConstants f first last b.words.items table
constants_last f first last a b table m le h = record {
  as_long = h.as_long;
  fixed = h.fixed;
  constants = all f.equations h.constants;
}
  where
    all : (Q : List FlatEquation) →
        Every (λ (q : FlatEquation).
        IsConstant first last a.words.items (kind_among f.kinds q.element) q.operation
        (kept_at table q.element)) Q →
        Every (λ (q : FlatEquation).
        IsConstant first last b.words.items (kind_among f.kinds q.element) q.operation
        (kept_at table q.element)) Q
    all [] w = tt
    all (q ∷ Q) w = (
      constant_last first last a b m le (kind_among f.kinds q.element) q.operation
          (kept_at table q.element) w.0,
      all Q w.1,
    )

-- ## Memories

memory_same :
    (a b : Preset) (i : ℕ) (h : Holding) (o : Operation) →
    scalar_at (first_lane b i) h ≡ scalar_at (first_lane a i) h →
    with_memory (first_lane b i) h o ≡ with_memory (first_lane a i) h o
memory_same a b i h (Input j) e = refl
memory_same a b i h (Constant v) e = refl
memory_same a b i h (Copy x) e = refl
memory_same a b i h (ApplyUnary op x) e = refl
memory_same a b i h (ApplyBinary op x y) e = refl
memory_same a b i h (Choose c x y) e = refl
memory_same a b i h (FirstThen s x y) e = ap (λ v. FirstThen (flag_of v) x y) e
memory_same a b i h (Previous v x) e = ap (λ v. Previous v x) e
memory_same a b i h (Latest v x) e = ap (λ v. Latest v x) e
memory_same a b i h (Sample x) e = refl

cell_weaker : (kind : Kind) (W W' : Type 0) (v : Scalar) (h : Holding) → (W → W') →
    IsCellHome kind W v h → IsCellHome kind W' v h
cell_weaker kind W W' v h f g = record {
  kind_is = g.kind_is;
  is_set = g.is_set;
  nil = g.nil;
  bad = by g.bad;
}
  where
    by : (h.bad.0 ≡ 0 → ⊥) ⊎ ((h.bad.0 ≡ 0) × W) → (h.bad.0 ≡ 0 → ⊥) ⊎ ((h.bad.0 ≡ 0) × W')
    by (inl n) = inl n
    by (inr e) = inr (e.0, f e.1)

-- a memory that is allowed with watched elements `W` is allowed with more watched elements `W'`
memory_weaker :
    (kind : Kind) (W W' : ℕ → Type 0) (o : Operation) (h : Holding) → ((a : ℕ) → W a → W' a) →
    IsMemory kind W o h → IsMemory kind W' o h
memory_weaker kind W W' (FirstThen s a b) h f g = g
memory_weaker kind W W' (Previous v a) h f g = cell_weaker kind (W a) (W' a) v h (f a) g
memory_weaker kind W W' (Latest v a) h f g = cell_weaker kind (W a) (W' a) v h (f a) g
memory_weaker kind W W' (Input j) h f g = tt
memory_weaker kind W W' (Constant v) h f g = tt
memory_weaker kind W W' (Copy a) h f g = tt
memory_weaker kind W W' (ApplyUnary op a) h f g = tt
memory_weaker kind W W' (ApplyBinary op a b) h f g = tt
memory_weaker kind W W' (Choose c a b) h f g = tt
memory_weaker kind W W' (Sample a) h f g = tt

module _ (f : FlatProgram) (old : Preset) where
  abbrev pub home_law : Preset → Holding → Type 0
  home_law preset h =
      IsHomeIn (length old.planes.items) (length preset.planes.items) (length old.words.items)
      (length preset.words.items) h

  -- the law of one memory
  pub record IsMemoryIn (preset : Preset) (h : Holding) (q : FlatEquation) : Type 0 where
    pub home : home_law preset h
    pub memory : IsMemoryOf f q h
    pub start : (i : ℕ) → i < 64 → with_memory (first_lane preset i) h q.operation ≡ q.operation

  pub record FillsMemories (preset : Preset) (table : List Holding) (i : ℕ) : Type 0 where
    pub filling : IsFilling f.size f.equations table i
    pub more : IsMore old preset
    pub homes : All (home_law preset) table
    pub planes :
        IsRow (length old.planes.items) (plane_row table (take i f.equations))
        (length preset.planes.items)
    pub words :
        IsRow (length old.words.items) (word_row table (take i f.equations))
        (length preset.words.items)
    pub memories :
        Every (λ (q : FlatEquation). IsMemoryIn preset (kept_at table q.element) q)
        (take i f.equations)

  home_more : (a b : Preset) → IsMore a b → (h : Holding) → home_law a h → home_law b h
  home_more a b m h g =
      in_wider (length old.planes.items) (length a.planes.items) (length b.planes.items)
      (length old.words.items) (length a.words.items) (length b.words.items) h m.planes m.words g

  memory_more : (a b : Preset) → IsMore a b → (h : Holding) (q : FlatEquation) →
      IsMemoryIn a h q → IsMemoryIn b h q
  memory_more a b m h q g =
      let few : 0 < length a.planes.items = omega (arith, a.two_planes) in
      let some : 0 < length a.words.items = omega (arith, a.one_word) in
      let mp = length old.planes.items in
      let mw = length old.words.items in
      record {
        home = home_more a b m h g.home;
        memory = g.memory;
        start = λ i lt.
            memory_same a b i h q.operation
            (scalar_more a b m i h
            (home_below mp (length a.planes.items) (plane_in h.value) few g.home.plane)
            (home_below mw (length a.words.items) (word_in h.value) some g.home.word)
            (home_below mp (length a.planes.items) h.nil.0 few g.home.nil)
            (home_below mp (length a.planes.items) h.bad.0 few g.home.bad))
            ∙ g.start i lt;
      }

  pub memories_none :
      (table : List Holding) → Ready f.size [] f.equations → length table ≡ f.size →
      ((k : ℕ) (d : Holding) → k < length table → get_or table k d ≡ no_holding) →
      FillsMemories old table 0
  memories_none table ready long none = record {
    filling = filling_none f.size f.equations table ready long;
    more = more_none old;
    homes = λ k d lt. subst (home_law old) (sym (none k d lt)) (in_none _ _ _ _);
    planes = refl;
    words = refl;
    memories = tt;
  }

  pub memories_first :
      (table : List Holding) → Ready f.size [] f.equations →
      table ≡ replicate f.size no_holding → FillsMemories old table 0
  memories_first table ready is =
      let long = ap length is ∙ length-replicate f.size no_holding in
      memories_none table ready long
      (λ k d lt.
      ap (λ l. get_or l k d) is
      ∙ get_or-replicate f.size k no_holding d (omega (arith, lt, long)))

  module _ (preset : Preset) (table : List Holding) (i : ℕ) (h : FillsMemories preset table i) where
    pub memories_more :
        (q : FlatEquation) → i < length f.equations → get_or f.equations i q ≡ q →
        (kind : Kind) → kind ≡ kind_among f.kinds q.element → (W : ℕ → Type 0) →
        ((a : ℕ) → W a → In a (named_elements f)) → (next : Preset) (g : Holding) →
        IsMore preset next → IsFirstMemory preset next kind W q.operation g →
        FillsMemories next (set table q.element g) (i + 1)
    memories_more q lt is kind is_kind W watched next g m first =
        let home : home_law next g =
        in_row (length old.planes.items) (length preset.planes.items) (length next.planes.items)
        (length old.words.items) (length preset.words.items) (length next.words.items) g
        h.more.planes h.more.words first.planes first.words in
        record {
          filling = filling_more f.size f.equations table i h.filling q lt is g;
          more = more_then old preset next h.more m;
          homes =
              All-set (home_law next) table q.element g home
              (All-weaker (home_law preset) (home_law next) (home_more preset next m) table
              h.homes);
          planes =
              planes_more f.size f.equations table i h.filling q lt is g _ _ _ h.planes
              first.planes;
          words =
              words_more f.size f.equations table i h.filling q lt is g _ _ _ h.words first.words;
          memories =
              laws_more f.size f.equations table i h.filling q lt is g (IsMemoryIn preset)
              (IsMemoryIn next) (memory_more preset next m) h.memories
              (record {
                home = home;
                memory =
                    subst
                    (λ k. IsMemory k (λ a. In a (named_elements f)) q.operation g) is_kind
                    (memory_weaker kind W (λ a. In a (named_elements f)) q.operation g watched
                    first.memory);
                start = first.start;
              });
        }

    memories_of : (Q : List FlatEquation) →
        Every (λ (q : FlatEquation). IsMemoryIn preset (kept_at table q.element) q) Q →
        Every (λ (q : FlatEquation). IsMemoryOf f q (kept_at table q.element)) Q
    memories_of [] w = tt
    memories_of (q ∷ Q) w = (w.0.memory, memories_of Q w.1)

    starts_of : (n : ℕ) → n < 64 → (Q : List FlatEquation) →
        Every (λ (q : FlatEquation). IsMemoryIn preset (kept_at table q.element) q) Q →
        map (equation_in (first_lane preset n) table) Q ≡ Q
    starts_of n lt [] w = refl
    starts_of n lt (q ∷ Q) w =
        ap₂ (λ (o : Operation) (qs : List FlatEquation).
        record { element = q.element; clock = q.clock; operation = o } ∷ qs)
        (w.0.start n lt) (starts_of n lt Q w.1)

    pub memories_all : length f.equations ≤ i →
        AreMemories f (length old.planes.items) (length old.words.items) preset table
    memories_all le =
        let all = all_filled (λ x (q : FlatEquation). IsMemoryIn preset x q) f.equations table i le
        h.memories in
        record {
          as_long = h.filling.as_long;
          homes = h.homes;
          planes =
              subst
              (λ Q. IsRow (length old.planes.items) (plane_row table Q)
              (length preset.planes.items))
              (take_all i f.equations le) h.planes;
          words =
              subst
              (λ Q. IsRow (length old.words.items) (word_row table Q)
              (length preset.words.items))
              (take_all i f.equations le) h.words;
          memories = memories_of f.equations all;
          start = λ n lt. starts_of n lt f.equations all;
        }
