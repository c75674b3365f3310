-- The planes and words before the code runs, and how more of them are added.
-- This file says what data of the program mean.
use Rattle.std.specs.Prelude.{◌≡◌, ℕ, ◌≤◌, ◌<◌, false, List, [], ◌∷◌, ℤ, pos, length}
use Rattle.std.specs.Prelude.{map, All}
use Rattle.std.specs.Prelude.{slice_index, slice_index_or}
use Rattle.lb_syntax.specs.Lists.{Every, In}
use Rattle.lb_syntax.specs.declared.tree.Kind.{Kind}
use Rattle.lb_check.specs.Scalars.{Scalar}
use Rattle.lb_flat.specs.Fitting.{IsOf}
use Rattle.lb_flat.specs.Flat.{Operation, Constant, FlatEquation}
use Rattle.lb_flat.specs.TemporaryKinds.{kind_among}
use Rattle.lb_flat.specs.Judging.{FlatProgram, named_elements}
use Rattle.lb_machine.specs.Meaning.{Lane, HasConstants}
use Rattle.lb_sim.specs.Homes.{plane_in, word_in, is_nil_scalar, is_bad_scalar, IsSet, IsRow}
use Rattle.lb_sim.specs.Homes.{IsCellHome, IsMemory, IsHomeIn, plane_row, word_row}
use Rattle.lb_sim.specs.Compiled.{HasConstantWords}
use Rattle.lb_sim.specs.LaidOut.{start_lane}
use Rattle.lb_sim.specs.Showing.{value_at, value_kind, scalar_at, kind_of}
use Rattle.lb_sim.specs.States.{with_memory, kept_at, equation_in}
use Rattle.lb_sim.specs.declared.place.Holding.{Holding}
use Rattle.lb_sim.specs.declared.place.Value.{Value}
use Rattle.lb_sim.specs.declared.preset.Preset.{Preset}

-- `new` begins with the planes and words of `old`
pub record IsMore (old new : Preset) : Type 0 where
  pub planes : length old.planes.items ≤ length new.planes.items
  pub words : length old.words.items ≤ length new.words.items
  pub same_planes :
      (k : ℕ) → k < length old.planes.items →
      slice_index new.planes.items k ≡ slice_index old.planes.items k
  pub same_words :
      (k : ℕ) → k < length old.words.items →
      slice_index_or new.words.items k (pos 0) ≡ slice_index_or old.words.items k (pos 0)

-- a lane before the first instant
abbrev pub first_lane : Preset → ℕ → Lane
first_lane preset i = start_lane preset.planes.items preset.words.items i

-- value `x` takes the next place, and holds `v`, if `v` is neither nil nor a fault
pub record IsFirstValue (old new : Preset) (kind : Kind) (v : Scalar) (x : Value) : Type 0 where
  pub kind_is : IsOf kind v → value_kind x ≡ kind
  pub is_set : IsSet x
  pub planes : IsRow (length old.planes.items) (plane_in x ∷ []) (length new.planes.items)
  pub words : IsRow (length old.words.items) (word_in x ∷ []) (length new.words.items)
  pub start :
      (i : ℕ) → i < 64 → is_nil_scalar v ≡ false → is_bad_scalar v ≡ false →
      value_at (first_lane new i) x ≡ v

-- holding `h` takes the next places, and holds the scalar `v`
pub record IsFirstHolding (old new : Preset) (kind : Kind) (watched : Type 0)
    (v : Scalar) (h : Holding) : Type 0 where
  pub cell : IsCellHome kind watched v h
  pub planes :
      IsRow (length old.planes.items) (plane_in h.value ∷ h.nil.0 ∷ h.bad.0 ∷ [])
      (length new.planes.items)
  pub words : IsRow (length old.words.items) (word_in h.value ∷ []) (length new.words.items)
  pub start : (i : ℕ) → i < 64 → scalar_at (first_lane new i) h ≡ v

-- the memory of operation `o` takes the next places, and holds the memory that `o` begins with
pub record IsFirstMemory (old new : Preset) (kind : Kind) (watched : ℕ → Type 0)
    (o : Operation) (h : Holding) : Type 0 where
  pub memory : IsMemory kind watched o h
  pub planes :
      IsRow (length old.planes.items) (plane_in h.value ∷ h.nil.0 ∷ h.bad.0 ∷ [])
      (length new.planes.items)
  pub words : IsRow (length old.words.items) (word_in h.value ∷ []) (length new.words.items)
  pub start : (i : ℕ) → i < 64 → with_memory (first_lane new i) h o ≡ o

-- ## All equations of a program

-- a holding with constant planes and with a word below `words`
pub record IsFixed (words : ℕ) (h : Holding) : Type 0 where
  pub plane : plane_in h.value < 2
  pub word : word_in h.value < words
  pub nil : h.nil.0 < 2
  pub bad : h.bad.0 < 2

-- a holding holds the constant `v` in each lane that has the constants from word `first` to before
-- `last`
pub record IsConstantAt (first last : ℕ) (start : List ℤ) (kind : Kind) (v : Scalar)
    (h : Holding) : Type 0 where
  pub kind_is : IsOf kind v → kind_of h ≡ kind
  pub means :
      (s : Lane) → HasConstants s → HasConstantWords first last start s →
      scalar_at s h ≡ v

abbrev pub IsConstant : (first last : ℕ) → List ℤ → Kind → Operation → Holding → Type 0
IsConstant first last start kind (Constant v) h = IsConstantAt first last start kind v h
IsConstant first last start kind o h = Unit {0}

-- a table with the holdings of constants, element by element
pub record AreConstants (f : FlatProgram) (first last : ℕ) (start : List ℤ)
    (table : List Holding) : Type 0 where
  pub as_long : length table ≡ f.size
  pub fixed : All (IsFixed last) table
  pub constants :
      Every
      (λ (q : FlatEquation).
      IsConstant first last start (kind_among f.kinds q.element) q.operation
      (kept_at table q.element))
      f.equations

-- `h` is the memory of equation `q` of program `f`
abbrev pub IsMemoryOf : FlatProgram → FlatEquation → Holding → Type 0
IsMemoryOf f q h =
    IsMemory (kind_among f.kinds q.element) (λ a. In a (named_elements f)) q.operation h

-- a table with the holdings of memories: their places go from `plane` and `word` to the end of the
-- preset, and hold what the memories begin with
pub record AreMemories (f : FlatProgram) (plane word : ℕ) (new : Preset) (table : List Holding) :
    Type 0 where
  pub as_long : length table ≡ f.size
  pub homes :
      All
      (IsHomeIn plane (length new.planes.items) word (length new.words.items))
      table
  pub planes :
      IsRow plane (plane_row table f.equations) (length new.planes.items)
  pub words :
      IsRow word (word_row table f.equations) (length new.words.items)
  pub memories :
      Every (λ (q : FlatEquation). IsMemoryOf f q (kept_at table q.element)) f.equations
  pub start :
      (i : ℕ) → i < 64 → map (equation_in (first_lane new i) table) f.equations ≡ f.equations
