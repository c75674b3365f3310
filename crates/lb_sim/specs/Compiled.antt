-- A lane program stands for a flat one: what its code makes each lane show, whatever the other
-- lanes hold.
-- Source: this project's rule.
use Rattle.std.specs.Prelude.{◌≡◌, ◌≤◌, ◌⊎◌, ℕ, ◌+◌, ◌<◌, false, List, ℤ, pos, slice_index_or}
use Rattle.std.specs.Prelude.{length, map, All}
use Rattle.lb_syntax.specs.Lists.{Every}
use Rattle.lb_check.specs.Scalars.{Scalar}
use Rattle.lb_check.specs.Verdicts.{is_bad}
use Rattle.lb_flat.specs.TemporaryKinds.{kind_among}
use Rattle.lb_flat.specs.Fitting.{IsFitting}
use Rattle.lb_flat.specs.Flat.{FlatClock}
use Rattle.lb_flat.specs.Judging.{FlatProgram, some_in, named_elements}
use Rattle.lb_machine.specs.Listed.{listed}
use Rattle.lb_machine.specs.Meaning.{Lane, HasRun}
use Rattle.lb_machine.specs.declared.code.Code.{Code}
use Rattle.lb_machine.specs.declared.instruction.PlaneId.{PlaneId}
use Rattle.lb_machine.specs.declared.instruction.WordId.{WordId}
use Rattle.lb_sim.specs.Showing.{value_at, row_at}
use Rattle.lb_sim.specs.States.{kept_at, IsShownBy, IsMoved, IsCarriedOver}
use Rattle.lb_sim.specs.Watching.{AreWatched}
use Rattle.lb_sim.specs.declared.place.Holding.{Holding}
use Rattle.lb_sim.specs.declared.place.Place.{Place}
use Rattle.lb_sim.specs.declared.place.Value.{Value}
use Rattle.lb_sim.specs.declared.place.Value.TheVariants.{Truth, Negated, Number}
use Rattle.lb_sim.specs.declared.place.Watched.{Watched}

-- the input scalars of a lane
abbrev pub given_at : Lane → List Value → List Scalar
given_at s inputs = map (value_at s) inputs

-- place `k` is a place of the memories, from `m` to before `first`, or 0, which stands for no place
abbrev pub IsHomeAt : (memories code_places place : ℕ) → Type 0
IsHomeAt m first k = (k ≡ 0) ⊎ ((m ≤ k) × (k < first))

-- the places of a value, and of a holding, are places of the memories
abbrev pub IsHomeValue : Code → ℕ → ℕ → Value → Type 0
IsHomeValue code mp mw (Truth p) = IsHomeAt mp code.first_plane p.0
IsHomeValue code mp mw (Negated p) = IsHomeAt mp code.first_plane p.0
IsHomeValue code mp mw (Number w) = IsHomeAt mw code.first_word w.0

pub record IsHome (code : Code) (mp mw : ℕ) (h : Holding) : Type 0 where
  pub value : IsHomeValue code mp mw h.value
  pub nil : IsHomeAt mp code.first_plane h.nil.0
  pub bad : IsHomeAt mp code.first_plane h.bad.0

-- a lane holds the constants in the words from `m` to before `n`
abbrev pub HasConstantWords : (first memories : ℕ) → List ℤ → Lane → Type 0
HasConstantWords m n start s =
    (w : ℕ) → m ≤ w → w < n → s.ints w ≡ slice_index_or start w (pos 0)

-- code shows the elements of the flat program and the planes that are watched, and moves the
-- memories from an instant to the next, in each lane that suits the code
pub record IsCompiled (f : FlatProgram) (code : Code) (inputs : List Value) (places : List Place)
    (kept : List Holding) (watched : Watched) (start_words : List ℤ)
    (constant_word memory_plane memory_word : ℕ)
    (plane_sources : List PlaneId) (word_sources : List WordId) (Suited : Lane → Type 0) :
    Type 0 where
  pub as_long : length places ≡ f.size
  pub homes : All (IsHome code memory_plane memory_word) kept
  pub planes_room : memory_plane + length plane_sources ≡ code.first_plane
  pub words_room : memory_word + length word_sources ≡ code.first_word
  pub shown :
      (K : ℕ → FlatClock) → IsFitting f.inputs K (kind_among f.kinds) f.equations →
      (s : Lane) → HasRun (listed code.instructions) s →
      HasConstantWords constant_word memory_word start_words s → Suited s →
      Every (IsShownBy (given_at s inputs) s places kept) f.equations
  pub watches : AreWatched code f places watched
  pub moved :
      (K : ℕ → FlatClock) → IsFitting f.inputs K (kind_among f.kinds) f.equations →
      (s s' : Lane) → HasRun (listed code.instructions) s →
      HasConstantWords constant_word memory_word start_words s → Suited s →
      IsCarriedOver memory_plane memory_word plane_sources word_sources s s' →
      some_in is_bad (row_at s places) (named_elements f) ≡ false →
      Every (λ q. IsMoved s s' places (kept_at kept q.element) q.operation) f.equations
