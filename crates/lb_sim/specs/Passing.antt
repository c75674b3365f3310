-- The sources of memories: for each place of a memory, in their order, the place of the code that
-- it takes over at the next instant.
-- Source: this project's rule.
use Rattle.std.specs.Prelude.{◌≡◌, ◌≢◌, ℕ, ◌<◌, ◌≤◌, ◌+◌, ◌||◌, ◌⊎◌, List, [], ◌∷◌, ◌++◌, length}
use Rattle.std.specs.Prelude.{All}
use Rattle.std.specs.Prelude.{if◌then◌else◌, false, get_or}
use Rattle.lb_syntax.specs.Lists.{Every}
use Rattle.lb_syntax.specs.declared.tree.Kind.TheVariants.{Bool as Bool_kind}
use Rattle.lb_check.specs.Verdicts.{is_bad}
use Rattle.lb_flat.specs.Fitting.{KindFits}
use Rattle.lb_flat.specs.Flat.{Operation, FirstThen, Previous, Latest, FlatEquation}
use Rattle.lb_flat.specs.TemporaryKinds.{kind_among}
use Rattle.lb_flat.specs.Judging.{FlatProgram, some_in, named_elements}
use Rattle.lb_machine.specs.Listed.{listed}
use Rattle.lb_machine.specs.Meaning.{Lane, HasRun}
use Rattle.lb_machine.specs.declared.code.Code.{Code}
use Rattle.lb_machine.specs.declared.instruction.PlaneId.{PlaneId}
use Rattle.lb_machine.specs.declared.instruction.WordId.{WordId}
use Rattle.lb_sim.specs.Holdings.{IsFor}
use Rattle.lb_sim.specs.Homes.{plane_in, word_in}
use Rattle.lb_sim.specs.Showing.{scalar_at, kind_of, row_at, IsPlain}
use Rattle.lb_sim.specs.States.{no_place, holding_of, present_at, kept_at, IsMoved, IsCarriedOver}
use Rattle.lb_sim.specs.Steady.{ShowsMemories}
use Rattle.lb_sim.specs.declared.place.Holding.{Holding}
use Rattle.lb_sim.specs.declared.place.Place.{Place}
use Rattle.lb_sim.specs.declared.sources.Copies.{Copies}

-- a plane, and a word, that the code writes and that equals plane or word `next`
pub record IsPlaneSource (code : Code) (next : ℕ) (p : PlaneId) : Type 0 where
  pub own : code.first_plane ≤ p.0
  pub within : p.0 < code.planes
  pub means : (s : Lane) → HasRun (listed code.instructions) s → s.bits p.0 ≡ s.bits next

pub record IsWordSource (code : Code) (next : ℕ) (w : WordId) : Type 0 where
  pub own : code.first_word ≤ w.0
  pub within : w.0 < code.words
  pub means : (s : Lane) → HasRun (listed code.instructions) s → s.ints w.0 ≡ s.ints next

-- two planes that the code writes: one is false everywhere, the other true
pub record AreCopies (code : Code) (c : Copies) : Type 0 where
  pub nowhere : IsPlaneSource code 0 c.nowhere
  pub everywhere : IsPlaneSource code 1 c.everywhere

-- `new` is `old` with one source added
pub record IsAdded {A : Type 0} (IsSource : A → Type 0) (old new : List A) : Type 0 where
  pub source : A
  pub items : new ≡ old ++ source ∷ []
  pub law : IsSource source

-- one source is added for a memory place `home` other than 0, and none for 0
abbrev pub IsTaken : {A : Type 0} → (A → Type 0) → ℕ → List A → List A → Type 0
IsTaken IsSource home old new =
    ((home ≡ 0) × (new ≡ old)) ⊎ ((home ≢ 0) × IsAdded IsSource old new)

-- the sources of the memory at `home`, which takes over the holding `next`
pub record AreTaken (code : Code) (home next : Holding) (planes planes' : List PlaneId)
    (words words' : List WordId) : Type 0 where
  pub after_value : List PlaneId
  pub after_nil : List PlaneId
  pub value :
      IsTaken (IsPlaneSource code (plane_in next.value)) (plane_in home.value) planes after_value
  pub nil : IsTaken (IsPlaneSource code next.nil.0) home.nil.0 after_value after_nil
  pub bad : IsTaken (IsPlaneSource code next.bad.0) home.bad.0 after_nil planes'
  pub word :
      IsTaken (IsWordSource code (word_in next.value)) (word_in home.value) words words'

-- `g` is the flag of `->` at the next instant: a first tick is over, or the operand is present
pub record IsNextFlag (code : Code) (held : Holding) (present : ℕ) (g : Holding) : Type 0 where
  pub kind_is : kind_of g ≡ Bool_kind
  pub means :
      (s : Lane) → HasRun (listed code.instructions) s →
      s.bits (plane_in g.value) ≡ (s.bits (plane_in held.value) || s.bits present)

-- `g` is the cell of a memory at the next instant: the operand where it is present, and the memory
-- elsewhere
pub record IsNextCell (code : Code) (places : List Place) (a : ℕ) (held g : Holding) : Type 0 where
  pub plain : IsPlain g.value
  pub is_for :
      kind_of (holding_of places a) ≡ kind_of held →
      IsFor code (kind_of (holding_of places a))
      (λ s. if present_at s places a then scalar_at s (holding_of places a) else scalar_at s held)
      g

-- `g` is the memory of an operation at the next instant, where `held` shows the memory now
abbrev pub IsNextOf : Code → List Place → Holding → Operation → Holding → Type 0
IsNextOf code places held (FirstThen started a b) g =
    IsNextFlag code held (get_or places a no_place).present.0 g
IsNextOf code places held (Previous v a) g = IsNextCell code places a held g
IsNextOf code places held (Latest v a) g = IsNextCell code places a held g
IsNextOf code places held o g = Unit {0}

-- the sources of all memories of a program, whose places begin at `plane` and `word`, where the
-- holdings of `held` show the memories now
pub record AreSources (f : FlatProgram) (code : Code) (places : List Place)
    (kept held : List Holding) (plane word : ℕ) (planes : List PlaneId) (words : List WordId) :
    Type 0 where
  pub planes_room : plane + length planes ≡ code.first_plane
  pub words_room : word + length words ≡ code.first_word
  pub planes_behind :
      All (λ (p : PlaneId). code.first_plane ≤ p.0 × p.0 < code.planes) planes
  pub words_behind :
      All (λ (w : WordId). code.first_word ≤ w.0 × w.0 < code.words) words
  pub moved :
      Every (KindFits f.inputs (kind_among f.kinds)) f.equations →
      (s s' : Lane) → HasRun (listed code.instructions) s →
      ShowsMemories s kept held f.equations → IsCarriedOver plane word planes words s s' →
      some_in is_bad (row_at s places) (named_elements f) ≡ false →
      Every (λ (q : FlatEquation). IsMoved s s' places (kept_at kept q.element) q.operation)
      f.equations
