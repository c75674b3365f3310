-- Holdings that stand in for memories: they show what the memories hold, in each lane in which some
-- planes of memories are false and some are true.
-- This file says what data of the program mean.
use Rattle.std.specs.Prelude.{◌≡◌, ℕ, ◌≤◌, ◌<◌, true, false, List, length, All}
use Rattle.lb_syntax.specs.Lists.{Every}
use Rattle.lb_flat.specs.Flat.{Operation, FirstThen, Previous, Latest, FlatEquation}
use Rattle.lb_flat.specs.Judging.{FlatProgram}
use Rattle.lb_machine.specs.Meaning.{Lane, HasConstants}
use Rattle.lb_machine.specs.declared.instruction.PlaneId.{PlaneId}
use Rattle.lb_sim.specs.Allotted.{IsFlagHolding}
use Rattle.lb_sim.specs.Compiled.{IsHomeAt}
use Rattle.lb_sim.specs.Homes.{plane_in, word_in}
use Rattle.lb_sim.specs.Showing.{scalar_at, kind_of}
use Rattle.lb_sim.specs.States.{kept_at, flag_at}
use Rattle.lb_sim.specs.declared.place.Holding.{Holding}

-- all planes of a list are false in a lane, or all are true
abbrev pub AreClear : List PlaneId → Lane → Type 0
AreClear ps s = All (λ (p : PlaneId). s.bits p.0 ≡ false) ps

abbrev pub AreSet : List PlaneId → Lane → Type 0
AreSet ps s = All (λ (p : PlaneId). s.bits p.0 ≡ true) ps

-- the places of a holding are below `planes` and `words`
pub record IsBelow (planes words : ℕ) (h : Holding) : Type 0 where
  pub plane : plane_in h.value < planes
  pub word : word_in h.value < words
  pub nil : h.nil.0 < planes
  pub bad : h.bad.0 < planes

-- ## One memory

-- the memory of `->` is a flag
abbrev pub IsFlagIn : Operation → Holding → Type 0
IsFlagIn (FirstThen started a b) home = IsFlagHolding home
IsFlagIn o home = Unit {0}

-- a holding is of the kind of the memory that it stands in for
abbrev pub IsHeldFor : Operation → (home held : Holding) → Type 0
IsHeldFor (FirstThen started a b) home held = IsFlagHolding held
IsHeldFor (Previous v a) home held = kind_of held ≡ kind_of home
IsHeldFor (Latest v a) home held = kind_of held ≡ kind_of home
IsHeldFor o home held = Unit {0}

-- `held` shows what the memory at `home` holds
abbrev pub ShowsMemory : Lane → Operation → (home held : Holding) → Type 0
ShowsMemory s (FirstThen started a b) home held = flag_at s held ≡ flag_at s home
ShowsMemory s (Previous v a) home held = scalar_at s held ≡ scalar_at s home
ShowsMemory s (Latest v a) home held = scalar_at s held ≡ scalar_at s home
ShowsMemory s o home held = Unit {0}

-- `held` stands in for the memory of `pre` or `current`: it shows what the memory holds where the
-- planes of `clear'` are false; `clear'` is `clear`, or that and a plane of the memory
pub record IsNotNil (home held : Holding) (clear clear' : List PlaneId) : Type 0 where
  pub kind_is : kind_of held ≡ kind_of home
  pub below :
      (planes words : ℕ) → 2 ≤ planes → IsBelow planes words home → IsBelow planes words held
  pub shows :
      (s : Lane) → HasConstants s → AreClear clear' s → scalar_at s held ≡ scalar_at s home
  pub clear_before : (s : Lane) → AreClear clear' s → AreClear clear s
  pub clear_homes :
      (first end : ℕ) → IsHomeAt first end home.nil.0 →
      All (λ (p : PlaneId). IsHomeAt first end p.0) clear →
      All (λ (p : PlaneId). IsHomeAt first end p.0) clear'

-- `held` stands in for any memory: it shows what the memory holds where the planes of `clear'` are
-- false and those of `set'` are true; a list that grows, grows by planes of the memory
pub record IsSteadyFor (o : Operation) (home held : Holding)
    (clear clear' set set' : List PlaneId) : Type 0 where
  pub held_for : IsHeldFor o home held
  pub below :
      (planes words : ℕ) → 2 ≤ planes → 1 ≤ words → IsBelow planes words home →
      IsBelow planes words held
  pub shows :
      (s : Lane) → IsFlagIn o home → HasConstants s → AreClear clear' s → AreSet set' s →
      ShowsMemory s o home held
  pub clear_before : (s : Lane) → AreClear clear' s → AreClear clear s
  pub set_before : (s : Lane) → AreSet set' s → AreSet set s
  pub clear_homes :
      (first end : ℕ) → IsHomeAt first end home.nil.0 →
      All (λ (p : PlaneId). IsHomeAt first end p.0) clear →
      All (λ (p : PlaneId). IsHomeAt first end p.0) clear'
  pub set_homes :
      (first end : ℕ) → IsHomeAt first end (plane_in home.value) →
      All (λ (p : PlaneId). IsHomeAt first end p.0) set →
      All (λ (p : PlaneId). IsHomeAt first end p.0) set'

-- ## All memories of a program

abbrev pub AreHeldFor : (kept held : List Holding) → List FlatEquation → Type 0
AreHeldFor kept held Q =
    Every
    (λ (q : FlatEquation). IsHeldFor q.operation (kept_at kept q.element) (kept_at held q.element))
    Q

abbrev pub ShowsMemories : Lane → (kept held : List Holding) → List FlatEquation → Type 0
ShowsMemories s kept held Q =
    Every
    (λ (q : FlatEquation).
    ShowsMemory s q.operation (kept_at kept q.element) (kept_at held q.element))
    Q

-- a table of holdings shows the memories of a program in each lane in which some planes of memories
-- are false and some are true
pub record IsTableOf (f : FlatProgram) (memory_plane planes words : ℕ) (kept held : List Holding)
    (clear set : List PlaneId) : Type 0 where
  pub as_long : length held ≡ f.size
  pub below : All (IsBelow planes words) held
  pub held_for : AreHeldFor kept held f.equations
  pub shows :
      (s : Lane) → HasConstants s → AreClear clear s → AreSet set s →
      ShowsMemories s kept held f.equations
  pub clear_homes : All (λ (p : PlaneId). IsHomeAt memory_plane planes p.0) clear
  pub set_homes : All (λ (p : PlaneId). IsHomeAt memory_plane planes p.0) set
