-- The inputs that a flat program reads, and rows of inputs that are alike where they are read.
-- Source: this project's rule.
use Rattle.std.specs.Prelude.{◌≡◌, ◌<◌, ◌+◌, ◌++◌, ◌∷◌, ℕ, Bool, true, false, Some, None, List}
use Rattle.std.specs.Prelude.{[], Option, length, get_or, slice_get}
use Rattle.lb_syntax.specs.Lists.{Every}
use Rattle.lb_check.specs.Scalars.{Scalar}
use Rattle.lb_check.specs.Verdicts.{is_bad}
use Rattle.lb_flat.specs.Flat.{Operation, Input, FlatEquation}
use Rattle.lb_flat.specs.Judging.{FlatProgram, truth_elements}
use Rattle.lb_flat.specs.Programs.{program_of}
use Rattle.lb_flat.specs.Run.{clock_reads, keeps, reads}
use Rattle.lb_flat.specs.Values.{operation_of}
use Rattle.lb_flat.specs.declared.equation.Clock.{Clock}
use Rattle.lb_flat.specs.declared.equation.ClockId.{ClockId}
use Rattle.lb_flat.specs.declared.equation.Equation.{Equation}
use Rattle.lb_flat.specs.declared.program.FlatProgram as declared
use Rattle.lb_sim.specs.declared.place.Value.{Value}
use Rattle.lb_sim.specs.declared.place.Value.TheVariants.{Truth, Negated, Number}

-- ## Elements that are read

-- `read` finds the elements that an operation reads, now or for its memory
abbrev pub FindsOperands : (ℕ → Bool) → Operation → Type 0
FindsOperands read o = Every (λ e. read e ≡ true) (reads o ++ keeps o)

-- `read` finds the elements that the clock of an equation reads
abbrev pub FindsClock : (ℕ → Bool) → FlatEquation → Type 0
FindsClock read q = Every (λ e. read e ≡ true) (clock_reads q.clock)

-- `read` finds all elements that a program reads, and those at which a truth is wanted
pub record FindsReads (f : FlatProgram) (read : ℕ → Bool) : Type 0 where
  pub operands : Every (λ q. FindsOperands read q.operation) f.equations
  pub clocks : Every (FindsClock read) f.equations
  pub truths : Every (λ e. read e ≡ true) (truth_elements f)

-- `new` has the marks of `old`, and marks on `elements`
pub record AreMarkedToo (old new : List Bool) (elements : List ℕ) : Type 0 where
  pub as_long : length new ≡ length old
  pub still : (e : ℕ) → get_or old e false ≡ true → get_or new e false ≡ true
  pub marked : Every (λ e. get_or new e false ≡ true) elements

-- the element that clock `k` of a table waits for is marked
abbrev pub IsClockMarked : List Clock → List Bool → Option ClockId → Type 0
IsClockMarked clocks marks k =
    (i : ClockId) (t : Clock) → k ≡ Some i → slice_get clocks i.0 ≡ Some t →
    get_or marks t.element.0 false ≡ true

-- all elements that a program reads are marked, and those at which a truth is wanted
pub record MarksReads (p : declared.FlatProgram) (marks : List Bool) : Type 0 where
  pub as_long : length marks ≡ p.size
  pub clocks :
      (i : ℕ) (t : Clock) → slice_get p.clocks.items i ≡ Some t →
      IsClockMarked p.clocks.items marks t.parent
  pub ticks :
      (i : ℕ) (q : Equation) → slice_get p.equations.items i ≡ Some q →
      IsClockMarked p.clocks.items marks q.clock
  pub operands :
      (i : ℕ) (q : Equation) → slice_get p.equations.items i ≡ Some q →
      FindsOperands (λ e. get_or marks e false) (operation_of q.operation)
  pub truths :
      Every (λ e. get_or marks e false ≡ true) (truth_elements (program_of p))

-- ## Inputs that are loaded

-- the input at a value is loaded: an integer if `numbers` has its place among the integers, a
-- Boolean if `truths` is true
abbrev pub IsLoadedAt : List ℕ → Bool → Value → Type 0
IsLoadedAt numbers truths (Truth p) = truths ≡ true
IsLoadedAt numbers truths (Negated p) = truths ≡ true
IsLoadedAt numbers truths (Number w) =
    (k : ℕ) × (k < length numbers) × (get_or numbers k 0 + 1 ≡ w.0)

-- each input that the old lists load is loaded by the new ones
abbrev pub LoadsStill : (old new : List ℕ) → (old_truths new_truths : Bool) → Type 0
LoadsStill old new old_truths new_truths =
    (v : Value) → IsLoadedAt old old_truths v → IsLoadedAt new new_truths v

-- the value of an input is a plane, or a word that is not the first
abbrev pub IsInputPlace : Value → Type 0
IsInputPlace (Truth p) = Unit {0}
IsInputPlace (Negated p) = Unit {0}
IsInputPlace (Number w) = 0 < w.0

-- where the element of an input is read, the input is loaded
abbrev pub IsLoadedFor :
    (read : Bool) → List Value → (numbers : List ℕ) → (truths : Bool) → Operation → Type 0
IsLoadedFor read inputs numbers truths (Input j) =
    read ≡ true → (v : Value) → slice_get inputs j ≡ Some v → IsLoadedAt numbers truths v
IsLoadedFor read inputs numbers truths o = Unit {0}

-- all inputs that a program reads are loaded
pub record LoadsReads (f : FlatProgram) (inputs : List Value) (numbers : List ℕ) (truths : Bool) :
    Type 0 where
  pub read : ℕ → Bool
  pub finds : FindsReads f read
  pub loads :
      Every
      (λ (q : FlatEquation).
      IsLoadedFor (read q.element) inputs numbers truths q.operation)
      f.equations

-- ## Rows

-- two rows have the same inputs where they are loaded, and no fault in one alone
pub record AreAlike (places : List Value) (numbers : List ℕ) (truths : Bool)
    (given other : List Scalar) : Type 0 where
  pub same :
      (j : ℕ) (v : Value) → slice_get places j ≡ Some v → IsLoadedAt numbers truths v →
      slice_get given j ≡ slice_get other j
  pub bad : (j : ℕ) → is_bad (Some (slice_get given j)) ≡ is_bad (Some (slice_get other j))
  pub there : (j : ℕ) → slice_get places j ≡ None → slice_get given j ≡ slice_get other j

-- two traces are alike, instant by instant
abbrev pub AreAllAlike :
    List Value → (numbers : List ℕ) → (truths : Bool) → (X Y : List (List Scalar)) → Type 0
AreAllAlike places numbers truths [] [] = Unit {0}
AreAllAlike places numbers truths [] (other ∷ Y) = ⊥
AreAllAlike places numbers truths (given ∷ X) [] = ⊥
AreAllAlike places numbers truths (given ∷ X) (other ∷ Y) =
    AreAlike places numbers truths given other × AreAllAlike places numbers truths X Y
