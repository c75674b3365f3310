-- A lane stands for a trace of a program: its verdict so far is that of the trace, and while the
-- lane is active each memory of the program, at the place that the lane program names for it, is
-- that of the history that solves the program on the trace. Nothing of another lane occurs here.
-- Source: this project's rule; what a memory holds is that of the Lustre V6 reference manual.
use Rattle.std.specs.Prelude.{◌≡◌, ℕ, ◌+◌, Bool, true, is_some, List, [], ◌∷◌, length, map}
use Rattle.std.specs.List.{list_any}
use Rattle.lb_syntax.specs.Lists.{Every}
use Rattle.lb_syntax.specs.Tree.{Expr, Arrow, Fby, Pre, Current}
use Rattle.lb_syntax.specs.declared.tree.Kind.{Kind}
use Rattle.lb_static.specs.Instances.{Program, Instance, instances}
use Rattle.lb_check.specs.Clocks.{Clock, clock_of, clock_or}
use Rattle.lb_check.specs.Occurrences.{Occurrence, at, call_count, node_occurrences}
use Rattle.lb_check.specs.Scalars.{Scalar, Nil}
use Rattle.lb_check.specs.Solutions.{Inputs, Solves, HasOneHistory, streams_at}
use Rattle.lb_check.specs.Streams.{History}
use Rattle.lb_check.specs.Verdicts.{IsOnlyVerdict}
use Rattle.lb_check.specs.declared.verdict.Verdict.{Verdict}
use Rattle.lb_flat.specs.Flat.{Operation, Previous, Latest}
use Rattle.lb_flat.specs.Judging.{FlatProgram}
use Rattle.lb_flat.specs.Layouts.{Layout}
use Rattle.lb_flat.specs.MemoryPlaces.{KeepsOperand, KeepsFlag, HasMemories, HasAllMemories}
use Rattle.lb_flat.specs.MemoryPlaces.{newest_of}

module _ (P : Program) (Y : Layout) (kinds : ℕ → Kind) (f : FlatProgram)
    (memory : ℕ → Scalar) (flag : ℕ → Bool) (H : History) where
  -- the memories of an operand, element by element: its newest value, and nil before the first
  abbrev pub HoldsOperand :
      (here : Instance) (k : Clock) (a : Occurrence) (o : ℕ → Operation) →
      KeepsOperand P Y kinds f here k a o → Type 0
  HoldsOperand here k a o h = map memory h.places ≡ map (newest_of Nil) (streams_at P H here a)

  -- the flags of an operand: whether it was ever present
  abbrev pub HoldsFlag :
      (here : Instance) (k : Clock) (a : Occurrence) → KeepsFlag P Y kinds f here k a → Type 0
  HoldsFlag here k a h = map flag h.places ≡ map (list_any is_some) (streams_at P H here a)

  -- the memories of an operator
  abbrev pub HoldsMemories :
      (here : Instance) (k : Clock) (n : ℕ) (e : Expr) → HasMemories P Y kinds f here k n e → Type 0
  HoldsMemories here k n (Pre a) h = HoldsOperand here k (at k n a) (Previous Nil) h
  HoldsMemories here k n (Current a) h =
      HoldsOperand here k (at (clock_or (clock_of P here.node a)) n a) (Latest Nil) h
  HoldsMemories here k n (Arrow a b) h = HoldsFlag here k (at k n a) h
  HoldsMemories here k n (Fby a b) h =
      HoldsOperand here k (at k (n + call_count a) b) (Previous Nil) h.0
      × HoldsFlag here k (at k n a) h.1
  HoldsMemories here k n e h = Unit {0}

  -- the memories of the operators of an instance, and of all instances
  abbrev pub HoldsEach :
      (here : Instance) (os : List Occurrence) →
      Every (λ o. HasMemories P Y kinds f here o.clock o.calls_before o.expr) os → Type 0
  HoldsEach here [] h = Unit {0}
  HoldsEach here (o ∷ os) h =
      HoldsMemories here o.clock o.calls_before o.expr h.0 × HoldsEach here os h.1

  abbrev pub HoldsAll :
      (is : List Instance) →
      Every (λ here.
      Every (λ o. HasMemories P Y kinds f here o.clock o.calls_before o.expr)
      (node_occurrences P here.node)) is →
      Type 0
  HoldsAll [] h = Unit {0}
  HoldsAll (here ∷ is) h = HoldsEach here (node_occurrences P here.node) h.0 × HoldsAll is h.1

-- the memories are those of the one history that solves a program on a trace
pub record HoldsHistory (P : Program) (Y : Layout) (kinds : ℕ → Kind) (f : FlatProgram)
    (named : HasAllMemories P Y kinds f) (memory : ℕ → Scalar) (flag : ℕ → Bool) (X : Inputs) :
    Type 0 where
  pub history : History
  pub solves : Solves P X history
  pub memories : HoldsAll P Y kinds f memory flag history (instances P) named

-- a lane stands for a trace: its verdict, whether it is active, its number of instants, and its
-- memories
pub record StandsFor (P : Program) (Y : Layout) (kinds : ℕ → Kind) (f : FlatProgram)
    (named : HasAllMemories P Y kinds f) (verdict : Verdict) (active : Bool) (steps : ℕ)
    (memory : ℕ → Scalar) (flag : ℕ → Bool) (X : Inputs) : Type 0 where
  pub verdict_is : IsOnlyVerdict P X verdict
  pub one_history : HasOneHistory P X
  pub as_long : active ≡ true → length X ≡ steps
  pub memories : active ≡ true → HoldsHistory P Y kinds f named memory flag X
