-- Memories of a lane whose clocks do not tick at an instant, in the program's own words.
-- This file says what data of the program mean; the definitions of the program say what a memory
-- keeps, and of which operand.
use Rattle.std.specs.Prelude.{◌≡◌, ℕ, ◌+◌, ◌++◌, Bool, List, [], ◌∷◌, length, map}
use Rattle.lb_syntax.specs.declared.tree.Kind.{Kind}
use Rattle.lb_syntax.specs.Lists.{Every}
use Rattle.lb_syntax.specs.Tree.{Expr, Arrow, Fby, Pre, Current}
use Rattle.lb_static.specs.Instances.{Program, Instance, instances}
use Rattle.lb_check.specs.Clocks.{Clock, clock_of, clock_or}
use Rattle.lb_check.specs.Occurrences.{Occurrence, at, call_count, node_occurrences}
use Rattle.lb_check.specs.Scalars.{Scalar, Nil}
use Rattle.lb_check.specs.Solutions.{Solves, Inputs}
use Rattle.lb_check.specs.Streams.{History}
use Rattle.lb_flat.specs.Flat.{Operation, Previous, Latest}
use Rattle.lb_flat.specs.FlatPrograms.{IsFlatOf}
use Rattle.lb_flat.specs.TemporaryKinds.{kind_among}
use Rattle.lb_flat.specs.Judging.{FlatProgram}
use Rattle.lb_flat.specs.Layouts.{Layout}
use Rattle.lb_flat.specs.MemoryPlaces.{KeepsOperand, KeepsFlag, HasMemories}
use Rattle.lb_flat.specs.NumberedLayouts.{layout}
use Rattle.lb_sim.specs.BatchRuns.{flag_in, flat_of, memory_at}
use Rattle.lb_sim.specs.declared.batch_run.BatchRun.{BatchRun}
use Rattle.lb_laws.specs.Ticks.{IsClockOff}

module _ (P : Program) (Y : Layout) (kinds : ℕ → Kind) (f : FlatProgram) (H : History) (t : ℕ)
    (memory later : ℕ → Scalar) (flag later_flag : ℕ → Bool) where
  -- where the clock of an operand does not tick, the memories of the operand stay
  abbrev pub OperandWaits :
      (here : Instance) (k : Clock) (a : Occurrence) (o : ℕ → Operation) →
      KeepsOperand P Y kinds f here k a o → Type 0
  OperandWaits here k a o h =
      IsClockOff H here t a → map later h.places ≡ map memory h.places

  -- where the clock of an operand does not tick, the flags of `->` stay
  abbrev pub FlagWaits :
      (here : Instance) (k : Clock) (a : Occurrence) → KeepsFlag P Y kinds f here k a → Type 0
  FlagWaits here k a h = IsClockOff H here t a → map later_flag h.places ≡ map flag h.places

  -- the memories of an operator stay where their clocks do not tick
  abbrev pub MemoriesWait :
      (here : Instance) (k : Clock) (n : ℕ) (e : Expr) → HasMemories P Y kinds f here k n e → Type 0
  MemoriesWait here k n (Pre a) h = OperandWaits here k (at k n a) (Previous Nil) h
  MemoriesWait here k n (Current a) h =
      OperandWaits here k (at (clock_or (clock_of P here.node a)) n a) (Latest Nil) h
  MemoriesWait here k n (Arrow a b) h = FlagWaits here k (at k n a) h
  MemoriesWait here k n (Fby a b) h =
      OperandWaits here k (at k (n + call_count a) b) (Previous Nil) h.0
      × FlagWaits here k (at k n a) h.1
  MemoriesWait here k n e h = Unit {0}

  -- the memories of the operators of an instance, and of all instances, stay where their clocks do
  -- not tick
  abbrev pub EachWaits :
      (here : Instance) (os : List Occurrence) →
      Every (λ o. HasMemories P Y kinds f here o.clock o.calls_before o.expr) os → Type 0
  EachWaits here [] h = Unit {0}
  EachWaits here (o ∷ os) h =
      MemoriesWait here o.clock o.calls_before o.expr h.0 × EachWaits here os h.1

  abbrev pub AllWait :
      (is : List Instance) →
      Every (λ here.
      Every (λ o. HasMemories P Y kinds f here o.clock o.calls_before o.expr)
      (node_occurrences P here.node)) is →
      Type 0
  AllWait [] h = Unit {0}
  AllWait (here ∷ is) h = EachWaits here (node_occurrences P here.node) h.0 × AllWait is h.1

-- from run `r` to run `s`, one instant later, in lane `i`: each memory whose clock does not tick at
-- that instant stays, by the history that solves the program on the trace with the new row
pub record WaitsForClocks (P : Program) (r s : BatchRun) (flat : IsFlatOf P (flat_of r)) (i : ℕ)
    (X : Inputs) (given : List Scalar) : Type 0 where
  pub history : History
  pub solves : Solves P (X ++ given ∷ []) history
  pub wait :
      AllWait P (layout P) (kind_among (flat_of r).kinds) (flat_of r) history (length X)
      (memory_at r i) (memory_at s i) (flag_in r i) (flag_in s i) (instances P) flat.memories
