-- Memories that are no faults. Nothing of another lane occurs here.
-- Source: this project's rule: what a memory keeps is a named place, at which a fault counts.
use Rattle.std.specs.Prelude.{◌≢◌, ℕ, List, [], ◌∷◌}
use Rattle.lb_syntax.specs.Lists.{Every}
use Rattle.lb_syntax.specs.Tree.{Expr, Fby, Pre, Current}
use Rattle.lb_syntax.specs.declared.tree.Kind.{Kind}
use Rattle.lb_static.specs.Instances.{Program, Instance, instances}
use Rattle.lb_check.specs.Clocks.{Clock}
use Rattle.lb_check.specs.Occurrences.{Occurrence, node_occurrences}
use Rattle.lb_check.specs.Scalars.{Scalar, Bad}
use Rattle.lb_flat.specs.FlatPrograms.{IsFlatOf}
use Rattle.lb_flat.specs.TemporaryKinds.{kind_among}
use Rattle.lb_flat.specs.Judging.{FlatProgram}
use Rattle.lb_flat.specs.Layouts.{Layout}
use Rattle.lb_flat.specs.MemoryPlaces.{HasMemories}
use Rattle.lb_flat.specs.NumberedLayouts.{layout}
use Rattle.lb_sim.specs.BatchRuns.{flat_of, memory_at}
use Rattle.lb_sim.specs.declared.batch_run.BatchRun.{BatchRun}

module _ (P : Program) (Y : Layout) (kinds : ℕ → Kind) (f : FlatProgram) (memory : ℕ → Scalar) where
  -- none of these memories is a fault
  abbrev pub NoneIsFault : List ℕ → Type 0
  NoneIsFault places = Every (λ e. memory e ≢ Bad) places

  -- no memory of an operator is a fault
  abbrev pub KeepsNoFault :
      (here : Instance) (k : Clock) (n : ℕ) (e : Expr) → HasMemories P Y kinds f here k n e → Type 0
  KeepsNoFault here k n (Pre a) h = NoneIsFault h.places
  KeepsNoFault here k n (Current a) h = NoneIsFault h.places
  KeepsNoFault here k n (Fby a b) h = NoneIsFault h.0.places
  KeepsNoFault here k n e h = Unit {0}

  -- no memory of the operators of an instance is a fault, and none of all instances
  abbrev pub EachKeepsNoFault :
      (here : Instance) (os : List Occurrence) →
      Every (λ o. HasMemories P Y kinds f here o.clock o.calls_before o.expr) os → Type 0
  EachKeepsNoFault here [] h = Unit {0}
  EachKeepsNoFault here (o ∷ os) h =
      KeepsNoFault here o.clock o.calls_before o.expr h.0 × EachKeepsNoFault here os h.1

  abbrev pub AllKeepNoFault :
      (is : List Instance) →
      Every (λ here.
      Every (λ o. HasMemories P Y kinds f here o.clock o.calls_before o.expr)
      (node_occurrences P here.node)) is →
      Type 0
  AllKeepNoFault [] h = Unit {0}
  AllKeepNoFault (here ∷ is) h =
      EachKeepsNoFault here (node_occurrences P here.node) h.0 × AllKeepNoFault is h.1

-- in a lane of a run no memory of the operators of a program is a fault
abbrev pub HoldsNoFault : (P : Program) (run : BatchRun) → IsFlatOf P (flat_of run) → ℕ → Type 0
HoldsNoFault P run flat i =
    AllKeepNoFault P (layout P) (kind_among (flat_of run).kinds) (flat_of run) (memory_at run i)
    (instances P) flat.memories
