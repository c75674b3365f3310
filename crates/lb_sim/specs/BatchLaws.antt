-- A memory whose clock does not tick.
-- This file says what data of the program mean. Nothing of another lane occurs here.
use Rattle.std.specs.Prelude.{◌≡◌, ℕ, None, List}
use Rattle.lb_syntax.specs.Lists.{Every}
use Rattle.lb_check.specs.Scalars.{Scalar, Cell}
use Rattle.lb_check.specs.Solutions.{Inputs}
use Rattle.lb_flat.specs.Flat.{Operation, FirstThen, Previous, Latest}
use Rattle.lb_flat.specs.Judging.{FlatProgram}
use Rattle.lb_flat.specs.MemoryPlaces.{after_rows}
use Rattle.lb_flat.specs.Run.{cell, row_of, run}
use Rattle.lb_sim.specs.BatchRuns.{flag_in, flat_of, memory_at}
use Rattle.lb_sim.specs.declared.batch_run.BatchRun.{BatchRun}

-- the cell of an element at the instant after a trace, under a row of inputs
abbrev pub next_cell : FlatProgram → Inputs → List Scalar → ℕ → Cell
next_cell f X given a =
    cell (row_of f.size (after_rows f.equations (run f.size f.equations X)) given) a

-- where the operand of a memory is absent, the memory does not change
abbrev pub IsKept : (ℕ → Cell) → (memory flag : Type 0) → Operation → Type 0
IsKept cells memory flag (FirstThen started a b) = cells a ≡ None → flag
IsKept cells memory flag (Previous v a) = cells a ≡ None → memory
IsKept cells memory flag (Latest v a) = cells a ≡ None → memory
IsKept cells memory flag o = Unit {0}

-- from run `r` to run `s`, one instant later, in an active lane: a memory whose operand is absent
-- at that instant does not change, as its clock does not tick
abbrev pub KeepsMemories : (r s : BatchRun) → ℕ → Inputs → List Scalar → Type 0
KeepsMemories r s i X given =
    Every
    (λ q. IsKept (next_cell (flat_of r) X given)
    (memory_at s i q.element ≡ memory_at r i q.element)
    (flag_in s i q.element ≡ flag_in r i q.element) q.operation)
    (flat_of r).equations
