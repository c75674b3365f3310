-- The places of the memories of `pre`, `fby`, `current` and `->` in a flat program, and their
-- contents after some instants.
-- Source: this project's rule.
use Rattle.std.specs.Prelude.{◌≡◌, ℕ, ◌+◌, false, ◌||◌, is_some, List, [], ◌∷◌, map, length}
use Rattle.std.specs.List.{list_any}
use Rattle.lb_syntax.specs.Lists.{Every, In, zip2}
use Rattle.lb_syntax.specs.Tree.{Expr, Arrow, Fby, Pre, Current}
use Rattle.lb_syntax.specs.declared.tree.Kind.{Kind}
use Rattle.lb_static.specs.Instances.{Program, Instance, instances}
use Rattle.lb_static.specs.DataTypes.{input_kinds}
use Rattle.lb_check.specs.Clocks.{Clock, clock_of, clock_or}
use Rattle.lb_check.specs.Occurrences.{Occurrence, at, call_count, node_occurrences}
use Rattle.lb_check.specs.Scalars.{Scalar, Nil, Stream}
use Rattle.lb_check.specs.Solutions.{Inputs, streams_at}
use Rattle.lb_check.specs.Streams.{newest}
use Rattle.lb_flat.specs.Flat.{FlatClock, Operation, FirstThen, Previous, Latest, FlatEquation}
use Rattle.lb_flat.specs.Flat.{column}
use Rattle.lb_flat.specs.FlatSolutions.{IsFlatSolution}
use Rattle.lb_flat.specs.Flattening.{history_of}
use Rattle.lb_flat.specs.Judging.{FlatProgram}
use Rattle.lb_flat.specs.Layouts.{Layout, flat_clock}
use Rattle.lb_flat.specs.Run.{Row, cell, advanced}

-- ## Places

-- the equations that give these elements by these operations
abbrev pub equations_at : FlatClock → List ℕ → List Operation → List FlatEquation
equations_at k is os = zip2 (λ i o. record { element = i; clock = k; operation = o }) is os

-- these elements hold the streams of an occurrence, in each solution
abbrev pub HoldStreams :
    Program → Layout → (ℕ → Kind) → FlatProgram → Instance → Occurrence → List ℕ → Type 0
HoldStreams P Y kinds f here a is =
    (X : Inputs) (F : List Stream) → IsFlatSolution (input_kinds P) kinds f X F →
    map (column X F) is ≡ streams_at P (history_of Y X F) here a

-- the operand of an operator with a memory is kept at `places`, one for each of its scalar elements
pub record KeepsOperand (P : Program) (Y : Layout) (kinds : ℕ → Kind) (f : FlatProgram)
    (here : Instance) (k : Clock) (a : Occurrence) (o : ℕ → Operation) : Type 0 where
  pub places : List ℕ
  pub operands : List ℕ
  pub as_many : length places ≡ length operands
  pub equations :
      Every (λ q. In q f.equations)
      (equations_at (flat_clock Y here.path k) places (map o operands))
  pub streams : HoldStreams P Y kinds f here a operands

-- whether `->` has had its first tick is kept at `places`, for each scalar element of its first
-- operand
pub record KeepsFlag (P : Program) (Y : Layout) (kinds : ℕ → Kind) (f : FlatProgram)
    (here : Instance) (k : Clock) (a : Occurrence) : Type 0 where
  pub places : List ℕ
  pub firsts : List ℕ
  pub thens : List ℕ
  pub as_many : length places ≡ length firsts
  pub both : length thens ≡ length firsts
  pub equations :
      Every (λ q. In q f.equations)
      (equations_at (flat_clock Y here.path k) places (zip2 (FirstThen false) firsts thens))
  pub streams : HoldStreams P Y kinds f here a firsts

-- `f` has the memories of an operator
abbrev pub HasMemories :
    Program → Layout → (ℕ → Kind) → FlatProgram → Instance → Clock → ℕ → Expr → Type 0
HasMemories P Y kinds f here k n (Pre a) =
    KeepsOperand P Y kinds f here k (at k n a) (Previous Nil)
HasMemories P Y kinds f here k n (Current a) =
    KeepsOperand P Y kinds f here k (at (clock_or (clock_of P here.node a)) n a) (Latest Nil)
HasMemories P Y kinds f here k n (Arrow a b) = KeepsFlag P Y kinds f here k (at k n a)
HasMemories P Y kinds f here k n (Fby a b) =
    KeepsOperand P Y kinds f here k (at k (n + call_count a) b) (Previous Nil)
    × KeepsFlag P Y kinds f here k (at k n a)
HasMemories P Y kinds f here k n e = Unit {0}

-- `f` has the memories of all operators of a program
abbrev pub HasAllMemories : Program → Layout → (ℕ → Kind) → FlatProgram → Type 0
HasAllMemories P Y kinds f =
    Every (λ here.
    Every (λ o. HasMemories P Y kinds f here o.clock o.calls_before o.expr)
    (node_occurrences P here.node))
    (instances P)

-- ## Contents after some rows

-- the newest scalar of a stream; `v` before there is one
abbrev pub newest_of : Scalar → Stream → Scalar
newest_of v [] = v
newest_of v (x ∷ xs) = newest_of (newest v x) xs

-- the equations with their memories after these rows
abbrev pub after_rows : List FlatEquation → List Row → List FlatEquation
after_rows Q [] = Q
after_rows Q (row ∷ rows) = after_rows (map (advanced row) Q) rows

-- the cells of element `i` in rows
abbrev pub cells_in : List Row → ℕ → Stream
cells_in rows i = map (λ row. cell row i) rows

-- an operation with the content of its memory after `rows`
abbrev pub remembers : List Row → Operation → Operation
remembers rows (FirstThen started a b) =
    FirstThen (started || list_any is_some (cells_in rows a)) a b
remembers rows (Previous v a) = Previous (newest_of v (cells_in rows a)) a
remembers rows (Latest v a) = Latest (newest_of v (cells_in rows a)) a
remembers rows o = o
