-- The run of a flat program: a row of cells at each instant, from the memories and the inputs.
-- Source: this project's rule.
use Rattle.std.specs.Prelude.{ℕ, ◌<◌, Bool, true, false, ◌&&◌, Some, None, List, [], ◌∷◌, ◌++◌, map}
use Rattle.std.specs.Prelude.{get_or, set, replicate, slice_get}
use Rattle.lb_syntax.specs.Lists.{Every, In, zip2}
use Rattle.lb_check.specs.Scalars.{Scalar, Cell, Stream, chosen, two_scalars, one_scalar}
use Rattle.lb_check.specs.Streams.{held, one_cell, two_cells, sample, shows, newest}
use Rattle.lb_check.specs.Solutions.{Inputs}
use Rattle.lb_flat.specs.Flat.{FlatClock, Always, Where, Operation, Input, Constant, Copy}
use Rattle.lb_flat.specs.Flat.{ApplyUnary, ApplyBinary, Choose, FirstThen, Previous, Latest, Sample}
use Rattle.lb_flat.specs.Flat.{FlatEquation}

-- ## One instant

-- the cells of all elements at one instant
abbrev pub Row : Type 0
Row = List Cell

-- the cell of an element; it is absent where there is no such element
abbrev pub cell : Row → ℕ → Cell
cell row i = get_or row i None

-- whether a clock has an instant now
abbrev pub is_now : Row → FlatClock → Bool
is_now row Always = true
is_now row (Where k i sign) = is_now row k && shows sign (cell row i)

-- `if` on cells
abbrev pub chosen_cell : Cell → Cell → Cell → Cell
chosen_cell (Some c) (Some v) (Some w) = Some (chosen c v w)
chosen_cell c x y = None

-- the cell that an operation gives at an instant
abbrev pub now : List Scalar → Row → FlatClock → Operation → Cell
now given row k (Input j) = slice_get given j
now given row k (Constant v) = held v (is_now row k)
now given row k (Copy a) = cell row a
now given row k (ApplyUnary op a) = one_cell (one_scalar op) (cell row a)
now given row k (ApplyBinary op a b) = two_cells (two_scalars op) (cell row a) (cell row b)
now given row k (Choose c a b) = chosen_cell (cell row c) (cell row a) (cell row b)
now given row k (FirstThen false a b) = cell row a
now given row k (FirstThen true a b) = cell row b
now given row k (Previous v a) = held v (is_now row k)
now given row k (Latest v a) = held (newest v (cell row a)) (is_now row k)
now given row k (Sample a) = sample (is_now row k) (cell row a)

-- a row after the equations of an instant, which fill it one by one
abbrev pub filled : List Scalar → Row → List FlatEquation → Row
filled given row [] = row
filled given row (q ∷ qs) =
    filled given (set row q.element (now given row q.clock q.operation)) qs

-- ## The memories after an instant

-- whether `->` has had its first tick
abbrev pub started_by : Bool → Cell → Bool
started_by true x = true
started_by false None = false
started_by false (Some v) = true

-- an operation with the content of its memory after an instant; `advanced` does this to an equation
abbrev pub remembered : Row → Operation → Operation
remembered row (Input j) = Input j
remembered row (Constant v) = Constant v
remembered row (Copy a) = Copy a
remembered row (ApplyUnary op a) = ApplyUnary op a
remembered row (ApplyBinary op a b) = ApplyBinary op a b
remembered row (Choose c a b) = Choose c a b
remembered row (FirstThen started a b) = FirstThen (started_by started (cell row a)) a b
remembered row (Previous v a) = Previous (newest v (cell row a)) a
remembered row (Latest v a) = Latest (newest v (cell row a)) a
remembered row (Sample a) = Sample a

abbrev pub advanced : Row → FlatEquation → FlatEquation
advanced row q = record q { operation = remembered row q.operation }

-- ## Order

-- the elements that a clock reads, and those that an operation reads at the same instant
abbrev pub clock_reads : FlatClock → List ℕ
clock_reads Always = []
clock_reads (Where k i sign) = i ∷ clock_reads k

abbrev pub reads : Operation → List ℕ
reads (Input j) = []
reads (Constant v) = []
reads (Copy a) = a ∷ []
reads (ApplyUnary op a) = a ∷ []
reads (ApplyBinary op a b) = a ∷ b ∷ []
reads (Choose c a b) = c ∷ a ∷ b ∷ []
reads (FirstThen started a b) = a ∷ b ∷ []
reads (Previous v a) = []
reads (Latest v a) = a ∷ []
reads (Sample a) = a ∷ []

-- the elements that an equation reads, by its operation and by its clock
abbrev pub equation_reads : FlatEquation → List ℕ
equation_reads q = reads q.operation ++ clock_reads q.clock

-- the operand that `pre` keeps for the next instant
abbrev pub keeps : Operation → List ℕ
keeps (Previous v a) = a ∷ []
keeps o = []

-- an equation can be computed where the elements `done` are done, in a program of `size` elements
pub record IsNext (size : ℕ) (done : List ℕ) (q : FlatEquation) : Type 0 where
  pub reads_done : Every (λ i. In i done) (equation_reads q)
  pub keeps_element : Every (λ i. i < size) (keeps q.operation)
  pub is_element : q.element < size
  pub is_new : In q.element done → ⊥

-- equations in order: each reads only elements that are done before it and gives a new one, and at
-- the end all elements are done
abbrev pub Ready : ℕ → List ℕ → List FlatEquation → Type 0
Ready size done [] = (i : ℕ) → i < size → In i done
Ready size done (q ∷ qs) = IsNext size done q × Ready size (q.element ∷ done) qs

-- ## All instants

-- the row of an instant, filled from a row in which all elements are absent
abbrev pub row_of : ℕ → List FlatEquation → List Scalar → Row
row_of size Q given = filled given (replicate size None) Q

-- the rows of all instants, each from the memories after the instants before it
abbrev pub run : ℕ → List FlatEquation → Inputs → List Row
run size Q [] = []
run size Q (given ∷ X) =
    let row = row_of size Q given in
    row ∷ run size (map (advanced row) Q) X

-- the streams of `size` elements, from their rows
abbrev pub streams_of : ℕ → List Row → List Stream
streams_of size [] = replicate size []
streams_of size (row ∷ rows) = zip2 (λ x xs. x ∷ xs) row (streams_of size rows)
