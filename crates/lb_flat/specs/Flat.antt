-- A flat program: equations on scalar elements, and what it is for streams to solve them.
-- Source: this project's form of a program without nodes, arrays and iterators. What each operation
-- gives is that of its operator in the Lustre V6 reference manual.
use Rattle.std.specs.Prelude.{◌≡◌, ℕ, Bool, true, false, None, List, length, get_or, replicate}
use Rattle.lb_syntax.specs.declared.tree.UnaryOperator.{UnaryOperator}
use Rattle.lb_syntax.specs.declared.tree.BinaryOperator.{BinaryOperator}
use Rattle.lb_syntax.specs.Lists.{Every, zip2}
use Rattle.lb_check.specs.Scalars.{Scalar, Stream, two_scalars, one_scalar}
use Rattle.lb_check.specs.Streams.{constantly, along, along_two, choice, previous, first_then}
use Rattle.lb_check.specs.Streams.{sample, latest, sampled_at}
use Rattle.lb_check.specs.Solutions.{Inputs, column_of}

-- ## What a flat program is

-- the base clock of the program, or a clock at the instants at which an element has this sign
pub data FlatClock : Type 0 where
  Always : FlatClock
  Where : FlatClock → (element : ℕ) → (sign : Bool) → FlatClock
  deriving IsSet as FlatClock-set

-- the operation that gives an element from others, which are named by their numbers; the content of
-- a memory is part of its operation
pub data Operation : Type 0 where
  Input : ℕ → Operation  -- a scalar of the trace
  Constant : Scalar → Operation
  Copy : ℕ → Operation
  ApplyUnary : UnaryOperator → ℕ → Operation
  ApplyBinary : BinaryOperator → ℕ → ℕ → Operation
  Choose : (condition yes no : ℕ) → Operation  -- `if`
  FirstThen : (started : Bool) → (first then : ℕ) → Operation  -- `->`
  Previous : (memory : Scalar) → ℕ → Operation  -- `pre`
  Latest : (memory : Scalar) → ℕ → Operation  -- `current`
  Sample : ℕ → Operation  -- `when`: the element at the instants of the clock

-- an element, the clock that it is on, and the operation that gives it
pub record FlatEquation : Type 0 where
  pub element : ℕ
  pub clock : FlatClock
  pub operation : Operation

-- ## What its equations say of streams

-- the stream of an element; where there is no such element, it is absent throughout
abbrev pub column : Inputs → List Stream → ℕ → Stream
column X F i = get_or F i (replicate (length X) None)

-- the instants of a flat clock
abbrev pub instants : Inputs → List Stream → FlatClock → List Bool
instants X F Always = replicate (length X) true
instants X F (Where k i sign) = sampled_at (instants X F k) sign (column X F i)

-- the stream of an operation on clock `k`
abbrev pub operate : Inputs → List Stream → FlatClock → Operation → Stream
operate X F k (Input j) = column_of X j
operate X F k (Constant v) = constantly v (instants X F k)
operate X F k (Copy a) = column X F a
operate X F k (ApplyUnary op a) = along (one_scalar op) (column X F a)
operate X F k (ApplyBinary op a b) = along_two (two_scalars op) (column X F a) (column X F b)
operate X F k (Choose c a b) = choice (column X F c) (column X F a) (column X F b)
operate X F k (FirstThen false a b) = first_then (column X F a) (column X F b)
operate X F k (FirstThen true a b) = column X F b
operate X F k (Previous v a) = previous v (instants X F k) (column X F a)
operate X F k (Latest v a) = latest v (instants X F k) (column X F a)
operate X F k (Sample a) = zip2 sample (instants X F k) (column X F a)

-- a flat equation holds of streams
abbrev pub Holds : Inputs → List Stream → FlatEquation → Type 0
Holds X F q = column X F q.element ≡ operate X F q.clock q.operation

-- each stream is as long as the trace
abbrev pub AreLong : Inputs → List Stream → Type 0
AreLong X F = Every (λ xs. length xs ≡ length X) F

-- each of `size` elements has a stream as long as the trace, and every equation holds
pub record FlatSolves (size : ℕ) (Q : List FlatEquation) (X : Inputs) (F : List Stream) :
    Type 0 where
  pub elements : length F ≡ size
  pub as_long : AreLong X F
  pub equations : Every (Holds X F) Q
