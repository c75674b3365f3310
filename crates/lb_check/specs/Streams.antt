-- The streams of an expression, from a history that gives the streams of variables.
-- Source: Lustre V6 reference manual, temporal operators, clocks and array iterators. Streams of
-- scalar elements in place of arrays are this project's choice.
use Rattle.std.specs.Prelude.{ℕ, suc, ◌+◌, ◌-◌, ◌*◌, Bool, true, false, ◌&&◌, pos, Option, Some}
use Rattle.std.specs.Prelude.{None, option_map, List, [], ◌∷◌, ◌++◌, map, take, drop, flat_map}
use Rattle.std.specs.Prelude.{fold}
use Rattle.std.specs.List.{range_with_len}
use Rattle.lb_syntax.specs.declared.tree.BinaryOperator.{BinaryOperator}
use Rattle.lb_syntax.specs.declared.tree.ArrayIterator.{ArrayIterator}
use Rattle.lb_syntax.specs.declared.tree.ArrayIterator.TheVariants.{Map, Red, Fill}
use Rattle.lb_syntax.specs.Lists.{◌>>=◌, zip2, copies, tail_of, joined, all_some, either_or, listed}
use Rattle.lb_syntax.specs.Tree.{Name, Static, Node_named, Symbol, Expr, Literal, Truth, Variable}
use Rattle.lb_syntax.specs.Tree.{Group, Unary, Binary, If, Arrow, Fby, Pre, Current, When}
use Rattle.lb_syntax.specs.Tree.{Replicate, Index, Slice, Join, Array, AtMostOne, Nor, Call}
use Rattle.lb_syntax.specs.Tree.{Iterate, Exprs, Nil, Cons, Declaration}
use Rattle.lb_static.specs.StaticValues.{named}
use Rattle.lb_static.specs.Instances.{Program, Instance, Path, Child, static_count, name_value}
use Rattle.lb_static.specs.Instances.{node_named}
use Rattle.lb_static.specs.DataTypes.{DataType, int, variables, product}
use Rattle.lb_check.specs.Scalars.{Scalar, Integer, Boolean, Cell, Stream, or_fault, same}
use Rattle.lb_check.specs.Scalars.{two_scalars, one_scalar, chosen, at_most_one, none_true}
use Rattle.lb_check.specs.Scalars.{first_value}
use Rattle.lb_check.specs.Types.{data_types, only}
use Rattle.lb_check.specs.Clocks.{Clock, Base, On, clock_of, clock_or, declared_clock}
use Rattle.lb_check.specs.Occurrences.{call_count}

-- ## Data, instant by instant

-- the value `v` at an instant of a clock, else nothing
abbrev pub held : {A : Type 0} → A → Bool → Option A
held v true = Some v
held v false = None

-- a constant stream on a clock
abbrev pub constantly : Scalar → List Bool → Stream
constantly v bs = map (held v) bs

abbrev pub one_cell : (Scalar → Scalar) → Cell → Cell
one_cell f x = option_map f x

abbrev pub two_cells : (Scalar → Scalar → Scalar) → Cell → Cell → Cell
two_cells f (Some v) (Some w) = Some (f v w)
two_cells f x y = None

-- an operator on one stream, and on two
abbrev pub along : (Scalar → Scalar) → Stream → Stream
along f xs = map (one_cell f) xs

abbrev pub along_two : (Scalar → Scalar → Scalar) → Stream → Stream → Stream
along_two f xs ys = zip2 (two_cells f) xs ys

-- `if c then a else b`
abbrev pub choice : Stream → Stream → Stream → Stream
choice (Some c ∷ cs) (Some v ∷ xs) (Some w ∷ ys) = Some (chosen c v w) ∷ choice cs xs ys
choice (c ∷ cs) (x ∷ xs) (y ∷ ys) = None ∷ choice cs xs ys
choice cs xs ys = []

-- each pair of branches under the one condition
abbrev pub choices : List Stream → List Stream → List Stream → List Stream
choices [] xss yss = []
choices (c ∷ cs) xss yss = zip2 (choice c) xss yss

abbrev pub first_cell : Stream → Cell
first_cell [] = None
first_cell (x ∷ xs) = x

-- an operator on the cells of any number of streams at each instant of a clock
abbrev pub across : (List Scalar → Scalar) → List Bool → List Stream → Stream
across f [] xss = []
across f (true ∷ bs) xss =
    option_map f (all_some (map first_cell xss)) ∷ across f bs (map tail_of xss)
across f (false ∷ bs) xss = None ∷ across f bs (map tail_of xss)

-- ## Time

-- the newest value: that of the cell, or `before` where it is absent
abbrev pub newest : Scalar → Cell → Scalar
newest before None = before
newest before (Some v) = v

-- `pre`: at the instants of a clock the value one tick before, and at the first tick `before`
abbrev pub previous : Scalar → List Bool → Stream → Stream
previous before [] xs = []
previous before (b ∷ bs) xs =
    held before b ∷ previous (newest before (first_cell xs)) bs (tail_of xs)

-- `a -> b`: the first stream at the first tick, and later the second
abbrev pub first_then : Stream → Stream → Stream
first_then (None ∷ xs) (y ∷ ys) = None ∷ first_then xs ys
first_then (Some v ∷ xs) (y ∷ ys) = Some v ∷ ys
first_then xs ys = []

-- `when`: the cell, at an instant of the clock
abbrev pub sample : Bool → Cell → Cell
sample true x = x
sample false x = None

-- `current`: at the instants of a clock the latest value so far, or `before` where there is none
abbrev pub latest : Scalar → List Bool → Stream → Stream
latest before (b ∷ bs) (None ∷ xs) = held before b ∷ latest before bs xs
latest before (b ∷ bs) (Some v ∷ xs) = held v b ∷ latest v bs xs
latest before bs xs = []

-- ## Histories and clocks

-- a history: the instants at which each instance runs, and for each variable of each instance the
-- streams of its scalar elements, the first index slowest
pub record History : Type 0 where
  pub ticks : Path → List Bool
  pub columns : Path → Name → List Stream

-- whether a cell has this sign; nil and the value of a fault have neither
abbrev pub shows : Bool → Cell → Bool
shows sign (Some (Boolean b)) = same sign b
shows sign x = false

-- the instants of `bs` at which the variable with stream `xs` has this sign
abbrev pub sampled_at : List Bool → Bool → Stream → List Bool
sampled_at bs sign xs = zip2 (λ b x. b && shows sign x) bs xs

-- the instants of `bs` at which the variable with these streams has this sign; a clock variable has
-- one
abbrev pub signed : List Bool → Bool → List Stream → List Bool
signed bs sign [] = bs
signed bs sign (xs ∷ xss) = sampled_at bs sign xs

-- the instants of a clock of an instance
abbrev pub presence : History → Path → Clock → List Bool
presence H p Base = H.ticks p
presence H p (On k x sign) = signed (presence H p k) sign (H.columns p x)

-- ## Iterators

-- the outputs of `n` instances, one output after another, each with its elements by instance
abbrev pub gathered : {A : Type 0} → (ℕ → Name → List A) → ℕ → List Declaration → List A
gathered outputs n outs =
    flat_map (λ o. flat_map (λ i. outputs i o.name) (range_with_len 0 n)) outs

-- the first output of the last of n instances
abbrev pub last_of : {A : Type 0} → (ℕ → Name → List A) → ℕ → List Declaration → List A
last_of outputs n [] = []
last_of outputs n (o ∷ outs) = outputs (n - 1) o.name

-- the results of an iterated node, where `outputs i` are the outputs of instance `i`
abbrev pub iterated :
    {A : Type 0} → (ℕ → Name → List A) → ℕ → ArrayIterator → List Declaration → List A
iterated outputs n Map outs = gathered outputs n outs
iterated outputs n Red outs = last_of outputs n outs
iterated outputs n Fill outs = last_of outputs n outs ++ gathered outputs n (tail_of outs)

-- the results of an iterated symbol: over two arrays, or from an initial value over one array
abbrev pub symbols : ArrayIterator → BinaryOperator → List (List Stream) → List Stream
symbols Map op (xs ∷ (ys ∷ [])) = zip2 (along_two (two_scalars op)) xs ys
symbols Red op ((init ∷ []) ∷ (ys ∷ [])) = fold (along_two (two_scalars op)) init ys ∷ []
symbols it op xsss = []

-- ## Expressions

module _ (P : Program) (here : Instance) where
  -- the type of an expression with one result; any other has `int`
  abbrev pub data_type : Expr → DataType
  data_type e = either_or (data_types P here e >>= only) int

  -- the number of scalar elements in one element of an array
  abbrev pub part_count : Expr → ℕ
  part_count e = product (tail_of (data_type e).sizes)

  abbrev pub number : Static → ℕ
  number s = either_or (static_count P here s) 0

  abbrev pub outputs_of : Name → List Declaration
  outputs_of f = listed (λ n. n.outputs) (node_named P f)

  -- the streams of a name: of a variable, or of a static parameter or constant on clock k
  abbrev pub name_streams : History → Clock → Name → List Stream
  name_streams H k x =
      let declared = named (λ d. d.name) x (variables here.node) in
      either_or (option_map (λ d. H.columns here.path d.name) declared)
      (constantly (or_fault (name_value P here x)) (presence H here.path k) ∷ [])

abbrev mutual
  -- the streams of the scalar elements of an expression that stands on clock k after n calls of
  -- its node
  pub streams : Program → History → Instance → Clock → ℕ → Expr → List Stream
  streams P H here k n (Literal m) = constantly (Integer (pos m)) (presence H here.path k) ∷ []
  streams P H here k n (Truth b) = constantly (Boolean b) (presence H here.path k) ∷ []
  streams P H here k n (Variable x) = name_streams P here H k x
  streams P H here k n (Group a) = streams P H here k n a
  streams P H here k n (Unary op a) = map (along (one_scalar op)) (streams P H here k n a)
  streams P H here k n (Binary op a b) =
      zip2 (along_two (two_scalars op))
      (streams P H here k n a) (streams P H here k (n + call_count a) b)
  streams P H here k n (If c a b) =
      choices (streams P H here k n c)
      (streams P H here k (n + call_count c) a)
      (streams P H here k (n + call_count c + call_count a) b)
  streams P H here k n (Arrow a b) =
      zip2 first_then (streams P H here k n a) (streams P H here k (n + call_count a) b)
  streams P H here k n (Fby a b) =
      zip2 first_then (streams P H here k n a)
      (map (previous first_value (presence H here.path k))
      (streams P H here k (n + call_count a) b))
  streams P H here k n (Pre a) =
      map (previous first_value (presence H here.path k)) (streams P H here k n a)
  streams P H here k n (When a x sign) =
      let own = declared_clock here.node x in
      map (zip2 sample (presence H here.path (On own x sign))) (streams P H here own n a)
  streams P H here k n (Current a) =
      let own = clock_or (clock_of P here.node a) in
      map (latest first_value (presence H here.path k)) (streams P H here own n a)
  streams P H here k n (Replicate a m) = copies (number P here m) (streams P H here k n a)
  streams P H here k n (Index a i) =
      take (part_count P here a)
      (drop (part_count P here a * number P here i) (streams P H here k n a))
  streams P H here k n (Slice a i j) =
      take (part_count P here a * (suc (number P here j) - number P here i))
      (drop (part_count P here a * number P here i) (streams P H here k n a))
  streams P H here k n (Join a b) =
      streams P H here k n a ++ streams P H here k (n + call_count a) b
  streams P H here k n (Array es) = joined (all_streams P H here k n es)
  streams P H here k n (AtMostOne es) =
      across at_most_one (presence H here.path k) (joined (all_streams P H here k n es)) ∷ []
  streams P H here k n (Nor es) =
      across none_true (presence H here.path k) (joined (all_streams P H here k n es)) ∷ []
  streams P H here k n (Call f statics es) =
      flat_map (λ o. H.columns (Child here.path n 0) o.name) (outputs_of P here f)
  streams P H here k n (Iterate it (Node_named f statics) m es) =
      iterated (λ i x. H.columns (Child here.path n i) x) (number P here m) it
      (outputs_of P here f)
  streams P H here k n (Iterate it (Symbol op) m es) = symbols it op (all_streams P H here k n es)

  -- the streams of each expression of a row on one clock
  pub all_streams : Program → History → Instance → Clock → ℕ → Exprs → List (List Stream)
  all_streams P H here k n Nil = []
  all_streams P H here k n (Cons e es) =
      streams P H here k n e ∷ all_streams P H here k (n + call_count e) es

  -- the streams of each expression of a row, each on a clock of its own
  pub argument_streams :
      Program → History → Instance → List Clock → ℕ → Exprs → List (List Stream)
  argument_streams P H here ks n Nil = []
  argument_streams P H here [] n (Cons e es) = []
  argument_streams P H here (k ∷ ks) n (Cons e es) =
      streams P H here k n e ∷ argument_streams P H here ks (n + call_count e) es
