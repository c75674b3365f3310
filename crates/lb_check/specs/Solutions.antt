-- The histories that solve a program on a trace.
-- Source: Lustre V6 reference manual, equations and node instances. A solution is pinned
-- completely: shape, length, presence and kind of every stream are part of it.
use Rattle.std.specs.Prelude.{◌≡◌, ℕ, zero, suc, ◌+◌, Bool, true, false, ◌&&◌, Option, Some, None}
use Rattle.std.specs.Prelude.{IfSome, List, [], ◌∷◌, ◌++◌, map, length, replicate, flat_map}
use Rattle.std.specs.Prelude.{slice_get}
use Rattle.std.specs.List.{range_with_len}
use Rattle.lb_syntax.specs.declared.tree.Kind.{Kind}
use Rattle.lb_syntax.specs.declared.tree.ArrayIterator.{ArrayIterator}
use Rattle.lb_syntax.specs.declared.tree.ArrayIterator.TheVariants.{Map, Red, Fill}
use Rattle.lb_syntax.specs.Lists.{Every, part}
use Rattle.lb_syntax.specs.Tree.{Name, Node_named, Expr, Call, Iterate, Exprs, Declaration, Node}
use Rattle.lb_syntax.specs.Tree.{Statement, Equation, Assertion}
use Rattle.lb_static.specs.Instances.{Program, Instance, Path, Root, Observer, Child, instance_at}
use Rattle.lb_static.specs.Instances.{node_named, instances}
use Rattle.lb_static.specs.DataTypes.{variables, width, input_kinds}
use Rattle.lb_check.specs.Scalars.{Scalar, Stream, is_of_kind, is_given}
use Rattle.lb_check.specs.Clocks.{Clock, declared_clock, base_clock, argument_clocks}
use Rattle.lb_check.specs.Occurrences.{Occurrence, node_occurrences, statements}
use Rattle.lb_check.specs.Streams.{History, presence, streams, all_streams, argument_streams}
use Rattle.lb_check.specs.Streams.{number}

-- ## The inputs of called instances

-- the inputs of the instance at a path, in order, have these streams
abbrev pub Receives : History → Path → List Declaration → List (List Stream) → Type 0
Receives H p [] [] = Unit {0}
Receives H p (d ∷ ds) (xs ∷ xss) = (H.columns p d.name ≡ xs) × Receives H p ds xss
Receives H p ds xss = ⊥

-- the accumulator that goes into instance i: the initial value, or the first output of the
-- instance before
abbrev pub accumulated :
    {A : Type 0} → (ℕ → Name → List A) → List Declaration → List A → ℕ → List A
accumulated outputs [] init i = init
accumulated outputs (o ∷ outs) init zero = init
accumulated outputs (o ∷ outs) init (suc i) = outputs i o.name

-- the inputs of instance `i` of the `n` instances of an iterator, where `outputs i` are the outputs
-- of instance `i`: the accumulator, if there is one, and the elements
abbrev pub iterator_inputs :
    {A : Type 0} → (ℕ → Name → List A) → ℕ → ArrayIterator → List Declaration →
    List (List A) → ℕ → List (List A)
iterator_inputs outputs n Map outs args i = map (part n i) args
iterator_inputs outputs n Red outs (init ∷ args) i =
    accumulated outputs outs init i ∷ map (part n i) args
iterator_inputs outputs n Fill outs (init ∷ args) i = accumulated outputs outs init i ∷ []
iterator_inputs outputs n it outs [] i = []

-- a call joins its instance to its arguments: the instance runs on the clock of the call
abbrev pub IsCallJoined :
    Program → History → Instance → Clock → ℕ → Exprs → Option Node → Type 0
IsCallJoined P H here k n es None = Unit {0}
IsCallJoined P H here k n es (Some callee) =
    let child = Child here.path n 0 in
    let args = argument_streams P H here (argument_clocks k callee es) (n + 1) es in
    (H.ticks child ≡ presence H here.path (base_clock k callee))
    × Receives H child callee.inputs args

-- an iterator of m instances joins each of them to its accumulator and elements
abbrev pub IsIteratorJoined :
    Program → History → Instance → Clock → ℕ → ArrayIterator → ℕ → Exprs → Option Node → Type 0
IsIteratorJoined P H here k n it m es None = Unit {0}
IsIteratorJoined P H here k n it m es (Some callee) =
    let outputs : ℕ → Name → List Stream = λ i x. H.columns (Child here.path n i) x in
    let args = all_streams P H here k (n + 1) es in
    Every (λ i.
    (H.ticks (Child here.path n i) ≡ presence H here.path k)
    × Receives H (Child here.path n i) callee.inputs
    (iterator_inputs outputs m it callee.outputs args i))
    (range_with_len 0 m)

abbrev pub IsJoinedAt : Program → History → Instance → Clock → ℕ → Expr → Type 0
IsJoinedAt P H here k n (Call f statics es) =
    IsCallJoined P H here k n es (node_named P f)
IsJoinedAt P H here k n (Iterate it (Node_named f statics) m es) =
    IsIteratorJoined P H here k n it (number P here m) es (node_named P f)
IsJoinedAt P H here k n e = Unit {0}

-- the call at an occurrence, if it is one, is joined
abbrev pub IsJoined : Program → History → Instance → Occurrence → Type 0
IsJoined P H here o = IsJoinedAt P H here o.clock o.calls_before o.expr

-- ## Equations

abbrev pub streams_at : Program → History → Instance → Occurrence → List Stream
streams_at P H here o = streams P H here o.clock o.calls_before o.expr

-- both sides of an equation are equal
abbrev pub AreEqual : Program → History → Instance → Statement → Occurrence → Type 0
AreEqual P H here (Equation lefts e) o =
    flat_map (H.columns here.path) lefts ≡ streams_at P H here o
AreEqual P H here (Assertion e) o = Unit {0}

-- ## Variables

-- whether a stream is present exactly at these instants, with scalars of this kind
abbrev pub fits : Kind → List Bool → Stream → Bool
fits kind [] [] = true
fits kind (true ∷ bs) (Some v ∷ xs) = is_of_kind kind v && fits kind bs xs
fits kind (false ∷ bs) (None ∷ xs) = fits kind bs xs
fits kind bs xs = false

-- the instants of the declared clock of a variable
abbrev pub variable_presence : History → Instance → Declaration → List Bool
variable_presence H here d = presence H here.path (declared_clock here.node d.name)

-- a variable has a stream for each scalar element, present exactly on its clock
pub record Fits (P : Program) (H : History) (here : Instance) (d : Declaration) : Type 0 where
  pub width : length (H.columns here.path d.name) ≡ width P here d
  pub cells :
      Every (λ xs. fits d.kind (variable_presence H here d) xs ≡ true)
      (H.columns here.path d.name)

-- ## Traces

-- one trace: at each instant the scalars of the input elements, in the order of the signature
abbrev pub Inputs : Type 0
Inputs = List (List Scalar)

-- the stream of input element j
abbrev pub column_of : Inputs → ℕ → Stream
column_of rows j = map (λ row. slice_get row j) rows

abbrev pub columns_of : ℕ → Inputs → List Stream
columns_of n rows = map (column_of rows) (range_with_len 0 n)

-- whether the scalars of an instant have these kinds, and none is nil or a fault
abbrev pub is_row : List Kind → List Scalar → Bool
is_row [] [] = true
is_row (kind ∷ kinds) (v ∷ vs) = is_given kind v && is_row kinds vs
is_row kinds vs = false

-- ## Solutions

-- at an instance every variable fits, every equation is equal on both sides, and every call is
-- joined
pub record SolvesAt (P : Program) (H : History) (here : Instance) : Type 0 where
  pub variables : Every (Fits P H here) (variables here.node)
  pub equations : Every (λ s. AreEqual P H here s.0 s.1) (statements P here.node)
  pub calls : Every (IsJoined P H here) (node_occurrences P here.node)

-- the streams of these variables of an instance
abbrev pub columns_at : History → Path → List Declaration → List (List Stream)
columns_at H p ds = map (λ d. H.columns p d.name) ds

-- the observer receives the inputs and then the outputs of the node under test
abbrev pub IsObserved : History → Instance → Instance → Type 0
IsObserved H root observer =
    Receives H Observer observer.node.inputs
    (columns_at H Root (root.node.inputs ++ root.node.outputs))

-- the inputs of the node under test are the trace
abbrev pub IsGiven : Program → Inputs → History → Instance → Type 0
IsGiven P X H root =
    flat_map (λ d. H.columns Root d.name) root.node.inputs ≡ columns_of (length (input_kinds P)) X

-- a history solves a program on a trace; the node under test and the observer run at every instant
pub record Solves (P : Program) (X : Inputs) (H : History) : Type 0 where
  pub rows : Every (λ row. is_row (input_kinds P) row ≡ true) X
  pub root_runs : H.ticks Root ≡ replicate (length X) true
  pub observer_runs : H.ticks Observer ≡ replicate (length X) true
  pub inputs : IfSome (instance_at P Root) (IsGiven P X H)
  pub observed :
      IfSome (instance_at P Root) (λ root. IfSome (instance_at P Observer) (IsObserved H root))
  pub instances : Every (SolvesAt P H) (instances P)

-- ## Exactly one solution

-- two histories are the same on an instance and its variables
pub record AgreeAt (H G : History) (here : Instance) : Type 0 where
  pub ticks : H.ticks here.path ≡ G.ticks here.path
  pub columns :
      Every (λ d. H.columns here.path d.name ≡ G.columns here.path d.name) (variables here.node)

-- two histories are the same on a program's instances and variables
abbrev pub AreSame : Program → History → History → Type 0
AreSame P H G = Every (AgreeAt H G) (instances P)

-- a program has exactly one history on a trace, as far as its instances and variables go
pub record HasOneHistory (P : Program) (X : Inputs) : Type 0 where
  pub history : History
  pub solves : Solves P X history
  pub only : (H : History) → Solves P X H → AreSame P history H
