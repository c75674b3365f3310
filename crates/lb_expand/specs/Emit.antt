-- This file mirrors code: the equations that `expand` emits, in its order, for expressions,
-- statements and instances.
-- Source: this project's rule; each operator becomes the equations that the Lustre V6 reference
-- manual gives it, element by element.
use Rattle.std.specs.Prelude.{ℕ, suc, ◌+◌, ◌-◌, ◌*◌, false, pos, Option, Some, None, List, [], ◌∷◌}
use Rattle.std.specs.Prelude.{◌++◌, map, take, drop, flat_map, get_or}
use Rattle.std.specs.List.{range_with_len}
use Rattle.lb_syntax.specs.declared.tree.UnaryOperator.TheVariants.{Not}
use Rattle.lb_syntax.specs.declared.tree.BinaryOperator.{BinaryOperator}
use Rattle.lb_syntax.specs.declared.tree.BinaryOperator.TheVariants.{Or, And}
use Rattle.lb_syntax.specs.declared.tree.ArrayIterator.{ArrayIterator}
use Rattle.lb_syntax.specs.declared.tree.ArrayIterator.TheVariants.{Map, Red}
use Rattle.lb_syntax.specs.Lists.{zip2, copies, joined, listed}
use Rattle.lb_syntax.specs.Tree.{Name, Node_named, Symbol, Expr, Literal, Truth, Variable, Group}
use Rattle.lb_syntax.specs.Tree.{Unary, Binary, If, Arrow, Fby, Pre, Current, When, Replicate}
use Rattle.lb_syntax.specs.Tree.{Index, Slice, Join, Array, AtMostOne, Nor, Call, Iterate, Exprs}
use Rattle.lb_syntax.specs.Tree.{Nil, Cons, Declaration, Node, Statement, Equation, Assertion}
use Rattle.lb_static.specs.StaticValues.{named}
use Rattle.lb_static.specs.Instances.{Program, Instance, Path, Root, Observer, Child, name_value}
use Rattle.lb_static.specs.Instances.{node_named, instance_at, instances}
use Rattle.lb_static.specs.DataTypes.{variables, input_kinds}
use Rattle.lb_check.specs.Scalars.{Integer, Boolean, or_fault, first_value}
use Rattle.lb_check.specs.Clocks.{Clock, On, clock_of, clock_or, declared_clock}
use Rattle.lb_check.specs.Elements.{element_kinds}
use Rattle.lb_check.specs.Occurrences.{call_count, call_clocks, statement_clock}
use Rattle.lb_check.specs.Streams.{part_count, number, outputs_of, iterated}
use Rattle.lb_check.specs.Solutions.{iterator_inputs}
use Rattle.lb_check.specs.Verdicts.{property_path, clock_variables}
use Rattle.lb_flat.specs.Flat.{FlatClock, Operation, Input, Constant, Copy, ApplyUnary, ApplyBinary}
use Rattle.lb_flat.specs.Flat.{Choose, FirstThen, Previous, Latest, Sample, FlatEquation}
use Rattle.lb_flat.specs.TemporaryKinds.{kinds_from}
use Rattle.lb_flat.specs.Judging.{FlatProgram}
use Rattle.lb_flat.specs.Layouts.{Layout, flat_clock}

-- ## What was emitted so far

-- the state of emission: the equations of temporaries, the equations of elements of variables,
-- the next free element, the operands that memories keep, and the assertions
pub record State : Type 0 where
  pub equations : List FlatEquation
  pub copies : List FlatEquation
  pub next : ℕ
  pub memory_operands : List ℕ
  pub asserted : List ℕ

-- the state behind an emission, and the elements that hold its result
pub record Emitted : Type 0 where
  pub state : State
  pub found : List ℕ

-- the state behind an emission, and the elements of each of its results
pub record EmittedAll : Type 0 where
  pub state : State
  pub found : List (List ℕ)

-- the result `is`, for which nothing is emitted
abbrev pub gives : State → List ℕ → Emitted
gives s is = record { state = s; found = is }

-- adds the equation of the next element
abbrev pub push : FlatClock → State → Operation → State
push k s o =
    let new : FlatEquation = record { element = s.next; clock = k; operation = o } in
    record s { equations = s.equations ++ (new ∷ []); next = suc s.next }

-- equations of the elements from number `i` on, one for each operation
abbrev pub numbered : ℕ → FlatClock → List Operation → List FlatEquation
numbered i k [] = []
numbered i k (o ∷ os) =
    record { element = i; clock = k; operation = o } ∷ numbered (suc i) k os

-- the elements that `numbered` gives; `after` is the number after them
abbrev pub numbers : ℕ → List Operation → List ℕ
numbers i [] = []
numbers i (o ∷ os) = i ∷ numbers (suc i) os

abbrev pub after : ℕ → List Operation → ℕ
after i [] = i
after i (o ∷ os) = after (suc i) os

-- one new element for each operation
unfoldable pub add : FlatClock → State → List Operation → Emitted
add k s os = record {
  state = record s {
    equations = s.equations ++ numbered s.next k os;
    next = after s.next os;
  };
  found = numbers s.next os;
}

-- adds the result to the operands that memories keep
unfoldable pub keep : Emitted → Emitted
keep x = record {
  state = record x.state { memory_operands = x.state.memory_operands ++ x.found };
  found = x.found;
}

-- adds the result to the assertions
unfoldable pub assert : Emitted → State
assert x = record x.state { asserted = x.state.asserted ++ x.found }

-- adds the equations `qs` of elements of variables; the result is `is`
unfoldable pub joins : State → List FlatEquation → List ℕ → Emitted
joins s qs is = record {
  state = record s { copies = s.copies ++ qs };
  found = is;
}

-- ## Operators of several elements

-- `if` by the first condition, on each pair of elements of the two branches
abbrev pub chosen_by : List ℕ → List ℕ → List ℕ → List Operation
chosen_by [] xs ys = []
chosen_by (c ∷ cs) xs ys = zip2 (Choose c) xs ys

-- `op` from an initial element over others; each result is the left operand of the next
unfoldable pub chained : FlatClock → BinaryOperator → State → ℕ → List ℕ → Emitted
chained k op s init [] = gives s (init ∷ [])
chained k op s init (y ∷ ys) =
    chained k op (push k s (ApplyBinary op init y)) s.next ys

-- whether two of a list of elements are true; `any` and `two` hold whether one, and whether two,
-- were true before
unfoldable pub twice : FlatClock → State → (any two : ℕ) → List ℕ → Emitted
twice k s any two [] = gives s (two ∷ [])
twice k s any two (x ∷ xs) =
    let t = push k s (ApplyBinary And any x) in
    let u = push k t (ApplyBinary Or two s.next) in
    twice k (push k u (ApplyBinary Or any x)) u.next t.next xs

abbrev pub negated : FlatClock → Emitted → Emitted
negated k r = add k r.state (map (ApplyUnary Not) r.found)

-- `nor`: whether none of these elements is true
abbrev pub emit_nor : FlatClock → State → List ℕ → Emitted
emit_nor k s is =
    negated k (chained k Or (push k s (Constant (Boolean false))) s.next is)

-- `#`: whether at most one of these elements is true
abbrev pub emit_at_most_one : FlatClock → State → List ℕ → Emitted
emit_at_most_one k s is =
    negated k (twice k (push k s (Constant (Boolean false))) s.next s.next is)

-- an iterated symbol
abbrev pub emit_symbol :
    FlatClock → BinaryOperator → State → ArrayIterator → List (List ℕ) → Emitted
emit_symbol k op s Map (xs ∷ (ys ∷ [])) = add k s (zip2 (ApplyBinary op) xs ys)
emit_symbol k op s Red ((init ∷ []) ∷ (ys ∷ [])) = chained k op s init ys
emit_symbol k op s it found = gives s []

-- ## Elements of variables

-- an element that an equation is to give, with its clock
pub record Target : Type 0 where
  pub place : ℕ
  pub clock : FlatClock

-- the elements of variable `x` of the instance of node `n` at path `p`, with their clock
abbrev pub targets : Layout → Node → Path → Name → List Target
targets Y n p x =
    let k = flat_clock Y p (declared_clock n x) in
    map (λ i. record { place = i; clock = k }) (Y.places p x)

-- the equations by which each target is a copy of an element
abbrev pub copied : List Target → List ℕ → List FlatEquation
copied [] js = []
copied (t ∷ ts) [] = []
copied (t ∷ ts) (j ∷ js) =
    record { element = t.place; clock = t.clock; operation = Copy j } ∷ copied ts js

-- the equations by which the inputs of the instance at path `p` are copies of `iss`
abbrev pub received :
    Layout → Node → Path → List Declaration → List (List ℕ) → List FlatEquation
received Y callee p [] iss = []
received Y callee p (d ∷ ds) [] = []
received Y callee p (d ∷ ds) (is ∷ iss) =
    copied (targets Y callee p d.name) is ++ received Y callee p ds iss

-- the copies for the inputs of the instance of a call
abbrev pub call_copies : Layout → Path → Option Node → List (List ℕ) → List FlatEquation
call_copies Y p None iss = []
call_copies Y p (Some callee) iss = received Y callee p callee.inputs iss

-- the copies for the inputs of the `m` instances of an iterator
abbrev pub iterator_copies :
    Layout → Path → ℕ → ArrayIterator → ℕ → Option Node → List (List ℕ) → List FlatEquation
iterator_copies Y p n it m None iss = []
iterator_copies Y p n it m (Some callee) iss =
    let outputs : ℕ → Name → List ℕ = λ i x. Y.places (Child p n i) x in
    flat_map (λ i.
    received Y callee (Child p n i) callee.inputs
    (iterator_inputs outputs m it callee.outputs iss i))
    (range_with_len 0 m)

-- ## Expressions

module _ (Y : Layout) (P : Program) (here : Instance) where
  -- emits a name: a variable has its elements; a constant or static parameter gets a new one
  abbrev pub emit_name : Clock → State → Name → Option Declaration → Emitted
  emit_name k s x (Some d) = gives s (Y.places here.path d.name)
  emit_name k s x None =
      add (flat_clock Y here.path k) s (Constant (or_fault (name_value P here x)) ∷ [])

unfoldable mutual
  -- emits, after the equations of `s`, an expression on clock `k` with `n` calls before it
  pub emit : Layout → Program → Instance → Clock → ℕ → State → Expr → Emitted
  emit Y P here k n s (Literal m) =
      add (flat_clock Y here.path k) s (Constant (Integer (pos m)) ∷ [])
  emit Y P here k n s (Truth b) = add (flat_clock Y here.path k) s (Constant (Boolean b) ∷ [])
  emit Y P here k n s (Variable x) =
      emit_name Y P here k s x (named (λ d. d.name) x (variables here.node))
  emit Y P here k n s (Group a) = emit Y P here k n s a
  emit Y P here k n s (Unary op a) =
      let x = emit Y P here k n s a in
      add (flat_clock Y here.path k) x.state (map (ApplyUnary op) x.found)
  emit Y P here k n s (Binary op a b) =
      let x = emit Y P here k n s a in
      let y = emit Y P here k (n + call_count a) x.state b in
      add (flat_clock Y here.path k) y.state (zip2 (ApplyBinary op) x.found y.found)
  emit Y P here k n s (If c a b) =
      let z = emit Y P here k n s c in
      let x = emit Y P here k (n + call_count c) z.state a in
      let y = emit Y P here k (n + call_count c + call_count a) x.state b in
      add (flat_clock Y here.path k) y.state (chosen_by z.found x.found y.found)
  emit Y P here k n s (Arrow a b) =
      let x = emit Y P here k n s a in
      let y = emit Y P here k (n + call_count a) x.state b in
      add (flat_clock Y here.path k) y.state (zip2 (FirstThen false) x.found y.found)
  emit Y P here k n s (Fby a b) =
      let x = emit Y P here k n s a in
      let y = keep (emit Y P here k (n + call_count a) x.state b) in
      let before = map (Previous first_value) y.found in
      let z = add (flat_clock Y here.path k) y.state before in
      add (flat_clock Y here.path k) z.state (zip2 (FirstThen false) x.found z.found)
  emit Y P here k n s (Pre a) =
      let x = keep (emit Y P here k n s a) in
      add (flat_clock Y here.path k) x.state (map (Previous first_value) x.found)
  emit Y P here k n s (When a x sign) =
      let own = declared_clock here.node x in
      let z = emit Y P here own n s a in
      add (flat_clock Y here.path (On own x sign)) z.state (map Sample z.found)
  emit Y P here k n s (Current a) =
      let x = keep (emit Y P here (clock_or (clock_of P here.node a)) n s a) in
      add (flat_clock Y here.path k) x.state (map (Latest first_value) x.found)
  emit Y P here k n s (Replicate a m) =
      let x = emit Y P here k n s a in
      gives x.state (copies (number P here m) x.found)
  emit Y P here k n s (Index a i) =
      let x = emit Y P here k n s a in
      gives x.state
      (take (part_count P here a) (drop (part_count P here a * number P here i) x.found))
  emit Y P here k n s (Slice a i j) =
      let x = emit Y P here k n s a in
      gives x.state
      (take (part_count P here a * (suc (number P here j) - number P here i))
      (drop (part_count P here a * number P here i) x.found))
  emit Y P here k n s (Join a b) =
      let x = emit Y P here k n s a in
      let y = emit Y P here k (n + call_count a) x.state b in
      gives y.state (x.found ++ y.found)
  emit Y P here k n s (Array es) =
      let r = emit_all Y P here k n s es in
      gives r.state (joined r.found)
  emit Y P here k n s (AtMostOne es) =
      let r = emit_all Y P here k n s es in
      emit_at_most_one (flat_clock Y here.path k) r.state (joined r.found)
  emit Y P here k n s (Nor es) =
      let r = emit_all Y P here k n s es in
      emit_nor (flat_clock Y here.path k) r.state (joined r.found)
  emit Y P here k n s (Call f statics es) =
      let r = emit_each Y P here (call_clocks k (node_named P f) es) (n + 1) s es in
      let child = Child here.path n 0 in
      joins r.state (call_copies Y child (node_named P f) r.found)
      (flat_map (λ o. Y.places child o.name) (outputs_of P here f))
  emit Y P here k n s (Iterate it (Node_named f statics) m es) =
      let r = emit_all Y P here k (n + 1) s es in
      let count = number P here m in
      joins r.state (iterator_copies Y here.path n it count (node_named P f) r.found)
      (iterated (λ i x. Y.places (Child here.path n i) x) count it (outputs_of P here f))
  emit Y P here k n s (Iterate it (Symbol op) m es) =
      let r = emit_all Y P here k n s es in
      emit_symbol (flat_clock Y here.path k) op r.state it r.found

  -- emits expressions on one clock
  pub emit_all : Layout → Program → Instance → Clock → ℕ → State → Exprs → EmittedAll
  emit_all Y P here k n s Nil = record { state = s; found = [] }
  emit_all Y P here k n s (Cons e es) =
      let x = emit Y P here k n s e in
      let r = emit_all Y P here k (n + call_count e) x.state es in
      record { state = r.state; found = x.found ∷ r.found }

  -- emits expressions, each on a clock of its own
  pub emit_each : Layout → Program → Instance → List Clock → ℕ → State → Exprs → EmittedAll
  emit_each Y P here ks n s Nil = record { state = s; found = [] }
  emit_each Y P here [] n s (Cons e es) = record { state = s; found = [] }
  emit_each Y P here (k ∷ ks) n s (Cons e es) =
      let x = emit Y P here k n s e in
      let r = emit_each Y P here ks (n + call_count e) x.state es in
      record { state = r.state; found = x.found ∷ r.found }

-- ## Statements and instances

-- emits the statements of an instance, before which its text has `n` calls
unfoldable pub emit_body : Layout → Program → Instance → ℕ → State → List Statement → State
emit_body Y P here n s [] = s
emit_body Y P here n s (Equation lefts e ∷ rest) =
    let x = emit Y P here (statement_clock P here.node (Equation lefts e)) n s e in
    let lefts_copied = copied (flat_map (targets Y here.node here.path) lefts) x.found in
    emit_body Y P here (n + call_count e) (joins x.state lefts_copied []).state rest
emit_body Y P here n s (Assertion e ∷ rest) =
    let x = emit Y P here (statement_clock P here.node (Assertion e)) n s e in
    emit_body Y P here (n + call_count e) (assert x) rest

-- emits instances, one after another
unfoldable pub emit_instances : Layout → Program → State → List Instance → State
emit_instances Y P s [] = s
emit_instances Y P s (here ∷ rest) =
    emit_instances Y P (emit_body Y P here 0 s here.node.body) rest

-- the state before any instance; the first elements, `elements` of them, are those of variables
abbrev pub before_instances : ℕ → State
before_instances elements =
    record { equations = []; copies = []; next = elements; memory_operands = []; asserted = [] }

-- ## The whole program

-- the equations by which targets are scalars of the trace, from number `j` on
abbrev pub from_inputs : ℕ → List Target → List FlatEquation
from_inputs j [] = []
from_inputs j (t ∷ ts) =
    record { element = t.place; clock = t.clock; operation = Input j } ∷ from_inputs (suc j) ts

-- the elements of the inputs of the node under test
abbrev pub input_targets : Layout → Instance → List Target
input_targets Y root = flat_map (λ d. targets Y root.node Root d.name) root.node.inputs

-- the equations by which the inputs of the node under test are those of the trace
abbrev pub given_inputs : Layout → Option Instance → List FlatEquation
given_inputs Y root = listed (λ root. from_inputs 0 (input_targets Y root)) root

-- the elements that an observer receives: the inputs and outputs of the node under test
abbrev pub observed_places : Layout → Instance → List (List ℕ)
observed_places Y root =
    map (λ d. Y.places Root d.name) (root.node.inputs ++ root.node.outputs)

abbrev pub observed : Layout → Option Instance → Option Instance → List FlatEquation
observed Y (Some root) (Some observer) =
    received Y observer.node Observer observer.node.inputs (observed_places Y root)
observed Y root observer = []

-- the elements of the output that is the property
abbrev pub property_places : Layout → Program → List ℕ
property_places Y P =
    listed (λ here. flat_map (λ d. Y.places here.path d.name) here.node.outputs)
    (instance_at P (property_path P.observer))

-- the elements of the variables of these instances that serve as clocks
abbrev pub clock_places : Layout → List Instance → List ℕ
clock_places Y is =
    flat_map (λ here.
    flat_map (λ d. Y.places here.path d.name) (clock_variables here.node)) is

-- the whole flat program, of which the first `count` elements are those of variables
abbrev pub expanded : Layout → Program → ℕ → FlatProgram
expanded Y P count =
    let s = emit_instances Y P (before_instances count) (instances P) in
    let root = instance_at P Root in
    let observer = instance_at P Observer in
    record {
      inputs = input_kinds P;
      kinds = element_kinds P ++ kinds_from (element_kinds P) s.equations;
      equations =
          given_inputs Y root ++ (observed Y root observer ++ (s.copies ++ s.equations));
      size = s.next;
      variables = count;
      memory_operands = s.memory_operands;
      clock_elements = clock_places Y (instances P);
      asserted = s.asserted;
      property = get_or (property_places Y P) 0 0;
    }
