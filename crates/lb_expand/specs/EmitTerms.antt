-- This file mirrors code (src/expansion/term_emission.rt and what stands beside it): the equations
-- that are emitted for resolved terms, where a context says what each number stands for. It is
-- `Emit` with numbers instead of names. Terms and calls are counted in text order, without
-- parentheses; the operands of a row give one list of elements.
use Rattle.std.specs.Prelude.{ℕ, zero, suc, ◌-◌, ◌*◌, Bool, false, nat_le, pos, Option, Some, None}
use Rattle.std.specs.Prelude.{List, [], ◌∷◌, ◌++◌, length, map, take, drop, flat_map, if◌then◌else◌}
use Rattle.std.specs.List.{range_with_len}
use Rattle.lb_syntax.specs.Lists.{zip2, copies}
use Rattle.lb_syntax.specs.declared.tree.BinaryOperator.{BinaryOperator}
use Rattle.lb_syntax.specs.declared.tree.ArrayIterator.{ArrayIterator}
use Rattle.lb_syntax.specs.declared.tree.ArrayIterator.TheVariants.{Map, Red, Fill}
use Rattle.lb_static.specs.declared.resolved.ResolvedStatement.{ResolvedStatement}
use Rattle.lb_static.specs.declared.resolved.VariableId.{VariableId}
use Rattle.lb_static.specs.declared.resolved.Term.{Term, Literal, Truth, Variable, Value, Group'}
use Rattle.lb_static.specs.declared.resolved.Term.{Unary', Binary', If', Arrow', Fby', Pre'}
use Rattle.lb_static.specs.declared.resolved.Term.{Current', When', Replicate', Index', Slice'}
use Rattle.lb_static.specs.declared.resolved.Term.{Join', Array', AtMostOne', Nor', Call'}
use Rattle.lb_static.specs.declared.resolved.Term.{IterateNode', IterateSymbol', Row_of-Term}
use Rattle.lb_static.specs.declared.resolved.Term.{end_of-Term, more_of-Term}
use Rattle.lb_check.specs.Scalars.{Scalar, Integer, Boolean, Bad, first_value}
use Rattle.lb_expand.specs.declared.expansion.frame.Callee.{Callee}
use Rattle.lb_flat.specs.Flat.{FlatClock, Operation, Constant, ApplyUnary, ApplyBinary, FirstThen}
use Rattle.lb_flat.specs.Flat.{Previous, Latest, Sample, FlatEquation}
use Rattle.lb_expand.specs.Emit.{State, Emitted, gives, add, keep, assert, joins, chosen_by}
use Rattle.lb_expand.specs.Emit.{chained, emit_nor, emit_at_most_one, Target, copied}
use Rattle.lb_static.specs.declared.resolved.ResolvedStatement.TheVariants as statement

-- ## What the numbers of an instance stand for

-- the meaning of the numbers of an instance: variables, static expressions, terms and calls are
-- numbers, and clocks are those of a flat program
pub record Context : Type 0 where
  -- the elements of a variable, its clock, and the clock of the instants at which it has a sign
  pub places : ℕ → List ℕ
  pub declared : ℕ → FlatClock
  pub sampled : ℕ → Bool → FlatClock
  -- the value of a static expression: as an operand, and as a size or an index
  pub value : ℕ → Scalar
  pub count : ℕ → ℕ
  -- of a term: its clock, and how many scalar elements each element of its array has
  pub clock : ℕ → FlatClock
  pub parts : ℕ → ℕ
  -- of a call: what it calls, and how often; and the elements and the clock of a variable of the
  -- instance that it calls at an index
  pub callee : ℕ → Option Callee
  pub repeats : ℕ → ℕ
  pub child : (call index variable : ℕ) → List ℕ
  pub input : (call index variable : ℕ) → FlatClock

-- a place in the text of a node: how many terms and calls stand before it
pub record Cursor : Type 0 where
  pub term : ℕ
  pub call : ℕ

abbrev pub first_place : Cursor
first_place = record { term = 0; call = 0 }

abbrev pub next_term : Cursor → Cursor
next_term at = record at { term = suc at.term }

abbrev pub next_call : Cursor → Cursor
next_call at = record { term = suc at.term; call = suc at.call }

-- the emission of a term or of a row of terms, and the place after it
pub record PlacedEmitted : Type 0 where
  pub place : Cursor
  pub emitted : Emitted

abbrev pub placed : Cursor → Emitted → PlacedEmitted
placed at x = record { place = at; emitted = x }

-- ## Operators

-- a literal; one that is no `int` has the value of a fault
abbrev pub literal : ℕ → Scalar
literal n = if nat_le n 2147483647 then Integer (pos n) else Bad

-- one new element, which has this value
abbrev pub constant : FlatClock → State → Scalar → Emitted
constant k s v = add k s (Constant v ∷ [])

-- operation `f` on each element of a result
abbrev pub each : FlatClock → (ℕ → Operation) → Emitted → Emitted
each k f x = add k x.state (map f x.found)

-- operation `f` on each element of a result, which memories keep
abbrev pub memory : FlatClock → (ℕ → Operation) → Emitted → Emitted
memory k f x = each k f (keep x)

-- operation `f` on each pair of elements of two operands: one of `xs`, and one of the result `y`
abbrev pub pairs : FlatClock → (ℕ → ℕ → Operation) → List ℕ → Emitted → Emitted
pairs k f xs y = add k y.state (zip2 f xs y.found)

-- `if` with the condition `cs`, the first branch `xs` and the second branch `y`
abbrev pub choose : FlatClock → List ℕ → List ℕ → Emitted → Emitted
choose k cs xs y = add k y.state (chosen_by cs xs y.found)

-- `count` elements of a result, from number `from` on
abbrev pub picked : ℕ → ℕ → Emitted → Emitted
picked from count x = gives x.state (take count (drop from x.found))

-- an iterated symbol over the elements of its operands: those of two arrays of `n` for `map`, an
-- initial one and those of an array for `red`
abbrev pub red : FlatClock → BinaryOperator → State → List ℕ → Emitted
red k op s [] = gives s []
red k op s (init ∷ ys) = chained k op s init ys

abbrev pub symbol : FlatClock → BinaryOperator → ℕ → ArrayIterator → Emitted → Emitted
symbol k op n Map x = add k x.state (zip2 (ApplyBinary op) (take n x.found) (drop n x.found))
symbol k op n Red x = red k op x.state x.found
symbol k op n Fill x = gives x.state []

-- ## Calls

-- the elements of an input of the instance that a call calls at an index
abbrev pub input_targets : Context → (call index variable : ℕ) → List Target
input_targets ctx c i x =
    map (λ p. record { place = p; clock = ctx.input c i x }) (ctx.child c i x)

-- the equations by which the inputs of a called node are copies of the elements of the operands
abbrev pub call_copies : Context → ℕ → Option Callee → List ℕ → List FlatEquation
call_copies ctx c None is = []
call_copies ctx c (Some n) is =
    copied (flat_map (input_targets ctx c 0) (range_with_len 0 n.inputs)) is

abbrev pub call_outputs : Context → ℕ → Option Callee → List ℕ
call_outputs ctx c None = []
call_outputs ctx c (Some n) = flat_map (ctx.child c 0) (range_with_len n.inputs n.outputs)

-- the equations by which inputs of instance `i` of `m` are copies of its parts of the arrays `is`
abbrev pub part_copies :
    Context → (call repeats index : ℕ) → List ℕ → List ℕ → List FlatEquation
part_copies ctx c m i [] is = []
part_copies ctx c m i (x ∷ xs) is =
    let ts = input_targets ctx c i x in
    copied ts (drop (length ts * i) is) ++ part_copies ctx c m i xs (drop (length ts * m) is)

-- the accumulator that the instance at an index receives: the initial value, or the first output of
-- the instance before
abbrev pub accumulator : Context → ℕ → Callee → ℕ → List ℕ → List ℕ
accumulator ctx c n zero is = is
accumulator ctx c n (suc i) is = ctx.child c i n.inputs

-- the equations by which instance `i` of `m` receives its inputs
abbrev pub index_copies :
    Context → ℕ → ℕ → ArrayIterator → Callee → List ℕ → ℕ → List FlatEquation
index_copies ctx c m Map n is i = part_copies ctx c m i (range_with_len 0 n.inputs) is
index_copies ctx c m Red n is i =
    let ts = input_targets ctx c i 0 in
    copied ts (accumulator ctx c n i is)
    ++ part_copies ctx c m i (range_with_len 1 (n.inputs - 1)) (drop (length ts) is)
index_copies ctx c m Fill n is i =
    copied (input_targets ctx c i 0) (accumulator ctx c n i is)

abbrev pub iterator_copies :
    Context → ℕ → ArrayIterator → Option Callee → List ℕ → List FlatEquation
iterator_copies ctx c it None is = []
iterator_copies ctx c it (Some n) is =
    flat_map (index_copies ctx c (ctx.repeats c) it n is) (range_with_len 0 (ctx.repeats c))

-- the elements of the outputs `outs` of `m` instances: for each output, instance after instance
abbrev pub gathered_at : Context → ℕ → ℕ → List ℕ → List ℕ
gathered_at ctx c m outs =
    flat_map (λ o. flat_map (λ i. ctx.child c i o) (range_with_len 0 m)) outs

-- the elements of the outputs of an iterated node
abbrev pub index_outputs : Context → ℕ → ℕ → ArrayIterator → Callee → List ℕ
index_outputs ctx c m Map n = gathered_at ctx c m (range_with_len n.inputs n.outputs)
index_outputs ctx c m Red n = ctx.child c (m - 1) n.inputs
index_outputs ctx c m Fill n =
    ctx.child c (m - 1) n.inputs
    ++ gathered_at ctx c m (range_with_len (suc n.inputs) (n.outputs - 1))

abbrev pub iterator_outputs : Context → ℕ → ArrayIterator → Option Callee → List ℕ
iterator_outputs ctx c it None = []
iterator_outputs ctx c it (Some n) = index_outputs ctx c (ctx.repeats c) it n

-- a call whose operands are the elements of `r`
abbrev pub call : Context → ℕ → Emitted → Emitted
call ctx c r =
    joins r.state (call_copies ctx c (ctx.callee c) r.found) (call_outputs ctx c (ctx.callee c))

-- an iterated node whose operands are the elements of `r`
abbrev pub iterate : Context → ℕ → ArrayIterator → Emitted → Emitted
iterate ctx c it r =
    joins r.state (iterator_copies ctx c it (ctx.callee c) r.found)
    (iterator_outputs ctx c it (ctx.callee c))

-- ## Terms

-- the emission of a term with one operand, from that of the operand
abbrev pub with_one : Context → Cursor → Term → Emitted → Emitted
with_one ctx at (Unary' op p a) x = each (ctx.clock at.term) (ApplyUnary op) x
with_one ctx at (Pre' p a) x = memory (ctx.clock at.term) (Previous first_value) x
with_one ctx at (Current' p a) x = memory (ctx.clock at.term) (Latest first_value) x
with_one ctx at (When' p a x sign) z = each (ctx.sampled x.0 sign) Sample z
with_one ctx at (Replicate' p a n) x = gives x.state (copies (ctx.count n.0) x.found)
with_one ctx at (Index' p a i) x =
    let parts = ctx.parts (suc at.term) in picked (parts * ctx.count i.0) parts x
with_one ctx at (Slice' p a i j) x =
    let parts = ctx.parts (suc at.term) in
    picked (parts * ctx.count i.0) (parts * (suc (ctx.count j.0) - ctx.count i.0)) x
with_one ctx at e x = x

-- the emission of a term with two operands, from the elements `xs` of the first one and the
-- emission of the second one
abbrev pub with_two : Context → Cursor → Term → List ℕ → Emitted → Emitted
with_two ctx at (Binary' op p a q b) xs y = pairs (ctx.clock at.term) (ApplyBinary op) xs y
with_two ctx at (Arrow' p a q b) xs y = pairs (ctx.clock at.term) (FirstThen false) xs y
with_two ctx at (Fby' p a q b) xs y =
    let k = ctx.clock at.term in
    pairs k (FirstThen false) xs (memory k (Previous first_value) y)
with_two ctx at e xs y = gives y.state (xs ++ y.found)

-- the emission of a term with a row of operands, from that of the row
abbrev pub with_all : Context → Cursor → Term → Emitted → Emitted
with_all ctx at (AtMostOne' arity all) r = emit_at_most_one (ctx.clock at.term) r.state r.found
with_all ctx at (Nor' arity all) r = emit_nor (ctx.clock at.term) r.state r.found
with_all ctx at (Call' c arity all) r = call ctx at.call r
with_all ctx at (IterateNode' it c arity all) r = iterate ctx at.call it r
with_all ctx at (IterateSymbol' it op n arity all) r =
    symbol (ctx.clock at.term) op (ctx.count n.0) it r
with_all ctx at e r = r

-- the place of the row of operands of a term
abbrev pub row_place : Cursor → Term → Cursor
row_place at (Call' c arity all) = next_call at
row_place at (IterateNode' it c arity all) = next_call at
row_place at e = next_term at

unfoldable mutual
  -- emits a term at a place, after the equations of `s`
  pub emit_term : Context → Cursor → State → Term → PlacedEmitted
  emit_term ctx at s (Literal n) =
      placed (next_term at) (constant (ctx.clock at.term) s (literal n))
  emit_term ctx at s (Truth b) =
      placed (next_term at) (constant (ctx.clock at.term) s (Boolean b))
  emit_term ctx at s (Variable x) = placed (next_term at) (gives s (ctx.places x.0))
  emit_term ctx at s (Value i) =
      placed (next_term at) (constant (ctx.clock at.term) s (ctx.value i.0))
  emit_term ctx at s (Group' p e) = emit_term ctx at s e
  emit_term ctx at s (Unary' op p a) =
      let x = emit_term ctx (next_term at) s a in
      placed x.place (with_one ctx at (Unary' op p a) x.emitted)
  emit_term ctx at s (Binary' op p a q b) =
      let x = emit_term ctx (next_term at) s a in
      let y = emit_term ctx x.place x.emitted.state b in
      placed y.place (with_two ctx at (Binary' op p a q b) x.emitted.found y.emitted)
  emit_term ctx at s (If' p c q a r b) =
      let z = emit_term ctx (next_term at) s c in
      let x = emit_term ctx z.place z.emitted.state a in
      let y = emit_term ctx x.place x.emitted.state b in
      placed y.place (choose (ctx.clock at.term) z.emitted.found x.emitted.found y.emitted)
  emit_term ctx at s (Arrow' p a q b) =
      let x = emit_term ctx (next_term at) s a in
      let y = emit_term ctx x.place x.emitted.state b in
      placed y.place (with_two ctx at (Arrow' p a q b) x.emitted.found y.emitted)
  emit_term ctx at s (Fby' p a q b) =
      let x = emit_term ctx (next_term at) s a in
      let y = emit_term ctx x.place x.emitted.state b in
      placed y.place (with_two ctx at (Fby' p a q b) x.emitted.found y.emitted)
  emit_term ctx at s (Pre' p a) =
      let x = emit_term ctx (next_term at) s a in
      placed x.place (with_one ctx at (Pre' p a) x.emitted)
  emit_term ctx at s (Current' p a) =
      let x = emit_term ctx (next_term at) s a in
      placed x.place (with_one ctx at (Current' p a) x.emitted)
  emit_term ctx at s (When' p a c sign) =
      let x = emit_term ctx (next_term at) s a in
      placed x.place (with_one ctx at (When' p a c sign) x.emitted)
  emit_term ctx at s (Replicate' p a n) =
      let x = emit_term ctx (next_term at) s a in
      placed x.place (with_one ctx at (Replicate' p a n) x.emitted)
  emit_term ctx at s (Index' p a i) =
      let x = emit_term ctx (next_term at) s a in
      placed x.place (with_one ctx at (Index' p a i) x.emitted)
  emit_term ctx at s (Slice' p a i j) =
      let x = emit_term ctx (next_term at) s a in
      placed x.place (with_one ctx at (Slice' p a i j) x.emitted)
  emit_term ctx at s (Join' p a q b) =
      let x = emit_term ctx (next_term at) s a in
      let y = emit_term ctx x.place x.emitted.state b in
      placed y.place (with_two ctx at (Join' p a q b) x.emitted.found y.emitted)
  emit_term ctx at s (Array' arity all) =
      let r = emit_row ctx (next_term at) s all in
      placed r.place (with_all ctx at (Array' arity all) r.emitted)
  emit_term ctx at s (AtMostOne' arity all) =
      let r = emit_row ctx (next_term at) s all in
      placed r.place (with_all ctx at (AtMostOne' arity all) r.emitted)
  emit_term ctx at s (Nor' arity all) =
      let r = emit_row ctx (next_term at) s all in
      placed r.place (with_all ctx at (Nor' arity all) r.emitted)
  emit_term ctx at s (Call' c arity all) =
      let r = emit_row ctx (next_call at) s all in
      placed r.place (with_all ctx at (Call' c arity all) r.emitted)
  emit_term ctx at s (IterateNode' it c arity all) =
      let r = emit_row ctx (next_call at) s all in
      placed r.place (with_all ctx at (IterateNode' it c arity all) r.emitted)
  emit_term ctx at s (IterateSymbol' it op n arity all) =
      let r = emit_row ctx (next_term at) s all in
      placed r.place (with_all ctx at (IterateSymbol' it op n arity all) r.emitted)

  -- emits a row of terms from a place on, with their elements one after another
  pub emit_row : {m : _} → Context → Cursor → State → Row_of-Term m → PlacedEmitted
  emit_row ctx at s end_of-Term = placed at (gives s [])
  emit_row ctx at s (more_of-Term e rest) =
      let x = emit_term ctx at s e in
      let r = emit_row ctx x.place x.emitted.state rest in
      placed r.place (gives r.emitted.state (x.emitted.found ++ r.emitted.found))

-- emits a list of terms
unfoldable pub emit_list : Context → Cursor → State → List Term → PlacedEmitted
emit_list ctx at s [] = placed at (gives s [])
emit_list ctx at s (e ∷ es) =
    let x = emit_term ctx at s e in
    let r = emit_list ctx x.place x.emitted.state es in
    placed r.place (gives r.emitted.state (x.emitted.found ++ r.emitted.found))

-- ## Statements and instances

-- the state behind a statement, and the place after the statement
pub record PlacedState : Type 0 where
  pub place : Cursor
  pub state : State

-- the elements of a variable on the left of an equation, with their clock
abbrev pub left_targets : Context → VariableId → List Target
left_targets ctx x =
    map (λ p. record { place = p; clock = ctx.declared x.0 }) (ctx.places x.0)

unfoldable pub emit_statement : Context → Cursor → State → ResolvedStatement → PlacedState
emit_statement ctx at s (statement.Equation lefts e) =
    let x = emit_term ctx at s e in
    let lefts_copied = copied (flat_map (left_targets ctx) lefts.items) x.emitted.found in
    record { place = x.place; state = (joins x.emitted.state lefts_copied []).state }
emit_statement ctx at s (statement.Assertion e) =
    let x = emit_term ctx at s e in record { place = x.place; state = assert x.emitted }

unfoldable pub emit_statements : Context → Cursor → State → List ResolvedStatement → PlacedState
emit_statements ctx at s [] = record { place = at; state = s }
emit_statements ctx at s (x ∷ xs) =
    let r = emit_statement ctx at s x in emit_statements ctx r.place r.state xs

-- emits instances one after another, each with the statements of its node
unfoldable pub emit_rows : State → List (Context × List ResolvedStatement) → State
emit_rows s [] = s
emit_rows s (row ∷ rows) = emit_rows (emit_statements row.0 first_place s row.1).state rows
