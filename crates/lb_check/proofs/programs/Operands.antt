-- The operands of an expression where it stands, and what is known of them from the expression.
use Rattle.lb_check.proofs.Words
use Words.{ArrayIterator, Option, Static, from_two, ◌≡◌, ℕ, ◌+◌, Some, List, [], ◌∷◌, Every}
use Words.{Node_named, Symbol, Expr, Group, Unary, Binary, If, Arrow, Fby, Pre, Current, When}
use Words.{Replicate, Index, Slice, Join, Array, AtMostOne, Nor, Call, Iterate, Exprs, Nil, Cons}
use Words.{Node, Program, Instance, node_named, Clock, clock_of, clock_or, declared_clock}
use Words.{Occurrence, at, call_count, call_clocks, occurrences, occurrences_in, occurrences_each}
use Words.{DataType, data_types, all_types, singly, static_count, name_data_type, from_one}
use Words.{from_truths, unary_type, binary_type, common_type, array_of, index_type, slice_type}
use Words.{join_type, operator_types}
use Rattle.lb_syntax.specs.Tree.{Literal, Truth, Variable, Operator}
use Rattle.lb_check.proofs.lists.Members.{Every-append}
use Rattle.lb_check.proofs.typing.OperandTypes.{bound, one, two, from_true, first_of_all}

-- ## A property of the operands

module _ (P : Program) (here : Node) (S : Occurrence → Type 0) where
  -- `S` holds of each expression of a row on clock `k`, the first after `n` calls
  abbrev pub OnRow : Clock → ℕ → Exprs → Type 0
  OnRow k n Nil = Unit {0}
  OnRow k n (Cons e es) = S (at k n e) × OnRow k (n + call_count e) es

  -- `S` holds of each expression of a row, each on a clock of its own, as far as there are clocks
  abbrev pub OnEach : List Clock → ℕ → Exprs → Type 0
  OnEach ks n Nil = Unit {0}
  OnEach [] n (Cons e es) = Unit {0}
  OnEach (k ∷ ks) n (Cons e es) = S (at k n e) × OnEach ks (n + call_count e) es

  abbrev pub OnTwo : Clock → ℕ → Expr → Expr → Type 0
  OnTwo k n a b = S (at k n a) × S (at k (n + call_count a) b)

  -- `S` holds of the operands of an expression on clock `k` after `n` calls
  abbrev pub OnOperands : Clock → ℕ → Expr → Type 0
  OnOperands k n (Group a) = S (at k n a)
  OnOperands k n (Unary op a) = S (at k n a)
  OnOperands k n (Binary op a b) = OnTwo k n a b
  OnOperands k n (If c a b) = S (at k n c) × OnTwo k (n + call_count c) a b
  OnOperands k n (Arrow a b) = OnTwo k n a b
  OnOperands k n (Fby a b) = OnTwo k n a b
  OnOperands k n (Pre a) = S (at k n a)
  OnOperands k n (When a x sign) = S (at (declared_clock here x) n a)
  OnOperands k n (Current a) = S (at (clock_or (clock_of P here a)) n a)
  OnOperands k n (Replicate a m) = S (at k n a)
  OnOperands k n (Index a i) = S (at k n a)
  OnOperands k n (Slice a i j) = S (at k n a)
  OnOperands k n (Join a b) = OnTwo k n a b
  OnOperands k n (Array es) = OnRow k n es
  OnOperands k n (AtMostOne es) = OnRow k n es
  OnOperands k n (Nor es) = OnRow k n es
  OnOperands k n (Call f statics es) = OnEach (call_clocks k (node_named P f) es) (n + 1) es
  OnOperands k n (Iterate it (Node_named f statics) m es) = OnRow k (n + 1) es
  OnOperands k n (Iterate it (Symbol op) m es) = OnRow k n es
  OnOperands k n e = Unit {0}

  -- ## A property that passes to the operands holds of all parts

  module _ (passes : (k : Clock) (n : ℕ) (e : Expr) → S (at k n e) → OnOperands k n e) where
    mutual
      pub on_parts : (k : Clock) (n : ℕ) (e : Expr) → S (at k n e) →
          Every S (occurrences P here k n e)
      on_parts k n (Literal m) s = (s, tt)
      on_parts k n (Truth b) s = (s, tt)
      on_parts k n (Variable x) s = (s, tt)
      on_parts k n (Group a) s = on_parts k n a (passes k n (Group a) s)
      on_parts k n (Unary op a) s = (s, on_parts k n a (passes k n (Unary op a) s))
      on_parts k n (Binary op a b) s =
          let o = passes k n (Binary op a b) s in
          (s, Every-append S _ _ (on_parts k n a o.0) (on_parts k (n + call_count a) b o.1))
      on_parts k n (If c a b) s =
          let na = n + call_count c in
          let o = passes k n (If c a b) s in (
            s,
            Every-append S _ _ (on_parts k n c o.0)
                (Every-append S _ _ (on_parts k na a o.1.0)
                (on_parts k (na + call_count a) b o.1.1)),
          )
      on_parts k n (Arrow a b) s =
          let o = passes k n (Arrow a b) s in
          (s, Every-append S _ _ (on_parts k n a o.0) (on_parts k (n + call_count a) b o.1))
      on_parts k n (Fby a b) s =
          let o = passes k n (Fby a b) s in
          (s, Every-append S _ _ (on_parts k n a o.0) (on_parts k (n + call_count a) b o.1))
      on_parts k n (Pre a) s = (s, on_parts k n a (passes k n (Pre a) s))
      on_parts k n (When a x sign) s =
          (s, on_parts (declared_clock here x) n a (passes k n (When a x sign) s))
      on_parts k n (Current a) s =
          (s, on_parts (clock_or (clock_of P here a)) n a (passes k n (Current a) s))
      on_parts k n (Replicate a m) s = (s, on_parts k n a (passes k n (Replicate a m) s))
      on_parts k n (Index a i) s = (s, on_parts k n a (passes k n (Index a i) s))
      on_parts k n (Slice a i j) s = (s, on_parts k n a (passes k n (Slice a i j) s))
      on_parts k n (Join a b) s =
          let o = passes k n (Join a b) s in
          (s, Every-append S _ _ (on_parts k n a o.0) (on_parts k (n + call_count a) b o.1))
      on_parts k n (Array es) s = (s, on_row k n es (passes k n (Array es) s))
      on_parts k n (AtMostOne es) s = (s, on_row k n es (passes k n (AtMostOne es) s))
      on_parts k n (Nor es) s = (s, on_row k n es (passes k n (Nor es) s))
      on_parts k n (Call f statics es) s = (
        s,
        on_each (call_clocks k (node_named P f) es) (n + 1) es
            (passes k n (Call f statics es) s),
      )
      on_parts k n (Iterate it (Node_named f statics) m es) s =
          (s, on_row k (n + 1) es (passes k n (Iterate it (Node_named f statics) m es) s))
      on_parts k n (Iterate it (Symbol op) m es) s =
          (s, on_row k n es (passes k n (Iterate it (Symbol op) m es) s))

      on_row : (k : Clock) (n : ℕ) (es : Exprs) → OnRow k n es →
          Every S (occurrences_in P here k n es)
      on_row k n Nil s = tt
      on_row k n (Cons e es) s =
          Every-append S _ _ (on_parts k n e s.0) (on_row k (n + call_count e) es s.1)

      on_each : (ks : List Clock) (n : ℕ) (es : Exprs) → OnEach ks n es →
          Every S (occurrences_each P here ks n es)
      on_each ks n Nil s = tt
      on_each [] n (Cons e es) s = tt
      on_each (k ∷ ks) n (Cons e es) s =
          Every-append S _ _ (on_parts k n e s.0) (on_each ks (n + call_count e) es s.1)

-- ## The types of the operands

-- an occurrence has types
pub record HasTypes (P : Program) (here : Instance) (o : Occurrence) : Type 0 where
  pub types : List DataType
  pub typed : data_types P here o.expr ≡ Some types

module _ (P : Program) (here : Instance) where
  abbrev Typed : Occurrence → Type 0
  Typed o = HasTypes P here o

  -- an expression with types has them where it stands
  has_types : (k : Clock) (n : ℕ) (e : Expr) (ts : List DataType) → data_types P here e ≡ Some ts →
      Typed (at k n e)
  has_types k n e ts is = record { types = ts; typed = is }

  -- the one operand of a result has types
  has_one : (k : Clock) (n : ℕ) (a : Expr) (f : DataType → Option DataType) (ts : List DataType) →
      from_one (data_types P here a) f ≡ Some ts → Typed (at k n a)
  has_one k n a f ts e = has_types k n a _ (one (data_types P here a) f ts e).is

  -- both operands of a result have types
  has_two :
      (k : Clock) (n : ℕ) (a b : Expr) (f : DataType → DataType → Option DataType)
      (ts : List DataType) →
      from_two (data_types P here a) (data_types P here b) f ≡ Some ts →
      OnTwo P here.node Typed k n a b
  has_two k n a b f ts e =
      let i = two (data_types P here a) (data_types P here b) f ts e in
      (has_types k n a _ i.is_first, has_types k (n + call_count a) b _ i.is_second)

  -- each expression of a row has types, and below of a row on clocks of their own
  row_typed : (k : Clock) (n : ℕ) (es : Exprs) (ts : List DataType) →
      all_types P here es ≡ Some ts → OnRow P here.node Typed k n es
  row_typed k n Nil ts e = tt
  row_typed k n (Cons a es) ts e =
      let i = first_of_all P here a es ts e in
      (has_types k n a _ i.is, row_typed k (n + call_count a) es i.rest i.others)

  each_typed : (ks : List Clock) (n : ℕ) (es : Exprs) (ts : List DataType) →
      all_types P here es ≡ Some ts → OnEach P here.node Typed ks n es
  each_typed ks n Nil ts e = tt
  each_typed [] n (Cons a es) ts e = tt
  each_typed (k ∷ ks) n (Cons a es) ts e =
      let i = first_of_all P here a es ts e in
      (has_types k n a _ i.is, each_typed ks (n + call_count a) es i.rest i.others)

  -- the types of the results of an iterator are there only where those of its operands are
  row_of_iterator :
      (k : Clock) (n : ℕ) (it : ArrayIterator) (op : Operator) (m : Static) (es : Exprs)
      (ts : List DataType) → data_types P here (Iterate it op m es) ≡ Some ts →
      OnRow P here.node Typed k n es
  row_of_iterator k n it op m es ts e =
      let c = bound (static_count P here m) _ ts e in
      let t = bound (operator_types P here op) _ ts c.gives in
      let a = bound (all_types P here es) _ ts t.gives in
      row_typed k n es a.value a.is

  -- the operands of an expression with types have types
  pub operands_typed : (k : Clock) (n : ℕ) (e : Expr) (ts : List DataType) →
      data_types P here e ≡ Some ts → OnOperands P here.node Typed k n e
  operands_typed k n (Literal m) ts e = tt
  operands_typed k n (Truth b) ts e = tt
  operands_typed k n (Variable x) ts e = tt
  operands_typed k n (Group a) ts e = has_types k n a ts e
  operands_typed k n (Unary op a) ts e = has_one k n a (unary_type op) ts e
  operands_typed k n (Binary op a b) ts e = has_two k n a b (binary_type op) ts e
  operands_typed k n (If c a b) ts e =
      let t = bound (from_truths (from_one (data_types P here c) Some)) _ ts e in
      let truths = from_true (from_one (data_types P here c) Some) t.value t.is in (
        has_one k n c Some truths.data_types truths.is,
        has_two k (n + call_count c) a b common_type ts t.gives,
      )
  operands_typed k n (Arrow a b) ts e = has_two k n a b common_type ts e
  operands_typed k n (Fby a b) ts e = has_two k n a b common_type ts e
  operands_typed k n (Pre a) ts e = has_one k n a Some ts e
  operands_typed k n (When a x sign) ts e =
      let t = bound (from_truths (singly (name_data_type P here x))) _ ts e in
      has_one (declared_clock here.node x) n a Some ts t.gives
  operands_typed k n (Current a) ts e = has_one (clock_or (clock_of P here.node a)) n a Some ts e
  operands_typed k n (Replicate a m) ts e =
      let c = bound (static_count P here m) _ ts e in
      has_one k n a (array_of c.value) ts c.gives
  operands_typed k n (Index a m) ts e =
      let c = bound (static_count P here m) _ ts e in
      has_one k n a (index_type c.value) ts c.gives
  operands_typed k n (Slice a m l) ts e =
      let c = bound (static_count P here m) _ ts e in
      let d = bound (static_count P here l) _ ts c.gives in
      has_one k n a (slice_type c.value d.value) ts d.gives
  operands_typed k n (Join a b) ts e = has_two k n a b join_type ts e
  operands_typed k n (Array es) ts e =
      let b = bound (all_types P here es) _ ts e in row_typed k n es b.value b.is
  operands_typed k n (AtMostOne es) ts e =
      let t = from_true (all_types P here es) ts e in row_typed k n es t.data_types t.is
  operands_typed k n (Nor es) ts e =
      let t = from_true (all_types P here es) ts e in row_typed k n es t.data_types t.is
  operands_typed k n (Call f statics es) ts e =
      let t = bound (operator_types P here (Node_named f statics)) _ ts e in
      let a = bound (all_types P here es) _ ts t.gives in
      each_typed (call_clocks k (node_named P f) es) (n + 1) es a.value a.is
  operands_typed k n (Iterate it (Node_named f statics) m es) ts e =
      row_of_iterator k (n + 1) it (Node_named f statics) m es ts e
  operands_typed k n (Iterate it (Symbol op) m es) ts e =
      row_of_iterator k n it (Symbol op) m es ts e
