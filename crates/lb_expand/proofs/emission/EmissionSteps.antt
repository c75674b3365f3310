-- Relations of states that hold along each word of emission: what it keeps and what it adds.
use Rattle.lb_expand.proofs.Words
use Words.{And, ApplyBinary, Array, ArrayIterator, Arrow, Assertion, AtMostOne, Binary}
use Words.{BinaryOperator, Boolean, Call, Child, Cons, Constant, Current, Declaration, Emitted}
use Words.{Equation, Expr, Exprs, Fby, FlatClock, FlatEquation, Group, If, Index, Instance, Iterate}
use Words.{Join, Layout, List, Literal, Map, Name, Nil, Node_named, None, Nor, Operation, Option}
use Words.{Or, Path, Pre, Program, Red, Replicate, Slice, Some, State, Statement, Symbol, Truth}
use Words.{Unary, Variable, When, [], add, assert, call_clocks, call_copies, call_count, chained}
use Words.{copied, emit, emit_all, emit_at_most_one, emit_body, emit_each, emit_instances}
use Words.{emit_name, emit_nor, emit_symbol, false, flat_map, iterated, iterator_copies, joins}
use Words.{keep, node_named, number, outputs_of, push, refl, statement_clock, targets, twice, zip2}
use Words.{ℕ, ◌++◌, ◌+◌, ◌∙◌, ◌∷◌, ◌≡◌}
use Rattle.lb_check.specs.Clocks.{Clock}

-- If a relation of states holds along each word of emission, it holds between the states before and
-- after emitting expressions, statements and instances.

-- a relation that is reflexive and transitive, and that holds when elements are added
pub record IsAdding (R : State → State → Type 0) : Type 0 where
  pub none : (s : State) → R s s
  pub both : (s t u : State) → R s t → R t u → R s u
  pub adds : (k : FlatClock) (s : State) (os : List Operation) → R s (add k s os).state

-- an `IsAdding` that also holds when memories keep operands and when copies of kind `Q` are added
pub record IsStep (Q : List FlatEquation → Type 0) (R : State → State → Type 0) : Type 0 where
  pub adding : IsAdding R
  pub keeps : (x : Emitted) → R x.state (keep x).state
  pub joining : (s : State) (qs : List FlatEquation) (is : List ℕ) → Q qs →
      R s (joins s qs is).state

-- any copies
abbrev pub Any : List FlatEquation → Type 0
Any qs = Unit {0}

-- ## Words

module _ (R : State → State → Type 0) (w : IsAdding R) where
  pub push_step : (k : FlatClock) (s : State) (o : Operation) → R s (push k s o)
  unfolding add
  push_step k s o = w.adds k s (o ∷ [])

  pub chained_step :
      (k : FlatClock) (op : BinaryOperator) (s : State) (init : ℕ) (ys : List ℕ) →
      R s (chained k op s init ys).state
  unfolding chained
  chained_step k op s init [] = w.none s
  chained_step k op s init (y ∷ ys) =
      w.both s _ _ (push_step k s (ApplyBinary op init y)) (chained_step k op _ s.next ys)

  pub twice_step :
      (k : FlatClock) (s : State) (any two : ℕ) (xs : List ℕ) → R s (twice k s any two xs).state
  unfolding twice
  twice_step k s any two [] = w.none s
  twice_step k s any two (x ∷ xs) =
      let t = push k s (ApplyBinary And any x) in
      let u = push k t (ApplyBinary Or two s.next) in
      w.both s t _ (push_step k s (ApplyBinary And any x))
      (w.both t u _ (push_step k t (ApplyBinary Or two s.next))
      (w.both u _ _ (push_step k u (ApplyBinary Or any x)) (twice_step k _ u.next t.next xs)))

  pub nor_step : (k : FlatClock) (s : State) (is : List ℕ) → R s (emit_nor k s is).state
  nor_step k s is =
      let t = push k s (Constant (Boolean false)) in
      w.both s t _ (push_step k s (Constant (Boolean false)))
      (w.both t _ _ (chained_step k Or t s.next is) (w.adds k _ _))

  pub at_most_one_step :
      (k : FlatClock) (s : State) (is : List ℕ) → R s (emit_at_most_one k s is).state
  at_most_one_step k s is =
      let t = push k s (Constant (Boolean false)) in
      w.both s t _ (push_step k s (Constant (Boolean false)))
      (w.both t _ _ (twice_step k t s.next s.next is) (w.adds k _ _))

  pub symbol_step :
      (k : FlatClock) (op : BinaryOperator) (s : State) (it : ArrayIterator)
      (found : List (List ℕ)) → R s (emit_symbol k op s it found).state
  symbol_step k op s Map (xs ∷ (ys ∷ [])) = w.adds k s (zip2 (ApplyBinary op) xs ys)
  symbol_step k op s Red ((init ∷ []) ∷ (ys ∷ [])) = chained_step k op s init ys
  symbol_step k op s it found = w.none s

  pub name_step :
      (Y : Layout) (P : Program) (here : Instance) (k : Clock) (s : State) (x : Name)
      (d : Option Declaration) → R s (emit_name Y P here k s x d).state
  name_step Y P here k s x (Some d) = w.none s
  name_step Y P here k s x None = w.adds _ s _

-- ## Expressions

-- all copies that expansion makes are of kind `Q`: for calls, for iterated nodes and for left
-- variables
pub record AreJoined (Q : List FlatEquation → Type 0) (Y : Layout) : Type 0 where
  pub calls : (p : Path) (o : _) (iss : List (List ℕ)) → Q (call_copies Y p o iss)
  pub iterators :
      (p : Path) (n : ℕ) (it : ArrayIterator) (m : ℕ) (o : _) (iss : List (List ℕ)) →
      Q (iterator_copies Y p n it m o iss)
  pub lefts :
      (here : Instance) (xs : List Name) (is : List ℕ) →
      Q (copied (flat_map (targets Y here.node here.path) xs) is)

pub any_joined : (Y : Layout) → AreJoined Any Y
any_joined Y =
    record { calls = λ p o iss. tt; iterators = λ p n it m o iss. tt; lefts = λ here xs is. tt }

module _ (Q : List FlatEquation → Type 0) (R : State → State → Type 0) (w : IsStep Q R) (Y : Layout)
    (joined : AreJoined Q Y) (P : Program) where
  then_adds : (s t : State) (k : FlatClock) (os : List Operation) → R s t → R s (add k t os).state
  then_adds s t k os h = w.adding.both s t _ h (w.adding.adds k t os)

  then_keeps : (s : State) (x : Emitted) → R s x.state → R s (keep x).state
  then_keeps s x h = w.adding.both s x.state _ h (w.keeps x)

  module _ (here : Instance) where
    mutual
      unfolding emit

      pub emit_step : (k : Clock) (n : ℕ) (s : State) (e : Expr) → R s (emit Y P here k n s e).state
      emit_step k n s (Literal m) = w.adding.adds _ s _
      emit_step k n s (Truth b) = w.adding.adds _ s _
      emit_step k n s (Variable x) = name_step R w.adding Y P here k s x _
      emit_step k n s (Group a) = emit_step k n s a
      emit_step k n s (Unary op a) = then_adds s _ _ _ (emit_step k n s a)
      emit_step k n s (Binary op a b) =
          then_adds s _ _ _ (w.adding.both s _ _ (emit_step k n s a) (emit_step k _ _ b))
      emit_step k n s (If c a b) =
          then_adds s _ _ _ (w.adding.both s _ _ (emit_step k n s c)
          (w.adding.both _ _ _ (emit_step k _ _ a) (emit_step k _ _ b)))
      emit_step k n s (Arrow a b) =
          then_adds s _ _ _ (w.adding.both s _ _ (emit_step k n s a) (emit_step k _ _ b))
      emit_step k n s (Fby a b) =
          then_adds s _ _ _ (then_adds s _ _ _ (then_keeps s _
          (w.adding.both s _ _ (emit_step k n s a) (emit_step k _ _ b))))
      emit_step k n s (Pre a) = then_adds s _ _ _ (then_keeps s _ (emit_step k n s a))
      emit_step k n s (Current a) = then_adds s _ _ _ (then_keeps s _ (emit_step _ n s a))
      emit_step k n s (When a x sign) = then_adds s _ _ _ (emit_step _ n s a)
      emit_step k n s (Replicate a m) = emit_step k n s a
      emit_step k n s (Index a i) = emit_step k n s a
      emit_step k n s (Slice a i j) = emit_step k n s a
      emit_step k n s (Join a b) = w.adding.both s _ _ (emit_step k n s a) (emit_step k _ _ b)
      emit_step k n s (Array es) = all_step k n s es
      emit_step k n s (AtMostOne es) =
          w.adding.both s _ _ (all_step k n s es) (at_most_one_step R w.adding _ _ _)
      emit_step k n s (Nor es) = w.adding.both s _ _ (all_step k n s es) (nor_step R w.adding _ _ _)
      emit_step k n s (Call f statics es) =
          let ks = call_clocks k (node_named P f) es in
          let r = emit_each Y P here ks (n + 1) s es in
          let child = Child here.path n 0 in
          w.adding.both s _ _ (each_step ks (n + 1) s es)
          (w.joining r.state _ (flat_map (λ o. Y.places child o.name) (outputs_of P here f))
          (joined.calls child (node_named P f) r.found))
      emit_step k n s (Iterate it (Node_named f statics) m es) =
          let r = emit_all Y P here k (n + 1) s es in
          let count = number P here m in
          w.adding.both s _ _ (all_step k (n + 1) s es)
          (w.joining r.state _
          (iterated (λ i x. Y.places (Child here.path n i) x) count it (outputs_of P here f))
          (joined.iterators here.path n it count (node_named P f) r.found))
      emit_step k n s (Iterate it (Symbol op) m es) =
          w.adding.both s _ _ (all_step k n s es) (symbol_step R w.adding _ op _ it _)

      pub all_step :
          (k : Clock) (n : ℕ) (s : State) (es : Exprs) → R s (emit_all Y P here k n s es).state
      all_step k n s Nil = w.adding.none s
      all_step k n s (Cons e es) =
          let m = n + call_count e in
          w.adding.both s _ _ (emit_step k n s e) (all_step k m (emit Y P here k n s e).state es)

      pub each_step :
          (ks : List Clock) (n : ℕ) (s : State) (es : Exprs) →
          R s (emit_each Y P here ks n s es).state
      each_step ks n s Nil = w.adding.none s
      each_step [] n s (Cons e es) = w.adding.none s
      each_step (k ∷ ks) n s (Cons e es) =
          let m = n + call_count e in
          w.adding.both s _ _ (emit_step k n s e) (each_step ks m (emit Y P here k n s e).state es)

  -- ## Statements and instances

  module _ (asserts : (x : Emitted) → R x.state (assert x)) where
    pub body_step :
        (here : Instance) (n : ℕ) (s : State) (body : List Statement) →
        R s (emit_body Y P here n s body)
    unfolding emit_body
    body_step here n s [] = w.adding.none s
    body_step here n s (Equation lefts e ∷ rest) =
        let x = emit Y P here (statement_clock P here.node (Equation lefts e)) n s e in
        let qs = copied (flat_map (targets Y here.node here.path) lefts) x.found in
        w.adding.both s _ _ (emit_step here _ n s e)
        (w.adding.both x.state _ _ (w.joining x.state qs [] (joined.lefts here lefts x.found))
        (body_step here (n + call_count e) (joins x.state qs []).state rest))
    body_step here n s (Assertion e ∷ rest) =
        let x = emit Y P here (statement_clock P here.node (Assertion e)) n s e in
        w.adding.both s _ _ (emit_step here _ n s e)
        (w.adding.both x.state _ _ (asserts x) (body_step here (n + call_count e) (assert x) rest))

    pub instances_step : (s : State) (is : List Instance) → R s (emit_instances Y P s is)
    unfolding emit_instances
    instances_step s [] = w.adding.none s
    instances_step s (here ∷ is) =
        w.adding.both s _ _ (body_step here 0 s here.node.body)
        (instances_step (emit_body Y P here 0 s here.node.body) is)

-- The small words of expansion copy nothing.

pub add_copies : (k : FlatClock) (s : State) (os : List Operation) →
    (add k s os).state.copies ≡ s.copies
unfolding add
add_copies k s os = refl

pub keep_copies : (x : Emitted) → (keep x).state.copies ≡ x.state.copies
unfolding keep
keep_copies x = refl

abbrev pub Copies : State → State → Type 0
Copies s t = t.copies ≡ s.copies

pub copying : IsAdding Copies
copying = record { none = λ s. refl; both = λ s t u a b. b ∙ a; adds = add_copies }

pub nor_copies : (k : FlatClock) (s : State) (is : List ℕ) →
    (emit_nor k s is).state.copies ≡ s.copies
nor_copies = nor_step Copies copying

pub at_most_one_copies : (k : FlatClock) (s : State) (is : List ℕ) →
    (emit_at_most_one k s is).state.copies ≡ s.copies
at_most_one_copies = at_most_one_step Copies copying

pub symbol_copies :
    (k : FlatClock) (op : BinaryOperator) (s : State) (it : ArrayIterator)
    (found : List (List ℕ)) → (emit_symbol k op s it found).state.copies ≡ s.copies
symbol_copies = symbol_step Copies copying

-- Expressions leave the list of asserted elements as it was.

pub joins_asserted :
    (s : State) (qs : List FlatEquation) (is : List ℕ) →
    (joins s qs is).state.asserted ≡ s.asserted
unfolding joins
joins_asserted s qs is = refl

pub assert_asserted : (x : Emitted) → (assert x).asserted ≡ x.state.asserted ++ x.found
unfolding assert
assert_asserted x = refl

pub assert_kept : (x : Emitted) → (assert x).memory_operands ≡ x.state.memory_operands
unfolding assert
assert_kept x = refl

abbrev Asserts : State → State → Type 0
Asserts s t = t.asserted ≡ s.asserted

asserting : IsStep Any Asserts
unfolding add keep joins
asserting = record {
  adding = record { none = λ s. refl; both = λ s t u a b. b ∙ a; adds = λ k s os. refl };
  keeps = λ x. refl;
  joining = λ s qs is q. refl;
}

pub asserts :
    (Y : Layout) (P : Program) (here : Instance) (k : Clock) (n : ℕ) (s : State) (e : Expr) →
    (emit Y P here k n s e).state.asserted ≡ s.asserted
asserts Y P here = emit_step Any Asserts asserting Y (any_joined Y) P here
