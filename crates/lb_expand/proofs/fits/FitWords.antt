-- The small words of expansion give equations that fit, under conditions on places and clocks.
use Rattle.lb_expand.proofs.Words
use Words.{And, ApplyBinary, ApplyUnary, ArrayIterator, Assertion, BinaryOperator, Bool, Boolean}
use Words.{Call, Child, Choose, Constant, Copy, Declaration, Emitted, Equation, Every, Expr, Exprs}
use Words.{FirstThen, FlatClock, FlatEquation, Instance, Int, Integer, Iterate, Kind, Latest}
use Words.{Layout, List, Literal, Map, Name, Node, Node_named, None, Not, Occurrence, Operation, Or}
use Words.{Previous, Program, Red, Scalar, Some, State, Statement, Static, Symbol, UnaryOperator}
use Words.{Variable, When, [], add, ap, ap₂, arith, base_clock, call_site, callee_of, chained}
use Words.{chosen_by, declared_clock, emit_at_most_one, emit_nor, emit_symbol, false, flat_clock}
use Words.{is_arithmetic, is_occurrence_clocked, is_statement_clocked, is_statement_typed, keep}
use Words.{length, list_all, map, name_value, named, negated, node_named, node_occurrences, number}
use Words.{numbered, numbers, operation_kind, or_fault, outer, pos, push, refl, statements, subst}
use Words.{suc, sym, true, twice, ungrouped, variables, width, zip, zip2, ℕ, ◌++◌, ◌<◌, ◌∙◌, ◌∷◌}
use Words.{◌≡◌}
use Rattle.lb_check.specs.Clocks.{Clock, given_inputs}
use Rattle.lb_expand.proofs.emission.EmissionSteps.{IsAdding, chained_step, push_step, twice_step}
use Rattle.lb_flat.proofs.lists.Lists.{Every-append, Every-first, Every-second}
use Rattle.lb_flat.specs.Fitting.{ClockFits, IsFitting, IsOf, KindFits, OperandKinds, OperandsFit}
use Rattle.lb_flat.specs.{Fitting.{binary_kind, unary_kind}, TemporaryKinds.binary_result}
use Rattle.lb_flat.specs.TemporaryKinds.{unary_result}
use Rattle.lb_syntax.specs.declared.tree.Kind.TheVariants.{Bool as Truth}

-- The small words of expansion give elements on a clock and of a kind, and equations that fit.

-- the kinds of the inputs, and the clock and the kind that each element is to have
pub record Sorts : Type 0 where
  pub inputs : List Kind
  pub clock_of : ℕ → FlatClock
  pub kind_of : ℕ → Kind

-- ## The kinds that operators give

integers_result :
    (op : BinaryOperator) (r : Kind) → binary_kind op Int Int ≡ Some r → binary_result op ≡ r
integers_result op r e = grind arith

truths_result :
    (op : BinaryOperator) (r : Kind) → binary_kind op Truth Truth ≡ Some r → binary_result op ≡ r
truths_result op r e = grind arith

-- where an operator takes two kinds, the kind that it gives is its one kind of result
pub binary_gives :
    (op : BinaryOperator) (k l r : Kind) → binary_kind op k l ≡ Some r → binary_result op ≡ r
binary_gives op Int Int r e = integers_result op r e
binary_gives op Truth Truth r e = truths_result op r e
binary_gives op Int Truth r e = cc
binary_gives op Truth Int r e = cc

pub unary_gives : (op : UnaryOperator) (k r : Kind) → unary_kind op k ≡ Some r → unary_result op ≡ r
unary_gives op k r e = grind arith

module _ (S : Sorts) where
  -- ## Elements on a clock and of a kind

  -- an element is on this clock and of this kind
  abbrev pub IsOn : FlatClock → Kind → ℕ → Type 0
  IsOn k c i = (S.clock_of i ≡ k) × (S.kind_of i ≡ c)

  -- all these elements are on this clock and of this kind
  abbrev pub AreOn : FlatClock → Kind → List ℕ → Type 0
  AreOn k c is = Every (IsOn k c) is

  -- ## Equations

  -- a temporary has the clock of its equation, and the kind that its operation gives
  pub record IsSorted (q : FlatEquation) : Type 0 where
    pub clock : S.clock_of q.element ≡ q.clock
    pub kind : S.kind_of q.element ≡ operation_kind S.kind_of q.operation

  abbrev pub AllSorted : List FlatEquation → Type 0
  AllSorted Q = Every IsSorted Q

  -- the clocks and the kinds of an equation fit
  pub record IsFit (q : FlatEquation) : Type 0 where
    pub clocks : ClockFits (length S.inputs) S.clock_of q
    pub kinds : KindFits S.inputs S.kind_of q

  abbrev pub AllFit : List FlatEquation → Type 0
  AllFit Q = Every IsFit Q

  -- equations that fit one by one
  pub all_fitting : (Q : List FlatEquation) → AllFit Q → IsFitting S.inputs S.clock_of S.kind_of Q
  all_fitting [] h = record { clocks = tt; kinds = tt }
  all_fitting (q ∷ Q) h =
      let rest = all_fitting Q h.1 in
      record { clocks = (h.0.clocks, rest.clocks); kinds = (h.0.kinds, rest.kinds) }

  -- an operation that takes what it reads on this clock, and gives this kind
  pub record Gives (k : FlatClock) (c : Kind) (o : Operation) : Type 0 where
    pub clocks : OperandsFit (length S.inputs) S.clock_of k o
    pub kinds : OperandKinds S.inputs S.kind_of c o
    pub kind : operation_kind S.kind_of o ≡ c

  abbrev pub AllGive : FlatClock → Kind → List Operation → Type 0
  AllGive k c os = Every (Gives k c) os

  -- a copy fits, where it is on the clock and of the kind of the element that it copies
  pub copy_fit :
      (k : FlatClock) (c : Kind) (i j : ℕ) → IsOn k c i → IsOn k c j →
      IsFit (record { element = i; clock = k; operation = Copy j })
  copy_fit k c i j p q = record {
    clocks = record { own = p.0; operands = q.0 };
    kinds = q.1 ∙ sym p.1;
  }

  -- ## Operations

  pub boolean_gives : (k : FlatClock) (b : Bool) → Gives k Truth (Constant (Boolean b))
  boolean_gives k b = record { clocks = tt; kinds = refl; kind = refl }

  pub unary_sorted :
      (k : FlatClock) (c d : Kind) (op : UnaryOperator) → unary_kind op c ≡ Some d → (a : ℕ) →
      IsOn k c a → Gives k d (ApplyUnary op a)
  unary_sorted k c d op e a p = record {
    clocks = p.0;
    kinds = ap (unary_kind op) p.1 ∙ e;
    kind = unary_gives op c d e;
  }

  pub binary_sorted :
      (k : FlatClock) (c d r : Kind) (op : BinaryOperator) → binary_kind op c d ≡ Some r →
      (a b : ℕ) → IsOn k c a → IsOn k d b → Gives k r (ApplyBinary op a b)
  binary_sorted k c d r op e a b p q = record {
    clocks = (p.0, q.0);
    kinds = ap₂ (binary_kind op) p.1 q.1 ∙ e;
    kind = binary_gives op c d r e;
  }

  pub first_then_sorted :
      (k : FlatClock) (c : Kind) (a b : ℕ) → IsOn k c a → IsOn k c b →
      Gives k c (FirstThen false a b)
  first_then_sorted k c a b p q =
      record { clocks = (p.0, q.0); kinds = (p.1, q.1); kind = p.1 }

  pub previous_sorted :
      (k l : FlatClock) (c : Kind) (v : Scalar) → IsOf c v → (a : ℕ) → IsOn l c a →
      Gives k c (Previous v a)
  previous_sorted k l c v h a p = record { clocks = tt; kinds = (h, p.1); kind = p.1 }

  pub latest_sorted :
      (k l : FlatClock) (c : Kind) (v : Scalar) → IsOf c v → (a : ℕ) → IsOn l c a →
      Gives k c (Latest v a)
  latest_sorted k l c v h a p = record { clocks = tt; kinds = (h, p.1); kind = p.1 }

  -- operations on one element, on two or on three, for each item of their lists
  pub each_gives :
      (k l : FlatClock) (c d : Kind) (f : ℕ → Operation) →
      ((i : ℕ) → IsOn k c i → Gives l d (f i)) → (is : List ℕ) → AreOn k c is →
      AllGive l d (map f is)
  each_gives k l c d f g [] h = tt
  each_gives k l c d f g (i ∷ is) h = (g i h.0, each_gives k l c d f g is h.1)

  pub two_give :
      (k : FlatClock) (c d r : Kind) (f : ℕ → ℕ → Operation) →
      ((i j : ℕ) → IsOn k c i → IsOn k d j → Gives k r (f i j)) → (is js : List ℕ) →
      AreOn k c is → AreOn k d js → AllGive k r (zip2 f is js)
  two_give k c d r f g [] js p q = tt
  two_give k c d r f g (i ∷ is) [] p q = tt
  two_give k c d r f g (i ∷ is) (j ∷ js) p q = (g i j p.0 q.0, two_give k c d r f g is js p.1 q.1)

  pub choices_give :
      (k : FlatClock) (c d : Kind) (zs is js : List ℕ) → AreOn k c zs → AreOn k d is →
      AreOn k d js → AllGive k d (chosen_by zs is js)
  choices_give k c d [] is js o p q = tt
  choices_give k c d (z ∷ zs) is js o p q =
      two_give k d d d (Choose z)
      (λ i j r s. record { clocks = (o.0.0, r.0, s.0); kinds = (r.1, s.1); kind = r.1 }) is js p q

  -- ## What is kept from state to state

  -- where the elements of `t` have their clocks and kinds, so do the elements of `s`, and the
  -- equations between both states fit
  pub record Grown (s t : State) : Type 0 where
    pub before : AllSorted s.equations
    pub equations : AllFit s.equations → AllFit t.equations
    pub copies : AllFit s.copies → AllFit t.copies

  -- the state has grown, and the elements that are found are on this clock and of this kind
  pub record Fit (s : State) (r : Emitted) (k : FlatClock) (c : Kind) : Type 0 where
    pub grown : Grown s r.state
    pub found : AreOn k c r.found

  pub not_grown : {s : State} → AllSorted s.equations → Grown s s
  not_grown h = record { before = h; equations = λ f. f; copies = λ f. f }

  pub then_grown : {s t u : State} → Grown s t → Grown t u → Grown s u
  then_grown a b = record {
    before = a.before;
    equations = λ f. b.equations (a.equations f);
    copies = λ f. b.copies (a.copies f);
  }

  pub then_fit :
      {s t : State} {r : Emitted} {k : FlatClock} {c : Kind} → Grown s t → Fit t r k c → Fit s r k c
  then_fit a b = record { grown = then_grown a b.grown; found = b.found }

  -- ## New elements

  new_fit :
      (i : ℕ) (k : FlatClock) (c : Kind) (o : Operation) →
      IsSorted (record { element = i; clock = k; operation = o }) → Gives k c o →
      IsFit (record { element = i; clock = k; operation = o })
  new_fit i k c o h g = record {
    clocks = record { own = h.clock; operands = g.clocks };
    kinds = subst (λ d. OperandKinds S.inputs S.kind_of d o) (sym (h.kind ∙ g.kind)) g.kinds;
  }

  numbered_fit :
      (i : ℕ) (k : FlatClock) (c : Kind) (os : List Operation) → AllSorted (numbered i k os) →
      AllGive k c os → AllFit (numbered i k os) × AreOn k c (numbers i os)
  numbered_fit i k c [] h g = (tt, tt)
  numbered_fit i k c (o ∷ os) h g =
      let rest = numbered_fit (suc i) k c os h.1 g.1 in
      ((new_fit i k c o h.0 g.0, rest.0), ((h.0.clock, h.0.kind ∙ g.0.kind), rest.1))

  pub add_before :
      (k : FlatClock) (s : State) (os : List Operation) →
      AllSorted (add k s os).state.equations → AllSorted s.equations
  unfolding add
  add_before k s os h = Every-first IsSorted s.equations (numbered s.next k os) h

  pub add_fit :
      {k : FlatClock} {c : Kind} {s : State} (os : List Operation) → AllGive k c os → AllSorted
      (add k s os).state.equations → Fit s (add k s os) k c
  unfolding add
  add_fit {k = k} {c = c} {s = s} os g h =
      let n = numbered_fit s.next k c os (Every-second IsSorted s.equations _ h) g in
      record {
        grown = record {
          before = Every-first IsSorted s.equations _ h;
          equations = λ f. Every-append IsFit s.equations _ f n.0;
          copies = λ f. f;
        };
        found = n.1;
      }

  pub keep_fit :
      {s : State} {x : Emitted} {k : FlatClock} {c : Kind} →
      (AllSorted x.state.equations → Fit s x k c) → AllSorted (keep x).state.equations → Fit s
      (keep x) k c
  unfolding keep
  keep_fit part h =
      let r = part h in
      record {
        grown = record
            { before = r.grown.before; equations = r.grown.equations; copies = r.grown.copies };
        found = r.found;
      }

  -- where the elements of `t` have their clocks and kinds, so do the elements of `s`
  abbrev pub Earlier : State → State → Type 0
  Earlier s t = AllSorted t.equations → AllSorted s.equations

  pub earlier : IsAdding Earlier
  earlier = record { none = λ s h. h; both = λ s t u a b h. a (b h); adds = add_before }

  -- the state with one new element, which is on this clock and of this kind
  record Pushed (k : FlatClock) (c : Kind) (s : State) (o : Operation) : Type 0 where
    grown : Grown s (push k s o)
    is_on : IsOn k c s.next

  push_fit :
      (k : FlatClock) (c : Kind) (s : State) (o : Operation) → Gives k c o →
      AllSorted (push k s o).equations → Pushed k c s o
  push_fit k c s o g h =
      let q : FlatEquation = record { element = s.next; clock = k; operation = o } in
      let own = Every-second IsSorted s.equations (q ∷ []) h in
      record {
        grown = record {
          before = Every-first IsSorted s.equations (q ∷ []) h;
          equations = λ f.
              Every-append IsFit s.equations (q ∷ []) f (new_fit s.next k c o own.0 g, tt);
          copies = λ f. f;
        };
        is_on = (own.0.clock, own.0.kind ∙ g.kind);
      }

  -- ## From one operand, and from two

  pub one_fit :
      {k l : FlatClock} {c d : Kind} {s : State} {x : Emitted} (f : ℕ → Operation) →
      ((i : ℕ) → IsOn k c i → Gives l d (f i)) → (AllSorted x.state.equations → Fit s x k c) →
      AllSorted (add l x.state (map f x.found)).state.equations → Fit s
      (add l x.state (map f x.found)) l d
  one_fit f g part h =
      let a = part (add_before _ _ _ h) in
      then_fit a.grown (add_fit _ (each_gives _ _ _ _ f g _ a.found) h)

  pub two_fit :
      {k : FlatClock} {c d r : Kind} {s : State} {x y : Emitted} (f : ℕ → ℕ → Operation) →
      ((i j : ℕ) → IsOn k c i → IsOn k d j → Gives k r (f i j)) →
      (AllSorted x.state.equations → Fit s x k c) →
      (AllSorted y.state.equations → Fit x.state y k d) → AllSorted
      (add k y.state (zip2 f x.found y.found)).state.equations → Fit s
      (add k y.state (zip2 f x.found y.found)) k r
  two_fit f g left right h =
      let b = right (add_before _ _ _ h) in
      let a = left b.grown.before in
      then_fit (then_grown a.grown b.grown) (add_fit _ (two_give _ _ _ _ f g _ _ a.found b.found) h)

  pub choice_fit :
      {k : FlatClock} {c d : Kind} {s : State} {z x y : Emitted} →
      (AllSorted z.state.equations → Fit s z k c) →
      (AllSorted x.state.equations → Fit z.state x k d) →
      (AllSorted y.state.equations → Fit x.state y k d) → AllSorted
      (add k y.state (chosen_by z.found x.found y.found)).state.equations → Fit s
      (add k y.state (chosen_by z.found x.found y.found)) k d
  choice_fit condition left right h =
      let b = right (add_before _ _ _ h) in
      let a = left b.grown.before in
      let w = condition a.grown.before in
      then_fit (then_grown (then_grown w.grown a.grown) b.grown)
      (add_fit _ (choices_give _ _ _ _ _ _ w.found a.found b.found) h)

  -- ## `#` and `nor`

  pub chained_fit :
      (k : FlatClock) (c : Kind) (op : BinaryOperator) → binary_kind op c c ≡ Some c →
      (s : State) (init : ℕ) (ys : List ℕ) → IsOn k c init → AreOn k c ys →
      AllSorted (chained k op s init ys).state.equations → Fit s (chained k op s init ys) k c
  unfolding chained
  chained_fit k c op e s init [] i p h = record { grown = not_grown h; found = (i, tt) }
  chained_fit k c op e s init (y ∷ ys) i p h =
      let o = ApplyBinary op init y in
      let new = push_fit k c s _ (binary_sorted k c c c op e init y i p.0)
      (chained_step Earlier earlier k op _ _ ys h) in
      then_fit new.grown (chained_fit k c op e _ s.next ys new.is_on p.1 h)

  twice_fit :
      (k : FlatClock) (s : State) (any two : ℕ) (xs : List ℕ) → IsOn k Truth any →
      IsOn k Truth two → AreOn k Truth xs → AllSorted (twice k s any two xs).state.equations →
      Fit s (twice k s any two xs) k Truth
  unfolding twice
  twice_fit k s any two [] a b p h = record { grown = not_grown h; found = (b, tt) }
  twice_fit k s any two (x ∷ xs) a b p h =
      let t : State = push k s (ApplyBinary And any x) in
      let u : State = push k t (ApplyBinary Or two s.next) in
      let h3 = twice_step Earlier earlier k _ u.next t.next xs h in
      let h2 = push_step Earlier earlier k u (ApplyBinary Or any x) h3 in
      let n1 = push_fit k Truth s (ApplyBinary And any x)
      (binary_sorted k Truth Truth Truth And refl any x a p.0)
      (push_step Earlier earlier k t (ApplyBinary Or two s.next) h2) in
      let n2 = push_fit k Truth t (ApplyBinary Or two s.next)
      (binary_sorted k Truth Truth Truth Or refl two s.next b n1.is_on) h2 in
      let n3 = push_fit k Truth u (ApplyBinary Or any x)
      (binary_sorted k Truth Truth Truth Or refl any x a p.0) h3 in
      then_fit (then_grown (then_grown n1.grown n2.grown) n3.grown)
      (twice_fit k _ u.next t.next xs n3.is_on n2.is_on p.1 h)

  negated_fit :
      (k : FlatClock) (s : State) (x : Emitted) →
      (AllSorted x.state.equations → Fit s x k Truth) →
      AllSorted (negated k x).state.equations → Fit s (negated k x) k Truth
  negated_fit k s x part h =
      one_fit (ApplyUnary Not) (λ i p. unary_sorted k Truth Truth Not refl i p) part h

  pub nor_fit :
      (k : FlatClock) (s : State) (is : List ℕ) → AreOn k Truth is →
      AllSorted (emit_nor k s is).state.equations → Fit s (emit_nor k s is) k Truth
  nor_fit k s is p h =
      negated_fit k s _ (λ g.
      let new = push_fit k Truth s _ (boolean_gives k false)
      (chained_step Earlier earlier k Or _ _ is g) in
      then_fit new.grown (chained_fit k Truth Or refl _ _ is new.is_on p g)) h

  pub at_most_one_fit :
      (k : FlatClock) (s : State) (is : List ℕ) → AreOn k Truth is →
      AllSorted (emit_at_most_one k s is).state.equations →
      Fit s (emit_at_most_one k s is) k Truth
  at_most_one_fit k s is p h =
      negated_fit k s _ (λ g.
      let new = push_fit k Truth s _ (boolean_gives k false)
      (twice_step Earlier earlier k _ _ _ is g) in
      then_fit new.grown (twice_fit k _ _ _ is new.is_on new.is_on p g)) h

  -- ## Iterated symbols

  pub symbol_fit :
      (k : FlatClock) (c : Kind) (op : BinaryOperator) → binary_kind op c c ≡ Some c →
      (s : State) (it : ArrayIterator) (found : List (List ℕ)) → Every (AreOn k c) found →
      AllSorted (emit_symbol k op s it found).state.equations →
      Fit s (emit_symbol k op s it found) k c
  symbol_fit k c op e s Map (xs ∷ (ys ∷ [])) p h =
      add_fit _ (two_give k c c c (ApplyBinary op)
      (λ i j q r. binary_sorted k c c c op e i j q r) xs ys p.0 p.1.0) h
  symbol_fit k c op e s Red ((init ∷ []) ∷ (ys ∷ [])) p h =
      chained_fit k c op e s init ys p.0.0 p.1.0 h
  symbol_fit k c op e s it found p h = record { grown = not_grown h; found = tt }

-- Conditions on the places and clocks of variables under which the equations of expansion fit: for
-- an instance, for what it calls, and for each occurrence of an expression in it.

module _ (S : Sorts) (Y : Layout) (P : Program) where
  -- ## Variables

  -- a variable of an instance has as many elements as it is wide, on its clock and of its kind
  pub record IsVariableOn (c : Instance) (d : Declaration) : Type 0 where
    pub wide : length (Y.places c.path d.name) ≡ width P c d
    pub elements :
        AreOn S (flat_clock Y c.path (declared_clock c.node d.name)) d.kind
        (Y.places c.path d.name)

  abbrev pub AreVariablesOn : Instance → Type 0
  AreVariablesOn c = Every (IsVariableOn c) (variables c.node)

  module _ (here : Instance) where
    -- the variables of what is called have them too
    abbrev pub IsCalleeOn : ℕ → Name → List Static → ℕ → Type 0
    IsCalleeOn n f statics i =
        (c : Instance) → callee_of P here (call_site f statics) n i ≡ Some c → AreVariablesOn c

    -- ## The clocks of the variables of what is called

    -- the clock of a variable of a callee, as its caller sees it
    abbrev pub seen_clock : Clock → Exprs → Node → Declaration → Clock
    seen_clock k es callee d =
        outer (base_clock k callee) (given_inputs callee.inputs es) (declared_clock callee d.name)

    -- the inputs of a call are on the clocks of its arguments; where it has exactly one output,
    -- that one is on the clock of the call
    pub record IsCallOn (k : Clock) (n : ℕ) (es : Exprs) (callee : Node) : Type 0 where
      pub inputs :
          Every (λ d.
          flat_clock Y (Child here.path n 0) (declared_clock callee d.name)
          ≡ flat_clock Y here.path (seen_clock k es callee d)) callee.inputs
      pub result :
          (d : Declaration) → callee.outputs ≡ d ∷ [] →
          flat_clock Y (Child here.path n 0) (declared_clock callee d.name)
          ≡ flat_clock Y here.path k

    -- the inputs and outputs of an instance of an iterator are on its clock
    abbrev pub IsIteratorOn : Clock → ℕ → ℕ → Node → Type 0
    IsIteratorOn k n i callee =
        Every (λ d.
        flat_clock Y (Child here.path n i) (declared_clock callee d.name)
        ≡ flat_clock Y here.path k) (callee.inputs ++ callee.outputs)

    -- ## Left variables

    -- the outputs of a call are on the clocks of left variables, pair by pair
    abbrev pub AreLeftsOn : ℕ → List Name → Node → Type 0
    AreLeftsOn n lefts callee =
        Every (λ u.
        flat_clock Y (Child here.path n 0) (declared_clock callee u.0.name)
        ≡ flat_clock Y here.path (declared_clock here.node u.1)) (zip callee.outputs lefts)

    -- the outputs are on these clocks, where the right side of an equation is a call
    abbrev pub AreCallLeftsOn : ℕ → List Name → Expr → Type 0
    AreCallLeftsOn n lefts e =
        (f : Name) (statics : List Static) (es : Exprs) (callee : Node) →
        ungrouped e ≡ Call f statics es → node_named P f ≡ Some callee → AreLeftsOn n lefts callee

    abbrev pub CallLefts : ℕ → Statement → Type 0
    CallLefts n (Equation lefts e) = AreCallLeftsOn n lefts e
    CallLefts n (Assertion e) = Unit {0}

    -- a statement keeps the rules of clocks, and its left variables are on the clocks of outputs
    pub record IsStatementSet (s : Statement) (o : Occurrence) : Type 0 where
      pub clocked : is_statement_clocked P here.node s o ≡ true
      pub calls : CallLefts o.calls_before s

    -- ## Occurrences

    -- constants are of kind `int`, the variable of `when` has an element, a symbol takes what it
    -- gives, and what is called has its places and clocks; an iterator has at least one instance
    abbrev pub IsSetAt : Clock → ℕ → Expr → Type 0
    IsSetAt k n (Literal m) = IsOf Int (Integer (pos m))
    IsSetAt k n (Variable x) =
        named (λ d. d.name) x (variables here.node) ≡ None →
        IsOf Int (or_fault (name_value P here x))
    IsSetAt k n (When a x sign) = (i : ℕ) × (rest : List ℕ) × (Y.signs here.path x ≡ i ∷ rest)
    IsSetAt k n (Call f statics es) =
        IsCalleeOn n f statics 0
        × ((callee : Node) → node_named P f ≡ Some callee → IsCallOn k n es callee)
    IsSetAt k n (Iterate it (Node_named f statics) m es) =
        (0 < number P here m)
        × ((i : ℕ) → i < number P here m →
        IsCalleeOn n f statics i
        × ((callee : Node) → node_named P f ≡ Some callee → IsIteratorOn k n i callee))
    IsSetAt k n (Iterate it (Symbol op) m es) =
        is_arithmetic op ≡ false → binary_kind op Truth Truth ≡ Some Truth
    IsSetAt k n e = Unit {0}

    -- an occurrence has all of this, and keeps the rules of clocks
    pub record IsSet (o : Occurrence) : Type 0 where
      pub at_it : IsSetAt o.clock o.calls_before o.expr
      pub clocked : is_occurrence_clocked P here.node o ≡ true

    -- ## An instance

    -- an instance has all of this, and its statements keep the rules of types
    pub record IsInstanceSet : Type 0 where
      pub variables_on : AreVariablesOn here
      pub typed : list_all (is_statement_typed P here) here.node.body ≡ true
      pub all_set : Every IsSet (node_occurrences P here.node)
      pub bodies_set : Every (λ s. IsStatementSet s.0 s.1) (statements P here.node)
