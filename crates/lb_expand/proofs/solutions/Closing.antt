-- The emitted equations give elements one after another, each from elements before its own.
use Rattle.lb_expand.proofs.Words
use Words.{◌≡◌, ℕ, suc, ◌+◌, ◌-◌, ◌<◌, ◌≤◌, false, Option, Some, None, List, [], ◌∷◌, ◌++◌, map}
use Words.{length, refl, ap, subst, arith, Not, BinaryOperator, Or, And, ArrayIterator, Map, Red}
use Words.{Fill, Every, zip2, tail_of, Name, Node_named, Symbol, Expr, Literal, Truth, Variable}
use Words.{Group, Unary, Binary, If, Arrow, Fby, Pre, Current, When, Replicate, Index, Slice, Join}
use Words.{Array, AtMostOne, Nor, Call, Iterate, Exprs, Nil, Cons, Declaration, Program, Instance}
use Words.{Path, Child, node_named, Boolean, first_value, On, declared_clock, call_clocks, gathered}
use Words.{last_of, iterated, FlatClock, Operation, Constant, ApplyUnary, ApplyBinary, Choose}
use Words.{FirstThen, Previous, Latest, Sample, FlatEquation, clock_reads, reads, keeps, Layout}
use Words.{flat_clock, State, Emitted, EmittedAll, gives, numbered, numbers, after, add, joins}
use Words.{push, chained, twice, negated, keep, assert, emit_nor, emit_at_most_one, emit_symbol}
use Words.{chosen_by, emit_name, emit, emit_all, emit_each, length-append}
use Rattle.{lb_check.specs.Clocks.Clock, lb_flat.proofs.lists.Lists.{Every-map, Every-append}}
use Rattle.lb_flat.proofs.lists.Lists.{Every-take, Every-drop, Every-copies, Every-joined}
use Rattle.lb_expand.proofs.{lists.Lists.Every-pieces, solutions.Filling.Fresh}

-- ## Elements below a number

abbrev pub Below : ℕ → List ℕ → Type 0
Below n is = Every (λ i. i < n) is

higher : (n m : ℕ) (is : List ℕ) → n ≤ m → Below n is → Below m is
higher n m is le h = Every-map (λ i. i < n) (λ i. i < m) (λ i lt. omega arith) is h

-- an operation names elements below n
abbrev Reaches : ℕ → Operation → Type 0
Reaches n o = Below n (reads o ++ keeps o)

module _ (n : ℕ) where
  reach_each :
      (f : ℕ → Operation) → ((i : ℕ) → i < n → Reaches n (f i)) → (is : List ℕ) →
      Below n is → Every (Reaches n) (map f is)
  reach_each f e [] h = tt
  reach_each f e (i ∷ is) h = (e i h.0, reach_each f e is h.1)

  reach_two :
      (f : ℕ → ℕ → Operation) → ((i j : ℕ) → i < n → j < n → Reaches n (f i j)) →
      (is js : List ℕ) → Below n is → Below n js → Every (Reaches n) (zip2 f is js)
  reach_two f e [] js h g = tt
  reach_two f e (i ∷ is) [] h g = tt
  reach_two f e (i ∷ is) (j ∷ js) h g = (e i j h.0 g.0, reach_two f e is js h.1 g.1)

  reach_choice :
      (cs is js : List ℕ) → Below n cs → Below n is → Below n js →
      Every (Reaches n) (chosen_by cs is js)
  reach_choice [] is js c h g = tt
  reach_choice (z ∷ cs) is js c h g =
      reach_two (Choose z) (λ i j p q. (c.0, (p, (q, tt)))) is js h g

-- ## New equations

numbered_fresh :
    (n : ℕ) (k : FlatClock) (os : List Operation) → Below n (clock_reads k) →
    Every (Reaches n) os → Fresh n (numbered n k os)
numbered_fresh n k [] c h = tt
numbered_fresh n k (o ∷ os) c h = (
  record {
    element = refl;
    names_below = Every-append (λ i. i < n) (clock_reads k) (reads o ++ keeps o) c h.0;
  },
  numbered_fresh (suc n) k os (higher n (suc n) _ (omega arith) c)
      (Every-map (Reaches n) (Reaches (suc n)) (λ o b. higher n (suc n) _ (omega arith) b) os h.1),
)

Fresh-append :
    (n : ℕ) (xs ys : List FlatEquation) → Fresh n xs → Fresh (n + length xs) ys →
    Fresh n (xs ++ ys)
Fresh-append n [] ys h g =
    let e : n + 0 ≡ n = omega arith in
    subst (λ m. Fresh m ys) e g
Fresh-append n (x ∷ xs) ys h g =
    let e : n + suc (length xs) ≡ suc n + length xs = omega arith in
    (h.0, Fresh-append (suc n) xs ys h.1 (subst (λ m. Fresh m ys) e g))

length-numbered :
    (n : ℕ) (k : FlatClock) (os : List Operation) → length (numbered n k os) ≡ length os
length-numbered n k [] = refl
length-numbered n k (o ∷ os) = ap suc (length-numbered (suc n) k os)

pub after_is : (n : ℕ) (os : List Operation) → after n os ≡ n + length os
after_is n [] = omega arith
after_is n (o ∷ os) = omega (arith, after_is (suc n) os)

numbers_below : (n : ℕ) (os : List Operation) → Below (after n os) (numbers n os)
numbers_below n [] = tt
numbers_below n (o ∷ os) = (omega (arith, after_is (suc n) os), numbers_below (suc n) os)

-- ## The small words of expansion, where the first `V` elements are those of variables

module _ (V : ℕ) where
  -- every element from V up to the next has its equation
  pub record Closed (s : State) : Type 0 where
    pub fresh : Fresh V s.equations
    pub next : s.next ≡ V + length s.equations

  pub record Tight (s : State) (r : Emitted) : Type 0 where
    pub state : Closed r.state
    pub grows : s.next ≤ r.state.next
    pub found : Below r.state.next r.found

  pub record TightAll (s : State) (r : EmittedAll) : Type 0 where
    pub state : Closed r.state
    pub grows : s.next ≤ r.state.next
    pub found : Every (Below r.state.next) r.found

  keep_tight : (s : State) (x : Emitted) → Tight s x → Tight s (keep x)
  unfolding keep
  keep_tight s x h = record {
    state = record { fresh = h.state.fresh; next = h.state.next };
    grows = h.grows;
    found = h.found;
  }

  -- other elements of the same state in place of what is found
  gives_tight :
      (s : State) (x : Emitted) (is : List ℕ) → Tight s x → Below x.state.next is →
      Tight s (gives x.state is)
  gives_tight s x is h below = record { state = h.state; grows = h.grows; found = below }

  pub assert_closed : (x : Emitted) → Closed x.state → Closed (assert x)
  unfolding assert
  assert_closed x h = record { fresh = h.fresh; next = h.next }

  pub joins_tight :
      (s : State) (qs : List FlatEquation) (is : List ℕ) → Closed s → Below s.next is →
      Tight s (joins s qs is)
  unfolding joins
  joins_tight s qs is c h = record {
    state = record { fresh = c.fresh; next = c.next };
    grows = omega arith;
    found = h;
  }

  then_tight : (s t : State) (r : Emitted) → s.next ≤ t.next → Tight t r → Tight s r
  then_tight s t r le h = record { state = h.state; grows = omega arith; found = h.found }

  module _ (k : FlatClock) (c : Below V (clock_reads k)) where
    add_tight :
        (s : State) (os : List Operation) → Closed s → Every (Reaches s.next) os →
        Tight s (add k s os)
    unfolding add
    add_tight s os closed h =
        let new = numbered s.next k os in
        let of_clock = higher V s.next _ (omega (arith, closed.next)) c in
        record {
          state = record {
            fresh = Fresh-append V s.equations new closed.fresh
                (subst (λ n. Fresh n new) closed.next (numbered_fresh s.next k os of_clock h));
            next = omega (
              arith,
              after_is s.next os,
              length-append s.equations new,
              length-numbered s.next k os,
              closed.next,
            );
          };
          grows = omega (arith, after_is s.next os);
          found = numbers_below s.next os;
        }

    push_tight : (s : State) (o : Operation) → Closed s → Reaches s.next o → Closed (push k s o)
    push_tight s o closed h =
        let one : FlatEquation = record { element = s.next; clock = k; operation = o } in
        let fresh_one : Fresh s.next (one ∷ []) =
        numbered_fresh s.next k (o ∷ []) (higher V s.next _ (omega (arith, closed.next)) c)
        (h, tt) in
        record {
          fresh = Fresh-append V s.equations (one ∷ []) closed.fresh
              (subst (λ n. Fresh n (one ∷ [])) closed.next fresh_one);
          next = omega (arith, closed.next, length-append s.equations (one ∷ []));
        }

    chained_tight :
        (op : BinaryOperator) (s : State) (init : ℕ) (ys : List ℕ) → Closed s → init < s.next →
        Below s.next ys → Tight s (chained k op s init ys)
    unfolding chained
    chained_tight op s init [] closed i h =
        record { state = closed; grows = omega arith; found = (i, tt) }
    chained_tight op s init (y ∷ ys) closed i h =
        let o = ApplyBinary op init y in
        let t : State = push k s o in
        let t_closed = push_tight s o closed (i, (h.0, tt)) in
        let r = chained_tight op t s.next ys t_closed (omega arith)
        (higher s.next (suc s.next) ys (omega arith) h.1) in
        record { state = r.state; grows = omega (arith, r.grows); found = r.found }

    twice_tight :
        (s : State) (any two : ℕ) (xs : List ℕ) → Closed s → any < s.next → two < s.next →
        Below s.next xs → Tight s (twice k s any two xs)
    unfolding twice
    twice_tight s any two [] closed a b h =
        record { state = closed; grows = omega arith; found = (b, tt) }
    twice_tight s any two (x ∷ xs) closed a b h =
        let t : State = push k s (ApplyBinary And any x) in
        let u : State = push k t (ApplyBinary Or two s.next) in
        let v : State = push k u (ApplyBinary Or any x) in
        let below = h.0 in
        let t_closed = push_tight s _ closed (a, (below, tt)) in
        let u_closed = push_tight _ _ t_closed (omega arith, (omega arith, tt)) in
        let v_closed = push_tight _ _ u_closed (omega arith, (omega (arith, below), tt)) in
        let r = twice_tight v u.next t.next xs v_closed (omega arith) (omega arith)
        (higher _ _ xs (omega arith) h.1) in
        record { state = r.state; grows = omega (arith, r.grows); found = r.found }

    negated_tight : (s : State) (x : Emitted) → Tight s x → Tight s (negated k x)
    negated_tight s x h =
        let reached = reach_each x.state.next (ApplyUnary Not) (λ i p. (p, tt)) x.found h.found in
        let r = add_tight x.state (map (ApplyUnary Not) x.found) h.state reached in
        record { state = r.state; grows = omega (arith, r.grows, h.grows); found = r.found }

    nor_tight : (s : State) (is : List ℕ) → Closed s → Below s.next is → Tight s (emit_nor k s is)
    nor_tight s is closed h =
        let t : State = push k s (Constant (Boolean false)) in
        let t_closed = push_tight s _ closed tt in
        let r = chained_tight Or _ _ is t_closed (omega arith) (higher _ _ is (omega arith) h) in
        then_tight s _ _ (omega arith) (negated_tight _ _ r)

    at_most_one_tight :
        (s : State) (is : List ℕ) → Closed s → Below s.next is →
        Tight s (emit_at_most_one k s is)
    at_most_one_tight s is closed h =
        let r = twice_tight _ s.next s.next is (push_tight s (Constant (Boolean false)) closed tt)
        (omega arith) (omega arith) (higher s.next _ is (omega arith) h) in
        then_tight s _ _ (omega arith) (negated_tight _ _ r)

    symbol_tight :
        (op : BinaryOperator) (s : State) (it : ArrayIterator) (found : List (List ℕ)) →
        Closed s → Every (Below s.next) found → Tight s (emit_symbol k op s it found)
    symbol_tight op s Map (xs ∷ (ys ∷ [])) closed h =
        add_tight s _ closed
        (reach_two s.next (ApplyBinary op) (λ i j p q. (p, (q, tt))) xs ys h.0 h.1.0)
    symbol_tight op s Red ((init ∷ []) ∷ (ys ∷ [])) closed h =
        chained_tight op s init ys closed h.0.0 h.1.0
    symbol_tight op s it found closed h =
        record { state = closed; grows = omega arith; found = tt }

    -- ## Forms with one operand, and with two

    one_tight :
        (s : State) (x : Emitted) (f : ℕ → Operation) →
        ((n i : ℕ) → i < n → Reaches n (f i)) → Tight s x →
        Tight s (add k x.state (map f x.found))
    one_tight s x f e a =
        then_tight s _ _ a.grows (add_tight _ _ a.state
        (reach_each _ f (e x.state.next) _ a.found))

    two_tight :
        (s : State) (x y : Emitted) (f : ℕ → ℕ → Operation) →
        ((n i j : ℕ) → i < n → j < n → Reaches n (f i j)) → Tight s x → Tight x.state y →
        Tight s (add k y.state (zip2 f x.found y.found))
    two_tight s x y f e a b =
        let left = higher _ _ _ b.grows a.found in
        then_tight s _ _ (omega (arith, a.grows, b.grows)) (add_tight _ _ b.state
        (reach_two _ f (e y.state.next) _ _ left b.found))

  -- ## Expressions

  module _ (Y : Layout) (P : Program) (here : Instance)
      (places_below : (p : Path) (x : Name) → Below V (Y.places p x))
      (clocks_below : (k : Clock) → Below V (clock_reads (flat_clock Y here.path k))) where
    at_places : (s : State) → Closed s → (p : Path) (x : Name) → Below s.next (Y.places p x)
    at_places s closed p x = higher V _ _ (omega (arith, closed.next)) (places_below p x)

    module _ (s : State) (closed : Closed s) (p : Path) (call n : ℕ) where
      abbrev outputs : ℕ → Name → List ℕ
      outputs i x = Y.places (Child p call i) x

      gathered_tight : (outs : List Declaration) → Below s.next (gathered outputs n outs)
      gathered_tight outs =
          Every-pieces _ _ (λ o. Every-pieces _ _ (λ i. at_places s closed _ _) _) outs

      last_tight : (outs : List Declaration) → Below s.next (last_of outputs n outs)
      last_tight [] = tt
      last_tight (o ∷ outs) = at_places s closed (Child p call (n - 1)) o.name

      iterated_tight :
          (it : ArrayIterator) (outs : List Declaration) →
          Below s.next (iterated outputs n it outs)
      iterated_tight Map outs = gathered_tight outs
      iterated_tight Red outs = last_tight outs
      iterated_tight Fill outs =
          Every-append _ (last_of outputs n outs) (gathered outputs n (tail_of outs))
          (last_tight outs) (gathered_tight (tail_of outs))

    name_tight :
        (k : Clock) (s : State) (x : Name) (d : Option Declaration) → Closed s →
        Tight s (emit_name Y P here k s x d)
    name_tight k s x (Some d) c =
        record { state = c; grows = omega arith; found = at_places s c here.path d.name }
    name_tight k s x None c = add_tight _ (clocks_below k) s _ c (tt, tt)

    mutual
      unfolding emit

      pub tight :
          (k : Clock) (n : ℕ) (s : State) (e : Expr) → Closed s → Tight s (emit Y P here k n s e)
      tight k n s (Literal m) c = add_tight _ (clocks_below k) s _ c (tt, tt)
      tight k n s (Truth b) c = add_tight _ (clocks_below k) s _ c (tt, tt)
      tight k n s (Variable x) c = name_tight k s _ _ c
      tight k n s (Group a) c = tight k n s a c
      tight k n s (Unary op a) c =
          one_tight _ (clocks_below k) s _ (ApplyUnary op) (λ n i p. (p, tt)) (tight k n s a c)
      tight k n s (Binary op a b) c =
          let x = tight k n s a c in
          two_tight _ (clocks_below k) s _ _ (ApplyBinary op) (λ n i j p q. (p, (q, tt)))
          x (tight k _ _ b x.state)
      tight k n s (If z a b) c =
          let u = tight k n s z c in
          let x = tight k _ _ a u.state in
          let y = tight k _ _ b x.state in
          then_tight s _ _ (omega (arith, u.grows, x.grows, y.grows))
          (add_tight _ (clocks_below k) _ _ y.state
          (reach_choice _ _ _ _ (higher _ _ _ (omega (arith, x.grows, y.grows)) u.found)
          (higher _ _ _ y.grows x.found) y.found))
      tight k n s (Arrow a b) c =
          let x = tight k n s a c in
          two_tight _ (clocks_below k) s _ _ (FirstThen false) (λ n i j p q. (p, (q, tt)))
          x (tight k _ _ b x.state)
      tight k n s (Fby a b) c =
          let x = tight k n s a c in
          let y = keep_tight _ _ (tight k _ _ b x.state) in
          two_tight _ (clocks_below k) s _ _ (FirstThen false) (λ n i j p q. (p, (q, tt)))
          x (one_tight _ (clocks_below k) _ _ (Previous first_value) (λ n i p. (p, tt)) y)
      tight k n s (Pre a) c =
          one_tight _ (clocks_below k) s _ (Previous first_value) (λ n i p. (p, tt))
          (keep_tight s _ (tight k n s a c))
      tight k n s (Current a) c =
          one_tight _ (clocks_below k) s _ (Latest first_value) (λ n i p. (p, tt))
          (keep_tight s _ (tight _ n s a c))
      tight k n s (When a x sign) c =
          one_tight _ (clocks_below (On (declared_clock here.node x) x sign)) s _ Sample
          (λ n i p. (p, tt)) (tight _ n s a c)
      tight k n s (Replicate a m) c =
          let x = tight k n s a c in
          gives_tight s _ _ x (Every-copies _ _ _ x.found)
      tight k n s (Index a i) c =
          let x = tight k n s a c in
          gives_tight s _ _ x (Every-take _ _ _ (Every-drop _ _ _ x.found))
      tight k n s (Slice a i j) c =
          let x = tight k n s a c in
          gives_tight s _ _ x (Every-take _ _ _ (Every-drop _ _ _ x.found))
      tight k n s (Join a b) c =
          let x = tight k n s a c in
          let y = tight k _ _ b x.state in
          record {
            state = y.state;
            grows = omega (arith, x.grows, y.grows);
            found = Every-append _ _ _ (higher _ _ _ y.grows x.found) y.found;
          }
      tight k n s (Array es) c =
          let r = tight_all k n s es c in
          record { state = r.state; grows = r.grows; found = Every-joined _ _ r.found }
      tight k n s (AtMostOne es) c =
          let r = tight_all k n s es c in
          then_tight s _ _ r.grows
          (at_most_one_tight _ (clocks_below k) _ _ r.state (Every-joined _ _ r.found))
      tight k n s (Nor es) c =
          let r = tight_all k n s es c in
          then_tight s _ _ r.grows
          (nor_tight _ (clocks_below k) _ _ r.state (Every-joined _ _ r.found))
      tight k n s (Call f statics es) c =
          let r = tight_each (call_clocks k (node_named P f) es) (n + 1) s es c in
          then_tight s _ _ r.grows (joins_tight _ _ _ r.state
          (Every-pieces _ _ (λ o. at_places _ r.state _ _) _))
      tight k n s (Iterate it (Node_named f statics) m es) c =
          let r = tight_all k (n + 1) s es c in
          then_tight s _ _ r.grows (joins_tight _ _ _ r.state
          (iterated_tight _ r.state here.path n _ it _))
      tight k n s (Iterate it (Symbol op) m es) c =
          let r = tight_all k n s es c in
          then_tight s _ _ r.grows (symbol_tight _ (clocks_below k) op _ it _ r.state r.found)

      pub tight_all :
          (k : Clock) (n : ℕ) (s : State) (es : Exprs) → Closed s →
          TightAll s (emit_all Y P here k n s es)
      tight_all k n s Nil c = record { state = c; grows = omega arith; found = tt }
      tight_all k n s (Cons e es) c =
          let x = tight k n s e c in
          let r = tight_all k _ _ es x.state in
          record {
            state = r.state;
            grows = omega (arith, x.grows, r.grows);
            found = (higher _ _ _ r.grows x.found, r.found);
          }

      pub tight_each :
          (ks : List Clock) (n : ℕ) (s : State) (es : Exprs) → Closed s →
          TightAll s (emit_each Y P here ks n s es)
      tight_each ks n s Nil c = record { state = c; grows = omega arith; found = tt }
      tight_each [] n s (Cons e es) c = record { state = c; grows = omega arith; found = tt }
      tight_each (k ∷ ks) n s (Cons e es) c =
          let x = tight k n s e c in
          let r = tight_each ks _ _ es x.state in
          record {
            state = r.state;
            grows = omega (arith, x.grows, r.grows);
            found = (higher _ _ _ r.grows x.found, r.found);
          }
