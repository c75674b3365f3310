-- Relations of states that hold along a whole term: the equations that it adds, the numbers that it
-- takes.
use Rattle.lb_expand.proofs.Words
use Words.{Array', ArrayIterator, Arrow', AtMostOne', Binary', BinaryOperator, Call', Context}
use Words.{Current', Cursor, Emitted, Fby', Fill, FlatClock, Group', If', Index', IterateNode'}
use Words.{IterateSymbol', Join', List, Map, Nor', Operation, Pre', Previous, Red, Replicate'}
use Words.{ResolvedStatement, Row_of-Term, Slice', State, Term, Unary', Value, When', [], add}
use Words.{after, arith, assert, before_instances, emit_list, emit_row, emit_rows, emit_statement}
use Words.{emit_statements, emit_term, end_of-Term, first_place, first_value, joins, keep, length}
use Words.{length-append, memory, more_of-Term, next_term, numbered, red, refl, suc, symbol}
use Words.{with_all, with_one, with_two, ℕ, ◌+◌, ◌∷◌, ◌≡◌, ◌≤◌}
use Rattle.lb_expand.proofs.emission.EmissionSteps.{Any, IsStep, at_most_one_step, chained_step}
use Rattle.lb_expand.proofs.{emission.EmissionSteps.nor_step, solutions.Closing.after_is}
use Rattle.lb_static.specs.declared.resolved.Term.{Literal, Truth, Variable}
use Rattle.lb_static.specs.declared.resolved.ResolvedStatement.TheVariants as statement

-- A relation of states that every word of emission keeps also holds from before to after the
-- emission of terms with resolved names, of statements and of rows.

module _ (R : State → State → Type 0) (w : IsStep Any R) where
  both : (s t u : State) → R s t → R t u → R s u
  both s t u h g = w.adding.both s t u h g

  -- ## What is done with operands

  memory_step : (k : FlatClock) (f : ℕ → Operation) (x : Emitted) → R x.state (memory k f x).state
  memory_step k f x = both x.state _ _ (w.keeps x) (w.adding.adds k (keep x).state _)

  red_step : (k : FlatClock) (op : BinaryOperator) (s : State) (is : List ℕ) →
      R s (red k op s is).state
  red_step k op s [] = w.adding.none s
  red_step k op s (i ∷ is) = chained_step R w.adding k op s i is

  symbol_step :
      (k : FlatClock) (op : BinaryOperator) (n : ℕ) (it : ArrayIterator) (x : Emitted) →
      R x.state (symbol k op n it x).state
  symbol_step k op n Map x = w.adding.adds k x.state _
  symbol_step k op n Red x = red_step k op x.state x.found
  symbol_step k op n Fill x = w.adding.none x.state

  pub one_step : (ctx : Context) (at : Cursor) (e : Term) (x : Emitted) →
      R x.state (with_one ctx at e x).state
  one_step ctx at (Unary' op p a) x = w.adding.adds _ x.state _
  one_step ctx at (Pre' p a) x = memory_step _ _ x
  one_step ctx at (Current' p a) x = memory_step _ _ x
  one_step ctx at (When' p a c sign) x = w.adding.adds _ x.state _
  one_step ctx at e x = w.adding.none x.state

  pub two_step : (ctx : Context) (at : Cursor) (e : Term) (xs : List ℕ) (y : Emitted) →
      R y.state (with_two ctx at e xs y).state
  two_step ctx at (Binary' op p a q b) xs y = w.adding.adds _ y.state _
  two_step ctx at (Arrow' p a q b) xs y = w.adding.adds _ y.state _
  two_step ctx at (Fby' p a q b) xs y =
      both y.state _ _ (memory_step (ctx.clock at.term) (Previous first_value) y)
      (w.adding.adds _ _ _)
  two_step ctx at e xs y = w.adding.none y.state

  pub all_step : (ctx : Context) (at : Cursor) (e : Term) (r : Emitted) →
      R r.state (with_all ctx at e r).state
  all_step ctx at (AtMostOne' arity all) r = at_most_one_step R w.adding _ r.state r.found
  all_step ctx at (Nor' arity all) r = nor_step R w.adding _ r.state r.found
  all_step ctx at (Call' c arity all) r = w.joining r.state _ _ tt
  all_step ctx at (IterateNode' it c arity all) r = w.joining r.state _ _ tt
  all_step ctx at (IterateSymbol' it op n arity all) r = symbol_step _ op _ it r
  all_step ctx at e r = w.adding.none r.state

  -- ## Terms

  one_more : (ctx : Context) (at : Cursor) (s : State) (e a : Term) →
      (let x = emit_term ctx (next_term at) s a in
      R s x.emitted.state → R s (with_one ctx at e x.emitted).state)
  one_more ctx at s e a h =
      both s _ _ h (one_step ctx at e (emit_term ctx (next_term at) s a).emitted)

  two_more : (ctx : Context) (at : Cursor) (s : State) (e a b : Term) →
      (let x = emit_term ctx (next_term at) s a in
      let y = emit_term ctx x.place x.emitted.state b in
      R s x.emitted.state → R x.emitted.state y.emitted.state →
      R s (with_two ctx at e x.emitted.found y.emitted).state)
  two_more ctx at s e a b h g =
      let x = emit_term ctx (next_term at) s a in
      let y = emit_term ctx x.place x.emitted.state b in
      both s _ _ h (both _ _ _ g (two_step ctx at e x.emitted.found y.emitted))

  row_more :
      {m : _} (ctx : Context) (at from : Cursor) (s : State) (e : Term) (row : Row_of-Term m) →
      (let r = emit_row ctx from s row in
      R s r.emitted.state → R s (with_all ctx at e r.emitted).state)
  row_more ctx at from s e row h =
      both s _ _ h (all_step ctx at e (emit_row ctx from s row).emitted)

  mutual
    unfolding emit_term

    pub term_step : (ctx : Context) (at : Cursor) (s : State) (e : Term) →
        R s (emit_term ctx at s e).emitted.state
    term_step ctx at s (Literal n) = w.adding.adds _ s _
    term_step ctx at s (Truth b) = w.adding.adds _ s _
    term_step ctx at s (Variable x) = w.adding.none s
    term_step ctx at s (Value i) = w.adding.adds _ s _
    term_step ctx at s (Group' p e) = term_step ctx at s e
    term_step ctx at s (Unary' op p a) = one_more ctx at s (Unary' op p a) a (term_step ctx _ s a)
    term_step ctx at s (Pre' p a) = one_more ctx at s (Pre' p a) a (term_step ctx _ s a)
    term_step ctx at s (Current' p a) = one_more ctx at s (Current' p a) a (term_step ctx _ s a)
    term_step ctx at s (When' p a c sign) =
        one_more ctx at s (When' p a c sign) a (term_step ctx _ s a)
    term_step ctx at s (Replicate' p a n) =
        one_more ctx at s (Replicate' p a n) a (term_step ctx _ s a)
    term_step ctx at s (Index' p a i) = one_more ctx at s (Index' p a i) a (term_step ctx _ s a)
    term_step ctx at s (Slice' p a i j) = one_more ctx at s (Slice' p a i j) a (term_step ctx _ s a)
    term_step ctx at s (Binary' op p a q b) =
        two_more ctx at s (Binary' op p a q b) a b (term_step ctx _ s a) (term_step ctx _ _ b)
    term_step ctx at s (Arrow' p a q b) =
        two_more ctx at s (Arrow' p a q b) a b (term_step ctx _ s a) (term_step ctx _ _ b)
    term_step ctx at s (Fby' p a q b) =
        two_more ctx at s (Fby' p a q b) a b (term_step ctx _ s a) (term_step ctx _ _ b)
    term_step ctx at s (Join' p a q b) =
        two_more ctx at s (Join' p a q b) a b (term_step ctx _ s a) (term_step ctx _ _ b)
    term_step ctx at s (If' p c q a r b) =
        both s _ _ (term_step ctx (next_term at) s c)
        (both _ _ _ (term_step ctx _ _ a)
        (both _ _ _ (term_step ctx _ _ b) (w.adding.adds _ _ _)))
    term_step ctx at s (Array' arity all) =
        row_more ctx at _ s (Array' arity all) all (row_step ctx _ s all)
    term_step ctx at s (AtMostOne' arity all) =
        row_more ctx at _ s (AtMostOne' arity all) all (row_step ctx _ s all)
    term_step ctx at s (Nor' arity all) =
        row_more ctx at _ s (Nor' arity all) all (row_step ctx _ s all)
    term_step ctx at s (Call' c arity all) =
        row_more ctx at _ s (Call' c arity all) all (row_step ctx _ s all)
    term_step ctx at s (IterateNode' it c arity all) =
        row_more ctx at _ s (IterateNode' it c arity all) all (row_step ctx _ s all)
    term_step ctx at s (IterateSymbol' it op n arity all) =
        row_more ctx at _ s (IterateSymbol' it op n arity all) all (row_step ctx _ s all)

    row_step : {m : _} (ctx : Context) (at : Cursor) (s : State) (row : Row_of-Term m) →
        R s (emit_row ctx at s row).emitted.state
    row_step ctx at s end_of-Term = w.adding.none s
    row_step ctx at s (more_of-Term e rest) =
        both s _ _ (term_step ctx at s e) (row_step ctx _ _ rest)

  pub list_step : (ctx : Context) (at : Cursor) (s : State) (es : List Term) →
      R s (emit_list ctx at s es).emitted.state
  unfolding emit_list
  list_step ctx at s [] = w.adding.none s
  list_step ctx at s (e ∷ es) =
      let x = emit_term ctx at s e in
      both s _ _ (term_step ctx at s e) (list_step ctx x.place x.emitted.state es)

  -- ## Statements and rows

  module _ (asserts : (x : Emitted) → R x.state (assert x)) where
    pub statement_step : (ctx : Context) (at : Cursor) (s : State) (x : ResolvedStatement) →
        R s (emit_statement ctx at s x).state
    unfolding emit_statement
    statement_step ctx at s (statement.Equation lefts e) =
        both s _ _ (term_step ctx at s e) (w.joining _ _ [] tt)
    statement_step ctx at s (statement.Assertion e) = both s _ _ (term_step ctx at s e) (asserts _)

    pub statements_step : (ctx : Context) (at : Cursor) (s : State) (xs : List ResolvedStatement) →
        R s (emit_statements ctx at s xs).state
    unfolding emit_statements
    statements_step ctx at s [] = w.adding.none s
    statements_step ctx at s (x ∷ xs) =
        let r = emit_statement ctx at s x in
        both s _ _ (statement_step ctx at s x) (statements_step ctx r.place r.state xs)

    pub rows_step : (s : State) (rows : List (Context × List ResolvedStatement)) →
        R s (emit_rows s rows)
    unfolding emit_rows
    rows_step s [] = w.adding.none s
    rows_step s (row ∷ rows) =
        both s _ _ (statements_step row.0 first_place s row.1)
        (rows_step (emit_statements row.0 first_place s row.1).state rows)

-- Each new element has one equation: emission adds as many equations of temporaries as it
-- takes numbers.

-- between two states, as many equations are added as numbers are taken
abbrev pub Adds : State → State → Type 0
Adds s t = t.next + length s.equations ≡ s.next + length t.equations

counted : (i : ℕ) (k : FlatClock) (os : List Operation) → after i os ≡ i + length (numbered i k os)
counted i k [] = omega arith
counted i k (o ∷ os) =
    let e = counted (suc i) k os in omega (arith, e)

adding : IsStep Any Adds
unfolding add keep joins
adding = record {
  adding = record {
    none = λ s. refl;
    both = λ s t u a b. omega (arith, a, b);
    adds = λ k s os.
        let size = length-append s.equations (numbered s.next k os) in
        let e = counted s.next k os in omega (arith, size, e);
  };
  keeps = λ x. refl;
  joining = λ s qs is q. refl;
}

-- after the elements of variables there is one element for each equation
pub next_of_rows : (count : ℕ) (rows : List (Context × List ResolvedStatement)) →
    (emit_rows (before_instances count) rows).next
    ≡ count + length (emit_rows (before_instances count) rows).equations
unfolding assert
next_of_rows count rows =
    let e : Adds (before_instances count) (emit_rows (before_instances count) rows) =
    rows_step Adds adding (λ x. refl) (before_instances count) rows in omega (arith, e)

-- Emission takes only new numbers: the next free element never goes down.

-- ## Words

-- `add` takes one number for each operation
pub next_of_add : (k : FlatClock) (s : State) (os : List Operation) →
    (add k s os).state.next ≡ s.next + length os
unfolding add
next_of_add k s os = after_is s.next os

pub add_grows : (k : FlatClock) (s : State) (os : List Operation) → s.next ≤ (add k s os).state.next
add_grows k s os = let e = next_of_add k s os in omega (arith, e)

pub next_of_keep : (x : Emitted) → (keep x).state.next ≡ x.state.next
unfolding keep
next_of_keep x = refl

pub assert_grows : (x : Emitted) → x.state.next ≤ (assert x).next
unfolding assert
assert_grows x = omega arith

abbrev pub Grows : State → State → Type 0
Grows s t = s.next ≤ t.next

pub grows : IsStep Any Grows
unfolding joins
grows = record {
  adding = record {
    none = λ s. omega arith;
    both = λ s t u a b. omega (arith, a, b);
    adds = add_grows;
  };
  keeps = λ x. let e = next_of_keep x in omega (arith, e);
  joining = λ s qs is q. omega arith;
}

-- ## Terms

pub next_grows : (ctx : Context) (at : Cursor) (s : State) (e : Term) →
    s.next ≤ (emit_term ctx at s e).emitted.state.next
next_grows = term_step Grows grows

-- ## Statements and rows

pub statement_grows : (ctx : Context) (at : Cursor) (s : State) (x : ResolvedStatement) →
    s.next ≤ (emit_statement ctx at s x).state.next
statement_grows = statement_step Grows grows assert_grows

pub rows_grow : (s : State) (rows : List (Context × List ResolvedStatement)) →
    s.next ≤ (emit_rows s rows).next
rows_grow = rows_step Grows grows assert_grows
