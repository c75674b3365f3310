-- The elements that a flat program watches and keeps.
use Rattle.lb_expand.proofs.Words
use Words.{AreLong, Array, Arrow, Assertion, AtMostOne, Binary, Bool, Call, Cons, Current}
use Words.{Declaration, Emitted, Equation, Every, Expr, Exprs, Fby, FlatClock, FlatEquation, Group}
use Words.{History, If, Index, Inputs, Instance, IsWatched, Iterate, Join, Layout, List, Literal}
use Words.{Nil, Node_named, None, Nor, Occurrence, Operation, Option, Pre, Previous, Program}
use Words.{Replicate, Slice, Some, State, Statement, Stream, Symbol, Truth, Unary, Variable, When}
use Words.{[], add, ap, append-nil, ap₂, arith, assert, before_instances, call_count, clock_places}
use Words.{clock_variables, column, emit, emit_all, emit_body, emit_each, emit_instances, expanded}
use Words.{first_value, flat_clock, flat_map, history_of, instance_at, instances, is_bad, is_false}
use Words.{is_nil, joins, keep, listed, map, map-append, occurrences, occurrences_each}
use Words.{occurrences_in, property_path, property_places, range_with_len, refl, right_sides}
use Words.{slice_get, some_of, statement_clock, streams_at, subst, sym, variable_columns, variables}
use Words.{zip, ℕ, ◌++◌, ◌+◌, ◌||◌, ◌∙◌, ◌∷◌, ◌≡◌}
use Rattle.lb_check.specs.{Clocks.Clock, Verdicts.{assertion_columns, assertion_of, memory_columns}}
use Rattle.lb_check.specs.Verdicts.{memory_operand, property_columns}
use Rattle.lb_expand.proofs.emission.EmissionSteps.{Any, IsAdding, IsStep, any_joined}
use Rattle.lb_expand.proofs.emission.EmissionSteps.{assert_asserted, assert_kept, asserts}
use Rattle.lb_expand.proofs.emission.EmissionSteps.{at_most_one_step, emit_step, joins_asserted}
use Rattle.lb_expand.proofs.emission.EmissionSteps.{name_step, nor_step, symbol_step}
use Rattle.lb_expand.proofs.{lists.Lists.map-pieces, reads.LinkSymbols.keep_equations}
use Rattle.lb_expand.proofs.solutions.Emission.{joins_equations, sound, sound_all, sound_each}
use Rattle.lb_expand.proofs.solutions.Placing.{Agrees, AllMet, Earlier, IsPlaced, columns}
use Rattle.lb_expand.proofs.solutions.{Placing.earlier as adding_met, Solving.{IsSound, IsWide}}
use Rattle.lb_expand.proofs.solutions.Solving.{all_sound, assert_equations, body_sound}
use Rattle.lb_expand.proofs.solutions.Solving.{occurrences_of}
use Rattle.lb_flat.proofs.lists.Lists.{Every-first, Every-second}
use Rattle.{lb_syntax.proofs.TruthValues.or_nothing, std.proofs.Math.Bool.or_assoc}
use Rattle.std.{proofs.lemmas.List.Folds.list_any-append, specs.List.list_any}

-- The elements that a state lists as kept hold exactly the operands that memories keep: a test
-- passes at a kept element exactly where it passes at such an operand.

or_swap : (a b c : Bool) → ((a || b) || c) ≡ (a || (c || b))
or_swap a b c = grind arith

pub append_assoc : (xs ys zs : List Stream) → xs ++ (ys ++ zs) ≡ (xs ++ ys) ++ zs
append_assoc [] ys zs = refl
append_assoc (x ∷ xs) ys zs = ap (λ r. x ∷ r) (append_assoc xs ys zs)

-- ## What leaves the kept elements as they were

add_kept : (k : FlatClock) (s : State) (os : List Operation)
    → (add k s os).state.memory_operands ≡ s.memory_operands
unfolding add
add_kept k s os = refl

abbrev SameKept : State → State → Type 0
SameKept s t = t.memory_operands ≡ s.memory_operands

keeping : IsAdding SameKept
keeping = record { none = λ s. refl; both = λ s t u a b. b ∙ a; adds = add_kept }

pub joins_kept :
    (s : State) (qs : List FlatEquation) (is : List ℕ)
    → (joins s qs is).state.memory_operands ≡ s.memory_operands
unfolding joins
joins_kept s qs is = refl

module _ (Y : Layout) (P : Program) (X : Inputs) (H : History) (F : List Stream)
    (long : AreLong X F) (agrees : Agrees Y X H F) (here : Instance) where
  -- ## The operands of some occurrences

  -- the streams of the operands that these occurrences keep
  abbrev pub operands : List Occurrence → List Stream
  operands os = flat_map (streams_at P H here) (some_of (map (memory_operand P here) os))

  operands_first :
      (p : Option Occurrence) (os os' : List Occurrence) →
      operands (os ++ os') ≡ operands os ++ operands os' →
      flat_map (streams_at P H here) (some_of (p ∷ map (memory_operand P here) (os ++ os')))
      ≡ flat_map (streams_at P H here) (some_of (p ∷ map (memory_operand P here) os))
      ++ operands os'
  operands_first None os os' e = e
  operands_first (Some p) os os' e =
      cc (append_assoc (streams_at P H here p) (operands os) (operands os'))

  pub operands-append :
      (os os' : List Occurrence) → operands (os ++ os') ≡ operands os ++ operands os'
  operands-append [] os' = refl
  operands-append (o ∷ os) os' =
      operands_first (memory_operand P here o) os os' (operands-append os os')

  -- ## What is kept from state to state

  abbrev passes : (Stream → Bool) → List ℕ → Bool
  passes test is = list_any test (columns X F is)

  -- a test passes at a kept element of `t` exactly where it does at a kept element of `s`, or at an
  -- operand of these occurrences
  pub record Keeps (s t : State) (os : List Occurrence) : Type 0 where
    pub same :
        (test : Stream → Bool) →
        list_any test (columns X F t.memory_operands)
        ≡ (list_any test (columns X F s.memory_operands) || list_any test (operands os))

  keeps_on :
      {s t u : State} {os : List Occurrence} → Keeps s t os → u.memory_operands
      ≡ t.memory_operands → Keeps s u os
  keeps_on h e = record { same = λ test. ap (passes test) e ∙ h.same test }

  keeps_nothing :
      {s t : State} {os : List Occurrence} → operands os ≡ [] → t.memory_operands
      ≡ s.memory_operands → Keeps s t os
  keeps_nothing {s = s} q e = record {
    same = λ test.
        ap (passes test) e ∙ or_nothing (passes test s.memory_operands)
        ∙ ap (λ xss. passes test s.memory_operands || list_any test xss) (sym q);
  }

  -- an occurrence that keeps nothing adds nothing to what its parts keep
  keeps_quiet :
      {s t u : State} {o : Occurrence} {os : List Occurrence} → operands (o ∷ os) ≡ operands os →
      Keeps s t os → u.memory_operands ≡ t.memory_operands → Keeps s u (o ∷ os)
  keeps_quiet {s = s} q h e = record {
    same = λ test.
        ap (passes test) e ∙ h.same test
        ∙ ap (λ xss. passes test s.memory_operands || list_any test xss) (sym q);
  }

  pub keeps_two :
      {s t u : State} {os os' : List Occurrence} → Keeps s t os → Keeps t u os' → Keeps s u
      (os ++ os')
  keeps_two {s = s} {os = os} {os' = os'} a b =
      record {
        same = λ test. b.same test ∙ ap (λ c. c || list_any test (operands os')) (a.same test)
            ∙ or_assoc (passes test s.memory_operands) (list_any test (operands os))
            (list_any test (operands os')) ∙ ap (λ c. passes test s.memory_operands || c)
            (sym (list_any-append test (operands os) (operands os')) ∙ ap (list_any test)
            (sym (operands-append os os')));
      }

  -- an occurrence that keeps its operand adds the elements of the operand
  keeps_own :
      {s : State} (x : Emitted) {xss : List Stream} {o : Occurrence} {os : List Occurrence} →
      operands (o ∷ os) ≡ xss ++ operands os → columns X F x.found ≡ xss → Keeps s x.state os →
      Keeps s (keep x).state (o ∷ os)
  unfolding keep
  keeps_own {s = s} x {xss = xss} {os = os} q e h = record {
    same = λ test.
        ap (list_any test) (map-append (column X F) x.state.memory_operands x.found)
        ∙ list_any-append test (columns X F x.state.memory_operands) (columns X F x.found)
        ∙ ap₂ (λ c xss. c || list_any test xss) (h.same test) e
        ∙ or_swap (passes test s.memory_operands) (list_any test (operands os)) (list_any test xss)
        ∙ ap (λ c. passes test s.memory_operands || c)
        (sym (list_any-append test xss (operands os)) ∙ ap (list_any test) (sym q));
  }

  unkept : (x : Emitted) → AllMet X F (keep x).state.equations → AllMet X F x.state.equations
  unkept x h = subst (AllMet X F) (keep_equations x) h

  earlier : IsStep Any (Earlier X F)
  earlier = record {
    adding = adding_met X F;
    keeps = unkept;
    joining = λ s qs is q h. subst (AllMet X F) (joins_equations s qs is) h;
  }

  -- where the equations behind `add` hold, the equations before it hold
  added : (k : FlatClock) (s : State) (os : List Operation) → Earlier X F s (add k s os).state
  added = earlier.adding.adds

  -- ## Expressions

  abbrev AllPlaced : List Occurrence → Type 0
  AllPlaced os = Every (IsPlaced Y P H here) os

  fore : (os os' : List Occurrence) → AllPlaced (os ++ os') → AllPlaced os
  fore os os' w = Every-first (IsPlaced Y P H here) os os' w

  aft : (os os' : List Occurrence) → AllPlaced (os ++ os') → AllPlaced os'
  aft os os' w = Every-second (IsPlaced Y P H here) os os' w

  abbrev parts : Clock → ℕ → Expr → List Occurrence
  parts k n e = occurrences P here.node k n e

  -- two operands, one after another
  keeps_both :
      (k : Clock) (n : ℕ) (s : State) (a b : Expr) →
      (let m = n + call_count a in
      let x = emit Y P here k n s a in
      let y = emit Y P here k m x.state b in
      (AllPlaced (parts k n a) → AllMet X F x.state.equations → Keeps s x.state (parts k n a)) →
      (AllPlaced (parts k m b) → AllMet X F y.state.equations →
      Keeps x.state y.state (parts k m b)) →
      AllPlaced (parts k n a ++ parts k m b) → AllMet X F y.state.equations →
      Keeps s y.state (parts k n a ++ parts k m b))
  keeps_both k n s a b left right w h =
      let first = emit_step Any (Earlier X F) earlier Y (any_joined Y) P here k (n + call_count a)
      (emit Y P here k n s a).state b h in
      keeps_two (left (fore _ _ w) first) (right (aft _ _ w) h)

  mutual
    unfolding emit

    pub keeps :
        (k : Clock) (n : ℕ) (s : State) (e : Expr) → AllPlaced (occurrences P here.node k n e) →
        AllMet X F (emit Y P here k n s e).state.equations →
        Keeps s (emit Y P here k n s e).state (occurrences P here.node k n e)
    keeps k n s (Literal m) w h = keeps_nothing refl (add_kept _ s _)
    keeps k n s (Truth b) w h = keeps_nothing refl (add_kept _ s _)
    keeps k n s (Variable x) w h = keeps_nothing refl (name_step SameKept keeping Y P here k s x _)
    keeps k n s (Group a) w h = keeps k n s a w h
    keeps k n s (Unary op a) w h =
        keeps_quiet refl (keeps k n s a w.1 (added _ _ _ h)) (add_kept _ _ _)
    keeps k n s (Binary op a b) w h =
        keeps_quiet refl (keeps_both k n s a b (keeps k n s a) (keeps k _ _ b) w.1 (added _ _ _ h))
        (add_kept _ _ _)
    keeps k n s (If c a b) w h =
        let na = n + call_count c in
        let z = emit Y P here k n s c in
        let met = added _ _ _ h in
        let second = emit_step Any (Earlier X F) earlier Y (any_joined Y) P here k _
        (emit Y P here k na z.state a).state b met in
        let first = emit_step Any (Earlier X F) earlier Y (any_joined Y) P here k na z.state a
        second in
        keeps_quiet refl
        (keeps_two (keeps k n s c (fore _ _ w.1) first)
        (keeps_both k na z.state a b (keeps k na z.state a) (keeps k _ _ b) (aft _ _ w.1) met))
        (add_kept _ _ _)
    keeps k n s (Arrow a b) w h =
        keeps_quiet refl (keeps_both k n s a b (keeps k n s a) (keeps k _ _ b) w.1 (added _ _ _ h))
        (add_kept _ _ _)
    keeps k n s (Fby a b) w h =
        let m = n + call_count a in
        let x = emit Y P here k n s a in
        let y = emit Y P here k m x.state b in
        let met = unkept y (added _ _ _ (added _ _ _ h)) in
        let sb = sound Y P X H F long agrees here k m x.state b (aft (parts k n a) _ w.1) met in
        let before = map (Previous first_value) (keep y).found in
        let z = add (flat_clock Y here.path k) (keep y).state before in
        keeps_on
        (keeps_on {u = z.state}
        (keeps_own _ refl sb.found
        (keeps_both k n s a b (keeps k n s a) (keeps k m x.state b) w.1 met)) (add_kept _ _ _))
        (add_kept _ _ _)
    keeps k n s (Pre a) w h =
        let x = emit Y P here k n s a in
        let met = unkept x (added _ _ _ h) in
        let sa = sound Y P X H F long agrees here k n s a w.1 met in
        keeps_on (keeps_own _ refl sa.found (keeps k n s a w.1 met)) (add_kept _ _ _)
    keeps k n s (Current a) w h =
        let x = emit Y P here _ n s a in
        let met = unkept x (added _ _ _ h) in
        let sa = sound Y P X H F long agrees here _ n s a w.1 met in
        keeps_on (keeps_own _ refl sa.found (keeps _ n s a w.1 met)) (add_kept _ _ _)
    keeps k n s (When a x sign) w h =
        keeps_quiet refl (keeps _ n s a w.1 (added _ _ _ h)) (add_kept _ _ _)
    keeps k n s (Replicate a m) w h = keeps_quiet refl (keeps k n s a w.1 h) refl
    keeps k n s (Index a i) w h = keeps_quiet refl (keeps k n s a w.1 h) refl
    keeps k n s (Slice a i j) w h = keeps_quiet refl (keeps k n s a w.1 h) refl
    keeps k n s (Join a b) w h =
        keeps_quiet refl (keeps_both k n s a b (keeps k n s a) (keeps k _ _ b) w.1 h) refl
    keeps k n s (Array es) w h = keeps_quiet refl (keeps_all k n s es w.1 h) refl
    keeps k n s (AtMostOne es) w h =
        keeps_quiet refl
        (keeps_all k n s es w.1 (at_most_one_step (Earlier X F) earlier.adding _ _ _ h))
        (at_most_one_step SameKept keeping _ _ _)
    keeps k n s (Nor es) w h =
        keeps_quiet refl (keeps_all k n s es w.1 (nor_step (Earlier X F) earlier.adding _ _ _ h))
        (nor_step SameKept keeping _ _ _)
    keeps k n s (Call f statics es) w h =
        keeps_quiet refl (keeps_each _ (n + 1) s es w.1 (earlier.joining _ _ _ tt h))
        (joins_kept _ _ _)
    keeps k n s (Iterate it (Node_named f statics) m es) w h =
        keeps_quiet refl
        (keeps_all k (n + 1) s es w.1 (earlier.joining _ _ _ tt h)) (joins_kept _ _ _)
    keeps k n s (Iterate it (Symbol op) m es) w h =
        keeps_quiet refl
        (keeps_all k n s es w.1 (symbol_step (Earlier X F) earlier.adding _ op _ it _ h))
        (symbol_step SameKept keeping _ op _ it _)

    pub keeps_all :
        (k : Clock) (n : ℕ) (s : State) (es : Exprs) →
        AllPlaced (occurrences_in P here.node k n es) →
        AllMet X F (emit_all Y P here k n s es).state.equations →
        Keeps s (emit_all Y P here k n s es).state (occurrences_in P here.node k n es)
    keeps_all k n s Nil w h = keeps_nothing refl refl
    keeps_all k n s (Cons e es) w h =
        let m = n + call_count e in
        let oa = parts k n e in let ob = occurrences_in P here.node k m es in
        let x = emit Y P here k n s e in
        let r = sound_all Y P X H F long agrees here k m x.state es (aft oa ob w) h in
        keeps_two (keeps k n s e (fore oa ob w) r.before)
        (keeps_all k m x.state es (aft oa ob w) h)

    pub keeps_each :
        (ks : List Clock) (n : ℕ) (s : State) (es : Exprs) →
        AllPlaced (occurrences_each P here.node ks n es) →
        AllMet X F (emit_each Y P here ks n s es).state.equations →
        Keeps s (emit_each Y P here ks n s es).state (occurrences_each P here.node ks n es)
    keeps_each ks n s Nil w h = keeps_nothing refl refl
    keeps_each [] n s (Cons e es) w h = keeps_nothing refl refl
    keeps_each (k ∷ ks) n s (Cons e es) w h =
        let m = n + call_count e in
        let oa = parts k n e in let ob = occurrences_each P here.node ks m es in
        let x = emit Y P here k n s e in
        let r = sound_each Y P X H F long agrees here ks m x.state es (aft oa ob w) h in
        keeps_two (keeps k n s e (fore oa ob w) r.before)
        (keeps_each ks m x.state es (aft oa ob w) h)

  -- ## Statements

  -- the streams of the assertions among these statements
  abbrev asserted_in : List (Statement × Occurrence) → List Stream
  asserted_in ss = flat_map (streams_at P H here) (some_of (map (λ s. assertion_of s.0 s.1) ss))

  record BodyWatched (s t : State) (ss : List (Statement × Occurrence))
      (os : List Occurrence) : Type 0 where
    memory_operands : Keeps s t os
    asserted : columns X F t.asserted ≡ columns X F s.asserted ++ asserted_in ss

  body_watched :
      (n : ℕ) (s : State) (body : List Statement) →
      Every (λ s. IsWide P H here s.0 s.1) (zip body (right_sides P here.node n body)) →
      Every (IsPlaced Y P H here) (occurrences_of P here.node (right_sides P here.node n body)) →
      AllMet X F (emit_body Y P here n s body).equations →
      BodyWatched s (emit_body Y P here n s body) (zip body (right_sides P here.node n body))
      (occurrences_of P here.node (right_sides P here.node n body))
  unfolding emit_body
  body_watched n s [] wide w h = record {
    memory_operands = record
        { same = λ test. or_nothing (list_any test (columns X F s.memory_operands)) };
    asserted = sym (append-nil (columns X F s.asserted));
  }
  body_watched n s (Assertion e ∷ rest) wide w h =
      let k = statement_clock P here.node (Assertion e) in
      let m = n + call_count e in
      let x = emit Y P here k n s e in
      let wa = Every-first (IsPlaced Y P H here) _ _ w in
      let wb = Every-second (IsPlaced Y P H here) _ _ w in
      let hx = subst (AllMet X F) (assert_equations x)
      (body_sound Y P X H F long agrees here m (assert x) rest wide.1 wb h).before in
      let r = body_watched m (assert x) rest wide.1 wb h in
      record {
        memory_operands = keeps_two (keeps_on (keeps k n s e wa hx) (assert_kept x))
            r.memory_operands;
        asserted = r.asserted
            ∙ ap (λ xs. xs ++ asserted_in (zip rest (right_sides P here.node m rest)))
            (ap (columns X F) (assert_asserted x) ∙ map-append (column X F) x.state.asserted x.found
            ∙ ap₂ (λ xs ys. xs ++ ys) (ap (columns X F) (asserts Y P here k n s e))
            (sound Y P X H F long agrees here k n s e wa hx).found)
            ∙ sym (append_assoc (columns X F s.asserted) _ _);
      }
  body_watched n s (Equation lefts e ∷ rest) wide w h =
      let k = statement_clock P here.node (Equation lefts e) in
      let m = n + call_count e in
      let x = emit Y P here k n s e in
      let wb = Every-second (IsPlaced Y P H here) _ _ w in
      let hx = subst (AllMet X F) (joins_equations x.state _ [])
      (body_sound Y P X H F long agrees here m _ rest wide.1 wb h).before in
      let r = body_watched m _ rest wide.1 wb h in
      let q = keeps_on (keeps k n s e (Every-first (IsPlaced Y P H here) _ _ w) hx)
      (joins_kept x.state _ []) in
      record {
        memory_operands = keeps_two q r.memory_operands;
        asserted = r.asserted
            ∙ ap (λ is. columns X F is ++ asserted_in (zip rest (right_sides P here.node m rest)))
            (joins_asserted x.state _ [] ∙ asserts Y P here k n s e);
      }

-- The elements that a flat program lists as kept hold the operands that memories keep; those that
-- it lists as asserted hold the assertions of all instances.

module _ (Y : Layout) (P : Program) (X : Inputs) (H : History) (F : List Stream)
    (long : AreLong X F) (agrees : Agrees Y X H F) where
  -- a test passes at a kept or asserted element of `t` exactly where it does at one of `s`, or at a
  -- kept operand or an assertion of these instances
  pub record Watched (s t : State) (instances : List Instance) : Type 0 where
    pub memory_operands :
        (test : Stream → Bool) →
        list_any test (columns X F t.memory_operands)
        ≡ (list_any test (columns X F s.memory_operands)
        || list_any (λ here. list_any test (memory_columns P H here)) instances)
    pub asserted :
        (test : Stream → Bool) →
        list_any test (columns X F t.asserted)
        ≡ (list_any test (columns X F s.asserted)
        || list_any (λ here. list_any test (assertion_columns P H here)) instances)

  pub all_watched :
      (s : State) (instances : List Instance) → Every (IsSound Y P H) instances →
      AllMet X F (emit_instances Y P s instances).equations →
      Watched s (emit_instances Y P s instances) instances
  unfolding emit_instances
  all_watched s [] ok h = record {
    memory_operands = λ test. or_nothing (list_any test (columns X F s.memory_operands));
    asserted = λ test. or_nothing (list_any test (columns X F s.asserted));
  }
  all_watched s (here ∷ rest) ok h =
      let t = emit_body Y P here 0 s here.node.body in
      let after = all_sound Y P X H F long agrees t rest ok.1 h in
      let a = body_watched Y P X H F long agrees here 0 s here.node.body ok.0.wide ok.0.placed
      after.before in
      let r = all_watched t rest ok.1 h in
      record {
        memory_operands = λ test. r.memory_operands test ∙ ap
            (λ b. b || list_any (λ here. list_any test (memory_columns P H here)) rest)
            (a.memory_operands.same test) ∙ or_assoc (list_any test (columns X F s.memory_operands))
            _ _;
        asserted = λ test. r.asserted test ∙ ap
            (λ b. b || list_any (λ here. list_any test (assertion_columns P H here)) rest)
            (ap (list_any test) a.asserted ∙ list_any-append test (columns X F s.asserted)
            (assertion_columns P H here)) ∙ or_assoc (list_any test (columns X F s.asserted)) _ _;
      }

-- The elements that a flat program watches show each fault, each nil where a truth is wanted, each
-- false assertion and each false property of a program.

three :
    (a b c d e g : Bool) →
    ((a || (b || c)) || (d || (e || g))) ≡ ((a || d) || ((b || e) || (c || g)))
three a b c d e g = grind arith

-- a test of three joined lists for each item is a test of the first, the second or the third lists
any_three :
    {A B : Type 0} (test : B → Bool) (f g h : A → List B) (xs : List A) →
    list_any (λ x. list_any test (f x ++ (g x ++ h x))) xs
    ≡ (list_any (λ x. list_any test (f x)) xs
    || (list_any (λ x. list_any test (g x)) xs || list_any (λ x. list_any test (h x)) xs))
any_three test f g h [] = refl
any_three test f g h (x ∷ xs) =
    ap₂ (λ a b. a || b)
    (list_any-append test (f x) (g x ++ h x)
    ∙ ap (λ a. list_any test (f x) || a) (list_any-append test (g x) (h x)))
    (any_three test f g h xs)
    ∙ three (list_any test (f x)) (list_any test (g x)) (list_any test (h x)) _ _ _

any_pieces :
    {A B : Type 0} (test : B → Bool) (f : A → List B) (xs : List A) →
    list_any (λ x. list_any test (f x)) xs ≡ list_any test (flat_map f xs)
any_pieces test f [] = refl
any_pieces test f (x ∷ xs) = cc (any_pieces test f xs, list_any-append test (f x) (flat_map f xs))

-- the elements of all variables, in the order of instantiation
abbrev pub all_places : Layout → Program → List ℕ
all_places Y P =
    flat_map (λ here. flat_map (λ d. Y.places here.path d.name) (variables here.node))
    (instances P)

-- the elements of variables are the first `count` ones, in the order of instantiation, and the
-- property has one element
pub record IsInOrder (Y : Layout) (P : Program) (count : ℕ) : Type 0 where
  pub variables : all_places Y P ≡ range_with_len 0 count
  pub property : property_places Y P ≡ (expanded Y P count).property ∷ []

listed_flat :
    {A : Type 0} (g : ℕ → Stream) (f : A → List ℕ) (h : A → List Stream) →
    ((a : A) → h a ≡ map g (f a)) → (o : Option A) → listed h o ≡ map g (listed f o)
listed_flat g f h e None = refl
listed_flat g f h e (Some a) = e a

module _ (Y : Layout) (P : Program) (count : ℕ) (X : Inputs) (F : List Stream)
    (long : AreLong X F) (agrees : Agrees Y X (history_of Y X F) F)
    (ok : Every (IsSound Y P (history_of Y X F)) (instances P))
    (met : AllMet X F (emit_instances Y P (before_instances count) (instances P)).equations) where
  abbrev s : State
  s = emit_instances Y P (before_instances count) (instances P)

  watched_here :
      Watched Y P X (history_of Y X F) F long agrees (before_instances count) s (instances P)
  watched_here =
      all_watched Y P X (history_of Y X F) F long agrees (before_instances count) (instances P)
      ok met

  -- a test of the streams of chosen variables, instance by instance, tests all their elements
  variables_flat :
      (chosen : Instance → List Declaration) (test : Stream → Bool) →
      list_any (λ here.
      list_any test (flat_map (λ d. columns X F (Y.places here.path d.name)) (chosen here)))
      (instances P)
      ≡ list_any test
      (columns X F
      (flat_map (λ here. flat_map (λ d. Y.places here.path d.name) (chosen here)) (instances P)))
  variables_flat chosen test =
      let streams = λ (here : Instance).
      flat_map (λ d. columns X F (Y.places here.path d.name)) (chosen here) in
      any_pieces test streams (instances P)
      ∙ ap (list_any test)
      (map-pieces (column X F)
      (λ here. flat_map (λ d. Y.places here.path d.name) (chosen here)) streams
      (λ here. map-pieces (column X F) (λ d. Y.places here.path d.name)
      (λ d. columns X F (Y.places here.path d.name)) (λ d. refl) (chosen here))
      (instances P))

  named_flat :
      (is js ks : List ℕ) (test : Stream → Bool) →
      list_any test (columns X F (is ++ (js ++ ks)))
      ≡ (list_any test (columns X F is)
      || (list_any test (columns X F js) || list_any test (columns X F ks)))
  named_flat is js ks test =
      ap (list_any test)
      (map-append (column X F) is (js ++ ks)
      ∙ ap (λ xss. columns X F is ++ xss) (map-append (column X F) js ks))
      ∙ list_any-append test (columns X F is) (columns X F js ++ columns X F ks)
      ∙ ap (λ a. list_any test (columns X F is) || a)
      (list_any-append test (columns X F js) (columns X F ks))

  property_flat : property_columns P (history_of Y X F) ≡ columns X F (property_places Y P)
  property_flat =
      listed_flat (column X F)
      (λ here. flat_map (λ d. Y.places here.path d.name) here.node.outputs)
      (λ here. flat_map (λ d. columns X F (Y.places here.path d.name)) here.node.outputs)
      (λ here. map-pieces (column X F) (λ d. Y.places here.path d.name)
      (λ d. columns X F (Y.places here.path d.name)) (λ d. refl) here.node.outputs)
      (instance_at P (property_path P.observer))

  -- all elements that decide a verdict are watched
  pub is_watched :
      IsInOrder Y P count → (t : ℕ) →
      IsWatched P (expanded Y P count) X F (history_of Y X F) t
  is_watched order t =
      let H = history_of Y X F in
      let bad : Stream → Bool = λ xs. is_bad (slice_get xs t) in
      let unknown : Stream → Bool = λ xs. is_nil (slice_get xs t) in
      let untrue : Stream → Bool = λ xs. is_false (slice_get xs t) in
      let property = λ (test : Stream → Bool).
      ap (list_any test) (property_flat ∙ ap (columns X F) order.property) in
      record {
        fault =
            any_three bad (variable_columns H) (memory_columns P H) (assertion_columns P H)
            (instances P)
            ∙ ap₂ (λ a b. a || b)
            (variables_flat (λ here. variables here.node) bad
            ∙ ap (λ is. list_any bad (columns X F is)) order.variables)
            (ap₂ (λ a b. a || b) (sym (watched_here.memory_operands bad))
            (sym (watched_here.asserted bad)))
            ∙ sym (named_flat (range_with_len 0 count) s.memory_operands s.asserted bad);
        undefined =
            ap₂ (λ a b. a || b) (variables_flat (λ here. clock_variables here.node) unknown)
            (ap₂ (λ a b. a || b) (sym (watched_here.asserted unknown)) (property unknown))
            ∙ sym (named_flat (clock_places Y (instances P)) s.asserted
            ((expanded Y P count).property ∷ []) unknown);
        failed = sym (watched_here.asserted untrue);
        violated = property untrue;
      }
