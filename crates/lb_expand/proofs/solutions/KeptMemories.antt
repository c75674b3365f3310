-- Each part of a text is emitted, and its memories stand in the flat program.
use Rattle.lb_expand.proofs.Words
use Words.{Array, Arrow, Assertion, AtMostOne, Binary, Call, Cons, Current, DataType, Emitted}
use Words.{Equation, Every, Every-from, Expr, Exprs, Fby, FirstThen, FlatClock, FlatEquation}
use Words.{FlatProgram, Group, HasAllMemories, HasMemories, HasTypes, History, If, In, Index}
use Words.{Inputs, Instance, IsFlatSolution, Iterate, Join, KeepsFlag, KeepsOperand, Kind, Latest}
use Words.{Layout, List, Literal, Name, Nil, Node_named, None, Nor, Occurrence, Operation, Path}
use Words.{Pre, Previous, Program, Replicate, Slice, Some, State, Statement, Stream, Symbol, Truth}
use Words.{Unary, Variable, When, [], add, ap, assert, at, before_instances, call_clocks}
use Words.{call_count, check_refusal, column, common_type, data_types, emit, emit_all, emit_body}
use Words.{emit_each, emit_instances, false, flat_clock, history_of, inl, input_kinds, inr}
use Words.{instances, joins, keep, length, length-both, length-map, map, node_named}
use Words.{node_occurrences, numbered, numbers, occurrences, occurrences_each, occurrences_in}
use Words.{occurrences_typed, refl, right_sides, static_refusal, subst, suc, sym, variables, width}
use Words.{zip2, ℕ, ◌++◌, ◌+◌, ◌∙◌, ◌∷◌, ◌≡◌}
use Rattle.lb_check.specs.{Clocks.Clock, Scalars.Nil as Nil_value}
use Rattle.lb_expand.proofs.emission.EmissionSteps.{Any, IsStep, all_step, any_joined}
use Rattle.lb_expand.proofs.emission.EmissionSteps.{at_most_one_step, body_step, each_step}
use Rattle.lb_expand.proofs.emission.EmissionSteps.{emit_step, instances_step, nor_step}
use Rattle.lb_expand.proofs.{emission.EmissionSteps.symbol_step, reads.LinkSymbols.keep_equations}
use Rattle.lb_expand.proofs.{reads.LinkSymbols.keep_found, solutions.Emission.joins_equations}
use Rattle.lb_expand.proofs.solutions.{Emission.sound, Placing.{Agrees, AllMet, IsMet, IsPlaced}}
use Rattle.lb_expand.proofs.solutions.{Placing.columns, Solving.{IsSound, assert_equations}}
use Rattle.lb_expand.proofs.{solutions.Solving.occurrences_of, widths.FoundWidths.add_count}
use Rattle.lb_expand.proofs.widths.{FoundWidths.as_many, SoundInstances.RunsAt}
use Rattle.lb_expand.proofs.widths.SoundPrograms.{all_wide, history_wide, program_sound}
use Rattle.lb_expand.proofs.widths.{TypeFacts.{alike, elements_in, two}, Widths.AreVariablesWide}
use Rattle.lb_expand.proofs.widths.Widths.{IsOccurrenceWide, PartsHave, nested_all, wide}
use Rattle.lb_flat.proofs.lists.Lists.{Every-append, Every-both, Every-first, Every-in, Every-map}
use Rattle.lb_flat.{proofs.lists.Lists.Every-second, specs.MemoryPlaces.{HoldStreams, equations_at}}

-- Each part of a text is emitted from some state, and the equations that are emitted for it stay.

-- ## What stays

-- the equations `Q` are among the equations `R`
abbrev pub Stay : List FlatEquation → List FlatEquation → Type 0
Stay Q R = (q : FlatEquation) → In q Q → In q R

same_stay : (Q R : List FlatEquation) → R ≡ Q → Stay Q R
same_stay Q R e q i = subst (In q) (sym e) i

first_stays : (Q R : List FlatEquation) → Stay Q (Q ++ R)
first_stays [] R q i = absurd i
first_stays (p ∷ Q) R q (inl e) = inl e
first_stays (p ∷ Q) R q (inr i) = inr (first_stays Q R q i)

-- the equations `R` stay in `Q ++ R`
pub second_stays : (Q R : List FlatEquation) → Stay R (Q ++ R)
second_stays [] R q i = i
second_stays (p ∷ Q) R q i = inr (second_stays Q R q i)

-- the equations before `add` stay
pub add_stays : (k : FlatClock) (s : State) (os : List Operation) →
    Stay s.equations (add k s os).state.equations
unfolding add
add_stays k s os = first_stays s.equations (numbered s.next k os)

-- the equations before `keep` stay
pub keep_stays : (x : Emitted) → Stay x.state.equations (keep x).state.equations
keep_stays x = same_stay x.state.equations (keep x).state.equations (keep_equations x)

joins_stays : (s : State) (qs : List FlatEquation) (is : List ℕ) →
    Stay s.equations (joins s qs is).state.equations
joins_stays s qs is =
    same_stay s.equations (joins s qs is).state.equations (joins_equations s qs is)

assert_stays : (x : Emitted) → Stay x.state.equations (assert x).equations
assert_stays x = same_stay x.state.equations (assert x).equations (assert_equations x)

abbrev Stays : State → State → Type 0
Stays s t = Stay s.equations t.equations

staying : IsStep Any Stays
staying = record {
  adding = record { none = λ s q i. i; both = λ s t u a b q i. b q (a q i); adds = add_stays };
  keeps = keep_stays;
  joining = λ s qs is j. joins_stays s qs is;
}

module _ (Y : Layout) (P : Program) (here : Instance) where
  -- the equations before an expression stay, and those before several expressions
  pub emit_stays : (k : Clock) (n : ℕ) (s : State) (e : Expr) →
      Stay s.equations (emit Y P here k n s e).state.equations
  emit_stays = emit_step Any Stays staying Y (any_joined Y) P here

  all_stay : (k : Clock) (n : ℕ) (s : State) (es : Exprs) →
      Stay s.equations (emit_all Y P here k n s es).state.equations
  all_stay = all_step Any Stays staying Y (any_joined Y) P here

  -- ## Parts

  module _ (final : List FlatEquation) where
    -- the expression of an occurrence is emitted from some state, and its equations stay in `final`
    pub record IsEmitted (o : Occurrence) : Type 0 where
      pub from : State
      pub stay : Stay (emit Y P here o.clock o.calls_before from o.expr).state.equations final

    abbrev AllEmitted : List Occurrence → Type 0
    AllEmitted os = Every IsEmitted os

    own :
        {o : Occurrence} (s : State) →
        Stay (emit Y P here o.clock o.calls_before s o.expr).state.equations final → IsEmitted o
    own s g = record { from = s; stay = g }

    -- two operands, one after another, are emitted
    both_emitted :
        (k : Clock) (n : ℕ) (s : State) (a b : Expr) →
        (Stay (emit Y P here k n s a).state.equations final →
        AllEmitted (occurrences P here.node k n a)) →
        AllEmitted (occurrences P here.node k (n + call_count a) b) →
        Stay (emit Y P here k (n + call_count a) (emit Y P here k n s a).state b).state.equations
        final →
        AllEmitted
        (occurrences P here.node k n a ++ occurrences P here.node k (n + call_count a) b)
    both_emitted k n s a b left right stay =
        Every-append IsEmitted _ _
        (left (λ q i. stay q (emit_stays k (n + call_count a) (emit Y P here k n s a).state b q i)))
        right

    mutual
      unfolding emit

      parts_emitted :
          (k : Clock) (n : ℕ) (s : State) (e : Expr) →
          Stay (emit Y P here k n s e).state.equations final →
          AllEmitted (occurrences P here.node k n e)
      parts_emitted k n s (Literal m) g = (own s g, tt)
      parts_emitted k n s (Truth b) g = (own s g, tt)
      parts_emitted k n s (Variable x) g = (own s g, tt)
      parts_emitted k n s (Group a) g = parts_emitted k n s a g
      parts_emitted k n s (Unary op a) g =
          (own s g, parts_emitted k n s a (λ q i. g q (add_stays _ _ _ q i)))
      parts_emitted k n s (Binary op a b) g = (
        own s g,
        both_emitted k n s a b (parts_emitted k n s a)
            (parts_emitted k _ _ b (λ q i. g q (add_stays _ _ _ q i)))
            (λ q i. g q (add_stays _ _ _ q i)),
      )
      parts_emitted k n s (If c a b) g =
          let na = n + call_count c in
          let nb = na + call_count a in
          let z = emit Y P here k n s c in
          let x = emit Y P here k na z.state a in
          let y = emit Y P here k nb x.state b in
          let last : Stay y.state.equations final = λ q i. g q (add_stays _ _ _ q i) in (
            own s g,
            Every-append IsEmitted _ _
                (parts_emitted k n s c
                (λ q i. last q (emit_stays k nb x.state b q (emit_stays k na z.state a q i))))
                (both_emitted k na z.state a b (parts_emitted k na z.state a)
                (parts_emitted k nb x.state b last) last),
          )
      parts_emitted k n s (Arrow a b) g = (
        own s g,
        both_emitted k n s a b (parts_emitted k n s a)
            (parts_emitted k _ _ b (λ q i. g q (add_stays _ _ _ q i)))
            (λ q i. g q (add_stays _ _ _ q i)),
      )
      parts_emitted k n s (Fby a b) g =
          let y = emit Y P here k (n + call_count a) (emit Y P here k n s a).state b in
          let last : Stay y.state.equations final =
          λ q i. g q (add_stays _ _ _ q (add_stays _ _ _ q (keep_stays y q i))) in (
            own s g,
            both_emitted k n s a b (parts_emitted k n s a) (parts_emitted k _ _ b last) last,
          )
      parts_emitted k n s (Pre a) g =
          (own s g, parts_emitted k n s a (λ q i. g q (add_stays _ _ _ q (keep_stays _ q i))))
      parts_emitted k n s (Current a) g =
          (own s g, parts_emitted _ n s a (λ q i. g q (add_stays _ _ _ q (keep_stays _ q i))))
      parts_emitted k n s (When a x sign) g =
          (own s g, parts_emitted _ n s a (λ q i. g q (add_stays _ _ _ q i)))
      parts_emitted k n s (Replicate a m) g = (own s g, parts_emitted k n s a g)
      parts_emitted k n s (Index a m) g = (own s g, parts_emitted k n s a g)
      parts_emitted k n s (Slice a m l) g = (own s g, parts_emitted k n s a g)
      parts_emitted k n s (Join a b) g =
          (own s g, both_emitted k n s a b (parts_emitted k n s a) (parts_emitted k _ _ b g) g)
      parts_emitted k n s (Array es) g = (own s g, all_emitted k n s es g)
      parts_emitted k n s (AtMostOne es) g = (
        own s g,
        all_emitted k n s es (λ q i. g q (at_most_one_step Stays staying.adding _ _ _ q
            i)),
      )
      parts_emitted k n s (Nor es) g =
          (own s g, all_emitted k n s es (λ q i. g q (nor_step Stays staying.adding _ _ _ q i)))
      parts_emitted k n s (Call f statics es) g = (
        own s g,
        each_emitted (call_clocks k (node_named P f) es) (n + 1) s es
            (λ q i. g q (joins_stays _ _ _ q i)),
      )
      parts_emitted k n s (Iterate it (Node_named f statics) m es) g =
          (own s g, all_emitted k (n + 1) s es (λ q i. g q (joins_stays _ _ _ q i)))
      parts_emitted k n s (Iterate it (Symbol op) m es) g = (
        own s g,
        all_emitted k n s es (λ q i. g q (symbol_step Stays staying.adding _ op _ it _ q
            i)),
      )

      all_emitted :
          (k : Clock) (n : ℕ) (s : State) (es : Exprs) →
          Stay (emit_all Y P here k n s es).state.equations final →
          AllEmitted (occurrences_in P here.node k n es)
      all_emitted k n s Nil g = tt
      all_emitted k n s (Cons e es) g =
          let m = n + call_count e in
          let x = emit Y P here k n s e in
          Every-append IsEmitted _ _
          (parts_emitted k n s e (λ q i. g q (all_stay k m x.state es q i)))
          (all_emitted k m x.state es g)

      each_emitted :
          (ks : List Clock) (n : ℕ) (s : State) (es : Exprs) →
          Stay (emit_each Y P here ks n s es).state.equations final →
          AllEmitted (occurrences_each P here.node ks n es)
      each_emitted ks n s Nil g = tt
      each_emitted [] n s (Cons e es) g = tt
      each_emitted (k ∷ ks) n s (Cons e es) g =
          let m = n + call_count e in
          let x = emit Y P here k n s e in
          Every-append IsEmitted _ _
          (parts_emitted k n s e (λ q i. g q (each_step Any Stays staying Y (any_joined Y) P here ks
          m x.state es q i)))
          (each_emitted ks m x.state es g)

  -- ## Statements

  body_emitted :
      (final : List FlatEquation) (n : ℕ) (s : State) (body : List Statement) →
      Stay (emit_body Y P here n s body).equations final →
      Every (IsEmitted final) (occurrences_of P here.node (right_sides P here.node n body))
  unfolding emit_body
  body_emitted final n s [] g = tt
  body_emitted final n s (Equation lefts e ∷ rest) g =
      let m = n + call_count e in
      Every-append (IsEmitted final) _ _
      (parts_emitted final _ n s e (λ q i. g q (body_step Any Stays staying Y (any_joined Y) P
      assert_stays here m _ rest q (joins_stays _ _ [] q i))))
      (body_emitted final m _ rest g)
  body_emitted final n s (Assertion e ∷ rest) g =
      let m = n + call_count e in
      Every-append (IsEmitted final) _ _
      (parts_emitted final _ n s e
      (λ q i. g q (body_step Any Stays staying Y (any_joined Y) P assert_stays here m (assert _)
      rest q (assert_stays _ q i))))
      (body_emitted final m (assert _) rest g)

-- ## All instances

module _ (Y : Layout) (P : Program) where
  -- each expression in the text of each instance is emitted from some state
  pub all_parts_emitted :
      (final : List FlatEquation) (s : State) (is : List Instance) →
      Stay (emit_instances Y P s is).equations final →
      Every (λ here. Every (IsEmitted Y P here final) (node_occurrences P here.node)) is
  unfolding emit_instances
  all_parts_emitted final s [] g = tt
  all_parts_emitted final s (here ∷ is) g =
      let t = emit_body Y P here 0 s here.node.body in (
        body_emitted Y P here final 0 s here.node.body (λ q i. g q (instances_step Any Stays staying
            Y (any_joined Y) P assert_stays t is q i)),
        all_parts_emitted final t is g,
      )

-- The memories of all operators of an accepted program stand in its flat program, and the elements
-- that they keep hold the streams of their operands.

-- ## New equations

numbered_at : (k : FlatClock) (i : ℕ) (os : List Operation) →
    numbered i k os ≡ equations_at k (numbers i os) os
numbered_at k i [] = refl
numbered_at k i (o ∷ os) =
    ap (λ qs. record { element = i; clock = k; operation = o } ∷ qs) (numbered_at k (suc i) os)

-- where the state behind `add` stays, the equations that it added are among the final ones
added_there :
    (final : List FlatEquation) (k : FlatClock) (s : State) (os : List Operation) →
    Stay (add k s os).state.equations final →
    Every (λ q. In q final) (equations_at k (add k s os).found os)
unfolding add
added_there final k s os stay =
    subst (Every (λ q. In q final)) (numbered_at k s.next os)
    (Every-from (λ q. In q final) (numbered s.next k os)
    (λ q i. stay q (second_stays s.equations (numbered s.next k os) q i)))

-- ## One instance

module _ (P : Program) (Y : Layout) (kinds : ℕ → Kind) (f : FlatProgram)
    (final : List FlatEquation) (there : Stay final f.equations) (here : Instance) where
  abbrev all : List Occurrence
  all = node_occurrences P here.node

  -- a solution read at an instance: its equations hold, its calls are placed, and its signs agree
  pub record IsRead (X : Inputs) (F : List Stream) : Type 0 where
    pub signs : (p : Path) (x : Name) → columns X F (Y.places p x) ≡ columns X F (Y.signs p x)
    pub met : AllMet X F final
    pub placed : Every (IsPlaced Y P (history_of Y X F) here) all

  -- the variables and the calls of the instance are as wide as their types
  module _ (read : (X : Inputs) (F : List Stream) →
      IsFlatSolution (input_kinds P) kinds f X F → IsRead X F)
      (variables_wide : AreVariablesWide P (history_of Y [] []) here here)
      (calls_wide : Every (IsOccurrenceWide P (history_of Y [] []) here) all) where
    -- the equations of an expression that is emitted stay among the final ones
    abbrev StaysAt : Clock → ℕ → State → Expr → Type 0
    StaysAt k n s e = Stay (emit Y P here k n s e).state.equations final

    -- the parts of an expression are among the occurrences of the instance
    abbrev InsideAt : Clock → ℕ → Expr → Type 0
    InsideAt k n e = Every (λ p. In p all) (occurrences P here.node k n e)

    -- the elements found have the streams of the expression
    held :
        (k : Clock) (n : ℕ) (s : State) (e : Expr) → StaysAt k n s e → InsideAt k n e →
        HoldStreams P Y kinds f here (at k n e) (emit Y P here k n s e).found
    held k n s e stay inside X F solution =
        let r = read X F solution in
        let H = history_of Y X F in
        let agrees : Agrees Y X H F =
        record { columns = λ p x. refl; signs = r.signs; ticks = λ p. refl } in
        (sound Y P X H F solution.equations.as_long agrees here k n s e
        (Every-map (λ p. In p all) (IsPlaced Y P H here)
        (λ p i. Every-in (IsPlaced Y P H here) p all r.placed i) _ inside)
        (Every-from (IsMet X F) _ (λ q i. Every-in (IsMet X F) q final r.met (stay q i)))).found

    -- the elements found are as many as the types of the expression have scalar elements
    found_wide :
        (k : Clock) (n : ℕ) (s : State) (e : Expr) (ts : List DataType) →
        data_types P here e ≡ Some ts → StaysAt k n s e → InsideAt k n e →
        length (emit Y P here k n s e).found ≡ elements_in ts
    found_wide k n s e ts typed stay inside =
        let H = history_of Y [] [] in
        as_many Y P H here (λ p x. sym (length-map (Y.places p x) (column [] []))) k n s e
        ∙ wide P H here variables_wide k n e ts typed
        (Every-map (λ p. In p all) (IsOccurrenceWide P H here)
        (λ p i. Every-in (IsOccurrenceWide P H here) p all calls_wide i) _ inside)

    -- two operands of one type have equally many elements
    as_many_found :
        (k : Clock) (n : ℕ) (s : State) (a b : Expr) (t u v : DataType) →
        data_types P here a ≡ Some (t ∷ []) → data_types P here b ≡ Some (u ∷ []) →
        common_type t u ≡ Some v → StaysAt k n s a → InsideAt k n a →
        StaysAt k (n + call_count a) (emit Y P here k n s a).state b →
        InsideAt k (n + call_count a) b →
        length (emit Y P here k (n + call_count a) (emit Y P here k n s a).state b).found
        ≡ length (emit Y P here k n s a).found
    as_many_found k n s a b t u v is_t is_u same stay_a in_a stay_b in_b =
        let counts = alike t u v same in
        let wide_b = found_wide k (n + call_count a) (emit Y P here k n s a).state b (u ∷ []) is_u
        stay_b in_b in
        wide_b ∙ ap (λ c. c + 0) (counts.second ∙ sym counts.first)
        ∙ sym (found_wide k n s a (t ∷ []) is_t stay_a in_a)

    all_there : (qs : List FlatEquation) → Every (λ q. In q final) qs →
        Every (λ q. In q f.equations) qs
    all_there qs h = Every-map (λ q. In q final) (λ q. In q f.equations) (λ q i. there q i) qs h

    -- an operand is kept by the operations that keep it
    operand_kept :
        (k : Clock) (a : Occurrence) (o : ℕ → Operation) (x : Emitted) →
        Stay (add (flat_clock Y here.path k) (keep x).state (map o (keep x).found)).state.equations
        final →
        HoldStreams P Y kinds f here a x.found → KeepsOperand P Y kinds f here k a o
    operand_kept k a o x stay h =
        let own = flat_clock Y here.path k in
        let os = map o (keep x).found in record {
          places = (add own (keep x).state os).found;
          operands = (keep x).found;
          as_many = add_count own (keep x).state os ∙ length-map (keep x).found o;
          equations = all_there (equations_at own (add own (keep x).state os).found os)
              (added_there final own (keep x).state os stay);
          streams = subst (HoldStreams P Y kinds f here a) (sym (keep_found x)) h;
        }

    -- the flags of `->` are kept
    flag_kept :
        (k : Clock) (a : Occurrence) (s : State) (firsts thens : List ℕ) →
        Stay
        (add (flat_clock Y here.path k) s (zip2 (FirstThen false) firsts thens)).state.equations
        final →
        length thens ≡ length firsts → HoldStreams P Y kinds f here a firsts →
        KeepsFlag P Y kinds f here k a
    flag_kept k a s firsts thens stay both h =
        let os = zip2 (FirstThen false) firsts thens in
        record {
          places = (add _ s os).found;
          firsts = firsts;
          thens = thens;
          as_many = add_count _ s os
              ∙ length-both (FirstThen false) (length firsts) firsts thens refl both;
          both = both;
          equations = all_there (equations_at _ (add _ s os).found os)
              (added_there final _ s os stay);
          streams = h;
        }

    -- the memories of an operator
    memory_at :
        (k : Clock) (n : ℕ) (s : State) (e : Expr) (ts : List DataType) →
        data_types P here e ≡ Some ts → StaysAt k n s e → InsideAt k n e →
        HasMemories P Y kinds f here k n e
    unfolding emit
    memory_at k n s (Pre a) ts typed stay inside =
        operand_kept k (at k n a) (Previous Nil_value) _ stay
        (held k n s a (λ q i. stay q (add_stays _ _ _ q (keep_stays _ q i))) inside.1)
    memory_at k n s (Current a) ts typed stay inside =
        operand_kept k (at _ n a) (Latest Nil_value) _ stay
        (held _ n s a (λ q i. stay q (add_stays _ _ _ q (keep_stays _ q i))) inside.1)
    memory_at k n s (Arrow a b) ts typed stay inside =
        let m = n + call_count a in
        let i = two (data_types P here a) (data_types P here b) common_type ts typed in
        let x = emit Y P here k n s a in
        let y = emit Y P here k m x.state b in
        let stay_b : StaysAt k m x.state b = λ q i. stay q (add_stays _ y.state _ q i) in
        let stay_a : StaysAt k n s a = λ q i. stay_b q (emit_stays Y P here k m x.state b q i) in
        let in_a : InsideAt k n a = Every-first (λ p. In p all) _ _ inside.1 in
        flag_kept k (at k n a) y.state x.found y.found stay
        (as_many_found k n s a b i.first i.second i.result i.is_first i.is_second i.gives stay_a
        in_a stay_b (Every-second (λ p. In p all) _ _ inside.1)) (held k n s a stay_a in_a)
    memory_at k n s (Fby a b) ts typed stay inside =
        let m = n + call_count a in
        let i = two (data_types P here a) (data_types P here b) common_type ts typed in
        let x = emit Y P here k n s a in
        let y = emit Y P here k m x.state b in
        let own = flat_clock Y here.path k in
        let before = map (Previous Nil_value) (keep y).found in
        let z = add own (keep y).state before in
        let stay_z : Stay z.state.equations final = λ q i. stay q (add_stays own z.state _ q i) in
        let stay_b : StaysAt k m x.state b =
        λ q i. stay_z q (add_stays own (keep y).state before q (keep_stays y q i)) in
        let stay_a : StaysAt k n s a = λ q i. stay_b q (emit_stays Y P here k m x.state b q i) in
        let in_a : InsideAt k n a = Every-first (λ p. In p all) _ _ inside.1 in
        let in_b : InsideAt k m b = Every-second (λ p. In p all) _ _ inside.1 in
        let as_many = as_many_found k n s a b i.first i.second i.result i.is_first i.is_second
        i.gives stay_a in_a stay_b in_b in
        let kept = add_count own (keep y).state before
        ∙ length-map (keep y).found (Previous Nil_value) ∙ ap length (keep_found y) in (
          operand_kept k (at k m b) (Previous Nil_value) y stay_z (held k m x.state b stay_b in_b),
          flag_kept k (at k n a) z.state x.found z.found stay (kept ∙ as_many)
              (held k n s a stay_a in_a),
        )
    memory_at k n s e ts typed stay inside = tt

    -- the memories of an instance
    instance_memories :
        Every (IsEmitted Y P here final) all → Every (HasTypes P here) all →
        Every (λ o. HasMemories P Y kinds f here o.clock o.calls_before o.expr) all
    instance_memories emitted types =
        Every-map _ (λ o. HasMemories P Y kinds f here o.clock o.calls_before o.expr)
        (λ o z. memory_at o.clock o.calls_before z.0.from o.expr z.1.0.types z.1.0.typed z.0.stay
        z.1.1) all
        (Every-both (IsEmitted Y P here final) _ all emitted
        (Every-both (HasTypes P here) (PartsHave P here.node (λ p. In p all)) all types
        (nested_all P here.node (λ p. In p all) (right_sides P here.node 0 here.node.body)
        (Every-from (λ p. In p all) all (λ p i. i)))))

-- ## A whole program

module _ (P : Program) (elaborated : static_refusal P ≡ None) (checked : check_refusal P ≡ None)
    (Y : Layout)
    (placed : Every (λ here. Every (λ d. length (Y.places here.path d.name) ≡ width P here d)
    (variables here.node)) (instances P))
    (runs : (H : History) →
    Every (λ here. Every (RunsAt Y P H here) (node_occurrences P here.node)) (instances P))
    (count : ℕ) (kinds : ℕ → Kind) (f : FlatProgram)
    (there : Stay (emit_instances Y P (before_instances count) (instances P)).equations
    f.equations)
    (signs : (X : Inputs) (F : List Stream) → IsFlatSolution (input_kinds P) kinds f X F →
    (p : Path) (x : Name) → columns X F (Y.places p x) ≡ columns X F (Y.signs p x))
    (met : (X : Inputs) (F : List Stream) → IsFlatSolution (input_kinds P) kinds f X F →
    AllMet X F (emit_instances Y P (before_instances count) (instances P)).equations) where
  abbrev final : List FlatEquation
  final = (emit_instances Y P (before_instances count) (instances P)).equations

  abbrev IsReadAt : Inputs → List Stream → Instance → Type 0
  IsReadAt X F here = IsRead P Y kinds f final there here X F

  read_each :
      (X : Inputs) (F : List Stream) → IsFlatSolution (input_kinds P) kinds f X F →
      Every (IsReadAt X F) (instances P)
  read_each X F solution =
      Every-map (IsSound Y P (history_of Y X F)) (IsReadAt X F)
      (λ here z. record {
        signs = signs X F solution;
        met = met X F solution;
        placed = z.placed;
      }) (instances P) (program_sound P elaborated checked Y placed runs X F).instances

  all_variables : Every (λ here. AreVariablesWide P (history_of Y [] []) here here) (instances P)
  all_variables = history_wide P elaborated checked Y placed runs [] []

  -- the memories of all operators stand in the flat program
  pub memories_are : HasAllMemories P Y kinds f
  memories_are =
      Every-from
      (λ here. Every (λ o. HasMemories P Y kinds f here o.clock o.calls_before o.expr)
      (node_occurrences P here.node)) (instances P)
      (λ here i. instance_memories P Y kinds f final there here
      (λ X F solution. Every-in (IsReadAt X F) here (instances P) (read_each X F solution) i)
      (Every-in (λ here. AreVariablesWide P (history_of Y [] []) here here) here (instances P)
      all_variables i)
      (Every-in
      (λ here. Every (IsOccurrenceWide P (history_of Y [] []) here) (node_occurrences P here.node))
      here (instances P) (all_wide P elaborated checked (history_of Y [] []) all_variables) i)
      (Every-in (λ here. Every (IsEmitted Y P here final) (node_occurrences P here.node)) here
      (instances P) (all_parts_emitted Y P final (before_instances count) (instances P) (λ q i. i))
      i)
      (Every-in (λ here. Every (HasTypes P here) (node_occurrences P here.node)) here (instances P)
      (occurrences_typed P elaborated checked) i))
