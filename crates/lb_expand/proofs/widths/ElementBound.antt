-- A flat program has at most five times as many elements as the size of its program.
use Rattle.lb_expand.proofs.Words
use Words.{ApplyBinary, ApplyUnary, Array, ArrayIterator, Arrow, Assertion, AtMostOne, Binary}
use Words.{BinaryOperator, Call, Choose, Cons, Current, DataType, Declaration, Emitted, Equation}
use Words.{Every, Expr, Exprs, Fby, FirstThen, FlatClock, FlatEquation, Group, If, Index, Instance}
use Words.{Iterate, Join, Latest, Layout, List, Literal, Map, Name, Nil, Node_named, None, Nor}
use Words.{Occurrence, On, Operation, Option, Pre, Previous, Program, Red, Replicate, Sample, Slice}
use Words.{Some, State, Statement, Symbol, Truth, Unary, Variable, When, [], add, all_typed}
use Words.{all_types, and_first, and_second, ap, arith, array_of, assert, before_instances}
use Words.{binary_type, bound, call_clocks, call_count, check_refusal, chosen_by, common_type}
use Words.{constant_type, copied, data_types, either_or, element_count, elements, emit, emit_all}
use Words.{emit_body, emit_each, emit_instances, emit_name, emit_symbol, expanded, expression_size}
use Words.{false, first_of_all, first_value, flat_clock, flat_map, from_one, from_truths}
use Words.{index_type, instance_elements, instance_size, instances, is_clock_typed}
use Words.{is_statement_typed, is_typed, join_type, joined, joins, keep, length, length-append}
use Words.{length-map, length-range_with_len, list_all, map, name_data_type, name_value, named}
use Words.{node_named, node_occurrences, node_parts, occurrences, occurrences_each, occurrences_in}
use Words.{operator_types, option_map, parts, parts_in, pos, program_elements, range_with_len, refl}
use Words.{right_side, right_sides, same_Some, singly, size, slice_type, statement_clock}
use Words.{static_count, sum_by, sum_by-append, sum_by-cons, sym, targets, true, unary_type}
use Words.{variable_type, variables, width, zip2, ℕ, ◌*◌, ◌++◌, ◌+◌, ◌∙◌, ◌∷◌, ◌≡◌, ◌≤◌}
use Rattle.lb_check.proofs.{programs.OccurrenceParts.right_typed, typing.OperandTypes.from_true}
use Rattle.lb_check.{proofs.typing.OperandTypes.{one, two}, specs.Clocks.Clock}
use Rattle.lb_expand.proofs.emission.EmittedRooms.{chained_next, nor_next, one_next}
use Rattle.lb_expand.proofs.emission.TermSteps.{next_of_add, next_of_keep}
use Rattle.lb_expand.proofs.{solutions.Solving.occurrences_of, widths.FoundWidths.keep_count}
use Rattle.lb_expand.proofs.widths.TypeFacts.{constant, elements_in}
use Rattle.lb_flat.proofs.lists.Lists.{Every-both, Every-first, Every-map, Every-second}
use Rattle.lb_static.specs.DataTypes.{total}

-- ## New elements

joins_next : (s : State) (qs : List FlatEquation) (is : List ℕ) →
    (joins s qs is).state.next ≡ s.next
unfolding joins
joins_next s qs is = refl

zip_few : {A B C : Type 0} (f : A → B → C) (xs : List A) (ys : List B) →
    length (zip2 f xs ys) ≤ length xs
zip_few f [] ys = omega arith
zip_few f (x ∷ xs) [] = omega arith
zip_few f (x ∷ xs) (y ∷ ys) = let e = zip_few f xs ys in omega (arith, e)

chosen_few : (cs xs ys : List ℕ) → length (chosen_by cs xs ys) ≤ length xs
chosen_few [] xs ys = omega arith
chosen_few (c ∷ cs) xs ys = zip_few (Choose c) xs ys

symbol_next :
    (k : FlatClock) (op : BinaryOperator) (s : State) (it : ArrayIterator)
    (found : List (List ℕ)) →
    (emit_symbol k op s it found).state.next ≤ s.next + length (joined found)
symbol_next k op s Map (xs ∷ (ys ∷ [])) =
    let a = next_of_add k s (zip2 (ApplyBinary op) xs ys) in
    let b = zip_few (ApplyBinary op) xs ys in
    let c = length-append xs (ys ++ []) in
    omega (arith, a, b, c)
symbol_next k op s Red ((init ∷ []) ∷ (ys ∷ [])) =
    omega (arith, chained_next k op s init ys, length-append ys [])
symbol_next k op s it found = omega arith

-- ## Sizes

total_is : (ts : List DataType) → total ts ≡ elements_in ts
total_is [] = refl
total_is (t ∷ ts) = omega (arith, sum_by-cons element_count t ts, total_is ts)

-- ## A bound

-- a text that weighs `weighs` and finds `many` elements takes few new ones: those from `before` to
-- `next`
pub record IsFew (before next many weighs : ℕ) : Type 0 where
  pub few : next + 3 * many ≤ before + 5 * weighs

-- a text that weighs `weighs` takes few new elements, however many it finds
pub record IsCheap (before next weighs : ℕ) : Type 0 where
  pub few : next ≤ before + 5 * weighs

-- one new element, which is the one that is found, is few
one_new :
    {before next many weighs : ℕ} → next ≡ before + 1 → weighs ≡ many + 0 → many ≡ 1 →
    IsFew before next many weighs
one_new e is single = record { few = omega (arith, e, is, single) }

-- a form with one operand, with at most as many new elements as the operand has, takes few
after_one :
    {before next a w many end weighs : ℕ} → IsFew before next a w → end ≤ next + a →
    weighs ≡ many + w → IsFew before end many weighs
after_one h le is = record { few = omega (arith, h, le, is) }

-- a form with two operands, with at most as many new elements as both have, takes few
after_two :
    {before first next a b v w many end weighs : ℕ} → IsFew before first a v →
    IsFew first next b w → end ≤ next + (a + b) → weighs ≡ many + (v + w) →
    IsFew before end many weighs
after_two g h le is = record { few = omega (arith, g, h, le, is) }

-- a form with three operands, with at most as many new elements as the second has, takes few
after_three :
    {before first second next a b c u v w many end weighs : ℕ} → IsFew before first a u →
    IsFew first second b v → IsFew second next c w → end ≤ next + b →
    weighs ≡ many + (u + (v + w)) → IsFew before end many weighs
after_three f g h le is = record { few = omega (arith, f, g, h, le, is) }

-- one truth from several operands, by two new elements and three for each one found, takes few
after_truths :
    {before next a w many end weighs : ℕ} → many ≡ 1 → IsFew before next a w →
    end ≤ next + 3 * a + 2 → weighs ≡ many + w → IsFew before end many weighs
after_truths one h le is = record { few = omega (arith, one, h, le, is) }

-- a call adds no new elements of its own, and so takes few
after_calls :
    {before next w many weighs : ℕ} → IsCheap before next w → weighs ≡ many + w →
    IsFew before next many weighs
after_calls h is = record { few = omega (arith, h, is) }

-- one operand and several others take few, where each part takes few
after_more :
    {before first next a b v w many weighs : ℕ} → IsFew before first a v → IsFew first next b w →
    many ≡ a + b → weighs ≡ v + w → IsFew before next many weighs
after_more g h e is = record { few = omega (arith, g, h, e, is) }

each_more :
    {before first next a v w weighs : ℕ} → IsFew before first a v → IsCheap first next w →
    weighs ≡ v + w → IsCheap before next weighs
each_more g h is = record { few = omega (arith, g, h, is) }

-- few new elements are taken, where one is added for each element of the one operand
one_added :
    {before a w many weighs : ℕ} (x : Emitted) (f : ℕ → Operation) (c : FlatClock) →
    IsFew before x.state.next a w → length x.found ≡ a → weighs ≡ many + w →
    IsFew before (add c x.state (map f x.found)).state.next many weighs
one_added x f c h count is =
    let next = next_of_add c x.state (map f x.found) in
    after_one h (omega (arith, next, length-map x.found f, count)) is

one_kept :
    {before a w many weighs : ℕ} (x : Emitted) (f : ℕ → Operation) (c : FlatClock) →
    IsFew before x.state.next a w → length x.found ≡ a → weighs ≡ many + w →
    IsFew before (add c (keep x).state (map f (keep x).found)).state.next many weighs
one_kept x f c h count is =
    let next = next_of_add c (keep x).state (map f (keep x).found) in
    let kept = next_of_keep x in
    let many = length-map (keep x).found f ∙ keep_count x in
    after_one h (omega (arith, next, kept, many, count)) is

-- few new elements are taken, where at most as many are added as the first of two operands has
two_added :
    {before a b v w many weighs : ℕ} (x y : Emitted) (os : List Operation) (c : FlatClock) →
    IsFew before x.state.next a v → IsFew x.state.next y.state.next b w → length x.found ≡ a →
    length os ≤ length x.found → weighs ≡ many + (v + w) →
    IsFew before (add c y.state os).state.next many weighs
two_added x y os c g h count le is =
    let next = next_of_add c y.state os in after_two g h (omega (arith, next, le, count)) is

module _ (P : Program) (here : Instance) where
  -- the weight of some expressions: the sum of their sizes
  abbrev pub weight : List Expr → ℕ
  weight es = sum_by (expression_size P here) es

  -- the weight of an expression and its parts
  own_weight : (e : Expr) (ts : List DataType) (es : List Expr) → data_types P here e ≡ Some ts →
      weight (e ∷ es) ≡ elements_in ts + weight es
  own_weight e ts es is =
      let size : expression_size P here e ≡ elements_in ts = cc (total_is ts) in
      cc (sum_by-cons (expression_size P here) e es)

  two_weights : (e : Expr) (ts : List DataType) (a b : List Expr) → data_types P here e ≡ Some ts →
      weight (e ∷ (a ++ b)) ≡ elements_in ts + (weight a + weight b)
  two_weights e ts a b is =
      cc (own_weight e ts (a ++ b) is, sum_by-append (expression_size P here) a b)

  module _ (Y : Layout) (W : Occurrence → Type 0)
      (counted : (k : Clock) (n : ℕ) (s : State) (e : Expr) (ts : List DataType) →
      data_types P here e ≡ Some ts → Every W (occurrences P here.node k n e) →
      length (emit Y P here k n s e).found ≡ elements_in ts) where
    abbrev AllHave : List Occurrence → Type 0
    AllHave os = Every W os

    fore : (os os' : List Occurrence) → AllHave (os ++ os') → AllHave os
    fore os os' w = Every-first W os os' w

    aft : (os os' : List Occurrence) → AllHave (os ++ os') → AllHave os'
    aft os os' w = Every-second W os os' w

    abbrev parts_at : Clock → ℕ → Expr → List Occurrence
    parts_at k n e = occurrences P here.node k n e

    -- an expression takes few new elements
    abbrev FewAt : Clock → ℕ → State → Expr → List DataType → Type 0
    FewAt k n s e ts =
        IsFew s.next (emit Y P here k n s e).state.next (elements_in ts) (weight (parts e))

    constant_few :
        (k : FlatClock) (s : State) (o : Operation) (e : Expr) (ts : List DataType) →
        data_types P here e ≡ Some ts → elements_in ts ≡ 1 →
        IsFew s.next (add k s (o ∷ [])).state.next (elements_in ts) (weight (e ∷ []))
    constant_few k s o e ts typed single =
        one_new (next_of_add k s (o ∷ [])) (own_weight e ts [] typed) single

    name_few :
        (k : Clock) (s : State) (x : Name) (ts : List DataType) →
        data_types P here (Variable x) ≡ Some ts → (d : Option Declaration) →
        singly (either_or (option_map (variable_type P here) d)
        (constant_type (name_value P here x))) ≡ Some ts →
        IsFew s.next (emit_name Y P here k s x d).state.next (elements_in ts)
        (weight (Variable x ∷ []))
    name_few k s x ts typed (Some d) is =
        let own = own_weight (Variable x) ts [] typed in record { few = omega (arith, own) }
    name_few k s x ts typed None is =
        constant_few _ s _ (Variable x) ts typed
        (ap elements_in (constant (name_value P here x) ts is).all)

    -- several operands have as many elements as their types
    all_counted :
        (k : Clock) (n : ℕ) (s : State) (es : Exprs) (ts : List DataType) →
        all_types P here es ≡ Some ts → AllHave (occurrences_in P here.node k n es) →
        length (joined (emit_all Y P here k n s es).found) ≡ elements_in ts
    unfolding emit
    all_counted k n s Nil ts e w = ap elements_in (same_Some [] ts e)
    all_counted k n s (Cons a es) ts e w =
        let i = first_of_all P here a es ts e in
        let x = emit Y P here k n s a in
        let r = emit_all Y P here k (n + call_count a) x.state es in
        let c = counted k n s a (i.first ∷ []) i.is (fore _ _ w) in
        let d = all_counted k (n + call_count a) x.state es i.rest i.others (aft _ _ w) in
        omega (arith, length-append x.found (joined r.found), c, d, ap elements_in i.all)

    mutual
      unfolding emit

      few :
          (k : Clock) (n : ℕ) (s : State) (e : Expr) (ts : List DataType) →
          data_types P here e ≡ Some ts → AllHave (parts_at k n e) → FewAt k n s e ts
      few k n s (Literal m) ts e w =
          constant_few (flat_clock Y here.path k) s _ (Literal m) ts e
          (ap elements_in (constant (Some (pos m)) ts e).all)
      few k n s (Truth b) ts e w =
          constant_few (flat_clock Y here.path k) s _ (Truth b) ts e
          (ap elements_in (sym (same_Some _ _ e)))
      few k n s (Variable x) ts e w =
          name_few k s x ts e (named (λ d. d.name) x (variables here.node)) e
      few k n s (Group a) ts e w = few k n s a ts e w
      few k n s (Unary op a) ts e w =
          let i = one (data_types P here a) (unary_type op) ts e in
          one_added (emit Y P here k n s a) (ApplyUnary op) (flat_clock Y here.path k)
          (few k n s a _ i.is w.1) (counted k n s a _ i.is w.1)
          (own_weight (Unary op a) ts (parts a) e)
      few k n s (Binary op a b) ts e w =
          let i = two (data_types P here a) (data_types P here b) (binary_type op) ts e in
          let x = emit Y P here k n s a in
          let y = emit Y P here k (n + call_count a) x.state b in
          two_added x y (zip2 (ApplyBinary op) x.found y.found) (flat_clock Y here.path k)
          (few k n s a _ i.is_first (fore _ _ w.1)) (few k _ x.state b _ i.is_second (aft _ _ w.1))
          (counted k n s a _ i.is_first (fore _ _ w.1)) (zip_few (ApplyBinary op) x.found y.found)
          (two_weights (Binary op a b) ts (parts a) (parts b) e)
      few k n s (If c a b) ts e v =
          let na = n + call_count c in
          let t = bound (from_truths (from_one (data_types P here c) Some)) _ ts e in
          let truths = from_true (from_one (data_types P here c) Some) t.value t.is in
          let z = one (data_types P here c) Some truths.data_types truths.is in
          let i = two (data_types P here a) (data_types P here b) common_type ts t.gives in
          let w = emit Y P here k n s c in
          let x = emit Y P here k na w.state a in
          let y = emit Y P here k (na + call_count a) x.state b in
          let branches = aft (parts_at k n c) _ v.1 in
          let next = next_of_add (flat_clock Y here.path k) y.state
          (chosen_by w.found x.found y.found) in
          let le = chosen_few w.found x.found y.found in
          let many = counted k na w.state a _ i.is_first (fore _ _ branches) in
          after_three (few k n s c _ z.is (fore _ _ v.1))
          (few k na w.state a _ i.is_first (fore _ _ branches))
          (few k (na + call_count a) x.state b _ i.is_second (aft _ _ branches))
          (omega (arith, next, le, many))
          (two_weights (If c a b) ts (parts c) (parts a ++ parts b) e
          ∙ ap (λ n. elements_in ts + (weight (parts c) + n))
          (sum_by-append (expression_size P here) (parts a) (parts b)))
      few k n s (Arrow a b) ts e w =
          let i = two (data_types P here a) (data_types P here b) common_type ts e in
          let x = emit Y P here k n s a in
          let y = emit Y P here k (n + call_count a) x.state b in
          two_added x y (zip2 (FirstThen false) x.found y.found) (flat_clock Y here.path k)
          (few k n s a _ i.is_first (fore _ _ w.1)) (few k _ x.state b _ i.is_second (aft _ _ w.1))
          (counted k n s a _ i.is_first (fore _ _ w.1)) (zip_few (FirstThen false) x.found y.found)
          (two_weights (Arrow a b) ts (parts a) (parts b) e)
      few k n s (Fby a b) ts e w =
          let m = n + call_count a in
          let c = flat_clock Y here.path k in
          let i = two (data_types P here a) (data_types P here b) common_type ts e in
          let x = emit Y P here k n s a in
          let y = emit Y P here k m x.state b in
          let before = map (Previous first_value) (keep y).found in
          let z = add c (keep y).state before in
          let of_a = counted k n s a _ i.is_first (fore _ _ w.1) in
          let of_b : length before ≡ elements_in (i.second ∷ []) =
          length-map (keep y).found (Previous first_value) ∙ keep_count y
          ∙ counted k m x.state b _ i.is_second (aft _ _ w.1) in
          let le = zip_few (FirstThen false) x.found z.found in
          let last = next_of_add c z.state (zip2 (FirstThen false) x.found z.found) in
          let mid = next_of_add c (keep y).state before in
          let kept = next_of_keep y in
          after_two (few k n s a _ i.is_first (fore _ _ w.1))
          (few k m x.state b _ i.is_second (aft _ _ w.1))
          (omega (arith, last, mid, kept, of_a, of_b, le))
          (two_weights (Fby a b) ts (parts a) (parts b) e)
      few k n s (Pre a) ts e w =
          let i = one (data_types P here a) Some ts e in
          one_kept (emit Y P here k n s a) (Previous first_value) (flat_clock Y here.path k)
          (few k n s a _ i.is w.1) (counted k n s a _ i.is w.1) (own_weight (Pre a) ts (parts a) e)
      few k n s (When a x sign) ts e w =
          let i = one (data_types P here a) Some ts
          (bound (from_truths (singly (name_data_type P here x))) _ ts e).gives in
          one_added (emit Y P here _ n s a) Sample (flat_clock Y here.path (On _ x sign))
          (few _ n s a _ i.is w.1) (counted _ n s a _ i.is w.1)
          (own_weight (When a x sign) ts (parts a) e)
      few k n s (Current a) ts e w =
          let i = one (data_types P here a) Some ts e in
          one_kept (emit Y P here _ n s a) (Latest first_value) (flat_clock Y here.path k)
          (few _ n s a _ i.is w.1) (counted _ n s a _ i.is w.1)
          (own_weight (Current a) ts (parts a) e)
      few k n s (Replicate a m) ts e w =
          let c = bound (static_count P here m) _ ts e in
          after_one (few k n s a _ (one (data_types P here a) (array_of c.value) ts c.gives).is w.1)
          (omega arith) (own_weight (Replicate a m) ts (parts a) e)
      few k n s (Index a m) ts e w =
          let c = bound (static_count P here m) _ ts e in
          let i = one (data_types P here a) (index_type c.value) ts c.gives in
          after_one (few k n s a _ i.is w.1) (omega arith) (own_weight (Index a m) ts (parts a) e)
      few k n s (Slice a m l) ts e w =
          let c = bound (static_count P here m) _ ts e in
          let d = bound (static_count P here l) _ ts c.gives in
          let i = one (data_types P here a) (slice_type c.value d.value) ts d.gives in
          after_one (few k n s a _ i.is w.1) (omega arith) (own_weight (Slice a m l) ts (parts a) e)
      few k n s (Join a b) ts e w =
          let i = two (data_types P here a) (data_types P here b) join_type ts e in
          after_two (few k n s a _ i.is_first (fore _ _ w.1))
          (few k (n + call_count a) (emit Y P here k n s a).state b _ i.is_second (aft _ _ w.1))
          (omega arith) (two_weights (Join a b) ts (parts a) (parts b) e)
      few k n s (Array es) ts e w =
          let b = bound (all_types P here es) _ ts e in
          after_one (few_all k n s es b.value b.is w.1) (omega arith)
          (own_weight (Array es) ts (parts_in es) e)
      few k n s (AtMostOne es) ts e w =
          let t = from_true (all_types P here es) ts e in
          let r = emit_all Y P here k n s es in
          let next = one_next (flat_clock Y here.path k) r.state (joined r.found) in
          let many = all_counted k n s es t.data_types t.is w.1 in
          after_truths (ap elements_in t.all) (few_all k n s es t.data_types t.is w.1)
          (omega (arith, next, many)) (own_weight (AtMostOne es) ts (parts_in es) e)
      few k n s (Nor es) ts e w =
          let t = from_true (all_types P here es) ts e in
          let r = emit_all Y P here k n s es in
          let next = nor_next (flat_clock Y here.path k) r.state (joined r.found) in
          let many = all_counted k n s es t.data_types t.is w.1 in
          after_truths (ap elements_in t.all) (few_all k n s es t.data_types t.is w.1)
          (omega (arith, next, many)) (own_weight (Nor es) ts (parts_in es) e)
      few k n s (Call f statics es) ts e w =
          let t = bound (operator_types P here (Node_named f statics)) _ ts e in
          let a = bound (all_types P here es) _ ts t.gives in
          let ks = call_clocks k (node_named P f) es in
          rw joins_next (after_calls (few_each ks (n + 1) s es a.value a.is w.1)
          (own_weight (Call f statics es) ts (parts_in es) e))
      few k n s (Iterate it (Node_named f statics) m es) ts e w =
          let c = bound (static_count P here m) _ ts e in
          let t = bound (operator_types P here (Node_named f statics)) _ ts c.gives in
          let a = bound (all_types P here es) _ ts t.gives in
          rw joins_next (after_one (few_all k (n + 1) s es a.value a.is w.1) (omega arith)
          (own_weight (Iterate it (Node_named f statics) m es) ts (parts_in es) e))
      few k n s (Iterate it (Symbol op) m es) ts e w =
          let c = bound (static_count P here m) _ ts e in
          let t = bound (operator_types P here (Symbol op)) _ ts c.gives in
          let a = bound (all_types P here es) _ ts t.gives in
          let r = emit_all Y P here k n s es in
          let next = symbol_next (flat_clock Y here.path k) op r.state it r.found in
          let many = all_counted k n s es a.value a.is w.1 in
          after_one (few_all k n s es a.value a.is w.1) (omega (arith, next, many))
          (own_weight (Iterate it (Symbol op) m es) ts (parts_in es) e)

      few_all :
          (k : Clock) (n : ℕ) (s : State) (es : Exprs) (ts : List DataType) →
          all_types P here es ≡ Some ts → AllHave (occurrences_in P here.node k n es) →
          IsFew s.next (emit_all Y P here k n s es).state.next (elements_in ts)
          (weight (parts_in es))
      few_all k n s Nil ts e w = record { few = omega (arith, ap elements_in (same_Some [] ts e)) }
      few_all k n s (Cons a es) ts e w =
          let i = first_of_all P here a es ts e in
          after_more (few k n s a (i.first ∷ []) i.is (fore _ _ w))
          (few_all k _ _ es i.rest i.others (aft _ _ w)) (omega (arith, ap elements_in i.all))
          (sum_by-append (expression_size P here) (parts a) (parts_in es))

      few_each :
          (ks : List Clock) (n : ℕ) (s : State) (es : Exprs) (ts : List DataType) →
          all_types P here es ≡ Some ts → AllHave (occurrences_each P here.node ks n es) →
          IsCheap s.next (emit_each Y P here ks n s es).state.next (weight (parts_in es))
      few_each ks n s Nil ts e w = record { few = omega arith }
      few_each [] n s (Cons a es) ts e w = record { few = omega arith }
      few_each (k ∷ ks) n s (Cons a es) ts e w =
          let i = first_of_all P here a es ts e in
          each_more (few k n s a (i.first ∷ []) i.is (fore _ _ w))
          (few_each ks _ _ es i.rest i.others (aft _ _ w))
          (sum_by-append (expression_size P here) (parts a) (parts_in es))

    -- ## Statements

    few_body :
        (n : ℕ) (s : State) (body : List Statement) →
        list_all (is_statement_typed P here) body ≡ true →
        AllHave (occurrences_of P here.node (right_sides P here.node n body)) →
        IsCheap s.next (emit_body Y P here n s body).next
        (weight (flat_map (λ s. parts (right_side s)) body))
    unfolding emit_body assert
    few_body n s [] e w = record { few = omega arith }
    few_body n s (Equation lefts a ∷ rest) e w =
        let typed = is_statement_typed P here (Equation lefts a) in
        let t = right_typed P here (Equation lefts a) (and_first typed _ e) in
        let k = statement_clock P here.node (Equation lefts a) in
        let x = emit Y P here k n s a in
        let qs = copied (flat_map (targets Y here.node here.path) lefts) x.found in
        each_more (few k n s a t.0 t.1 (fore _ _ w))
        (rw joins_next at (few_body (n + call_count a) (joins x.state qs []).state rest
        (and_second typed _ e) (aft _ _ w)))
        (sum_by-append (expression_size P here) (parts a)
        (flat_map (λ s. parts (right_side s)) rest))
    few_body n s (Assertion a ∷ rest) e w =
        let typed = is_statement_typed P here (Assertion a) in
        let t = right_typed P here (Assertion a) (and_first typed _ e) in
        let k = statement_clock P here.node (Assertion a) in
        let x = emit Y P here k n s a in
        each_more (few k n s a t.0 t.1 (fore _ _ w))
        (few_body (n + call_count a) (assert x) rest (and_second typed _ e) (aft _ _ w))
        (sum_by-append (expression_size P here) (parts a)
        (flat_map (λ s. parts (right_side s)) rest))

    -- the text of an instance takes few new elements
    pub few_here : (s : State) → is_typed P here ≡ true → AllHave (node_occurrences P here.node) →
        IsCheap s.next (emit_body Y P here 0 s here.node.body).next
        (weight (node_parts here.node))
    few_here s e w =
        few_body 0 s _ (and_second (list_all (is_clock_typed P here) (variables here.node)) _ e) w

-- ## A whole program

-- the number of elements of some variables is the sum of their widths
length-elements : (P : Program) (here : Instance) (ds : List Declaration) →
    length (flat_map (elements P here) ds) ≡ sum_by (width P here) ds
length-elements P here [] = refl
length-elements P here (d ∷ ds) =
    let all = length-append (elements P here d) (flat_map (elements P here) ds) in
    let first : length (elements P here d) ≡ width P here d =
    length-map (range_with_len 0 (width P here d)) _ ∙ length-range_with_len 0 (width P here d) in
    let rest = length-elements P here ds in
    let cons = sum_by-cons (width P here) d ds in
    omega (arith, all, first, rest, cons)

module _ (P : Program) (Y : Layout) (W : Instance → Occurrence → Type 0) where
  -- an expression of an instance has as many elements as its types, where this holds of its parts
  abbrev pub IsCounted : Instance → Type 0
  IsCounted here =
      (k : Clock) (n : ℕ) (s : State) (e : Expr) (ts : List DataType) →
      data_types P here e ≡ Some ts → Every (W here) (occurrences P here.node k n e) →
      length (emit Y P here k n s e).found ≡ elements_in ts

  -- a typed instance for whose occurrences `W` holds, and that is counted
  pub record IsWeighed (here : Instance) : Type 0 where
    pub typed : is_typed P here ≡ true
    pub holding : Every (W here) (node_occurrences P here.node)
    pub counted : IsCounted here

  few_instances :
      (s : State) (is : List Instance) → Every IsWeighed is →
      (emit_instances Y P s is).next + length (flat_map (instance_elements P) is)
      ≤ s.next + 5 * sum_by (instance_size P) is
  unfolding emit_instances
  few_instances s [] h = omega arith
  few_instances s (here ∷ is) h =
      let t = emit_body Y P here 0 s here.node.body in
      let few = few_here P here Y (W here) h.0.counted s h.0.typed h.0.holding in
      let rest = few_instances t is h.1 in
      let all = length-append (instance_elements P here) (flat_map (instance_elements P) is) in
      let own = length-elements P here (variables here.node) in
      let cons = sum_by-cons (instance_size P) here is in
      omega (arith, few, rest, all, own, cons)

  -- a flat program has at most five times as many elements as the size of its program
  pub few_elements :
      check_refusal P ≡ None →
      Every (λ here. Every (W here) (node_occurrences P here.node)) (instances P) →
      Every IsCounted (instances P) →
      (expanded Y P (length (program_elements P))).size ≤ 5 * size P
  unfolding program_elements
  few_elements checked holds counted =
      let n = length (flat_map (instance_elements P) (instances P)) in
      let all = few_instances (before_instances n) (instances P)
      (Every-map _ IsWeighed
      (λ here z. record { typed = z.0; holding = z.1.0; counted = z.1.1 }) (instances P)
      (Every-both (λ here. is_typed P here ≡ true) _ (instances P) (all_typed P checked)
      (Every-both (λ here. Every (W here) (node_occurrences P here.node)) IsCounted (instances P)
      holds counted))) in
      omega (arith, all)
