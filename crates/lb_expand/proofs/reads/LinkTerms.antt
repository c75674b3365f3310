-- The found elements of an expression come from the elements of the variables that it needs,
-- element by element, or are left by what its clock reads.
use Rattle.lb_expand.proofs.Words
use Words.{ApplyBinary, ApplyUnary, Array, ArrayIterator, Arrow, AtMostOne, Binary, BinaryOperator}
use Words.{Boolean, Call, Child, Cons, Constant, Current, DataType, Declaration, Element, Emitted}
use Words.{EmittedAll, Every, Expr, Exprs, Fby, Fill, FirstThen, FlatClock, Group, History, If, In}
use Words.{Index, Instance, Integer, Iterate, Join, Latest, Layout, List, Literal, Map, Name, Nil}
use Words.{Node_named, None, Nor, Not, Occurrence, On, Operation, Option, Path, Pre, Previous}
use Words.{Program, Red, Replicate, Sample, Slice, Some, State, Static, Symbol, Truth, Unary}
use Words.{Variable, When, [], add, all_needs, all_types, and_first, ap, arith, array_of, at, both}
use Words.{call_count, call_site, callee_of, chained, chosen_by, clock_or, clock_reads, common_type}
use Words.{data_types, declared_clock, either_or, elements, elements_named, emit, emit_all}
use Words.{emit_each, emit_name, emit_symbol, false, first_of_all, first_value, flat_clock}
use Words.{flat_map, found_name, from_one, from_truths, index_type, is_type, iterated, itself}
use Words.{join_type, joined, keep, length, length-map, list_all, listed, map, named, needs}
use Words.{negated, number, occurrences, occurrences_in, operator_types, output_elements}
use Words.{outputs_of, part_count, pos, push, reads, refl, same_Some, slice_type, static_count}
use Words.{subst, suc, sym, true, truth, variables, waits_for, zip2, ℕ, ◌*◌, ◌++◌, ◌+◌, ◌-◌, ◌<◌}
use Words.{◌>>=◌, ◌∙◌, ◌∷◌, ◌≡◌}
use Rattle.{lb_check.specs.Clocks.{Clock, clock_of}, lb_expand.proofs.emission.EmissionSteps.Any}
use Rattle.lb_expand.proofs.emission.EmissionSteps.{IsStep, all_step, any_joined, each_step}
use Rattle.lb_expand.proofs.emission.EmissionSteps.{emit_step, symbol_step}
use Rattle.lb_expand.proofs.reads.LinkSymbols.{iterated_pairs, joins_found, keep_equations}
use Rattle.lb_expand.proofs.reads.LinkSymbols.{keep_found, map_linked, red_linked, signed_wider}
use Rattle.lb_expand.proofs.reads.{LinkSymbols.symbol_out, LinkWords.{AllMeet, AreLinks, Gives}}
use Rattle.lb_expand.proofs.reads.LinkWords.{Link, New, Pairs, Waits, added, all_links}
use Rattle.lb_expand.proofs.reads.LinkWords.{at_most_one_gives, chained_gives, each_choice}
use Rattle.lb_expand.proofs.reads.LinkWords.{each_constant, each_first, each_latest, each_memory}
use Rattle.lb_expand.proofs.reads.LinkWords.{each_one, each_sample, each_two, memories, nor_gives}
use Rattle.lb_expand.proofs.reads.LinkWords.{pairs-append, pairs-copies, pairs-drop, pairs-joined}
use Rattle.lb_expand.proofs.reads.LinkWords.{pairs-take, passed, pushed, step, variable_links}
use Rattle.lb_expand.proofs.{solutions.Emission.joins_equations, widths.FoundWidths.add_count}
use Rattle.lb_expand.proofs.widths.{FoundWidths.as_many, TypeFacts.{alike, bound, elements_in}}
use Rattle.lb_expand.proofs.widths.TypeFacts.{from_true, one, red_of, truth_is, two}
use Rattle.lb_expand.proofs.widths.Widths.{AreVariablesWide, IsOccurrenceWide, IsTypedAt, called}
use Rattle.{lb_expand.proofs.widths.Widths.{placed, wide}, lb_flat.proofs.lists.Lists.Every-append}
use Rattle.lb_flat.proofs.lists.Lists.{Every-copies, Every-drop, Every-first, Every-joined}
use Rattle.lb_flat.proofs.lists.Lists.{Every-second, Every-take}

module _ (Y : Layout) (P : Program) (H : History)
    (same : (p : Path) (x : Name) → length (Y.places p x) ≡ length (H.columns p x))
    (IsAt : Element → ℕ → Type 0) (Under : ℕ → ℕ → Type 0) (Left : ℕ → Type 0)
    (here : Instance) where
  -- the elements of the variables of an instance have their numbers
  abbrev pub AreNumbered : Instance → Type 0
  AreNumbered c = (x : Name) → Pairs (λ i y. IsAt y i) (Y.places c.path x) (elements_named P c x)

  abbrev pub flat : Clock → FlatClock
  flat k = flat_clock Y here.path k

  -- a clock of the instance reads exactly the variables that it waits for
  pub record IsAwaited (k : Clock) : Type 0 where
    pub each : Every (λ y. (i : ℕ) × In i (clock_reads (flat k)) × IsAt y i) (waits_for P here k)
    pub back :
        Every (λ i. (y : Element) × In y (waits_for P here k) × IsAt y i) (clock_reads (flat k))

  -- where `Under t` holds of an element, it holds of all that its clock reads
  abbrev pub IsRunAt : Clock → ℕ → Type 0
  IsRunAt k i = (t : ℕ) → Under t i → Every (Under t) (clock_reads (flat k))

  abbrev pub RunOn : Clock → List ℕ → Type 0
  RunOn k is = Every (IsRunAt k) is

  -- elements that are found without a new equation run on the clock of the expression
  abbrev pub IsRunning : Clock → ℕ → Expr → Type 0
  IsRunning k n (Variable x) = RunOn k (Y.places here.path x)
  IsRunning k n (When a x sign) = k ≡ On (declared_clock here.node x) x sign
  IsRunning k n (Call f statics es) =
      (t : DataType) → data_types P here (Call f statics es) ≡ Some (t ∷ []) →
      RunOn k (flat_map (λ o. Y.places (Child here.path n 0) o.name) (outputs_of P here f))
  IsRunning k n (Iterate it (Node_named f statics) m es) =
      RunOn k
      (iterated (λ i x. Y.places (Child here.path n i) x) (number P here m) it
      (outputs_of P here f))
  IsRunning k n e = Unit {0}

  -- the condition on an expression itself, without its parts
  abbrev pub IsLinkable : Clock → ℕ → Expr → Type 0
  IsLinkable k n (When a x sign) = IsAwaited (On (declared_clock here.node x) x sign)
  IsLinkable k n (Current a) = IsAwaited (clock_or (clock_of P here.node a))
  IsLinkable k n (Call f statics es) =
      (c : Instance) → callee_of P here (call_site f statics) n 0 ≡ Some c → AreNumbered c
  IsLinkable k n (Iterate it (Node_named f statics) m es) =
      (0 < number P here m)
      × ((i : ℕ) → i < number P here m → (c : Instance) →
      callee_of P here (call_site f statics) n i ≡ Some c → AreNumbered c)
  IsLinkable k n e = Unit {0}

  -- the conditions on an occurrence: its types, what links it, and its clock
  pub record IsKnown (o : Occurrence) : Type 0 where
    pub typed : IsTypedAt P H here o
    pub linkable : IsLinkable o.clock o.calls_before o.expr
    pub running : IsRunning o.clock o.calls_before o.expr

  abbrev pub Parts : List Occurrence → Type 0
  Parts os = Every IsKnown os

  pub fore : (os os' : List Occurrence) → Parts (os ++ os') → Parts os
  fore os os' h = Every-first IsKnown os os' h

  pub aft : (os os' : List Occurrence) → Parts (os ++ os') → Parts os'
  aft os os' h = Every-second IsKnown os os' h

  -- all equations of a state meet; where they do behind what is emitted, they do before it
  abbrev pub Met : State → Type 0
  Met s = AllMeet IsAt Under Left s.equations

  abbrev pub Earlier : State → State → Type 0
  Earlier s t = Met t → Met s

  pub earlier : IsStep Any Earlier
  earlier = record {
    adding = record {
      none = λ s h. h;
      both = λ s t u a b h. a (b h);
      adds = λ k s os h. let n = added IsAt Under Left k s os h in n.before;
    };
    keeps = λ x h. subst (AllMeet IsAt Under Left) (keep_equations x) h;
    joining = λ s qs is q h. subst (AllMeet IsAt Under Left) (joins_equations s qs is) h;
  }

  pub term_before :
      (k : Clock) (n : ℕ) (s : State) (e : Expr) → Met (emit Y P here k n s e).state → Met s
  term_before = emit_step Any Earlier earlier Y (any_joined Y) P here

  pub all_before :
      (k : Clock) (n : ℕ) (s : State) (es : Exprs) → Met (emit_all Y P here k n s es).state → Met s
  all_before = all_step Any Earlier earlier Y (any_joined Y) P here

  pub each_before :
      (ks : List Clock) (n : ℕ) (s : State) (es : Exprs) →
      Met (emit_each Y P here ks n s es).state → Met s
  each_before = each_step Any Earlier earlier Y (any_joined Y) P here

  -- ## Clocks that are passed

  pub awaited :
      (k l : Clock) → IsAwaited l →
      Waits IsAt Under Left (flat k) (flat l) (waits_for P here l)
  awaited k l w = passed IsAt Under Left (flat k) (flat l) (waits_for P here l) w.each w.back

  -- ## Names and calls

  named_elements :
      (x : Name) (d : Declaration) → named (λ d. d.name) x (variables here.node) ≡ Some d →
      elements_named P here x ≡ elements P here d
  named_elements x d e = ap (listed (elements P here)) e

  constant_linked :
      (k : FlatClock) (s : State) (o : Operation) → reads o ≡ [] →
      AllMeet IsAt Under Left (add k s (o ∷ [])).state.equations →
      AreLinks IsAt Under Left k (add k s (o ∷ [])).found ([] ∷ [])
  constant_linked k s o e h =
      each_constant IsAt Under Left k o e _ (added IsAt Under Left k s (o ∷ []) h).new

  pub name_linked :
      (k : Clock) (s : State) (x : Name) (o : Option Declaration) →
      named (λ d. d.name) x (variables here.node) ≡ o → AreNumbered here →
      AllMeet IsAt Under Left (emit_name Y P here k s x o).state.equations →
      AreLinks IsAt Under Left (flat k) (emit_name Y P here k s x o).found
      (either_or (o >>= λ d. Some (itself (elements P here d))) ([] ∷ []))
  name_linked k s x None e numbered h = constant_linked _ s _ refl h
  name_linked k s x (Some d) e numbered h =
      let name = found_name x (variables here.node) d e in
      variable_links IsAt Under Left (flat k) (Y.places here.path d.name) (elements P here d)
      (subst (λ y. Pairs (λ i y. IsAt y i) (Y.places here.path y) (elements P here d)) (sym name)
      (subst (Pairs (λ i y. IsAt y i) (Y.places here.path x)) (named_elements x d e)
      (numbered x)))

  -- the elements of an output of an instance that is called have their numbers
  pub outputs_numbered :
      (f : Name) (statics : List Static) (n i : ℕ) (c : Instance) →
      callee_of P here (call_site f statics) n i ≡ Some c → c.path ≡ Child here.path n i →
      AreNumbered c → (x : Name) →
      Pairs (λ i y. IsAt y i) (Y.places (Child here.path n i) x)
      (output_elements P here f statics n i x)
  outputs_numbered f statics n i c e path numbered x =
      subst (λ p. Pairs (λ i y. IsAt y i) (Y.places p x) (output_elements P here f statics n i x))
      path
      (subst (Pairs (λ i y. IsAt y i) (Y.places c.path x))
      (sym (ap (listed (λ callee. elements_named P callee x)) e)) (numbered x))

  pub each_output :
      (f : Name) (statics : List Static) (n : ℕ) →
      ((x : Name) → Pairs (λ i y. IsAt y i) (Y.places (Child here.path n 0) x)
      (output_elements P here f statics n 0 x)) → (outs : List Declaration) →
      Pairs (λ i y. IsAt y i) (flat_map (λ o. Y.places (Child here.path n 0) o.name) outs)
      (flat_map (λ o. output_elements P here f statics n 0 o.name) outs)
  each_output f statics n h [] = tt
  each_output f statics n h (o ∷ outs) =
      pairs-append (λ i y. IsAt y i) _ _ _ _ (h o.name) (each_output f statics n h outs)

  -- ## Clocks of what is found

  pub added_runs :
      (k : Clock) (s : State) (os : List Operation) →
      AllMeet IsAt Under Left (add (flat k) s os).state.equations →
      RunOn k (add (flat k) s os).found
  added_runs k s os h =
      let n = added IsAt Under Left (flat k) s os h in from (add (flat k) s os).found os n.new
    where
      from : (is : List ℕ) (os : List Operation) →
          Pairs (New IsAt Under Left (flat k)) is os → RunOn k is
      from [] [] n = tt
      from [] (o ∷ os) n = absurd n
      from (i ∷ is) [] n = absurd n
      from (i ∷ is) (o ∷ os) n = (n.0.clock, from is os n.1)

  pub name_runs :
      (k : Clock) (s : State) (x : Name) (o : Option Declaration) →
      named (λ d. d.name) x (variables here.node) ≡ o → RunOn k (Y.places here.path x) →
      AllMeet IsAt Under Left (emit_name Y P here k s x o).state.equations →
      RunOn k (emit_name Y P here k s x o).found
  name_runs k s x None e r h = added_runs k s _ h
  name_runs k s x (Some d) e r h =
      let name = found_name x (variables here.node) d e in
      rw name r

  chained_runs :
      (k : Clock) (op : BinaryOperator) (s : State) (init : ℕ) (ys : List ℕ) →
      AllMeet IsAt Under Left (chained (flat k) op s init ys).state.equations →
      RunOn k (init ∷ []) → RunOn k (chained (flat k) op s init ys).found
  unfolding chained
  chained_runs k op s init [] h r = r
  chained_runs k op s init (y ∷ ys) h r =
      let p = pushed IsAt Under Left _ s _ (chained_gives IsAt Under Left _ op _ _ ys h).before in
      chained_runs k op (push (flat k) s (ApplyBinary op init y)) s.next ys h (p.clock, tt)

  pub symbol_runs :
      (k : Clock) (op : BinaryOperator) (s : State) (it : ArrayIterator)
      (found : List (List ℕ)) →
      AllMeet IsAt Under Left (emit_symbol (flat k) op s it found).state.equations →
      Every (RunOn k) found → RunOn k (emit_symbol (flat k) op s it found).found
  symbol_runs k op s Map (x ∷ (y ∷ [])) h r = added_runs k s (zip2 (ApplyBinary op) x y) h
  symbol_runs k op s Red ((i ∷ []) ∷ (ys ∷ [])) h r = chained_runs k op s i ys h r.0
  symbol_runs k op s _ _ h r = tt

  pub negated_runs :
      (k : Clock) (x : Emitted) →
      AllMeet IsAt Under Left (negated (flat k) x).state.equations →
      RunOn k (negated (flat k) x).found
  negated_runs k x h = added_runs k x.state (map (ApplyUnary Not) x.found) h

  -- ## Forms with one operand, and with two

  one_linked :
      (k : FlatClock) (x : Emitted) (yss : List (List Element)) (f : ℕ → Operation) →
      ((i : ℕ) → reads (f i) ≡ i ∷ []) → (Met x.state → AreLinks IsAt Under Left k x.found yss) →
      Met (add k x.state (map f x.found)).state →
      AreLinks IsAt Under Left k (add k x.state (map f x.found)).found yss
  one_linked k x yss f e part h =
      let n = added IsAt Under Left k x.state (map f x.found) h in
      each_one IsAt Under Left k f e _ x.found yss n.new (part n.before)

  two_linked :
      (k : FlatClock) (x y : Emitted) (yss zss : List (List Element)) (f : ℕ → ℕ → Operation) →
      ((i j : ℕ) → reads (f i j) ≡ i ∷ j ∷ []) → Earlier x.state y.state →
      (Met x.state → AreLinks IsAt Under Left k x.found yss) →
      (Met y.state → AreLinks IsAt Under Left k y.found zss) →
      Met (add k y.state (zip2 f x.found y.found)).state →
      AreLinks IsAt Under Left k (add k y.state (zip2 f x.found y.found)).found (both yss zss)
  two_linked k x y yss zss f e before left right h =
      let n = added IsAt Under Left k _ _ h in
      each_two IsAt Under Left k f e _ _ _ yss zss n.new (left (before n.before)) (right n.before)

  keep_linked :
      (x : Emitted) (k : FlatClock) (yss : List (List Element)) →
      AreLinks IsAt Under Left k x.found yss → AreLinks IsAt Under Left k (keep x).found yss
  unfolding keep
  keep_linked x k yss l = l

  -- one element that comes from all elements of some expressions
  gathered_linked :
      (k : FlatClock) (x : EmittedAll) (r : Emitted) (ysss : List (List (List Element))) →
      (Met x.state → Pairs (AreLinks IsAt Under Left k) x.found ysss) →
      Gives IsAt Under Left k x.state r (joined x.found) →
      AreLinks IsAt Under Left k r.found (joined (joined ysss) ∷ [])
  gathered_linked k x r ysss part g =
      let all = all_links IsAt Under Left k (joined x.found) (joined ysss)
      (pairs-joined (Link IsAt Under Left k) x.found ysss (part g.before)) in
      subst (λ is. AreLinks IsAt Under Left k is (joined (joined ysss) ∷ [])) (sym g.is_found) (
        step IsAt Under Left k g.element (joined x.found) (joined (joined ysss)) g.comes all,
        tt,
      )

  module _ (variables_wide : AreVariablesWide P H here here) (numbered : AreNumbered here) where
    -- as many elements as the types say
    pub counted :
        (k : Clock) (n : ℕ) (s : State) (e : Expr) (ts : List DataType) →
        data_types P here e ≡ Some ts →
        Every (IsOccurrenceWide P H here) (occurrences P here.node k n e) →
        length (emit Y P here k n s e).found ≡ elements_in ts
    counted k n s e ts is w =
        as_many Y P H here same k n s e ∙ wide P H here variables_wide k n e ts is w

    -- a condition has one element
    pub condition_one :
        (k : Clock) (n : ℕ) (s : State) (c a b : Expr) → IsTypedAt P H here (at k n (If c a b)) →
        length (emit Y P here k n s c).found ≡ 1
    condition_one k n s c a b t =
        let m = n + call_count c in
        let u = bound (from_truths (from_one (data_types P here c) Some)) _ t.types t.are in
        let truths = from_true (from_one (data_types P here c) Some) u.value u.is in
        let z = one (data_types P here c) Some truths.data_types truths.is in
        let condition : is_type truth z.data_type ≡ true =
        and_first (is_type truth z.data_type) true
        (ap (λ us. list_all (is_type truth) us)
        (sym (z.all ∙ ap (λ u. u ∷ []) (sym (same_Some _ _ z.gives)))) ∙ truths.truths) in
        counted k n s c _ z.is (Every-first (IsOccurrenceWide P H here) _ _ t.parts.1)
        ∙ (ap (λ m. m + 0) (truth_is _ condition) ∙ omega arith)

    -- both operands of `fby` have equally many elements
    pub sides_same :
        (k : Clock) (n : ℕ) (s t : State) (a b : Expr) → IsTypedAt P H here (at k n (Fby a b)) →
        length (emit Y P here k n s a).found
        ≡ length (emit Y P here k (n + call_count a) t b).found
    sides_same k n s t a b h =
        let m = n + call_count a in
        let i = two (data_types P here a) (data_types P here b) common_type h.types h.are in
        let like = alike i.first i.second i.result i.gives in
        counted k n s a (i.first ∷ []) i.is_first
        (Every-first (IsOccurrenceWide P H here) _ _ h.parts.1)
        ∙ (ap (λ m. m + 0) (like.first ∙ sym like.second)
        ∙ sym
        (counted k m t b (i.second ∷ []) i.is_second
        (Every-second (IsOccurrenceWide P H here) _ _ h.parts.1)))

    -- a reduction by a symbol has one element
    pub red_some :
        (k : Clock) (n : ℕ) (s : State) (op : BinaryOperator) (m : Static) (es : Exprs) →
        IsTypedAt P H here (at k n (Iterate Red (Symbol op) m es)) →
        0 < length (emit Y P here k n s (Iterate Red (Symbol op) m es)).found
    red_some k n s op m es t =
        let c = bound (static_count P here m) _ t.types t.are in
        let o = bound (operator_types P here (Symbol op)) _ t.types c.gives in
        let a = bound (all_types P here es) _ t.types o.gives in
        let r = red_of c.value o.value.0 o.value.1 a.value t.types a.gives in
        let one = ap elements_in (r.ts_is ∙ sym r.outs_is) ∙ symbol_out op o.value o.is in
        omega (arith, counted k n s (Iterate Red (Symbol op) m es) t.types t.are t.parts, one)

    -- a call finds elements of variables, whatever the clock
    pub call_linked :
        (l : FlatClock) (k : Clock) (n : ℕ) (s : State) (f : Name) (statics : List Static)
        (es : Exprs) → IsKnown (at k n (Call f statics es)) →
        AreLinks IsAt Under Left l (emit Y P here k n s (Call f statics es)).found
        (needs P here n (Call f statics es))
    unfolding emit needs
    call_linked l k n s f statics es known =
        let t = known.typed in
        let o = bound (operator_types P here (Node_named f statics)) _ t.types t.are in
        let c = called P here f statics o.value o.is in
        let there = placed P here f statics c.callee c.is in
        let callee : Instance = record c.callee { path = Child here.path n 0 } in
        let output = outputs_numbered f statics n 0 callee (there.at n 0) refl
        (known.linkable callee (there.at n 0)) in
        rw joins_found
        (variable_links IsAt Under Left l _ _
        (each_output f statics n output (outputs_of P here f)))

    -- and so does an iterator of a node
    pub iterator_linked :
        (l : FlatClock) (k : Clock) (n : ℕ) (s : State) (it : ArrayIterator) (f : Name)
        (statics : List Static) (m : Static) (es : Exprs) →
        IsKnown (at k n (Iterate it (Node_named f statics) m es)) →
        AreLinks IsAt Under Left l
        (emit Y P here k n s (Iterate it (Node_named f statics) m es)).found
        (needs P here n (Iterate it (Node_named f statics) m es))
    unfolding emit needs
    iterator_linked l k n s it f statics m es known =
        let t = known.typed in
        let size = bound (static_count P here m) _ t.types t.are in
        let o = bound (operator_types P here (Node_named f statics)) _ t.types size.gives in
        let c = called P here f statics o.value o.is in
        let there = placed P here f statics c.callee c.is in
        let callee : ℕ → Instance = λ i. record c.callee { path = Child here.path n i } in
        rw joins_found
        (variable_links IsAt Under Left l _ _
        (iterated_pairs (λ i y. IsAt y i) (λ i x. Y.places (Child here.path n i) x)
        (output_elements P here f statics n) (number P here m)
        (λ i lt x. outputs_numbered f statics n i (callee i) (there.at n i) refl
        (known.linkable.1 i lt (callee i) (there.at n i)) x) known.linkable.0 it
        (outputs_of P here f)))

    mutual
      unfolding emit needs

      -- the found elements come from what the expression needs
      pub linked :
          (k : Clock) (n : ℕ) (s : State) (e : Expr) → Parts (occurrences P here.node k n e) →
          Met (emit Y P here k n s e).state →
          AreLinks IsAt Under Left (flat k) (emit Y P here k n s e).found (needs P here n e)
      linked k n s (Literal m) p h = constant_linked (flat k) s (Constant (Integer (pos m))) refl h
      linked k n s (Truth b) p h = constant_linked (flat k) s (Constant (Boolean b)) refl h
      linked k n s (Variable x) p h =
          name_linked k s x (named (λ d. d.name) x (variables here.node)) refl numbered h
      linked k n s (Group a) p h = linked k n s a p h
      linked k n s (Unary op a) p h =
          one_linked (flat k) (emit Y P here k n s a) (needs P here n a) (ApplyUnary op)
          (λ i. refl) (linked k n s a p.1) h
      linked k n s (Binary op a b) p h =
          let m = n + call_count a in
          let x = emit Y P here k n s a in
          two_linked (flat k) x (emit Y P here k m x.state b) (needs P here n a) (needs P here m b)
          (ApplyBinary op) (λ i j. refl) (term_before k m x.state b) (linked k n s a (fore _ _ p.1))
          (linked k m x.state b (aft _ _ p.1)) h
      linked k n s (If c a b) p h =
          let na = n + call_count c in
          let nb = na + call_count a in
          let oa = occurrences P here.node k na a in
          let ob = occurrences P here.node k nb b in
          let z = emit Y P here k n s c in
          let x = emit Y P here k na z.state a in
          let y = emit Y P here k nb x.state b in
          let new = added IsAt Under Left (flat k) y.state (chosen_by z.found x.found y.found) h in
          let met = term_before k nb x.state b new.before in
          each_choice IsAt Under Left (flat k) z.found _ x.found y.found (needs P here n c)
          (needs P here na a) (needs P here nb b) (condition_one k n s c a b p.0.typed) new.new
          (linked k n s c (fore _ (oa ++ ob) p.1) (term_before k na z.state a met))
          (linked k na z.state a (fore oa ob (aft _ (oa ++ ob) p.1)) met)
          (linked k nb x.state b (aft oa ob (aft _ (oa ++ ob) p.1)) new.before)
      linked k n s (Arrow a b) p h =
          let m = n + call_count a in
          let x = emit Y P here k n s a in
          two_linked (flat k) x (emit Y P here k m x.state b) (needs P here n a) (needs P here m b)
          (FirstThen false) (λ i j. refl) (term_before k m x.state b)
          (linked k n s a (fore _ _ p.1)) (linked k m x.state b (aft _ _ p.1)) h
      linked k n s (Fby a b) p h =
          let x = emit Y P here k n s a in
          let before = map (Previous first_value) (keep _).found in
          let z = add (flat k) (keep _).state before in
          let new = added IsAt Under Left (flat k) z.state (zip2 (FirstThen false) x.found z.found)
          h in
          let memory = added IsAt Under Left (flat k) (keep _).state before new.before in
          let met = term_before k (n + call_count a) x.state b (earlier.keeps _ memory.before) in
          let many : length x.found ≡ length z.found =
          sides_same k n s x.state a b p.0.typed
          ∙ sym
          (add_count (flat k) (keep _).state before
          ∙ (length-map (keep _).found (Previous first_value) ∙ ap length (keep_found _))) in
          each_first IsAt Under Left (flat k) (FirstThen false) (λ i j. refl) _ x.found z.found
          (needs P here n a) many new.new (linked k n s a (fore _ _ p.1) met)
          (memories IsAt Under Left (flat k) (Previous first_value) (λ i. refl) z.found
          (keep _).found memory.new)
      linked k n s (Pre a) p h =
          let new = added IsAt Under Left (flat k) (keep _).state
          (map (Previous first_value) (keep _).found) h in
          each_memory IsAt Under Left (flat k) (Previous first_value) (λ i. refl) (flat k) _
          (keep _).found (needs P here n a) new.new
          (keep_linked _ (flat k) _ (linked k n s a p.1 (earlier.keeps _ new.before)))
      linked k n s (When a y sign) p h =
          let own = declared_clock here.node y in
          let x = emit Y P here own n s a in
          let new = added IsAt Under Left (flat (On own y sign)) x.state (map Sample x.found) h in
          each_sample IsAt Under Left Sample (λ i. refl) (flat k) (flat (On own y sign)) (flat own)
          (waits_for P here (On own y sign)) (awaited k (On own y sign) p.0.linkable)
          (signed_wider Left (flat own) sign (Y.signs here.path y)) _ x.found (needs P here n a)
          new.new (linked own n s a p.1 new.before)
      linked k n s (Current a) p h =
          let new = added IsAt Under Left (flat k) (keep _).state
          (map (Latest first_value) (keep _).found) h in
          let kept = earlier.keeps _ new.before in
          let i = one (data_types P here a) Some p.0.typed.types p.0.typed.are in
          let run = runs _ n s a i.data_type i.is p.1 kept in
          each_latest IsAt Under Left (flat k) (Latest first_value) (λ i. refl) (flat _)
          (waits_for P here _) (awaited k _ p.0.linkable) _ (keep _).found (needs P here n a)
          new.new (keep_linked _ (flat _) _ (linked _ n s a p.1 kept))
          (subst (RunOn _) (sym (keep_found _)) run)
      linked k n s (Replicate a m) p h =
          pairs-copies (Link IsAt Under Left (flat k)) (number P here m) _ _ (linked k n s a p.1 h)
      linked k n s (Index a i) p h =
          pairs-take (Link IsAt Under Left (flat k)) (part_count P here a) _ _
          (pairs-drop (Link IsAt Under Left (flat k)) (part_count P here a * number P here i) _ _
          (linked k n s a p.1 h))
      linked k n s (Slice a i j) p h =
          pairs-take (Link IsAt Under Left (flat k))
          (part_count P here a * (suc (number P here j) - number P here i)) _ _
          (pairs-drop (Link IsAt Under Left (flat k)) (part_count P here a * number P here i) _ _
          (linked k n s a p.1 h))
      linked k n s (Join a b) p h =
          let m = n + call_count a in
          let x = emit Y P here k n s a in
          pairs-append (Link IsAt Under Left (flat k)) _ _ _ _
          (linked k n s a (fore _ _ p.1) (term_before k m x.state b h))
          (linked k m x.state b (aft _ _ p.1) h)
      linked k n s (Array es) p h =
          pairs-joined (Link IsAt Under Left (flat k)) _ _ (all_linked k n s es p.1 h)
      linked k n s (AtMostOne es) p h =
          let x = emit_all Y P here k n s es in
          let g = at_most_one_gives IsAt Under Left (flat k) x.state (joined x.found) h in
          gathered_linked (flat k) x _ (all_needs P here n es) (all_linked k n s es p.1) g
      linked k n s (Nor es) p h =
          let x = emit_all Y P here k n s es in
          let g = nor_gives IsAt Under Left (flat k) x.state (joined x.found) h in
          gathered_linked (flat k) x _ (all_needs P here n es) (all_linked k n s es p.1) g
      linked k n s (Call f statics es) p h = call_linked (flat k) k n s f statics es p.0
      linked k n s (Iterate it (Node_named f statics) m es) p h =
          iterator_linked (flat k) k n s it f statics m es p.0
      linked k n s (Iterate Map (Symbol op) m es) p h =
          let r = emit_all Y P here k n s es in
          let met = symbol_step Earlier earlier.adding (flat k) op r.state Map r.found h in
          map_linked IsAt Under Left (flat k) op r.state r.found (all_needs P here n es)
          (all_linked k n s es p.1 met) h
      linked k n s (Iterate Red (Symbol op) m es) p h =
          let r = emit_all Y P here k n s es in
          let met = symbol_step Earlier earlier.adding (flat k) op r.state Red r.found h in
          red_linked IsAt Under Left (flat k) op r.state r.found (all_needs P here n es)
          (all_linked k n s es p.1 met) (red_some k n s op m es p.0.typed) h
      linked k n s (Iterate Fill (Symbol op) m es) p h = tt

      pub all_linked :
          (k : Clock) (n : ℕ) (s : State) (es : Exprs) →
          Parts (occurrences_in P here.node k n es) → Met (emit_all Y P here k n s es).state →
          Pairs (AreLinks IsAt Under Left (flat k)) (emit_all Y P here k n s es).found
          (all_needs P here n es)
      all_linked k n s Nil p h = tt
      all_linked k n s (Cons e es) p h =
          let m = n + call_count e in
          let x = emit Y P here k n s e in (
            linked k n s e (fore _ _ p) (all_before k m x.state es h),
            all_linked k m x.state es (aft _ _ p) h,
          )

      -- the found elements run on the clock of the expression, where it has one result
      pub runs :
          (k : Clock) (n : ℕ) (s : State) (e : Expr) (t : DataType) →
          data_types P here e ≡ Some (t ∷ []) → Parts (occurrences P here.node k n e) →
          AllMeet IsAt Under Left (emit Y P here k n s e).state.equations →
          RunOn k (emit Y P here k n s e).found
      runs k n s (Literal m) t is p h = added_runs k s (Constant (Integer (pos m)) ∷ []) h
      runs k n s (Truth b) t is p h = added_runs k s (Constant (Boolean b) ∷ []) h
      runs k n s (Variable x) t is p h =
          name_runs k s x (named (λ d. d.name) x (variables here.node)) refl p.0.running h
      runs k n s (Group a) t is p h = runs k n s a t is p h
      runs k n s (Unary op a) t is p h = added_runs k (emit Y P here k n s a).state _ h
      runs k n s (Binary op a b) t is p h =
          let x = emit Y P here k n s a in
          added_runs k (emit Y P here k (n + call_count a) x.state b).state _ h
      runs k n s (If c a b) t is p h =
          let z = emit Y P here k n s c in
          let x = emit Y P here k (n + call_count c) z.state a in
          let y = emit Y P here k (n + call_count c + call_count a) x.state b in
          added_runs k y.state (chosen_by z.found x.found y.found) h
      runs k n s (Arrow a b) t is p h =
          let x = emit Y P here k n s a in
          added_runs k (emit Y P here k (n + call_count a) x.state b).state _ h
      runs k n s (Fby a b) t is p h =
          let y = keep (emit Y P here k (n + call_count a) (emit Y P here k n s a).state b) in
          added_runs k (add (flat k) y.state (map (Previous first_value) y.found)).state _ h
      runs k n s (Pre a) t is p h = added_runs k (keep (emit Y P here k n s a)).state _ h
      runs k n s (When a y sign) t is p h =
          let own = declared_clock here.node y in
          let x = emit Y P here own n s a in
          subst (λ l. RunOn l (add (flat (On own y sign)) x.state (map Sample x.found)).found)
          (sym p.0.running) (added_runs (On own y sign) x.state (map Sample x.found) h)
      runs k n s (Current a) t is p h =
          added_runs k (keep (emit Y P here (clock_or (clock_of P here.node a)) n s a)).state _ h
      runs k n s (Replicate a m) t is p h =
          let c = bound (static_count P here m) _ (t ∷ []) is in
          let i = one (data_types P here a) (array_of c.value) (t ∷ []) c.gives in
          Every-copies (IsRunAt k) (number P here m) (emit Y P here k n s a).found
          (runs k n s a i.data_type i.is p.1 h)
      runs k n s (Index a j) t is p h =
          let c = bound (static_count P here j) _ (t ∷ []) is in
          let i = one (data_types P here a) (index_type c.value) (t ∷ []) c.gives in
          Every-take (IsRunAt k) (part_count P here a) _
          (Every-drop (IsRunAt k) (part_count P here a * number P here j)
          (emit Y P here k n s a).found (runs k n s a i.data_type i.is p.1 h))
      runs k n s (Slice a j l) t is p h =
          let c = bound (static_count P here j) _ (t ∷ []) is in
          let d = bound (static_count P here l) _ (t ∷ []) c.gives in
          let i = one (data_types P here a) (slice_type c.value d.value) (t ∷ []) d.gives in
          Every-take (IsRunAt k) (part_count P here a * (suc (number P here l) - number P here j)) _
          (Every-drop (IsRunAt k) (part_count P here a * number P here j)
          (emit Y P here k n s a).found (runs k n s a i.data_type i.is p.1 h))
      runs k n s (Join a b) t is p h =
          let m = n + call_count a in
          let x = emit Y P here k n s a in
          let i = two (data_types P here a) (data_types P here b) join_type (t ∷ []) is in
          Every-append (IsRunAt k) x.found (emit Y P here k m x.state b).found
          (runs k n s a i.first i.is_first (fore _ _ p.1) (term_before k m x.state b h))
          (runs k m x.state b i.second i.is_second (aft _ _ p.1) h)
      runs k n s (Array es) t is p h =
          let b = bound (all_types P here es) _ (t ∷ []) is in
          Every-joined (IsRunAt k) (emit_all Y P here k n s es).found
          (all_runs k n s es b.value b.is p.1 h)
      runs k n s (AtMostOne es) t is p h = negated_runs k _ h
      runs k n s (Nor es) t is p h = negated_runs k _ h
      runs k n s (Call f statics es) t is p h = rw joins_found (p.0.running t is)
      runs k n s (Iterate it (Node_named f statics) m es) t is p h = rw joins_found p.0.running
      runs k n s (Iterate Map (Symbol op) m es) t is p h =
          let c = bound (static_count P here m) _ (t ∷ []) is in
          let o = bound (operator_types P here (Symbol op)) _ (t ∷ []) c.gives in
          let a = bound (all_types P here es) _ (t ∷ []) o.gives in
          let x = emit_all Y P here k n s es in
          let met = symbol_step Earlier earlier.adding (flat k) op x.state Map x.found h in
          symbol_runs k op x.state Map x.found h (all_runs k n s es a.value a.is p.1 met)
      runs k n s (Iterate Red (Symbol op) m es) t is p h =
          let c = bound (static_count P here m) _ (t ∷ []) is in
          let o = bound (operator_types P here (Symbol op)) _ (t ∷ []) c.gives in
          let a = bound (all_types P here es) _ (t ∷ []) o.gives in
          let x = emit_all Y P here k n s es in
          let met = symbol_step Earlier earlier.adding (flat k) op x.state Red x.found h in
          symbol_runs k op x.state Red x.found h (all_runs k n s es a.value a.is p.1 met)
      runs k n s (Iterate Fill (Symbol op) m es) t is p h = tt

      all_runs :
          (k : Clock) (n : ℕ) (s : State) (es : Exprs) (ts : List DataType) →
          all_types P here es ≡ Some ts → Parts (occurrences_in P here.node k n es) →
          AllMeet IsAt Under Left (emit_all Y P here k n s es).state.equations →
          Every (RunOn k) (emit_all Y P here k n s es).found
      all_runs k n s Nil ts is p h = tt
      all_runs k n s (Cons e es) ts is p h =
          let m = n + call_count e in
          let x = emit Y P here k n s e in
          let f = first_of_all P here e es ts is in (
            runs k n s e f.first f.is (fore _ _ p) (all_before k m x.state es h),
            all_runs k m x.state es f.rest f.others (aft _ _ p) h,
          )
