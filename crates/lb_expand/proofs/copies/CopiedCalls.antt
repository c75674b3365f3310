-- The copies that an expression emits match the definitions of the inputs of its callees.
use Rattle.lb_expand.proofs.Words
use Words.{Array, ArrayIterator, Arrow, AtMostOne, Binary, Call, Child, Cons, Copy, Current}
use Words.{DataType, Declaration, Definition, Element, Emitted, Every, Every-at, Every-from, Expr}
use Words.{Exprs, Fby, Fill, FlatClock, FlatEquation, Given, Group, History, If, In, Index}
use Words.{Instance, Iterate, Join, Layout, List, Literal, Map, Name, Nil, Node, Node_named, None}
use Words.{Nor, Occurrence, Operation, Option, Path, Pre, Program, Red, Replicate, Slice, Some}
use Words.{State, Static, Stream, Symbol, Truth, Unary, Variable, When, [], accumulated, add}
use Words.{all_needs, all_streams, all_types, ap, append-nil, append_assoc, argument_streams, arith}
use Words.{at, base_clock, call_clocks, call_copies, call_count, call_definitions, call_site}
use Words.{callee_of, copied, declared_clock, defined_as, drop, elements, emit, emit_all, emit_each}
use Words.{emit_name, first_of_all, flat_clock, flat_map, flat_map-append, heads_same, in_either}
use Words.{in_first, in_second, inl, inr, iterator_copies, iterator_inputs, itself, joined, keep}
use Words.{length, listed, map, named, needs, node_named, number, occurrences, occurrences_each}
use Words.{occurrences_in, operator_types, outer, output_elements, part, range_with_len, received}
use Words.{refl, static_count, subst, suc, sym, tails_same, take, targets, variables, zero, ℕ, ◌*◌}
use Words.{◌++◌, ◌+◌, ◌/◌, ◌<◌, ◌∙◌, ◌∷◌, ◌≡◌, ◌≤◌, ◌⊎◌}
use Rattle.lb_check.specs.{Clocks.{Clock, given_inputs}, Needs.input_definitions}
use Rattle.lb_expand.proofs.{copies.GivenCalls.clocks_enough, emission.EmissionSteps.IsAdding}
use Rattle.lb_expand.proofs.emission.EmissionSteps.{add_copies, at_most_one_copies}
use Rattle.lb_expand.proofs.emission.EmissionSteps.{at_most_one_step, keep_copies, nor_copies}
use Rattle.lb_expand.proofs.emission.EmissionSteps.{nor_step, symbol_copies, symbol_step}
use Rattle.lb_expand.proofs.lists.Lists.{SomeOf, some_first, some_of_in, some_second}
use Rattle.lb_expand.proofs.reads.{LinkSymbols.keep_equations, LinkTerms.AreNumbered}
use Rattle.lb_expand.proofs.reads.LinkTerms.{IsKnown, all_before, all_linked, each_before, earlier}
use Rattle.lb_expand.proofs.reads.LinkTerms.{linked, outputs_numbered, term_before}
use Rattle.lb_expand.proofs.reads.LinkWords.{AllMeet, AreLinks, Link, Pairs, added, pairs-append}
use Rattle.lb_expand.proofs.reads.LinkWords.{pairs-count, pairs-drop, pairs-pieces, pairs-take}
use Rattle.lb_expand.proofs.{reads.LinkWords.variable_links, solutions.Emission.joins_copies}
use Rattle.lb_expand.proofs.solutions.{Emission.joins_equations, Placing.AreAsWide}
use Rattle.lb_expand.proofs.widths.FoundWidths.{all_as_many, as_many, length-inputs}
use Rattle.lb_expand.proofs.widths.{PlacedCalls.{call_as_wide, iterator_as_wide}, TypeFacts.bound}
use Rattle.lb_expand.proofs.widths.Widths.{AreVariablesWide, IsOccurrenceWide, IsTypedAt, called}
use Rattle.{lb_expand.proofs.widths.Widths.placed, lb_flat.proofs.lists.Lists.Every-append}
use Rattle.lb_flat.proofs.lists.Lists.{Every-first, Every-map, Every-of_range, Every-second}

-- The copies that an expression emits match the definitions of the inputs of its callees: each copy
-- is such a definition, and each definition has its copy.

some_moved :
    {A : Type 0} (Q : A → Type 0) (xs ys : List A) → ((x : A) → In x xs → In x ys) →
    SomeOf Q xs → SomeOf Q ys
some_moved Q [] ys f g = absurd g
some_moved Q (x ∷ xs) ys f (inl q) = some_of_in Q ys x (f x (inl refl)) q
some_moved Q (x ∷ xs) ys f (inr g) = some_moved Q xs ys (λ y i. f y (inr i)) g

-- ## Two lists whose items match

module _ {A B : Type 0} (R : A → B → Type 0) where
  -- each item of `xs` is related to one of `ys`, and each item of `ys` to one of `xs`
  pub record AreMatched (xs : List A) (ys : List B) : Type 0 where
    pub first : Every (λ x. SomeOf (R x) ys) xs
    pub second : Every (λ y. SomeOf (λ x. R x y) xs) ys

  pub matched-none : AreMatched [] []
  matched-none = record { first = tt; second = tt }

  pub matched-append :
      (xs us : List A) (ys vs : List B) → AreMatched xs ys → AreMatched us vs →
      AreMatched (xs ++ us) (ys ++ vs)
  matched-append xs us ys vs h g = record {
    first =
        Every-append _ xs us
        (Every-map _ _ (λ x s. some_first (R x) ys vs s) xs h.first)
        (Every-map _ _ (λ x s. some_second (R x) ys vs s) us g.first);
    second =
        Every-append _ ys vs
        (Every-map _ _ (λ y s. some_first (λ x. R x y) xs us s) ys h.second)
        (Every-map _ _ (λ y s. some_second (λ x. R x y) xs us s) vs g.second);
  }

  -- a list matches `ys'` if it matches `ys`, and both have the same items
  pub matched-moved :
      (xs : List A) (ys ys' : List B) → AreMatched xs ys → ((y : B) → In y ys → In y ys') →
      ((y : B) → In y ys' → In y ys) → AreMatched xs ys'
  matched-moved xs ys ys' h there back = record {
    first = Every-map _ _ (λ x s. some_moved (R x) ys ys' there s) xs h.first;
    second =
        Every-from _ ys' (λ y i. Every-at (λ y. SomeOf (λ x. R x y) xs) ys y h.second (back y i));
  }

  -- if `xs` matches `ys` and `us` matches `vs`, then `xs ++ us` matches `vs ++ ys`
  pub matched-crossed :
      (xs us : List A) (ys vs : List B) → AreMatched xs ys → AreMatched us vs →
      AreMatched (xs ++ us) (vs ++ ys)
  matched-crossed xs us ys vs h g =
      matched-moved (xs ++ us) (ys ++ vs) (vs ++ ys) (matched-append xs us ys vs h g)
      (λ y i. crossed y ys vs (in_either y ys vs i)) (λ y i. crossed y vs ys (in_either y vs ys i))
    where
      crossed : (y : B) (ys vs : List B) → In y ys ⊎ In y vs → In y (vs ++ ys)
      crossed y ys vs (inl i) = in_second y vs ys i
      crossed y ys vs (inr i) = in_first y vs ys i

  pub matched-pairs : (xs : List A) (ys : List B) → Pairs R xs ys → AreMatched xs ys
  matched-pairs [] [] h = matched-none
  matched-pairs (x ∷ xs) (y ∷ ys) h =
      let rest = matched-pairs xs ys h.1 in
      record {
        first = (inl h.0, Every-map _ _ (λ x s. inr s) xs rest.first);
        second = (inl h.0, Every-map _ _ (λ y s. inr s) ys rest.second);
      }
  matched-pairs _ _ h = absurd h

-- the definitions of two lists of elements, joined
defined-append :
    (xs us : List Element) (yss zss : List (List Element)) → length xs ≡ length yss →
    defined_as (xs ++ us) (yss ++ zss) ≡ defined_as xs yss ++ defined_as us zss
defined-append [] us [] zss e = refl
defined-append (x ∷ xs) us (ys ∷ yss) zss e =
    ap (λ ds. record { element = x; needed = ys } ∷ ds)
    (defined-append xs us yss zss (omega arith))
defined-append _ us _ zss e = absurd (omega arith)

module _ (Y : Layout) (P : Program) (H : History)
    (same : (p : Path) (x : Name) → length (Y.places p x) ≡ length (H.columns p x))
    (IsAt : Element → ℕ → Type 0) (Under : ℕ → ℕ → Type 0) (Left : ℕ → Type 0) where
  -- an equation copies, for the element of a definition, one that comes from what is needed
  pub record IsDefinedBy (q : FlatEquation) (d : Definition) : Type 0 where
    pub operand : ℕ
    pub copies : q.operation ≡ Copy operand
    pub is_at : IsAt d.element q.element
    pub link : Link IsAt Under Left q.clock operand d.needed

  -- the elements of the variables of an instance stand at their places
  abbrev pub AreDeclared : Instance → List Declaration → Type 0
  AreDeclared c ds =
      Every (λ d. Pairs (λ i y. IsAt y i) (Y.places c.path d.name) (elements P c d)) ds

  -- the copies into the elements of one variable match their definitions
  pub variable_paired :
      (k : FlatClock) (is : List ℕ) (ys : List Element) (js : List ℕ)
      (yss : List (List Element)) → Pairs (λ i y. IsAt y i) is ys →
      AreLinks IsAt Under Left k js yss →
      Pairs IsDefinedBy (copied (map (λ i. record { place = i; clock = k }) is) js)
      (defined_as ys yss)
  variable_paired k [] [] js yss h l = tt
  variable_paired k (i ∷ is) (y ∷ ys) [] [] h l = tt
  variable_paired k (i ∷ is) (y ∷ ys) (j ∷ js) (zs ∷ yss) h l = (
    record { operand = j; copies = refl; is_at = h.0; link = l.0 },
    variable_paired k is ys js yss h.1 l.1,
  )
  variable_paired k _ _ _ _ h l = search

  -- the elements copied into the inputs of an instance come from what is needed
  abbrev pub AreFed :
      Path → Node → List Declaration → List (List ℕ) → List (List (List Element)) → Type 0
  AreFed p callee [] [] [] = Unit {0}
  AreFed p callee (d ∷ ds) (is ∷ iss) (yss ∷ ysss) =
      (AreLinks IsAt Under Left (flat_clock Y p (declared_clock callee d.name)) is yss
      × (length (Y.places p d.name) ≡ length is))
      × AreFed p callee ds iss ysss
  AreFed p callee ds iss ysss = ⊥

  pub received_paired :
      (c : Instance) (callee : Node) (ds : List Declaration) (iss : List (List ℕ))
      (ysss : List (List (List Element))) → AreDeclared c ds → AreFed c.path callee ds iss ysss →
      Pairs IsDefinedBy (received Y callee c.path ds iss)
      (defined_as (flat_map (elements P c) ds) (joined ysss))
  received_paired c callee [] [] [] h f = tt
  received_paired c callee (d ∷ ds) (is ∷ iss) (yss ∷ ysss) h f =
      let k = flat_clock Y c.path (declared_clock callee d.name) in
      let own = variable_paired k (Y.places c.path d.name) (elements P c d) is yss h.0 f.0.0 in
      let count : length (elements P c d) ≡ length yss =
      sym (pairs-count (λ i y. IsAt y i) (Y.places c.path d.name) (elements P c d) h.0)
      ∙ (f.0.1 ∙ pairs-count (Link IsAt Under Left k) is yss f.0.0) in
      subst (Pairs IsDefinedBy
      (copied (targets Y callee c.path d.name) is ++ received Y callee c.path ds iss))
      (sym (defined-append (elements P c d) (flat_map (elements P c) ds) yss (joined ysss) count))
      (pairs-append IsDefinedBy (copied (targets Y callee c.path d.name) is)
      (defined_as (elements P c d) yss) (received Y callee c.path ds iss)
      (defined_as (flat_map (elements P c) ds) (joined ysss)) own
      (received_paired c callee ds iss ysss h.1 f.1))
  received_paired c callee _ _ _ h f = absurd f

  -- the inputs come from what is needed, where they are all on one clock
  pub fed_of :
      (k : FlatClock) (p : Path) (callee : Node) (ds : List Declaration) (iss : List (List ℕ))
      (ysss : List (List (List Element))) (xsss : List (List Stream)) →
      Every (λ d. flat_clock Y p (declared_clock callee d.name) ≡ k) ds →
      Pairs (AreLinks IsAt Under Left k) iss ysss → AreAsWide H p ds xsss →
      map length iss ≡ map length xsss → AreFed p callee ds iss ysss
  fed_of k p callee [] [] [] xsss c l w e = tt
  fed_of k p callee (d ∷ ds) (is ∷ iss) (yss ∷ ysss) (xs ∷ xsss) c l w e = (
    (
      subst (λ k. AreLinks IsAt Under Left k is yss) (sym c.0) l.0,
      same p d.name ∙ (w.0 ∙ sym (heads_same _ _ _ _ e)),
    ),
    fed_of k p callee ds iss ysss xsss c.1 l.1 w.1 (tails_same _ _ _ _ e),
  )
  fed_of k p callee [] (is ∷ iss) ysss [] c l w e = absurd cc
  fed_of k p callee (d ∷ ds) [] ysss (xs ∷ xsss) c l w e = absurd cc
  fed_of k p callee _ _ _ _ c l w e = search

  -- ## The elements copied into the instances of an iterator

  module _ (k : FlatClock) where
    abbrev Linked : List ℕ → List (List Element) → Type 0
    Linked is yss = AreLinks IsAt Under Left k is yss

    part_linked : (n i : ℕ) (is : List ℕ) (yss : List (List Element)) → Linked is yss →
        Linked (part n i is) (part n i yss)
    part_linked n i is yss l =
        let count = pairs-count (Link IsAt Under Left k) is yss l in
        let m = length yss / n in
        subst (λ c. Linked (take (c / n) (drop ((c / n) * i) is)) (part n i yss)) (sym count)
        (pairs-take (Link IsAt Under Left k) m (drop (m * i) is) (drop (m * i) yss)
        (pairs-drop (Link IsAt Under Left k) (m * i) is yss l))

    parts_linked : (n i : ℕ) (iss : List (List ℕ)) (ysss : List (List (List Element))) →
        Pairs Linked iss ysss → Pairs Linked (map (part n i) iss) (map (part n i) ysss)
    parts_linked n i [] [] l = tt
    parts_linked n i (is ∷ iss) (yss ∷ ysss) l =
        (part_linked n i is yss l.0, parts_linked n i iss ysss l.1)
    parts_linked n i _ _ l = absurd l

    module _ (f : ℕ → Name → List ℕ) (g : ℕ → Name → List (List Element)) (n : ℕ)
        (outputs : (i : ℕ) → i < n → (x : Name) → Linked (f i x) (g i x)) where
      accumulated_linked :
          (outs : List Declaration) (init : List ℕ) (yss : List (List Element)) (i : ℕ) → i < n →
          Linked init yss → Linked (accumulated f outs init i) (accumulated g outs yss i)
      accumulated_linked [] init yss i lt l = l
      accumulated_linked (o ∷ outs) init yss zero lt l = l
      accumulated_linked (o ∷ outs) init yss (suc i) lt l = outputs i (omega (arith, lt)) o.name

      pub inputs_linked :
          (it : ArrayIterator) (outs : List Declaration) (iss : List (List ℕ))
          (ysss : List (List (List Element))) (i : ℕ) → i < n → Pairs Linked iss ysss →
          Pairs Linked (iterator_inputs f n it outs iss i) (iterator_inputs g n it outs ysss i)
      inputs_linked Map outs iss ysss i lt l = parts_linked n i iss ysss l
      inputs_linked Red outs [] [] i lt l = tt
      inputs_linked Red outs (is ∷ iss) (yss ∷ ysss) i lt l =
          (accumulated_linked outs is yss i lt l.0, parts_linked n i iss ysss l.1)
      inputs_linked Fill outs [] [] i lt l = tt
      inputs_linked Fill outs (is ∷ iss) (yss ∷ ysss) i lt l =
          (accumulated_linked outs is yss i lt l.0, tt)
      inputs_linked _ outs _ _ i lt l = absurd l

-- The copies that an expression emits match the definitions of the inputs of its callees, in any
-- order: each copy is such a definition, and each definition has its copy.

module _ (Y : Layout) (P : Program) (H : History)
    (same : (p : Path) (x : Name) → length (Y.places p x) ≡ length (H.columns p x))
    (IsAt : Element → ℕ → Type 0) (Under : ℕ → ℕ → Type 0) (Left : ℕ → Type 0)
    (here : Instance) (variables_wide : AreVariablesWide P H here here)
    (numbered : AreNumbered Y P H same IsAt Under Left here here) where
  abbrev Defined : FlatEquation → Definition → Type 0
  Defined q d = IsDefinedBy Y P H same IsAt Under Left q d

  abbrev flat : Clock → FlatClock
  flat k = flat_clock Y here.path k

  abbrev Links : Clock → List ℕ → List (List Element) → Type 0
  Links k is yss = AreLinks IsAt Under Left (flat k) is yss

  abbrev Parts : List Occurrence → Type 0
  Parts os = Every (IsKnown Y P H same IsAt Under Left here) os

  abbrev Met : State → Type 0
  Met s = AllMeet IsAt Under Left s.equations

  -- the inputs of a callee are on the clocks of the arguments, and stand at their numbers
  abbrev pub IsPassed : Clock → ℕ → Expr → Type 0
  IsPassed k n (Call f statics es) =
      (c : Instance) → callee_of P here (call_site f statics) n 0 ≡ Some c →
      Every (λ d. flat_clock Y c.path (declared_clock c.node d.name)
      ≡ flat_clock Y here.path
      (outer (base_clock k c.node) (given_inputs c.node.inputs es) (declared_clock c.node d.name)))
      c.node.inputs
      × AreDeclared Y P H same IsAt Under Left c c.node.inputs
  IsPassed k n (Iterate it (Node_named f statics) m es) =
      (i : ℕ) → i < number P here m → (c : Instance) →
      callee_of P here (call_site f statics) n i ≡ Some c →
      Every (λ d. flat_clock Y c.path (declared_clock c.node d.name) ≡ flat_clock Y here.path k)
      c.node.inputs
      × AreDeclared Y P H same IsAt Under Left c c.node.inputs
  IsPassed k n e = Unit {0}

  abbrev IsGivenTo : Occurrence → Type 0
  IsGivenTo o = IsPassed o.clock o.calls_before o.expr

  abbrev pub ArePassed : List Occurrence → Type 0
  ArePassed os = Every IsGivenTo os

  -- the definitions of the inputs of what the occurrences `os` call
  abbrev pub called_by : List Occurrence → List Definition
  called_by os = flat_map (λ o. call_definitions P here o.calls_before o.expr) os

  -- the copies that `t` has beyond `s` match the definitions `ds`
  pub record Defines (s t : State) (ds : List Definition) : Type 0 where
    pub new : List FlatEquation
    pub copies : t.copies ≡ s.copies ++ new
    pub matched : AreMatched Defined new ds

  defines_none : {s t : State} → t.copies ≡ s.copies → Defines s t []
  defines_none {s = s} e =
      record { new = []; copies = e ∙ sym (append-nil s.copies); matched = matched-none Defined }

  defines_after :
      {s t u : State} {ds : List Definition} → Defines s t ds → u.copies ≡ t.copies → Defines s u ds
  defines_after a e = record { new = a.new; copies = e ∙ a.copies; matched = a.matched }

  defines_two :
      {s t u : State} (os os' : List Occurrence) → Defines s t (called_by os) → Defines t u
      (called_by os') → Defines s u (called_by (os ++ os'))
  defines_two {s = s} os os' a b = record {
    new = a.new ++ b.new;
    copies = b.copies ∙ (ap (λ qs. qs ++ b.new) a.copies ∙ append_assoc s.copies a.new b.new);
    matched = subst (AreMatched Defined (a.new ++ b.new))
        (sym (flat_map-append (λ o. call_definitions P here o.calls_before o.expr) os os'))
        (matched-append Defined a.new b.new (called_by os) (called_by os') a.matched b.matched);
  }

  -- copies that match `ds`, and then copies that match `own`, match `own ++ ds`
  defines_call :
      {s t u : State} {qs : List FlatEquation} {own ds : List Definition} → Defines s t ds →
      u.copies ≡ t.copies ++ qs → AreMatched Defined qs own → Defines s u (own ++ ds)
  defines_call {s = s} {qs = qs} {own = own} {ds = ds} a e m = record {
    new = a.new ++ qs;
    copies = e ∙ (ap (λ rs. rs ++ qs) a.copies ∙ append_assoc s.copies a.new qs);
    matched = matched-crossed Defined a.new qs ds own a.matched m;
  }

  fore : (os os' : List Occurrence) → Parts (os ++ os') → Parts os
  fore os os' h = Every-first (IsKnown Y P H same IsAt Under Left here) os os' h

  aft : (os os' : List Occurrence) → Parts (os ++ os') → Parts os'
  aft os os' h = Every-second (IsKnown Y P H same IsAt Under Left here) os os' h

  before : (os os' : List Occurrence) → ArePassed (os ++ os') → ArePassed os
  before os os' h = Every-first IsGivenTo os os' h

  behind : (os os' : List Occurrence) → ArePassed (os ++ os') → ArePassed os'
  behind os os' h = Every-second IsGivenTo os os' h

  -- ## One call

  each_fed :
      (p : Path) (callee : Node) (given : Given) (b : Clock) (ds : List Declaration) (n : ℕ)
      (s : State) (es : Exprs) (us : List DataType) → all_types P here es ≡ Some us →
      let ks : List Clock = map (λ d. outer b given (declared_clock callee d.name)) ds in
      length us ≤ length ks → Parts (occurrences_each P here.node ks n es) →
      Met (emit_each Y P here ks n s es).state →
      Every (λ d. flat_clock Y p (declared_clock callee d.name)
      ≡ flat (outer b given (declared_clock callee d.name))) ds →
      AreAsWide H p ds (argument_streams P H here ks n es) →
      AreFed Y P H same IsAt Under Left p callee ds (emit_each Y P here ks n s es).found
      (all_needs P here n es)
  unfolding emit needs
  each_fed p callee given b [] n s Nil us is le parts h c w = tt
  each_fed p callee given b (d ∷ ds) n s Nil us is le parts h c w = absurd w
  each_fed p callee given b [] n s (Cons e es) us is le parts h c w =
      let f = first_of_all P here e es us is in
      absurd (omega (arith, le, ap length f.all))
  each_fed p callee given b (d ∷ ds) n s (Cons e es) us is le parts h c w =
      let k = outer b given (declared_clock callee d.name) in
      let ks : List Clock = map (λ d. outer b given (declared_clock callee d.name)) ds in
      let m = n + call_count e in
      let x = emit Y P here k n s e in
      let f = first_of_all P here e es us is in
      let l = linked Y P H same IsAt Under Left here variables_wide numbered k n s e
      (fore _ _ parts) (each_before Y P H same IsAt Under Left here ks m x.state es h) in (
        (
          subst (λ l. AreLinks IsAt Under Left l x.found (needs P here n e)) (sym c.0) l,
          same p d.name ∙ (w.0 ∙ sym (as_many Y P H here same k n s e)),
        ),
        each_fed p callee given b ds m x.state es f.rest f.others
            (omega (arith, le, ap length f.all)) (aft _ _ parts) h c.1 w.1,
      )

  call_matched :
      (k : Clock) (n : ℕ) (s : State) (f : Name) (statics : List Static) (es : Exprs) →
      IsTypedAt P H here (at k n (Call f statics es)) → IsPassed k n (Call f statics es) →
      Parts (occurrences_each P here.node (call_clocks k (node_named P f) es) (n + 1) es) →
      Met (emit_each Y P here (call_clocks k (node_named P f) es) (n + 1) s es).state →
      AreMatched Defined
      (call_copies Y (Child here.path n 0) (node_named P f)
      (emit_each Y P here (call_clocks k (node_named P f) es) (n + 1) s es).found)
      (call_definitions P here n (Call f statics es))
  call_matched k n s f statics es t passed parts met =
      let o = bound (operator_types P here (Node_named f statics)) _ t.types t.are in
      let c = called P here f statics o.value o.is in
      let p = placed P here f statics c.callee c.is in
      let node = c.callee.node in
      let child = Child here.path n 0 in
      let callee : Instance = record c.callee { path = child } in
      let given = passed callee (p.at n 0) in
      let enough = clocks_enough Y P H here same variables_wide 0 k f statics es t.types t.are in
      let fewer = subst (λ o. length enough.0 ≤ length (call_clocks k o es)) p.node enough.2 in
      let own_parts = subst (λ o.
      Parts (occurrences_each P here.node (call_clocks k o es) (n + 1) es)) p.node parts in
      let own_met = subst (λ o. Met (emit_each Y P here (call_clocks k o es) (n + 1) s es).state)
      p.node met in
      let wide = subst (λ o. Every (IsOccurrenceWide P H here)
      (occurrences_each P here.node (call_clocks k o es) (n + 1) es)) p.node t.parts.1 in
      let as_wide = call_as_wide P H here variables_wide k n f statics es t.types t.are t.parts.0
      node p.node wide in
      let args = all_needs P here (n + 1) es in
      let found : Option Node → List (List ℕ) =
      λ o. (emit_each Y P here (call_clocks k o es) (n + 1) s es).found in
      let fed = each_fed child node (given_inputs node.inputs es) (base_clock k node) node.inputs
      (n + 1) s es enough.0 enough.1 fewer own_parts own_met given.0 as_wide in
      let own = matched-pairs Defined (received Y node child node.inputs (found (Some node)))
      (defined_as (flat_map (elements P callee) node.inputs) (joined args))
      (received_paired Y P H same IsAt Under Left callee node node.inputs (found (Some node)) args
      given.1 fed) in
      subst (λ o. AreMatched Defined (call_copies Y child o (found o))
      (input_definitions P (callee_of P here (call_site f statics) n 0) args)) (sym p.node)
      (subst (λ o. AreMatched Defined (received Y node child node.inputs (found (Some node)))
      (input_definitions P o args)) (sym (p.at n 0)) own)

  iterator_matched :
      (k : Clock) (n : ℕ) (s : State) (it : ArrayIterator) (f : Name) (statics : List Static)
      (m : Static) (es : Exprs) →
      IsKnown Y P H same IsAt Under Left here (at k n (Iterate it (Node_named f statics) m es)) →
      IsPassed k n (Iterate it (Node_named f statics) m es) →
      Pairs (Links k) (emit_all Y P here k (n + 1) s es).found (all_needs P here (n + 1) es) →
      AreMatched Defined
      (iterator_copies Y here.path n it (number P here m) (node_named P f)
      (emit_all Y P here k (n + 1) s es).found)
      (call_definitions P here n (Iterate it (Node_named f statics) m es))
  iterator_matched k n s it f statics m es known passed l =
      let t = known.typed in
      let size = bound (static_count P here m) _ t.types t.are in
      let o = bound (operator_types P here (Node_named f statics)) _ t.types size.gives in
      let c = called P here f statics o.value o.is in
      let p = placed P here f statics c.callee c.is in
      let node = c.callee.node in
      let count = number P here m in
      let callee : ℕ → Instance = λ i. record c.callee { path = Child here.path n i } in
      let found = (emit_all Y P here k (n + 1) s es).found in
      let args = all_needs P here (n + 1) es in
      let places : ℕ → Name → List ℕ = λ i x. Y.places (Child here.path n i) x in
      let streams : ℕ → Name → List Stream = λ i x. H.columns (Child here.path n i) x in
      let outs : ℕ → Name → List (List Element) =
      λ i x. itself (output_elements P here f statics n i x) in
      let lengths = all_as_many Y P H here same k (n + 1) s es in
      let outputs : (i : ℕ) → i < count → (x : Name) → Links k (places i x) (outs i x) =
      λ i lt x. variable_links IsAt Under Left (flat k) (places i x)
      (output_elements P here f statics n i x)
      (outputs_numbered Y P H same IsAt Under Left here f statics n i (callee i) (p.at n i) refl
      (known.linkable.1 i lt (callee i) (p.at n i)) x) in
      let copies : ℕ → List FlatEquation =
      λ i. received Y node (Child here.path n i) node.inputs
      (iterator_inputs places count it node.outputs found i) in
      let definitions : ℕ → List Definition =
      λ i. input_definitions P (callee_of P here (call_site f statics) n i)
      (iterator_inputs outs count it node.outputs args i) in
      let one : (i : ℕ) → i < count → Pairs Defined (copies i) (definitions i) =
      λ i lt.
      let given = passed i lt (callee i) (p.at n i) in
      let iss = iterator_inputs places count it node.outputs found i in
      let ysss = iterator_inputs outs count it node.outputs args i in
      let fed = fed_of Y P H same IsAt Under Left (flat k) (Child here.path n i) node node.inputs
      iss ysss
      (iterator_inputs streams count it node.outputs (all_streams P H here k (n + 1) es) i) given.0
      (inputs_linked Y P H same IsAt Under Left (flat k) places outs count outputs it node.outputs
      found args i lt l)
      (iterator_as_wide P H here variables_wide k n it f statics m es t.types t.are t.parts.0.1 node
      p.node t.parts.1 i lt)
      (length-inputs places streams (λ j x. same (Child here.path n j) x) count it node.outputs
      found (all_streams P H here k (n + 1) es) i lengths) in
      subst (λ o. Pairs Defined (copies i) (input_definitions P o ysss)) (sym (p.at n i))
      (received_paired Y P H same IsAt Under Left (callee i) node node.inputs iss ysss given.1
      fed) in
      let all = matched-pairs Defined (flat_map copies (range_with_len 0 count))
      (flat_map definitions (range_with_len 0 count))
      (pairs-pieces Defined copies definitions (range_with_len 0 count)
      (Every-of_range (λ i. Pairs Defined (copies i) (definitions i)) 0 count
      (λ i lt. subst (λ i. Pairs Defined (copies i) (definitions i)) (omega arith) (one i lt)))) in
      subst (λ o. AreMatched Defined (iterator_copies Y here.path n it count o found)
      (flat_map (λ i. input_definitions P (callee_of P here (call_site f statics) n i)
      (iterator_inputs outs count it (listed (λ n. n.outputs) o) args i)) (range_with_len 0 count)))
      (sym p.node) all

  -- ## Expressions

  name_defines : (k : Clock) (s : State) (x : Name) (o : Option Declaration) →
      Defines s (emit_name Y P here k s x o).state []
  name_defines k s x None = defines_none (add_copies (flat k) s _)
  name_defines k s x (Some d) = defines_none refl

  added_met : (k : FlatClock) (s : State) (os : List Operation) → Met (add k s os).state → Met s
  added_met k s os h = let n = added IsAt Under Left k s os h in n.before

  kept_met : (x : Emitted) → Met (keep x).state → Met x.state
  kept_met x h = subst (AllMeet IsAt Under Left) (keep_equations x) h

  abbrev Earlier : State → State → Type 0
  Earlier s t = Met t → Met s

  adding : IsAdding Earlier
  adding = let e = earlier Y P H same IsAt Under Left here in e.adding

  -- the copies of two operands, one after another, match the definitions for both
  two_defined :
      (k : Clock) (n : ℕ) (s : State) (a b : Expr) →
      (let m = n + call_count a in
      let x = emit Y P here k n s a in
      let y = emit Y P here k m x.state b in
      let oa = occurrences P here.node k n a in
      let ob = occurrences P here.node k m b in
      (Parts oa → ArePassed oa → Met x.state → Defines s x.state (called_by oa)) →
      (Parts ob → ArePassed ob → Met y.state → Defines x.state y.state (called_by ob)) →
      Parts (oa ++ ob) → ArePassed (oa ++ ob) → Met y.state →
      Defines s y.state (called_by (oa ++ ob)))
  two_defined k n s a b left right p g h =
      let m = n + call_count a in
      let oa = occurrences P here.node k n a in
      let ob = occurrences P here.node k m b in
      let first = term_before Y P H same IsAt Under Left here k _ _ b h in
      defines_two oa ob (left (fore _ _ p) (before _ _ g) first)
      (right (aft _ _ p) (behind _ _ g) h)

  mutual
    unfolding emit

    -- the copies of an expression match the definitions of the inputs that its calls receive
    pub calls_defined :
        (k : Clock) (n : ℕ) (s : State) (e : Expr) → Parts (occurrences P here.node k n e) →
        ArePassed (occurrences P here.node k n e) → Met (emit Y P here k n s e).state →
        Defines s (emit Y P here k n s e).state (called_by (occurrences P here.node k n e))
    calls_defined k n s (Literal m) p g h = defines_none (add_copies (flat k) s _)
    calls_defined k n s (Truth b) p g h = defines_none (add_copies (flat k) s _)
    calls_defined k n s (Variable x) p g h =
        name_defines k s x (named (λ d. d.name) x (variables here.node))
    calls_defined k n s (Group a) p g h = calls_defined k n s a p g h
    calls_defined k n s (Unary op a) p g h =
        defines_after (calls_defined k n s a p.1 g.1 (added_met _ _ _ h)) (add_copies _ _ _)
    calls_defined k n s (Binary op a b) p g h =
        defines_after (two_defined k n s a b (calls_defined k n s a) (calls_defined k _ _ b) p.1 g.1
        (added_met _ _ _ h)) (add_copies _ _ _)
    calls_defined k n s (If c a b) p g h =
        let na = n + call_count c in
        let z = emit Y P here k n s c in
        let oc = occurrences P here.node k n c in
        let ob = occurrences P here.node k na a
        ++ occurrences P here.node k (na + call_count a) b in
        let x = emit Y P here k na z.state a in
        let met = added_met _ _ _ h in
        let second = term_before Y P H same IsAt Under Left here k _ x.state b met in
        let first = term_before Y P H same IsAt Under Left here k na z.state a second in
        defines_after
        (defines_two oc ob (calls_defined k n s c (fore oc ob p.1) (before oc ob g.1) first)
        (two_defined k na z.state a b (calls_defined k na z.state a) (calls_defined k _ _ b)
        (aft oc ob p.1) (behind oc ob g.1) met)) (add_copies _ _ _)
    calls_defined k n s (Arrow a b) p g h =
        defines_after (two_defined k n s a b (calls_defined k n s a) (calls_defined k _ _ b) p.1 g.1
        (added_met _ _ _ h)) (add_copies _ _ _)
    calls_defined k n s (Fby a b) p g h =
        defines_after (two_defined k n s a b (calls_defined k n s a) (calls_defined k _ _ b) p.1 g.1
        (kept_met _ (added_met _ _ _ (added_met _ _ _ h))))
        (add_copies _ _ _ ∙ (add_copies _ _ _ ∙ keep_copies _))
    calls_defined k n s (Pre a) p g h =
        defines_after (calls_defined k n s a p.1 g.1 (kept_met _ (added_met _ _ _ h)))
        (add_copies _ _ _ ∙ keep_copies _)
    calls_defined k n s (When a y sign) p g h =
        defines_after (calls_defined _ n s a p.1 g.1 (added_met _ _ _ h)) (add_copies _ _ _)
    calls_defined k n s (Current a) p g h =
        defines_after (calls_defined _ n s a p.1 g.1 (kept_met _ (added_met _ _ _ h)))
        (add_copies _ _ _ ∙ keep_copies _)
    calls_defined k n s (Replicate a m) p g h = calls_defined k n s a p.1 g.1 h
    calls_defined k n s (Index a i) p g h = calls_defined k n s a p.1 g.1 h
    calls_defined k n s (Slice a i j) p g h = calls_defined k n s a p.1 g.1 h
    calls_defined k n s (Join a b) p g h =
        two_defined k n s a b (calls_defined k n s a) (calls_defined k _ _ b) p.1 g.1 h
    calls_defined k n s (Array es) p g h = all_defined k n s es p.1 g.1 h
    calls_defined k n s (AtMostOne es) p g h =
        defines_after (all_defined k n s es p.1 g.1 (at_most_one_step Earlier adding _ _ _ h))
        (at_most_one_copies _ _ _)
    calls_defined k n s (Nor es) p g h =
        defines_after (all_defined k n s es p.1 g.1 (nor_step Earlier adding _ _ _ h))
        (nor_copies _ _ _)
    calls_defined k n s (Call f statics es) p g h =
        let ks = call_clocks k (node_named P f) es in
        let r = emit_each Y P here ks (n + 1) s es in
        let met = subst (AllMeet IsAt Under Left) (joins_equations r.state _ _) h in
        defines_call (each_defined ks (n + 1) s es p.1 g.1 met) (joins_copies r.state _ _)
        (call_matched k n s f statics es p.0.typed g.0 p.1 met)
    calls_defined k n s (Iterate it (Node_named f statics) m es) p g h =
        let r = emit_all Y P here k (n + 1) s es in
        let count = number P here m in
        let met = subst (AllMeet IsAt Under Left) (joins_equations r.state _ _) h in
        let l = all_linked Y P H same IsAt Under Left here variables_wide numbered k (n + 1) s es
        p.1 met in
        defines_call (all_defined k (n + 1) s es p.1 g.1 met) (joins_copies r.state _ _)
        (iterator_matched k n s it f statics m es p.0 g.0 l)
    calls_defined k n s (Iterate it (Symbol op) m es) p g h =
        defines_after (all_defined k n s es p.1 g.1 (symbol_step Earlier adding _ op _ it _ h))
        (symbol_copies _ op _ it _)

    all_defined :
        (k : Clock) (n : ℕ) (s : State) (es : Exprs) → Parts (occurrences_in P here.node k n es) →
        ArePassed (occurrences_in P here.node k n es) → Met (emit_all Y P here k n s es).state →
        Defines s (emit_all Y P here k n s es).state (called_by (occurrences_in P here.node k n es))
    all_defined k n s Nil p g h = defines_none refl
    all_defined k n s (Cons e es) p g h =
        let m = n + call_count e in
        let x = emit Y P here k n s e in
        let oa = occurrences P here.node k n e in
        let ob = occurrences_in P here.node k m es in
        let first = all_before Y P H same IsAt Under Left here k m x.state es h in
        defines_two oa ob (calls_defined k n s e (fore oa ob p) (before oa ob g) first)
        (all_defined k m x.state es (aft oa ob p) (behind oa ob g) h)

    each_defined :
        (ks : List Clock) (n : ℕ) (s : State) (es : Exprs) →
        Parts (occurrences_each P here.node ks n es) →
        ArePassed (occurrences_each P here.node ks n es) →
        Met (emit_each Y P here ks n s es).state →
        Defines s (emit_each Y P here ks n s es).state
        (called_by (occurrences_each P here.node ks n es))
    each_defined ks n s Nil p g h = defines_none refl
    each_defined [] n s (Cons e es) p g h = defines_none refl
    each_defined (k ∷ ks) n s (Cons e es) p g h =
        let m = n + call_count e in
        let x = emit Y P here k n s e in
        let oa = occurrences P here.node k n e in
        let ob = occurrences_each P here.node ks m es in
        let first = each_before Y P H same IsAt Under Left here ks m x.state es h in
        defines_two oa ob (calls_defined k n s e (fore oa ob p) (before oa ob g) first)
        (each_defined ks m x.state es (aft oa ob p) (behind oa ob g) h)
