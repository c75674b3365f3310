-- The copies of all instances match the definitions of left variables and of the inputs of callees:
-- each copy is such a definition, and each definition has its copy.
use Rattle.lb_expand.proofs.Words
use Words.{Every-all, Bool, false, ◌≡◌, inl, ℕ, ◌+◌, true, Some, List, [], ◌∷◌, ◌++◌, map, length}
use Words.{flat_map, zip, refl, sym, ap, ◌∙◌, subst, arith, list_all, append-nil, length-map}
use Words.{append_assoc, flat_map-append, Every, all_some, Name, Node_named, Expr, Group, Call}
use Words.{Iterate, Statement, Equation, Assertion, and_first, and_second, Program, Instance, Path}
use Words.{DataType, are_types, length-all_some, data_types, type_of_name, is_statement_typed}
use Words.{declared_clock, ungrouped, Element, Definition, elements_named, needs, defined_as}
use Words.{is_site, call_definitions, equation_definitions, Occurrence, at, call_count, occurrences}
use Words.{statement_clock, right_sides, statements, node_occurrences, History, in_first, in_second}
use Words.{in_either, FlatClock, Always, FlatEquation, Layout, flat_clock, State, Target, targets}
use Words.{copied, joins, assert, emit, emit_body, emit_instances}
use Rattle.lb_check.specs.Clocks.{Clock}
use Rattle.lb_flat.proofs.lists.Lists.{Every-append, Every-first, Every-second}
use Rattle.lb_expand.proofs.copies.CopiedCalls.{AreMatched, matched-none, matched-append}
use Rattle.lb_expand.proofs.copies.CopiedCalls.{matched-moved, matched-pairs, IsDefinedBy, IsPassed}
use Rattle.lb_expand.proofs.copies.CopiedCalls.{ArePassed, called_by, Defines, calls_defined}
use Rattle.lb_expand.proofs.fits.FitStatements.{no_site, one_result}
use Rattle.lb_expand.proofs.reads.LinkTerms.{AreNumbered, IsKnown, call_linked, iterator_linked}
use Rattle.lb_expand.proofs.reads.LinkTerms.{linked, term_before}
use Rattle.lb_expand.proofs.reads.LinkWords.{Pairs, pairs-append, AllMeet, AreLinks, Link, either}
use Rattle.lb_expand.proofs.solutions.Emission.{joins_equations, joins_copies}
use Rattle.lb_expand.proofs.solutions.Solving.{assert_equations, assert_copies, occurrences_of}
use Rattle.lb_expand.proofs.widths.TypeFacts.{BothThere, both_there, one, are_counts}
use Rattle.lb_expand.proofs.widths.{PlacedCalls.lengths_same, Widths.AreVariablesWide}

-- ## Expressions with several results

-- two left variables do not fit a right side with one type
too_many :
    (P : Program) (here : Instance) (x y : Name) (lefts : List Name) (right left : List DataType) →
    all_some (map (type_of_name P here) (x ∷ (y ∷ lefts))) ≡ Some left →
    are_types right left ≡ true → length right ≡ 1 → ⊥
too_many P here x y lefts right left e like one =
    let count = length-all_some (map (type_of_name P here) (x ∷ (y ∷ lefts))) left e in
    let names = length-map (x ∷ (y ∷ lefts)) (type_of_name P here) in
    let many = lengths_same right left (are_counts right left like) in
    absurd (omega (arith, count, names, many, one))

module _ (Y : Layout) (P : Program) (H : History)
    (same : (p : Path) (x : Name) → length (Y.places p x) ≡ length (H.columns p x))
    (IsAt : Element → ℕ → Type 0) (Under : ℕ → ℕ → Type 0) (Left : ℕ → Type 0) where
  abbrev Defined : FlatEquation → Definition → Type 0
  Defined q d = IsDefinedBy Y P H same IsAt Under Left q d

  abbrev Met : State → Type 0
  Met s = AllMeet IsAt Under Left s.equations

  -- a link of one clock serves for a target
  abbrev Serves : FlatClock → Target → Type 0
  Serves k t =
      (j : ℕ) (ys : List Element) → Link IsAt Under Left k j ys → Link IsAt Under Left t.clock j ys

  always : (t : Target) → Serves Always t
  always t j ys l = record { there = l.there; back = λ g. either inl (λ n. absurd n) (l.back g) }

  -- the copies into some targets match the definitions of their elements
  targets_paired :
      (k : FlatClock) (ts : List Target) (ys : List Element) (js : List ℕ)
      (yss : List (List Element)) → Every (Serves k) ts → Pairs (λ t y. IsAt y t.place) ts ys →
      AreLinks IsAt Under Left k js yss →
      Pairs Defined (copied ts js) (defined_as ys yss)
  targets_paired k [] [] js yss c h l = tt
  targets_paired k (t ∷ ts) (y ∷ ys) [] [] c h l = tt
  targets_paired k (t ∷ ts) (y ∷ ys) (j ∷ js) (zs ∷ yss) c h l = (
    record { operand = j; copies = refl; is_at = h.0; link = c.0 j zs l.0 },
    targets_paired k ts ys js yss c.1 h.1 l.1,
  )
  targets_paired k _ _ _ _ c h l = search

  module _ (here : Instance) (wide : AreVariablesWide P H here here)
      (numbered : AreNumbered Y P H same IsAt Under Left here here) where
    abbrev Parts : List Occurrence → Type 0
    Parts os = Every (IsKnown Y P H same IsAt Under Left here) os

    abbrev Passed : List Occurrence → Type 0
    Passed os = ArePassed Y P H same IsAt Under Left here wide numbered os

    passed_first : (os os' : List Occurrence) → Passed (os ++ os') → Passed os
    passed_first os os' h =
        Every-first (λ o. IsPassed Y P H same IsAt Under Left here wide numbered o.clock
        o.calls_before o.expr) os os' h

    passed_second : (os os' : List Occurrence) → Passed (os ++ os') → Passed os'
    passed_second os os' h =
        Every-second (λ o. IsPassed Y P H same IsAt Under Left here wide numbered o.clock
        o.calls_before o.expr) os os' h

    abbrev calls_of : List Occurrence → List Definition
    calls_of os = called_by Y P H same IsAt Under Left here wide numbered os

    -- a call finds elements of variables, whatever the clock
    call_links :
        (k : Clock) (n : ℕ) (s : State) (e : Expr) → is_site (ungrouped e) ≡ true →
        Parts (occurrences P here.node k n e) →
        AreLinks IsAt Under Left Always (emit Y P here k n s e).found (needs P here n e)
    unfolding emit needs
    call_links k n s (Group a) c p = call_links k n s a c p
    call_links k n s (Call f statics es) c p =
        call_linked Y P H same IsAt Under Left here wide numbered Always k n s f statics es p.0
    call_links k n s (Iterate it (Node_named f statics) m es) c p =
        iterator_linked Y P H same IsAt Under Left here wide numbered Always k n s it f statics m
        es p.0
    call_links k n s _ c p = absurd (no_site c)

    -- ## Left variables

    places_paired :
        (k : FlatClock) (is : List ℕ) (ys : List Element) → Pairs (λ i y. IsAt y i) is ys →
        Pairs (λ t y. IsAt y t.place)
        (map (λ i. let t : Target = record { place = i; clock = k } in t) is) ys
    places_paired k [] [] h = tt
    places_paired k (i ∷ is) (y ∷ ys) h = (h.0, places_paired k is ys h.1)
    places_paired k _ _ h = absurd h

    lefts_paired :
        (lefts : List Name) →
        Pairs (λ t y. IsAt y t.place) (flat_map (targets Y here.node here.path) lefts)
        (flat_map (elements_named P here) lefts)
    lefts_paired [] = tt
    lefts_paired (x ∷ lefts) =
        pairs-append (λ t y. IsAt y t.place) _ _ _ _ (places_paired _ _ _ (numbered x))
        (lefts_paired lefts)

    own_clock : (x : Name) (is : List ℕ) →
        Every (Serves (flat_clock Y here.path (declared_clock here.node x)))
        (map (λ i. let t : Target =
        record { place = i; clock = flat_clock Y here.path (declared_clock here.node x) } in t) is)
    own_clock x [] = tt
    own_clock x (i ∷ is) = (λ j ys l. l, own_clock x is)

    -- the copies of an equation are its definitions
    equation_paired :
        (n : ℕ) (s : State) (lefts : List Name) (e : Expr) →
        is_statement_typed P here (Equation lefts e) ≡ true →
        let k = statement_clock P here.node (Equation lefts e) in
        Parts (occurrences P here.node k n e) → Met (emit Y P here k n s e).state →
        Pairs Defined
        (copied (flat_map (targets Y here.node here.path) lefts) (emit Y P here k n s e).found)
        (defined_as (flat_map (elements_named P here) lefts) (needs P here n e))
    equation_paired n s [] e typed p h = tt
    equation_paired n s (x ∷ []) e typed p h =
        targets_paired (flat_clock Y here.path _)
        (flat_map (targets Y here.node here.path) (x ∷ []))
        (flat_map (elements_named P here) (x ∷ [])) (emit Y P here _ n s e).found (needs P here n e)
        (Every-append (Serves (flat_clock Y here.path _)) (targets Y here.node here.path x) []
        (own_clock x (Y.places here.path x)) tt) (lefts_paired (x ∷ []))
        (linked Y P H same IsAt Under Left here wide numbered _ n s e p h)
    equation_paired n s (x ∷ (y ∷ lefts)) e typed p h =
        let t = both_there P (data_types P here e)
        (all_some (map (type_of_name P here) (x ∷ (y ∷ lefts)))) typed in
        targets_paired Always _ (flat_map (elements_named P here) (x ∷ (y ∷ lefts)))
        (emit Y P here _ n s e).found (needs P here n e) (Every-all (Serves Always) always _)
        (lefts_paired (x ∷ (y ∷ lefts))) (call_links _ n s e (by t (is_site (ungrouped e)) refl) p)
      where
        by :
            (t : BothThere (data_types P here e)
            (all_some (map (type_of_name P here) (x ∷ (y ∷ lefts))))) (b : Bool) →
            is_site (ungrouped e) ≡ b → is_site (ungrouped e) ≡ true
        by t true c = c
        by t false c =
            absurd (too_many P here x y lefts t.right t.left t.is_left t.same
            (ap length (one_result P here e t.right c t.is_right).1))

    -- ## Bodies

    -- the copies between the states `s` and `t` match the definitions `eqs` and `calls`
    record DefinesBody (s t : State) (eqs calls : List Definition) : Type 0 where
      before : Met s
      new : List FlatEquation
      copies : t.copies ≡ s.copies ++ new
      matched : AreMatched Defined new (eqs ++ calls)

    -- the definitions of left variables
    abbrev equations_of : ℕ → List Statement → List Definition
    equations_of n body =
        flat_map (λ s. equation_definitions P here s.0 s.1)
        (zip body (right_sides P here.node n body))

    abbrev occurring : ℕ → List Statement → List Occurrence
    occurring n body = occurrences_of P here.node (right_sides P here.node n body)

    shuffled :
        (cs qs es ds : List Definition) (new : List FlatEquation) →
        AreMatched Defined new (cs ++ (qs ++ (es ++ ds))) →
        AreMatched Defined new ((qs ++ es) ++ (cs ++ ds))
    shuffled cs qs es ds new m =
        matched-moved Defined new _ _ m
        (λ d i. either (λ c. in_second d (qs ++ es) (cs ++ ds) (in_first d cs ds c))
        (λ r. either (λ q. in_first d (qs ++ es) (cs ++ ds) (in_first d qs es q))
        (λ l. either (λ e. in_first d (qs ++ es) (cs ++ ds) (in_second d qs es e))
        (λ e. in_second d (qs ++ es) (cs ++ ds) (in_second d cs ds e)) (in_either d es ds l))
        (in_either d qs (es ++ ds) r)) (in_either d cs (qs ++ (es ++ ds)) i))
        (λ d i. either (λ l. in_second d cs (qs ++ (es ++ ds))
        (either (λ q. in_first d qs (es ++ ds) q)
        (λ e. in_second d qs (es ++ ds) (in_first d es ds e)) (in_either d qs es l)))
        (λ r. either (λ c. in_first d cs (qs ++ (es ++ ds)) c)
        (λ e. in_second d cs (qs ++ (es ++ ds))
        (in_second d qs (es ++ ds) (in_second d es ds e))) (in_either d cs ds r))
        (in_either d (qs ++ es) (cs ++ ds) i))

    -- the copies of a statement, and then those of the statements after it, match all definitions
    joined_body :
        (s t u v : State) (os os' : List Occurrence) (qs : List FlatEquation)
        (own es : List Definition) → Met s →
        Defines Y P H same IsAt Under Left here wide numbered s t (calls_of os) →
        u.copies ≡ t.copies ++ qs → AreMatched Defined qs own →
        DefinesBody u v es (calls_of os') →
        DefinesBody s v (own ++ es) (calls_of (os ++ os'))
    joined_body s t u v os os' qs own es met a e m r = record {
      before = met;
      new = a.new ++ (qs ++ r.new);
      copies = r.copies
          ∙ (ap (λ cs. cs ++ r.new) (e ∙ ap (λ cs. cs ++ qs) a.copies)
          ∙ (append_assoc (s.copies ++ a.new) qs r.new
          ∙ append_assoc s.copies a.new (qs ++ r.new)));
      matched = subst (λ cs. AreMatched Defined (a.new ++ (qs ++ r.new)) ((own ++ es) ++ cs))
          (sym (flat_map-append (λ o. call_definitions P here o.calls_before o.expr) os os'))
          (shuffled (calls_of os) own es (calls_of os') (a.new ++ (qs ++ r.new))
          (matched-append Defined a.new (qs ++ r.new) (calls_of os)
          (own ++ (es ++ calls_of os')) a.matched
          (matched-append Defined qs r.new own (es ++ calls_of os') m r.matched)));
    }

    body_defined :
        (n : ℕ) (s : State) (body : List Statement) →
        list_all (is_statement_typed P here) body ≡ true → Parts (occurring n body) →
        Passed (occurring n body) → Met (emit_body Y P here n s body) →
        DefinesBody s (emit_body Y P here n s body) (equations_of n body)
        (calls_of (occurring n body))
    unfolding emit_body
    body_defined n s [] typed p g h = record {
      before = h;
      new = [];
      copies = sym (append-nil s.copies);
      matched = matched-none Defined;
    }
    body_defined n s (Assertion e ∷ rest) typed p g h =
        let k = statement_clock P here.node (Assertion e) in
        let m = n + call_count e in
        let x = emit Y P here k n s e in
        let oa = occurrences P here.node k n e in
        let ob = occurring m rest in
        let pa = Every-first (IsKnown Y P H same IsAt Under Left here) oa ob p in
        let r = body_defined m (assert x) rest
        (and_second (is_statement_typed P here (Assertion e)) _ typed)
        (Every-second (IsKnown Y P H same IsAt Under Left here) oa ob p)
        (passed_second oa ob g) h in
        let met = subst (AllMeet IsAt Under Left) (assert_equations x) r.before in
        let kept = term_before Y P H same IsAt Under Left here k n s e met in
        joined_body s x.state (assert x) _ oa ob [] [] (equations_of m rest) kept
        (calls_defined Y P H same IsAt Under Left here wide numbered k n s e pa
        (passed_first oa ob g) met)
        (assert_copies x ∙ sym (append-nil x.state.copies)) (matched-none Defined) r
    body_defined n s (Equation lefts e ∷ rest) typed p g h =
        let k = statement_clock P here.node (Equation lefts e) in
        let m = n + call_count e in
        let x = emit Y P here k n s e in
        let qs = copied (flat_map (targets Y here.node here.path) lefts) x.found in
        let t = (joins x.state qs []).state in
        let oa = occurrences P here.node k n e in
        let ob = occurring m rest in
        let pa = Every-first (IsKnown Y P H same IsAt Under Left here) oa ob p in
        let r = body_defined m t rest
        (and_second (is_statement_typed P here (Equation lefts e)) _ typed)
        (Every-second (IsKnown Y P H same IsAt Under Left here) oa ob p)
        (passed_second oa ob g) h in
        let met = subst (AllMeet IsAt Under Left) (joins_equations x.state qs []) r.before in
        let kept = term_before Y P H same IsAt Under Left here k n s e met in
        let own = equation_definitions P here (Equation lefts e) (at k n e) in
        joined_body s x.state t _ oa ob qs own (equations_of m rest) kept
        (calls_defined Y P H same IsAt Under Left here wide numbered k n s e pa
        (passed_first oa ob g) met)
        (joins_copies x.state qs [])
        (matched-pairs Defined qs own
        (equation_paired n s lefts e
        (and_first (is_statement_typed P here (Equation lefts e)) _ typed) pa met)) r

  -- ## Instances

  -- an instance whose widths, numbers, types and calls are known
  pub record IsSourced (here : Instance) : Type 0 where
    pub wide : AreVariablesWide P H here here
    pub numbered : AreNumbered Y P H same IsAt Under Left here here
    pub typed : list_all (is_statement_typed P here) here.node.body ≡ true
    pub known : Every (IsKnown Y P H same IsAt Under Left here) (node_occurrences P here.node)
    pub passed :
        ArePassed Y P H same IsAt Under Left here wide numbered (node_occurrences P here.node)

  -- the definitions of left variables of an instance and of the inputs of what it calls
  abbrev pub made_by : Instance → List Definition
  made_by here =
      flat_map (λ s. equation_definitions P here s.0 s.1) (statements P here.node)
      ++ flat_map (λ o. call_definitions P here o.calls_before o.expr)
      (node_occurrences P here.node)

  -- the copies between the states `s` and `t` match the definitions of the instances `is`
  pub record DefinesAll (s t : State) (is : List Instance) : Type 0 where
    pub before : Met s
    pub new : List FlatEquation
    pub copies : t.copies ≡ s.copies ++ new
    pub matched : AreMatched Defined new (flat_map made_by is)

  pub instances_defined :
      (s : State) (is : List Instance) → Every IsSourced is → Met (emit_instances Y P s is) →
      DefinesAll s (emit_instances Y P s is) is
  unfolding emit_instances
  instances_defined s [] h met = record {
    before = met;
    new = [];
    copies = sym (append-nil s.copies);
    matched = matched-none Defined;
  }
  instances_defined s (here ∷ rest) h met =
      let t = emit_body Y P here 0 s here.node.body in
      let r = instances_defined t rest h.1 met in
      let a = body_defined here h.0.wide h.0.numbered 0 s here.node.body h.0.typed h.0.known
      h.0.passed r.before in
      record {
        before = a.before;
        new = a.new ++ r.new;
        copies = r.copies ∙ (ap (λ cs. cs ++ r.new) a.copies ∙ append_assoc s.copies a.new r.new);
        matched = matched-append Defined a.new r.new (made_by here) (flat_map made_by rest)
            a.matched r.matched;
      }
