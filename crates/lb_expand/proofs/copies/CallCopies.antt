-- The copies that an instance emits for its calls.
use Rattle.lb_expand.proofs.Words
use Words.{Array, Arrow, Assertion, AtMostOne, Binary, Bool, Call, Child, Cons, Current, DataType}
use Words.{Declaration, Emitted, Equation, Every, Every-append, Every-first, Every-second, Expr}
use Words.{Exprs, Fby, FlatEquation, Group, If, In, Index, Instance, Iterate, Join, Layout, List}
use Words.{Literal, Name, Nil, Node_named, None, Nor, Occurrence, On, Operation, Option, Pre}
use Words.{Program, Replicate, Slice, Some, State, Statement, Static, Symbol, Truth, Unary}
use Words.{Variable, When, [], add, all_some, all_types, ap, are_types, as_variable, assert, bound}
use Words.{bytes_eq, bytes_eq-Decides, call_clocks, call_copies, call_count, cond, copied}
use Words.{data_types, emit, emit_all, emit_body, emit_each, emit_instances, false, first_of_all}
use Words.{flat_clock, flat_map, found_in, found_name, given_outputs, heads_same, inl, inr, is_type}
use Words.{iterator_copies, joins, keep, length, listed, map, named, node_named, node_occurrences}
use Words.{number, occurrences, occurrences_each, occurrences_in, outputs_of, received, refl}
use Words.{right_sides, same_Some, singly, statement_clock, statements, subst, sym, targets, true}
use Words.{type_of_name, ungrouped, variable_type, variables, width, zip, ℕ, ◌++◌, ◌+◌, ◌∙◌, ◌∷◌}
use Words.{◌≡◌}
use Rattle.lb_check.specs.Clocks.{Clock, given_inputs}
use Rattle.lb_expand.proofs.emission.EmissionSteps.{Copies, add_copies, at_most_one_copies, copying}
use Rattle.lb_expand.proofs.emission.EmissionSteps.{keep_copies, name_step, nor_copies}
use Rattle.lb_expand.proofs.emission.EmissionSteps.{symbol_copies}
use Rattle.lb_expand.proofs.numbering.ReceivedInputs.{copied_append, target_count}
use Rattle.lb_expand.proofs.solutions.{Emission.joins_copies, Solving.assert_copies}
use Rattle.lb_expand.proofs.{solutions.Solving.occurrences_of, widths.TypeFacts.{each, same_count}}
use Rattle.lb_expand.proofs.widths.TypeFacts.{types_first, width_of}

-- The copies that an instance emits: for each call in its text, copies into the inputs of its
-- callee, and for each equation, copies into its left variables.

none_is : {A : Type 0} (x : A) → None ≡ Some x → ⊥
none_is x e = cc

module _ (Y : Layout) (P : Program) (cs : List FlatEquation) where
  -- the equations `qs` are among `cs`
  abbrev pub Within : List FlatEquation → Type 0
  Within qs = Every (λ q. In q cs) qs

  module _ (here : Instance) where
    -- the copies of a call are among `cs`, where its arguments are emitted after some state
    abbrev pub CopiedAt : Clock → ℕ → Expr → Type 0
    CopiedAt k n (Call f statics es) =
        (s : State)
        × Within
        (call_copies Y (Child here.path n 0) (node_named P f)
        (emit_each Y P here (call_clocks k (node_named P f) es) (n + 1) s es).found)
    CopiedAt k n (Iterate it (Node_named f statics) m es) =
        (s : State)
        × Within
        (iterator_copies Y here.path n it (number P here m) (node_named P f)
        (emit_all Y P here k (n + 1) s es).found)
    CopiedAt k n e = Unit {0}

    abbrev pub IsCopied : Occurrence → Type 0
    IsCopied o = CopiedAt o.clock o.calls_before o.expr

    -- the copies of an equation are among `cs`, where its right side is emitted after some state
    abbrev pub LeftCopiedAt : Clock → ℕ → Statement → Type 0
    LeftCopiedAt k n (Equation lefts e) =
        (s : State)
        × Within
        (copied (flat_map (targets Y here.node here.path) lefts) (emit Y P here k n s e).found)
    LeftCopiedAt k n (Assertion e) = Unit {0}

    abbrev pub IsLeftCopied : Statement × Occurrence → Type 0
    IsLeftCopied t = LeftCopiedAt t.1.clock t.1.calls_before t.0

    -- the copies of the state `s` and of the occurrences `os` are among `cs`
    pub record AreThere (s : State) (os : List Occurrence) : Type 0 where
      pub before : Within s.copies
      pub calls : Every IsCopied os

    next :
        {s : State} {o : Occurrence} {os : List Occurrence} → IsCopied o → AreThere s os → AreThere
        s (o ∷ os)
    next c h = record { before = h.before; calls = (c, h.calls) }

    both :
        {s t : State} {os os' : List Occurrence} → (Within t.copies → AreThere s os) → AreThere t
        os' → AreThere s (os ++ os')
    both {os = os} {os' = os'} f h =
        let g = f h.before in
        record { before = g.before; calls = Every-append IsCopied os os' g.calls h.calls }

    nothing : {s : State} → Within s.copies → AreThere s []
    nothing h = record { before = h; calls = tt }

    -- if the copies after `add` are among `cs`, so are the copies before it
    before_add : (k : Clock) (s : State) (os : List Operation) →
        Within (add (flat_clock Y here.path k) s os).state.copies → Within s.copies
    before_add k s os h = subst Within (add_copies (flat_clock Y here.path k) s os) h

    before_keep : (x : Emitted) → Within (keep x).state.copies → Within x.state.copies
    before_keep x h = subst Within (keep_copies x) h

    -- the occurrences of two operands, one after another, have their copies in `cs`
    two_copies :
        (k : Clock) (n : ℕ) (s : State) (a b : Expr) →
        (let x = emit Y P here k n s a in
        (Within x.state.copies → AreThere s (occurrences P here.node k n a)) →
        AreThere x.state (occurrences P here.node k (n + call_count a) b) →
        AreThere s
        (occurrences P here.node k n a ++ occurrences P here.node k (n + call_count a) b))
    two_copies k n s a b f h = both f h

    mutual
      unfolding emit

      pub copies_there :
          (k : Clock) (n : ℕ) (s : State) (e : Expr) →
          Within (emit Y P here k n s e).state.copies →
          AreThere s (occurrences P here.node k n e)
      copies_there k n s (Literal m) h = next tt (nothing (before_add k s _ h))
      copies_there k n s (Truth b) h = next tt (nothing (before_add k s _ h))
      copies_there k n s (Variable x) h =
          next tt (nothing (subst Within (name_step Copies copying Y P here k s x _) h))
      copies_there k n s (Group a) h = copies_there k n s a h
      copies_there k n s (Unary op a) h = next tt (copies_there k n s a (before_add k _ _ h))
      copies_there k n s (Binary op a b) h =
          next tt (two_copies k n s a b (copies_there k n s a)
          (copies_there k _ _ b (before_add k _ _ h)))
      copies_there k n s (If c a b) h =
          let na = n + call_count c in
          let z = emit Y P here k n s c in
          next tt (both (copies_there k n s c)
          (two_copies k na z.state a b (copies_there k na z.state a)
          (copies_there k _ _ b (before_add k _ _ h))))
      copies_there k n s (Arrow a b) h =
          next tt (two_copies k n s a b (copies_there k n s a)
          (copies_there k _ _ b (before_add k _ _ h)))
      copies_there k n s (Fby a b) h =
          next tt (two_copies k n s a b (copies_there k n s a)
          (copies_there k _ _ b (before_keep _ (before_add k _ _ (before_add k _ _ h)))))
      copies_there k n s (Pre a) h =
          next tt (copies_there k n s a (before_keep _ (before_add k _ _ h)))
      copies_there k n s (When a x sign) h =
          next tt (copies_there _ n s a (before_add (On _ x sign) _ _ h))
      copies_there k n s (Current a) h =
          next tt (copies_there _ n s a (before_keep _ (before_add k _ _ h)))
      copies_there k n s (Replicate a m) h = next tt (copies_there k n s a h)
      copies_there k n s (Index a i) h = next tt (copies_there k n s a h)
      copies_there k n s (Slice a i j) h = next tt (copies_there k n s a h)
      copies_there k n s (Join a b) h =
          next tt (two_copies k n s a b (copies_there k n s a) (copies_there k _ _ b h))
      copies_there k n s (Array es) h = next tt (row_copies k n s es h)
      copies_there k n s (AtMostOne es) h =
          next tt (row_copies k n s es (subst Within (at_most_one_copies _ _ _) h))
      copies_there k n s (Nor es) h =
          next tt (row_copies k n s es (subst Within (nor_copies _ _ _) h))
      copies_there k n s (Call f statics es) h =
          let child = Child here.path n 0 in
          let ks = call_clocks k (node_named P f) es in
          let r = emit_each Y P here ks (n + 1) s es in
          let all = subst Within (joins_copies r.state _ _) h in
          next (s, Every-second (λ q. In q cs) r.state.copies _ all)
          (each_copies ks (n + 1) s es (Every-first (λ q. In q cs) r.state.copies _ all))
      copies_there k n s (Iterate it (Node_named f statics) m es) h =
          let count = number P here m in
          let r = emit_all Y P here k (n + 1) s es in
          let all = subst Within (joins_copies r.state _ _) h in
          next (s, Every-second (λ q. In q cs) r.state.copies _ all)
          (row_copies k (n + 1) s es (Every-first (λ q. In q cs) r.state.copies _ all))
      copies_there k n s (Iterate it (Symbol op) m es) h =
          next tt (row_copies k n s es (subst Within (symbol_copies _ op _ it _) h))

      row_copies :
          (k : Clock) (n : ℕ) (s : State) (es : Exprs) →
          Within (emit_all Y P here k n s es).state.copies →
          AreThere s (occurrences_in P here.node k n es)
      row_copies k n s Nil h = nothing h
      row_copies k n s (Cons e es) h = both (copies_there k n s e) (row_copies k _ _ es h)

      each_copies :
          (ks : List Clock) (n : ℕ) (s : State) (es : Exprs) →
          Within (emit_each Y P here ks n s es).state.copies →
          AreThere s (occurrences_each P here.node ks n es)
      each_copies ks n s Nil h = nothing h
      each_copies [] n s (Cons e es) h = nothing h
      each_copies (k ∷ ks) n s (Cons e es) h = both (copies_there k n s e) (each_copies ks _ _ es h)

    -- ## Statements

    record AreBodyThere (s : State) (ss : List (Statement × Occurrence)) (os : List Occurrence) :
        Type 0 where
      before : Within s.copies
      calls : Every IsCopied os
      lefts : Every IsLeftCopied ss

    body_copies :
        (n : ℕ) (s : State) (body : List Statement) →
        Within (emit_body Y P here n s body).copies →
        AreBodyThere s (zip body (right_sides P here.node n body))
        (occurrences_of P here.node (right_sides P here.node n body))
    unfolding emit_body
    body_copies n s [] h = record { before = h; calls = tt; lefts = tt }
    body_copies n s (Assertion e ∷ rest) h =
        let m = n + call_count e in
        let r = body_copies m (assert _) rest h in
        let a = copies_there _ n s e (subst Within (assert_copies _) r.before) in
        record {
          before = a.before;
          calls = Every-append IsCopied (occurrences P here.node _ n e)
              (occurrences_of P here.node (right_sides P here.node m rest)) a.calls r.calls;
          lefts = (tt, r.lefts);
        }
    body_copies n s (Equation lefts e ∷ rest) h =
        let k = statement_clock P here.node (Equation lefts e) in
        let m = n + call_count e in
        let x = emit Y P here k n s e in
        let r = body_copies m (joins x.state _ []).state rest h in
        let all = subst Within (joins_copies x.state _ []) r.before in
        let a = copies_there k n s e (Every-first (λ q. In q cs) x.state.copies _ all) in
        record {
          before = a.before;
          calls = Every-append IsCopied (occurrences P here.node k n e)
              (occurrences_of P here.node (right_sides P here.node m rest)) a.calls r.calls;
          lefts = ((s, Every-second (λ q. In q cs) x.state.copies _ all), r.lefts);
        }

  -- ## Instances

  -- an instance whose calls and equations have their copies in `cs`
  pub record HasCopies (here : Instance) : Type 0 where
    pub calls : Every (IsCopied here) (node_occurrences P here.node)
    pub lefts : Every (IsLeftCopied here) (statements P here.node)

  -- if all emitted copies are among `cs`, so are the copies of each instance
  pub all_copied :
      (s : State) (is : List Instance) → Within (emit_instances Y P s is).copies →
      Within s.copies × Every HasCopies is
  unfolding emit_instances
  all_copied s [] h = (h, tt)
  all_copied s (here ∷ rest) h =
      let t = emit_body Y P here 0 s here.node.body in
      let r = all_copied t rest h in
      let a = body_copies here 0 s here.node.body r.0 in
      (a.before, (record { calls = a.calls; lefts = a.lefts }, r.1))

-- A variable that a call gives to an input of its callee is copied as it is, and so is an output to
-- its left variable: both have equally many elements.

-- ## Copies of several variables

module _ (Y : Layout) (P : Program) (here : Instance) where
  -- ## The elements found for a variable

  pub emit_variable :
      (k : Clock) (n : ℕ) (s : State) (e : Expr) (x : Name) (d : Declaration) →
      as_variable e ≡ Some x → named (λ d. d.name) x (variables here.node) ≡ Some d →
      (emit Y P here k n s e).found ≡ Y.places here.path x
  unfolding emit
  emit_variable k n s (Variable z) x d e is = cc (found_name x (variables here.node) d is)
  emit_variable k n s (Group a) x d e is = emit_variable k n s a x d e is
  emit_variable k n s _ x d e is = absurd (none_is x e)

  each_found :
      (k : Clock) (ks : List Clock) (n : ℕ) (s : State) (e : Expr) (es : Exprs) →
      (emit_each Y P here (k ∷ ks) n s (Cons e es)).found
      ≡ (emit Y P here k n s e).found
      ∷ (emit_each Y P here ks (n + call_count e) (emit Y P here k n s e).state es).found
  unfolding emit
  each_found k ks n s e es = refl

  -- a call finds the elements of the outputs of its instance
  pub call_found :
      (k : Clock) (n : ℕ) (s : State) (f : Name) (statics : List Static) (es : Exprs) →
      (emit Y P here k n s (Call f statics es)).found
      ≡ flat_map (λ o. Y.places (Child here.path n 0) o.name) (outputs_of P here f)
  unfolding emit joins
  call_found k n s f statics es = refl

  pub grouped_found :
      (k : Clock) (n : ℕ) (s : State) (e : Expr) →
      (emit Y P here k n s e).found ≡ (emit Y P here k n s (ungrouped e)).found
  unfolding emit
  grouped_found k n s (Group a) = grouped_found k n s a
  grouped_found k n s _ = refl

  -- ## Types of variables

  variable_types :
      (e : Expr) (x : Name) (v : Declaration) → as_variable e ≡ Some x →
      named (λ d. d.name) x (variables here.node) ≡ Some v →
      data_types P here e ≡ singly (variable_type P here v)
  variable_types (Variable z) x v e is = cc
  variable_types (Group a) x v e is = variable_types a x v e is
  variable_types _ x v e is = absurd (none_is x e)

  singled : (o : Option DataType) (t : DataType) → singly o ≡ Some (t ∷ []) → o ≡ Some t
  singled None t e = absurd cc
  singled (Some u) t e = ap Some (heads_same u t [] [] (same_Some (u ∷ []) (t ∷ []) e))

  -- ## Arguments

  module _ (c : Instance) (cs : List FlatEquation) where
    -- the input `x` is a copy of the caller's variable `y`, and both have equally many elements
    pub record IsArgument (ds : List Declaration) (x : Name) (v : Declaration) (y : Name) : Type 0
      where
        pub input : Declaration
        pub among : In input ds
        pub name : input.name ≡ x
        pub wide : width P c input ≡ width P here v
        pub copies : Within Y P cs (copied (targets Y c.node c.path x) (Y.places here.path y))

    further :
        (d : Declaration) (ds : List Declaration) (x : Name) (v : Declaration) (y : Name) →
        IsArgument ds x v y → IsArgument (d ∷ ds) x v y
    further d ds x v y h = record {
      input = h.input;
      among = inr h.among;
      name = h.name;
      wide = h.wide;
      copies = h.copies;
    }

    -- a given input of `d ∷ ds` is copied, if `d` is, and if the given inputs of `ds` are
    first_argument :
        (k : Clock) (d : Declaration) (ds : List Declaration) (a : Expr) (es : Exprs) (n : ℕ)
        (s : State) (t u : DataType) → variable_type P c d ≡ Some t →
        data_types P here a ≡ Some (u ∷ []) → is_type t u ≡ true → (x : Name)
        (g : Name × Name) (v : Declaration) →
        named (λ d. d.name) g.1 (variables here.node) ≡ Some v →
        Within Y P cs
        (copied (targets Y c.node c.path d.name) (emit Y P here k n s a).found) →
        (found_in (given_inputs ds es) x ≡ Some g → IsArgument ds x v g.1) →
        found_in (given_inputs (d ∷ ds) (Cons a es)) x ≡ Some g → IsArgument (d ∷ ds) x v g.1
    first_argument k d ds a es n s t u is_t is_u same x g v is first again found =
        by (as_variable a) refl found
      where
        this : (y : Name) → as_variable a ≡ Some y → d.name ≡ x → (d.name, y) ≡ g →
            IsArgument (d ∷ ds) x v g.1
        this y var name given =
            let value : y ≡ g.1 = cc in
            let own = var ∙ ap (λ z. Some z) value in
            record {
              input = d;
              among = inl refl;
              name = name;
              wide = let of_v = singled (variable_type P here v) u (sym (variable_types a g.1 v own
                  is) ∙ is_u) in width_of P c d t is_t ∙ same_count t u same
                  ∙ sym (width_of P here v u of_v);
              copies = rw (← name)
                  (subst (λ fs. Within Y P cs (copied (targets Y c.node c.path d.name) fs))
                  (emit_variable k n s a g.1 v own is) first);
            }

        by_name : (y : Name) → as_variable a ≡ Some y → (b : Bool) → bytes_eq d.name x ≡ b →
            cond b (Some (d.name, y)) (found_in (given_inputs ds es) x) ≡ Some g →
            IsArgument (d ∷ ds) x v g.1
        by_name y var true name e =
            this y var ((bytes_eq-Decides d.name x).0 name) (same_Some (d.name, y) g e)
        by_name y var false name e = further d ds x v g.1 (again e)

        by : (o : Option Name) → as_variable a ≡ o →
            found_in (listed (λ y. (d.name, y) ∷ []) o ++ given_inputs ds es) x ≡ Some g →
            IsArgument (d ∷ ds) x v g.1
        by None var e = further d ds x v g.1 (again e)
        by (Some y) var e = by_name y var (bytes_eq d.name x) refl e

    -- a variable that is given for an input is copied as it is
    pub argument_copied :
        (f : Declaration → Clock) (ds : List Declaration) (es : Exprs) (n : ℕ) (s : State)
        (ins args : List DataType) → all_some (map (variable_type P c) ds) ≡ Some ins →
        all_types P here es ≡ Some args → are_types ins args ≡ true →
        (x : Name) (g : Name × Name) → found_in (given_inputs ds es) x ≡ Some g →
        (v : Declaration) → named (λ d. d.name) g.1 (variables here.node) ≡ Some v →
        Within Y P cs (received Y c.node c.path ds (emit_each Y P here (map f ds) n s es).found) →
        IsArgument ds x v g.1
    argument_copied f (d ∷ ds) (Cons a es) n s ins args p q e x g found v is w =
        let h = each (variable_type P c d) (map (variable_type P c) ds) ins p in
        let i = first_of_all P here a es args q in
        let same = types_first h.all i.all e in
        let m = n + call_count a in
        let z = emit Y P here (f d) n s a in
        let own = copied (targets Y c.node c.path d.name) z.found in
        let rest = received Y c.node c.path ds (emit_each Y P here (map f ds) m z.state es).found in
        let all : Within Y P cs (own ++ rest) =
        subst (λ fs. Within Y P cs (received Y c.node c.path (d ∷ ds) fs))
        (each_found (f d) (map f ds) n s a es) w in
        first_argument (f d) d ds a es n s h.first i.first h.is i.is same.0 x g v is
        (Every-first (λ q. In q cs) own rest all)
        (λ later. argument_copied f ds es m z.state h.rest i.rest h.others i.others same.1 x g later
        v is (Every-second (λ q. In q cs) own rest all)) found
    argument_copied f _ _ n s ins args p q e x g found v is w = absurd (none_is g found)

    -- ## Left variables

    -- the output `x` is copied to the caller's variable `y`, and both have equally many elements
    pub record IsResult (ds : List Declaration) (x : Name) (y : Name) : Type 0 where
      pub output : Declaration
      pub among : In output ds
      pub name : output.name ≡ x
      pub left : Declaration
      pub is_left : named (λ d. d.name) y (variables here.node) ≡ Some left
      pub wide : width P c output ≡ width P here left
      pub copies : Within Y P cs (copied (targets Y here.node here.path y) (Y.places c.path x))

    further_result :
        (d : Declaration) (ds : List Declaration) (x y : Name) → IsResult ds x y →
        IsResult (d ∷ ds) x y
    further_result d ds x y h = record {
      output = h.output;
      among = inr h.among;
      name = h.name;
      left = h.left;
      is_left = h.is_left;
      wide = h.wide;
      copies = h.copies;
    }

    -- a given output of `d ∷ ds` is copied, if `d` is, and if the given outputs of `ds` are
    first_result :
        (d : Declaration) (ds : List Declaration) (y : Name) (xs : List Name) (v : Declaration) →
        named (λ d. d.name) y (variables here.node) ≡ Some v →
        width P c d ≡ width P here v → (x : Name) (g : Name × Name) →
        Within Y P cs (copied (targets Y here.node here.path y) (Y.places c.path d.name)) →
        (found_in (given_outputs ds xs) x ≡ Some g → IsResult ds x g.1) →
        found_in (given_outputs (d ∷ ds) (y ∷ xs)) x ≡ Some g → IsResult (d ∷ ds) x g.1
    first_result d ds y xs v is wide x g first again found = by (bytes_eq d.name x) refl found
      where
        this : d.name ≡ x → (d.name, y) ≡ g → IsResult (d ∷ ds) x g.1
        this name given =
            let value : y ≡ g.1 = cc in
            let of_y : IsResult (d ∷ ds) x y = record {
              output = d;
              among = inl refl;
              name = name;
              left = v;
              is_left = is;
              wide = wide;
              copies = rw (← name) first;
            } in
            rw (← value) of_y

        by : (b : Bool) → bytes_eq d.name x ≡ b →
            cond b (Some (d.name, y)) (found_in (given_outputs ds xs) x) ≡ Some g →
            IsResult (d ∷ ds) x g.1
        by true name e = this ((bytes_eq-Decides d.name x).0 name) (same_Some (d.name, y) g e)
        by false name e = further_result d ds x g.1 (again e)

    -- an output is copied to its left variable as it is
    pub result_copied :
        (ds : List Declaration) (xs : List Name) (outs lefts : List DataType) →
        Every (λ d. length (Y.places c.path d.name) ≡ width P c d) ds →
        ((v : Declaration) (x : Name) →
        named (λ d. d.name) x (variables here.node) ≡ Some v →
        length (Y.places here.path x) ≡ width P here v) →
        all_some (map (variable_type P c) ds) ≡ Some outs →
        all_some (map (type_of_name P here) xs) ≡ Some lefts → are_types outs lefts ≡ true →
        (x : Name) (g : Name × Name) → found_in (given_outputs ds xs) x ≡ Some g →
        Within Y P cs
        (copied (flat_map (targets Y here.node here.path) xs)
        (flat_map (λ o. Y.places c.path o.name) ds)) →
        IsResult ds x g.1
    result_copied (d ∷ ds) (y ∷ xs) outs lefts wide own p q e x g found w =
        let h = each (variable_type P c d) (map (variable_type P c) ds) outs p in
        let i = each (type_of_name P here y) (map (type_of_name P here) xs) lefts q in
        let same = types_first h.all i.all e in
        let v = bound (named (λ d. d.name) y (variables here.node)) (variable_type P here) i.first
        i.is in
        let width_same : width P c d ≡ width P here v.value =
        width_of P c d h.first h.is ∙ same_count h.first i.first same.0 ∙ sym
        (width_of P here v.value i.first v.gives) in
        let ts = targets Y here.node here.path y in
        let is = Y.places c.path d.name in
        let us = flat_map (targets Y here.node here.path) xs in
        let js = flat_map (λ o. Y.places c.path o.name) ds in
        let as_long : length ts ≡ length is =
        target_count Y here.node here.path y ∙ own v.value y v.is ∙ sym width_same ∙ sym wide.0 in
        let split : Within Y P cs (copied ts is ++ copied us js) =
        subst (Within Y P cs) (copied_append ts us is js as_long) w in
        first_result d ds y xs v.value v.is width_same x g
        (Every-first (λ q. In q cs) (copied ts is) (copied us js) split)
        (λ later. result_copied ds xs h.rest i.rest wide.1 own h.others i.others same.1 x g later
        (Every-second (λ q. In q cs) (copied ts is) (copied us js) split)) found
    result_copied _ _ outs lefts wide own p q e x g found w = absurd (none_is g found)
