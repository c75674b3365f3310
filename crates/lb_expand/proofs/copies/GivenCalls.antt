-- The inputs that the copies of expressions and instances give.
use Rattle.lb_expand.proofs.Words
use Words.{◌≡◌, ℕ, suc, ◌+◌, ◌<◌, ◌≤◌, cond, nat_eq, Option, Some, None, List, [], ◌∷◌, ◌++◌, map}
use Words.{length, flat_map, refl, sym, ap, ap₂, ◌∙◌, subst, arith, range_with_len, map-append}
use Words.{length-map, ArrayIterator, Every, some_of, listed, Name, Static, Node_named, Symbol}
use Words.{Expr, Literal, Truth, Variable, Group, Unary, Binary, If, Arrow, Fby, Pre, Current, When}
use Words.{Replicate, Index, Slice, Join, Array, AtMostOne, Nor, Call, Iterate, Exprs, Nil, Cons}
use Words.{Declaration, Node, heads_same, tails_same, named, Program, Instance, Path, Child, Site}
use Words.{sites, sites_in, call_site, numbered_sites, static_count, callee_of}
use Words.{node_named, DataType, variables, are_types, data_types, all_types, operator_types}
use Words.{Stream, argument_clocks, Occurrence, call_count, call_clocks, occurrences}
use Words.{occurrences_in, occurrences_each, History, all_streams, number, iterator_inputs}
use Words.{first_of_all, truly, FlatClock, FlatEquation, Layout, flat_clock, State, Target, targets}
use Words.{copied, received, call_copies, iterator_copies, emit_name, emit, emit_all, emit_each}
use Words.{Statement, Equation, Assertion, node_sites, statement_sites, children, left_names, at}
use Words.{statement_clock, right_sides, joins, assert, emit_body, emit_instances}
use Rattle.{std.specs.List.zip, lb_static.specs.Instances.site_instances}
use Rattle.lb_check.{specs.Clocks.Clock, proofs.programs.OccurrenceParts.as_many_clocks}
use Rattle.lb_check.proofs.programs.OccurrenceSites.{numbered_append}
use Rattle.lb_flat.proofs.lists.Lists.{Every-first, Every-second, Every-of_range}
use Rattle.lb_expand.proofs.emission.EmissionSteps.{add_copies, keep_copies, nor_copies}
use Rattle.lb_expand.proofs.emission.EmissionSteps.{at_most_one_copies, symbol_copies}
use Rattle.lb_expand.proofs.lists.Lists.{map-pieces, total, total-append, total-pieces, total-map}
use Rattle.lb_expand.proofs.{lists.Lists.{total-same, times}, solutions.Emission.joins_copies}
use Rattle.lb_expand.proofs.solutions.Placing.{AreAsWide}
use Rattle.lb_expand.proofs.solutions.Solving.{IsWide, assert_copies, occurrences_of}
use Rattle.lb_expand.proofs.widths.FoundWidths.{length-inputs, all_as_many, each_as_many}
use Rattle.lb_expand.proofs.widths.FoundWidths.{length-pieces, as_many}
use Rattle.lb_expand.proofs.widths.{PlacedCalls.{call_as_wide, iterator_as_wide}, TypeFacts.bound}
use Rattle.lb_expand.proofs.widths.Widths.{called, placed, number_is, AreVariablesWide}
use Rattle.lb_expand.proofs.widths.Widths.{IsOccurrenceWide, IsTypedAt}

-- The copies that an expression emits give the inputs of the instances that its calls have: each
-- element as often as it stands among these inputs.

-- the elements that equations give
abbrev pub element_numbers : List FlatEquation → List ℕ
element_numbers qs = map (λ q. q.element) qs

-- ## Copies

pub target_places :
    (k : FlatClock) (is : List ℕ) →
    is ≡ map (λ t. t.place) (map (λ i. let t : Target = record { place = i; clock = k } in t) is)
target_places k [] = refl
target_places k (i ∷ is) = ap (λ js. i ∷ js) (target_places k is)

pub copied_gives :
    (ts : List Target) (js : List ℕ) → length ts ≡ length js →
    element_numbers (copied ts js) ≡ map (λ t. t.place) ts
copied_gives [] js e = refl
copied_gives (t ∷ ts) [] e = absurd (omega arith)
copied_gives (t ∷ ts) (j ∷ js) e = ap (λ is. t.place ∷ is) (copied_gives ts js (omega arith))

-- where `f` gives `Some (g a)` for each `a`, `some_of (map f xs)` is `map g xs`
some_all : {A B : Type 0} (f : A → Option B) (g : A → B) → ((a : A) → f a ≡ Some (g a)) →
    (xs : List A) → some_of (map f xs) ≡ map g xs
some_all f g e [] = refl
some_all f g e (x ∷ xs) = cc (e x, some_all f g e xs)

module _ (Y : Layout) (H : History)
    (same : (p : Path) (x : Name) → length (Y.places p x) ≡ length (H.columns p x)) where
  -- where an instance is as wide as what it receives, the copies give all elements of its inputs
  pub received_gives :
      (callee : Node) (p : Path) (ds : List Declaration) (iss : List (List ℕ))
      (xsss : List (List Stream)) → AreAsWide H p ds xsss → map length iss ≡ map length xsss →
      element_numbers (received Y callee p ds iss) ≡ flat_map (λ d. Y.places p d.name) ds
  received_gives callee p [] iss xsss w e = refl
  received_gives callee p (d ∷ ds) iss [] w e = absurd w
  received_gives callee p (d ∷ ds) [] (xs ∷ xsss) w e = absurd cc
  received_gives callee p (d ∷ ds) (is ∷ iss) (xs ∷ xsss) w e =
      let ts = targets Y callee p d.name in
      let as_long : length ts ≡ length is =
      length-map (Y.places p d.name) _ ∙ (same p d.name ∙ (w.0 ∙ sym (heads_same _ _ _ _ e))) in
      map-append (λ q. q.element) (copied ts is) (received Y callee p ds iss)
      ∙ ap₂ (λ xs ys. xs ++ ys)
      (copied_gives ts is as_long ∙ sym (target_places _ (Y.places p d.name)))
      (received_gives callee p ds iss xsss w.1 (tails_same _ _ _ _ e))

-- ## Calls

-- how often element `i` stands among the inputs of an instance, and among the inputs of all
-- instances of a call
abbrev pub in_inputs : Layout → ℕ → Instance → ℕ
in_inputs Y i c = times i (flat_map (λ d. Y.places c.path d.name) c.node.inputs)

abbrev pub in_site : Layout → Program → ℕ → Instance → ℕ × Site → ℕ
in_site Y P i here s = total (in_inputs Y i) (site_instances P here s)

-- how often some equations give element `i`
abbrev pub given_in : ℕ → List FlatEquation → ℕ
given_in i qs = times i (element_numbers qs)

pub given-append : (i : ℕ) (qs rs : List FlatEquation) →
    given_in i (qs ++ rs) ≡ given_in i qs + given_in i rs
given-append i qs rs =
    ap (times i) (map-append (λ q. q.element) qs rs)
    ∙ total-append (λ j. cond (nat_eq i j) 1 0) (element_numbers qs) (element_numbers rs)

-- how often element `i` stands among the elements of the variables `xs` of an instance
abbrev pub in_names : Layout → ℕ → Instance → List Name → ℕ
in_names Y i here xs = total (λ d. cond (nat_eq i d) 1 0) (flat_map (Y.places here.path) xs)

-- how often the copies of an instance give element `i`
abbrev pub in_instance : Layout → Program → ℕ → Instance → ℕ
in_instance Y P i here =
    total (in_inputs Y i) (children P here)
    + in_names Y i here (flat_map left_names here.node.body)

names-append :
    (Y : Layout) (i : ℕ) (here : Instance) (xs ys : List Name) →
    in_names Y i here (xs ++ ys) ≡ in_names Y i here xs + in_names Y i here ys
names-append Y i here xs ys =
    let one = λ (d : ℕ). cond (nat_eq i d) 1 0 in
    total-pieces one (Y.places here.path) (xs ++ ys)
    ∙ (total-append (λ x. total one (Y.places here.path x)) xs ys
    ∙ ap₂ (λ a b. a + b) (sym (total-pieces one (Y.places here.path) xs))
    (sym (total-pieces one (Y.places here.path) ys)))

module _ (Y : Layout) (P : Program) (H : History) (here : Instance)
    (same : (p : Path) (x : Name) → length (Y.places p x) ≡ length (H.columns p x))
    (wide : AreVariablesWide P H here here) (i : ℕ) where
  abbrev of_inputs : Instance → ℕ
  of_inputs c = in_inputs Y i c

  abbrev of_site : ℕ × Site → ℕ
  of_site s = in_site Y P i here s

  abbrev count_in : List FlatEquation → ℕ
  count_in qs = given_in i qs

  -- `t` has the copies of `s` and the copies for the inputs of these calls
  pub record Adds (s t : State) (ns : List (ℕ × Site)) : Type 0 where
    pub sum : count_in t.copies ≡ count_in s.copies + total of_site ns

  adds_none : {s t : State} → t.copies ≡ s.copies → Adds s t []
  adds_none e = record { sum = ap count_in e ∙ omega arith }

  adds_after :
      {s t u : State} {ns : List (ℕ × Site)} → Adds s t ns → u.copies ≡ t.copies → Adds s u ns
  adds_after a e = record { sum = ap count_in e ∙ a.sum }

  adds_two :
      {s t u : State} (n : ℕ) (ss ss' : List Site) → Adds s t (numbered_sites n ss) → Adds t u
      (numbered_sites (n + length ss) ss') → Adds s u (numbered_sites n (ss ++ ss'))
  adds_two n ss ss' a b =
      let first = numbered_sites n ss in
      let second = numbered_sites (n + length ss) ss' in
      let all : total of_site (numbered_sites n (ss ++ ss')) ≡ total of_site first
      + total of_site second =
      cc (numbered_append n ss ss', total-append of_site first second) in
      record { sum = omega (arith, a.sum, b.sum, all) }

  -- a call adds its copies behind the copies of the calls in its arguments
  adds_call :
      {s t u : State} (qs : List FlatEquation) (n : ℕ) (site : Site) (ss : List Site) → Adds s t
      (numbered_sites (n + 1) ss) → u.copies ≡ t.copies ++ qs → count_in qs ≡ of_site (n, site) →
      Adds s u (numbered_sites n (site ∷ ss))
  adds_call {t = t} {u = u} qs n site ss a e f =
      let next : n + 1 ≡ suc n = omega arith in
      let later = ap (λ m. total of_site (numbered_sites m ss)) next in
      let all = ap count_in e ∙ given-append i t.copies qs in
      record { sum = omega (arith, later, all, a.sum, f) }

  -- ## One call

  abbrev Parts : List Occurrence → Type 0
  Parts os = Every (IsTypedAt P H here) os

  fore : (os os' : List Occurrence) → Parts (os ++ os') → Parts os
  fore os os' h = Every-first (IsTypedAt P H here) os os' h

  aft : (os os' : List Occurrence) → Parts (os ++ os') → Parts os'
  aft os os' h = Every-second (IsTypedAt P H here) os os' h

  abbrev is_typed_call : Clock → ℕ → Expr → Type 0
  is_typed_call k n e = IsTypedAt P H here (record { expr = e; clock = k; calls_before = n })

  -- a typed call has no more arguments than clocks for them
  pub clocks_enough :
      (k : Clock) (f : Name) (statics : List Static) (es : Exprs) (ts : List DataType) →
      data_types P here (Call f statics es) ≡ Some ts →
      (us : List DataType) × (all_types P here es ≡ Some us)
      × (length us ≤ length (call_clocks k (node_named P f) es))
  clocks_enough k f statics es ts e =
      let o = bound (operator_types P here (Node_named f statics)) _ ts e in
      let a = bound (all_types P here es) _ ts o.gives in
      let t = truly (are_types o.value.0 a.value) o.value.1 ts a.gives in
      let clocks = as_many_clocks P here k f statics es ts a.value o.value o.is t.holds in
      (a.value, a.is, omega (arith, clocks))

  call_gives :
      (k : Clock) (n : ℕ) (s : State) (f : Name) (statics : List Static) (es : Exprs) →
      is_typed_call k n (Call f statics es) →
      count_in
      (call_copies Y (Child here.path n 0) (node_named P f)
      (emit_each Y P here (call_clocks k (node_named P f) es) (n + 1) s es).found)
      ≡ of_site (n, call_site f statics)
  call_gives k n s f statics es t =
      let o = bound (operator_types P here (Node_named f statics)) _ t.types t.are in
      let c = called P here f statics o.value o.is in
      let p = placed P here f statics c.callee c.is in
      let callee = c.callee.node in
      let child = Child here.path n 0 in
      let parts = subst
      (λ o. Every (IsOccurrenceWide P H here)
      (occurrences_each P here.node (call_clocks k o es) (n + 1) es)) p.node t.parts.1 in
      let as_wide = call_as_wide P H here wide k n f statics es t.types t.are t.parts.0 callee
      p.node parts in
      let found : Option Node → List (List ℕ) =
      λ o. (emit_each Y P here (call_clocks k o es) (n + 1) s es).found in
      let lengths = each_as_many Y P H here same (argument_clocks k callee es) (n + 1) s es in
      let gives =
      received_gives Y H same callee child callee.inputs (found (Some callee)) _ as_wide lengths in
      ap (λ o. count_in (call_copies Y child o (found o))) p.node
      ∙ (ap (times i) gives ∙ (omega arith
      ∙ sym (ap (λ o. total of_inputs (some_of (o ∷ []))) (p.at n 0))))

  iterator_gives :
      (k : Clock) (n : ℕ) (s : State) (it : ArrayIterator) (f : Name) (statics : List Static)
      (m : Static) (es : Exprs) → is_typed_call k n (Iterate it (Node_named f statics) m es) →
      count_in
      (iterator_copies Y here.path n it (number P here m) (node_named P f)
      (emit_all Y P here k (n + 1) s es).found)
      ≡ of_site (n, record { callee = f; arguments = statics; count = Some m })
  iterator_gives k n s it f statics m es t =
      let size = bound (static_count P here m) _ t.types t.are in
      let o = bound (operator_types P here (Node_named f statics)) _ t.types size.gives in
      let c = called P here f statics o.value o.is in
      let p = placed P here f statics c.callee c.is in
      let callee = c.callee.node in
      let count = number P here m in
      let found = (emit_all Y P here k (n + 1) s es).found in
      let site : Site = record { callee = f; arguments = statics; count = Some m } in
      let outputs : ℕ → Name → List ℕ = λ i x. Y.places (Child here.path n i) x in
      let streams : ℕ → Name → List Stream = λ i x. H.columns (Child here.path n i) x in
      let given : ℕ → List FlatEquation =
      λ i. received Y callee (Child here.path n i) callee.inputs
      (iterator_inputs outputs count it callee.outputs found i) in
      let inputs : ℕ → List ℕ =
      λ i. flat_map (λ d. Y.places (Child here.path n i) d.name) callee.inputs in
      let lengths = all_as_many Y P H here same k (n + 1) s es in
      let at : (j : ℕ) → j < count → element_numbers (given j) ≡ inputs j =
      λ j lt. received_gives Y H same callee (Child here.path n j) callee.inputs _ _
      (iterator_as_wide P H here wide k n it f statics m es t.types t.are t.parts.0.1 callee p.node
      t.parts.1 j lt)
      (length-inputs outputs streams (λ j x. same (Child here.path n j) x) count it callee.outputs
      found (all_streams P H here k (n + 1) es) j lengths) in
      let all =
      Every-of_range (λ j. times i (element_numbers (given j)) ≡ times i (inputs j)) 0 count
      (λ j lt. subst (λ j. times i (element_numbers (given j)) ≡ times i (inputs j)) (omega arith)
      (ap (times i) (at j lt))) in
      let counted = size.is ∙ ap (λ c. Some c) (sym (number_is P H here m size.value size.is)) in
      let instances : site_instances P here (n, site)
      ≡ map (λ j. record c.callee { path = Child here.path n j }) (range_with_len 0 count) =
      ap (λ o. some_of (map (callee_of P here site n) (listed (range_with_len 0) o))) counted
      ∙ some_all (callee_of P here site n) (λ j. record c.callee { path = Child here.path n j })
      (λ j. p.at n j) (range_with_len 0 count) in
      let pieces =
      sym (map-pieces (λ (q : FlatEquation). q.element) given (λ j. element_numbers (given j))
      (λ j. refl) (range_with_len 0 count)) in
      ap (λ o. count_in (iterator_copies Y here.path n it count o found)) p.node
      ∙ (ap (times i) pieces
      ∙ (total-pieces (λ j. cond (nat_eq i j) 1 0) (λ j. element_numbers (given j))
      (range_with_len 0 count)
      ∙ (total-same (λ j. times i (element_numbers (given j))) (λ j. times i (inputs j))
      (range_with_len 0 count) all
      ∙ (sym (total-map of_inputs (λ j. record c.callee { path = Child here.path n j })
      (range_with_len 0 count))
      ∙ sym (ap (total of_inputs) instances)))))

  -- ## Expressions

  name_adds : (k : Clock) (s : State) (x : Name) (o : Option Declaration) →
      Adds s (emit_name Y P here k s x o).state []
  name_adds k s x None = adds_none (add_copies (flat_clock Y here.path k) s _)
  name_adds k s x (Some d) = adds_none refl

  -- two operands, one after another
  two_added :
      (k : Clock) (n : ℕ) (s : State) (a b : Expr) →
      (let m = n + call_count a in
      let x = emit Y P here k n s a in
      let y = emit Y P here k m x.state b in
      let oa = occurrences P here.node k n a in
      let ob = occurrences P here.node k m b in
      (Parts oa → Adds s x.state (numbered_sites n (sites a))) →
      (Parts ob → Adds x.state y.state (numbered_sites m (sites b))) → Parts (oa ++ ob) →
      Adds s y.state (numbered_sites n (sites a ++ sites b)))
  two_added k n s a b left right h = adds_two n _ _ (left (fore _ _ h)) (right (aft _ _ h))

  mutual
    unfolding emit

    -- the copies of a typed expression give the inputs of its calls
    pub calls_added :
        (k : Clock) (n : ℕ) (s : State) (e : Expr) → Parts (occurrences P here.node k n e) →
        Adds s (emit Y P here k n s e).state (numbered_sites n (sites e))
    calls_added k n s (Literal m) h = adds_none (add_copies (flat_clock Y here.path k) s _)
    calls_added k n s (Truth b) h = adds_none (add_copies (flat_clock Y here.path k) s _)
    calls_added k n s (Variable x) h = name_adds k s x (named (λ d. d.name) x (variables here.node))
    calls_added k n s (Group a) h = calls_added k n s a h
    calls_added k n s (Unary op a) h = adds_after (calls_added k n s a h.1) (add_copies _ _ _)
    calls_added k n s (Binary op a b) h =
        adds_after (two_added k n s a b (calls_added k n s a) (calls_added k _ _ b) h.1)
        (add_copies _ _ _)
    calls_added k n s (If c a b) h =
        let m = n + call_count c in
        let z = emit Y P here k n s c in
        adds_after
        (adds_two n (sites c) (sites a ++ sites b) (calls_added k n s c (fore _ _ h.1))
        (two_added k m z.state a b (calls_added k m z.state a) (calls_added k _ _ b) (aft _ _ h.1)))
        (add_copies _ _ _)
    calls_added k n s (Arrow a b) h =
        adds_after (two_added k n s a b (calls_added k n s a) (calls_added k _ _ b) h.1)
        (add_copies _ _ _)
    calls_added k n s (Fby a b) h =
        adds_after (two_added k n s a b (calls_added k n s a) (calls_added k _ _ b) h.1)
        (add_copies _ _ _ ∙ (add_copies _ _ _ ∙ keep_copies _))
    calls_added k n s (Pre a) h =
        adds_after (calls_added k n s a h.1) (add_copies _ _ _ ∙ keep_copies _)
    calls_added k n s (When a y sign) h = adds_after (calls_added _ n s a h.1) (add_copies _ _ _)
    calls_added k n s (Current a) h =
        adds_after (calls_added _ n s a h.1) (add_copies _ _ _ ∙ keep_copies _)
    calls_added k n s (Replicate a m) h = calls_added k n s a h.1
    calls_added k n s (Index a j) h = calls_added k n s a h.1
    calls_added k n s (Slice a j l) h = calls_added k n s a h.1
    calls_added k n s (Join a b) h =
        two_added k n s a b (calls_added k n s a) (calls_added k _ _ b) h.1
    calls_added k n s (Array es) h = all_added k n s es h.1
    calls_added k n s (AtMostOne es) h =
        adds_after (all_added k n s es h.1) (at_most_one_copies _ _ _)
    calls_added k n s (Nor es) h = adds_after (all_added k n s es h.1) (nor_copies _ _ _)
    calls_added k n s (Call f statics es) h =
        let ks = call_clocks k (node_named P f) es in
        let r = emit_each Y P here ks (n + 1) s es in
        let u = clocks_enough k f statics es h.0.types h.0.are in
        adds_call (call_copies Y (Child here.path n 0) (node_named P f) r.found) n
        (call_site f statics) (sites_in es) (each_added ks (n + 1) s es u.0 u.1 u.2 h.1)
        (joins_copies r.state _ _) (call_gives k n s f statics es h.0)
    calls_added k n s (Iterate it (Node_named f statics) m es) h =
        let r = emit_all Y P here k (n + 1) s es in
        adds_call (iterator_copies Y here.path n it (number P here m) (node_named P f) r.found) n
        (record { callee = f; arguments = statics; count = Some m }) (sites_in es)
        (all_added k (n + 1) s es h.1) (joins_copies r.state _ _)
        (iterator_gives k n s it f statics m es h.0)
    calls_added k n s (Iterate it (Symbol op) m es) h =
        adds_after (all_added k n s es h.1) (symbol_copies _ op _ it _)

    all_added :
        (k : Clock) (n : ℕ) (s : State) (es : Exprs) → Parts (occurrences_in P here.node k n es) →
        Adds s (emit_all Y P here k n s es).state (numbered_sites n (sites_in es))
    all_added k n s Nil h = adds_none refl
    all_added k n s (Cons e es) h =
        adds_two n (sites e) (sites_in es) (calls_added k n s e (fore _ _ h))
        (all_added k (n + call_count e) (emit Y P here k n s e).state es (aft _ _ h))

    each_added :
        (ks : List Clock) (n : ℕ) (s : State) (es : Exprs) (us : List DataType) →
        all_types P here es ≡ Some us → length us ≤ length ks →
        Parts (occurrences_each P here.node ks n es) →
        Adds s (emit_each Y P here ks n s es).state (numbered_sites n (sites_in es))
    each_added ks n s Nil us e le h = adds_none refl
    each_added [] n s (Cons e es) us is le h =
        let f = first_of_all P here e es us is in
        absurd (omega (arith, le, ap length f.all))
    each_added (k ∷ ks) n s (Cons e es) us is le h =
        let f = first_of_all P here e es us is in
        adds_two n (sites e) (sites_in es) (calls_added k n s e (fore _ _ h))
        (each_added ks (n + call_count e) (emit Y P here k n s e).state es f.rest f.others
        (omega (arith, le, ap length f.all)) (aft _ _ h))

  -- ## Statements

  abbrev left_targets : List Name → List Target
  left_targets lefts = flat_map (targets Y here.node here.path) lefts

  lefts_places : (lefts : List Name) →
      map (λ t. t.place) (left_targets lefts) ≡ flat_map (Y.places here.path) lefts
  lefts_places lefts =
      sym (map-pieces (λ (t : Target). t.place) (targets Y here.node here.path)
      (Y.places here.path) (λ x. target_places _ _) lefts)

  -- the copies of these statements give their left variables and the inputs of their calls
  record AddsBody (s t : State) (n : ℕ) (body : List Statement) : Type 0 where
    sum :
        count_in t.copies
        ≡ count_in s.copies
        + (total of_site (numbered_sites n (flat_map statement_sites body))
        + in_names Y i here (flat_map left_names body))

  lefts_given :
      (k : _) (n : ℕ) (s : State) (lefts : List Name) (e : _) →
      IsWide P H here (Equation lefts e) (at k n e) →
      count_in (copied (left_targets lefts) (emit Y P here k n s e).found)
      ≡ in_names Y i here lefts
  lefts_given k n s lefts e w =
      let found = (emit Y P here k n s e).found in
      let as_long : length (left_targets lefts) ≡ length found =
      sym (length-map (left_targets lefts) (λ t. t.place))
      ∙ (ap length (lefts_places lefts)
      ∙ (length-pieces (Y.places here.path) (H.columns here.path) (same here.path) lefts
      ∙ (w ∙ sym (as_many Y P H here same k n s e)))) in
      ap (total (λ d. cond (nat_eq i d) 1 0))
      (copied_gives (left_targets lefts) found as_long ∙ lefts_places lefts)

  -- the sites of a statement come before those of the rest
  sites_split :
      (n : ℕ) (e : Expr) (rest : List Statement) →
      total of_site (numbered_sites n (sites e ++ flat_map statement_sites rest))
      ≡ total of_site (numbered_sites n (sites e))
      + total of_site (numbered_sites (n + call_count e) (flat_map statement_sites rest))
  sites_split n e rest =
      ap (total of_site) (numbered_append n (sites e) (flat_map statement_sites rest))
      ∙ total-append of_site (numbered_sites n (sites e)) _

  body_added :
      (n : ℕ) (s : State) (body : List Statement) →
      Every (λ s. IsWide P H here s.0 s.1) (zip body (right_sides P here.node n body)) →
      Every (IsTypedAt P H here) (occurrences_of P here.node (right_sides P here.node n body)) →
      AddsBody s (emit_body Y P here n s body) n body
  unfolding emit_body
  body_added n s [] w h = record { sum = omega arith }
  body_added n s (Assertion e ∷ rest) w h =
      let k = statement_clock P here.node (Assertion e) in
      let m = n + call_count e in
      let x = emit Y P here k n s e in
      let oa = occurrences P here.node k n e in
      let ob = occurrences_of P here.node (right_sides P here.node m rest) in
      let a = calls_added k n s e (Every-first (IsTypedAt P H here) oa ob h) in
      let r = body_added m (assert x) rest w.1 (Every-second (IsTypedAt P H here) oa ob h) in
      let split = sites_split n e rest in
      record { sum = omega (arith, a.sum, r.sum, split, ap count_in (assert_copies x)) }
  body_added n s (Equation lefts e ∷ rest) w h =
      let k = statement_clock P here.node (Equation lefts e) in
      let m = n + call_count e in
      let x = emit Y P here k n s e in
      let qs = copied (left_targets lefts) x.found in
      let t = (joins x.state qs []).state in
      let oa = occurrences P here.node k n e in
      let ob = occurrences_of P here.node (right_sides P here.node m rest) in
      let a = calls_added k n s e (Every-first (IsTypedAt P H here) oa ob h) in
      let r = body_added m t rest w.1 (Every-second (IsTypedAt P H here) oa ob h) in
      let split = sites_split n e rest in
      let kept : count_in t.copies ≡ count_in x.state.copies + count_in qs =
      ap count_in (joins_copies x.state qs []) ∙ given-append i x.state.copies qs in
      let own = lefts_given k n s lefts e w.0 in
      let names = names-append Y i here lefts (flat_map left_names rest) in
      record { sum = omega (arith, a.sum, r.sum, split, kept, own, names) }

-- The copies of all instances give the inputs of what each calls, and its left variables.

module _ (Y : Layout) (P : Program) (H : History)
    (same : (p : Path) (x : Name) → length (Y.places p x) ≡ length (H.columns p x)) (i : ℕ) where
  -- an instance whose variables and statements are typed, with their widths
  pub record IsReady (here : Instance) : Type 0 where
    pub variables : AreVariablesWide P H here here
    pub wide :
        Every (λ s. IsWide P H here s.0 s.1)
        (zip here.node.body (right_sides P here.node 0 here.node.body))
    pub typed :
        Every (IsTypedAt P H here)
        (occurrences_of P here.node (right_sides P here.node 0 here.node.body))

  -- the copies of some instances give what each calls and defines
  pub instances_added :
      (s : State) (is : List Instance) → Every IsReady is →
      given_in i (emit_instances Y P s is).copies
      ≡ given_in i s.copies + total (in_instance Y P i) is
  unfolding emit_instances
  instances_added s [] h = omega arith
  instances_added s (here ∷ rest) h =
      let t = emit_body Y P here 0 s here.node.body in
      let a = body_added Y P H here same h.0.variables i 0 s here.node.body h.0.wide h.0.typed in
      let r = instances_added t rest h.1 in
      let calls : total (in_inputs Y i) (children P here)
      ≡ total (in_site Y P i here) (numbered_sites 0 (node_sites here.node)) =
      total-pieces (in_inputs Y i) (site_instances P here)
      (numbered_sites 0 (node_sites here.node)) in
      omega (arith, a.sum, r, calls)
