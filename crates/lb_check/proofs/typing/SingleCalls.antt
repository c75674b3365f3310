-- Where the rules of types hold, each call has one result, apart from one that is a whole right
-- side.
use Rattle.lb_check.proofs.Words
use Words.{Array', Arrow', AtMostOne', Binary', Call', CallId, CallTypes, Child, Current', DataType}
use Words.{Fby', Group', If', Index', IsJudged, IsResolved, IterateNode', IterateSymbol', Join'}
use Words.{List, Literal, Node, Nor', Option, Pre', Program, Reached, Replicate', ResolvedNode}
use Words.{ResolvedStatement, Root, Row_of-Term, Site, Slice', Some, Specialization, Table, Term}
use Words.{Truth, Unary', Value, When', [], all_at, and_first, and_from, and_second, ap, are_equal}
use Words.{are_single, are_typed, are_types, are_within, arith, binary_type, bind_some}
use Words.{call_types_at, call_types_of, called_by, callee_types, calls_single, common_type}
use Words.{counts_of, declared_type, declared_types, drop, end_of-Term, false, holds, instance_of}
use Words.{is_call, is_node_typed, is_resolved_statement_typed, is_single, is_single_within}
use Words.{is_some, is_specialization_typed, is_statement_single, is_statement_within, is_type}
use Words.{is_within, join_type, length, length-all_some, length-append, length-drop, length-map}
use Words.{length-take, list_all, map, more_of-Term, nat_eq, nat_tests, node_named, node_of, only}
use Words.{refl, results, singly, slice_get, source_names, sym, take, true, truth, type_of}
use Words.{types_in, when_both, when_truth, where_true, ℕ, ℤ, ◌&&◌, ◌++◌, ◌>>=◌, ◌∙◌, ◌∷◌, ◌≡◌}
use Rattle.lb_check.proofs.definitions.NodePlaces.{callee_found, node_resolved, site_found}
use Rattle.lb_check.proofs.programs.InstancePaths.{callee_node}
use Rattle.lb_check.proofs.typing.{FittedTypes.specialized_instance, TypeRows.type_is_only}
use Rattle.lb_check.specs.TermTypes.{Context, context_of}
use Rattle.lb_static.specs.declared.resolved.Term.{Variable}
use Rattle.lb_static.specs.declared.resolved.ResolvedStatement.TheVariants as statement

-- ## Results that are there

first_some : {A B : Type 0} (o : Option A) (f : A → Option B) → is_some (o >>= f) ≡ true →
    is_some o ≡ true
first_some o f e = grind arith

second_some : {A B C : Type 0} (o : Option A) (p : Option B) (f : A → B → Option C) →
    is_some (o >>= λ a. p >>= f a) ≡ true → is_some p ≡ true
second_some o p f e = grind arith

third_some : {A B C D : Type 0} (o : Option A) (p : Option B) (q : Option C)
    (f : A → B → C → Option D)
    → is_some (o >>= λ a. p >>= λ b. q >>= f a b) ≡ true → is_some q ≡ true
third_some o p q f e = grind arith

under_truth : (c o : Option DataType) → is_some (when_truth c o) ≡ true → is_some o ≡ true
under_truth c o e = grind arith

one_some : (o : Option DataType) → is_some (singly o) ≡ true → is_some o ≡ true
one_some o e = grind arith

only_one : (ts : List DataType) → is_some (only ts) ≡ true → length ts ≡ 1
only_one (t ∷ []) e = refl
only_one _ e = absurd cc

-- a call with one type has one result
one_result : (ts : Option (List DataType)) (o : Option CallTypes)
    → is_some (ts >>= (λ ts. o >>= λ o. where_true (are_types o.0 ts) o.1) >>= only) ≡ true
    → (g : CallTypes) × (o ≡ Some g) × (length g.1 ≡ 1)
one_result (Some ts) (Some g) e = (g, refl, only_one g.1 (grind arith))
one_result _ _ e = absurd cc

-- results that are a truth have one type
one_truth : (o : Option (List DataType)) → are_equal o (Some (truth ∷ [])) ≡ true →
    is_some (o >>= only) ≡ true
one_truth (Some (t ∷ [])) e = refl
one_truth (Some (t ∷ u ∷ ts)) e = let no = and_second (is_type t truth) false e in absurd cc
one_truth _ e = absurd cc

equal_some : (o p : Option (List DataType)) → are_equal o p ≡ true → is_some o ≡ true
equal_some o p e = grind arith

-- ## As many outputs as their types

outputs_there : (names : _) (n : ResolvedNode) → IsResolved names n →
    length (take n.outputs (drop n.inputs n.variables.items)) ≡ n.outputs
outputs_there names n resolved =
    let node = node_of n in
    let all = resolved.as_many ∙ length-append node.inputs (node.outputs ++ node.locals) in
    let others = length-append node.outputs node.locals in
    let ins = resolved.inputs in
    let outs = resolved.outputs in
    let rest = length-drop n.inputs n.variables.items in
    let taken = length-take n.outputs (drop n.inputs n.variables.items) in
    omega (arith, all, others, ins, outs, rest, taken)

call_outputs : (statics : List ℤ) (names : _) (n : ResolvedNode) (g : CallTypes) →
    IsResolved names n → call_types_of statics n ≡ Some g → length g.1 ≡ n.outputs
call_outputs statics names n g resolved e =
    let ins = bind_some (declared_types statics (take n.inputs n.variables.items))
    (λ ins. declared_types statics
    (take n.outputs (drop n.inputs n.variables.items)) >>= λ outs. Some (ins, outs)) g e in
    let outs = bind_some (declared_types statics (take n.outputs (drop n.inputs n.variables.items)))
    (λ outs. Some (ins.0, outs)) g ins.2 in
    let same : outs.0 ≡ g.1 = second_of ins.0 outs.0 g outs.2 in
    ap length (sym same) ∙ length-all_some
    (map (declared_type statics) (take n.outputs (drop n.inputs n.variables.items))) outs.0
    outs.1
    ∙ length-map (take n.outputs (drop n.inputs n.variables.items)) (declared_type statics)
    ∙ outputs_there names n resolved
  where
    second_of : (a b : List DataType) (g : CallTypes) →
        ◌≡◌ {A = Option CallTypes} (Some (a, b)) (Some g) → b ≡ g.1
    second_of a b g e = let same : ◌≡◌ {A = CallTypes} (a, b) g = cc in ap (λ p. p.1) same

-- ## Calls

module _ (P : Program) (r : Reached) (t : Table) (j : IsJudged P r t) (i : ℕ) (s : Specialization)
    (n : ResolvedNode)
    (is : slice_get t.specializations.items i ≡ Some s)
    (at : slice_get r.nodes.items s.node.0 ≡ Some n) where
  -- the callee of a call with one type has one output
  call_single : (c : CallId) → is_call (counts_of n) c ≡ true → (g : CallTypes) →
      call_types_at r t s c ≡ Some g → length g.1 ≡ 1 → calls_single r n c ≡ true
  call_single c w g typed one =
      let called = bind_some (called_by t s c) (callee_types r) g typed in
      let id = bind_some (slice_get s.callees.items c.0)
      (λ id. slice_get t.specializations.items id.0) called.0 called.1 in
      let m = bind_some (slice_get r.nodes.items called.0.node.0)
      (call_types_of called.0.statics.items) g called.2 in
      let resolved = node_resolved P r j.names j.reached called.0.node.0 m.0 m.1 in
      let outs : m.0.outputs ≡ 1 =
      sym (call_outputs called.0.statics.items (source_names P) m.0 g resolved m.2)
      ∙ one in
      let here = instance_of Root (node_of n) s.values.items in
      let here_is = specialized_instance P r t j.reached j.table s n Root at in
      let site = site_found P r j.names j.reached s.node.0 n at c w in
      let there = specialized_instance P r t j.reached j.table called.0 m.0 (Child Root c.0 0)
      m.1 in
      let same = (j.table.specialized i s is).0.callees here here_is c.0 site.0 site.1 id.0 id.1
      called.0 id.2 in
      let named : node_named P site.0.callee ≡ Some (node_of m.0) =
      callee_node P here site.0 c.0 0
      (instance_of (Child Root c.0 0) (node_of m.0) called.0.values.items) (same ∙ there) in
      let found = callee_found P r j.names j.reached s.node.0 n at c w in
      let both : Some (node_of found.0) ≡ Some (node_of m.0) = sym found.2
      ∙ ap (λ (x : Site). node_named P x.callee) site.2 ∙ named in
      let node : node_of found.0 ≡ node_of m.0 = cc in
      let there_resolved = found.3 in
      let outputs : found.0.outputs ≡ 1 = there_resolved.outputs
      ∙ ap (λ (k : Node). length k.outputs) node ∙ sym resolved.outputs ∙ outs in
      let single : nat_eq found.0.outputs 1 ≡ true = grind (arith, nat_tests) in
      ap (holds (λ k. nat_eq k.outputs 1)) found.1 ∙ single

  abbrev ctx : Context
  ctx = context_of r t n s

  typed_call : (c : CallId) → is_call (counts_of n) c ≡ true → (ts : Option (List DataType))
      → is_some (ts >>= (λ ts. ctx.call c >>= λ o. where_true (are_types o.0 ts) o.1) >>= only) ≡
      true → calls_single r n c ≡ true
  unfolding context_of
  typed_call c w ts e =
      let g = one_result ts (call_types_at r t s c) e in
      call_single c w g.0 g.1 g.2

  -- each call in a term with one type has one result
  abbrev IsSingleTerm : Term → Type 0
  IsSingleTerm e =
      is_within (counts_of n) e ≡ true → is_some (type_of ctx e) ≡ true → is_single r n e ≡ true

  two_single : (a b : Term) (f : DataType → DataType → Option DataType) →
      (is_within (counts_of n) a && is_within (counts_of n) b) ≡ true →
      is_some (when_both (type_of ctx a) (type_of ctx b) f) ≡ true → IsSingleTerm a →
      IsSingleTerm b → (is_single r n a && is_single r n b) ≡ true
  two_single a b f w h sa sb =
      and_from _ _ (sa (and_first _ _ w) (first_some (type_of ctx a) _ h))
      (sb (and_second _ _ w) (second_some (type_of ctx a) (type_of ctx b) _ h))

  mutual
    unfolding type_of is_single

    term_single : (e : Term) → is_within (counts_of n) e ≡ true → is_some (type_of ctx e) ≡ true →
        is_single r n e ≡ true
    term_single (Literal m) w h = refl
    term_single (Truth b) w h = refl
    term_single (Variable x) w h = refl
    term_single (Value k) w h = refl
    term_single (Group' p e) w h = term_single e w h
    term_single (Unary' op p a) w h = term_single a w (first_some (type_of ctx a) _ h)
    term_single (Binary' op p a q b) w h =
        two_single a b (binary_type op) w h (λ w h. term_single a w h) (λ w h. term_single b w h)
    term_single (If' p c q a r' b) w h =
        and_from _ _ (term_single c (and_first _ _ w) (first_some (type_of ctx c) _ h))
        (two_single a b common_type (and_second _ _ w) (under_truth (type_of ctx c) _ h)
        (λ w h. term_single a w h) (λ w h. term_single b w h))
    term_single (Arrow' p a q b) w h =
        two_single a b common_type w h (λ w h. term_single a w h) (λ w h. term_single b w h)
    term_single (Fby' p a q b) w h =
        two_single a b common_type w h (λ w h. term_single a w h) (λ w h. term_single b w h)
    term_single (Pre' p e) w h = term_single e w h
    term_single (Current' p e) w h = term_single e w h
    term_single (When' p e x sign) w h =
        term_single e (and_second _ _ w)
        (under_truth (ctx.variable x) (type_of ctx e) h)
    term_single (Replicate' p e k) w h =
        term_single e (and_second _ _ w)
        (second_some (ctx.count k) (type_of ctx e) _ h)
    term_single (Index' p e k) w h =
        term_single e (and_second _ _ w)
        (second_some (ctx.count k) (type_of ctx e) _ h)
    term_single (Slice' p e k l) w h =
        term_single e (and_second _ _ (and_second _ _ w))
        (third_some (ctx.count k) (ctx.count l) (type_of ctx e) _ h)
    term_single (Join' p a q b) w h =
        two_single a b join_type w h (λ w h. term_single a w h) (λ w h. term_single b w h)
    term_single (Array' arity all) w h =
        row_single all w (first_some (types_in ctx all) _ (first_some _ only h))
    term_single (AtMostOne' arity all) w h =
        row_single all w (first_some (types_in ctx all) _ (first_some _ only h))
    term_single (Nor' arity all) w h =
        row_single all w (first_some (types_in ctx all) _ (first_some _ only h))
    term_single (Call' c arity all) w h =
        and_from _ _ (typed_call c (and_first _ _ w)
        (types_in ctx all) h) (row_single all (and_second _ _ w)
        (first_some (types_in ctx all) _ (first_some _ only h)))
    term_single (IterateNode' it c arity all) w h =
        row_single all (and_second _ _ w)
        (first_some (types_in ctx all) _ (first_some _ only h))
    term_single (IterateSymbol' it op k arity all) w h =
        row_single all (and_second _ _ w)
        (first_some (types_in ctx all) _ (first_some _ only h))

    row_single : {m : _} (row : Row_of-Term m) → are_within (counts_of n) row ≡ true →
        is_some (types_in ctx row) ≡ true → are_single r n row ≡ true
    row_single end_of-Term w h = refl
    row_single (more_of-Term e rest) w h =
        and_from _ _ (term_single e (and_first _ _ w)
        (first_some (type_of ctx e) _ h)) (row_single rest (and_second _ _ w)
        (second_some (type_of ctx e) (types_in ctx rest) _ h))

  right_single : (e : Term) → is_within (counts_of n) e ≡ true → is_some (results ctx e) ≡ true →
      is_single_within r n e ≡ true
  unfolding results is_single_within is_single
  right_single (Group' p e) w h = right_single e w h
  right_single (Array' arity all) w h = row_single all w (first_some (types_in ctx all) _ h)
  right_single (AtMostOne' arity all) w h = row_single all w (first_some (types_in ctx all) _ h)
  right_single (Nor' arity all) w h = row_single all w (first_some (types_in ctx all) _ h)
  right_single (Call' c arity all) w h =
      row_single all (and_second _ _ w) (first_some (types_in ctx all) _ h)
  right_single (IterateNode' it c arity all) w h =
      row_single all (and_second _ _ w) (first_some (types_in ctx all) _ h)
  right_single (IterateSymbol' it op k arity all) w h =
      row_single all (and_second _ _ w)
      (first_some (types_in ctx all) _ h)
  right_single (Literal m) w h = refl
  right_single (Truth b) w h = refl
  right_single (Variable x) w h = refl
  right_single (Value k) w h = refl
  right_single e w h = term_single e w (one_some (type_of ctx e) h)

  statement_single : (st : ResolvedStatement) → is_statement_within (counts_of n) st ≡ true
      → is_resolved_statement_typed ctx st ≡ true →
      is_statement_single r n st ≡ true
  statement_single (statement.Equation lefts e) w h =
      right_single e (and_second _ _ w)
      (equal_some (results ctx e) _ h)
  statement_single (statement.Assertion e) w h =
      term_single e w (ap is_some (type_is_only ctx e) ∙ one_truth (results ctx e) h)

  statements_single : (ss : List ResolvedStatement)
      → list_all (is_statement_within (counts_of n)) ss ≡ true →
      list_all (is_resolved_statement_typed ctx) ss ≡ true
      → list_all (is_statement_single r n) ss ≡ true
  statements_single [] w h = refl
  statements_single (st ∷ ss) w h =
      and_from _ _ (statement_single st (and_first _ _ w) (and_first _ _ h))
      (statements_single ss (and_second _ _ w) (and_second _ _ h))

-- in the node of each specialization each call has one result, apart from one that is a whole right
-- side
pub single_statements : (P : Program) (r : Reached) (t : Table) → IsJudged P r t
    → are_typed r t ≡ true
    → (i : ℕ) (s : Specialization) (n : ResolvedNode) →
    slice_get t.specializations.items i ≡ Some s → slice_get r.nodes.items s.node.0 ≡ Some n
    → list_all (is_statement_single r n) n.body.items ≡ true
single_statements P r t j typed i s n is at =
    let resolved = node_resolved P r j.names j.reached s.node.0 n at in
    let one = all_at (is_specialization_typed r t) t.specializations.items i s typed is in
    let node : is_node_typed (context_of r t n s) n ≡ true =
    sym (ap (holds (λ m. is_node_typed (context_of r t m s) m)) at) ∙ one in
    statements_single P r t j i s n is at n.body.items resolved.body_within (and_second _ _ node)
