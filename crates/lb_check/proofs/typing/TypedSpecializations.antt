-- The rules of types of specializations and of their instances.
use Rattle.lb_check.proofs.Words
use Words.{Bool, DataType, Declared, Instance, IsJudged, IsResolved, List, Name, None, Option, Part}
use Words.{Path, Program, Reached, ResolvedNode, ResolvedStatement, Sampling, Some, Specialization}
use Words.{Table, VariableId, [], all_at, all_some, and-false, and-true, and_first, and_second, ap}
use Words.{are_distinct, are_equal, are_same, arith, counts_of, declaration_of, false, first_broken}
use Words.{get_or_from_slice_get, holds, instance_of, instances, is_clock_typed, is_declared_within}
use Words.{is_node_typed, is_part_typed, is_resolved_statement_typed, is_sampling_within}
use Words.{is_specialization_typed, is_statement_typed, is_statement_unhidden, is_statement_within}
use Words.{is_type, is_typed, is_variable, is_variable_typed, is_within, item_at, length}
use Words.{length-map, list_all, listed, map, name_at, node_of, option_map, refl, results}
use Words.{sampling_of, slice_get, slice_get-map, slice_get_within, source_names, specialized_at}
use Words.{statement_of, static_value, statics_of, subst, sym, texts_of, trees, true, truth}
use Words.{type_of_name, variable_names, variables, zip2, ℕ, ◌&&◌, ◌∙◌, ◌∷◌, ◌≡◌}
use Rattle.lb_check.proofs.{clocking.ClockDepths.zip_at, definitions.NodePlaces.distinct_variables}
use Rattle.lb_check.proofs.lists.ListPairs.{all_pass, fails_at, fails_there, item_there}
use Rattle.lb_check.proofs.{lists.ListPairs.not_all_pass, typing.FittedTypes.{call_at, call_is}}
use Rattle.lb_check.proofs.typing.FittedTypes.{left_is, node_at, repeats_is, specialized_instance}
use Rattle.lb_check.proofs.typing.FittedTypes.{static_is, value_is, values_at, variable_is}
use Rattle.lb_check.proofs.typing.{MirroredTypes.{Fits, term_results}, Specializations.each_judged}
use Rattle.lb_check.specs.{FoundParts.{IsIllTyped, is_part_typed_in}, TermTypes.Context}
use Rattle.lb_check.specs.TermTypes.{context_of}
use Rattle.lb_check.specs.declared.part.Part.TheVariants as part
use Rattle.lb_static.specs.declared.resolved.ResolvedStatement.TheVariants as statement
use Rattle.lb_check.specs.TermTypes as mirror

-- A specialization breaks the rules of types in the first part of its node that does, and keeps
-- them where each part does.

module _ (r : Reached) (t : Table) (s : Specialization) (n : ResolvedNode)
    (at : slice_get r.nodes.items s.node.0 ≡ Some n) where
  abbrev ctx : Context
  ctx = context_of r t n s

  abbrev variables_typed : Bool
  variables_typed = list_all (is_variable_typed ctx) n.variables.items

  abbrev statements : Bool
  statements = list_all (is_resolved_statement_typed ctx) n.body.items

  both_typed : is_specialization_typed r t s ≡ (variables_typed && statements)
  both_typed = ap (holds (λ n. is_node_typed (context_of r t n s) n)) at

  here : (p : Part) → is_part_typed_in ctx n p ≡ false → (m : ResolvedNode) →
      slice_get r.nodes.items s.node.0 ≡ Some m
      → is_part_typed_in (context_of r t m s) m p ≡ false
  here p e m is =
      let one : Some n ≡ Some m = sym at ∙ is in
      let same : n ≡ m = cc in
      subst (λ (m : ResolvedNode). is_part_typed_in (context_of r t m s) m p ≡ false) same e

  pub variable_untyped : (i : ℕ) → first_broken (is_variable_typed ctx) n.variables.items ≡ Some i
      → IsIllTyped r t s (part.Variable (record { 0 = i }))
  variable_untyped i e = (
    both_typed ∙ ap (λ b. b && statements)
        (not_all_pass (is_variable_typed ctx) n.variables.items i e),
    here (part.Variable (record { 0 = i }))
        (fails_there (is_variable_typed ctx) n.variables.items i e),
  )

  pub statement_untyped : (j : ℕ) →
      first_broken (is_resolved_statement_typed ctx) n.body.items ≡ Some j
      → IsIllTyped r t s (part.Statement j)
  statement_untyped j e = (
    both_typed ∙ ap (λ b. variables_typed && b)
        (not_all_pass (is_resolved_statement_typed ctx) n.body.items j e)
        ∙ and-false variables_typed,
    here (part.Statement j) (fails_there (is_resolved_statement_typed ctx) n.body.items j e),
  )

  pub all_typed : first_broken (is_variable_typed ctx) n.variables.items ≡ None →
      first_broken (is_resolved_statement_typed ctx) n.body.items ≡ None
      → is_specialization_typed r t s ≡ true
  all_typed v e = both_typed
      ∙ ap (λ b. b && statements) (all_pass (is_variable_typed ctx) n.variables.items v)
      ∙ all_pass (is_resolved_statement_typed ctx) n.body.items e

-- The rules of types of a specialization are those of each of its instances.

-- ## Distinct names

distinct : (P : Program) (r : Reached) (t : Table) → IsJudged P r t → (k : ℕ) (n : ResolvedNode) →
    slice_get r.nodes.items k ≡ Some n
    → are_distinct (variable_names (node_of n)) ≡ true
distinct P r t j k n at =
    let tree : slice_get (trees r) k ≡ Some (node_of n) = slice_get-map node_of r.nodes.items k
    ∙ ap (option_map node_of) at in
    let lt = slice_get_within (trees r) k (node_of n) tree in
    let reached = (j.reached.same (node_of n)).0
    (k, lt, get_or_from_slice_get (trees r) k (node_of n) (node_of n) tree) in
    distinct_variables P j.names (node_of n) reached

-- ## Statements

same_is : (P : Program) (o p : Option (List DataType)) → are_same P o p ≡ are_equal o p
same_is P o p = grind arith

module _ (P : Program) (r : Reached) (t : Table) (j : IsJudged P r t) (i : ℕ) (s : Specialization)
    (is : slice_get t.specializations.items i ≡ Some s)
    (n : ResolvedNode) (at : slice_get r.nodes.items s.node.0 ≡ Some n)
    (resolved : IsResolved (source_names P) n) (p : Path) where
  abbrev first_instance : Instance
  first_instance = instance_of p (node_of n) s.values.items

  abbrev instance_ctx : Context
  instance_ctx = context_of r t n s

  abbrev names : List Name
  names = variable_names (node_of n)

  distinct_here : are_distinct names ≡ true
  distinct_here = distinct P r t j s.node.0 n at

  valued : map Some s.statics.items ≡ map (static_value P first_instance) (statics_of n)
  valued = values_at P r t j.reached j.table s (j.table.specialized i s is).0 n p at

  -- the meaning of the numbers of its node is what the definitions say
  pub fits : Fits P first_instance (texts_of n) (counts_of n) instance_ctx
  unfolding context_of
  fits = record {
    variable = variable_is P r t s n p resolved distinct_here valued;
    value = value_is P r t s n p resolved distinct_here valued;
    count = static_is P r t s n p resolved distinct_here valued;
    call = λ c w. call_is P r t j.reached j.table i s is n p at c _
        (call_at P r t s n p resolved distinct_here valued c w).2;
    repeats = repeats_is P r t s n p resolved distinct_here valued;
  }

  left : (x : VariableId) → is_variable (counts_of n) x ≡ true →
      type_of_name P first_instance (name_at names x) ≡ instance_ctx.variable x
  unfolding context_of
  left x w = left_is P r t s n p resolved distinct_here valued x w

  lefts : (xs : List VariableId) → list_all (is_variable (counts_of n)) xs ≡ true
      → map (type_of_name P first_instance) (map (name_at names) xs) ≡ map instance_ctx.variable xs
  lefts [] w = refl
  lefts (x ∷ xs) w =
      rw (left x (and_first _ _ w))
      (ap (λ (os : List (Option DataType)). instance_ctx.variable x ∷ os)
      (lefts xs (and_second _ _ w)))

  resolved_statement_is : (st : ResolvedStatement) → is_statement_within (counts_of n) st ≡ true →
      is_statement_unhidden (texts_of n) st ≡ true
      → is_statement_typed P first_instance (statement_of (texts_of n) st)
      ≡ mirror.is_resolved_statement_typed instance_ctx st
  resolved_statement_is (statement.Equation xs e) w u =
      let wx = and_first _ (is_within (counts_of n) e) w in
      let we = and_second (list_all (is_variable (counts_of n)) xs.items) _ w in
      ap (λ o. are_same P o (all_some (map (type_of_name P first_instance) (map (name_at names) xs.items))))
      (term_results P first_instance (texts_of n) (counts_of n) instance_ctx fits e we u)
      ∙ ap (λ os. are_same P (results instance_ctx e) (all_some os)) (lefts xs.items wx)
      ∙ same_is P (results instance_ctx e) _
  resolved_statement_is (statement.Assertion e) w u =
      ap (λ o. are_same P o (Some (truth ∷ [])))
      (term_results P first_instance (texts_of n) (counts_of n) instance_ctx fits e w u)
      ∙ same_is P (results instance_ctx e) _

  resolved_statements_are : (ss : List ResolvedStatement)
      → list_all (is_statement_within (counts_of n)) ss ≡ true →
      list_all (is_statement_unhidden (texts_of n)) ss ≡ true
      → list_all (is_statement_typed P first_instance) (map (statement_of (texts_of n)) ss) ≡ list_all
      (mirror.is_resolved_statement_typed instance_ctx) ss
  resolved_statements_are [] w u = refl
  resolved_statements_are (st ∷ ss) w u =
      let a = resolved_statement_is st (and_first _ _ w) (and_first _ _ u) in
      let b = resolved_statements_are ss (and_second _ _ w) (and_second _ _ u) in
      rw a (ap (λ z. mirror.is_resolved_statement_typed instance_ctx st && z) b)

  -- ## Clocks

  clock_is : (o : Option Sampling) → is_sampling_within (counts_of n) o ≡ true
      → list_all (λ c. holds (is_type truth) (type_of_name P first_instance c.variable))
      (listed (λ c. c ∷ []) (option_map (sampling_of names) o))
      ≡ mirror.is_clock_typed instance_ctx o
  clock_is None w = refl
  clock_is (Some c) w = and-true
      (holds (is_type truth) (type_of_name P first_instance (name_at names c.variable)))
      ∙ ap (holds (is_type truth)) (left c.variable w)

  clocks_are : (xs : List Name) (vs : List Declared) → length vs ≡ length xs →
      list_all (is_declared_within (counts_of n)) vs ≡ true
      → list_all (is_clock_typed P first_instance)
      (zip2 (declaration_of names (statics_of n)) xs vs) ≡ list_all
      (mirror.is_variable_typed instance_ctx) vs
  clocks_are [] [] e w = refl
  clocks_are (x ∷ xs) (v ∷ vs) e w =
      let rest : length vs ≡ length xs = cc in
      let one = and_first _ (list_all (is_declared_within (counts_of n)) vs) w in
      let a = clock_is v.clock (and_second _ _ one)
      in
      let b = clocks_are xs vs rest (and_second _ _ w) in
      rw a (ap (λ z. mirror.is_variable_typed instance_ctx v && z) b)
  clocks_are _ _ e w = absurd cc

  pub node_typed : is_typed P first_instance ≡ mirror.is_node_typed instance_ctx n
  node_typed =
      let node = node_of n in
      let clocks = ap (list_all (is_clock_typed P first_instance)) (sym resolved.declared)
      ∙ clocks_are names n.variables.items
      (resolved.as_many ∙ sym (length-map (variables node) (λ d. d.name)))
      resolved.declared_within in
      let statements = ap (list_all (is_statement_typed P first_instance)) (sym resolved.body)
      ∙ resolved_statements_are n.body.items resolved.body_within resolved.unhidden in
      ap (λ b. b && list_all (is_statement_typed P first_instance) node.body) clocks
      ∙ ap (λ b. list_all (mirror.is_variable_typed instance_ctx) n.variables.items && b) statements

  -- a part that the code finds to break the rules breaks them
  pub part_untyped : (p : Part) → is_part_typed_in instance_ctx n p ≡ false → is_part_typed P first_instance p ≡ false
  part_untyped (part.Variable x) e =
      let v = item_there (mirror.is_variable_typed instance_ctx) n.variables.items x.0 e in
      let lt = slice_get_within n.variables.items x.0 v.0 v.1 in
      let name = item_at names x.0 (omega (
        arith,
        lt,
        resolved.as_many,
        length-map (variables (node_of n)) (λ d. d.name),
      )) in
      let declared = ap (λ ds. slice_get ds x.0) (sym resolved.declared)
      ∙ zip_at (declaration_of names (statics_of n)) names n.variables.items x.0 name.0 v.0 name.1
      v.1 in
      let within = all_at (is_declared_within (counts_of n)) n.variables.items x.0 v.0
      resolved.declared_within v.1 in
      fails_at (is_clock_typed P first_instance) (variables (node_of n)) x.0
      (declaration_of names (statics_of n) name.0 v.0) declared
      (clock_is v.0.clock (and_second _ _ within) ∙ v.2)
  part_untyped (part.Statement j) e =
      let st = item_there (mirror.is_resolved_statement_typed instance_ctx) n.body.items j e in
      let text = ap (λ ss. slice_get ss j) (sym resolved.body)
      ∙ slice_get-map (statement_of (texts_of n)) n.body.items j
      ∙ ap (option_map (statement_of (texts_of n))) st.1 in
      fails_at (is_statement_typed P first_instance) (node_of n).body j (statement_of (texts_of n) st.0) text
      (resolved_statement_is st.0
      (all_at (is_statement_within (counts_of n)) n.body.items j st.0 resolved.body_within st.1)
      (all_at (is_statement_unhidden (texts_of n)) n.body.items j st.0 resolved.unhidden st.1)
      ∙ st.2)

-- a part of a specialization that breaks the rules of types breaks them in its instance at a path
pub specialization_part : (P : Program) (r : Reached) (t : Table) → IsJudged P r t →
    (i : ℕ) (s : Specialization) → slice_get t.specializations.items i ≡ Some s → (p : Path)
    (first_instance : Instance) → specialized_at r p s ≡ Some first_instance
    → (q : Part) → IsIllTyped r t s q → is_part_typed P first_instance q ≡ false
specialization_part P r t j i s is p first_instance e q broken =
    let n = node_at P r t j.reached j.table s (j.table.specialized i s is).0 in
    let same : Some (instance_of p (node_of n.0) s.values.items) ≡ Some first_instance =
    sym (specialized_instance P r t j.reached j.table s n.0 p n.1) ∙ e in
    let one : instance_of p (node_of n.0) s.values.items ≡ first_instance = cc in
    subst (λ h. is_part_typed P h q ≡ false) one
    (part_untyped P r t j i s is n.0 n.1 n.2 p q (broken.1 n.0 n.1))

-- a specialization keeps the rules of types exactly where its instance at a path does
pub specialization_typed : (P : Program) (r : Reached) (t : Table) → IsJudged P r t →
    (i : ℕ) (s : Specialization)
    → slice_get t.specializations.items i ≡ Some s → (p : Path) (first_instance : Instance) →
    specialized_at r p s ≡ Some first_instance
    → is_typed P first_instance ≡ mirror.is_specialization_typed r t s
specialization_typed P r t j i s is p first_instance e =
    let n = node_at P r t j.reached j.table s (j.table.specialized i s is).0 in
    let same : Some (instance_of p (node_of n.0) s.values.items) ≡ Some first_instance =
    sym (specialized_instance P r t j.reached j.table s n.0 p n.1) ∙ e in
    let one : instance_of p (node_of n.0) s.values.items ≡ first_instance = cc in
    subst (λ h. is_typed P h ≡ mirror.is_specialization_typed r t s) one
    (node_typed P r t j i s is n.0 n.1 n.2 p
    ∙ sym (ap (holds (λ m. mirror.is_node_typed (context_of r t m s) m)) n.1))

-- each specialization keeps the rules of types exactly where each instance does
pub instances_typed : (P : Program) (r : Reached) (t : Table) → IsJudged P r t →
    mirror.are_typed r t ≡ list_all (is_typed P) (instances P)
instances_typed P r t j =
    each_judged P r t (is_typed P) (mirror.is_specialization_typed r t)
    (specialization_typed P r t j) j.table
