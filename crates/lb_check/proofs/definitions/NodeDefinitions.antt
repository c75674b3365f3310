-- A node with resolved names keeps the rules of definitions exactly where the code finds it.
use Rattle.lb_check.proofs.Words
use Words.{Array', AtMostOne', Binary', Bool, Call', CallId, Counts, Declaration, Expr, Group', If'}
use Words.{Index', IsIllDefined, IsReached, IsResolved, IterateNode', IterateSymbol', Join', List}
use Words.{Name, Node, NodeId, None, Nor', Option, Part, Program, Reached, Replicate', ResolvedNode}
use Words.{ResolvedStatement, Row_of-Term, Slice', Some, Statement, Static, Term, Texts, Unary'}
use Words.{Value, VariableId, When', [], all_at, all_from, and-false, and-true, and_first}
use Words.{and_second, ap, are_distinct, are_within, arith, at_place, bytes_eq, calls_function}
use Words.{cond, count_left, count_statement, count_statements, counts_of, either_or, end_of-Term}
use Words.{eq-eqb, eqb-true, expr_of, false, first_broken, flat_map, get_first, get_later}
use Words.{get_or_from_slice_get, holds, if_node, if◌then◌else◌, is_call, is_defined, is_defined_at}
use Words.{is_part_defined, is_statement_memoryless, is_statement_within, is_variable, is_within}
use Words.{item_at, keeps_names, le-ltb, left_names, length, length-append, length-map, list_all}
use Words.{list_all-append, listed, lt-ltb, ltb-true, map, more_of-Term, name_at, named_value}
use Words.{nat_eq, nat_lt, nat_tests, node_of, node_parts, node_sites, not, option_map, parts}
use Words.{parts_in, refl, right_side, row_of, site_at, slice_get, slice_get-map, slice_get_within}
use Words.{source_names, statement_of, static_at, subst, sym, texts_of, tree_at, trees, true}
use Words.{variable_names, variables, ℕ, ◌&&◌, ◌++◌, ◌+◌, ◌-◌, ◌<◌, ◌||◌, ◌∙◌, ◌∷◌, ◌≡◌, ◌≢◌, ◌≤◌}
use Rattle.lb_check.proofs.definitions.NodePlaces.{callee_found, distinct_variables, node_resolved}
use Rattle.lb_check.proofs.lists.ListPairs.{all_pass, fails_at, found_item, not_all_pass}
use Rattle.lb_check.{proofs.lists.Members.distinct_at, specs.BrokenParts.is_defined_right}
use Rattle.lb_check.specs.DefinitionRules.{defines_once, definition_count, is_memoryless}
use Rattle.lb_check.specs.{FoundParts.IsDefinedPlace, NodeDefinitions.memory_in_function}
use Rattle.{lb_check.specs.NodeDefinitions.wanted_count, std.proofs.lemmas.Bool.ne_eqb}
use Rattle.std.proofs.lemmas.List.Recursion.{is_count_by}
use Rattle.lb_syntax.specs.Tree as tree
use Rattle.lb_static.specs.declared.resolved.ResolvedStatement.TheVariants as statement
use Rattle.lb_check.specs.declared.part.Part.TheVariants as part
use Rattle.lb_check.specs.NodeDefinitions as mirror

-- ## The number of times that a name stands on the left

abbrev name_count : Name → List Name → ℕ
name_count x [] = 0
name_count x (y ∷ ys) = cond (bytes_eq x y) (1 + name_count x ys) (name_count x ys)

count_append : (x : Name) (ys zs : List Name) →
    name_count x (ys ++ zs) ≡ name_count x ys + name_count x zs
count_append x [] zs = omega arith
count_append x (y ∷ ys) zs = grind (arith, count_append x ys zs)

one_or_none : (b : Bool) (m n : ℕ) → m ≡ n → cond b (1 + m) m ≡ cond b 1 0 + n
one_or_none b m n e = grind arith

module _ (t : Texts) (k : Counts) (as_many : k.variables ≡ length t.variables)
    (distinct : are_distinct t.variables ≡ true)
    (i : ℕ) (x : Name) (at : slice_get t.variables i ≡ Some x) where
  lefts_counted : (xs : List VariableId) → list_all (is_variable k) xs ≡ true →
      name_count x (map (name_at t.variables) xs) ≡ count_left i xs
  lefts_counted [] w = refl
  lefts_counted (y ∷ xs) w =
      let lt = ltb-true y.0 k.variables (and_first _ _ w) in
      let h = item_at t.variables y.0 (omega (arith, as_many, lt)) in
      let same = distinct_at t.variables i y.0 x h.0 distinct at h.1 in
      let rest = lefts_counted xs (and_second _ _ w) in
      ap (λ o. cond (bytes_eq x (either_or o [])) (1 + name_count x (map (name_at t.variables) xs))
      (name_count x (map (name_at t.variables) xs))) h.1
      ∙ ap (λ b. cond b (1 + name_count x (map (name_at t.variables) xs))
      (name_count x (map (name_at t.variables) xs))) same
      ∙ one_or_none _ _ _ rest

  statement_counted : (s : ResolvedStatement) → is_statement_within k s ≡ true →
      name_count x (left_names (statement_of t s)) ≡ count_statement i s
  statement_counted (statement.Equation lefts e) w = lefts_counted lefts.items (and_first _ _ w)
  statement_counted (statement.Assertion e) w = refl

  statements_counted : (ss : List ResolvedStatement) → list_all (is_statement_within k) ss ≡ true
      → name_count x (flat_map left_names (map (statement_of t) ss)) ≡ count_statements i ss
  statements_counted [] w = refl
  statements_counted (s ∷ ss) w =
      let a = statement_counted s (and_first _ _ w) in
      let b = statements_counted ss (and_second _ _ w) in
      count_append x (left_names (statement_of t s)) (flat_map left_names (map (statement_of t) ss))
      ∙ rw a (rw b refl)

  counted : (n : Node) (ss : List ResolvedStatement) → map (statement_of t) ss ≡ n.body →
      list_all (is_statement_within k) ss ≡ true
      → definition_count n x ≡ count_statements i ss
  counted n ss body w =
      sym (is_count_by (name_count x) (bytes_eq x) refl (λ y ys. refl) (flat_map left_names n.body))
      ∙ ap (λ b. name_count x (flat_map left_names b)) (sym body) ∙ statements_counted ss w

-- ## Two lists place by place

-- the counts of the items are 0 in `xs` and 1 in `ys` exactly where the counts of the places are
module _ {A : Type 0} (xs ys : List A) (c : A → ℕ) (k : ℕ → ℕ) (count : ℕ)
    (as_many : count ≡ length (xs ++ ys))
    (same : (i : ℕ) (d : A) → slice_get (xs ++ ys) i ≡ Some d → c d ≡ k i) where
  abbrev once : A → Bool
  once d = nat_eq (c d) 1

  abbrev never : A → Bool
  never d = nat_eq (c d) 0

  abbrev Each : Type 0
  Each = (i : ℕ) → i < count → k i ≡ cond (nat_lt i (length xs)) 0 1

  from_each : Each → (list_all once ys && list_all never xs) ≡ true
  from_each each =
      let rest = all_from once ys (λ i d e.
      let at = get_later xs ys i ∙ e in
      let lt = slice_get_within (xs ++ ys) (length xs + i) d at in
      eq-eqb _ 1 (same (length xs + i) d at ∙ each (length xs + i) (omega (arith, as_many, lt))
      ∙ ap (λ b. cond b 0 1) (le-ltb (length xs + i) (length xs) (omega arith)))) in
      let ins = all_from never xs (λ i d e.
      let at = get_first xs ys i d e in
      let lt = slice_get_within (xs ++ ys) i d at in
      eq-eqb _ 0 (same i d at ∙ each i (omega (arith, as_many, lt))
      ∙ ap (λ b. cond b 0 1) (lt-ltb i (length xs) (slice_get_within xs i d e)))) in
      rw rest ins

  to_each : (list_all once ys && list_all never xs) ≡ true → Each
  to_each all i lt = by (nat_lt i (length xs)) refl
    where
      by : (b : Bool) → nat_lt i (length xs) ≡ b → k i ≡ cond (nat_lt i (length xs)) 0 1
      by true is =
          let h = item_at xs i (ltb-true i (length xs) is) in
          let zero = all_at never xs i h.0 (and_second _ _ all) h.1 in
          sym (same i h.0 (get_first xs ys i h.0 h.1)) ∙ eqb-true _ 0 zero
          ∙ sym (ap (λ b. cond b 0 1) is)
      by false is =
          let le : length xs ≤ i = grind (arith, nat_tests) in
          let sum : length xs + (i - length xs) ≡ i = omega arith in
          let whole : length (xs ++ ys) ≡ length xs + length ys = length-append xs ys in
          let h = item_at ys _ (omega (arith, as_many, lt, whole, le)) in
          let one = all_at once ys _ h.0 (and_first _ _ all) h.1 in
          let at = ap (slice_get (xs ++ ys)) (sym sum) ∙ get_later xs ys _ ∙ h.1 in
          sym (same i h.0 at) ∙ eqb-true _ 1 one ∙ sym (ap (λ b. cond b 0 1) is)

-- the place that is found by the code is right of the variables and statements of the node
pub places_told : (n : ResolvedNode) (count : ℕ) (ss : List ResolvedStatement) (o p : Option ℕ) →
    count ≡ length n.variables.items → ss ≡ n.body.items →
    IsDefinedPlace n.inputs count ss o → o ≡ p
    → IsDefinedPlace n.inputs (length n.variables.items) n.body.items p
places_told n count ss o p many body found is =
    subst (IsDefinedPlace n.inputs (length n.variables.items) n.body.items) is
    (subst (λ b. IsDefinedPlace n.inputs (length n.variables.items) b o) body
    (subst (λ k. IsDefinedPlace n.inputs k ss o) many found))

-- ## A reached node

module _ (P : Program) (r : Reached) (names : keeps_names P ≡ true) (reached : IsReached P r)
    (id : NodeId) (n : ResolvedNode)
    (at : slice_get r.nodes.items id.0 ≡ Some n) where
  abbrev here : Node
  here = node_of n

  abbrev t : Texts
  t = texts_of n

  resolved : IsResolved (source_names P) n
  resolved = node_resolved P r names reached id.0 n at

  tree_is : tree_at r id ≡ Some (node_of n)
  tree_is = slice_get-map node_of r.nodes.items id.0 ∙ ap (option_map node_of) at

  distinct : are_distinct (variable_names (node_of n)) ≡ true
  distinct =
      let lt = slice_get_within (trees r) id.0 here tree_is in
      let is = get_or_from_slice_get (trees r) id.0 here here tree_is in
      distinct_variables P names here ((reached.same here).0 (id.0, lt, is))

  -- ## Memory

  abbrev memoryless : List Expr → Bool
  memoryless es = list_all (is_memoryless P) es

  two_parts : (es fs : List Expr) (a b : Bool) → memoryless es ≡ a → memoryless fs ≡ b →
      memoryless (es ++ fs) ≡ (a && b)
  two_parts es fs a b p q = list_all-append (is_memoryless P) es fs ∙ rw (p, q) refl

  value_memoryless : (s : Static) → memoryless (parts (named_value s)) ≡ true
  value_memoryless (tree.Whole m) = refl
  value_memoryless (tree.Named x) = refl
  value_memoryless (tree.Negated s) = refl
  value_memoryless (tree.Combined op s u) = refl
  value_memoryless (tree.Grouped s) = refl

  -- the callee of a call is a function exactly where the node with its name is
  call_memoryless : (c : CallId) → is_call (counts_of n) c ≡ true →
      if_node P (λ m. m.is_function) (site_at (node_sites (node_of n)) c).callee
      ≡ calls_function r n c
  call_memoryless c w =
      let found = callee_found P r names reached id.0 n at c w in
      ap (λ o. list_all (λ m. m.is_function) (listed (λ m. m ∷ []) o)) found.2
      ∙ and-true (node_of found.0).is_function
      ∙ sym (ap (holds (λ m. m.tree.now.is_function)) found.1)

  with_call : (c : CallId) → is_call (counts_of n) c ≡ true → (a b : Bool) → a ≡ b →
      (if_node P (λ m. m.is_function) (site_at (node_sites (node_of n)) c).callee && a)
      ≡ (calls_function r n c && b)
  with_call c w a b e =
      ap (λ k. k && a) (call_memoryless c w) ∙ ap (λ k. calls_function r n c && k) e

  abbrev parts_of : Term → List Expr
  parts_of e = parts (expr_of (texts_of n) e)

  abbrev row_parts : {m : _} → Row_of-Term m → List Expr
  row_parts row = parts_in (row_of (texts_of n) row)

  -- the code tells whether a term has memory
  abbrev IsMirrored : Term → Type 0
  IsMirrored e =
      is_within (counts_of n) e ≡ true → memoryless (parts_of e) ≡ mirror.is_memoryless r n e

  two_terms : (a b : Term) → (is_within (counts_of n) a && is_within (counts_of n) b) ≡ true →
      IsMirrored a → IsMirrored b →
      memoryless (parts_of a ++ parts_of b)
      ≡ (mirror.is_memoryless r n a && mirror.is_memoryless r n b)
  two_terms a b w ma mb =
      two_parts (parts_of a) (parts_of b) _ _ (ma (and_first _ _ w)) (mb (and_second _ _ w))

  mutual
    unfolding mirror.is_memoryless

    term_memoryless : (e : Term) → is_within (counts_of n) e ≡ true →
        memoryless (parts_of e) ≡ mirror.is_memoryless r n e
    term_memoryless (Value i) w = value_memoryless (static_at t.statics i)
    term_memoryless (Group' p e) w = term_memoryless e w
    term_memoryless (Unary' op p a) w = term_memoryless a w
    term_memoryless (Binary' op p a q b) w =
        two_terms a b w (λ w. term_memoryless a w) (λ w. term_memoryless b w)
    term_memoryless (If' p c q a o b) w =
        two_parts (parts_of c) (parts_of a ++ parts_of b) _ _ (term_memoryless c (and_first _ _ w))
        (two_terms a b (and_second _ _ w) (λ w. term_memoryless a w) (λ w. term_memoryless b w))
    term_memoryless (When' p e x sign) w = term_memoryless e (and_second _ _ w)
    term_memoryless (Replicate' p e i) w = term_memoryless e (and_second _ _ w)
    term_memoryless (Index' p e i) w = term_memoryless e (and_second _ _ w)
    term_memoryless (Slice' p e i j) w = term_memoryless e (and_second _ _ (and_second _ _ w))
    term_memoryless (Join' p a q b) w =
        two_terms a b w (λ w. term_memoryless a w) (λ w. term_memoryless b w)
    term_memoryless (Array' arity all) w = row_memoryless all w
    term_memoryless (AtMostOne' arity all) w = row_memoryless all w
    term_memoryless (Nor' arity all) w = row_memoryless all w
    term_memoryless (Call' c arity all) w =
        with_call c (and_first _ _ w) _ _ (row_memoryless all (and_second _ _ w))
    term_memoryless (IterateNode' it c arity all) w =
        with_call c (and_first _ _ w) _ _ (row_memoryless all (and_second _ _ w))
    term_memoryless (IterateSymbol' it op i arity all) w = row_memoryless all (and_second _ _ w)
    term_memoryless e w = refl

    row_memoryless : {m : _} (row : Row_of-Term m) → are_within (counts_of n) row ≡ true →
        memoryless (row_parts row) ≡ mirror.is_row_memoryless r n row
    row_memoryless end_of-Term w = refl
    row_memoryless (more_of-Term e rest) w =
        two_parts (parts_of e) (row_parts rest) _ _ (term_memoryless e (and_first _ _ w))
        (row_memoryless rest (and_second _ _ w))

  abbrev is_free : Statement → Bool
  is_free s = memoryless (parts (right_side s))

  statement_memoryless : (s : ResolvedStatement) → is_statement_within (counts_of n) s ≡ true →
      is_free (statement_of (texts_of n) s) ≡ is_statement_memoryless r n s
  statement_memoryless (statement.Equation lefts e) w = term_memoryless e (and_second _ _ w)
  statement_memoryless (statement.Assertion e) w = term_memoryless e w

  body_memoryless : (ss : List ResolvedStatement) →
      list_all (is_statement_within (counts_of n)) ss ≡ true →
      memoryless (flat_map (λ s. parts (right_side s)) (map (statement_of (texts_of n)) ss))
      ≡ list_all (is_statement_memoryless r n) ss
  body_memoryless [] w = refl
  body_memoryless (s ∷ ss) w =
      two_parts (parts (right_side (statement_of t s)))
      (flat_map (λ s. parts (right_side s)) (map (statement_of t) ss)) _ _
      (statement_memoryless s (and_first _ _ w)) (body_memoryless ss (and_second _ _ w))

  memoryless_is : list_all (is_memoryless P) (node_parts (node_of n))
      ≡ list_all (is_statement_memoryless r n) n.body.items
  memoryless_is =
      ap (λ b. list_all (is_memoryless P) (flat_map (λ s. parts (right_side s)) b))
      (sym resolved.body)
      ∙ body_memoryless n.body.items resolved.body_within

  defined_is : is_defined_at P r id ≡ (defines_once (node_of n)
      && (not (node_of n).is_function
      || list_all (is_statement_memoryless r n) n.body.items))
  defined_is = ap (holds (is_defined P)) tree_is
      ∙ ap (λ b. defines_once here && (not here.is_function || b)) memoryless_is

  in_tree : (p : Part) → is_part_defined P (node_of n) p ≡ false → (k : Node) →
      tree_at r id ≡ Some k → is_part_defined P k p ≡ false
  in_tree p e k is =
      let one : Some (node_of n) ≡ Some k = sym tree_is ∙ is in
      let same : node_of n ≡ k = cc in
      subst (λ (k : Node). is_part_defined P k p ≡ false) same e

  -- the first statement with memory of a function breaks the rules
  statement_found : (j : ℕ) → (node_of n).is_function ≡ true →
      first_broken (is_statement_memoryless r n) n.body.items ≡ Some j
      → IsIllDefined P r id (part.Statement j)
  statement_found j function found =
      let st = found_item (is_statement_memoryless r n) n.body.items j found in
      let text = ap (λ ss. slice_get ss j) (sym resolved.body)
      ∙ slice_get-map (statement_of t) n.body.items j
      ∙ ap (option_map (statement_of t)) st.1 in
      let fails = fails_at is_free here.body j (statement_of t st.0) text
      (statement_memoryless st.0
      (all_at (is_statement_within (counts_of n)) n.body.items j st.0 resolved.body_within st.1)
      ∙ st.2) in (
        defined_is
            ∙ ap (λ b. defines_once here && (not b
            || list_all (is_statement_memoryless r n) n.body.items)) function
            ∙ ap (λ b. defines_once here && b)
            (not_all_pass (is_statement_memoryless r n) n.body.items j found)
            ∙ and-false (defines_once here),
        in_tree (part.Statement j)
            (ap (λ b. not b || at_place is_free here.body j) function ∙ fails),
      )

  pub memory_found : (o : Option ℕ) (j : ℕ) → o ≡ memory_in_function r n → o ≡ Some j →
      IsIllDefined P r id (part.Statement j)
  memory_found o j known is = grind (arith, statement_found j)

  -- a node keeps the rules of memory, where no statement with memory is found in it
  rules_kept : memory_in_function r n ≡ None → (not (node_of n).is_function
      || list_all (is_statement_memoryless r n) n.body.items) ≡ true
  rules_kept known = grind (arith, all_pass (is_statement_memoryless r n) n.body.items)

  -- ## Definitions

  count_is : (i : ℕ) (d : Declaration) → slice_get (variables (node_of n)) i ≡ Some d →
      definition_count (node_of n) d.name ≡ count_statements i n.body.items
  count_is i d e =
      counted (texts_of n) (counts_of n) (resolved.as_many ∙ sym (length-map (variables here)
      (λ d. d.name))) distinct i d.name
      (slice_get-map (λ d. d.name) (variables here) i ∙ ap (option_map (λ d. d.name)) e)
      here n.body.items resolved.body resolved.body_within

  abbrev AllOnce : Type 0
  AllOnce = IsDefinedPlace n.inputs (length n.variables.items) n.body.items None

  wanted_is : (i : ℕ) → wanted_count n.inputs i
      ≡ (if nat_lt i (length (node_of n).inputs) then 0 else 1)
  wanted_is i = ap (λ k. wanted_count k i) resolved.inputs

  once_from : AllOnce → defines_once (node_of n) ≡ true
  once_from each =
      from_each here.inputs (here.outputs ++ here.locals) (λ d. definition_count here d.name)
      (λ i. count_statements i n.body.items)
      (length n.variables.items) resolved.as_many count_is
      (λ i lt. each i lt ∙ wanted_is i)

  from_once : defines_once (node_of n) ≡ true → AllOnce
  from_once all i lt =
      to_each here.inputs (here.outputs ++ here.locals) (λ d. definition_count here d.name)
      (λ i. count_statements i n.body.items)
      (length n.variables.items) resolved.as_many count_is all i lt ∙ sym (wanted_is i)

  not_once : (i : ℕ) → i < length n.variables.items →
      count_statements i n.body.items ≢ wanted_count n.inputs i → (b : Bool) →
      defines_once (node_of n) ≡ b → b ≡ false
  not_once i lt other true e = absurd (other (from_once e i lt))
  not_once i lt other false e = refl

  -- a variable with too few or too many definitions breaks the rules
  pub variable_found : (i : ℕ) →
      IsDefinedPlace n.inputs (length n.variables.items) n.body.items (Some i)
      → IsIllDefined P r id (part.Variable (record { 0 = i }))
  variable_found i found =
      let lt = found.0 in
      let d = item_at (variables here) i (omega (arith, lt, resolved.as_many)) in
      let other = ne_eqb (definition_count here d.0.name)
      (if nat_lt i (length here.inputs) then 0 else 1)
      (λ same. found.1 (sym (count_is i d.0 d.1) ∙ same ∙ sym (wanted_is i))) in (
        defined_is ∙ ap (λ b. b && (not here.is_function
            || list_all (is_statement_memoryless r n) n.body.items))
            (not_once i lt found.1 (defines_once here) refl),
        in_tree (part.Variable (record { 0 = i }))
            (fails_at (is_defined_right here i) (variables here) i d.0 d.1 other),
      )

  -- a node with no part that breaks the rules keeps them
  pub all_defined : (o : Option ℕ) → o ≡ memory_in_function r n → o ≡ None → AllOnce →
      is_defined_at P r id ≡ true
  all_defined o known none each =
      defined_is ∙ rw (once_from each, rules_kept (sym known ∙ none)) refl
