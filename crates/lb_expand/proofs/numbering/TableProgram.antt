-- The flat program of all instances is emitted from the rows of the table; the scalars in them are
-- `int`s.
use Rattle.lb_expand.proofs.Words
use Words.{BinaryOperator, Context, DataType, Declaration, Every, Every-at, Every-map, Expr}
use Words.{HasTypes, Instance, Int, IsReached, IsResolved, IsTable, Iterate, List, Literal, Logical}
use Words.{Name, Named, Node, None, Occurrence, OperatorClass, Option, PlacedState, Program}
use Words.{Reached, RowClocks, Some, State, Static, Symbol, Table, Truth_kind, Variable, [], among}
use Words.{ap, are_distinct, arith, bodies, body_in, check_refusal, class_of, class_on_truths}
use Words.{clock_names, clocks_named, constant_type, counts_of, data_types, declared_clock}
use Words.{either_or, element_kinds, emit_body, emit_instances, emit_rows, expanded, false}
use Words.{flat_clock, holds, in_at, inl, input_kinds, inr, instances, int, is_among, is_arithmetic}
use Words.{is_int, is_logical, is_no_variable, is_variable, layout, length, name_in, name_value}
use Words.{nat_le, nat_tests, node_occurrences, node_of, occurrences_typed, operator_types}
use Words.{option_map, or_fault, pos, refl, row_context, same_Some, singly, slice_get}
use Words.{slice_get-map, slice_get_within, source_names, static_count, static_refusal, subst, suc}
use Words.{sym, true, variable_names, variable_type, variables, variables_distinct, whole}
use Words.{with_body, ℕ, ℤ, ◌++◌, ◌+◌, ◌∙◌, ◌∷◌, ◌≡◌, ◌≤◌, ◌⊎◌}
use Rattle.lb_expand.proofs.clock_tables.ServingClocks.{serves_by_number}
use Rattle.lb_expand.proofs.emission.{EmittedTable.{IsRowContext, row_is}, EmittedTerms.IsSmall}
use Rattle.lb_expand.proofs.emission.EmittedWhole.{HasVariables, whole_is}
use Rattle.lb_expand.proofs.frames.RowContexts.{AreRowClocks, context_is, own_resolved}
use Rattle.lb_expand.proofs.numbering.{NumberedFits.{AreScalars, IsScalarAt}, RowInstances.IsRow}
use Rattle.lb_expand.proofs.{numbering.RowInstances.{row_shown, rows_many}, widths.TypeFacts.bound}
use Rattle.{lb_expand.proofs.widths.TypeFacts.{constant, symbolic}, lb_flat.specs.Fitting.IsOf}
use Rattle.{lb_flat.specs.Fitting.binary_kind, lb_syntax.specs.Operators.is_class}
use Rattle.lb_syntax.specs.Tree as tree
use Rattle.lb_static.specs.declared.table.Instance as row

-- In an accepted program each number in an expression is in the range of `int`, and an iterated
-- symbol takes what it gives: the rules of types say so.

value_kind : (o : Option ℤ) → holds is_int o ≡ true → IsOf Int (or_fault o)
value_kind None e = absurd cc
value_kind (Some z) e = e

logical_kind :
    (op : BinaryOperator) → is_logical op ≡ true →
    binary_kind op Truth_kind Truth_kind ≡ Some Truth_kind
logical_kind op e = by (class_of op) e
  where
    by : (c : OperatorClass) → is_class Logical c ≡ true → class_on_truths c ≡ Some Truth_kind
    by Logical is = refl
    by _ is = absurd cc

symbol_kind :
    (op : BinaryOperator) (t : DataType) (u : DataType) →
    ((is_arithmetic op ≡ true) × (t ≡ int)) ⊎ ((is_logical op ≡ true) × (t ≡ u)) →
    is_arithmetic op ≡ false → binary_kind op Truth_kind Truth_kind ≡ Some Truth_kind
symbol_kind op t u (inl (a, e)) other = absurd cc
symbol_kind op t u (inr (l, e)) other = logical_kind op l

module _ (P : Program) (here : Instance) where
  -- an expression with types has numbers in the range of `int`
  typed_scalar :
      (e : Expr) (ts : List DataType) → data_types P here e ≡ Some ts → IsScalarAt P here e
  typed_scalar (Literal m) ts e = (constant (Some (pos m)) ts e).within
  typed_scalar (Variable x) ts e = λ none.
      let own = ap (λ o. singly (either_or (option_map (variable_type P here) o)
      (constant_type (name_value P here x)))) none in
      value_kind (name_value P here x) (constant (name_value P here x) ts (sym own ∙ e)).within
  typed_scalar (Iterate it (Symbol op) m es) ts e =
      let c = bound (static_count P here m) _ ts e in
      let o = bound (operator_types P here (Symbol op)) _ ts c.gives in
      let y = symbolic op o.value o.is in
      symbol_kind op y.data_type _ y.of
  typed_scalar e ts h = tt

-- `IsScalarAt` holds for each expression of an accepted program
pub accepted_scalars :
    (P : Program) → static_refusal P ≡ None → check_refusal P ≡ None → AreScalars P
accepted_scalars P elaborated checked =
    Every-map (λ here. Every (HasTypes P here) (node_occurrences P here.node))
    (λ here. Every (λ o. IsScalarAt P here o.expr) (node_occurrences P here.node))
    (λ here z. Every-map (HasTypes P here) (λ o. IsScalarAt P here o.expr)
    (λ o t. typed_scalar P here o.expr t.types t.typed) (node_occurrences P here.node) z)
    (instances P) (occurrences_typed P elaborated checked)

-- The flat program of all instances of an accepted program is emitted from the rows of its table,
-- where the numbers of each row stand for what its instance gives them.

-- a static expression that is no variable is a name
pub value_named :
    (names : List Name) (s : Static) → is_no_variable names s ≡ true →
    (x : Name) × (s ≡ Named x)
value_named names (tree.Named x) e = (x, refl)
value_named names _ e = absurd cc

number_below : (m : ℕ) → is_int (pos m) ≡ true → m ≤ 2147483647
number_below m h = grind arith

number_tested : (m : ℕ) → m ≤ 2147483647 → nat_le m 2147483647 ≡ true
number_tested m le = grind (arith, nat_tests)

scalar_small : (P : Program) (here : Instance) (e : Expr) → IsScalarAt P here e → IsSmall e
scalar_small P here (tree.Literal m) h = number_tested m (number_below m h)
scalar_small P here _ h = tt

-- each literal of an accepted program is an `int`
pub literals_small :
    (P : Program) → static_refusal P ≡ None → check_refusal P ≡ None →
    Every (λ here. Every (λ o. IsSmall o.expr) (node_occurrences P here.node)) (instances P)
literals_small P accepted checked =
    Every-map (λ (here : Instance). Every (λ (o : Occurrence). IsScalarAt P here o.expr)
    (node_occurrences P here.node)) (λ (here : Instance). Every
    (λ (o : Occurrence). IsSmall o.expr) (node_occurrences P here.node)) (λ here z. Every-map
    (λ (o : Occurrence). IsScalarAt P here o.expr) (λ (o : Occurrence). IsSmall o.expr)
    (λ o h. scalar_small P here _ h) (node_occurrences P here.node) z) (instances P)
    (accepted_scalars P accepted checked)

module _ (P : Program) (accepted : static_refusal P ≡ None) (checked : check_refusal P ≡ None)
    (r : Reached) (t : Table) (reached : IsReached P r) (table : IsTable P r t) where
  -- where the clocks of a row are the clocks of its instance, its numbers stand for what the
  -- instance gives them
  pub row_context_is :
      (k : ℕ) (i : row.Instance) (here : Instance) (is : IsRow P r t table k i here)
      (l : RowClocks) → AreRowClocks P r is.node here l →
      IsRowContext P r t table k i here is (row_context r t l k is.node is.specialization)
  row_context_is k i here is l clocks = record {
    context = context_is P r t reached table accepted value_named k i here is l clocks;
    terms = record { clock = clocks.clock; parts = clocks.parts };
  }

  module _ (cs : ℕ → Context)
      (contexts : (k : ℕ) (i : row.Instance) (here : Instance) (is : IsRow P r t table k i here) →
      IsRowContext P r t table k i here is (cs k)) where
    -- ## The statements of rows

    body_first :
        (k : ℕ) (i : row.Instance) (here : Instance) (is : IsRow P r t table k i here) →
        body_in r t cs k i ≡ with_body (cs k) is.node
    body_first k i here is = cc (is.specialized, is.resolved)

    rows_from :
        (j : ℕ) (rows : List row.Instance) (is : List Instance) → length rows ≡ length is →
        ((k : ℕ) (i : row.Instance) (here : Instance) → slice_get rows k ≡ Some i →
        slice_get is k ≡ Some here → IsRow P r t table (j + k) i here) → (s : State) →
        emit_rows s (bodies r t cs j rows) ≡ emit_instances (layout P) P s is
    unfolding emit_rows emit_instances bodies
    rows_from j [] [] long each s = refl
    rows_from j [] (here ∷ is) long each s = absurd (omega (arith, long))
    rows_from j (i ∷ rows) [] long each s = absurd (omega (arith, long))
    rows_from j (i ∷ rows) (here ∷ is) long each s =
        let first : j + 0 ≡ j = omega arith in
        let own = subst (λ k. IsRow P r t table k i here) first (each 0 i here refl refl) in
        let rest = bodies r t cs (suc j) rows in
        let later = rows_from (suc j) rows is (omega (arith, long))
        (λ k l there p q.
        let next : j + suc k ≡ suc j + k = omega arith in
        subst (λ m. IsRow P r t table m l there) next (each (suc k) l there p q))
        (emit_body (layout P) P here 0 s here.node.body) in
        ap (λ l. emit_rows s (l ++ rest)) (body_first j i here own)
        ∙ ap (λ (z : PlacedState). emit_rows z.state rest)
        (row_is P accepted checked (literals_small P accepted checked) r t reached table j i here
        own (cs j) (contexts j i here own) s)
        ∙ later

    -- emitting all rows is emitting all instances
    pub rows_are :
        (s : State) →
        emit_rows s (bodies r t cs 0 t.instances.items)
        ≡ emit_instances (layout P) P s (instances P)
    rows_are s =
        rows_from 0 t.instances.items (instances P) (rows_many P r t table)
        (λ k i here e f.
        let shown = row_shown P r t table k i e in
        let same = same_Some shown.0 here (sym shown.1.instance_is ∙ f) in
        let number : k ≡ 0 + k = omega arith in
        subst (λ m. IsRow P r t table m i here) number
        (subst (IsRow P r t table k i) same shown.1)) s

    -- ## The variables of rows

    module _ (k : ℕ) (i : row.Instance) (here : Instance) (is : IsRow P r t table k i here) where
      own : IsResolved (source_names P) is.node
      own = own_resolved P r t reached table accepted k i here is

      node_is : here.node ≡ node_of is.node
      node_is = ap (λ (c : Instance). c.node) is.same

      own_at :
          (x : ℕ) (d : Declaration) → slice_get (variables here.node) x ≡ Some d →
          slice_get (variables (node_of is.node)) x ≡ Some d
      own_at x d e = ap (λ (m : Node). slice_get (variables m) x) (sym node_is) ∙ e

      name_is : (x : ℕ) (d : Declaration) → slice_get (variables here.node) x ≡ Some d →
          name_in is.node (record { 0 = x }) ≡ d.name
      name_is x d e =
          ap (λ o. either_or o [])
          (slice_get-map (λ d. d.name) (variables (node_of is.node)) x
          ∙ ap (option_map (λ d. d.name)) (own_at x d e))

      within_is :
          (x : ℕ) (d : Declaration) → slice_get (variables here.node) x ≡ Some d →
          is_variable (counts_of is.node) (record { 0 = x }) ≡ true
      within_is x d e =
          let long = slice_get_within (variables (node_of is.node)) x d (own_at x d e) in
          let many = own.as_many in
          grind (arith, nat_tests)

      -- the variables of a row have the elements of its instance, on the clocks that it declares
      pub has : HasVariables P here (cs k)
      has = record {
        places = λ x d e.
            (contexts k i here is).context.places (record { 0 = x }) (within_is x d e)
            ∙ ap ((layout P).places here.path) (name_is x d e);
        declared = λ x d e.
            (contexts k i here is).context.declared (record { 0 = x }) (within_is x d e)
            ∙ ap (λ y. flat_clock (layout P) here.path (declared_clock here.node y))
            (name_is x d e);
      }

      serves :
          (x : ℕ) (d : Declaration) → slice_get (variables here.node) x ≡ Some d →
          is_among (clocks_named is.node) x ≡ among d.name (clock_names here.node)
      serves x d e =
          let distinct =
          subst (λ (c : Instance). are_distinct (variable_names c.node) ≡ true) is.same
          (Every-at (λ (c : Instance). are_distinct (variable_names c.node) ≡ true) (instances P)
          here (variables_distinct P accepted) (in_at (instances P) k here is.instance_is)) in
          cc (serves_by_number (source_names P) is.node own distinct x d (own_at x d e), node_is)

    -- what is emitted from the rows is the flat program of all instances
    pub program_is :
        (count : ℕ) →
        whole r t cs (input_kinds P) (element_kinds P) count ≡ expanded (layout P) P count
    program_is count = whole_is P r t reached table accepted cs has serves rows_are count
