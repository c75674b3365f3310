-- What the numbers in the text of a row's node stand for.
use Rattle.lb_expand.proofs.Words
use Words.{◌≡◌, ℕ, true, List, length, map, Option, Some, None, option_map, ap, sym, ◌∙◌, subst}
use Words.{arith, slice_get, length-map, slice_get-map, slice_get_within, same_Some, lt-ltb}
use Words.{either_or, Name, Named, Whole, Program, Instance, Child, Site, name_value, static_value}
use Words.{node_named, node_sites, instances, static_refusal, IsTable, instance_of, are_distinct}
use Words.{variable_names, IsReached, source_names, callee_in, IsResolved, node_of, statics_of}
use Words.{counts_of, static_at, site_at, is_variable, is_static, is_call, Reached, ResolvedNode}
use Words.{StaticId, VariableId, Table, in_at, name_in, or_fault, number, Every-at, names_kept}
use Words.{values_at, variables_distinct, callee_node, at_path, called, value_at, child_numbers}
use Words.{zero, suc, ◌<◌, Bool, false, [], ◌∷◌, ◌++◌, refl, nat_lt, bytes_eq, nat_tests}
use Words.{bytes_eq-Decides, not-true, Every, Static, Expr, Declaration, Node, get_first, variables}
use Words.{among, node_parts, texts_of, is_no_variable, named, On, declared_clock, Occurrence}
use Words.{node_occurrences, data_type, part_count, count_of, held_at, unfound, Context, flat_clock}
use Words.{layout, RowClocks, parameters_of, row_context}
use Rattle.{lb_static.specs.ResolvedTerms.{site_of, no_site}, lb_check.specs.Elements.numbers_of}
use Rattle.lb_check.proofs.{clocking.NamedClocks.named_every, definitions.NodePlaces.callee_found}
use Rattle.lb_check.proofs.typing.FittedTypes.{node_at, static_is, repeats_is}
use Rattle.lb_expand.{specs.RowContexts.{size_at, times_at}, proofs.frames.TermPlaces.IsCallContext}
use Rattle.lb_expand.proofs.frames.TermPlaces.{IsContext, IsDeclared, IsValue}
use Rattle.lb_expand.proofs.numbering.{NumberedRows.own_numbers_are, RowChildren.child_numbers_are}
use Rattle.lb_expand.proofs.numbering.RowInstances.{IsRow}
use Rattle.lb_static.specs.declared.table.Instance as row

-- The numbers in the text of a row's node stand for the elements, static values and calls of the
-- instance of the row.

module _ {A : Type 0} where
  some_some : (p o : Option A) → option_map Some p ≡ Some o → p ≡ o
  some_some None o e = absurd cc
  some_some (Some x) o e = cc

  -- a list of things that are all there has the thing itself at a place
  held_there :
      (xs : List A) (os : List (Option A)) (i : ℕ) (o : Option A) → map Some xs ≡ os →
      slice_get os i ≡ Some o → slice_get xs i ≡ o
  held_there xs os i o e at =
      cc (some_some (slice_get xs i) o (sym (slice_get-map Some xs i) ∙ (ap (λ (l : List (Option
      A)). slice_get l i) e ∙ at)))

module _ (P : Program) (r : Reached) (t : Table) (reached : IsReached P r)
    (table : IsTable P r t) (accepted : static_refusal P ≡ None) (k : ℕ) (i : row.Instance)
    (here : Instance) (is : IsRow P r t table k i here) where
  -- the node of a row is resolved
  pub own_resolved : IsResolved (source_names P) is.node
  own_resolved =
      let sp = table.specialized i.specialization.0 is.specialization is.specialized in
      let m = node_at P r t reached table is.specialization sp.0 in
      subst (IsResolved (source_names P)) (same_Some m.0 is.node (sym m.1 ∙ is.resolved)) m.2

  own_values :
      map Some is.specialization.statics.items
      ≡ map (static_value P (instance_of here.path (node_of is.node)
      is.specialization.values.items)) (statics_of is.node)
  own_values =
      values_at P r t reached table is.specialization
      (table.specialized i.specialization.0 is.specialization is.specialized).0 is.node here.path
      is.resolved

  -- the variables of the node of a row have distinct names
  pub own_names : are_distinct (variable_names (node_of is.node)) ≡ true
  own_names =
      subst (λ (c : Instance). are_distinct (variable_names c.node) ≡ true) is.same
      (Every-at (λ (c : Instance). are_distinct (variable_names c.node) ≡ true) (instances P) here
      (variables_distinct P accepted) (in_at (instances P) k here is.instance_is))

  -- the value of a name that is no variable
  pub value_are :
      (j : ℕ) (x : Name) → slice_get (statics_of is.node) j ≡ Some (Named x) →
      value_at is.specialization.statics.items j ≡ or_fault (name_value P here x)
  value_are j x e =
      let own = instance_of here.path (node_of is.node) is.specialization.values.items in
      cc (held_there is.specialization.statics.items (map (static_value P own) (statics_of is.node))
      j (name_value P own x) own_values (slice_get-map (static_value P own) (statics_of is.node) j ∙
      ap (option_map (static_value P own)) e))

  -- the value of a static that is a size or an index
  pub size_are :
      (j : StaticId) → is_static (counts_of is.node) j ≡ true →
      size_at is.specialization.statics.items j.0
      ≡ number P here (static_at (statics_of is.node) j)
  size_are j within =
      cc (static_is P r t is.specialization is.node here.path own_resolved own_names own_values j
      within)

  -- ## Calls

  -- the place of a site is the number of a call
  pub site_call :
      (c : ℕ) (site : Site) → slice_get (node_sites here.node) c ≡ Some site →
      is_call (counts_of is.node) (record { 0 = c }) ≡ true
  site_call c site e =
      let within = slice_get_within (node_sites here.node) c site e in
      let same = ap (λ (d : Instance). length (node_sites d.node)) is.same in
      let many = ap length own_resolved.calls in
      let long = length-map is.node.calls.items
      (site_of (source_names P) (statics_of is.node)) in
      lt-ltb c (length is.node.calls.items) (omega (arith, within, same, many, long))

  own_site :
      (c : ℕ) (site : Site) → slice_get (node_sites here.node) c ≡ Some site →
      site_at (node_sites (node_of is.node)) (record { 0 = c }) ≡ site
  own_site c site e =
      ap (λ (d : Instance). either_or (slice_get (node_sites d.node) c) no_site) (sym is.same)
      ∙ ap (λ o. either_or o no_site) e

  -- the node that call `c` calls, by its number
  pub record IsCallee (c : ℕ) (site : Site) : Type 0 where
    pub callee : ResolvedNode
    pub found : callee_in r is.node (record { 0 = c }) ≡ Some callee
    pub named : node_named P site.callee ≡ Some (node_of callee)
    pub resolved : IsResolved (source_names P) callee

  -- each call has its callee
  pub callee_is :
      (c : ℕ) (site : Site) → slice_get (node_sites here.node) c ≡ Some site → IsCallee c site
  callee_is c site e =
      let m = callee_found P r (names_kept P accepted) reached is.specialization.node.0 is.node
      is.resolved (record { 0 = c }) (site_call c site e) in
      record {
        callee = m.0;
        found = m.1;
        named = ap (λ (z : Site). node_named P z.callee) (sym (own_site c site e)) ∙ m.2;
        resolved = m.3;
      }

  -- how often a call is iterated
  pub times_are :
      (c : ℕ) (site : Site) → slice_get (node_sites here.node) c ≡ Some site →
      times_at is.node is.specialization c ≡ number P here (either_or site.count (Whole 0))
  times_are c site e =
      ap (λ o. either_or o 0) (sym (repeats_is P r t is.specialization is.node here.path
      own_resolved own_names own_values (record { 0 = c }) (site_call c site e)))
      ∙ (ap (λ (z : Site). number P (instance_of here.path (node_of is.node)
      is.specialization.values.items) (either_or z.count (Whole 0))) (own_site c site e)
      ∙ ap (λ (d : Instance). number P d (either_or site.count (Whole 0))) (sym is.same))

  -- the elements of a variable of what a call calls at an index
  pub child_are :
      (c : ℕ) (site : Site) → slice_get (node_sites here.node) c ≡ Some site →
      (m : ResolvedNode) → callee_in r is.node (record { 0 = c }) ≡ Some m → (index : ℕ)
      (x : VariableId) → is_variable (counts_of m) x ≡ true →
      child_numbers r t k c index x ≡ numbers_of P (Child here.path c index) (name_in m x)
  child_are c site e m found index x within =
      let own = callee_is c site e in
      let same = same_Some own.callee m (sym own.found ∙ found) in
      child_numbers_are P r t table reached accepted k i here is c index m
      (subst (IsResolved (source_names P)) same own.resolved).as_many
      (λ there at.
      let by = called P here.path c index there at in
      let caller = same_Some by.caller here
      (sym by.above ∙ at_path P here (in_at (instances P) k here is.instance_is)) in
      let one = same_Some by.site site
      (sym by.stands ∙ (ap (λ (d : Instance). slice_get (node_sites d.node) c) caller ∙ e)) in
      same_Some there.node (node_of m)
      (sym (callee_node P by.caller by.site c index there by.gives)
      ∙ (ap (λ (z : Site). node_named P z.callee) one
      ∙ (own.named ∙ ap (λ n. Some (node_of n)) same))))
      x within

-- What the numbers in the text of a row's node stand for is what the instance of the row gives
-- them, where the clocks of the row are the clocks of the instance.

-- ## Names

-- for each name in a list of declarations, a declaration is found
declared_there :
    (x : Name) (ds : List Declaration) (i : ℕ) → slice_get (map (λ d. d.name) ds) i ≡ Some x →
    (d : Declaration) × (named (λ d. d.name) x ds ≡ Some d)
declared_there x [] i e = absurd cc
declared_there x (d ∷ ds) zero e =
    let same : d.name ≡ x = same_Some d.name x e in
    let found = (bytes_eq-Decides d.name x).1 same in
    (d, rw found refl)
declared_there x (d ∷ ds) (suc i) e = by (declared_there x ds i e) (bytes_eq d.name x) refl
  where
    by : ((c : Declaration) × (named (λ d. d.name) x ds ≡ Some c)) → (b : Bool) →
        bytes_eq d.name x ≡ b → (c : Declaration) × (named (λ d. d.name) x (d ∷ ds) ≡ Some c)
    by z true is = (d, rw is refl)
    by z false is = (z.0, rw is z.1)

-- the clocks of a row are the clocks of its instance, and the parts of its terms that are arrays of
-- one element or more are known
pub record AreRowClocks (P : Program) (r : Reached) (n : ResolvedNode) (here : Instance)
    (k : RowClocks) : Type 0 where
  pub declared :
      (x : VariableId) → is_variable (counts_of n) x ≡ true →
      k.declared x.0
      ≡ flat_clock (layout P) here.path (declared_clock here.node (name_in n x))
  pub sampled :
      (x : VariableId) (sign : Bool) → is_variable (counts_of n) x ≡ true →
      k.sampled x.0 sign
      ≡ flat_clock (layout P) here.path
      (On (declared_clock here.node (name_in n x)) (name_in n x) sign)
  pub clock :
      (t : ℕ) (o : Occurrence) → slice_get (node_occurrences P here.node) t ≡ Some o →
      k.clock t ≡ flat_clock (layout P) here.path o.clock
  pub parts :
      (t : ℕ) (e : Expr) → slice_get (node_parts here.node) t ≡ Some e →
      (m : ℕ) (ms : List ℕ) → (data_type P here e).sizes ≡ m ∷ ms → 0 < m →
      k.parts t ≡ part_count P here e
  pub input :
      (c i : ℕ) (site : Site) (m : ResolvedNode) →
      slice_get (node_sites here.node) c ≡ Some site → i < count_of P here site →
      callee_in r n (record { 0 = c }) ≡ Some m → (x : VariableId) → x.0 < m.inputs →
      k.input c i x.0
      ≡ flat_clock (layout P) (Child here.path c i) (declared_clock (node_of m) (name_in m x))

module _ (P : Program) (r : Reached) (t : Table) (reached : IsReached P r)
    (table : IsTable P r t) (accepted : static_refusal P ≡ None)
    (unhidden : (names : List Name) (s : Static) → is_no_variable names s ≡ true →
    (x : Name) × (s ≡ Named x)) (k : ℕ) (i : row.Instance) (here : Instance)
    (is : IsRow P r t table k i here) (clocks_of : RowClocks)
    (clocks : AreRowClocks P r is.node here clocks_of) where
  abbrev own_context : Context
  own_context = row_context r t clocks_of k is.node is.specialization

  own : IsResolved (source_names P) is.node
  own = own_resolved P r t reached table accepted k i here is

  own_node : here.node ≡ node_of is.node
  own_node = ap (λ (c : Instance). c.node) is.same

  name_there :
      (x : VariableId) → is_variable (counts_of is.node) x ≡ true →
      slice_get (map (λ d. d.name) (variables (node_of is.node))) x.0
      ≡ Some (name_in is.node x)
  name_there x w =
      let names = variable_names (node_of is.node) in
      let y = held_at names x.0 (subst (λ k. nat_lt x.0 k ≡ true)
      (own.as_many ∙ sym (length-map (variables (node_of is.node)) (λ d. d.name))) w) in
      y.1 ∙ ap Some (sym (ap (λ o. either_or o []) y.1))

  variable_there :
      (x : VariableId) → is_variable (counts_of is.node) x ≡ true →
      IsDeclared here (name_in is.node x)
  variable_there x w =
      let d = declared_there (name_in is.node x) (variables (node_of is.node)) x.0
      (name_there x w) in
      let found = named_every (λ d. Unit {0}) (name_in is.node x) (variables (node_of is.node)) d.0
      (all_units (variables (node_of is.node))) d.1 in
      record {
        declaration = d.0;
        found = ap (λ (m : Node). named (λ d. d.name) (name_in is.node x) (variables m)) own_node
            ∙ d.1;
        name = (bytes_eq-Decides d.0.name (name_in is.node x)).0 found.1;
      }
    where
      all_units : (ds : List Declaration) → Every (λ d. Unit {0}) ds
      all_units [] = tt
      all_units (d ∷ ds) = (tt, all_units ds)

  value_there :
      (j : StaticId) → is_static (counts_of is.node) j ≡ true →
      is_no_variable (variable_names (node_of is.node)) (static_at (statics_of is.node) j)
      ≡ true →
      IsValue P here own_context (texts_of is.node) j
  value_there j w u =
      let names = variable_names (node_of is.node) in
      let z = unhidden names (static_at (statics_of is.node) j) u in
      let long : nat_lt j.0 (length (statics_of is.node)) ≡ true =
      subst (λ k. nat_lt j.0 k ≡ true) (sym (length-map is.node.statics.items _)) w in
      let y = held_at (statics_of is.node) j.0 long in
      let at : slice_get (statics_of is.node) j.0 ≡ Some (Named z.0) =
      y.1 ∙ ap Some (sym (ap (λ o. either_or o (Whole 0)) y.1) ∙ z.1) in
      let other : among z.0 names ≡ false = not-true _ (sym (ap (is_no_variable names) z.1) ∙ u) in
      record {
        name = z.0;
        is = z.1;
        unfound = ap (λ (m : Node). named (λ d. d.name) z.0 (variables m)) own_node
            ∙ unfound z.0 (variables (node_of is.node)) other;
        value = value_are P r t reached table accepted k i here is j.0 z.0 at;
      }

  call_there :
      (c : ℕ) (site : Site) → slice_get (node_sites here.node) c ≡ Some site →
      IsCallContext (layout P) P here own_context c site
  call_there c site e =
      let m = callee_is P r t reached table accepted k i here is c site e in
      let callee = node_of m.callee in
      let name_of : (x : ℕ) (d : Declaration) → slice_get (variables callee) x ≡ Some d →
      name_in m.callee (record { 0 = x }) ≡ d.name =
      λ x d at.
      ap (λ o. either_or o [])
      (slice_get-map (λ d. d.name) (variables callee) x ∙ ap (option_map (λ d. d.name)) at) in
      record {
        callee = callee;
        parameters = parameters_of m.callee;
        found = ap (option_map parameters_of) m.found;
        named = m.named;
        inputs = m.resolved.inputs;
        outputs = m.resolved.outputs;
        repeats = times_are P r t reached table accepted k i here is c site e;
        child = λ index x d at.
            let long = slice_get_within (variables callee) x d at in
            let many = m.resolved.as_many in
            let within : nat_lt x (length m.callee.variables.items) ≡ true =
            grind (arith, nat_tests) in
            child_are P r t reached table accepted k i here is c site e m.callee m.found index
            (record { 0 = x }) within
            ∙ ap (numbers_of P (Child here.path c index)) (name_of x d at);
        input = λ index x d less at.
            let long = slice_get_within callee.inputs x d at in
            let many = m.resolved.inputs in
            let all = get_first callee.inputs (callee.outputs ++ callee.locals) x d at in
            clocks.input c index site m.callee e less m.found (record { 0 = x })
            (omega (arith, long, many))
            ∙ ap (λ y. flat_clock (layout P) (Child here.path c index)
            (declared_clock callee y)) (name_of x d all);
      }

  -- the context of the row is what its instance gives
  pub context_is : IsContext (layout P) P here (texts_of is.node) (counts_of is.node) own_context
  context_is = record {
    named = variable_there;
    places = λ x w. own_numbers_are P r t reached table accepted k i here is x w;
    declared = λ x w. clocks.declared x w;
    sampled = λ x sign w. clocks.sampled x sign w;
    value = λ j w u ts e. value_there j w u;
    count = λ j w. size_are P r t reached table accepted k i here is j w;
    call = call_there;
  }
