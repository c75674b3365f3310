-- The table of clocks that is filled row by row is the table of the formula: each clock of a row is
-- found in it at its place.
use Rattle.lb_expand.proofs.Words
use Words.{Bool, Call, CallClock, CallId, Child, ClockId, Declaration, ElementId, Every, Expr}
use Words.{Given, GivenVariable, HasClocks, HasFoundClocks, In, Instance, InstanceId, IsClockTable}
use Words.{IsOwn, IsReached, IsTable, List, Name, Node, NodeClocks, None, Observer, Occurrence}
use Words.{Option, Origin, Path, Program, Reached, ResolvedNode, Root, Site, Some, Sources}
use Words.{Specialization, Table, VariableId, [], all_at, all_clocks, all_in, all_runs, all_serving}
use Words.{and_first, and_second, ap, ap₂, are_declared_clocks, are_distinct, arith, at_path}
use Words.{call_at, call_of, call_of_site, call_site, called, callee_node, caller_number}
use Words.{check_refusal, clock_id, clock_in, clock_of, clock_place, clocked, clocks_among}
use Words.{count_at, counts_of, declared_clock, declared_in, declared_within, element_total, find}
use Words.{find_in, flat_clock, found_call, get_name, get_or, given_for, given_to, holds, in_at}
use Words.{in_instances, instance_at, instances, instantiation_kept, is_clock_within, is_variable}
use Words.{layout, length, length-map, list_all, listed, lt-ltb, map, mapped_from, name_in, named}
use Words.{nat_eq, nat_lt, nat_tests, no_element, node_at, node_named, node_occurrences, node_of}
use Words.{node_sites, numbers_at, option_map, own_element, own_site, pair_names, path_is, paths_of}
use Words.{place_in, refl, row_number, row_numbers, same_Some, serving, sign_place, signed_clock}
use Words.{site_clock, site_occurs, slice_get, slice_get_within, source_names, static_refusal}
use Words.{subst, sym, take_all, true, variable_names, variable_number, variable_place, variables}
use Words.{variables_before, widths_in, ℕ, ◌*◌, ◌+◌, ◌-◌, ◌<◌, ◌>>=◌, ◌∙◌, ◌∷◌, ◌≡◌, ◌≤◌}
use Rattle.lb_check.proofs.clocking.{ClockTests.declared_is, OwnTermClocks.term_clocks_own}
use Rattle.lb_check.{proofs.programs.ServedVariables.has_first, specs.Elements.numbers_of}
use Rattle.lb_check.specs.FoundTerms.{IsFoundCall, are_parameters, given_names, is_call_within}
use Rattle.lb_check.specs.{Needs.{given_at, serves}, PlacedClocks.call_in}
use Rattle.lb_check.specs.declared.own_clock.Clock.{Clock, TheVariants.{Base, On}}
use Rattle.lb_expand.proofs.clock_tables.AddedClocks.{AreCounted, clocks_long, clocks_read}
use Rattle.lb_expand.proofs.clock_tables.AddedClocks.{runs_called, runs_first, runs_observer}
use Rattle.lb_expand.proofs.clock_tables.AddedClocks.{serving_given, serving_own}
use Rattle.lb_expand.proofs.{clock_tables.ClockTable.clock_row, frames.RowContexts.own_names}
use Rattle.lb_expand.proofs.{frames.RowContexts.own_resolved, lists.Lists.found_pair}
use Rattle.lb_expand.proofs.numbering.{NumberedPlaces.signs_are, NumberedRows.before_later}
use Rattle.lb_expand.proofs.numbering.NumberedRows.{count_next, next_before, own_numbers_are}
use Rattle.lb_expand.proofs.numbering.NumberedRows.{pieces_narrow, row_count, row_narrow}
use Rattle.lb_expand.proofs.numbering.NumberedRows.{row_variables, variable_there}
use Rattle.lb_expand.proofs.numbering.RowChildren.{called_is, origin_called, row_number_is}
use Rattle.lb_expand.proofs.numbering.{RowChildren.variable_place_is, RowInstances.IsRow}
use Rattle.lb_expand.proofs.numbering.RowInstances.{observer_path, origin_path, root_path, row_of}
use Rattle.lb_expand.{proofs.numbering.RowInstances.row_shown, specs.ClockTables.IsClockRow}
use Rattle.lb_static.specs.declared.table.Instance as row
use Rattle.lb_static.specs.declared.table.Origin.TheVariants as origin
use Rattle.lb_expand.specs.ClockPlaces as places

first_held : (xs : List ℕ) (i : ℕ) → slice_get xs 0 ≡ Some i → slice_get xs 0 ≡ Some (get_or xs 0 0)
first_held [] i e = absurd cc
first_held (x ∷ xs) i e = refl

-- the path of a call is not the path `Root`
no_root : (p : Path) (c i : ℕ) → Child p c i ≡ Root → ⊥
no_root p c i e = absurd cc

no_observer : (p : Path) (c i : ℕ) → Child p c i ≡ Observer → ⊥
no_observer p c i e = absurd cc

-- the pair that is given for a name, if there is one
abbrev by_name : Name → Given → Option (Name × Name)
by_name x gs = named (λ (g : Name × Name). g.0) x gs

abbrev id_at : ℕ → Option ClockId
id_at m = Some (record { 0 = m })

module _ (P : Program) (r : Reached) (t : Table) (reached : IsReached P r)
    (table : IsTable P r t) (accepted : static_refusal P ≡ None)
    (checked : check_refusal P ≡ None) (found : List NodeClocks)
    (has : HasFoundClocks P r t found) (vars starts : List ℕ)
    (numbers : (j x : ℕ) → numbers_at vars starts j x ≡ row_numbers r t j (record { 0 = x }))
    (kept : (j : ℕ) → j ≤ length t.instances.items →
    get_or vars j 0 ≡ variables_before r t j)
    (few : element_total r t ≤ 65536) where
  -- the sources that the table is filled from
  abbrev pub filled : Sources
  filled = record { reached = r; table = t; found = found; variables = vars; starts = starts }

  -- rows have their variables one after the other
  pub counted : AreCounted filled
  counted = record {
    first = kept 0 (omega arith);
    next = λ k lt. count_next P r t reached table accepted vars kept k lt;
  }

  -- ## Numbers of variables

  vars_few : (k : ℕ) → k ≤ length t.instances.items → get_or vars k 0 ≤ 65536
  vars_few k le =
      let own = kept k le in
      let all = pieces_narrow (widths_in r t) t.instances.items (row_narrow P r t reached table
      accepted) k in
      omega (arith, own, all, few)

  -- the number of variable `x` of row `k` is `x` behind the first variable of the row
  number_is :
      (k : ℕ) → k < length t.instances.items → (x : ℕ) → x < count_at vars k →
      variable_number vars k x ≡ get_or vars k 0 + x
  number_is k lt x low =
      let next = counted.next k lt in
      let all = vars_few (k + 1) (omega (arith, lt)) in
      let small : get_or vars k 0 + x ≤ 65536 = omega (arith, next, all, low) in
      omega (arith, small)

  module _ (k : ℕ) (i : row.Instance) (here : Instance) (is : IsRow P r t table k i here) where
    pub stands : In here (instances P)
    stands = in_at (instances P) k here is.instance_is

    row_within : k < length t.instances.items
    row_within = slice_get_within t.instances.items k i is.row_is

    node_same : here.node ≡ node_of is.node
    node_same = ap (λ (c : Instance). c.node) is.same

    -- the node of a row has clocks
    pub own_clocks : HasClocks is.node
    own_clocks = record {
      nodes = source_names P;
      resolved = own_resolved P r t reached table accepted k i here is;
      distinct = own_names P r t reached table accepted k i here is;
      declared =
          subst (λ (c : Instance). are_declared_clocks c.node ≡ true) is.same
          (and_first (are_declared_clocks here.node) _ (clocked P checked here stands));
    }

    pub apart : are_distinct (variable_names here.node) ≡ true
    apart = rw node_same own_clocks.distinct

    variable_low :
        (y : VariableId) → is_variable (counts_of is.node) y ≡ true → y.0 < count_at vars k
    variable_low y w =
        let many = (row_variables P r t reached table k i here is).0 in
        let own = row_count P r t reached table accepted vars kept k i here is in
        let low : y.0 < length is.node.variables.items = below in
        omega (arith, many, own, low)
      where
        below : y.0 < length is.node.variables.items
        below = grind (arith, nat_tests)

    -- the name of a variable of a row stands at its number
    name_stands :
        (y : VariableId) → is_variable (counts_of is.node) y ≡ true →
        slice_get (variable_names here.node) y.0 ≡ Some (name_in is.node y)
    name_stands y w =
        let v = variable_there P r t reached table accepted here is.node y
        own_clocks.resolved.as_many node_same w in
        get_name (variables here.node) y.0 v.declaration v.stands ∙ ap (λ x. Some x) (sym v.named)

    own_number : row_number P here.path ≡ k
    own_number = row_number_is P r t table k i here is

    own_place :
        (y : VariableId) → is_variable (counts_of is.node) y ≡ true →
        variable_place P here.path (name_in is.node y) ≡ y.0
    own_place y w = variable_place_is P here stands apart y.0 _ (name_stands y w)

    -- a row has a node
    pub node_found : node_at r t i ≡ Some is.node
    node_found = cc (is.specialized, is.resolved)

    -- the first element of a variable
    own_first :
        (y : VariableId) → is_variable (counts_of is.node) y ≡ true →
        slice_get (numbers_of P here.path (name_in is.node y)) 0
        ≡ Some (own_element vars starts k y.0).0
    own_first y w =
        let x = name_in is.node y in
        let first = has_first P accepted here stands _ (in_at (variable_names here.node) y.0
        (name_in is.node y) (name_stands y w)) in
        let same : numbers_of P here.path x ≡ numbers_at vars starts k y.0 =
        sym (numbers k y.0 ∙ own_numbers_are P r t reached table accepted k i here is y w) in
        cc (first_held (numbers_of P here.path x) first.0 first.1)

  -- ## Paths

  -- the clock on which the instance at a path runs, how many variables stand before it, and the
  -- place of the first clock of its variable
  abbrev path_runs : Path → Option ClockId
  path_runs p = places.path_runs P (all_runs filled) p

  abbrev path_before : Path → ℕ
  path_before p = places.path_before P vars p

  abbrev path_place : Path → Name → ℕ
  path_place p x = places.path_place P vars p x

  runs_are :
      (k : ℕ) (i : row.Instance) (here : Instance) → IsRow P r t table k i here →
      get_or (all_runs filled) k None ≡ path_runs here.path
  runs_are k i here is = by i.origin refl
    where
      at_path_of : (p : Path) → slice_get (paths_of t) k ≡ Some p → here.path ≡ p
      at_path_of p e = same_Some here.path p (sym is.path_is ∙ e)

      by : (o : Origin) → i.origin ≡ o → get_or (all_runs filled) k None ≡ path_runs here.path
      by origin.UnderTest e =
          runs_first filled counted k i is.row_is e
          ∙ sym (ap path_runs (at_path_of Root (root_path P r t table k i is.row_is e)))
      by origin.Observer e =
          runs_observer filled counted k i is.row_is e
          ∙ sym (ap path_runs (at_path_of Observer (observer_path P r t table k i is.row_is e)))
      by (origin.Called caller call index) e =
          let up = origin_path P r t table k i is.row_is caller call index e in
          let path = at_path_of (Child up.above call.0 index) up.path in
          let number : row_number P (Child up.above call.0 index) ≡ k =
          ap (row_number P) (sym path) ∙ own_number k i here is in
          sym (ap path_runs path ∙ ap (λ j. get_or (all_runs filled) j None) number)

  -- the place of a clock of a row is the place that the formula gives
  id_is :
      (k : ℕ) (i : row.Instance) (here : Instance) (is : IsRow P r t table k i here) (c : Clock) →
      is_clock_within is.node c ≡ true →
      clock_id vars (all_runs filled) k c
      ≡ clock_place path_place path_runs here.path (clock_in is.node c)
  id_is k i here is Base w = runs_are k i here is
  id_is k i here is (On x sign) w =
      let number = number_is k (row_within k i here is) x.0 (variable_low k i here is x w) in
      let row = own_number k i here is in
      let place = own_place k i here is x w in
      let start = ap (λ n. get_or vars n 0) row in
      let same : 2 * variable_number vars k x.0
      ≡ path_place here.path (name_in is.node x) = omega (arith, number, place, start) in
      cc

  -- ## Calls

  -- a call of row `k`: the row of its caller at path `p`, and the call in it
  record IsCalledRow (k : ℕ) (i : row.Instance) (p : Path) (call : ℕ) : Type 0 where
    j : ℕ
    up : row.Instance
    caller : Instance
    above : IsRow P r t table j up caller
    path : caller.path ≡ p
    low : j < k
    caller_id : InstanceId
    call_id : CallId
    index : ℕ
    origin_is : i.origin ≡ origin.Called caller_id call_id index
    caller_is : caller_id.0 ≡ j
    call_is : call_id.0 ≡ call
    site : Site
    occurrence : Occurrence
    occurs : call_at P caller.node call ≡ Some occurrence
    number : occurrence.calls_before ≡ call
    site_is : own_site occurrence.expr ≡ Some site
    call_found : CallClock
    found_is : found_call t found j call ≡ Some call_found
    law : IsFoundCall P above.node occurrence (call_in call_found)
    within : is_call_within above.node (call_in call_found) ≡ true

  called_row :
      (k : ℕ) (i : row.Instance) (here : Instance) → IsRow P r t table k i here → (p : Path)
      (call index : ℕ) → here.path ≡ Child p call index →
      IsCalledRow k i p call
  called_row k i here is p call index path =
      let at = ap (instance_at P) (sym path) ∙ at_path P here (stands k i here is) in
      let h = called P p call index here at in
      let up_stands = in_instances P (instantiation_kept P accepted) p h.caller h.above in
      let up_path = path_is P p h.caller h.above in
      let j = place_in (instances P) h.caller up_stands in
      let up = row_of P r t table _ _ j.1 in
      let below : here.path ≡ Child h.caller.path call index = cc in
      let o = called_is _ call index _ (origin_called P r t table _ call index k _ i _ here up.1
      is below) in
      let low = (origin_path P r t table k i is.row_is _ _ _ o.is).before in
      let site = site_occurs P checked h.caller up_stands call h.site h.stands in
      let own = call_of P h.caller.node site.occurrence site.stands
      (call_of_site site.occurrence.expr h.site site.site) in
      let occurs = ap (call_at P h.caller.node) (sym site.number) ∙ own in
      let same = node_same _ _ _ up.1 in
      let f = has.clocks up.0.specialization.0 up.1.specialization up.1.node up.1.specialized
      up.1.resolved in
      let c = f.3 call site.occurrence (ap (λ m. call_at P m call) (sym same) ∙ occurs) in
      let cc = mapped_from call_in f.0.calls.items call c.0 c.1 in
      record {
        j = j.0;
        up = up.0;
        caller = h.caller;
        above = up.1;
        path = up_path;
        low = rw (← o.caller_is) low;
        caller_id = o.caller;
        call_id = o.call;
        index = o.index;
        origin_is = o.is;
        caller_is = o.caller_is;
        call_is = o.call_is;
        site = h.site;
        occurrence = site.occurrence;
        occurs = occurs;
        number = site.number;
        site_is = site.site;
        call_found = cc.0;
        found_is =
            ap (λ (o : Option row.Instance). o >>= λ i.
            slice_get t.specializations.items i.specialization.0 >>= λ s.
            slice_get (listed (λ (f : NodeClocks). f.calls.items) (slice_get found s.node.0)) call)
            up.1.row_is
            ∙ ap (λ (o : Option Specialization). o >>= λ s.
            slice_get (listed (λ (f : NodeClocks). f.calls.items) (slice_get found s.node.0)) call)
            up.1.specialized
            ∙ ap (λ (o : Option NodeClocks).
            slice_get (listed (λ (f : NodeClocks). f.calls.items) o) call) f.1
            ∙ cc.1;
        law = subst (IsFoundCall P up.1.node site.occurrence) (sym cc.2) c.2;
        within =
            ap (is_call_within up.1.node) cc.2
            ∙ all_at (is_call_within up.1.node) (map call_in f.0.calls.items) call c.0 f.5 c.1;
      }

  -- the variable of its caller that is given for a variable of a row
  abbrev given_among : List GivenVariable → ℕ → Option GivenVariable
  given_among gs y = find (λ (g : GivenVariable). nat_eq g.callee.0 y) gs

  number_given :
      (k : ℕ) (i : row.Instance) (p : Path) (call : ℕ) (u : IsCalledRow k i p call) (y : ℕ) →
      caller_number filled i.origin y
      ≡ option_map (λ (g : GivenVariable). variable_number vars u.j g.caller.0)
      (given_among u.call_found.given.items y)
  number_given k i p call u y =
      let place : found_call t found u.caller_id.0 u.call_id.0 ≡ Some u.call_found =
      ap₂ (found_call t found) u.caller_is u.call_is ∙ u.found_is in
      ap (λ o. caller_number filled o y) u.origin_is
      ∙ ap (λ (o : Option CallClock). o >>= λ c.
      option_map (λ y. variable_number vars u.caller_id.0 y.0) (given_for c.given.items y)) place
      ∙ ap (λ m. option_map (λ (z : VariableId). variable_number vars m z.0)
      (given_for u.call_found.given.items y)) u.caller_is
      ∙ by (given_among u.call_found.given.items y)
    where
      by : (o : Option GivenVariable) →
          option_map (λ (z : VariableId). variable_number vars u.j z.0)
          (option_map (λ (g : GivenVariable). g.caller) o)
          ≡ option_map (λ (g : GivenVariable). variable_number vars u.j g.caller.0) o
      by None = refl
      by (Some g) = refl

  -- the pair that is given by name is the pair that is given by number
  name_given :
      (k : ℕ) (i : row.Instance) (here : Instance) (is : IsRow P r t table k i here) (p : Path)
      (call index : ℕ) (path : here.path ≡ Child p call index) (u : IsCalledRow k i p call)
      (y : VariableId) → is_variable (counts_of is.node) y ≡ true →
      by_name (name_in is.node y) (given_at P (instance_at P p) call)
      ≡ option_map (pair_names (variable_names here.node) u.above.node)
      (given_among u.call_found.given.items y.0)
  name_given k i here is p call index path u y w =
      let n = u.above.node in
      let gs = u.call_found.given.items in
      let x = name_in is.node y in
      let caller_at : instance_at P p ≡ Some u.caller =
      ap (instance_at P) (sym u.path)
      ∙ at_path P u.caller (stands u.j u.up u.caller u.above) in
      let same = node_same u.j u.up u.caller u.above in
      let own : given_at P (instance_at P p) call ≡ given_to P (node_of n) call u.occurrence.expr =
      ap (λ o. given_at P o call) caller_at
      ∙ ap (listed (λ (o : Occurrence). given_to P u.caller.node call o.expr)) u.occurs
      ∙ ap (λ m. given_to P m call u.occurrence.expr) same in
      let law : given_to P (node_of n) call u.occurrence.expr
      ≡ given_names P n u.occurrence.expr gs =
      ap (λ m. given_to P (node_of n) m u.occurrence.expr) (sym u.number) ∙ u.law.given in
      ap (by_name x) own
      ∙ by u.occurrence.expr u.site_is law u.law.parameters
    where
      callee_is : (f : Name) → u.site.callee ≡ f → node_named P f ≡ Some here.node
      callee_is f e =
          let at = ap (instance_at P) (sym path) ∙ at_path P here (stands k i here is) in
          let h = called P p call index here at in
          let caller_at : instance_at P p ≡ Some u.caller =
          ap (instance_at P) (sym u.path)
          ∙ at_path P u.caller (stands u.j u.up u.caller u.above) in
          let one = same_Some h.caller u.caller (sym h.above ∙ caller_at) in
          let site = site_occurs P checked u.caller (stands u.j u.up u.caller u.above) call h.site
          (ap (λ (c : Instance). slice_get (node_sites c.node) call) (sym one) ∙ h.stands) in
          let own_call = ap (call_at P u.caller.node) (sym site.number)
          ∙ call_of P u.caller.node site.occurrence site.stands
          (call_of_site site.occurrence.expr h.site site.site) in
          let occurrence = same_Some site.occurrence u.occurrence (sym own_call ∙ u.occurs) in
          let same_site = same_Some h.site u.site
          (sym site.site ∙ ap (λ (o : Occurrence). own_site o.expr) occurrence ∙ u.site_is) in
          ap (node_named P) (sym (ap (λ (s : Site). s.callee) same_site ∙ e))
          ∙ callee_node P h.caller h.site call index here h.gives

      none_found : (gs : List GivenVariable) → [] ≡ map (pair_names [] u.above.node) gs →
          None ≡ option_map (pair_names (variable_names here.node) u.above.node)
          (given_among gs y.0)
      none_found [] e = refl
      none_found (g ∷ gs) e = absurd cc

      by : (e : Expr) → own_site e ≡ Some u.site →
          given_to P (node_of u.above.node) call e
          ≡ given_names P u.above.node e u.call_found.given.items →
          are_parameters P e u.call_found.given.items ≡ true →
          by_name (name_in is.node y) (given_to P (node_of u.above.node) call e)
          ≡ option_map (pair_names (variable_names here.node) u.above.node)
          (given_among u.call_found.given.items y.0)
      by (Call f statics es) site law low =
          let gs = u.call_found.given.items in
          let callee = callee_is f
          (ap (λ (s : Site). s.callee) (sym (same_Some (call_site f statics) u.site site))) in
          let names = variable_names here.node in
          ap (by_name (name_in is.node y))
          (law ∙ ap (λ o. listed (λ (c : Node).
          map (pair_names (variable_names c) u.above.node) gs) o) callee)
          ∙ found_pair names (apart k i here is) u.above.node y.0 (name_in is.node y)
          (name_stands k i here is y w) gs
          (sym (ap (λ o. holds (λ (c : Node).
          list_all (λ g. nat_lt g.callee.0 (length (variable_names c))) gs) o) callee) ∙ low)
      by _ site law low = none_found u.call_found.given.items law

  -- ## What serves

  -- the element that serves for a variable is filled in
  abbrev IsServed : Path → (k : ℕ) → Name → ℕ → Type 0
  IsServed p k x y =
      slice_get (numbers_of P (serving P p x).0 (serving P p x).1) 0
      ≡ Some (get_or (all_serving filled) (get_or vars k 0 + y) no_element).0

  -- the element that serves for a variable of a row without a caller is its own first element
  start_serves :
      (k : ℕ) (i : row.Instance) (here : Instance) (is : IsRow P r t table k i here)
      (y : VariableId) → is_variable (counts_of is.node) y ≡ true →
      ((p : Path) (c j : ℕ) → here.path ≡ Child p c j → ⊥) →
      slice_get (numbers_of P here.path (name_in is.node y)) 0
      ≡ Some (get_or (all_serving filled) (get_or vars k 0 + y.0) no_element).0
  start_serves k i here is y w start =
      let own = serving_own filled counted k i is.row_is y.0 (variable_low k i here is y w)
      (none i.origin refl) in
      own_first k i here is y w ∙ ap (λ (e : ElementId). Some e.0) (sym own)
    where
      none : (o : Origin) → i.origin ≡ o → caller_number filled i.origin y.0 ≡ None
      none origin.UnderTest e = ap (λ o. caller_number filled o y.0) e
      none origin.Observer e = ap (λ o. caller_number filled o y.0) e
      none (origin.Called caller call index) e =
          let up = origin_path P r t table k i is.row_is caller call index e in
          absurd (start up.above call.0 index
          (same_Some here.path (Child up.above call.0 index) (sym is.path_is ∙ up.path)))

  all_serves :
      (p : Path) (k : ℕ) (i : row.Instance) (here : Instance) (is : IsRow P r t table k i here) →
      here.path ≡ p → (y : VariableId) → is_variable (counts_of is.node) y ≡ true →
      IsServed p k (name_in is.node y) y.0
  all_serves Root k i here is path y w =
      subst (λ q. slice_get (numbers_of P q (name_in is.node y)) 0
      ≡ Some (get_or (all_serving filled) (get_or vars k 0 + y.0) no_element).0) path
      (start_serves k i here is y w (λ q c j e. no_root q c j (sym e ∙ path)))
  all_serves Observer k i here is path y w =
      subst (λ q. slice_get (numbers_of P q (name_in is.node y)) 0
      ≡ Some (get_or (all_serving filled) (get_or vars k 0 + y.0) no_element).0) path
      (start_serves k i here is y w (λ q c j e. no_observer q c j (sym e ∙ path)))
  all_serves (Child p call index) k i here is path y w =
      let u = called_row k i here is p call index path in
      by u (name_given k i here is p call index path u y w) (number_given k i p call u y.0)
      (given_among u.call_found.given.items y.0) refl
      (λ z v. all_serves p u.j u.up u.caller u.above u.path z v)
    where
      by : (u : IsCalledRow k i p call) →
          by_name (name_in is.node y) (given_at P (instance_at P p) call)
          ≡ option_map (pair_names (variable_names here.node) u.above.node)
          (given_among u.call_found.given.items y.0) →
          caller_number filled i.origin y.0
          ≡ option_map (λ (g : GivenVariable). variable_number vars u.j g.caller.0)
          (given_among u.call_found.given.items y.0) →
          (o : Option GivenVariable) → given_among u.call_found.given.items y.0 ≡ o →
          ((z : VariableId) → is_variable (counts_of u.above.node) z ≡ true →
          IsServed p u.j (name_in u.above.node z) z.0) →
          IsServed (Child p call index) k (name_in is.node y) y.0
      by u name number None e again =
          let x = name_in is.node y in
          let pair = pair_names (variable_names here.node) u.above.node in
          let none : by_name x (given_at P (instance_at P p) call) ≡ None =
          name ∙ ap (option_map pair) e in
          let no_number : caller_number filled i.origin y.0 ≡ None =
          number ∙ ap (option_map (λ (g : GivenVariable). variable_number vars u.j g.caller.0)) e in
          let own = serving_own filled counted k i is.row_is y.0 (variable_low k i here is y w)
          no_number in
          ap (λ o. slice_get (numbers_of P (serves (Child p call index) x o (serving P p)).0
          (serves (Child p call index) x o (serving P p)).1) 0) none
          ∙ ap (λ q. slice_get (numbers_of P q x) 0) (sym path)
          ∙ own_first k i here is y w ∙ ap (λ (e : ElementId). Some e.0) (sym own)
      by u name number (Some g) e again =
          let x = name_in is.node y in
          let gs = u.call_found.given.items in
          let pair = pair_names (variable_names here.node) u.above.node in
          let some : by_name x (given_at P (instance_at P p) call) ≡ Some (pair g) =
          name ∙ ap (option_map pair) e in
          let caller_number_is : caller_number filled i.origin y.0
          ≡ Some (variable_number vars u.j g.caller.0) =
          number ∙ ap (option_map (λ (g : GivenVariable). variable_number vars u.j g.caller.0)) e in
          let callers = and_second (is_clock_within u.above.node u.call_found.runs)
          (list_all (λ g. is_variable (counts_of u.above.node) g.caller) gs) u.within in
          let there : is_variable (counts_of u.above.node) g.caller ≡ true =
          all_in (λ (g : GivenVariable). is_variable (counts_of u.above.node) g.caller) gs g callers
          (find_in (λ (g : GivenVariable). nat_eq g.callee.0 y.0) gs g e) in
          let below = variable_low u.j u.up u.caller u.above g.caller there in
          let up_within = row_within u.j u.up u.caller u.above in
          let is_number = number_is u.j up_within g.caller.0 below in
          let next = counted.next u.j up_within in
          let own_within = row_within k i here is in
          let low = u.low in
          let later = before_later P r t reached table accepted vars kept (u.j + 1) k
          (omega (arith, low)) (omega (arith, own_within)) in
          let small : variable_number vars u.j g.caller.0 < get_or vars k 0 =
          omega (arith, is_number, below, next, later) in
          let given = serving_given filled counted k i is.row_is y.0
          (variable_low k i here is y w) (variable_number vars u.j g.caller.0) caller_number_is
          small in
          ap (λ o. slice_get (numbers_of P (serves (Child p call index) x o (serving P p)).0
          (serves (Child p call index) x o (serving P p)).1) 0) some
          ∙ again g.caller there
          ∙ ap (λ m. Some (get_or (all_serving filled) m no_element).0) (sym is_number)
          ∙ ap (λ (e : ElementId). Some e.0) (sym given)

  -- ## The table

  -- each row has a node
  pub nodes_found :
      (k : ℕ) (i : row.Instance) → slice_get t.instances.items k ≡ Some i →
      (n : ResolvedNode) × (node_at r t i ≡ Some n)
  nodes_found k i at =
      let s = row_shown P r t table k i at in (s.1.node, node_found k i s.0 s.1)

  clock_is :
      (here : Instance) → In here (instances P) → (x : Name) → In x (variable_names here.node) →
      (sign : Bool) →
      IsClockRow P (all_clocks filled) path_place path_runs here x sign
  clock_is here on x named_here sign =
      let k = place_in (instances P) here on in
      let w = row_of P r t table _ here k.1 in
      let y = place_in (variable_names here.node) x named_here in
      of k.0 w.0 w.1 y.0 y.1
    where
      of : (k : ℕ) (i : row.Instance) → IsRow P r t table k i here → (y : ℕ) →
          slice_get (variable_names here.node) y ≡ Some x →
          IsClockRow P (all_clocks filled) path_place path_runs here x sign
      of k i is y at =
          let id : VariableId = record { 0 = y } in
          let many = (row_variables P r t reached table _ i here is).0 in
          let long = length-map (variables here.node) (λ (d : Declaration). d.name) in
          let within = slice_get_within (variable_names here.node) y x at in
          let w : is_variable (counts_of is.node) id ≡ true =
          lt-ltb y (length is.node.variables.items) (omega (arith, many, long, within)) in
          let name : name_in is.node id ≡ x =
          same_Some (name_in is.node id) x (sym (name_stands _ i here is _ w) ∙ at) in
          let lower = variable_low _ i here is _ w in
          let number = number_is _ (row_within _ i here is) _ lower in
          let hc = own_clocks _ i here is in
          let same = node_same _ i here is in
          let row_is = own_number _ i here is in
          let place_is = ap (variable_place P here.path) (sym name) ∙ own_place k i here is id w in
          let start = ap (λ n. get_or vars n 0) row_is in
          let spot : path_place here.path x + sign_place sign
          ≡ 2 * (get_or vars k 0 + y) + sign_place sign = omega (arith, place_is, start) in
          let declared : clock_in is.node (declared_in is.node id) ≡ declared_clock here.node x =
          cc (declared_is is.node hc id w) in
          record {
            row = signed_clock (clock_id vars (all_runs filled) k (declared_in is.node id))
                (get_or (all_serving filled) (variable_number vars k y) no_element) sign;
            stands =
                cc (clocks_read filled counted (all_runs filled) (all_serving filled) nodes_found
                k i is.row_is is.node (node_found k i here is) y lower sign);
            parent =
                cc (id_is k i here is (declared_in is.node id) (declared_within is.node hc id w));
            signed = refl;
            serves =
                cc (
                  signs_are P here on x,
                  subst (λ z. slice_get (numbers_of P
                      (serving P here.path z).0 (serving P here.path z).1) 0 ≡ Some (get_or
                      (all_serving filled) (get_or vars k 0 + y) no_element).0) name
                      (all_serves here.path k i here is refl id w),
                );
          }

  is_called :
      (p : Path) (call index : ℕ) (c caller : Instance) (o : Occurrence) →
      instance_at P (Child p call index) ≡ Some c → instance_at P p ≡ Some caller →
      call_at P caller.node call ≡ Some o →
      path_runs (Child p call index)
      ≡ clock_place path_place path_runs p (site_clock P o.clock o.expr)
  is_called p call index c caller o at above occurs =
      let on = in_instances P (instantiation_kept P accepted) (Child p call index) c at in
      let path = path_is P (Child p call index) c at in
      let k = place_in (instances P) c on in
      let w = row_of P r t table _ c k.1 in
      let u = called_row _ _ c w.1 p call index path in
      let up_at : instance_at P p ≡ Some u.caller =
      cc (u.path, at_path P u.caller (stands u.j u.up u.caller u.above)) in
      let place : found_call t found u.caller_id.0 u.call_id.0 ≡ Some u.call_found =
      cc (u.caller_is, u.call_is, u.found_is) in
      let runs = and_first (is_clock_within u.above.node u.call_found.runs)
      (list_all (λ g. is_variable (counts_of u.above.node) g.caller) u.call_found.given.items)
      u.within in
      let number : row_number P (Child p call index) ≡ k.0 = cc (own_number k.0 w.0 c w.1) in
      let low = u.low in
      let lower : u.caller_id.0 < k.0 = rw u.caller_is low in
      cc (
        runs_called filled counted k.0 w.0 w.1.row_is u.caller_id u.call_id u.index u.origin_is
            lower u.call_found place,
        u.caller_is,
        id_is u.j u.up u.caller u.above u.call_found.runs
            runs,
        u.path,
        u.law.runs,
      )

  is_deeper :
      (p : Path) (call index : ℕ) (c caller : Instance) →
      instance_at P (Child p call index) ≡ Some c → instance_at P p ≡ Some caller →
      path_before p + length (variables caller.node) ≤ path_before (Child p call index)
  is_deeper p call index c caller at above =
      let on = in_instances P (instantiation_kept P accepted) (Child p call index) c at in
      let path = path_is P (Child p call index) c at in
      let k = place_in (instances P) c on in
      let w = row_of P r t table k.0 c k.1 in
      let u = called_row k.0 w.0 c w.1 p call index path in
      let up_at : instance_at P p ≡ Some u.caller =
      ap (instance_at P) (sym u.path) ∙ at_path P u.caller (stands u.j u.up u.caller u.above) in
      let one : u.caller ≡ caller = same_Some u.caller caller (sym up_at ∙ above) in
      let long : length (variables u.caller.node) ≡ length (variables caller.node) =
      ap (λ (c : Instance). length (variables c.node)) one in
      let next = next_before P r t reached table accepted vars kept u.j u.up u.caller u.above in
      let within = slice_get_within t.instances.items k.0 w.0 w.1.row_is in
      let low = u.low in
      let more = before_later P r t reached table accepted vars kept (u.j + 1) k.0
      (omega (arith, low)) (omega (arith, within)) in
      let here : get_or vars k.0 0 ≡ path_before (Child p call index) =
      ap (λ m. get_or vars m 0) (sym (ap (row_number P) (sym path) ∙ own_number k.0 w.0 c w.1)) in
      let there : path_before p ≡ get_or vars u.j 0 =
      ap (λ m. get_or vars m 0)
      (ap (row_number P) (sym u.path) ∙ own_number u.j u.up u.caller u.above) in
      omega (arith, long, next, more, here, there)

  is_enough :
      (here : Instance) → In here (instances P) →
      2 * (path_before here.path + length (variables here.node)) ≤ length (all_clocks filled)
  is_enough here on =
      let k = place_in (instances P) here on in
      let w = row_of P r t table k.0 here k.1 in
      let n = length t.instances.items in
      let next = next_before P r t reached table accepted vars kept k.0 w.0 here w.1 in
      let within = slice_get_within t.instances.items k.0 w.0 w.1.row_is in
      let more = before_later P r t reached table accepted vars kept (k.0 + 1) n
      (omega (arith, within)) (omega arith) in
      let long = clocks_long filled counted (all_runs filled) (all_serving filled) nodes_found n
      (omega arith) in
      let whole : length (all_clocks filled) ≡ 2 * get_or vars n 0 =
      ap (λ rows. length (clocks_among filled (all_runs filled) (all_serving filled) rows))
      (sym (take_all n t.instances.items (omega arith)))
      ∙ long in
      let start : path_before here.path ≡ get_or vars k.0 0 =
      ap (λ m. get_or vars m 0) (own_number k.0 w.0 here w.1) in
      omega (arith, next, more, whole, start)

  -- the clocks that are filled are the table of the formula
  pub filled_table :
      IsClockTable P (all_clocks filled) (places.path_place P vars)
      (places.path_runs P (all_runs filled)) (places.path_before P vars)
  filled_table = record {
    rows = clock_is;
    root = refl;
    observer = refl;
    called = is_called;
    deeper = is_deeper;
    enough = is_enough;
  }

  -- expressions stand on clocks of their nodes
  pub own_terms :
      (here : Instance) → In here (instances P) →
      Every (λ o. IsOwn here.node o.clock) (node_occurrences P here.node)
  own_terms here on =
      let k = place_in (instances P) here on in
      let w = row_of P r t table _ here k.1 in
      let f = has.clocks w.0.specialization.0 w.1.specialization w.1.node w.1.specialized
      w.1.resolved in
      term_clocks_own P accepted checked here on w.1.node _ (sym (node_same _ _ here w.1)) f.2

  -- each clock of a row is found at its place
  pub row_clock :
      (k : ℕ) (i : row.Instance) (here : Instance) (is : IsRow P r t table k i here) (c : Clock) →
      is_clock_within is.node c ≡ true →
      clock_of (all_clocks filled) (clock_id vars (all_runs filled) k c)
      ≡ flat_clock (layout P) here.path (clock_in is.node c)
  row_clock k i here is c w =
      ap (clock_of (all_clocks filled)) (id_is k i here is c w)
      ∙ clock_row P accepted checked own_terms (all_clocks filled) path_place path_runs path_before
      filled_table here (stands k i here is) (clock_in is.node c) (own c w)
    where
      own : (c : Clock) → is_clock_within is.node c ≡ true → IsOwn here.node (clock_in is.node c)
      own Base w = tt
      own (On x sign) w = (
        ap (λ n. declared_clock n (name_in is.node x)) (sym (node_same k i here is)),
        in_at (variable_names here.node) x.0 (name_in is.node x) (name_stands k i here is x w),
      )
