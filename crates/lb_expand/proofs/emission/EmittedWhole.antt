-- The whole flat program that is emitted from the rows of the table of instances is the expansion
-- of the program, where the numbers of a row's variables are those of its instance.
use Rattle.lb_expand.proofs.Words
use Words.{◌≡◌, ℕ, zero, suc, ◌+◌, Bool, true, false, Option, Some, None, IfSome, option_map, List}
use Words.{[], ◌∷◌, ◌++◌, map, length, flat_map, get_or, refl, ap, ap₂, sym, ◌∙◌, subst, arith}
use Words.{slice_get, if◌then◌else◌, range_with_len, filter, append_assoc, length-append}
use Words.{length-map, same_Some, ◌>>=◌, or_else, listed, Name, Declaration, Node, get_first}
use Words.{get_later, variables, input_kinds, Program, Instance, Path, Root, Observer, Child}
use Words.{instance_at, start_at, instances, static_refusal, IsTable, paths_of, among, clock_names}
use Words.{IsReached, node_of, Reached, ResolvedNode, Origin, Table, in_at, place_in, element_kinds}
use Words.{declared_clock, columns_at, History, property_path, clock_variables, instantiation_kept}
use Words.{at_path, in_instances, path_is, clocks_named, is_among, clock_numbers, State, Target}
use Words.{targets, copied, received, from_inputs, given_inputs, observed, property_places}
use Words.{clock_places, before_instances, emit_instances, expanded, bodies, Context, emit_rows}
use Words.{variable_targets, parameter_targets, places_from, is_start, start_of, start_from}
use Words.{start_in, given_at, observed_at, outputs_at, clocks_in, row_clocks, whole, FlatEquation}
use Words.{column, history_of, targets_of, kinds_from, FlatProgram, Layout, flat_clock, layout}
use Words.{node_at}
use Rattle.lb_expand.proofs.{frames.RowContexts.own_resolved, numbering.ReceivedInputs.by_number}
use Rattle.lb_expand.proofs.numbering.{ReceivedInputs.copied_append, RowInstances.IsRow}
use Rattle.lb_expand.proofs.numbering.RowInstances.{rows_many, row_shown, row_of, root_path}
use Rattle.lb_expand.proofs.numbering.RowInstances.{observer_path, origin_path}
use Rattle.lb_expand.proofs.{solutions.Placing.AreAsWide, widths.PropertyOutput.property_of}
use Rattle.lb_expand.proofs.widths.SoundPrograms.{observer_wide_in}
use Rattle.lb_static.specs.declared.table.Instance as row
use Rattle.lb_static.specs.declared.table.Origin.TheVariants as origin

-- ## Lists by number

module _ {A D : Type 0} where
  filtered : (p : ℕ → Bool) (q : D → Bool) (f : ℕ → List A) (g : D → List A) (j : ℕ) (d : D)
      (is : List ℕ) (ds : List D) → p j ≡ q d → f j ≡ g d →
      flat_map f (filter p is) ≡ flat_map g (filter q ds) →
      flat_map f (filter p (j ∷ is)) ≡ flat_map g (filter q (d ∷ ds))
  filtered p q f g j d is ds test same rest = by (q d) test refl
    where
      by : (b : Bool) → p j ≡ b → q d ≡ b →
          flat_map f (filter p (j ∷ is)) ≡ flat_map g (filter q (d ∷ ds))
      by true e h = cc
      by false e h = cc

  -- `flat_map` over the numbers that pass a test is `flat_map` over the items that pass it
  passed_by_number :
      (p : ℕ → Bool) (q : D → Bool) (f : ℕ → List A) (g : D → List A) (j : ℕ) (ds : List D) →
      ((x : ℕ) (d : D) → slice_get ds x ≡ Some d → p (j + x) ≡ q d) →
      ((x : ℕ) (d : D) → slice_get ds x ≡ Some d → f (j + x) ≡ g d) →
      flat_map f (filter p (range_with_len j (length ds))) ≡ flat_map g (filter q ds)
  passed_by_number p q f g j [] tests same = refl
  passed_by_number p q f g j (d ∷ ds) tests same =
      let first : j ≡ j + 0 = omega arith in
      cc (filtered p q f g j d _ ds (ap p first ∙ tests 0 d refl) (ap f first ∙ same 0 d refl)
      (passed_by_number p q f g (j + 1) ds (λ x e at. let next : (j + 1) + x ≡ j + suc x = omega
      arith in ap p next ∙ tests (suc x) e at) (λ x e at. let next : (j + 1) + x ≡ j + suc x = omega
      arith in ap f next ∙ same (suc x) e at)))

-- ## The elements that the observer receives

module _ (Y : Layout) where
  abbrev still : History
  still = history_of Y [] []

  -- the elements of some variables, as targets
  abbrev pub inputs_at : Node → Path → List Declaration → List Target
  inputs_at n p ds = flat_map (λ (d : Declaration). targets Y n p d.name) ds

  abbrev places_at : Path → List Declaration → List ℕ
  places_at p ds = flat_map (λ (d : Declaration). Y.places p d.name) ds

  received_is :
      (n : Node) (p q : Path) (ds es : List Declaration) →
      AreAsWide still p ds (columns_at still q es) →
      copied (inputs_at n p ds) (places_at q es)
      ≡ received Y n p ds (map (λ (d : Declaration). Y.places q d.name) es)
  received_is n p q [] [] h = refl
  received_is n p q [] (e ∷ es) h = absurd h
  received_is n p q (d ∷ ds) [] h = absurd h
  received_is n p q (d ∷ ds) (e ∷ es) h =
      let is = Y.places q e.name in
      let k = flat_clock Y p (declared_clock n d.name) in
      let one = length-map (Y.places p d.name) (λ (i : ℕ).
      let t : Target = record { place = i; clock = k } in t) in
      let left = length-map (Y.places p d.name) (column [] []) in
      let right = length-map is (column [] []) in
      let wide : length (targets Y n p d.name) ≡ length is = one ∙ (sym left ∙ (h.0 ∙ right)) in
      copied_append (targets Y n p d.name) (inputs_at n p ds) is (places_at q es) wide
      ∙ ap (λ (qs : List FlatEquation). copied (targets Y n p d.name) is ++ qs)
      (received_is n p q ds es h.1)

-- ## Rows that start

module _ (r : Reached) (t : Table) (b : Bool) where
  record IsFirst (j : ℕ) (is : List row.Instance) : Type 0 where
    place : ℕ
    first : row.Instance
    stands : slice_get is place ≡ Some first
    starts : is_start b first.origin ≡ true
    found : start_from r t b j is ≡ option_map (start_of (j + place)) (node_at r t first)

  step_start : (j : ℕ) (x : row.Instance) (is : List row.Instance) (c : Bool) →
      is_start b x.origin ≡ c →
      start_from r t b j (x ∷ is)
      ≡ (if c then option_map (start_of j) (node_at r t x) else start_from r t b (suc j) is)
  unfolding start_from
  step_start j x is c e = cc

  first_here : (j : ℕ) (x : row.Instance) (is : List row.Instance) →
      is_start b x.origin ≡ true → IsFirst j (x ∷ is)
  first_here j x is e =
      let same : j ≡ j + 0 = omega arith in
      record {
        place = 0;
        first = x;
        stands = refl;
        starts = e;
        found = step_start j x is true e ∙ ap (λ m. option_map (start_of m) (node_at r t x)) same;
      }

  or_later : (j : ℕ) (x : row.Instance) (is : List row.Instance) (c : Bool) →
      is_start b x.origin ≡ c → IsFirst (suc j) is → IsFirst j (x ∷ is)
  or_later j x is true e h = first_here j x is e
  or_later j x is false e h =
      let next : suc j + h.place ≡ j + suc h.place = omega arith in
      record {
        place = suc h.place;
        first = h.first;
        stands = h.stands;
        starts = h.starts;
        found = cc (step_start j x is false e, h.found);
      }

  first_start :
      (j : ℕ) (is : List row.Instance) (k : ℕ) (i : row.Instance) → slice_get is k ≡ Some i →
      is_start b i.origin ≡ true → IsFirst j is
  first_start j [] k i e h = absurd cc
  first_start j (x ∷ is) zero i e h = first_here j x is (rw (same_Some x i e) h)
  first_start j (x ∷ is) (suc k) i e h = or_later j x is _ refl (first_start (suc j) is k i e h)

  none_step : (j : ℕ) (x : row.Instance) (is : List row.Instance) (c : Bool) →
      is_start b x.origin ≡ c → (is_start b x.origin ≡ true → ⊥) →
      start_from r t b (suc j) is ≡ None → start_from r t b j (x ∷ is) ≡ None
  none_step j x is true e not h = absurd (not e)
  none_step j x is false e not h = step_start j x is false e ∙ h

  none_start :
      (j : ℕ) (is : List row.Instance) →
      ((k : ℕ) (i : row.Instance) → slice_get is k ≡ Some i → is_start b i.origin ≡ true → ⊥) →
      start_from r t b j is ≡ None
  unfolding start_from
  none_start j [] not = refl
  none_start j (x ∷ is) not =
      none_step j x is (is_start b x.origin) refl (not 0 x refl)
      (none_start (suc j) is (λ k i e h. not (suc k) i e h))

-- the path of an instance that starts
abbrev pub start_path : Bool → Path
start_path false = Root
start_path true = Observer

-- the context has the numbers and the clocks of the variables of an instance
pub record HasVariables (P : Program) (here : Instance) (ctx : Context) : Type 0 where
  pub places :
      (x : ℕ) (d : Declaration) → slice_get (variables here.node) x ≡ Some d →
      ctx.places x ≡ (layout P).places here.path d.name
  pub declared :
      (x : ℕ) (d : Declaration) → slice_get (variables here.node) x ≡ Some d →
      ctx.declared x ≡ flat_clock (layout P) here.path (declared_clock here.node d.name)

module _ (P : Program) (r : Reached) (t : Table) (reached : IsReached P r)
    (table : IsTable P r t) (accepted : static_refusal P ≡ None) where
  own_node : (k : ℕ) (i : row.Instance) (here : Instance) (is : IsRow P r t table k i here) →
      node_of is.node ≡ here.node
  own_node k i here is = sym (ap (λ (c : Instance). c.node) is.same)

  -- the node of a row is found
  pub node_found : (k : ℕ) (i : row.Instance) (here : Instance) (is : IsRow P r t table k i here) →
      node_at r t i ≡ Some is.node
  node_found k i here is = cc (is.specialized, is.resolved)

  -- ## The places of rows that start

  path_of_start :
      (b : Bool) (k : ℕ) (i : row.Instance) → slice_get t.instances.items k ≡ Some i →
      is_start b i.origin ≡ true → slice_get (paths_of t) k ≡ Some (start_path b)
  path_of_start b k i e h = by b i.origin refl h
    where
      by : (b : Bool) (o : Origin) → i.origin ≡ o → is_start b o ≡ true →
          slice_get (paths_of t) k ≡ Some (start_path b)
      by false origin.UnderTest is h = root_path P r t table k i e is
      by true origin.Observer is h = observer_path P r t table k i e is
      by false origin.Observer is h = absurd cc
      by false (origin.Called caller call index) is h = absurd cc
      by true origin.UnderTest is h = absurd cc
      by true (origin.Called caller call index) is h = absurd cc

  start_of_path :
      (b : Bool) (k : ℕ) (i : row.Instance) → slice_get t.instances.items k ≡ Some i →
      slice_get (paths_of t) k ≡ Some (start_path b) → is_start b i.origin ≡ true
  start_of_path b k i e h = by b i.origin refl h
    where
      apart : (p q : Path) → slice_get (paths_of t) k ≡ Some p → slice_get (paths_of t) k ≡ Some q →
          p ≡ q
      apart p q e f = same_Some p q (sym e ∙ f)

      by : (b : Bool) (o : Origin) → i.origin ≡ o →
          slice_get (paths_of t) k ≡ Some (start_path b) → is_start b i.origin ≡ true
      by false origin.UnderTest is h = ap (is_start false) is
      by true origin.Observer is h = ap (is_start true) is
      by false origin.Observer is h =
          let e' : Root ≡ Observer = apart Root Observer h (observer_path P r t table k i e is) in
          absurd cc
      by true origin.UnderTest is h =
          let e' : Observer ≡ Root = apart Observer Root h (root_path P r t table k i e is) in
          absurd cc
      by false (origin.Called caller call index) is h =
          let own = origin_path P r t table k i e caller call index is in
          let e' : Root ≡ Child own.above call.0 index = apart Root _ h own.path in
          absurd cc
      by true (origin.Called caller call index) is h =
          let own = origin_path P r t table k i e caller call index is in
          let e' : Observer ≡ Child own.above call.0 index = apart Observer _ h own.path in
          absurd cc

  -- the row with which an instance starts
  pub record IsStarted (b : Bool) (here : Instance) : Type 0 where
    pub number : ℕ
    pub line : row.Instance
    pub at : IsRow P r t table number line here
    pub path : here.path ≡ start_path b
    pub found : start_in r t b ≡ Some (start_of number at.node)

  -- the instance of a row that starts
  begun :
      (b : Bool) (k : ℕ) (i : row.Instance) → slice_get t.instances.items k ≡ Some i →
      is_start b i.origin ≡ true →
      (here : Instance) × IsRow P r t table k i here
      × (instance_at P (start_path b) ≡ Some here) × (here.path ≡ start_path b)
  begun b k i e h =
      let there = row_shown P r t table k i e in
      let path : there.0.path ≡ start_path b =
      same_Some there.0.path (start_path b)
      (sym there.1.path_is ∙ path_of_start b k i e h) in
      let at = at_path P there.0 (in_at (instances P) k there.0 there.1.instance_is) in
      (there.0, there.1, ap (instance_at P) (sym path) ∙ at, path)

  -- the instance at the path of a start has a row with which it starts
  pub started : (b : Bool) (here : Instance) → instance_at P (start_path b) ≡ Some here →
      IsStarted b here
  started b here e =
      let path = path_is P (start_path b) here e in
      let there = in_instances P (instantiation_kept P accepted) (start_path b) here e in
      let at = place_in (instances P) here there in
      let line = row_of P r t table _ here at.1 in
      let stands = start_of_path b _ _ line.1.row_is (line.1.path_is ∙ ap (λ p. Some p) path) in
      let f = first_start r t b 0 _ _ _ line.1.row_is stands in
      let one = begun b _ _ f.stands f.starts in
      let same : one.0 ≡ here = same_Some one.0 here (sym one.2 ∙ e) in
      let own : IsRow P r t table f.place f.first here =
      subst (IsRow P r t table f.place f.first) same one.1 in
      let zero_more : 0 + f.place ≡ f.place = omega arith in
      record {
        number = f.place;
        line = f.first;
        at = own;
        path = path;
        found = f.found ∙ (ap (option_map (start_of (0 + f.place))) (node_found _ _ here own) ∙ ap
            (λ m. Some (start_of m own.node)) zero_more);
      }

  -- if there is no instance at the path of a start, no row starts it
  pub not_started : (b : Bool) → instance_at P (start_path b) ≡ None → start_in r t b ≡ None
  not_started b e = none_start r t b 0 _ (λ k i at h.
      let one = begun b k i at h in
      let no_one : Some one.0 ≡ None = sym one.2 ∙ e in absurd cc)

  module _ (cs : ℕ → Context)
      (has : (k : ℕ) (i : row.Instance) (here : Instance) → IsRow P r t table k i here →
      HasVariables P here (cs k)) where
    -- ## The variables of a row

    module _ (k : ℕ) (i : row.Instance) (here : Instance) (is : IsRow P r t table k i here) where
      abbrev own_places : List Declaration → List ℕ
      own_places ds = flat_map (λ (d : Declaration). (layout P).places here.path d.name) ds

      inputs_many : is.node.inputs ≡ length here.node.inputs
      inputs_many =
          cc ((own_resolved P r t reached table accepted k i here is).inputs, own_node k i here is)

      outputs_many : is.node.outputs ≡ length here.node.outputs
      outputs_many =
          cc ((own_resolved P r t reached table accepted k i here is).outputs, own_node k i here is)

      -- the targets of the inputs of a row are those of the inputs of its instance
      pub inputs_are :
          parameter_targets (cs k) is.node.inputs
          ≡ inputs_at (layout P) here.node here.path here.node.inputs
      inputs_are =
          let ins = here.node.inputs in
          let own = has k i here is in
          ap (parameter_targets (cs k)) inputs_many ∙ by_number (variable_targets (cs k))
          (λ (d : Declaration). targets (layout P) here.node here.path d.name) 0 _ (λ q d e.
          let zero_q : 0 + q ≡ q = omega arith in
          let at = get_first ins (here.node.outputs ++ here.node.locals) q d e in
          ap (variable_targets (cs k)) zero_q
          ∙ ap₂ targets_of (own.declared q d at) (own.places q d at))

      outputs_are : places_from (cs k) is.node.inputs is.node.outputs ≡ own_places here.node.outputs
      outputs_are =
          let ins = here.node.inputs in
          let outs = here.node.outputs in
          let own = has k i here is in
          ap₂ (places_from (cs k)) inputs_many outputs_many ∙ by_number (cs k).places
          (λ (d : Declaration). (layout P).places here.path d.name) _ _ (λ q d e. own.places
          (length ins + q) d (get_later ins (outs ++ here.node.locals) q ∙ get_first outs
          here.node.locals q d e))

      all_are :
          places_from (cs k) 0 (is.node.inputs + is.node.outputs)
          ≡ own_places (here.node.inputs ++ here.node.outputs)
      all_are =
          let ins = here.node.inputs in
          let outs = here.node.outputs in
          let own = has k i here is in
          let many : is.node.inputs + is.node.outputs ≡ length (ins ++ outs) =
          ap₂ (λ m n. m + n) inputs_many outputs_many ∙ sym (length-append ins outs) in
          cc (by_number (cs k).places (λ (d : Declaration). (layout P).places here.path d.name) 0
          (ins ++ outs) (λ q d e.
          let zero_q : 0 + q ≡ q = omega arith in
          ap (cs k).places zero_q ∙ own.places q d (ap (λ (ds : List Declaration). slice_get ds q)
          (sym (append_assoc ins outs here.node.locals)) ∙ get_first (ins ++ outs)
          here.node.locals q d e)))

    -- ## The instances that start

    given_is : given_at cs (start_in r t false) ≡ given_inputs (layout P) (instance_at P Root)
    given_is = by (instance_at P Root) refl
      where
        by : (o : Option Instance) → instance_at P Root ≡ o →
            given_at cs (start_in r t false) ≡ given_inputs (layout P) (instance_at P Root)
        by None e = ap (given_at cs) (not_started false e) ∙ sym (ap (given_inputs (layout P)) e)
        by (Some root) e =
            let s = started false root e in
            ap (given_at cs) s.found
            ∙ (ap (from_inputs 0) (inputs_are s.number s.line root s.at
            ∙ ap (λ p. inputs_at (layout P) root.node p root.node.inputs) s.path)
            ∙ sym (ap (given_inputs (layout P)) e))

    observed_is :
        observed_at cs (start_in r t false) (start_in r t true)
        ≡ observed (layout P) (instance_at P Root) (instance_at P Observer)
    observed_is = by (instance_at P Root) (instance_at P Observer) refl refl
      where
        by : (o q : Option Instance) → instance_at P Root ≡ o → instance_at P Observer ≡ q →
            observed_at cs (start_in r t false) (start_in r t true)
            ≡ observed (layout P) (instance_at P Root) (instance_at P Observer)
        by None q e g =
            ap (λ s. observed_at cs s (start_in r t true)) (not_started false e)
            ∙ sym (ap (λ o. observed (layout P) o (instance_at P Observer)) e)
        by (Some root) None e g =
            let s = started false root e in
            ap₂ (observed_at cs) s.found (not_started true g)
            ∙ sym (ap₂ (observed (layout P)) e g)
        by (Some root) (Some observer) e g =
            let s = started false root e in
            let o = started true observer g in
            let ds = observer.node.inputs in
            let es = root.node.inputs ++ root.node.outputs in
            let wide = subst (λ q. IfSome q (λ observer.
            AreAsWide (still (layout P)) Observer observer.node.inputs
            (columns_at (still (layout P)) Root es))) g
            (subst (λ o. IfSome o (λ root. IfSome (instance_at P Observer) (λ observer.
            AreAsWide (still (layout P)) Observer observer.node.inputs
            (columns_at (still (layout P)) Root (root.node.inputs ++ root.node.outputs))))) e
            (observer_wide_in P accepted [] [])) in
            ap₂ (observed_at cs) s.found o.found
            ∙ (ap₂ copied (inputs_are o.number o.line observer o.at
            ∙ ap (λ p. inputs_at (layout P) observer.node p ds) o.path)
            (all_are s.number s.line root s.at ∙ ap (λ p. places_at (layout P) p es) s.path)
            ∙ (received_is (layout P) observer.node Observer Root ds es wide
            ∙ sym (ap₂ (observed (layout P)) e g)))

    -- the outputs of an instance that starts are found by its row
    outputs_of : (b : Bool) (here : Instance) → instance_at P (start_path b) ≡ Some here →
        outputs_at cs (start_in r t b)
        ≡ flat_map (λ (d : Declaration). (layout P).places here.path d.name) here.node.outputs
    outputs_of b here e =
        let s = started b here e in
        ap (outputs_at cs) s.found ∙ outputs_are s.number s.line here s.at

    property_is :
        outputs_at cs (or_else (start_in r t true) (start_in r t false))
        ≡ property_places (layout P) P
    property_is =
        let own = property_of P accepted in by P.observer refl own.here own.stands
      where
        all_of : Instance → List ℕ
        all_of here =
            flat_map (λ (d : Declaration). (layout P).places here.path d.name) here.node.outputs

        by : (o : Option Name) → P.observer ≡ o → (here : Instance) →
            instance_at P (property_path P.observer) ≡ Some here →
            outputs_at cs (or_else (start_in r t true) (start_in r t false))
            ≡ property_places (layout P) P
        by None none here e =
            let path = ap property_path none in
            let root : instance_at P Root ≡ Some here = sym (ap (instance_at P) path) ∙ e in
            let no_observer : instance_at P Observer ≡ None =
            ap (λ o. o >>= start_at P Observer) none in
            ap (λ o. outputs_at cs (or_else o (start_in r t false))) (not_started true no_observer)
            ∙ (outputs_of false here root ∙ sym (ap (listed all_of) e))
        by (Some f) some here e =
            let path = ap property_path some in
            let seen : instance_at P Observer ≡ Some here = sym (ap (instance_at P) path) ∙ e in
            let s = started true here seen in
            ap (λ o. outputs_at cs (or_else o (start_in r t false))) s.found
            ∙ (outputs_are s.number s.line here s.at ∙ sym (ap (listed all_of) e))

    -- ## The variables that serve as clocks

    module _
        (serves : (k : ℕ) (i : row.Instance) (here : Instance)
        (is : IsRow P r t table k i here) (x : ℕ) (d : Declaration) →
        slice_get (variables here.node) x ≡ Some d →
        is_among (clocks_named is.node) x ≡ among d.name (clock_names here.node)) where
      row_clocks_are :
          (k : ℕ) (i : row.Instance) (here : Instance) (is : IsRow P r t table k i here) →
          clocks_in cs r t k i
          ≡ flat_map (λ (d : Declaration). (layout P).places here.path d.name)
          (clock_variables here.node)
      row_clocks_are k i here is =
          let own = has k i here is in
          let many : length is.node.variables.items ≡ length (variables here.node) =
          (own_resolved P r t reached table accepted k i here is).as_many
          ∙ ap (λ (n : Node). length (variables n)) (own_node k i here is) in
          let p = is_among (clocks_named is.node) in
          ap (listed (λ (n : ResolvedNode). flat_map (cs k).places (clock_numbers n)))
          (node_found k i here is)
          ∙ (ap (λ m. flat_map (cs k).places (filter p (range_with_len 0 m))) many
          ∙ passed_by_number p (λ (d : Declaration). among d.name (clock_names here.node))
          (cs k).places (λ (d : Declaration). (layout P).places here.path d.name) 0
          (variables here.node)
          (λ x d e.
          let zero_x : 0 + x ≡ x = omega arith in ap p zero_x ∙ serves k i here is x d e)
          (λ x d e.
          let zero_x : 0 + x ≡ x = omega arith in ap (cs k).places zero_x ∙ own.places x d e))

      clocks_from :
          (j : ℕ) (rows : List row.Instance) (heres : List Instance) →
          length rows ≡ length heres →
          ((k : ℕ) (i : row.Instance) (here : Instance) → slice_get rows k ≡ Some i →
          slice_get heres k ≡ Some here → IsRow P r t table (j + k) i here) →
          row_clocks r t cs j rows ≡ clock_places (layout P) heres
      unfolding row_clocks
      clocks_from j [] [] long each = refl
      clocks_from j [] (here ∷ heres) long each = absurd (omega (arith, long))
      clocks_from j (i ∷ rows) [] long each = absurd (omega (arith, long))
      clocks_from j (i ∷ rows) (here ∷ heres) long each =
          let first : j + 0 ≡ j = omega arith in
          let own = subst (λ k. IsRow P r t table k i here) first (each 0 i here refl refl) in
          ap₂ (λ (xs ys : List ℕ). xs ++ ys) (row_clocks_are j i here own)
          (clocks_from (suc j) rows heres (omega (arith, long))
          (λ k l there p q.
          let next : j + suc k ≡ suc j + k = omega arith in
          subst (λ m. IsRow P r t table m l there) next (each (suc k) l there p q)))

      each_row : (k : ℕ) (i : row.Instance) (here : Instance) →
          slice_get t.instances.items k ≡ Some i → slice_get (instances P) k ≡ Some here →
          IsRow P r t table (0 + k) i here
      each_row k i here e f =
          let shown = row_shown P r t table k i e in
          let same = same_Some shown.0 here (sym shown.1.instance_is ∙ f) in
          let number : k ≡ 0 + k = omega arith in
          rw (← number) (subst (IsRow P r t table k i) same shown.1)

      clocks_are : row_clocks r t cs 0 t.instances.items ≡ clock_places (layout P) (instances P)
      clocks_are = clocks_from 0 t.instances.items (instances P) (rows_many P r t table) each_row

      -- ## The whole program

      abbrev assembled :
          ℕ → List FlatEquation → List FlatEquation → State → List ℕ → List ℕ → FlatProgram
      assembled count given seen s clocks outputs = record {
        inputs = input_kinds P;
        kinds = element_kinds P ++ kinds_from (element_kinds P) s.equations;
        equations = given ++ (seen ++ (s.copies ++ s.equations));
        size = s.next;
        variables = count;
        memory_operands = s.memory_operands;
        clock_elements = clocks;
        asserted = s.asserted;
        property = get_or outputs 0 0;
      }

      -- the whole flat program is the expanded program
      pub whole_is :
          ((s : State) → emit_rows s (bodies r t cs 0 t.instances.items)
          ≡ emit_instances (layout P) P s (instances P)) →
          (count : ℕ) →
          whole r t cs (input_kinds P) (element_kinds P) count ≡ expanded (layout P) P count
      whole_is emits count =
          cc (given_is, observed_is, emits (before_instances count), clocks_are, property_is)
      -- ## Bodies
