-- In the layout by numbers: the clocks of a callee's parameters, and the table of clocks by the
-- formula.
use Rattle.lb_expand.proofs.Words
use Words.{Always, Always_whole, ArrayIterator, Assertion, Base, Bool, Call, Child, ClockId}
use Words.{Declaration, Equation, Every, Every-at, Every-from, Expr, Exprs, FlatClock, Given}
use Words.{History, In, Instance, IsClockTable, IsInstanceOf, IsOver, IsOwn, Iterate, Layout, List}
use Words.{Name, Node, Node_named, None, Observer, Occurrence, On, Option, Path, Program, Root}
use Words.{Site, Some, Statement, Static, Symbol, Where, Where_whole, WholeClock, [], all_in}
use Words.{and_first, and_second, ap, are_declared_clocks, are_on_results, arith, at, at_path}
use Words.{base_clock, call_at, call_of, call_of_site, call_site, called, check_refusal, clock_of}
use Words.{clock_place, clock_same, clock_within, clocked, declared_clock, declared_own, either_or}
use Words.{flat_clock, given_outputs, given_to, in_first, in_instances, in_second, inl, instance_at}
use Words.{instance_there, instances, instantiation_kept, is_clock, is_occurrence_clocked, is_site}
use Words.{is_statement_clocked, layout, left_clocks, length, listed, map, nat_eq, node_named}
use Words.{node_occurrences, not, number, numbered_clock, outer, own_right, path_is, refl, runs_on}
use Words.{same_Some, sign_place, site_clock, site_occurs, slice_get, statements, static_refusal}
use Words.{subst, suc, sym, true, ungrouped, where_signed, whole_clock, zero, zip, ℕ, ◌*◌, ◌++◌}
use Words.{◌+◌, ◌<◌, ◌>>=◌, ◌||◌, ◌∙◌, ◌∷◌, ◌≡◌, ◌≤◌}
use Rattle.lb_check.proofs.clocking.{DeclaredClocks.{base_own, own_deep}, GivenParameters.IsGiven}
use Rattle.lb_check.proofs.clocking.GivenParameters.{called_clock, called_runs, input_given}
use Rattle.lb_check.proofs.clocking.GivenParameters.{on_base, outer_before, over_before}
use Rattle.lb_check.proofs.clocking.GivenParameters.{over_parameters, over_served, parameter_given}
use Rattle.lb_check.proofs.clocking.{GivenParameters.result_given, NamedClocks.called_passes}
use Rattle.lb_check.proofs.definitions.CallNumbers.{lefts_of, right_in}
use Rattle.lb_check.specs.ClockRules.{are_clocks, are_given_variables, is_base_clocked_node}
use Rattle.lb_check.specs.{ClockRules.is_call_clocked, Clocks.{Clock, depth, given_inputs}}
use Rattle.lb_check.specs.{Clocks.result_clocks, Elements.numbers_of, Needs.given_parameters}
use Rattle.lb_check.specs.Needs.{is_clock_parameter, lefts_at}
use Rattle.lb_expand.proofs.{numbering.NumberedPlaces.flat_is, widths.SoundInstances.RunAt}
use Rattle.{lb_expand.proofs.widths.SoundInstances.RunsAt, std.specs.Prelude.filter}
use Rattle.lb_flat.specs.declared.equation.Clock as table

-- The clocks of the parameters of a callee are, in the layout by numbers, the clocks that its
-- caller sees, and its instances run on the clock of the call.

-- ## What is to be shown

-- the clocks of the inputs of a callee, as its caller sees them; a single result is on the clock of
-- the call
pub record HasCallClocks (Y : Layout) (here : Instance) (k : Clock) (n : ℕ) (es : Exprs)
    (callee : Node) : Type 0 where
  pub inputs :
      Every (λ d.
      flat_clock Y (Child here.path n 0) (declared_clock callee d.name)
      ≡ flat_clock Y here.path
      (outer (base_clock k callee) (given_inputs callee.inputs es) (declared_clock callee d.name)))
      callee.inputs
  pub result :
      (d : Declaration) → callee.outputs ≡ d ∷ [] →
      flat_clock Y (Child here.path n 0) (declared_clock callee d.name)
      ≡ flat_clock Y here.path k

-- where a call is the whole right side of an equation, the clocks of its outputs: as the caller
-- sees them, and equal to the clocks of the left variables
pub record HasLeftClocks (Y : Layout) (here : Instance) (k : Clock) (n : ℕ) (es : Exprs)
    (callee : Node) (lefts : List Name) : Type 0 where
  pub as_many : length lefts ≡ length callee.outputs
  pub outputs :
      Every (λ d.
      flat_clock Y (Child here.path n 0) (declared_clock callee d.name)
      ≡ flat_clock Y here.path
      (outer (base_clock k callee)
      (given_inputs callee.inputs es ++ given_outputs callee.outputs lefts)
      (declared_clock callee d.name)))
      callee.outputs
  pub left_variables :
      Every (λ u.
      flat_clock Y (Child here.path n 0) (declared_clock callee u.0.name)
      ≡ flat_clock Y here.path (declared_clock here.node u.1))
      (zip callee.outputs lefts)

module _ (Y : Layout) (P : Program) (here : Instance) where
  -- the parameters of the instances of an iterator are on its clock
  abbrev pub ClocksAt : Clock → ℕ → Expr → Type 0
  ClocksAt k n (Call f statics es) =
      (callee : Node) → node_named P f ≡ Some callee → HasCallClocks Y here k n es callee
  ClocksAt k n (Iterate it (Node_named f statics) m es) =
      (callee : Node) → node_named P f ≡ Some callee → (i : ℕ) → i < number P here m →
      Every (λ d.
      flat_clock Y (Child here.path n i) (declared_clock callee d.name)
      ≡ flat_clock Y here.path k)
      (callee.inputs ++ callee.outputs)
  ClocksAt k n e = Unit {0}

  abbrev pub CalleeClocks : Occurrence → Type 0
  CalleeClocks o = ClocksAt o.clock o.calls_before o.expr

  abbrev pub LeftClocksAt : Clock → ℕ → Statement → Type 0
  LeftClocksAt k n (Equation lefts e) =
      (f : Name) (statics : List Static) (es : Exprs) (callee : Node) →
      ungrouped e ≡ Call f statics es → node_named P f ≡ Some callee →
      HasLeftClocks Y here k n es callee lefts
  LeftClocksAt k n (Assertion e) = Unit {0}

  abbrev pub LeftClocks : Statement × Occurrence → Type 0
  LeftClocks t = LeftClocksAt t.1.clock t.1.calls_before t.0

-- ## Clocks that are compared

-- two lists of equal length have the same clocks, one by one
record ArePaired {A B : Type 0} (f : A → Clock) (g : B → Clock) (xs : List A) (ys : List B) :
    Type 0 where
  as_many : length xs ≡ length ys
  same : Every (λ u. g u.0 ≡ f u.1) (zip ys xs)

paired :
    {A B : Type 0} (f : A → Clock) (g : B → Clock) (xs : List A) (ys : List B) →
    are_clocks (map f xs) (map g ys) ≡ true → ArePaired f g xs ys
paired f g [] [] e = record { as_many = refl; same = tt }
paired f g [] (y ∷ ys) e = absurd cc
paired f g (x ∷ xs) [] e = absurd cc
paired f g (x ∷ xs) (y ∷ ys) e =
    let rest = paired f g xs ys (and_second (is_clock (f x) (g y)) _ e) in
    record {
      as_many = ap suc rest.as_many;
      same = (sym (clock_same (f x) (g y) (and_first (is_clock (f x) (g y)) _ e)), rest.same);
    }

-- a property of all items of `xs` holds of the first item of each pair in `zip xs ys`
beside_first :
    {A B : Type 0} (Q : A → Type 0) (xs : List A) (ys : List B) → Every Q xs →
    Every (λ u. Q u.0) (zip xs ys)
beside_first Q [] ys h = tt
beside_first Q (x ∷ xs) [] h = tt
beside_first Q (x ∷ xs) (y ∷ ys) h = (h.0, beside_first Q xs ys h.1)

joined_clocks :
    {C : Type 0} (U : Type 0) (f g h : U → C) (us : List U) → Every (λ u. f u ≡ g u) us →
    Every (λ u. g u ≡ h u) us → Every (λ u. f u ≡ h u) us
joined_clocks U f g h [] p q = tt
joined_clocks U f g h (u ∷ us) p q = (p.0 ∙ q.0, joined_clocks U f g h us p.1 q.1)

every_applied :
    {C D : Type 0} (U : Type 0) (s : C → D) (f g : U → C) (us : List U) →
    Every (λ u. f u ≡ g u) us → Every (λ u. s (f u) ≡ s (g u)) us
every_applied U s f g [] p = tt
every_applied U s f g (u ∷ us) p = (ap s p.0, every_applied U s f g us p.1)

one_result : (outs : List Declaration) (d : Declaration) → outs ≡ d ∷ [] →
    (b : Bool) → (not (nat_eq (length outs) 1) || b) ≡ true → b ≡ true
one_result outs d one b e = subst (λ ds. (not (nat_eq (length ds) 1) || b) ≡ true) one e

module _ (P : Program) (accepted : static_refusal P ≡ None) (checked : check_refusal P ≡ None)
    (here : Instance) (stands : In here (instances P)) where
  abbrev Y : Layout
  Y = layout P

  -- ## One call

  module _ (o : Occurrence) (i : In o (node_occurrences P here.node)) (is : is_site o.expr ≡ true)
    where
      own : call_at P here.node o.calls_before ≡ Some o
      own = call_of P here.node o i is

      lawful : is_occurrence_clocked P here.node o ≡ true
      lawful =
          all_in (is_occurrence_clocked P here.node) (node_occurrences P here.node) o
          (and_first _ _ (and_second (are_declared_clocks here.node) _
          (clocked P checked here stands))) i

      -- clocks that are equal in the whole program are equal as flat clocks
      on_numbers :
          (s : Site) (index : ℕ) (callee : Node) →
          IsInstanceOf P here s o.calls_before index callee → (k l : Clock) →
          whole_clock P (Child here.path o.calls_before index)
          (runs_on P (Child here.path o.calls_before index)) k
          ≡ whole_clock P here.path (runs_on P here.path) l →
          flat_clock Y (Child here.path o.calls_before index) k ≡ flat_clock Y here.path l
      on_numbers s index callee there k l e =
          let c = there.instance in
          cc (flat_is P c there.stands k, flat_is P here stands l)

      -- a callee declares its clocks as the rules say
      declared :
          (s : Site) (index : ℕ) (callee : Node) →
          IsInstanceOf P here s o.calls_before index callee → are_declared_clocks callee ≡ true
      declared s index callee there =
          rw (← there.node) (and_first (are_declared_clocks there.instance.node) _
          (clocked P checked there.instance there.stands))

  -- ## A call

  module _ (k : Clock) (n : ℕ) (f : Name) (statics : List Static) (es : Exprs)
      (i : In (at k n (Call f statics es)) (node_occurrences P here.node)) (callee : Node)
      (named : node_named P f ≡ Some callee) where
    abbrev o : Occurrence
    o = at k n (Call f statics es)

    abbrev inputs_given : Given
    inputs_given = given_inputs callee.inputs es

    there : IsInstanceOf P here (call_site f statics) n 0 callee
    there =
        instance_there P accepted checked here stands o (call_site f statics) callee 0 i refl named
        (omega arith)

    call_clocked : is_call_clocked here.node k es callee ≡ true
    call_clocked = called_passes P (is_call_clocked here.node k es) f _ (lawful o i refl) named

    given_all : are_given_variables here.node callee es ≡ true
    given_all = and_first (are_given_variables here.node callee es) _ call_clocked

    declares : are_declared_clocks callee ≡ true
    declares = declared o i refl (call_site f statics) 0 callee there

    abbrev given_with : List Name → Given
    given_with lefts = inputs_given ++ given_outputs callee.outputs lefts

    -- the clock parameters among the arguments and left variables are what the call is given
    is_given :
        given_to P here.node n (Call f statics es)
        ≡ filter (λ g. is_clock_parameter callee g.0) (given_with (lefts_at P here.node n))
    is_given = ap (listed (λ c. given_parameters c es (lefts_at P here.node n))) named

    runs : site_clock P k (Call f statics es) ≡ base_clock k callee
    runs = ap (λ c. either_or (c >>= λ c. Some (base_clock k c)) k) named

    -- the clock of a parameter whose clock waits for what is given
    parameter_clock :
        (d : Declaration) → In d (callee.inputs ++ callee.outputs) →
        IsOver (IsGiven (given_with (lefts_at P here.node n))) (declared_clock callee d.name) →
        flat_clock Y (Child here.path n 0) (declared_clock callee d.name)
        ≡ flat_clock Y here.path
        (outer (base_clock k callee) (given_with (lefts_at P here.node n))
        (declared_clock callee d.name))
    parameter_clock d on over =
        on_numbers o i refl _ 0 _ there _ _ (called_clock P here (at_path P here stands) o
        (own o i refl) callee _ _ is_given runs 0 _ (over_served _ _ _
        (over_parameters callee declares d on) over))

    -- the clock of a parameter whose clock waits for arguments alone
    argument_clock :
        (d : Declaration) → In d (callee.inputs ++ callee.outputs) →
        IsOver (IsGiven inputs_given) (declared_clock callee d.name) →
        flat_clock Y (Child here.path n 0) (declared_clock callee d.name)
        ≡ flat_clock Y here.path
        (outer (base_clock k callee) inputs_given (declared_clock callee d.name))
    argument_clock d on over =
        let more = given_outputs callee.outputs (lefts_at P here.node n) in
        parameter_clock d on
        (over_before inputs_given more (declared_clock callee d.name) over)
        ∙ ap (flat_clock Y here.path)
        (outer_before (base_clock k callee) inputs_given more (declared_clock callee d.name) over)

    -- the clock of an input
    pub input_clock :
        (d : Declaration) → In d callee.inputs →
        flat_clock (layout P) (Child here.path n 0) (declared_clock callee d.name)
        ≡ flat_clock (layout P) here.path
        (outer (base_clock k callee) (given_inputs callee.inputs es)
        (declared_clock callee d.name))
    input_clock d on =
        argument_clock d (in_first d callee.inputs callee.outputs on)
        (input_given callee declares here.node es given_all d on)

    -- the clock of the one result
    pub result_clock :
        (d : Declaration) → callee.outputs ≡ d ∷ [] →
        flat_clock (layout P) (Child here.path n 0) (declared_clock callee d.name)
        ≡ flat_clock (layout P) here.path k
    result_clock d one =
        let over = result_given callee declares here.node es given_all d one in
        let stands_there : In d callee.outputs = subst (λ ds. In d ds) (sym one) (inl refl) in
        let b = base_clock k callee in
        let own_clock = declared_clock callee d.name in
        let test = one_result callee.outputs d one
        (are_clocks (result_clocks k callee es []) (k ∷ []))
        (and_second (are_given_variables here.node callee es) _ call_clocked) in
        let given = inputs_given ++ given_outputs callee.outputs [] in
        let alone : are_clocks (outer b given own_clock ∷ []) (k ∷ []) ≡ true =
        subst (λ ds. are_clocks (map (λ d. outer b given (declared_clock callee d.name)) ds)
        (k ∷ []) ≡ true) one test in
        let same = clock_same (outer b given own_clock) k (and_first _ _ alone) in
        argument_clock d (in_second d callee.inputs callee.outputs stands_there) over
        ∙ ap (flat_clock Y here.path)
        (sym (outer_before b inputs_given (given_outputs callee.outputs []) own_clock over)
        ∙ same)

    pub call_clocks_are : HasCallClocks (layout P) here k n es callee
    call_clocks_are = record {
      inputs = Every-from _ callee.inputs input_clock;
      result = result_clock;
    }

    -- ## As the whole right side of an equation

    module _ (lefts : List Name) (whole : lefts_at P here.node n ≡ lefts)
        (compared : are_clocks (left_clocks here.node lefts) (result_clocks k callee es lefts)
        ≡ true) where
      pairs : ArePaired (declared_clock here.node)
          (λ d. outer (base_clock k callee) (given_with lefts) (declared_clock callee d.name)) lefts
          callee.outputs
      pairs = paired _ _ lefts callee.outputs compared

      -- the clock of an output
      pub output_clock :
          (d : Declaration) → In d callee.outputs →
          flat_clock (layout P) (Child here.path n 0) (declared_clock callee d.name)
          ≡ flat_clock (layout P) here.path
          (outer (base_clock k callee)
          (given_inputs callee.inputs es ++ given_outputs callee.outputs lefts)
          (declared_clock callee d.name))
      output_clock d on =
          let here_on = in_second d callee.inputs callee.outputs on in
          rw (← whole) (parameter_clock d here_on (subst (λ xs. IsOver (IsGiven (given_with xs))
          (declared_clock callee d.name)) (sym whole) (parameter_given callee declares here.node es
          given_all lefts pairs.as_many d here_on)))

      pub left_clocks_are : HasLeftClocks (layout P) here k n es callee lefts
      left_clocks_are =
          let outputs = Every-from (λ d.
          flat_clock Y (Child here.path n 0) (declared_clock callee d.name)
          ≡ flat_clock Y here.path
          (outer (base_clock k callee) (given_with lefts) (declared_clock callee d.name)))
          callee.outputs output_clock in
          record {
            as_many = pairs.as_many;
            outputs = outputs;
            left_variables =
                joined_clocks (Declaration × Name) (λ u. flat_clock Y (Child here.path n 0)
                (declared_clock callee u.0.name)) (λ u. flat_clock Y here.path (outer
                (base_clock k callee) (given_with lefts) (declared_clock callee u.0.name)))
                (λ u. flat_clock Y here.path (declared_clock here.node u.1)) _
                (beside_first _ _ lefts outputs) (every_applied (Declaration × Name)
                (flat_clock Y here.path) (λ u. outer (base_clock k callee) (given_with lefts)
                (declared_clock callee u.0.name)) (λ u. declared_clock here.node u.1) _
                pairs.same);
          }

  -- ## An iterated node

  module _ (k : Clock) (n : ℕ) (it : ArrayIterator) (f : Name) (statics : List Static) (m : Static)
      (es : Exprs)
      (i : In (at k n (Iterate it (Node_named f statics) m es)) (node_occurrences P here.node))
      (callee : Node) (named : node_named P f ≡ Some callee) (index : ℕ)
      (lower : index < number P here m) where
    abbrev iterated_site : Site
    iterated_site = record { callee = f; arguments = statics; count = Some m }

    abbrev p : Occurrence
    p = at k n (Iterate it (Node_named f statics) m es)

    -- the clock of an input or output
    pub iterated_clock :
        (d : Declaration) → In d (callee.inputs ++ callee.outputs) →
        flat_clock (layout P) (Child here.path n index) (declared_clock callee d.name)
        ≡ flat_clock (layout P) here.path k
    iterated_clock d on =
        let there = instance_there P accepted checked here stands p iterated_site callee index i
        refl
        named lower in
        let free = called_passes P is_base_clocked_node f callee (lawful p i refl) named in
        let base = on_base callee (declared p i refl iterated_site index callee there) free d on in
        on_numbers p i refl iterated_site index callee there (declared_clock callee d.name) k
        (ap (whole_clock P (Child here.path n index) (runs_on P (Child here.path n index))) base
        ∙ called_runs P here (at_path P here stands) p (own p i refl) index)

  -- ## All calls

  clocks_at :
      (k : Clock) (n : ℕ) (e : Expr) → In (at k n e) (node_occurrences P here.node) →
      ClocksAt (layout P) P here k n e
  clocks_at k n (Call f statics es) i = λ callee named. call_clocks_are k n f _ es i _ named
  clocks_at k n (Iterate it (Node_named f statics) m es) i =
      λ callee named index lower. Every-from _ (callee.inputs ++ callee.outputs)
      (iterated_clock k n it f _ m es i _ named index lower)
  clocks_at k n (Iterate it (Symbol op) m es) i = tt
  clocks_at k n e i = tt

  -- the clocks of the parameters of all that an instance calls
  pub callee_clocks : Every (CalleeClocks (layout P) P here) (node_occurrences P here.node)
  callee_clocks =
      Every-from (CalleeClocks (layout P) P here) (node_occurrences P here.node)
      (λ o i. clocks_at o.clock o.calls_before o.expr i)

  left_at :
      (s : Statement) (q : Occurrence) → In (s, q) (statements P here.node) →
      LeftClocksAt (layout P) P here q.clock q.calls_before s
  left_at (Assertion e) q i = tt
  left_at (Equation lefts e) q i = λ f statics es callee is named.
      let t : Statement × Occurrence = (Equation lefts e, q) in
      let right = own_right P here.node t i in
      let whole : ungrouped q.expr ≡ Call f statics es = ap ungrouped right.expr ∙ is in
      let site : is_site (ungrouped q.expr) ≡ true = ap is_site whole in
      let occurs = subst (λ x. In (at q.clock q.calls_before x) (node_occurrences P here.node))
      whole
      (right_in P here.node t i) in
      let test = all_in (λ s. is_statement_clocked P here.node s.0 s.1) (statements P here.node) t
      (and_second _ _ (and_second (are_declared_clocks here.node) _
      (clocked P checked here stands))) i in
      let compared = called_passes P
      (λ n. are_clocks (left_clocks here.node lefts) (result_clocks q.clock n es lefts)) f callee
      (subst (λ x. are_on_results P here.node q.clock lefts x ≡ true) is test) named in
      left_clocks_are q.clock q.calls_before f statics es occurs callee named lefts
      (lefts_of P here.node t i site) compared

  -- the clocks of the outputs of calls that are whole right sides
  pub left_clocks_of : Every (LeftClocks (layout P) P here) (statements P here.node)
  left_clocks_of =
      Every-from (LeftClocks (layout P) P here) (statements P here.node) (λ t i. left_at t.0 t.1 i)

  -- ## The clocks on which instances run

  -- an instance that a call has runs on the clock of the call
  pub instance_runs :
      (o : Occurrence) (i : In o (node_occurrences P here.node)) (is : is_site o.expr ≡ true)
      (index : ℕ) (b : Clock) → site_clock P o.clock o.expr ≡ b →
      (layout P).runs (Child here.path o.calls_before index) ≡ flat_clock (layout P) here.path b
  instance_runs o i is index b e =
      cc (called_runs P here (at_path P here stands) o (own o i is) index, flat_is P here stands b)

  runs_there :
      (H : History) (k : Clock) (n : ℕ) (e : Expr) →
      In (at k n e) (node_occurrences P here.node) →
      RunAt (layout P) P H here k n e
  runs_there H k n (Call f statics es) i = λ callee named.
      instance_runs _ i refl 0 _ (ap (λ c. either_or (c >>= λ c. Some (base_clock k c)) k) named)
  runs_there H k n (Iterate it (Node_named f statics) m es) i = λ index lower.
      instance_runs _ i refl index k refl
  runs_there H k n (Iterate it (Symbol op) m es) i = tt
  runs_there H k n e i = tt

  -- the instances of each call run on the flat clock of the call
  pub runs_at : (H : History) → Every (RunsAt (layout P) P H here) (node_occurrences P here.node)
  runs_at H =
      Every-from (RunsAt (layout P) P H here) (node_occurrences P here.node)
      (λ o i. runs_there H o.clock o.calls_before o.expr i)

-- In a table of clocks by the formula each clock of an instance is found at its place.

-- ## Clocks found in a table

-- the depth of a clock: how often `Where` stands in it
abbrev flat_depth : FlatClock → ℕ
flat_depth Always = 0
flat_depth (Where k i sign) = suc (flat_depth k)

abbrev whole_depth : WholeClock → ℕ
whole_depth Always_whole = 0
whole_depth (Where_whole k p x sign) = suc (whole_depth k)

-- the entry `id` of a table stands for a flat clock
abbrev pub StandsFor : List table.Clock → Option ClockId → FlatClock → Type 0
StandsFor clocks id Always = id ≡ None
StandsFor clocks id (Where k i sign) =
    (c : table.Clock) × (n : ClockId) × (id ≡ Some n) × (slice_get clocks n.0 ≡ Some c)
    × (c.element.0 ≡ i) × (c.sign ≡ sign) × StandsFor clocks c.parent k

-- an entry that stands for `k`, followed as deep as `k` or deeper, gives `k`
stands_is :
    (clocks : List table.Clock) (m : ℕ) (id : Option ClockId) (k : FlatClock) →
    StandsFor clocks id k → flat_depth k ≤ m → clock_within m clocks id ≡ k
stands_is clocks m id Always h deep = cc (none m)
  where
    none : (m : ℕ) → clock_within m clocks None ≡ Always
    none zero = refl
    none (suc m) = refl
stands_is clocks zero id (Where k i sign) h deep = absurd (omega (arith, deep))
stands_is clocks (suc m) id (Where k i sign) h deep =
    let c = h.0 in
    let up = stands_is clocks m c.parent k h.6 (omega (arith, deep)) in
    cc (h.2, h.3, h.4, h.5)

pub first_signed :
    (k : FlatClock) (sign : Bool) (is : List ℕ) (i : ℕ) → slice_get is 0 ≡ Some i →
    where_signed k sign is ≡ Where k i sign
first_signed k sign [] i e = absurd cc
first_signed k sign (j ∷ js) i e = ap (λ n. Where k n sign) (same_Some j i e)

module _ (P : Program) where
  numbered_deep : (w : WholeClock) → flat_depth (numbered_clock P w) ≤ whole_depth w
  numbered_deep Always_whole = omega arith
  numbered_deep (Where_whole k p x sign) = by (numbers_of P p x) (numbered_deep k)
    where
      by : (is : List ℕ) → flat_depth (numbered_clock P k) ≤ whole_depth k →
          flat_depth (where_signed (numbered_clock P k) sign is) ≤ suc (whole_depth k)
      by [] h = omega (arith, h)
      by (i ∷ is) h = omega (arith, h)

  whole_deep : (p : Path) (w : WholeClock) (k : Clock) →
      whole_depth (whole_clock P p w k) ≡ whole_depth w + depth k
  whole_deep p w Base = omega arith
  whole_deep p w (On k x sign) = let up = whole_deep p w k in omega (arith, up)

  site_own : (n : Node) (k : Clock) (e : Expr) → IsOwn n k → IsOwn n (site_clock P k e)
  site_own n k (Call f statics es) h = by (node_named P f)
    where
      by : (o : Option Node) → IsOwn n (either_or (o >>= λ c. Some (base_clock k c)) k)
      by None = h
      by (Some callee) = base_own n k callee h
  site_own n k _ h = h

module _ (P : Program) (accepted : static_refusal P ≡ None) (checked : check_refusal P ≡ None)
    (own : (here : Instance) → In here (instances P) →
    Every (λ o. IsOwn here.node o.clock) (node_occurrences P here.node))
    (clocks : List table.Clock) (place : Path → Name → ℕ) (runs : Path → Option ClockId)
    (before : Path → ℕ) (is : IsClockTable P clocks place runs before) where
  -- if the clock of an instance stands in the table, so does each own clock of its node
  rows_stand :
      (here : Instance) → In here (instances P) →
      StandsFor clocks (runs here.path) ((layout P).runs here.path) → (k : Clock) →
      IsOwn here.node k →
      StandsFor clocks (clock_place place runs here.path k) (flat_clock (layout P) here.path k)
  rows_stand here stands r Base h = r
  rows_stand here stands r (On k x sign) h =
      let row = is.rows here stands x h.1 sign in
      let up = rows_stand here stands r k (rw h.0 (declared_own here.node x)) in
      let parent : StandsFor clocks row.row.parent (flat_clock (layout P) here.path k) =
      rw (← (ap (clock_place place runs here.path) h.0 ∙ sym row.parent)) up in
      let found : StandsFor clocks (clock_place place runs here.path (On k x sign))
      (Where (flat_clock (layout P) here.path k) row.row.element.0 sign) = (
        row.row,
        record { 0 = place here.path x + sign_place sign },
        refl,
        row.stands,
        refl,
        row.signed,
        parent,
      ) in
      rw (first_signed _ sign _ _ row.serves) found

  -- the caller of an instance, and the occurrence of the call
  pub record IsCallerOf (p : Path) (call index : ℕ) : Type 0 where
    pub caller : Instance
    pub above : instance_at P p ≡ Some caller
    pub stands : In caller (instances P)
    pub occurrence : Occurrence
    pub occurs : In occurrence (node_occurrences P caller.node)
    pub number : occurrence.calls_before ≡ call
    pub found : call_at P caller.node call ≡ Some occurrence
    pub runs_flat :
        (layout P).runs (Child p call index)
        ≡ flat_clock (layout P) caller.path (site_clock P occurrence.clock occurrence.expr)
    pub runs_whole :
        runs_on P (Child p call index)
        ≡ whole_clock P caller.path (runs_on P caller.path)
        (site_clock P occurrence.clock occurrence.expr)

  -- an instance at `Child p call index` has a caller at `p`
  pub caller_of : (p : Path) (call index : ℕ) (c : Instance) →
      instance_at P (Child p call index) ≡ Some c → IsCallerOf p call index
  caller_of p call index c at =
      let k = called P p call index c at in
      let up = in_instances P (instantiation_kept P accepted) p k.caller k.above in
      let path = path_is P p k.caller k.above in
      let o = site_occurs P checked k.caller up call k.site k.stands in
      let site = call_of_site o.occurrence.expr k.site o.site in
      let own_call = call_of P k.caller.node o.occurrence o.stands site in
      let child : Child k.caller.path o.occurrence.calls_before index ≡ Child p call index =
      cc (o.number) in
      record {
        caller = k.caller;
        above = k.above;
        stands = up;
        occurrence = o.occurrence;
        occurs = o.stands;
        number = o.number;
        found = cc (o.number);
        runs_flat =
            cc (instance_runs P accepted checked k.caller up o.occurrence o.stands site index
            (site_clock P o.occurrence.clock o.occurrence.expr) refl);
        runs_whole =
            cc (called_runs P k.caller (at_path P k.caller up) o.occurrence own_call index);
      }

  -- the clock of a call or iterator is an own clock of the node that it stands in
  pub site_is_own :
      (here : Instance) → In here (instances P) → (o : Occurrence) →
      In o (node_occurrences P here.node) → IsOwn here.node (site_clock P o.clock o.expr)
  site_is_own here stands o i =
      site_own P here.node o.clock o.expr
      (Every-at (λ o. IsOwn here.node o.clock) (node_occurrences P here.node) o (own here stands) i)

  -- the clock of each instance stands in the table
  runs_stand :
      (p : Path) (c : Instance) → instance_at P p ≡ Some c →
      StandsFor clocks (runs p) ((layout P).runs p)
  runs_stand Root c at = is.root
  runs_stand Observer c at = is.observer
  runs_stand (Child p call index) c at =
      let k = caller_of p call index c at in
      let path = path_is P p k.caller k.above in
      let up = subst (λ q. StandsFor clocks (runs q) ((layout P).runs q)) (sym path)
      (runs_stand p k.caller k.above) in
      let site = site_clock P k.occurrence.clock k.occurrence.expr in
      let there = rows_stand k.caller k.stands up site
      (site_is_own k.caller k.stands k.occurrence k.occurs) in
      let id : clock_place place runs k.caller.path site ≡ runs (Child p call index) =
      ap (λ q. clock_place place runs q site) path
      ∙ sym (is.called p call index c k.caller k.occurrence at k.above k.found) in
      subst (λ l. StandsFor clocks (runs (Child p call index)) l) (sym k.runs_flat)
      (subst (λ i. StandsFor clocks i (flat_clock (layout P) k.caller.path site)) id there)

  -- the depth of the clock of an instance is at most twice the number of variables before it
  runs_deep :
      (p : Path) (c : Instance) → instance_at P p ≡ Some c →
      whole_depth (runs_on P p) ≤ 2 * before p
  runs_deep Root c at = omega arith
  runs_deep Observer c at = omega arith
  runs_deep (Child p call index) c at =
      let k = caller_of p call index c at in
      let path = path_is P p k.caller k.above in
      let site = site_clock P k.occurrence.clock k.occurrence.expr in
      let up = runs_deep p k.caller k.above in
      let same : whole_depth (runs_on P (Child p call index))
      ≡ whole_depth (runs_on P p) + depth site =
      ap whole_depth k.runs_whole
      ∙ ap (λ q. whole_depth (whole_clock P q (runs_on P q) site)) path
      ∙ whole_deep P p (runs_on P p) site in
      let deep = own_deep k.caller.node site
      (site_is_own k.caller k.stands k.occurrence k.occurs) in
      let further = is.deeper p call index c k.caller at k.above in
      omega (arith, up, same, deep, further)

  -- the place of each own clock of an instance gives its flat clock
  pub clock_row :
      (here : Instance) → In here (instances P) → (k : Clock) → IsOwn here.node k →
      clock_of clocks (clock_place place runs here.path k)
      ≡ flat_clock (layout P) here.path k
  clock_row here stands k h =
      let at = at_path P here stands in
      let there = rows_stand here stands (runs_stand here.path here at) k h in
      let flat : flat_depth (flat_clock (layout P) here.path k)
      ≤ whole_depth (whole_clock P here.path (runs_on P here.path) k) =
      subst (λ c. flat_depth c ≤ whole_depth (whole_clock P here.path (runs_on P here.path) k))
      (sym (flat_is P here stands k))
      (numbered_deep P (whole_clock P here.path (runs_on P here.path) k)) in
      let whole = whole_deep P here.path (runs_on P here.path) k in
      let up = runs_deep here.path here at in
      let deep = own_deep here.node k h in
      let enough = is.enough here stands in
      stands_is clocks (length clocks) (clock_place place runs here.path k)
      (flat_clock (layout P) here.path k) there (omega (arith, flat, whole, up, deep, enough))
