-- An expression has no value where its clock does not tick, in a history that solves a program.
use Rattle.std.proofs.Common.{◌≡◌, inl, inr, ℕ, suc, ◌+◌, ◌-◌, ◌*◌, ◌<◌, true, Option}
use Rattle.std.proofs.Common.{drop, Some, None, option_map, List, [], ◌∷◌, ◌++◌, map, flat_map}
use Rattle.std.proofs.Common.{refl, ap, sym, subst, ◌∙◌, arith}
use Rattle.std.specs.Prelude.{◌||◌, not, pos}
use Rattle.std.specs.List.{range_with_len, list_all}
use Rattle.std.specs.Str.{bytes_eq}
use Rattle.lb_syntax.specs.declared.tree.ArrayIterator.{ArrayIterator}
use Rattle.lb_syntax.specs.declared.tree.ArrayIterator.TheVariants.{Map, Red, Fill}
use Rattle.lb_syntax.specs.Lists.{Every, In, either_or, listed}
use Rattle.lb_syntax.specs.Tree.{Name, Node_named, Symbol, Expr, Literal, Truth, Variable}
use Rattle.lb_syntax.specs.Tree.{Group, Unary, Binary, If, Arrow, Fby, Pre, Current, When}
use Rattle.lb_syntax.specs.Tree.{Replicate, Index, Slice, Join, Array, AtMostOne, Nor, Call}
use Rattle.lb_syntax.specs.Tree.{Iterate, Exprs, Nil, Cons, Declaration, Node}
use Rattle.lb_syntax.proofs.TruthValues.{and_first, and_second, implied}
use Rattle.lb_static.specs.DataTypes.{DataType, variables}
use Rattle.lb_static.specs.Instances.{Program, Instance, Child, Site}
use Rattle.lb_static.specs.Instances.{instances}
use Rattle.lb_static.specs.Instances.{name_value, sites, sites_in, static_count}
use Rattle.lb_static.specs.Instantiation.{static_refusal}
use Rattle.lb_static.specs.Parts.{among, variable_names}
use Rattle.lb_static.specs.StaticValues.{named}
use Rattle.lb_check.specs.Acceptance.{check_refusal}
use Rattle.lb_check.specs.ClockRules.{is_clock, is_occurrence_clocked}
use Rattle.lb_check.specs.ClockRules.{are_declared_clocks}
use Rattle.lb_check.specs.Clocks.{Clock, On, clock_of, clock_or, declared_clock}
use Rattle.lb_check.specs.Occurrences.{Occurrence, at, call_count, occurrences}
use Rattle.lb_check.specs.Occurrences.{occurrences_in, node_occurrences}
use Rattle.lb_check.specs.Scalars.{Integer, Boolean, Stream, or_fault, one_scalar}
use Rattle.lb_check.specs.Scalars.{two_scalars, at_most_one, none_true, first_value}
use Rattle.lb_check.specs.Solutions.{Inputs, Fits, SolvesAt, Solves}
use Rattle.lb_check.specs.Streams.{History, presence, constantly, streams, all_streams, one_cell}
use Rattle.lb_check.specs.Streams.{previous, gathered, iterated, number, part_count, outputs_of}
use Rattle.lb_check.specs.Types.{data_types, all_types, from_one, from_truths, unary_type}
use Rattle.lb_check.specs.Types.{binary_type, common_type, array_of, index_type, slice_type}
use Rattle.lb_check.specs.Types.{join_type, operator_types}
use Rattle.lb_check.proofs.clocking.{ClockTests.clock_same, NamedClocks.{OfCalled, Sited}}
use Rattle.lb_check.proofs.clocking.NamedClocks.{sited_first, sited_second, IsOver, declared_over}
use Rattle.lb_check.proofs.lists.Members.{Every-at, Every-from, in_first, in_second, Every-first}
use Rattle.lb_check.proofs.lists.Members.{Every-second, Every-append, Every-tested, Every-of_pieces}
use Rattle.lb_check.proofs.{lists.Members.Every-of_range, programs.AcceptedRules.clocked}
use Rattle.lb_check.proofs.programs.{InstancePaths.{find_in, at_path}, TypedOccurrences.IsVariable}
use Rattle.lb_check.proofs.programs.TypedOccurrences.{own_variables, occurrence_fits, found_name}
use Rattle.lb_check.proofs.typing.OperandTypes.{bound, one, two, from_true, first_of_all, called}
use Rattle.lb_check.proofs.typing.OperandTypes.{placed, one_output}
use Rattle.lb_flat.specs.Flat.{instants}
use Rattle.lb_flat.specs.Layouts.{flat_clock}
use Rattle.lb_flat.specs.NumberedLayouts.{layout}
use Rattle.lb_expand.proofs.clock_tables.ClockTable.{CalleeClocks, callee_clocks}
use Rattle.lb_expand.proofs.clock_tables.SignStreams.{clock_instants, runs_history}
use Rattle.lb_flat.proofs.lists.Lists.{Every-take, Every-drop}
use Rattle.lb_expand.proofs.solutions.Placing.{columns}
use Rattle.lb_laws.specs.Ticks.{IsOff, IsAbsent, AreAbsent}
use Rattle.lb_laws.proofs.AbsentCells.{all_constant, all_one, all_two, all_choices, all_first_then}
use Rattle.lb_laws.proofs.AbsentCells.{all_previous, all_sampled, all_latest, all_fitting}
use Rattle.lb_laws.proofs.AbsentCells.{all_copies}
use Rattle.lb_laws.proofs.AbsentCells.{all_joined, all_symbols, absent_across}
use Rattle.lb_laws.proofs.ComputedClocks.{named_among}

module _ (P : Program) (accepted : static_refusal P ≡ None) (checked : check_refusal P ≡ None)
    (X : Inputs) (H : History) (solves : Solves P X H) (F : List Stream)
    (same : (here : Instance) → In here (instances P) → (x : Name) → IsVariable here.node x →
    columns X F ((layout P).places here.path x) ≡ H.columns here.path x) (t : ℕ) where
  -- the ticks of a clock of an instance over its variables are those of its flat clock
  ticking :
      (here : Instance) → In here (instances P) → (k : Clock) → IsOver (IsVariable here.node) k →
      presence H here.path k ≡ instants X F (flat_clock (layout P) here.path k)
  ticking here stands k over =
      clock_instants P accepted checked X H solves F same here stands
      (runs_history P accepted checked X H solves F same here.path here (at_path P here stands)) k
      over

  -- the streams of a variable have no value where its declared clock does not tick
  variable_absent :
      (here : Instance) → In here (instances P) → (d : Declaration) → In d (variables here.node) →
      IsOff t (presence H here.path (declared_clock here.node d.name)) →
      AreAbsent t (H.columns here.path d.name)
  variable_absent here stands d i off =
      let all =
      (Every-at (SolvesAt P H) (instances P) here solves.instances stands).variables in
      let fit = Every-at (Fits P H here) (variables here.node) d all i in
      all_fitting t d.kind (presence H here.path (declared_clock here.node d.name))
      (H.columns here.path d.name) fit.cells off

  module _ (here : Instance) (stands : In here (instances P)) where
    abbrev Called : Instance → Type 0
    Called c = In c (instances P)

    abbrev Sites : ℕ → List Site → Type 0
    Sites n ss = Sited (OfCalled P here Called) n ss

    abbrev IsHere : Occurrence → Type 0
    IsHere o = In o (node_occurrences P here.node)

    abbrev AreHere : List Occurrence → Type 0
    AreHere os = Every IsHere os

    lawful : (o : Occurrence) → IsHere o → is_occurrence_clocked P here.node o ≡ true
    lawful o i =
        let rules = and_second (are_declared_clocks here.node) _ (clocked P checked here stands) in
        let all = node_occurrences P here.node in
        Every-at (λ o. is_occurrence_clocked P here.node o ≡ true) all o
        (Every-tested (is_occurrence_clocked P here.node) all
        (and_first (list_all (is_occurrence_clocked P here.node) all) _ rules)) i

    callee_clock : (o : Occurrence) → IsHere o → CalleeClocks (layout P) P here o
    callee_clock o i =
        Every-at (CalleeClocks (layout P) P here) (node_occurrences P here.node) o
        (callee_clocks P accepted checked here stands) i

    over : (o : Occurrence) → IsHere o → IsOver (IsVariable here.node) o.clock
    over o i = (occurrence_fits P accepted checked here stands o i).over

    -- an output of a callee has no value where the clock of the call does not tick, if the output
    -- is on that clock
    output_absent :
        (c : Instance) → In c (instances P) → (d : Declaration) → In d c.node.outputs →
        (k : Clock) → IsOver (IsVariable here.node) k →
        flat_clock (layout P) c.path (declared_clock c.node d.name)
        ≡ flat_clock (layout P) here.path k →
        IsOff t (presence H here.path k) → AreAbsent t (H.columns c.path d.name)
    output_absent c there d i k known clocks off =
        let own = declared_over (IsVariable c.node) c.node (own_variables c.node) d.name in
        let ticks = ticking c there (declared_clock c.node d.name) own
        ∙ ap (instants X F) clocks ∙ sym (ticking here stands k known) in
        variable_absent c there d
        (in_second d c.node.inputs (c.node.outputs ++ c.node.locals)
        (in_first d c.node.outputs c.node.locals i))
        (subst (λ bs. IsOff t bs) (sym ticks) off)

    -- a name has no value where its clock does not tick: a variable, a static parameter or a
    -- constant
    name_absent :
        (k : Clock) (x : Name) (o : Option Declaration) →
        named (λ d. d.name) x (variables here.node) ≡ o →
        (not (among x (variable_names here.node)) || is_clock k (declared_clock here.node x))
        ≡ true →
        IsOff t (presence H here.path k) →
        AreAbsent t (either_or (option_map (λ d. H.columns here.path d.name) o)
        (constantly (or_fault (name_value P here x)) (presence H here.path k) ∷ []))
    name_absent k x None e rule off =
        all_constant t (or_fault (name_value P here x)) (presence H here.path k) off
    name_absent k x (Some d) e rule off =
        let on = clock_same k (declared_clock here.node x)
        (implied (among x (variable_names here.node)) (is_clock k (declared_clock here.node x))
        rule (named_among x (variables here.node) d e)) in
        let name = found_name x (variables here.node) d e in
        let clock : k ≡ declared_clock here.node d.name =
        on ∙ ap (declared_clock here.node) (sym name) in
        variable_absent here stands d
        (find_in (λ (c : Declaration). bytes_eq c.name x) (variables here.node) d e)
        (subst (λ l. IsOff t (presence H here.path l)) clock off)

    -- the gathered outputs of the instances of an iterator have no value where those of each
    -- instance have none
    gathered_absent :
        (outputs : ℕ → Name → List Stream) (n : ℕ) (outs : List Declaration) →
        ((i : ℕ) → i < n → (d : Declaration) → In d outs → AreAbsent t (outputs i d.name)) →
        AreAbsent t (gathered outputs n outs)
    gathered_absent outputs n outs h =
        Every-of_pieces (IsAbsent t)
        (λ (o : Declaration). flat_map (λ i. outputs i o.name) (range_with_len 0 n)) outs
        (Every-from _ outs (λ d on.
        Every-of_pieces (IsAbsent t) (λ i. outputs i d.name) (range_with_len 0 n)
        (Every-of_range (λ i. AreAbsent t (outputs i d.name)) 0 n
        (λ i below. let e : i ≡ 0 + i = omega arith in
        subst (λ j. AreAbsent t (outputs j d.name)) e (h i below d on)))))

    iterated_absent :
        (outputs : ℕ → Name → List Stream) (n : ℕ) (it : ArrayIterator)
        (outs : List Declaration) → 0 < n →
        ((i : ℕ) → i < n → (d : Declaration) → In d outs → AreAbsent t (outputs i d.name)) →
        AreAbsent t (iterated outputs n it outs)
    iterated_absent outputs n Map outs some h = gathered_absent outputs n outs h
    iterated_absent outputs n Red [] some h = tt
    iterated_absent outputs n Red (o ∷ outs) some h = h (n - 1) (omega arith) o (inl refl)
    iterated_absent outputs n Fill [] some h = gathered_absent outputs n [] h
    iterated_absent outputs n Fill (o ∷ outs) some h =
        Every-append (IsAbsent t) (outputs (n - 1) o.name) (gathered outputs n outs)
        (h (n - 1) (omega arith) o (inl refl))
        (gathered_absent outputs n outs (λ i below d on. h i below d (inr on)))

    fore : (os qs : List Occurrence) → AreHere (os ++ qs) → AreHere os
    fore os qs h = Every-first IsHere os qs h

    aft : (os qs : List Occurrence) → AreHere (os ++ qs) → AreHere qs
    aft os qs h = Every-second IsHere os qs h

    mutual
      pub absent :
          (k : Clock) (n : ℕ) (e : Expr) (d : DataType) → data_types P here e ≡ Some (d ∷ []) →
          AreHere (occurrences P here.node k n e) → Sites n (sites e) →
          IsOff t (presence H here.path k) → AreAbsent t (streams P H here k n e)
      absent k n (Literal m) d e h s off =
          all_constant t (Integer (pos m)) (presence H here.path k) off
      absent k n (Truth b) d e h s off =
          all_constant t (Boolean b) (presence H here.path k) off
      absent k n (Variable x) d e h s off =
          name_absent k x (named (λ d. d.name) x (variables here.node)) refl
          (lawful (at k n (Variable x)) h.0) off
      absent k n (Group a) d e h s off = absent k n a d e h s off
      absent k n (Unary op a) d e h s off =
          let i = one (data_types P here a) (unary_type op) (d ∷ []) e in
          all_one t (one_cell (one_scalar op)) refl (streams P H here k n a)
          (absent k n a i.data_type i.is h.1 s off)
      absent k n (Binary op a b) d e h s off =
          let i = two (data_types P here a) (data_types P here b) (binary_type op) (d ∷ []) e in
          let oa = occurrences P here.node k n a in
          let ob = occurrences P here.node k (n + call_count a) b in
          all_two t (two_scalars op) (streams P H here k n a)
          (streams P H here k (n + call_count a) b)
          (absent k n a i.first i.is_first (fore oa ob h.1)
          (sited_first (OfCalled P here Called) n (sites a) (sites b) s) off)
      absent k n (If c a b) d e h s off =
          let na = n + call_count c in
          let c_is = bound (from_truths (from_one (data_types P here c) Some)) _ (d ∷ []) e in
          let truths = from_true (from_one (data_types P here c) Some) c_is.value c_is.is in
          let z = one (data_types P here c) Some truths.data_types truths.is in
          let oc = occurrences P here.node k n c in
          let oa = occurrences P here.node k na a in
          let ob = occurrences P here.node k (na + call_count a) b in
          all_choices t (streams P H here k n c) (streams P H here k na a)
          (streams P H here k (na + call_count a) b)
          (absent k n c z.data_type z.is (fore oc (oa ++ ob) h.1)
          (sited_first (OfCalled P here Called) n (sites c) (sites a ++ sites b) s) off)
      absent k n (Arrow a b) d e h s off =
          let i = two (data_types P here a) (data_types P here b) common_type (d ∷ []) e in
          let oa = occurrences P here.node k n a in
          let ob = occurrences P here.node k (n + call_count a) b in
          all_first_then t (streams P H here k n a) (streams P H here k (n + call_count a) b)
          (absent k n a i.first i.is_first (fore oa ob h.1)
          (sited_first (OfCalled P here Called) n (sites a) (sites b) s) off)
          (absent k (n + call_count a) b i.second i.is_second (aft oa ob h.1)
          (sited_second (OfCalled P here Called) n (sites a) (sites b) s) off)
      absent k n (Fby a b) d e h s off =
          let i = two (data_types P here a) (data_types P here b) common_type (d ∷ []) e in
          let oa = occurrences P here.node k n a in
          let ob = occurrences P here.node k (n + call_count a) b in
          let later = streams P H here k (n + call_count a) b in
          all_first_then t (streams P H here k n a)
          (map (previous first_value (presence H here.path k)) later)
          (absent k n a i.first i.is_first (fore oa ob h.1)
          (sited_first (OfCalled P here Called) n (sites a) (sites b) s) off)
          (all_previous t first_value (presence H here.path k) later off)
      absent k n (Pre a) d e h s off =
          all_previous t first_value (presence H here.path k) (streams P H here k n a) off
      absent k n (Current a) d e h s off =
          let own = clock_or (clock_of P here.node a) in
          all_latest t first_value (presence H here.path k) (streams P H here own n a) off
      absent k n (When a x sign) d e h s off =
          let own = declared_clock here.node x in
          let on = clock_same k (On own x sign) (lawful (at k n (When a x sign)) h.0) in
          all_sampled t (presence H here.path (On own x sign)) (streams P H here own n a)
          (subst (λ l. IsOff t (presence H here.path l)) on off)
      absent k n (Replicate a m) d e h s off =
          let c = bound (static_count P here m) _ (d ∷ []) e in
          let i = one (data_types P here a) (array_of c.value) (d ∷ []) c.gives in
          all_copies t (number P here m) (streams P H here k n a)
          (absent k n a i.data_type i.is h.1 s off)
      absent k n (Index a m) d e h s off =
          let c = bound (static_count P here m) _ (d ∷ []) e in
          let i = one (data_types P here a) (index_type c.value) (d ∷ []) c.gives in
          let all = streams P H here k n a in
          Every-take (IsAbsent t) (part_count P here a)
          (drop (part_count P here a * number P here m) all)
          (Every-drop (IsAbsent t) (part_count P here a * number P here m) all
          (absent k n a i.data_type i.is h.1 s off))
      absent k n (Slice a m l) d e h s off =
          let c = bound (static_count P here m) _ (d ∷ []) e in
          let q = bound (static_count P here l) _ (d ∷ []) c.gives in
          let i = one (data_types P here a) (slice_type c.value q.value) (d ∷ []) q.gives in
          let all = streams P H here k n a in
          Every-take (IsAbsent t)
          (part_count P here a * (suc (number P here l) - number P here m))
          (drop (part_count P here a * number P here m) all)
          (Every-drop (IsAbsent t) (part_count P here a * number P here m) all
          (absent k n a i.data_type i.is h.1 s off))
      absent k n (Join a b) d e h s off =
          let i = two (data_types P here a) (data_types P here b) join_type (d ∷ []) e in
          let oa = occurrences P here.node k n a in
          let ob = occurrences P here.node k (n + call_count a) b in
          Every-append (IsAbsent t) (streams P H here k n a)
          (streams P H here k (n + call_count a) b)
          (absent k n a i.first i.is_first (fore oa ob h.1)
          (sited_first (OfCalled P here Called) n (sites a) (sites b) s) off)
          (absent k (n + call_count a) b i.second i.is_second (aft oa ob h.1)
          (sited_second (OfCalled P here Called) n (sites a) (sites b) s) off)
      absent k n (Array es) d e h s off =
          let b = bound (all_types P here es) _ (d ∷ []) e in
          all_joined t (all_streams P H here k n es) (all_absent k n es b.value b.is h.1 s off)
      absent k n (AtMostOne es) d e h s off =
          (absent_across t at_most_one (presence H here.path k) _ off, tt)
      absent k n (Nor es) d e h s off =
          (absent_across t none_true (presence H here.path k) _ off, tt)
      absent k n (Call f statics es) d e h s off =
          let c = one_output P here f statics es d e in
          let p = placed P here f statics c.callee c.is in
          let there : Instance = record c.callee { path = Child here.path n 0 } in
          let up = s.0.1 0 (omega arith) there (p.at n 0) in
          let o = at k n (Call f statics es) in
          let clocks = callee_clock o h.0 c.callee.node p.node in
          let absent_there = output_absent there up c.output
          (subst (λ (ds : List Declaration). In c.output ds) (sym c.one) (inl refl)) k
          (over o h.0) (clocks.result c.output c.one) off in
          let outs : outputs_of P here f ≡ c.output ∷ [] =
          ap (λ z. listed (λ (m : Node). m.outputs) z) p.node ∙ c.one in
          subst (λ (ds : List Declaration).
          AreAbsent t (flat_map (λ o. H.columns (Child here.path n 0) o.name) ds))
          (sym outs)
          (Every-append (IsAbsent t) (H.columns (Child here.path n 0) c.output.name) []
          absent_there tt)
      absent k n (Iterate it (Node_named f statics) m es) d e h s off =
          let z = bound (static_count P here m) _ (d ∷ []) e in
          let o = bound (operator_types P here (Node_named f statics)) _ (d ∷ []) z.gives in
          let c = called P here f statics o.value o.is in
          let p = placed P here f statics c.callee c.is in
          let q = at k n (Iterate it (Node_named f statics) m es) in
          let clocks = callee_clock q h.0 c.callee.node p.node in
          let outs : outputs_of P here f ≡ c.callee.node.outputs =
          ap (λ z. listed (λ (m : Node). m.outputs) z) p.node in
          iterated_absent (λ i x. H.columns (Child here.path n i) x) (number P here m) it
          (outputs_of P here f) s.0.0
          (λ i below x on.
          let there : Instance = record c.callee { path = Child here.path n i } in
          let up = s.0.1 i below there (p.at n i) in
          let own = subst (λ (ds : List Declaration). In x ds) outs on in
          output_absent there up x own k (over q h.0)
          (Every-at _ (c.callee.node.inputs ++ c.callee.node.outputs) x (clocks i below)
          (in_second x c.callee.node.inputs c.callee.node.outputs own)) off)
      absent k n (Iterate it (Symbol op) m es) d e h s off =
          let c = bound (static_count P here m) _ (d ∷ []) e in
          let o = bound (operator_types P here (Symbol op)) _ (d ∷ []) c.gives in
          let a = bound (all_types P here es) _ (d ∷ []) o.gives in
          all_symbols t it op (all_streams P H here k n es)
          (all_absent k n es a.value a.is h.1 s off)

      all_absent :
          (k : Clock) (n : ℕ) (es : Exprs) (ts : List DataType) →
          all_types P here es ≡ Some ts → AreHere (occurrences_in P here.node k n es) →
          Sites n (sites_in es) → IsOff t (presence H here.path k) →
          Every (AreAbsent t) (all_streams P H here k n es)
      all_absent k n Nil ts e h s off = tt
      all_absent k n (Cons a es) ts e h s off =
          let i = first_of_all P here a es ts e in
          let oa = occurrences P here.node k n a in
          let ob = occurrences_in P here.node k (n + call_count a) es in (
            absent k n a i.first i.is (fore oa ob h)
                (sited_first (OfCalled P here Called) n (sites a) (sites_in es) s) off,
            all_absent k (n + call_count a) es i.rest i.others (aft oa ob h)
                (sited_second (OfCalled P here Called) n (sites a) (sites_in es) s) off,
          )
