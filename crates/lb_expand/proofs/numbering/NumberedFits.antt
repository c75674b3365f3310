-- The clocks and kinds of the flat program of an accepted program fit, in the layout by numbers.
use Rattle.lb_expand.proofs.Words
use Words.{Always, Assertion, Call, Declaration, Equation, Every, Every-at, Every-from, Expr}
use Words.{FlatEquation, In, Instance, Int, Integer, IsOver, IsVariable, Iterate, List, Literal}
use Words.{Node_named, None, Observer, Occurrence, On, Option, Path, Program, Root, Site, Some}
use Words.{Statement, Static, Symbol, Truth_kind, Variable, When, [], all_in, and_first, and_second}
use Words.{ap, are_declared_clocks, arith, at, at_path, before_instances, call_site, callee_of}
use Words.{check_refusal, clock_same, clocked, count_of, declared_clock, either_or, element_kinds}
use Words.{element_values, emit_instances, expanded, false, fits_observer, flat_clock, flat_map}
use Words.{has_plain_clocks, has_property, holds, in_instances, in_second, inl, input_kinds}
use Words.{instance_at, instance_there, instances, instantiation_kept, is_arithmetic, is_between}
use Words.{is_clock_typed, is_occurrence_clocked, is_root, is_statement_clocked, kinds_at_numbers}
use Words.{kinds_from, layout, length, length-append, length_kinds, list_all, map, name_value}
use Words.{named, nat_le, nat_tests, node_named, node_occurrences, node_parts, node_sizes, number}
use Words.{occurrence_fits, or_fault, own_site, path_is, pos, program_elements, refl, same_Some}
use Words.{serving, signature, slice_get, statements, static_count, static_refusal, subst, sym}
use Words.{to_pieces, true, values_at_numbers, variables, width, ℕ, ◌&&◌, ◌++◌, ◌<◌, ◌∙◌, ◌∷◌, ◌≡◌}
use Rattle.lb_check.proofs.clocking.GivenParameters.{on_base}
use Rattle.lb_check.proofs.programs.AcceptedElements.{input_kinds_are, length_values}
use Rattle.lb_check.proofs.programs.{AcceptedRules.{typed, valued}, ServedVariables.serving_first}
use Rattle.lb_check.{proofs.programs.SiteOccurrences.part_of_node, specs.Clocks.Clock}
use Rattle.lb_check.specs.Elements.{numbers_of}
use Rattle.lb_expand.proofs.clock_tables.ClockTable.{CalleeClocks, ClocksAt, LeftClocks}
use Rattle.lb_expand.proofs.clock_tables.ClockTable.{LeftClocksAt, callee_clocks, left_clocks_of}
use Rattle.lb_expand.proofs.fits.FitProgram.{IsProgramSet, IsStartSet, whole_fits}
use Rattle.lb_expand.proofs.fits.FitWords.{AllSorted, AreVariablesOn, CallLefts, IsInstanceSet}
use Rattle.lb_expand.proofs.fits.{FitWords.{IsSetAt, IsVariableOn, Sorts}, KindFacts.further_sorted}
use Rattle.lb_expand.proofs.fits.KindFacts.{got_first, length-kinds_from, sorts_of}
use Rattle.lb_expand.proofs.numbering.NumberedPlaces.{clock_on, is_laid_out, places_width}
use Rattle.lb_expand.proofs.{numbering.NumberedPlaces.signs_are, solutions.Solving.all_closed}
use Rattle.lb_expand.proofs.widths.TypeFacts.{bound}
use Rattle.lb_flat.{proofs.solutions.StandingRuns.root_kept, specs.Fitting.{IsFitting, IsOf}}
use Rattle.{lb_flat.specs.Fitting.binary_kind, lb_static.specs.Parts.{declared_sizes, own_sizes}}

-- the equations of the temporaries
abbrev pub further : Program → List FlatEquation
further P =
    (emit_instances (layout P) P (before_instances (length (program_elements P)))
    (instances P)).equations

-- the clock and the kind of each element
abbrev pub program_sorts : Program → Sorts
program_sorts P =
    sorts_of (input_kinds P) (element_values P (clock_on P)) (element_kinds P) (further P)

-- the condition on an expression: constants are `int`, and an iterated symbol gives the kind it
-- takes
abbrev pub IsScalarAt : Program → Instance → Expr → Type 0
IsScalarAt P here (Literal m) = IsOf Int (Integer (pos m))
IsScalarAt P here (Variable x) =
    named (λ d. d.name) x (variables here.node) ≡ None → IsOf Int (or_fault (name_value P here x))
IsScalarAt P here (Iterate it (Symbol op) m es) =
    is_arithmetic op ≡ false → binary_kind op Truth_kind Truth_kind ≡ Some Truth_kind
IsScalarAt P here e = Unit {0}

abbrev pub AreScalars : Program → Type 0
AreScalars P =
    Every (λ here. Every (λ o. IsScalarAt P here o.expr) (node_occurrences P here.node))
    (instances P)

first_of : (xs : List ℕ) (i : ℕ) → slice_get xs 0 ≡ Some i → (rest : List ℕ) × (xs ≡ i ∷ rest)
first_of [] i e = absurd cc
first_of (x ∷ xs) i e = (xs, ap (λ y. y ∷ xs) (same_Some x i e))

module _ (P : Program) (accepted : static_refusal P ≡ None) where
  abbrev count : ℕ
  count = length (program_elements P)

  -- ## Elements

  variable_on :
      (here : Instance) → In here (instances P) → (d : Declaration) →
      In d (variables here.node) → IsVariableOn (program_sorts P) (layout P) P here d
  variable_on here i d j =
      let own = numbers_of P here.path d.name in
      let on = values_at_numbers P (clock_on P) accepted here i d j in
      let of = kinds_at_numbers P accepted here i d j in
      record {
        wide = Every-at (λ c. length (numbers_of P here.path c.name) ≡ width P here c)
            (variables here.node) d (places_width P accepted here i) j;
        elements = Every-from _ own (λ n k. (
          got_first Always (clock_on P here d) (element_values P (clock_on P))
              (map (λ q. q.clock) (further P)) n
              (Every-at (λ m. slice_get (element_values P (clock_on P)) m
              ≡ Some (clock_on P here d)) own n on k),
          got_first Int d.kind (element_kinds P) (kinds_from (element_kinds P) (further P)) n
              (Every-at (λ m. slice_get (element_kinds P) m ≡ Some d.kind) own n of k),
        ));
      }

  pub variables_on :
      (here : Instance) → In here (instances P) →
      AreVariablesOn (program_sorts P) (layout P) P here
  variables_on here i =
      Every-from (IsVariableOn (program_sorts P) (layout P) P here) (variables here.node)
      (λ d j. variable_on here i d j)

  -- the temporaries have the clocks and the kinds of their equations
  pub all_sorted : AllSorted (program_sorts P) (further P)
  all_sorted =
      let closed = all_closed count (layout P) P (is_laid_out P accepted) (before_instances count)
      (instances P) (record { fresh = tt; next = omega arith }) in
      further_sorted (input_kinds P) (element_values P (clock_on P)) (element_kinds P) (further P)
      (length_values P (clock_on P) ∙ sym (length_kinds P)) (rw (length_kinds P) closed.fresh)

  -- the program has as many kinds as elements
  pub all_kinds_counted :
      length (element_kinds P ++ kinds_from (element_kinds P) (further P))
      ≡ (expanded (layout P) P (length (program_elements P))).size
  all_kinds_counted =
      let closed = all_closed count (layout P) P (is_laid_out P accepted) (before_instances count)
      (instances P) (record { fresh = tt; next = omega arith }) in
      let first = length_kinds P in
      let more = length-kinds_from (element_kinds P) (further P) in
      let next = closed.next in
      length-append (element_kinds P) (kinds_from (element_kinds P) (further P))
      ∙ omega (arith, first, more, next)

  -- ## The node under test and the observer

  root_is : (root : Instance) → instance_at P Root ≡ Some root → is_root P root ≡ true
  root_is root e = sym (ap (holds (is_root P)) e) ∙ root_kept P accepted

  observer_is :
      (root observer : Instance) → instance_at P Root ≡ Some root →
      instance_at P Observer ≡ Some observer → has_property P root (Some observer) ≡ true
  observer_is root observer e g =
      cc (and_second (nat_le (length (signature P)) 1023) _ (and_second (has_plain_clocks P root) _
      (root_is root e)))

  module _ (checked : check_refusal P ≡ None) where
    starts_on :
        (p : Path) (start : Instance) → instance_at P p ≡ Some start →
        (layout P).runs p ≡ Always → has_plain_clocks P start ≡ true →
        IsStartSet (program_sorts P) (layout P) P p start
    starts_on p start e runs plain =
        let is_in = in_instances P (instantiation_kept P accepted) p start e in
        let path = path_is P p start e in
        let ds = start.node.inputs ++ start.node.outputs in
        let declared = and_first (are_declared_clocks start.node) _
        (clocked P checked start is_in) in
        record {
          path = path;
          variables_on = variables_on start is_in;
          on_base = Every-from _ ds (λ d j.
              ap (flat_clock (layout P) start.path) (on_base start.node declared plain d j)
              ∙ ap (layout P).runs path ∙ runs);
        }

    module _ (scalars : AreScalars P) where
      module _ (here : Instance) (i : In here (instances P)) where
        abbrev own_occurrences : List Occurrence
        own_occurrences = node_occurrences P here.node

        rules : list_all (is_occurrence_clocked P here.node) own_occurrences ≡ true
        rules =
            and_first _ _ (and_second (are_declared_clocks here.node) _ (clocked P checked here i))

        lawful :
            (o : Occurrence) → In o own_occurrences → is_occurrence_clocked P here.node o ≡ true
        lawful o on = all_in (is_occurrence_clocked P here.node) own_occurrences o rules on

        -- the variables of the instance of a call, at any index, have their clocks and kinds
        callee_on :
            (o : Occurrence) (s : Site) (index : ℕ) → In o own_occurrences →
            own_site o.expr ≡ Some s → index < count_of P here s → (c : Instance) →
            callee_of P here s o.calls_before index ≡ Some c →
            AreVariablesOn (program_sorts P) (layout P) P c
        callee_on o s index on own lt c e =
            let n = bound (node_named P s.callee) _ c e in
            let there = instance_there P accepted checked here i o s n.value index on own n.is lt in
            let same = same_Some there.instance c (sym there.is ∙ e) in
            rw (← same) (variables_on there.instance there.stands)

        -- an iterator has at least one instance
        positive :
            (o : Occurrence) (m : Static) → In o own_occurrences → own_sizes o.expr ≡ m ∷ [] →
            0 < number P here m
        positive o m on own =
            let part = part_of_node P accepted checked here i o on in
            let size = in_second m (declared_sizes here.node) (flat_map own_sizes (node_parts
            here.node)) (to_pieces own_sizes m o.expr (node_parts here.node) part (rw own (inl
            refl))) in
            by (static_count P here m)
            (all_in (is_between P here 1 4096) (node_sizes here.node) m
            (and_first _ _ (valued P accepted here i).in_range) size)
          where
            by : (o : Option ℕ) → holds (λ n. nat_le 1 n && nat_le n 4096) o ≡ true →
                0 < either_or o 0
            by None e = absurd cc
            by (Some n) e =
                let one = and_first (nat_le 1 n) (nat_le n 4096) e in
                grind (arith, nat_tests)

        set_at :
            (k : Clock) (n : ℕ) (e : Expr) → In (at k n e) own_occurrences →
            IsScalarAt P here e → IsSetAt (program_sorts P) (layout P) P here k n e
        set_at k n (Literal m) on z = z
        set_at k n (Variable x) on z = z
        set_at k n (When a x sign) on z =
            let o = at k n (When a x sign) in
            let own = declared_clock here.node x in
            let clock : k ≡ On own x sign = clock_same k (On own x sign) (lawful o on) in
            let over = subst (IsOver (IsVariable here.node)) clock
            (occurrence_fits P accepted checked here i o on).over in
            let first = serving_first P accepted checked here.path here (at_path P here i) x over.1
            in
            let served = serving P here.path x in
            let all = first_of (numbers_of P served.0 served.1) first.0 first.1 in
            (first.0, all.0, signs_are P here i x ∙ all.1)
        set_at k n (Call f statics es) on z =
            let o = at k n (Call f statics es) in
            let clocks : ClocksAt (layout P) P here k n (Call f statics es) =
            Every-at (CalleeClocks (layout P) P here) own_occurrences o
            (callee_clocks P accepted checked here i) on in (
              λ c e. callee_on o (call_site f statics) 0 on refl (omega arith) c e,
              λ callee named.
                  let h = clocks callee named in
                  record { inputs = h.inputs; result = h.result },
            )
        set_at k n (Iterate it (Node_named f statics) m es) on z =
            let o = at k n (Iterate it (Node_named f statics) m es) in
            let clocks : ClocksAt (layout P) P here k n (Iterate it (Node_named f statics) m es) =
            Every-at (CalleeClocks (layout P) P here) own_occurrences o
            (callee_clocks P accepted checked here i) on in
            let s : Site = record { callee = f; arguments = statics; count = Some m } in (
              positive o m on refl,
              λ index lt. (
                λ c e. callee_on o s index on refl lt c e,
                λ callee named. clocks callee named index lt,
              ),
            )
        set_at k n (Iterate it (Symbol op) m es) on z = z
        set_at k n e on z = tt

        call_lefts :
            (s : Statement) (q : Occurrence) → In (s, q) (statements P here.node) →
            CallLefts (program_sorts P) (layout P) P here q.calls_before s
        call_lefts (Assertion e) q on = tt
        call_lefts (Equation lefts e) q on =
            let clocks : LeftClocksAt (layout P) P here q.clock q.calls_before (Equation lefts e) =
            Every-at (LeftClocks (layout P) P here) (statements P here.node) (Equation lefts e, q)
            (left_clocks_of P accepted checked here i) on in
            λ f statics es callee is named. (clocks f statics es callee is named).left_variables

        instance_set : IsInstanceSet (program_sorts P) (layout P) P here
        instance_set = record {
          variables_on = variables_on here i;
          typed = and_second (list_all (is_clock_typed P here) (variables here.node)) _
              (typed P checked here i);
          all_set = Every-from _ own_occurrences (λ o on. record {
            at_it = set_at o.clock o.calls_before o.expr on
                (Every-at (λ o. IsScalarAt P here o.expr) own_occurrences o
                (Every-at (λ here. Every (λ o. IsScalarAt P here o.expr)
                (node_occurrences P here.node)) (instances P) here scalars i) on);
            clocked = lawful o on;
          });
          bodies_set = Every-from _ (statements P here.node) (λ t on. record {
            clocked = all_in (λ s. is_statement_clocked P here.node s.0 s.1)
                (statements P here.node) t
                (and_second _ _ (and_second (are_declared_clocks here.node) _
                (clocked P checked here i))) on;
            calls = call_lefts t.0 t.1 on;
          });
        }

      program_set : IsProgramSet (program_sorts P) (layout P) P (length (program_elements P))
      program_set = record {
        instances_set = Every-from _ (instances P) (λ here i. instance_set here i);
        further = all_sorted;
        root_runs = refl;
        root_set = λ root e.
            starts_on Root root e refl (and_first (has_plain_clocks P root) _ (root_is root e));
        observer_set = λ root observer e g.
            let is = observer_is root observer e g in (
              starts_on Observer observer g refl (and_first (has_plain_clocks P observer) _ is),
              and_first (fits_observer P root observer) _
                  (and_second (has_plain_clocks P observer) _ is),
            );
        signature = λ root e j c at.
            subst (λ cs. slice_get cs j ≡ Some c) (sym (input_kinds_are P root e)) at;
      }

      -- the clocks and the kinds of the flat program fit
      pub program_fits :
          IsFitting (input_kinds P) (program_sorts P).clock_of (program_sorts P).kind_of
          (expanded (layout P) P (length (program_elements P))).equations
      program_fits =
          whole_fits (program_sorts P) (layout P) P (length (program_elements P)) program_set
