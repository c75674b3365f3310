-- The copies of an accepted program, and what has to be known of each instance for them.
use Rattle.lb_expand.proofs.Words
use Words.{◌≡◌, ℕ, ◌<◌, ◌≤◌, Some, None, List, [], ◌++◌, length, refl, sym, ◌∙◌, slice_get}
use Words.{length-map, ArrayIterator, Every, In, Name, Static, Node_named, Expr, Current, When}
use Words.{Call, Iterate, Exprs, variables, width, Program, Instance, Path, Site, call_site}
use Words.{callee_of, node_sites, numbered_sites, children, instances, level, static_refusal}
use Words.{check_refusal, On, base_clock, outer, clock_or, declared_clock, program_elements}
use Words.{Element, Occurrence, at, node_occurrences, History, number, Every-at, Every-from}
use Words.{instantiation_kept, OfCalled, Every-map, Every-both, Every-first, own_site, node_calls}
use Words.{IsEntered, all_entered, all_children, all_called, statements_typed, column, history_of}
use Words.{Layout, flat_clock, layout, ◌⊎◌, inl, inr, Option, IfSome, ◌∷◌, map, flat_map, subst}
use Words.{map-append, joined, Declaration, Node, Root, Observer, instance_at, Definition, elements}
use Words.{itself, defined_as, definitions, definitions_at, observer_definitions}
use Words.{equation_definitions, call_definitions, clock_definitions, statements, columns_at}
use Words.{in_first, in_second, in_either, of_pieces, to_pieces, Every-append, Every-second}
use Words.{path_is, in_instances, FlatEquation, State, received, before_instances, emit_instances}
use Words.{observed_places, observed}
use Rattle.lb_check.specs.Clocks.{Clock, given_inputs, clock_of}
use Rattle.lb_expand.proofs.copies.CopiedBodies.{IsSourced, made_by, instances_defined}
use Rattle.lb_expand.proofs.copies.CopiedCalls.{IsPassed, AreDeclared, AreMatched, matched-none}
use Rattle.lb_expand.proofs.copies.CopiedCalls.{matched-crossed, matched-pairs, IsDefinedBy, AreFed}
use Rattle.lb_expand.proofs.copies.CopiedCalls.{received_paired}
use Rattle.lb_expand.proofs.numbering.NumberedPlaces.{elements_numbered, elements_declared}
use Rattle.lb_expand.proofs.numbering.NumberedPlaces.{columns_wide, places_width}
use Rattle.lb_expand.proofs.reads.LinkTerms.{AreNumbered, IsAwaited, IsRunning, IsLinkable, IsKnown}
use Rattle.lb_expand.proofs.reads.LinkWords.{Pairs, AllMeet, variable_links}
use Rattle.lb_expand.proofs.{solutions.Placing.AreAsWide, widths.SoundInstances.occurrences_at}
use Rattle.lb_expand.proofs.widths.{SoundInstances.calls_wide, Widths.{IsTypedAt, AreVariablesWide}}

-- In an accepted program whose rules hold, what has to be known of each instance for its copies to
-- be definitions follows from what is known of its clocks.

module _ (P : Program) (accepted : static_refusal P ≡ None) (checked : check_refusal P ≡ None)
    (Under : ℕ → ℕ → Type 0) (Left : ℕ → Type 0) where
  abbrev Y : Layout
  Y = layout P

  abbrev H : History
  H = history_of (layout P) [] []

  abbrev IsAt : Element → ℕ → Type 0
  IsAt y i = slice_get (program_elements P) i ≡ Some y

  pub same : (p : Path) (x : Name) → length (Y.places p x) ≡ length (H.columns p x)
  same p x = sym (length-map (Y.places p x) (column [] []))

  pub wide :
      (here : Instance) → In here (instances P) →
      Every (λ d. length (H.columns here.path d.name) ≡ width P here d) (variables here.node)
  wide here j =
      columns_wide (layout P) [] [] here.path (width P here) (variables here.node)
      (places_width P accepted here j)

  module _ (here : Instance) where
    abbrev Awaited : Clock → Type 0
    Awaited k = IsAwaited Y P H same IsAt Under Left here k

    -- the condition on the clocks of an expression itself
    abbrev pub IsClockKnown : Clock → ℕ → Expr → Type 0
    IsClockKnown k n (When a x sign) = Awaited (On (declared_clock here.node x) x sign)
    IsClockKnown k n (Current a) = Awaited (clock_or (clock_of P here.node a))
    IsClockKnown k n (Call f statics es) =
        (c : Instance) → callee_of P here (call_site f statics) n 0 ≡ Some c →
        Every (λ d. flat_clock Y c.path (declared_clock c.node d.name)
        ≡ flat_clock Y here.path
        (outer (base_clock k c.node) (given_inputs c.node.inputs es)
        (declared_clock c.node d.name)))
        c.node.inputs
    IsClockKnown k n (Iterate it (Node_named f statics) m es) =
        (i : ℕ) → i < number P here m → (c : Instance) →
        callee_of P here (call_site f statics) n i ≡ Some c →
        Every (λ d. flat_clock Y c.path (declared_clock c.node d.name) ≡ flat_clock Y here.path k)
        c.node.inputs
    IsClockKnown k n e = Unit {0}

    abbrev pub AreClocksKnown : List Occurrence → Type 0
    AreClocksKnown os =
        Every (λ o.
        IsClockKnown o.clock o.calls_before o.expr
        × IsRunning Y P H same IsAt Under Left here o.clock o.calls_before o.expr) os

    -- the elements of an instance that is called have their numbers
    abbrev IsCounted : Instance → Type 0
    IsCounted c =
        AreNumbered Y P H same IsAt Under Left here c
        × AreDeclared Y P H same IsAt Under Left c c.node.inputs

    abbrev IsSited : ℕ → Expr → Type 0
    IsSited n e = (s : Site) → own_site e ≡ Some s → OfCalled P here IsCounted (n, s)

    linkable_at :
        (k : Clock) (n : ℕ) (e : Expr) → IsSited n e → IsClockKnown k n e →
        IsLinkable Y P H same IsAt Under Left here k n e
    linkable_at k n (Current a) h c = c
    linkable_at k n (When a x sign) h c = c
    linkable_at k n (Call f statics es) h c =
        let z = h _ refl in λ callee e. (z.1 0 z.0 callee e).0
    linkable_at k n (Iterate it (Node_named f statics) m es) h c =
        let z = h _ refl in (z.0, λ i lt callee e. (z.1 i lt callee e).0)
    linkable_at k n _ h c = tt

  module _ (here : Instance) (variables_wide : AreVariablesWide P H here here)
      (numbered : AreNumbered Y P H same IsAt Under Left here here) where
    passed_at :
        (k : Clock) (n : ℕ) (e : Expr) → IsSited here n e → IsClockKnown here k n e →
        IsPassed Y P H same IsAt Under Left here variables_wide numbered k n e
    passed_at k n (Call f statics es) h c =
        let z = h _ refl in λ callee e. (c callee e, (z.1 0 z.0 callee e).1)
    passed_at k n (Iterate it (Node_named f statics) m es) h c =
        let z = h _ refl in λ i lt callee e. (c i lt callee e, (z.1 i lt callee e).1)
    passed_at k n _ h c = tt

  -- ## All instances

  counted : (here : Instance) → Every (IsCounted here) (instances P)
  counted here =
      Every-from (IsCounted here) (instances P) (λ c j. (
        elements_numbered P accepted c j,
        Every-first _ c.node.inputs (c.node.outputs ++ c.node.locals)
            (elements_declared P accepted c j),
      ))

  entered : Every (IsEntered P) (instances P)
  entered = all_entered P 0 (instances P) (instantiation_kept P accepted)

  sited :
      (here : Instance) → In here (instances P) →
      Every (λ o. IsSited here o.calls_before o.expr) (node_occurrences P here.node)
  sited here j =
      let sizes = Every-at (IsEntered P) (instances P) here entered j in
      let below = Every-at (λ i. Every (IsCounted here) (children P i)) (instances P) here
      (all_children P (IsCounted here) (Every-both (λ c. level P c.path ≤ 64) (IsCounted here)
      (instances P) (Every-map _ _ (λ c h. h.0) (instances P) entered) (counted here))) j in
      let called = all_called P (IsCounted here) here below sizes.1 in
      Every-map _ _
      (λ o stands s is. Every-at (OfCalled P here (IsCounted here))
      (numbered_sites 0 (node_sites here.node)) (o.calls_before, s) called (stands s is))
      (node_occurrences P here.node) (node_calls P here.node).stand

  -- an iterator has at least one instance
  pub positive :
      (here : Instance) → In here (instances P) → (k : Clock) (n : ℕ) (it : ArrayIterator)
      (f : Name) (statics : List Static) (m : Static) (es : Exprs) →
      In (at k n (Iterate it (Node_named f statics) m es)) (node_occurrences P here.node) →
      0 < number P here m
  positive here j k n it f statics m es i =
      let o = at k n (Iterate it (Node_named f statics) m es) in
      let of_site : IsSited here n (Iterate it (Node_named f statics) m es) =
      Every-at (λ (o : Occurrence). IsSited here o.calls_before o.expr)
      (node_occurrences P here.node) o (sited here j) i in
      (of_site _ refl).0

  -- where the clocks of all occurrences are known, so is what the copies of an instance need
  pub all_sourced :
      ((here : Instance) → In here (instances P) →
      AreClocksKnown here (node_occurrences P here.node)) →
      Every (IsSourced Y P H same IsAt Under Left) (instances P)
  all_sourced clocks =
      Every-from (IsSourced Y P H same IsAt Under Left) (instances P) (λ here j.
      let own = wide here j in
      let numbered = elements_numbered P accepted here j in
      let os = node_occurrences P here.node in
      let of_types = occurrences_at P accepted checked H here j
      (calls_wide P accepted H wide here j) in
      let passed = λ (o : Occurrence).
      IsPassed Y P H same IsAt Under Left here own numbered o.clock o.calls_before o.expr in
      let places = λ (o : Occurrence). IsSited here o.calls_before o.expr in
      let known = λ (o : Occurrence).
      IsClockKnown here o.clock o.calls_before o.expr
      × IsRunning Y P H same IsAt Under Left here o.clock o.calls_before o.expr in
      let both = Every-both places known os (sited here j) (clocks here j) in
      record {
        wide = own;
        numbered = numbered;
        typed = statements_typed P checked here j;
        known = Every-map (λ o. IsTypedAt P H here o × (places o × known o))
            (IsKnown Y P H same IsAt Under Left here)
            (λ o h. record {
              typed = h.0;
              linkable = linkable_at here o.clock o.calls_before o.expr h.1.0 h.1.1.0;
              running = h.1.1.1;
            }) os (Every-both (IsTypedAt P H here) (λ o. places o × known o) os of_types both);
        passed = Every-map (λ o. places o × known o) passed
            (λ o h. passed_at here own numbered o.clock o.calls_before o.expr h.0 h.1.0) os both;
      })

-- The copies of an accepted program whose rules hold, and what the observer receives, are the
-- definitions of its variables by statements, calls and the observer.

module _ (P : Program) (accepted : static_refusal P ≡ None) (checked : check_refusal P ≡ None)
    (observer_wide :
    IfSome (instance_at P Root) (λ root. IfSome (instance_at P Observer) (λ observer.
    AreAsWide (history_of (layout P) [] []) Observer observer.node.inputs
    (columns_at (history_of (layout P) [] []) Root (root.node.inputs ++ root.node.outputs)))))
    (Under : ℕ → ℕ → Type 0) (Left : ℕ → Type 0)
    (clocks : (here : Instance) → In here (instances P) →
    AreClocksKnown P accepted checked Under Left here (node_occurrences P here.node)) where
  abbrev YN : Layout
  YN = layout P

  abbrev HT : History
  HT = history_of (layout P) [] []

  abbrev IsElementAt : Element → ℕ → Type 0
  IsElementAt y i = slice_get (program_elements P) i ≡ Some y

  abbrev widths : (p : Path) (x : Name) → length (YN.places p x) ≡ length (HT.columns p x)
  widths p x = same P accepted checked Under Left p x

  abbrev Defined : FlatEquation → Definition → Type 0
  Defined q d = IsDefinedBy YN P HT widths IsElementAt Under Left q d

  -- ## The observer

  each_itself :
      (root : Instance) (ds : List Declaration) →
      joined (map (λ d. itself (elements P root d)) ds) ≡ itself (flat_map (elements P root) ds)
  each_itself root [] = refl
  each_itself root (d ∷ ds) =
      cc (
        each_itself root ds,
        map-append (λ x. x ∷ []) (elements P root d)
            (flat_map (elements P root) ds),
      )

  observed_fed :
      (root : Instance) (p : Path) (callee : Node) (cs ds : List Declaration) →
      Every (λ d. Pairs (λ i y. IsElementAt y i) (YN.places Root d.name) (elements P root d)) ds →
      AreAsWide HT p cs (columns_at HT Root ds) →
      AreFed YN P HT widths IsElementAt Under Left p callee cs (map (λ d. YN.places Root d.name) ds)
      (map (λ d. itself (elements P root d)) ds)
  observed_fed root p callee [] [] h w = tt
  observed_fed root p callee [] (d ∷ ds) h w = absurd w
  observed_fed root p callee (c ∷ cs) [] h w = absurd w
  observed_fed root p callee (c ∷ cs) (d ∷ ds) h w = (
    (
      variable_links IsElementAt Under Left _ _ _ h.0,
      widths p c.name ∙ (w.0 ∙ sym (widths Root d.name)),
    ),
    observed_fed root p callee cs ds h.1 w.1,
  )

  observer_matched :
      (o q : Option Instance) → instance_at P Root ≡ o → instance_at P Observer ≡ q →
      IfSome o (λ root. IfSome q (λ observer.
      AreAsWide HT Observer observer.node.inputs
      (columns_at HT Root (root.node.inputs ++ root.node.outputs)))) →
      AreMatched Defined (observed YN o q) (observer_definitions P o q)
  observer_matched None q is also w = matched-none Defined
  observer_matched (Some root) None is also w = matched-none Defined
  observer_matched (Some root) (Some observer) is also w =
      let kept = instantiation_kept P accepted in
      let ins = root.node.inputs in
      let outs = root.node.outputs in
      let locals = root.node.locals in
      let of_root = path_is P Root root is in
      let of_observer = path_is P Observer observer also in
      let declared = elements_declared P accepted root (in_instances P kept Root root is) in
      let seen : Every (λ d. Pairs (λ i y. IsElementAt y i) (YN.places Root d.name) (elements P root d))
      (ins ++ (outs ++ locals)) =
      subst (λ p. Every (λ d. Pairs (λ i y. IsElementAt y i) (YN.places p d.name) (elements P root d))
      (ins ++ (outs ++ locals))) of_root declared in
      let some = Every-append _ ins outs (Every-first _ ins (outs ++ locals) seen)
      (Every-first _ outs locals (Every-second _ ins (outs ++ locals) seen)) in
      let own = Every-first _ observer.node.inputs (observer.node.outputs ++ observer.node.locals)
      (elements_declared P accepted observer (in_instances P kept Observer observer also)) in
      let fed = observed_fed root Observer observer.node observer.node.inputs (ins ++ outs) some w
      in
      let paired = received_paired YN P HT widths IsElementAt Under Left observer observer.node
      observer.node.inputs (observed_places YN root)
      (map (λ d. itself (elements P root d)) (ins ++ outs)) own
      (subst (λ p. AreFed YN P HT widths IsElementAt Under Left p observer.node observer.node.inputs
      (observed_places YN root) (map (λ d. itself (elements P root d)) (ins ++ outs)))
      (sym of_observer) fed) in
      let moved = subst (λ p. Pairs Defined
      (received YN observer.node p observer.node.inputs (observed_places YN root))
      (defined_as (flat_map (elements P observer) observer.node.inputs)
      (joined (map (λ d. itself (elements P root d)) (ins ++ outs))))) of_observer paired in
      matched-pairs Defined
      (received YN observer.node Observer observer.node.inputs (observed_places YN root))
      (defined_as (flat_map (elements P observer) observer.node.inputs)
      (itself (flat_map (elements P root) (ins ++ outs))))
      (subst (λ yss. Pairs Defined
      (received YN observer.node Observer observer.node.inputs (observed_places YN root))
      (defined_as (flat_map (elements P observer) observer.node.inputs) yss))
      (each_itself root (ins ++ outs)) moved)

  -- ## All copies

  abbrev final : State
  final = emit_instances YN P (before_instances (length (program_elements P))) (instances P)

  -- the definitions of variables by statements, calls and the observer
  abbrev pub made : List Definition
  made =
      flat_map (made_by YN P HT widths IsElementAt Under Left) (instances P)
      ++ observer_definitions P (instance_at P Root) (instance_at P Observer)

  abbrev pub all_copies : List FlatEquation
  all_copies = observed YN (instance_at P Root) (instance_at P Observer) ++ final.copies

  -- each copy is a definition in `made`, and each definition in `made` has its copy
  pub copies_defined :
      AllMeet IsElementAt Under Left final.equations → AreMatched Defined all_copies made
  copies_defined met =
      let sourced = all_sourced P accepted checked Under Left clocks in
      let a = instances_defined YN P HT widths IsElementAt Under Left
      (before_instances (length (program_elements P))) (instances P) sourced met in
      let of_instances = subst (λ qs. AreMatched Defined qs
      (flat_map (made_by YN P HT widths IsElementAt Under Left) (instances P))) (sym a.copies) a.matched in
      matched-crossed Defined (observed YN (instance_at P Root) (instance_at P Observer))
      final.copies (observer_definitions P (instance_at P Root) (instance_at P Observer))
      (flat_map (made_by YN P HT widths IsElementAt Under Left) (instances P))
      (observer_matched (instance_at P Root) (instance_at P Observer) refl refl observer_wide)
      of_instances

  wider : (d : Definition) (xs ys zs : List Definition) → In d (xs ++ ys) → In d (xs ++ (ys ++ zs))
  wider d xs ys zs i = by (in_either d xs ys i)
    where
      by : In d xs ⊎ In d ys → In d (xs ++ (ys ++ zs))
      by (inl j) = in_first d xs (ys ++ zs) j
      by (inr j) = in_second d xs (ys ++ zs) (in_first d ys zs j)

  -- the definitions in `made` are definitions of the program
  pub made_in : (d : Definition) → In d made → In d (definitions P)
  made_in d i =
      by (in_either d (flat_map (made_by YN P HT widths IsElementAt Under Left) (instances P))
      (observer_definitions P (instance_at P Root) (instance_at P Observer)) i)
    where
      of_instances :
          In d (flat_map (made_by YN P HT widths IsElementAt Under Left) (instances P)) →
          In d (flat_map (definitions_at P) (instances P))
      of_instances j =
          let p = of_pieces (made_by YN P HT widths IsElementAt Under Left) d (instances P) j in
          let here = p.source in
          to_pieces (definitions_at P) d here (instances P) p.is_in
          (wider d
          (flat_map (λ s. equation_definitions P here s.0 s.1) (statements P here.node))
          (flat_map (λ o. call_definitions P here o.calls_before o.expr)
          (node_occurrences P here.node))
          (flat_map (clock_definitions P here) (variables here.node)) p.holds)

      by :
          In d (flat_map (made_by YN P HT widths IsElementAt Under Left) (instances P))
          ⊎ In d (observer_definitions P (instance_at P Root) (instance_at P Observer)) →
          In d (definitions P)
      by (inl j) =
          in_first d (flat_map (definitions_at P) (instances P))
          (observer_definitions P (instance_at P Root) (instance_at P Observer)) (of_instances j)
      by (inr j) =
          in_second d (flat_map (definitions_at P) (instances P))
          (observer_definitions P (instance_at P Root) (instance_at P Observer)) j
