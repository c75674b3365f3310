-- The widths of an accepted program, its observer among them, and the number of its elements.
use Rattle.lb_expand.proofs.Words
use Words.{DataType, Declaration, Every, Every-at, Every-from, History, IfSome, Inputs, Instance}
use Words.{Kind, Layout, List, Name, None, Observer, Option, Path, Program, Root, Some, Stream, []}
use Words.{all_some, all_typed, and_first, and_second, ap, ap₂, arith, check_refusal, column}
use Words.{columns_at, either_or, element_count, expanded, fits_observer, flat_map}
use Words.{has_plain_clocks, has_property, heads_same, history_of, in_instances, input_kinds}
use Words.{input_types, instance_at, instances, instantiation_kept, is_root, is_small, layout}
use Words.{length, length-map, listed, map, nat_le, nat_tests, node_occurrences, option_map}
use Words.{path_is, pieces_count, program_elements, refl, same_Some, scalar_elements, signature}
use Words.{size, static_refusal, sym, tails_same, targets, true, variable_type, variables, width, ℕ}
use Words.{◌*◌, ◌++◌, ◌∙◌, ◌∷◌, ◌≡◌, ◌≤◌}
use Rattle.lb_check.proofs.clocking.NamedClocks.{if_some}
use Rattle.lb_expand.proofs.numbering.NumberedPlaces.{found_wide, variables_wide}
use Rattle.lb_expand.proofs.solutions.{Placing.AreAsWide, Solving.{IsProgramSound, IsSound}}
use Rattle.lb_expand.proofs.widths.{ElementBound.{IsCounted, few_elements}, SoundInstances.RunsAt}
use Rattle.lb_expand.proofs.widths.SoundInstances.{calls_wide, instance_sound, occurrences_at}
use Rattle.lb_expand.proofs.widths.TypeFacts.{are_counts, both_there, each, width_of}
use Rattle.lb_expand.proofs.widths.Widths.{AreVariablesWide, IsOccurrenceWide, IsTypedAt}
use Rattle.{lb_expand.specs.Emit.input_targets, lb_flat.proofs.lists.Lists.Every-append}
use Rattle.lb_flat.proofs.lists.Lists.{Every-both, Every-first, Every-in, Every-map, Every-second}
use Rattle.lb_flat.proofs.solutions.StandingRuns.{root_kept}
use Rattle.lb_static.{proofs.ElementNames.length-element_names, specs.DataTypes.element_names}

-- ## The signature

elements_count :
    (x : Name) (o : Option DataType) →
    length {A = Name × Kind} (listed (λ t. map (λ y. (y, t.kind)) (element_names x t.sizes)) o)
    ≡ either_or (option_map element_count o) 0
elements_count x None = refl
elements_count x (Some t) = length-map (element_names x t.sizes) _ ∙ length-element_names x t.sizes

-- a declaration has as many scalars as elements
pub scalars_count :
    (P : Program) (here : Instance) (d : Declaration) →
    length (scalar_elements P here d) ≡ width P here d
scalars_count P here d = elements_count d.name (variable_type P here d)

module _ (Y : Layout) (P : Program) where
  -- the variables of an instance at a root have the elements of their types
  abbrev ArePlaced : Instance → List Declaration → Type 0
  ArePlaced root ds = Every (λ d. length (Y.places Root d.name) ≡ width P root d) ds

  each_count :
      (root : Instance) (ds : List Declaration) → ArePlaced root ds →
      Every (λ d.
      length (targets Y root.node Root d.name) ≡ length (scalar_elements P root d)) ds
  each_count root [] h = tt
  each_count root (d ∷ ds) h = (
    length-map (Y.places Root d.name) _ ∙ h.0 ∙ sym (scalars_count P root d),
    each_count root ds h.1,
  )

  -- the elements of the inputs are as many as the scalar inputs
  pub inputs_count :
      (o : Option Instance) → instance_at P Root ≡ o →
      IfSome o (λ root. ArePlaced root root.node.inputs) →
      IfSome o (λ root. length (input_targets Y root) ≡ length (input_kinds P))
  inputs_count None is h = tt
  inputs_count (Some root) is h =
      pieces_count (λ d. targets Y root.node Root d.name) (scalar_elements P root)
      root.node.inputs (each_count root root.node.inputs h)
      ∙ ap (λ p. length (listed (λ r. flat_map (scalar_elements P r) r.node.inputs) p)) (sym is)
      ∙ sym (length-map (signature P) _)

-- ## The observer

module _ (P : Program) where
  widths_are :
      (c : Instance) (ds : List Declaration) (ts : List DataType) →
      all_some (map (variable_type P c) ds) ≡ Some ts →
      map (width P c) ds ≡ map element_count ts
  widths_are c [] ts e = ap (map element_count) (same_Some [] ts e)
  widths_are c (d ∷ ds) ts e =
      let h = each (variable_type P c d) (map (variable_type P c) ds) ts e in
      ap₂ (λ n ns. n ∷ ns) (width_of P c d h.first h.is) (widths_are c ds h.rest h.others)
      ∙ sym (ap (map element_count) h.all)

  seen_wide :
      (H : History) (o r : Instance) (ds es : List Declaration) →
      map (width P o) ds ≡ map (width P r) es →
      Every (λ d. length (H.columns Observer d.name) ≡ width P o d) ds →
      Every (λ d. length (H.columns Root d.name) ≡ width P r d) es →
      AreAsWide H Observer ds (columns_at H Root es)
  seen_wide H o r [] [] same a b = tt
  seen_wide H o r [] (e ∷ es) same a b = absurd cc
  seen_wide H o r (d ∷ ds) [] same a b = absurd cc
  seen_wide H o r (d ∷ ds) (e ∷ es) same a b = (
    a.0 ∙ heads_same _ _ _ _ same ∙ sym b.0,
    seen_wide H o r ds es (tails_same _ _ _ _ same) a.1 b.1,
  )

  module _ (elaborated : static_refusal P ≡ None) (H : History)
      (wide : Every (λ here. AreVariablesWide P H here here) (instances P)) where
    wide_there :
        (p : Path) (c : Instance) → instance_at P p ≡ Some c →
        Every (λ d. length (H.columns p d.name) ≡ width P c d) (variables c.node)
    wide_there p c is =
        let own = Every-in (λ here. AreVariablesWide P H here here) c _ wide
        (in_instances P (instantiation_kept P elaborated) p c is) in
        rw (← (path_is P p c is)) own

    observer_fits :
        (root observer : Instance) → instance_at P Root ≡ Some root →
        instance_at P Observer ≡ Some observer → fits_observer P root observer ≡ true
    observer_fits root observer is also =
        let keeps : is_root P root ≡ true = cc (root_kept P elaborated) in
        let later = and_second (has_plain_clocks P root) _ keeps in
        let property = and_second (nat_le (length (signature P)) 1023) _ later in
        let all : has_property P root (Some observer) ≡ true = cc in
        and_first (fits_observer P root observer) _ (and_second (has_plain_clocks P observer) _ all)

    abbrev IsSeen : Instance → Instance → Type 0
    IsSeen root observer =
        AreAsWide H Observer observer.node.inputs
        (columns_at H Root (root.node.inputs ++ root.node.outputs))

    one_seen :
        (root observer : Instance) → instance_at P Root ≡ Some root →
        instance_at P Observer ≡ Some observer → IsSeen root observer
    one_seen root observer is also =
        let ins = root.node.inputs in
        let outs = root.node.outputs in
        let locals = root.node.locals in
        let t = both_there P (input_types P observer)
        (all_some (map (variable_type P root) (ins ++ outs))) (observer_fits root observer is also)
        in
        let shown = wide_there Root root is in
        let sees = wide_there Observer observer also in
        seen_wide H observer root observer.node.inputs (ins ++ outs)
        (widths_are observer observer.node.inputs t.right t.is_right
        ∙ are_counts t.right t.left t.same ∙ sym (widths_are root (ins ++ outs) t.left t.is_left))
        (Every-first _ observer.node.inputs (observer.node.outputs ++ observer.node.locals) sees)
        (Every-append _ ins outs (Every-first _ ins (outs ++ locals) shown)
        (Every-first _ outs locals (Every-second _ ins (outs ++ locals) shown)))

    -- the observer's inputs are as wide as what it observes
    pub observer_wide :
        IfSome (instance_at P Root) (λ root. IfSome (instance_at P Observer) (IsSeen root))
    observer_wide =
        if_some (λ root. IfSome (instance_at P Observer) (IsSeen root)) _ (λ root is. if_some
        (IsSeen root) _ (λ observer also. one_seen root _ is also))

-- ## A whole program

module _ (P : Program) (elaborated : static_refusal P ≡ None)
    (checked : check_refusal P ≡ None) where
  module _ (H : History)
      (wide : Every (λ here. AreVariablesWide P H here here) (instances P)) where
    -- the calls of all instances are as wide as their types
    pub all_wide :
        Every (λ here. Every (IsOccurrenceWide P H here) (node_occurrences P here.node))
        (instances P)
    all_wide =
        Every-from (λ here. Every (IsOccurrenceWide P H here) (node_occurrences P here.node))
        (instances P)
        (λ here i.
        calls_wide P elaborated H
        (λ c j. Every-at (λ c. AreVariablesWide P H c c) (instances P) c wide j) here i)

    -- all occurrences of all instances are typed, with the widths of their types
    typed_at :
        Every (λ here. Every (IsTypedAt P H here) (node_occurrences P here.node)) (instances P)
    typed_at =
        Every-from (λ here. Every (IsTypedAt P H here) (node_occurrences P here.node)) (instances P)
        (λ here i. occurrences_at P elaborated checked H here i
        (Every-at (λ here. Every (IsOccurrenceWide P H here) (node_occurrences P here.node))
        (instances P) here all_wide i))

    -- the program is sound, where a layout gives the inputs of the node under test their elements
    pub sound_where_wide :
        (Y : Layout) →
        Every (λ here. Every (RunsAt Y P H here) (node_occurrences P here.node)) (instances P) →
        IfSome (instance_at P Root) (λ root.
        Every (λ d. length (Y.places Root d.name) ≡ width P root d) root.node.inputs) →
        IsProgramSound Y P H
    sound_where_wide Y runs placed = record {
      instances =
          Every-map _ (IsSound Y P H)
          (λ here z. instance_sound Y P H here z.0.0 z.0.1 z.1.0.0 z.1.0.1 z.1.1) (instances P)
          (Every-both _ _ (instances P)
          (Every-both _ _ (instances P) wide (all_typed P checked))
          (Every-both _ _ (instances P) (Every-both _ _ (instances P) all_wide typed_at) runs));
      inputs = inputs_count Y P (instance_at P Root) refl placed;
      observer = observer_wide P elaborated H wide;
    }

  module _ (Y : Layout)
      (placed : Every (λ here. Every (λ d. length (Y.places here.path d.name) ≡ width P here d)
      (variables here.node)) (instances P))
      (runs : (H : History) →
      Every (λ here. Every (RunsAt Y P H here) (node_occurrences P here.node)) (instances P)) where
    -- the variables of all instances are as wide as their types in the history of any streams
    pub history_wide :
        (X : Inputs) (F : List Stream) →
        Every (λ here. AreVariablesWide P (history_of Y X F) here here) (instances P)
    history_wide X F =
        Every-map _ (λ here. AreVariablesWide P (history_of Y X F) here here)
        (λ here h. Every-map _ (λ d. length (map (column X F) (Y.places here.path d.name))
        ≡ width P here d)
        (λ d w. length-map (Y.places here.path d.name) (column X F) ∙ w) (variables here.node) h)
        (instances P) placed

    inputs_placed :
        IfSome (instance_at P Root) (λ root.
        Every (λ d. length (Y.places Root d.name) ≡ width P root d) root.node.inputs)
    inputs_placed =
        if_some (λ root. Every (λ d. length (Y.places Root d.name) ≡ width P root d)
        root.node.inputs) _ (λ root is.
        let own = Every-in _ root _ placed (in_instances P (instantiation_kept P elaborated) Root
        root is) in
        Every-first _ root.node.inputs (root.node.outputs ++ root.node.locals)
        (rw (← (path_is P Root root is)) own))

    -- the program is sound in the history of any streams
    pub program_sound : (X : Inputs) (F : List Stream) → IsProgramSound Y P (history_of Y X F)
    program_sound X F =
        sound_where_wide _ (history_wide X F) Y (runs (history_of Y X F)) inputs_placed

-- The observer of an accepted program has inputs as wide as what it observes, in the history of any
-- streams in the layout by numbers.

-- the observer's inputs are as wide as what it observes
pub observer_wide_in :
    (P : Program) → static_refusal P ≡ None → (X : Inputs) (F : List Stream) →
    IfSome (instance_at P Root) (λ root. IfSome (instance_at P Observer) (λ observer.
    AreAsWide (history_of (layout P) X F) Observer observer.node.inputs
    (columns_at (history_of (layout P) X F) Root (root.node.inputs ++ root.node.outputs))))
observer_wide_in P accepted X F =
    observer_wide P accepted (history_of (layout P) X F) (variables_wide P accepted X F)

-- The elements of the flat program of an accepted program, in the layout by numbers, are few: at
-- most five times as many as the size of the program, so that a small program has few numbers.

module _ (P : Program) (accepted : static_refusal P ≡ None) (checked : check_refusal P ≡ None)
  where
    -- the flat program has at most five times as many elements as the size of the program
    pub program_few : (expanded (layout P) P (length (program_elements P))).size ≤ 5 * size P
    program_few =
        let nothing = history_of (layout P) [] [] in
        few_elements P (layout P) (λ here. IsOccurrenceWide P nothing here) checked
        (all_wide P accepted checked nothing (variables_wide P accepted [] []))
        (Every-from (IsCounted P (layout P) (λ here. IsOccurrenceWide P nothing here)) (instances P)
        (λ here i k n s e ts typed w.
        found_wide P accepted [] [] here i k n s e ts typed w))

    -- the flat program of a small program has at most 5 * 65,536 elements
    pub small_few :
        is_small P ≡ true →
        (expanded (layout P) P (length (program_elements P))).size ≤ 5 * 65536
    small_few small =
        by (size P) (expanded (layout P) P (length (program_elements P))).size program_few small
      where
        by : (n m : ℕ) → m ≤ 5 * n → nat_le n 65536 ≡ true → m ≤ 5 * 65536
        by n m few e = grind (arith, nat_tests)
