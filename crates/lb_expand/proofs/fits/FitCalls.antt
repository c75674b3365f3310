-- The inputs of what is called are copies that fit, and what it gives is on the clock of the call.
use Rattle.lb_expand.proofs.Words
use Words.{ArrayIterator, Child, DataType, Declaration, Every, Exprs, Fill, FlatClock, Instance}
use Words.{Kind, Layout, List, Map, Name, Node, Node_named, None, Option, Program, Red, Some}
use Words.{Static, [], accumulated, all_some, and_first, and_second, ap, are_types, arith, array_of}
use Words.{call_copies, copied, declared_clock, flat_clock, flat_map, gathered, heads_same, is_type}
use Words.{iterated, iterator_copies, iterator_inputs, iterator_types, last_of, listed, map}
use Words.{node_named, operator_types, outputs_of, part, range_with_len, received, refl, same_Some}
use Words.{subst, suc, sym, tails_same, targets, true, truly, variable_type, where_true, zero, ℕ}
use Words.{◌&&◌, ◌++◌, ◌+◌, ◌-◌, ◌<◌, ◌∙◌, ◌∷◌, ◌≡◌}
use Rattle.{lb_check.specs.Clocks.Clock, lb_expand.proofs.fits.FitWords.{AllFit, AreOn}}
use Rattle.lb_expand.proofs.fits.FitWords.{AreVariablesOn, IsCallOn, IsCalleeOn, IsFit}
use Rattle.lb_expand.proofs.fits.FitWords.{IsIteratorOn, IsVariableOn, Sorts, copy_fit, seen_clock}
use Rattle.lb_expand.proofs.fits.KindFacts.{array_kind, type_kind, variable_kind}
use Rattle.lb_expand.proofs.widths.TypeFacts.{bound, each, types_first, types_left, types_missing}
use Rattle.lb_expand.proofs.widths.Widths.{called, placed}
use Rattle.lb_flat.proofs.lists.Lists.{Every-append, Every-drop, Every-first, Every-of_pieces}
use Rattle.lb_flat.proofs.lists.Lists.{Every-of_range, Every-second, Every-take}

pub nothing_same : {A : Type 0} {B : Type 0} (x : A) (xs : List A) → [] ≡ x ∷ xs → B
nothing_same x xs e = absurd cc

module _ (S : Sorts) (Y : Layout) (P : Program) where
  pub as_kind : (k : FlatClock) (c d : Kind) (is : List ℕ) → c ≡ d → AreOn S k c is → AreOn S k d is
  as_kind k c d is e h = subst (λ b. AreOn S k b is) e h

  pub as_clock :
      (k l : FlatClock) (c : Kind) (is : List ℕ) → k ≡ l → AreOn S k c is → AreOn S l c is
  as_clock k l c is e h = subst (λ m. AreOn S m c is) e h

  -- ## Copies

  pub copied_fit :
      (k : FlatClock) (c : Kind) (places js : List ℕ) → AreOn S k c places → AreOn S k c js →
      AllFit S (copied (map (λ i. record { place = i; clock = k }) places) js)
  copied_fit k c [] js p q = tt
  copied_fit k c (i ∷ is) [] p q = tt
  copied_fit k c (i ∷ is) (j ∷ js) p q = (copy_fit S k c i j p.0 q.0, copied_fit k c is js p.1 q.1)

  module _ (here : Instance) where
    -- the elements that inputs receive, on the clocks of an instance and of the kinds of the inputs
    abbrev pub AreGiven : (Declaration → Clock) → List Declaration → List (List ℕ) → Type 0
    AreGiven at [] iss = Unit {0}
    AreGiven at (d ∷ ds) [] = Unit {0}
    AreGiven at (d ∷ ds) (is ∷ iss) =
        AreOn S (flat_clock Y here.path (at d)) d.kind is × AreGiven at ds iss

    pub received_fit :
        (c : Instance) (at : Declaration → Clock) (ds : List Declaration) (iss : List (List ℕ)) →
        Every (IsVariableOn S Y P c) ds →
        Every (λ d.
        flat_clock Y c.path (declared_clock c.node d.name) ≡ flat_clock Y here.path (at d)) ds →
        AreGiven at ds iss → AllFit S (received Y c.node c.path ds iss)
    received_fit c at [] iss v e g = tt
    received_fit c at (d ∷ ds) [] v e g = tt
    received_fit c at (d ∷ ds) (is ∷ iss) v e g =
        Every-append (IsFit S) (copied (targets Y c.node c.path d.name) is)
        (received Y c.node c.path ds iss) (copied_fit _ _ _ is v.0.elements
        (as_clock _ _ _ is (sym e.0) g.0)) (received_fit c at ds iss v.1 e.1 g.1)

    -- ## Arguments

    -- arguments each on a clock of its own, of the kinds of these types
    abbrev pub AreArguments : List Clock → List DataType → List (List ℕ) → Type 0
    AreArguments (k ∷ ks) (t ∷ ts) (is ∷ iss) =
        AreOn S (flat_clock Y here.path k) t.kind is × AreArguments ks ts iss
    AreArguments _ _ _ = Unit {0}

    -- arguments on one clock, of the kinds of these types
    abbrev pub AllOn : Clock → List DataType → List (List ℕ) → Type 0
    AllOn k [] [] = Unit {0}
    AllOn k [] (is ∷ iss) = ⊥
    AllOn k (t ∷ ts) [] = ⊥
    AllOn k (t ∷ ts) (is ∷ iss) = AreOn S (flat_clock Y here.path k) t.kind is × AllOn k ts iss

    module _ (c : Instance) where
      abbrev AreTypes : List Declaration → List DataType → Type 0
      AreTypes ds us = all_some (map (variable_type P c) ds) ≡ Some us

      -- arguments that have the types of the inputs
      arguments_given :
          (at : Declaration → Clock) (ds : List Declaration) (us args : List DataType)
          (iss : List (List ℕ)) → AreTypes ds us → are_types us args ≡ true →
          AreArguments (map at ds) args iss → AreGiven at ds iss
      arguments_given at [] us args iss o same g = tt
      arguments_given at (d ∷ ds) us args [] o same g = tt
      arguments_given at (d ∷ ds) us [] (is ∷ iss) o same g =
          types_left (each (variable_type P c d) (map (variable_type P c) ds) us o).all refl same
      arguments_given at (d ∷ ds) us (t ∷ args) (is ∷ iss) o same g =
          let h = each (variable_type P c d) (map (variable_type P c) ds) us o in
          let fit = types_first h.all refl same in (
            as_kind _ _ _ is (sym (type_kind _ t fit.0) ∙ variable_kind P c d _ h.is) g.0,
            arguments_given at ds h.rest args iss h.others fit.1 g.1,
          )

      -- arguments of exactly these types on one clock
      all_given :
          (k : Clock) (ds : List Declaration) (us : List DataType) (iss : List (List ℕ)) →
          AreTypes ds us → AllOn k us iss → AreGiven (λ d. k) ds iss
      all_given k [] us iss o g = tt
      all_given k (d ∷ ds) us [] o g = tt
      all_given k (d ∷ ds) us (is ∷ iss) o g =
          let h = each (variable_type P c d) (map (variable_type P c) ds) us o in
          let all = subst (λ vs. AllOn k vs (is ∷ iss)) h.all g in (
            as_kind _ h.first.kind d.kind is (variable_kind P c d h.first h.is) all.0,
            all_given k ds h.rest iss h.others all.1,
          )

      -- ## The inputs and outputs of instances

      -- the outputs of `m` instances are on one clock and of their declared kinds
      abbrev pub AreOutputsOn : Clock → (ℕ → Name → List ℕ) → ℕ → List Declaration → Type 0
      AreOutputsOn k outputs m ds =
          (i : ℕ) → i < m →
          Every (λ d. AreOn S (flat_clock Y here.path k) d.kind (outputs i d.name)) ds

      first_on :
          (k : Clock) (outputs : ℕ → Name → List ℕ) (m j : ℕ) → j < m →
          (ds : List Declaration) (u : DataType) (us : List DataType) (init : List ℕ) →
          AreOutputsOn k outputs m ds → AreTypes ds (u ∷ us) →
          AreOn S (flat_clock Y here.path k) u.kind (accumulated outputs ds init (suc j))
      first_on k outputs m j lt [] u us init w o = nothing_same u us (same_Some _ _ o)
      first_on k outputs m j lt (d ∷ ds) u us init w o =
          let h = each (variable_type P c d) (map (variable_type P c) ds) (u ∷ us) o in
          let same : u ≡ h.first = heads_same _ _ _ _ h.all in
          as_kind _ d.kind u.kind (outputs j d.name)
          (sym (ap (λ (v : DataType). v.kind) same ∙ variable_kind P c d h.first h.is)) (w j lt).0

      accumulator_on :
          (k : Clock) (outputs : ℕ → Name → List ℕ) (m i : ℕ) → i < m →
          (ds : List Declaration) (u : DataType) (us : List DataType) (init : List ℕ) →
          AreOn S (flat_clock Y here.path k) u.kind init → AreOutputsOn k outputs m ds →
          AreTypes ds (u ∷ us) →
          AreOn S (flat_clock Y here.path k) u.kind (accumulated outputs ds init i)
      accumulator_on k outputs m zero lt [] u us init p w o = p
      accumulator_on k outputs m zero lt (d ∷ ds) u us init p w o = p
      accumulator_on k outputs m (suc j) lt ds u us init p w o =
          first_on k outputs m j (omega arith) ds u us init w o

      -- the parts of arrays
      parts_on :
          (k : Clock) (n m i : ℕ) (ins wanted args : List DataType) (iss : List (List ℕ)) →
          all_some (map (array_of n) ins) ≡ Some wanted → are_types wanted args ≡ true →
          AllOn k args iss → AllOn k ins (map (part m i) iss)
      parts_on k n m i [] wanted [] [] o same g = tt
      parts_on k n m i [] wanted [] (is ∷ iss) o same g = absurd g
      parts_on k n m i [] wanted (t ∷ args) iss o same g =
          types_missing (sym (same_Some _ _ o)) refl same
      parts_on k n m i (u ∷ ins) wanted [] iss o same g =
          types_left (each (array_of n u) (map (array_of n) ins) wanted o).all refl same
      parts_on k n m i (u ∷ ins) wanted (t ∷ args) [] o same g = absurd g
      parts_on k n m i (u ∷ ins) wanted (t ∷ args) (is ∷ iss) o same g =
          let h = each (array_of n u) (map (array_of n) ins) wanted o in
          let fit = types_first h.all refl same in (
            Every-take _ _ _ (Every-drop _ _ is (as_kind _ t.kind u.kind is
                (sym (array_kind n u h.first h.is ∙ type_kind h.first t fit.0)) g.0)),
            parts_on k n m i ins h.rest args iss h.others fit.1 g.1,
          )

      inputs_on :
          (k : Clock) (outputs : ℕ → Name → List ℕ) (n m i : ℕ) → i < m → (it : ArrayIterator)
          (ds : List Declaration) (ins outs args ts : List DataType) (iss : List (List ℕ)) →
          AreOutputsOn k outputs m ds → AreTypes ds outs →
          iterator_types it n ins outs args ≡ Some ts → AllOn k args iss →
          AllOn k ins (iterator_inputs outputs m it ds iss i)
      inputs_on k outputs n m i lt Map ds ins outs args ts iss w o e g =
          let wanted = bound (all_some (map (array_of n) ins)) _ ts e in
          let b = bound (where_true (are_types wanted.value args) outs) _ ts wanted.gives in
          let t = truly (are_types wanted.value args) outs b.value b.is in
          parts_on k n m i ins _ args iss wanted.is t.holds g
      inputs_on k outputs n m i lt Red ds (a ∷ ins) (u ∷ []) (t ∷ args) ts [] w o e g = absurd g
      inputs_on k outputs n m i lt Red ds (a ∷ ins) (u ∷ []) (t ∷ args) ts (x ∷ iss) w o e g =
          let wanted = bound (all_some (map (array_of n) ins)) _ ts e in
          let arrays = are_types wanted.value args in
          let fit = truly (is_type a u && (is_type a t && arrays)) (u ∷ []) ts wanted.gives in
          let inner = and_second (is_type a u) (is_type a t && arrays) fit.holds in
          let out = type_kind a u (and_first (is_type a u) (is_type a t && arrays) fit.holds) in
          let initial = type_kind a _ (and_first (is_type a t) arrays inner) in (
            as_kind _ _ _ _ (sym out) (accumulator_on k outputs m i lt ds u [] x
                (as_kind _ _ _ x (sym initial ∙ out) g.0) w o),
            parts_on k n m i ins _ args iss wanted.is (and_second (is_type a t) arrays inner) g.1,
          )
      inputs_on k outputs n m i lt Fill ds (a ∷ []) (u ∷ (v ∷ us)) (t ∷ []) ts [] w o e g = absurd g
      inputs_on k outputs n m i lt Fill ds (a ∷ []) (u ∷ (v ∷ us)) (t ∷ []) ts (x ∷ iss) w o e
          g =
          let arrays = bound (all_some (map (array_of n) (v ∷ us))) _ ts e in
          let fit = truly (is_type a u && is_type a t) (u ∷ arrays.value) ts arrays.gives in
          let out = type_kind a u (and_first (is_type a u) (is_type a t) fit.holds) in
          let initial = type_kind a _ (and_second (is_type a u) (is_type a t) fit.holds) in (
            as_kind _ _ _ _ (sym out) (accumulator_on k outputs m i lt ds u _ x
                (as_kind _ _ _ x (sym initial ∙ out) g.0) w o),
            tt,
          )
      inputs_on k outputs n m i lt _ ds _ _ _ ts _ w o e g = cc

    -- ## The copies of a call, and of an iterator

    -- the instance at index `i` of call `n`, and the types of its inputs and outputs
    record IsAt (f : Name) (statics : List Static) (types : List DataType × List DataType)
        (n i : ℕ) : Type 0 where
      callee : Instance
      node : node_named P f ≡ Some callee.node
      path : callee.path ≡ Child here.path n i
      inputs : all_some (map (variable_type P callee) callee.node.inputs) ≡ Some types.0
      outputs : all_some (map (variable_type P callee) callee.node.outputs) ≡ Some types.1
      variables_on : AreVariablesOn S Y P callee

    is_at :
        (f : Name) (statics : List Static) (types : List DataType × List DataType) (n i : ℕ) →
        operator_types P here (Node_named f statics) ≡ Some types →
        IsCalleeOn S Y P here n f statics i → IsAt f statics types n i
    is_at f statics types n i e w =
        let c = called P here f statics types e in
        let p = placed P here f statics c.callee c.is in
        record {
          callee = record c.callee { path = Child here.path n i };
          node = p.node;
          path = refl;
          inputs = c.inputs;
          outputs = c.outputs;
          variables_on = w (record c.callee { path = Child here.path n i }) (p.at n i);
        }

    module _ (f : Name) (statics : List Static) (types : List DataType × List DataType) (n : ℕ)
        (is_operator : operator_types P here (Node_named f statics) ≡ Some types) where
      inputs_of :
          (c : Instance) → AreVariablesOn S Y P c → Every (IsVariableOn S Y P c) c.node.inputs
      inputs_of c v = Every-first _ c.node.inputs (c.node.outputs ++ c.node.locals) v

      pub outputs_in :
          (c : Instance) → AreVariablesOn S Y P c → Every (IsVariableOn S Y P c) c.node.outputs
      outputs_in c v =
          Every-first _ c.node.outputs c.node.locals
          (Every-second _ c.node.inputs (c.node.outputs ++ c.node.locals) v)

      -- the copies of a call
      pub call_fit :
          (k : Clock) (es : Exprs) (args : List DataType) (iss : List (List ℕ)) →
          are_types types.0 args ≡ true → IsCalleeOn S Y P here n f statics 0 →
          ((callee : Node) → node_named P f ≡ Some callee → IsCallOn S Y P here k n es callee) →
          ((callee : Node) → node_named P f ≡ Some callee →
          AreArguments (map (seen_clock S Y P here k es callee) callee.inputs) args iss) →
          AllFit S (call_copies Y (Child here.path n 0) (node_named P f) iss)
      call_fit k es args iss same w clocks given =
          let a = is_at f statics types n 0 is_operator w in
          let node = a.callee.node in
          let own = clocks node a.node in
          let at = seen_clock S Y P here k es node in
          subst (λ o. AllFit S (call_copies Y (Child here.path n 0) o iss)) (sym a.node)
          (subst (λ p. AllFit S (received Y node p node.inputs iss)) a.path
          (received_fit a.callee at node.inputs iss (inputs_of a.callee a.variables_on)
          (subst (λ p. Every (λ d.
          flat_clock Y p (declared_clock node d.name) ≡ flat_clock Y here.path (at d)) node.inputs)
          (sym a.path) own.inputs)
          (arguments_given a.callee at node.inputs types.0 args iss a.inputs same
          (given node a.node))))

      -- the one result of a call
      pub call_found :
          (k : Clock) (es : Exprs) (t : DataType) → types.1 ≡ t ∷ [] →
          IsCalleeOn S Y P here n f statics 0 →
          ((callee : Node) → node_named P f ≡ Some callee → IsCallOn S Y P here k n es callee) →
          AreOn S (flat_clock Y here.path k) t.kind
          (flat_map (λ o. Y.places (Child here.path n 0) o.name) (outputs_of P here f))
      call_found k es t one w clocks =
          subst (λ o. AreOn S (flat_clock Y here.path k) t.kind
          (flat_map (λ (d : Declaration). Y.places (Child here.path n 0) d.name)
          (listed (λ (e : Node). e.outputs) o))) (sym a.node)
          (by a.callee.node.outputs refl (a.outputs ∙ ap Some one)
          (outputs_in a.callee a.variables_on))
        where
          a : IsAt f statics types n 0
          a = is_at f statics types n 0 is_operator w

          by :
              (ds : List Declaration) → a.callee.node.outputs ≡ ds →
              all_some (map (variable_type P a.callee) ds) ≡ Some (t ∷ []) →
              Every (IsVariableOn S Y P a.callee) ds →
              AreOn S (flat_clock Y here.path k) t.kind
              (flat_map (λ o. Y.places (Child here.path n 0) o.name) ds)
          by [] same o v = tt
          by (d ∷ []) same o v =
              let h = each (variable_type P a.callee d) [] (t ∷ []) o in
              let first : t ≡ h.first = heads_same _ _ _ _ h.all in
              let kind = ap (λ (u : DataType). u.kind) first
              ∙ variable_kind P a.callee d h.first h.is in
              let clock = (clocks a.callee.node a.node).result d same in
              let own = subst (λ p. AreOn S (flat_clock Y p (declared_clock a.callee.node d.name))
              d.kind (Y.places p d.name)) a.path v.0.elements in
              Every-append _ (Y.places (Child here.path n 0) d.name) []
              (as_clock _ _ t.kind (Y.places (Child here.path n 0) d.name) clock
              (as_kind _ d.kind t.kind (Y.places (Child here.path n 0) d.name) (sym kind) own)) tt
          by (d ∷ (e ∷ ds)) same o v =
              let h = each (variable_type P a.callee d) (map (variable_type P a.callee) (e ∷ ds))
              (t ∷ []) o in
              let g = each (variable_type P a.callee e) (map (variable_type P a.callee) ds) h.rest
              h.others in
              nothing_same g.first g.rest (tails_same _ _ _ _ h.all ∙ g.all)

      -- ## Iterators

      module _ (k : Clock) (m : ℕ)
          (w : (i : ℕ) → i < m → IsCalleeOn S Y P here n f statics i
          × ((callee : Node) → node_named P f ≡ Some callee → IsIteratorOn S Y P here k n i callee))
        where
          abbrev outputs : ℕ → Name → List ℕ
          outputs i x = Y.places (Child here.path n i) x

          -- the outputs of the instance at index `i` are on the clock of the iterator
          pub outputs_at :
              (c : Instance) → node_named P f ≡ Some c.node → (i : ℕ) → i < m →
              Every (λ d. AreOn S (flat_clock Y here.path k) d.kind (outputs i d.name))
              c.node.outputs
          outputs_at c named i lt =
              let same : a.callee.node ≡ c.node = same_Some _ _ (sym a.node ∙ named) in
              rw (← same) (by a.callee.node.outputs (outputs_in _ a.variables_on) (Every-second _
              a.callee.node.inputs a.callee.node.outputs ((w i lt).1 a.callee.node a.node)))
            where
              a : IsAt f statics types n i
              a = is_at f _ types n i is_operator (w i lt).0

              by :
                  (ds : List Declaration) → Every (IsVariableOn S Y P a.callee) ds →
                  Every (λ d.
                  flat_clock Y (Child here.path n i) (declared_clock a.callee.node d.name)
                  ≡ flat_clock Y here.path k) ds →
                  Every (λ d. AreOn S (flat_clock Y here.path k) d.kind (outputs i d.name)) ds
              by [] v e = tt
              by (d ∷ ds) v e = (
                as_clock _ _ _ _ e.0 (subst (λ p. AreOn S
                    (flat_clock Y p (declared_clock a.callee.node d.name)) d.kind
                    (Y.places p d.name)) a.path v.0.elements),
                by ds v.1 e.1,
              )

          -- the copies of the instance at an index fit
          instance_fit :
              (it : ArrayIterator) (length_in_types i : ℕ) → i < m → (args ts : List DataType)
              (iss : List (List ℕ)) →
              iterator_types it length_in_types types.0 types.1 args ≡ Some ts → AllOn k args iss →
              (callee : Node) → node_named P f ≡ Some callee →
              AllFit S
              (received Y callee (Child here.path n i) callee.inputs
              (iterator_inputs outputs m it callee.outputs iss i))
          instance_fit it number i lt args ts iss e g callee named =
              let a = is_at f statics types n i is_operator (w i lt).0 in
              let node = a.callee.node in
              let same : node ≡ callee = same_Some _ _ (sym a.node ∙ named) in
              let at = λ (d : Declaration). k in
              let given = inputs_on a.callee k outputs number m i lt it node.outputs types.0 types.1
              args ts iss (outputs_at a.callee a.node) a.outputs e g in
              subst (λ (c : Node). AllFit S (received Y c (Child here.path n i) c.inputs
              (iterator_inputs outputs m it c.outputs iss i))) same
              (subst (λ p. AllFit S (received Y node p node.inputs
              (iterator_inputs outputs m it node.outputs iss i))) a.path
              (received_fit a.callee at node.inputs _ (inputs_of a.callee a.variables_on)
              (subst (λ p. Every (λ d.
              flat_clock Y p (declared_clock node d.name) ≡ flat_clock Y here.path k) node.inputs)
              (sym a.path)
              (Every-first _ node.inputs node.outputs ((w i lt).1 node a.node)))
              (all_given a.callee k node.inputs types.0 _ a.inputs given)))

          pub iterator_fit :
              (it : ArrayIterator) (length_in_types : ℕ) (args ts : List DataType)
              (iss : List (List ℕ)) →
              iterator_types it length_in_types types.0 types.1 args ≡ Some ts → AllOn k args iss →
              AllFit S (iterator_copies Y here.path n it m (node_named P f) iss)
          iterator_fit it number args ts iss e g = by (node_named P f) refl
            where
              by :
                  (o : Option Node) → node_named P f ≡ o →
                  AllFit S (iterator_copies Y here.path n it m o iss)
              by None named = tt
              by (Some callee) named =
                  Every-of_pieces (IsFit S) _ (range_with_len 0 m)
                  (Every-of_range _ 0 m (λ i lt.
                  let at : i ≡ 0 + i = omega arith in
                  subst (λ j. AllFit S (received Y callee (Child here.path n j) callee.inputs
                  (iterator_inputs outputs m it callee.outputs iss j))) at
                  (instance_fit it number i lt args ts iss e g callee named)))

          -- the elements of one output of all instances, by instance, are on the clock
          pub output_on :
              (d : Declaration) →
              ((i : ℕ) → i < m → AreOn S (flat_clock Y here.path k) d.kind (outputs i d.name)) →
              AreOn S (flat_clock Y here.path k) d.kind
              (flat_map (λ i. outputs i d.name) (range_with_len 0 m))
          output_on d own =
              Every-of_pieces _ (λ i. outputs i d.name) (range_with_len 0 m)
              (Every-of_range _ 0 m (λ i lt.
              let at : i ≡ 0 + i = omega arith in
              rw (← at) (own i lt)))

          gathered_found :
              (c : Instance) (number : ℕ) (ds : List Declaration) (us : List DataType)
              (t : DataType) → AreOutputsOn c k outputs m ds →
              all_some (map (variable_type P c) ds) ≡ Some us →
              all_some (map (array_of number) us) ≡ Some (t ∷ []) →
              AreOn S (flat_clock Y here.path k) t.kind (gathered outputs m ds)
          gathered_found c number [] us t own o e = tt
          gathered_found c number (d ∷ ds) us t own o e =
              let h = each (variable_type P c d) (map (variable_type P c) ds) us o in
              let arrays = subst (λ vs. all_some (map (array_of number) vs) ≡ Some (t ∷ [])) h.all
              e in
              let g = each (array_of number h.first) (map (array_of number) h.rest) (t ∷ [])
              arrays in
              let first : t ≡ g.first = heads_same _ _ _ _ g.all in
              let kind = ap (λ (u : DataType). u.kind) first
              ∙ sym (array_kind number h.first g.first g.is) ∙ variable_kind P c d h.first h.is in
              Every-append _ _ (gathered outputs m ds)
              (as_kind _ d.kind t.kind _ (sym kind) (output_on d (λ i lt. (own i lt).0)))
              (no_more ds h.rest h.others (g.others ∙ ap Some (sym (tails_same _ _ _ _ g.all))))
            where
              no_more :
                  (ds : List Declaration) (us : List DataType) →
                  all_some (map (variable_type P c) ds) ≡ Some us →
                  all_some (map (array_of number) us) ≡ Some [] →
                  AreOn S (flat_clock Y here.path k) t.kind (gathered outputs m ds)
              no_more [] us o e = tt
              no_more (d ∷ ds) us o e =
                  let h = each (variable_type P c d) (map (variable_type P c) ds) us o in
                  let g = each (array_of number h.first) (map (array_of number) h.rest) []
                  (subst (λ vs. all_some (map (array_of number) vs) ≡ Some []) h.all e) in
                  nothing_same g.first g.rest g.all

          last_found :
              (c : Instance) (ds : List Declaration) (u : DataType) (us : List DataType) → 0 < m →
              AreOutputsOn c k outputs m ds →
              all_some (map (variable_type P c) ds) ≡ Some (u ∷ us) →
              AreOn S (flat_clock Y here.path k) u.kind (last_of outputs m ds)
          last_found c [] u us positive own o = tt
          last_found c (d ∷ ds) u us positive own o =
              let h = each _ _ _ o in
              let first : u ≡ h.first = heads_same _ _ _ _ h.all in
              let kind = ap (λ (v : DataType). v.kind) first ∙ variable_kind P c d _ h.is in
              as_kind _ _ _ _ (sym kind) (own (m - 1) (omega (arith, positive))).0

          instances_found :
              (c : Instance) (it : ArrayIterator) (number : ℕ) (ds : List Declaration)
              (ins outs args ts : List DataType) (t : DataType) → 0 < m →
              AreOutputsOn c k outputs m ds → all_some (map (variable_type P c) ds) ≡ Some outs →
              iterator_types it number ins outs args ≡ Some ts → ts ≡ t ∷ [] →
              AreOn S (flat_clock Y here.path k) t.kind (iterated outputs m it ds)
          instances_found c Map number ds ins outs args ts t positive own o e one =
              let wanted = bound (all_some (map (array_of number) ins)) _ ts e in
              let b = bound (where_true (are_types wanted.value args) outs) _ ts wanted.gives in
              let h = truly (are_types wanted.value args) outs b.value b.is in
              gathered_found c number ds b.value t own (o ∙ ap Some h.same) (b.gives ∙ ap Some one)
          instances_found c Red number ds (a ∷ ins) (u ∷ []) (i ∷ args) ts t positive own o e one =
              let wanted = bound (all_some (map (array_of number) ins)) _ ts e in
              let h = truly _ (u ∷ []) ts wanted.gives in
              let same : u ≡ t = heads_same _ _ _ _ (h.same ∙ one) in
              as_kind _ u.kind t.kind (last_of outputs m ds)
              (ap (λ (v : DataType). v.kind) same) (last_found c ds u [] positive own o)
          instances_found c Fill number ds (a ∷ []) (u ∷ (v ∷ us)) (i ∷ []) ts t positive own o e
              one =
              let arrays = bound (all_some (map (array_of number) (v ∷ us))) _ ts e in
              let g = each (array_of number v) (map (array_of number) us) arrays.value arrays.is in
              let h = truly _ (u ∷ arrays.value) ts arrays.gives in
              nothing_same g.first g.rest (sym (tails_same _ _ _ _ (h.same ∙ one)) ∙ g.all)
          instances_found c _ number ds _ _ _ ts t positive own o e one = cc

          -- the one result of an iterator is on its clock and of the kind of its type
          pub iterator_found :
              (it : ArrayIterator) (number : ℕ) (args ts : List DataType) (t : DataType) →
              iterator_types it number types.0 types.1 args ≡ Some ts → ts ≡ t ∷ [] → 0 < m →
              AreOn S (flat_clock Y here.path k) t.kind
              (iterated outputs m it (outputs_of P here f))
          iterator_found it number args ts t e one positive =
              let c = called P here f statics types is_operator in
              let node = c.callee.node in
              let named = (placed P here f statics c.callee c.is).node in
              subst (λ o. AreOn S (flat_clock Y here.path k) t.kind
              (iterated outputs m it (listed (λ (e : Node). e.outputs) o))) (sym named)
              (instances_found c.callee it number node.outputs types.0 types.1 args ts t positive
              (outputs_at c.callee named) c.outputs e one)
