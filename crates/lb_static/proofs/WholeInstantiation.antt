-- The whole instantiation: the instances below the node under test, and then those below the
-- observer.
use Rattle.std.proofs.Common.{◌≡◌, ℕ, ℤ, true, List, [], ◌∷◌, ◌++◌, map, length, Option, Some, None}
use Rattle.std.proofs.Common.{get_or, option_map, refl, ap, sym, ◌∙◌, subst}
use Rattle.std.specs.Prelude.{slice_get}
use Rattle.std.specs.List.{list_all, zip}
use Rattle.std.proofs.lemmas.List.{append-nil, length-map}
use Rattle.std.proofs.lemmas.List.Elements.{All-get_or}
use Rattle.std.proofs.lemmas.List.Sums.{AllPass-from_list_all}
use Rattle.std.proofs.lemmas.Option.{slice_get-map}
use Rattle.lb_syntax.specs.Lists.{◌>>=◌, listed}
use Rattle.lb_syntax.specs.Tree.{Name, Node}
use Rattle.lb_static.specs.HeldValues.{value_of}
use Rattle.lb_static.specs.Instances.{Program, Instance, Path, Root, Observer, static_value}
use Rattle.lb_static.specs.Instances.{node_named, start_at, instance_at, instances_from, instances}
use Rattle.lb_static.specs.InstanceTable.{instance_of, specialized_at, specialized_instance_at}
use Rattle.lb_static.specs.InstanceTable.{HasStatics, HasStarts}
use Rattle.lb_static.specs.Names.{keeps_names}
use Rattle.lb_static.specs.ReachedNodes.{IsReached, are_linked, tree_at}
use Rattle.lb_static.specs.ResolvedNodes.{counts_of, node_of, statics_of}
use Rattle.lb_static.specs.ResolvedTerms.{is_site_within}
use Rattle.lb_static.specs.StaticValues.{constant_value}
use Rattle.lb_static.specs.Instantiation.{instantiation_refusal}
use Rattle.lb_static.specs.Instantiated.{IsRefusal, AreEntered, AreJudged, IsJudgedAt, IsKnown}
use Rattle.lb_static.specs.Instantiated.{AreSound, IsInstantiable}
use Rattle.lb_static.specs.declared.constants.Constants.{Constants}
use Rattle.lb_static.specs.declared.error.StaticError.{StaticError}
use Rattle.lb_static.specs.declared.reachable.NodeId.{NodeId}
use Rattle.lb_static.specs.declared.reachable.Reached.{Reached}
use Rattle.lb_static.specs.declared.resolved.ResolvedNode.{ResolvedNode}
use Rattle.lb_static.specs.declared.table.Specialization.{Specialization}
use Rattle.lb_static.specs.declared.table.SpecializationId.{SpecializationId}
use Rattle.lb_static.specs.declared.table.Table.{Table}
use Rattle.lb_static.proofs.InstanceCalls.{entered_none, entered_more, refused_later}

pub instantiable : (P : Program) (r : Reached) (c : Constants) → keeps_names P ≡ true
    → IsReached P r
    → value_of c ≡ constant_value P.source.constants (length P.source.constants)
    → IsInstantiable P r c
instantiable P r c names reached values =
    record { names = names; reached = reached; values = values }

-- the numbers of each reached node are within range, and its callees are reached
pub all_sound : (P : Program) (r : Reached) → IsReached P r → AreSound r
all_sound P r w k d below =
    let nodes = r.nodes.items in
    let n = get_or nodes k d in
    let is = w.resolved k d below in
    record {
      declared = is.declared_within;
      calls =
          subst (λ m. list_all (is_site_within m (counts_of n)) n.calls.items ≡ true)
          (length-map P.source.nodes (λ m. m.name) ∙ sym w.as_many) is.calls_within;
      linked = All-get_or (λ m. are_linked r m ≡ true) nodes k d below
          (AllPass-from_list_all (are_linked r) nodes w.linked);
    }

pub none_judged : (P : Program) (r : Reached) (l : List Specialization) → l ≡ [] → AreJudged P r l
none_judged P r l e i s at =
    let no : slice_get [] i ≡ Some s = subst (λ m. slice_get m i ≡ Some s) e at in absurd cc

no_values : (xs : List Name) → zip {X = ℤ} xs [] ≡ []
no_values [] = refl
no_values (x ∷ xs) = refl

started : (p : Path) (n : Node) → record { path = p; node = n; values = [] } ≡ instance_of p n []
started p n = ap (λ vs. record { path = p; node = n; values = vs }) (sym (no_values n.parameters))

module _ (P : Program) (r : Reached) (w : IsReached P r) where
  pub root_is : (n : ResolvedNode) → slice_get r.nodes.items r.root.0 ≡ Some n
      → instance_at P Root ≡ Some (instance_of Root (node_of n) [])
  root_is n at =
      ap (option_map (λ m. record { path = Root; node = m; values = [] }))
      (sym w.root ∙ slice_get-map node_of r.nodes.items r.root.0 ∙ ap (option_map node_of) at)
      ∙ ap (λ (i : Instance). Some i) (started Root (node_of n))

  observer_at : instance_at P Observer
      ≡ option_map (λ m. record { path = Observer; node = m; values = [] })
      (r.observer >>= tree_at r)
  observer_at = by P.observer
      ∙ ap (option_map (λ m. record { path = Observer; node = m; values = [] })) (sym w.observer)
    where
      by : (o : Option Name) → (o >>= start_at P Observer)
          ≡ option_map (λ m. record { path = Observer; node = m; values = [] }) (o >>= node_named P)
      by None = refl
      by (Some x) = refl

  pub observer_is : (id : NodeId) (n : ResolvedNode) → r.observer ≡ Some id
      → slice_get r.nodes.items id.0 ≡ Some n
      → instance_at P Observer ≡ Some (instance_of Observer (node_of n) [])
  observer_is id n e at =
      observer_at
      ∙ ap (option_map (λ m. record { path = Observer; node = m; values = [] }))
      (ap (λ o. o >>= tree_at r) e ∙ slice_get-map node_of r.nodes.items id.0
      ∙ ap (option_map node_of) at)
      ∙ ap (λ (i : Instance). Some i) (started Observer (node_of n))

  pub no_observer : (r.observer >>= tree_at r) ≡ None → instance_at P Observer ≡ None
  no_observer e = observer_at
      ∙ ap (option_map (λ m. record { path = Observer; node = m; values = [] })) e

  -- ## The table

  pub tree_is : (i : ℕ) (n : ResolvedNode) → slice_get r.nodes.items i ≡ Some n
      → slice_get (map node_of r.nodes.items) i ≡ Some (node_of n)
  tree_is i n at = slice_get-map node_of r.nodes.items i ∙ ap (option_map node_of) at

  stands : (p : Path) (t : Table) (node : NodeId) (n : ResolvedNode) (id : SpecializationId)
      → slice_get r.nodes.items node.0 ≡ Some n
      → IsKnown t.specializations.items node [] id
      → specialized_instance_at r t p id ≡ Some (instance_of p (node_of n) [])
  stands p t node n id at k =
      ap (λ o. o >>= specialized_at r p) k.1
      ∙ ap (option_map (λ m. instance_of p m k.0.values.items))
      (ap (tree_at r) k.2 ∙ tree_is node.0 n at)
      ∙ ap (λ vs. Some (instance_of p (node_of n) vs)) k.3

  pub statics_had : (s : Specialization) → IsJudgedAt P r s → HasStatics P r s
  statics_had s judged here is n at =
      let e : Some here ≡ Some (instance_of Root (node_of n) s.values.items) =
      sym is ∙ ap (option_map (λ m. instance_of Root m s.values.items)) (tree_is s.node.0 n at) in
      let same : here ≡ instance_of Root (node_of n) s.values.items = cc in
      subst (λ h. map Some s.statics.items ≡ map (static_value P h) (statics_of n)) (sym same)
      (judged Root n at).evaluated_as

  pub observer_stands : (t : Table) (node : NodeId) (n : ResolvedNode) (id : SpecializationId)
      → r.observer ≡ Some node → slice_get r.nodes.items node.0 ≡ Some n
      → t.observer ≡ Some id → IsKnown t.specializations.items node [] id
      → (t.observer >>= specialized_instance_at r t Observer) ≡ instance_at P Observer
  observer_stands t node n id is at e k = ap (λ o. o >>= specialized_instance_at r t Observer) e
      ∙ stands Observer t node n id at k ∙ sym (observer_is node n is at)

  pub none_stands : (t : Table) → (r.observer >>= tree_at r) ≡ None → t.observer ≡ None
      → (t.observer >>= specialized_instance_at r t Observer) ≡ instance_at P Observer
  none_stands t none e = ap (λ o. o >>= specialized_instance_at r t Observer) e
      ∙ sym (no_observer none)

  pub has_starts : (t : Table) (n : ResolvedNode) → slice_get r.nodes.items r.root.0 ≡ Some n
      → AreJudged P r t.specializations.items
      → IsKnown t.specializations.items r.root [] t.root
      → (t.observer >>= specialized_instance_at r t Observer) ≡ instance_at P Observer
      → HasStarts P r t
  has_starts t n at judged known observer = record {
    statics = λ i s found. let j = judged i s found in (j.0, statics_had s j.1);
    root = stands Root t r.root n t.root at known ∙ sym (root_is n at);
    observer = observer;
  }

module _ (P : Program) (root : Instance) (at_root : instance_at P Root ≡ Some root) where
  abbrev of_root : List Instance
  of_root = instances_from P 65 root

  abbrev others : List Instance
  others = listed (instances_from P 65) (instance_at P Observer)

  all_are : instances P ≡ of_root ++ others
  all_are = ap (λ o. listed (instances_from P 65) o ++ others) at_root

  pub refused_first : (e : StaticError) → IsRefusal (instantiation_refusal P 0 of_root) e
      → IsRefusal (instantiation_refusal P 0 (instances P)) e
  refused_first e h = subst (λ l. IsRefusal (instantiation_refusal P 0 l) e) (sym all_are)
      (refused_later P 0 [] of_root others 0 e (entered_none P 0) h)

  pub instantiated_alone : (k : ℕ) → AreEntered P 0 of_root k → instance_at P Observer ≡ None
      → instantiation_refusal P 0 (instances P) ≡ None
  instantiated_alone k a none =
      ap (instantiation_refusal P 0)
      (all_are ∙ ap (λ o. of_root ++ listed (instances_from P 65) o) none
      ∙ append-nil of_root) ∙ a.kept

  pub alone_are : instance_at P Observer ≡ None → instances P ≡ of_root
  alone_are none = all_are ∙ ap (λ o. of_root ++ listed (instances_from P 65) o) none
      ∙ append-nil of_root

  module _ (observer : Instance) (at_observer : instance_at P Observer ≡ Some observer) where
    pub both_are : instances P ≡ of_root ++ instances_from P 65 observer
    both_are = all_are ∙ ap (λ o. of_root ++ listed (instances_from P 65) o) at_observer

    pub instantiated_both : (k m : ℕ) → AreEntered P 0 of_root k
        → AreEntered P k (instances_from P 65 observer) m
        → instantiation_refusal P 0 (instances P) ≡ None
    instantiated_both k m a b = ap (instantiation_refusal P 0) both_are
        ∙ (entered_more P 0 of_root (instances_from P 65 observer) k m a b).kept

    pub refused_second : (k : ℕ) (e : StaticError) → AreEntered P 0 of_root k
        → IsRefusal (instantiation_refusal P k (instances_from P 65 observer)) e
        → IsRefusal (instantiation_refusal P 0 (instances P)) e
    refused_second k e a h =
        subst (λ l. IsRefusal (instantiation_refusal P 0 l) e)
        (ap (λ l. of_root ++ l) (append-nil (instances_from P 65 observer)) ∙ sym both_are)
        (refused_later P 0 of_root (instances_from P 65 observer) [] k e a h)
