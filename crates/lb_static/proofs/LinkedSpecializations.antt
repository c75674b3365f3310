-- The specializations that instantiation adds have the callees of the call sites of their nodes.
use Rattle.std.proofs.Common.{◌≡◌, ℕ, zero, suc, ◌+◌, ◌<◌, ◌≤◌, ℤ, List, [], ◌∷◌, ◌++◌, length}
use Rattle.std.proofs.Common.{take, Option, Some, None, option_map, refl, ap, sym, ◌∙◌, subst, inl}
use Rattle.std.proofs.Common.{inr, ◌⊎◌}
use Rattle.std.specs.Prelude.{slice_get}
use Rattle.std.proofs.lemmas.List.{length-map, take_more, take_all}
use Rattle.std.proofs.lemmas.Option.{slice_get-map, slice_get_within, get_or_from_slice_get}
use Rattle.lb_syntax.specs.Lists.{In}
use Rattle.lb_syntax.proofs.ListPlaces.{item_at}
use Rattle.lb_static.specs.Instances.{Program, Instance, Path, Root, Child, Site, callee_of}
use Rattle.lb_static.specs.Instances.{node_sites}
use Rattle.lb_static.specs.InstanceTable.{instance_of, specialized_at, IsSpecialized}
use Rattle.lb_static.specs.ReachedNodes.{source_names, id_at}
use Rattle.lb_static.specs.ResolvedNodes.{IsResolved, node_of, statics_of}
use Rattle.lb_static.specs.ResolvedTerms.{site_of}
use Rattle.lb_static.specs.LinkedSpecializations.{IsCalled, AreCalled, IsLinked, AreLinked}
use Rattle.lb_static.specs.LinkedSpecializations.{AreSpecialized}
use Rattle.lb_static.specs.Instantiated.{IsInstantiable, AreJudged, IsKnown, HasGrown, values_at}
use Rattle.lb_static.specs.declared.constants.Constants.{Constants}
use Rattle.lb_static.specs.declared.reachable.NodeId.{NodeId}
use Rattle.lb_static.specs.declared.reachable.Reached.{Reached}
use Rattle.lb_static.specs.declared.resolved.CallSite.{CallSite}
use Rattle.lb_static.specs.declared.resolved.ResolvedNode.{ResolvedNode}
use Rattle.lb_static.specs.declared.table.Specialization.{Specialization}
use Rattle.lb_static.specs.declared.table.SpecializationId.{SpecializationId}
use Rattle.lb_static.specs.declared.table.Table.{Table}
use Rattle.lb_static.proofs.CallSites.{callee_read}
use Rattle.lb_static.proofs.Members.{contains_in}
use Rattle.lb_static.proofs.InstanceSteps.{grown_more}
use Rattle.lb_static.proofs.WholeInstantiation.{statics_had, tree_is}
use Rattle.lb_static.proofs.ReachedPlaces.{all_item}

-- ## The callees of an instance

-- a specialization that is known by the node and values of a call site is its callee
pub called_known : (r : Reached) (specializations : List Specialization) (statics : List ℤ)
    (site : CallSite) (node : NodeId) (values : List ℤ) (id : SpecializationId)
    → id_at r site.callee ≡ Some node
    → values ≡ values_at statics site.first_argument site.arguments
    → IsKnown specializations node values id
    → IsCalled r specializations statics site id
called_known r specializations statics site node values id at given k =
    (k.0, k.1, at ∙ ap (λ (i : NodeId). Some i) (sym k.2), k.3 ∙ given)

module _ (r : Reached) (statics : List ℤ) where
  pub called_later : (before after : List Specialization) (sites : List CallSite)
      (ids : List SpecializationId) → HasGrown before after
      → AreCalled r before statics sites ids → AreCalled r after statics sites ids
  called_later before after [] [] grown called = tt
  called_later before after [] (id ∷ ids) grown called = called
  called_later before after (s ∷ ss) [] grown called = called
  called_later before after (s ∷ ss) (id ∷ ids) grown called =
      let k = called.0 in
      ((k.0, grown id.0 k.0 k.1, k.2, k.3), called_later before after ss ids grown called.1)

  module _ (specializations : List Specialization) where
    pub called_more : (sites : List CallSite) (ids : List SpecializationId) (site : CallSite)
        (id : SpecializationId) → AreCalled r specializations statics sites ids
        → IsCalled r specializations statics site id
        → AreCalled r specializations statics (sites ++ site ∷ []) (ids ++ id ∷ [])
    called_more [] [] site id called here = (here, tt)
    called_more [] (i ∷ ids) site id called here = absurd called
    called_more (s ∷ ss) [] site id called here = absurd called
    called_more (s ∷ ss) (i ∷ ids) site id called here =
        (called.0, called_more ss ids site id called.1 here)

    pub called_as_many : (sites : List CallSite) (ids : List SpecializationId)
        → AreCalled r specializations statics sites ids → length ids ≡ length sites
    called_as_many [] [] called = refl
    called_as_many [] (id ∷ ids) called = absurd called
    called_as_many (s ∷ ss) [] called = absurd called
    called_as_many (s ∷ ss) (id ∷ ids) called = ap suc (called_as_many ss ids called.1)

    -- the specializations so far are the callees of the first call sites: none, and one more
    pub none_called : (sites : List CallSite) (ids : List SpecializationId) → ids ≡ []
        → AreCalled r specializations statics (take 0 sites) ids
    none_called [] ids e = subst (AreCalled r specializations statics []) (sym e) tt
    none_called (s ∷ ss) ids e = subst (AreCalled r specializations statics []) (sym e) tt

    pub called_next : (sites : List CallSite) (ids after : List SpecializationId) (call : ℕ)
        (site : CallSite) (id : SpecializationId) → slice_get sites call ≡ Some site
        → AreCalled r specializations statics (take call sites) ids
        → IsCalled r specializations statics site id → after ≡ ids ++ id ∷ []
        → AreCalled r specializations statics (take (call + 1) sites) after
    called_next sites ids after call site id at called here is =
        let next : take (call + 1) sites ≡ take call sites ++ site ∷ [] =
        take_more sites call site (slice_get_within sites call site at)
        ∙ ap (λ k. take call sites ++ k ∷ []) (get_or_from_slice_get sites call site site at) in
        subst (λ l. AreCalled r specializations statics l after) (sym next)
        (subst (AreCalled r specializations statics (take call sites ++ site ∷ [])) (sym is)
        (called_more (take call sites) ids site id called here))

    pub all_called : (sites : List CallSite) (ids : List SpecializationId) (call : ℕ)
        → length sites ≤ call → AreCalled r specializations statics (take call sites) ids
        → AreCalled r specializations statics sites ids
    all_called sites ids call past called =
        subst (λ l. AreCalled r specializations statics l ids) (take_all call sites past) called

    called_at : (sites : List CallSite) (ids : List SpecializationId) (call : ℕ) (site : CallSite)
        (id : SpecializationId) → AreCalled r specializations statics sites ids
        → slice_get sites call ≡ Some site → slice_get ids call ≡ Some id
        → IsCalled r specializations statics site id
    called_at [] ids call site id called at is = absurd cc
    called_at (s ∷ ss) [] call site id called at is = absurd called
    called_at (s ∷ ss) (i ∷ ids) zero site id called at is =
        let same : s ≡ site = cc in
        let alike : i ≡ id = cc in
        subst (λ t. IsCalled r specializations statics t id) same
        (subst (IsCalled r specializations statics s) alike called.0)
    called_at (s ∷ ss) (i ∷ ids) (suc call) site id called at is =
        called_at ss ids call site id called.1 at is

    called_before : (sites : List CallSite) (ids : List SpecializationId) (id : SpecializationId)
        → AreCalled r specializations statics sites ids → In id ids
        → id.0 < length specializations
    called_before sites [] id called on = absurd on
    called_before [] (i ∷ ids) id called on = absurd called
    called_before (s ∷ ss) (i ∷ ids) id called (inl is) =
        subst (λ (k : SpecializationId). k.0 < length specializations) is
        (slice_get_within specializations i.0 called.0.0 called.0.1)
    called_before (s ∷ ss) (i ∷ ids) id called (inr on) = called_before ss ids id called.1 on

-- ## The specializations so far

pub none_linked : (r : Reached) (l : List Specialization) → l ≡ [] → AreLinked r l
none_linked r l e i s at =
    let no : slice_get [] i ≡ Some s = subst (λ m. slice_get m i ≡ Some s) e at in absurd cc

pushed_at : {A : Type 0} (xs : List A) (y : A) (i : ℕ) (t : A) → slice_get (xs ++ y ∷ []) i ≡ Some t
    → (slice_get xs i ≡ Some t) ⊎ ((i ≡ length xs) × (y ≡ t))
pushed_at [] y zero t e = inr (refl, cc)
pushed_at [] y (suc i) t e = absurd cc
pushed_at (x ∷ xs) y zero t e = inl e
pushed_at (x ∷ xs) y (suc i) t e =
    elim (pushed_at xs y i t e) [
      | inl h ↦ inl h
      | inr h ↦ inr (ap suc h.0, h.1)
    ]

-- a specialization that is added after its callees is linked
pub linked_more : (r : Reached) (before after : List Specialization) (s : Specialization)
    (n : ResolvedNode) → AreLinked r before → slice_get r.nodes.items s.node.0 ≡ Some n
    → AreCalled r before s.statics.items n.calls.items s.callees.items → after ≡ before ++ s ∷ []
    → AreLinked r after
linked_more r before after s n linked_calls there called e i t at =
    let grown : HasGrown before after =
    subst (HasGrown before) (sym e) (grown_more before (s ∷ [])) in
    elim (pushed_at before s i t (subst (λ l. slice_get l i ≡ Some t) e at)) [
      | inl h ↦
          let was = linked_calls i t h in
          record {
            called = λ m found. called_later r t.statics.items before after m.calls.items
                t.callees.items grown (was.called m found);
            before = was.before;
          }
      | inr h ↦ subst (IsLinked r after i) h.1 (record {
        called = λ m found.
            let same : n ≡ m = let both : Some n ≡ Some m = sym there ∙ found in cc in
            called_later r s.statics.items before after m.calls.items s.callees.items grown
            (subst (λ (k : ResolvedNode). AreCalled r before s.statics.items k.calls.items
            s.callees.items) same called);
        before = λ id on.
            subst (λ k. id.0 < k) (sym h.0)
            (called_before r s.statics.items before n.calls.items s.callees.items id called
            (contains_in s.callees.items id on));
      })
    ]

-- ## The table

module _ (P : Program) (r : Reached) (c : Constants) (w : IsInstantiable P r c) (t : Table)
    (judged : AreJudged P r t.specializations.items)
    (linked_calls : AreLinked r t.specializations.items) where
  -- the instance of a specialization at a path
  stands_at : (p : Path) (s : Specialization) (n : ResolvedNode)
      → slice_get r.nodes.items s.node.0 ≡ Some n
      → specialized_at r p s ≡ Some (instance_of p (node_of n) s.values.items)
  stands_at p s n at = ap (option_map (λ m. instance_of p m s.values.items))
      (tree_is P r w.reached s.node.0 n at)

  is_here : (s : Specialization) (n : ResolvedNode) (here : Instance)
      → slice_get r.nodes.items s.node.0 ≡ Some n → specialized_at r Root s ≡ Some here
      → instance_of Root (node_of n) s.values.items ≡ here
  is_here s n here at is = let both : Some (instance_of Root (node_of n) s.values.items)
      ≡ Some here = sym (stands_at Root s n at) ∙ is in cc

  site_is : (n : ResolvedNode) (call : ℕ) (site : Site) → IsResolved (source_names P) n
      → slice_get (node_sites (node_of n)) call ≡ Some site
      → (k : CallSite) × (slice_get n.calls.items call ≡ Some k)
      × (site_of (source_names P) (statics_of n) k ≡ site)
  site_is n call site is at =
      by (slice_get n.calls.items call)
      (sym (slice_get-map (site_of (source_names P) (statics_of n)) n.calls.items call)
      ∙ ap (λ l. slice_get l call) is.calls ∙ at)
    where
      by : (o : Option CallSite)
          → option_map (site_of (source_names P) (statics_of n)) o ≡ Some site
          → (k : CallSite) × (o ≡ Some k) × (site_of (source_names P) (statics_of n) k ≡ site)
      by None e = absurd cc
      by (Some k) e = (k, refl, cc)

  module _ (i : ℕ) (s : Specialization) (found : slice_get t.specializations.items i ≡ Some s)
      (n : ResolvedNode) (at : slice_get r.nodes.items s.node.0 ≡ Some n) where
    resolved : IsResolved (source_names P) n
    resolved = all_item (IsResolved (source_names P)) r.nodes.items s.node.0 n w.reached.resolved at

    abbrev here : Instance
    here = instance_of Root (node_of n) s.values.items

    callee_is : (call : ℕ) (site : Site) → slice_get (node_sites (node_of n)) call ≡ Some site
        → (id : SpecializationId) → slice_get s.callees.items call ≡ Some id
        → (callee : Specialization) → slice_get t.specializations.items id.0 ≡ Some callee
        → callee_of P here site call 0 ≡ specialized_at r (Child Root call 0) callee
    callee_is call site at_site id at_id callee at_callee =
        let k = site_is n call site resolved at_site in
        let told = called_at r s.statics.items t.specializations.items n.calls.items s.callees.items
        call k.0 id ((linked_calls i s found).called n at) k.1 at_id in
        let same : told.0 ≡ callee =
        let both : Some told.0 ≡ Some callee = sym told.1 ∙ at_callee in cc in
        let node = told.2 ∙ ap (λ (q : Specialization). Some q.node) same in
        let given = ap (λ (q : Specialization). q.values.items) (sym same) ∙ told.3 in
        let seen = item_at r.nodes.items callee.node.0 (judged id.0 callee at_callee).0 in
        let m = seen.0 in
        ap (λ q. callee_of P here q call 0) (sym k.2)
        ∙ callee_read P r c w Root n s.values.items s.statics.items
        ((judged i s found).1 Root n at).evaluated_as call k.0 callee.node m node seen.1 0
        ∙ ap (λ vs. Some (instance_of (Child Root call 0) (node_of m) vs)) (sym given)
        ∙ sym (stands_at (Child Root call 0) callee m seen.1)

    specialized : IsSpecialized P r t s
    specialized = record {
      within = (judged i s found).0;
      statics = statics_had P r w.reached s (judged i s found).1;
      callees = λ there e. subst
          (λ (h : Instance). (call : ℕ) (site : Site)
          → slice_get (node_sites h.node) call ≡ Some site → (id : SpecializationId)
          → slice_get s.callees.items call ≡ Some id → (callee : Specialization)
          → slice_get t.specializations.items id.0 ≡ Some callee
          → callee_of P h site call 0 ≡ specialized_at r (Child Root call 0) callee)
          (is_here s n there at e) callee_is;
      as_many = λ there e.
          called_as_many r s.statics.items t.specializations.items n.calls.items s.callees.items
          ((linked_calls i s found).called n at)
          ∙ sym (length-map n.calls.items (site_of (source_names P) (statics_of n)))
          ∙ ap length resolved.calls
          ∙ ap (λ (h : Instance). length (node_sites h.node)) (is_here s n there at e);
    }

  pub are_specialized : AreSpecialized P r t
  are_specialized i s found =
      let seen = item_at r.nodes.items s.node.0 (judged i s found).0 in
      (specialized i s found seen.0 seen.1, (linked_calls i s found).before)
