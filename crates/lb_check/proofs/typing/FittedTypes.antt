-- What the code reads of a specialization and its callees is what the definitions say of them.
use Rattle.lb_check.proofs.Words
use Words.{CallId, CallSite, CallTypes, Child, DataType, Declaration, Declared, Instance, IsReached}
use Words.{IsResolved, IsTable, List, Name, Node, Node_named, None, Option, Path, Program, Reached}
use Words.{ResolvedNode, Root, Site, Some, Specialization, Static, StaticId, Table, VariableId}
use Words.{Whole, [], all_at, all_some, among, and_first, and_second, ap, are_distinct, are_statics}
use Words.{arith, bytes_eq, bytes_eq-Decides, call_site, call_types_at, call_types_of, callee_of}
use Words.{callee_types, constant_at, constant_type, count_at, counts_of, data_types}
use Words.{declaration_of, declared_type, declared_types, drop, drop-map, either_or, false}
use Words.{get_or_from_slice_get, input_types, instance_of, is_call, is_no_variable, is_static}
use Words.{is_variable, item_at, length, length-map, map, name_at, name_data_type, name_value}
use Words.{named, named_value, nat_lt, natural, no_site, node_named, node_of, node_sites, not}
use Words.{not-true, operator_types, option_map, or_first, or_second, output_types, refl}
use Words.{repeats_of, singly, site_at, site_of, slice_get, slice_get-map, slice_get_within}
use Words.{source_names, specialized_at, static_at, static_count, static_value, statics_of, subst}
use Words.{suc, sym, take, true, type_of_name, variable_names, variable_type, variables, zero, zip2}
use Words.{ℕ, ℤ, ◌++◌, ◌<◌, ◌>>=◌, ◌∙◌, ◌∷◌, ◌≡◌}
use Rattle.lb_check.{proofs.lists.Members.{held_at, not_among, unequal}, specs.TermTypes.repeats_at}
use Rattle.{lb_check.specs.TermTypes.variable_at, lb_static.proofs.DeclaredTypes.declared_is}
use Rattle.lb_static.{proofs.DeclaredTypes.types_are, specs.InstanceTable.IsSpecialized}
use Rattle.lb_static.specs.ResolvedTerms.{is_count_within, is_site_within, static_of}
use Rattle.{lb_syntax.specs.Tree.Named, std.proofs.lemmas.List.take-map}

-- The types of the inputs and of the outputs of a callee.

take_first : {A B : Type 0} → (f : A → B) (xs ys : List A) →
    take (length xs) (map f (xs ++ ys)) ≡ map f xs
take_first f [] ys = refl
take_first f (x ∷ xs) ys = ap (λ (l : List _). f x ∷ l) (take_first f xs ys)

drop_first : {A B : Type 0} → (f : A → B) (xs ys : List A) →
    drop (length xs) (map f (xs ++ ys)) ≡ map f ys
drop_first f [] ys = refl
drop_first f (x ∷ xs) ys = drop_first f xs ys

-- the types of the inputs and of the outputs of an instance
abbrev pub call_types : Program → Option Instance → Option CallTypes
call_types P o = o >>= λ n. input_types P n >>= λ ins. output_types P n >>= λ outs. Some
    (ins, outs)

module _ (P : Program) (names : List Name) (n : ResolvedNode) (resolved : IsResolved names n)
    (here : Instance) (values : List ℤ)
    (valued : map Some values ≡ map (static_value P here) (statics_of n))
    (same : here.node ≡ node_of n) where
  abbrev types : List Declared → List (Option DataType)
  types vs = map (declared_type values) vs

  all_declared : map (variable_type P here) (variables (node_of n)) ≡ types n.variables.items
  all_declared =
      ap (map (variable_type P here)) (sym resolved.declared)
      ∙ sym (types_are P here (statics_of n) values valued (variable_names (node_of n))
      (variable_names (node_of n)) n.variables.items
      (length-map (variables (node_of n)) (λ d. d.name) ∙ sym resolved.as_many))

  inputs_are : map (variable_type P here) (node_of n).inputs
      ≡ types (take n.inputs n.variables.items)
  inputs_are =
      let node = node_of n in
      sym (take_first (variable_type P here) node.inputs (node.outputs ++ node.locals))
      ∙ ap (λ k. take k (map (variable_type P here) (variables node))) (sym resolved.inputs)
      ∙ ap (take n.inputs) all_declared ∙ take-map (declared_type values) n.inputs n.variables.items

  outputs_are : map (variable_type P here) (node_of n).outputs ≡ types
      (take n.outputs (drop n.inputs n.variables.items))
  outputs_are =
      let node = node_of n in
      sym (take_first (variable_type P here) node.outputs node.locals)
      ∙ ap (take (length node.outputs))
      (sym (drop_first (variable_type P here) node.inputs (node.outputs ++ node.locals)))
      ∙ ap (λ k. take k (drop (length node.inputs) (map (variable_type P here) (variables node))))
      (sym resolved.outputs)
      ∙ ap (λ k. take n.outputs (drop k (map (variable_type P here) (variables node))))
      (sym resolved.inputs)
      ∙ ap (λ l. take n.outputs (drop n.inputs l)) all_declared
      ∙ ap (take n.outputs) (drop-map (declared_type values) n.inputs n.variables.items)
      ∙ take-map (declared_type values) n.outputs (drop n.inputs n.variables.items)

  pub call_types_are : call_types P (Some here) ≡ call_types_of values n
  call_types_are =
      ap (λ m. all_some (map (variable_type P here) m.inputs) >>= λ ins. all_some
      (map (variable_type P here) m.outputs) >>= λ outs. Some (ins, outs)) same
      ∙ ap (λ l. all_some l >>= λ ins. all_some
      (map (variable_type P here) (node_of n).outputs) >>= λ outs. Some (ins, outs)) inputs_are
      ∙ ap (λ l. declared_types values
      (take n.inputs n.variables.items) >>= λ ins. all_some l >>= λ outs. Some (ins, outs))
      outputs_are

-- the callee of a call has the same types wherever the call stands
pub same_callee : (P : Program) (p q : Path) (n : Node) (values : List ℤ) (site : Site)
    (call index : ℕ)
    → call_types P (callee_of P (instance_of p n values) (call_site site.callee site.arguments) 0 0)
    ≡ call_types P (callee_of P (instance_of q n values) site call index)
same_callee P p q n values site call index =
    by (node_named P site.callee)
    (all_some (map (static_value P (instance_of p n values)) site.arguments))
  where
    by : (o : Option Node) (vs : Option (List ℤ))
        → call_types P (o >>= λ m. vs >>= λ values. Some (instance_of (Child p 0 0) m values))
        ≡ call_types P
        (o >>= λ m. vs >>= λ values. Some (instance_of (Child q call index) m values))
    by None vs = refl
    by (Some m) None = refl
    by (Some m) (Some values) = refl

-- The types of the callees of a specialization are those that the definitions give them.

module _ (P : Program) (r : Reached) (t : Table) (reached : IsReached P r)
    (table : IsTable P r t) where
  -- the node of a specialization
  pub node_at : (s : Specialization) → IsSpecialized P r t s
      → (n : ResolvedNode) × (slice_get r.nodes.items s.node.0 ≡ Some n)
      × IsResolved (source_names P) n
  node_at s sp =
      let n = item_at r.nodes.items s.node.0 sp.within in (
        n.0,
        n.1,
        subst (IsResolved (source_names P))
            (get_or_from_slice_get r.nodes.items s.node.0 n.0 n.0 n.1)
            (reached.resolved s.node.0 n.0 sp.within),
      )

  pub specialized_instance : (s : Specialization) (n : ResolvedNode) (p : Path) →
      slice_get r.nodes.items s.node.0 ≡ Some n
      → specialized_at r p s ≡ Some (instance_of p (node_of n) s.values.items)
  specialized_instance s n p at =
      ap (option_map (λ m. instance_of p m s.values.items))
      (slice_get-map node_of r.nodes.items s.node.0 ∙ ap (option_map node_of) at)

  pub values_at : (s : Specialization) (sp : IsSpecialized P r t s) (n : ResolvedNode) (p : Path) →
      slice_get r.nodes.items s.node.0 ≡ Some n
      → map Some s.statics.items ≡ map (static_value P (instance_of p (node_of n) s.values.items))
      (statics_of n)
  values_at s sp n p at = sp.statics (instance_of Root (node_of n) s.values.items)
      (specialized_instance s n Root at) n at

  callee_is : (s : Specialization) (n : ResolvedNode) (p : Path) → IsSpecialized P r t s →
      slice_get r.nodes.items s.node.0 ≡ Some n → IsResolved (source_names P) n
      → call_types P (specialized_at r p s) ≡ callee_types r s
  callee_is s n p sp at resolved =
      ap (call_types P) (specialized_instance s n p at)
      ∙ call_types_are P (source_names P) n resolved
      (instance_of p (node_of n) s.values.items) s.statics.items (values_at s sp n p at) refl
      ∙ sym (ap (λ o. o >>= call_types_of s.statics.items) at)

  pub call_is : (i : ℕ) (s : Specialization) → slice_get t.specializations.items i ≡ Some s →
      (n : ResolvedNode) (p : Path)
      → slice_get r.nodes.items s.node.0 ≡ Some n → (c : CallId) (site : Site) →
      slice_get (node_sites (node_of n)) c.0 ≡ Some site
      → operator_types P (instance_of p (node_of n) s.values.items)
      (Node_named (site_at (node_sites (node_of n)) c).callee
      (site_at (node_sites (node_of n)) c).arguments)
      ≡ call_types_at r t s c
  call_is i s is n p at c site site_is =
      let sp = table.specialized i s is in
      let root = instance_of Root (node_of n) s.values.items in
      let root_is = specialized_instance s n Root at in
      let as_many = sp.0.as_many root root_is in
      let here_lt = slice_get_within (node_sites (node_of n)) c.0 site site_is in
      let called : c.0 < length s.callees.items = omega (arith, as_many, here_lt) in
      let id = item_at s.callees.items c.0 called in
      let before = sp.1 id.0 (c.0, called, get_or_from_slice_get s.callees.items c.0 id.0 id.0 id.1)
      in
      let last = slice_get_within t.specializations.items i s is in
      let there : id.0.0 < length t.specializations.items = omega (arith, before, last) in
      let callee = item_at t.specializations.items id.0.0 there in
      let callee_sp = table.specialized id.0.0 callee.0 callee.1 in
      let callee_n = node_at callee.0 callee_sp.0 in
      let same = sp.0.callees root root_is c.0 site site_is id.0 id.1 callee.0 callee.1 in
      ap (λ o. operator_types P (instance_of p (node_of n) s.values.items)
      (Node_named (either_or o no_site).callee (either_or o no_site).arguments)) site_is
      ∙ same_callee P p Root (node_of n) s.values.items site c.0 0
      ∙ ap (call_types P) same
      ∙ callee_is callee.0 callee_n.0 (Child Root c.0 0) callee_sp.0 callee_n.1 callee_n.2
      ∙ sym (ap (λ o. (o >>= λ id. slice_get t.specializations.items id.0) >>= callee_types r)
      id.1
      ∙ ap (λ o. o >>= callee_types r) callee.1)

-- The meaning of the numbers of a specialization is what the definitions say of its instances.

-- ## Static values

module _ (P : Program) (here : Instance) (statics : List Static) (values : List ℤ)
    (valued : map Some values ≡ map (static_value P here) statics) where
  one_value : (o : Option ℤ) (v : Option ℤ) → option_map Some o ≡ Some v → v ≡ o
  one_value None v e = absurd cc
  one_value (Some z) v e = let same : Some z ≡ v = cc in sym same

  -- the value of a static expression is the value at its place
  pub value_at : (i : StaticId) (s : Static) → slice_get statics i.0 ≡ Some s →
      static_value P here s ≡ slice_get values i.0
  value_at i s at =
      one_value (slice_get values i.0) (static_value P here s)
      (sym (slice_get-map Some values i.0)
      ∙ ap (λ (xs : List (Option ℤ)). slice_get xs i.0) valued
      ∙ slice_get-map (static_value P here) statics i.0
      ∙ ap (option_map (static_value P here)) at)

  -- the size or index of a static expression is the one at its place
  pub count_is : (i : StaticId) (s : Static) → slice_get statics i.0 ≡ Some s →
      static_count P here (static_at statics i) ≡ count_at values i
  count_is i s at =
      ap (λ o. static_count P here (either_or o (Whole 0))) at
      ∙ ap (λ o. o >>= natural) (value_at i s at)

-- ## Names

-- the declaration at a place is the one found by its name
pub declared_at : (all : List Name) (statics : List Static) (names : List Name) (vs : List Declared)
    (i : ℕ) (x : Name) (v : Declared)
    → are_distinct names ≡ true → slice_get names i ≡ Some x → slice_get vs i ≡ Some v
    → named (λ d. d.name) x (zip2 (declaration_of all statics) names vs) ≡ Some
    (declaration_of all statics x v)
declared_at all statics (y ∷ names) (w ∷ vs) zero x v d ex ev =
    let same : w ≡ v = cc in
    let name : y ≡ x = cc in
    let z = (bytes_eq-Decides x x).1 refl in
    subst (λ (u : Name). named (λ d. d.name) x
    (zip2 (declaration_of all statics) (u ∷ names) (w ∷ vs)) ≡ Some
    (declaration_of all statics x v)) (sym name)
    (rw z (ap (λ u. Some (declaration_of all statics x u)) same))
declared_at all statics (y ∷ names) (w ∷ vs) (suc i) x v d ex ev =
    let no = not_among y names i x (not-true _ (and_first (not (among y names)) _ d)) ex in
    rw no (declared_at all statics names vs i x v (and_second (not (among y names)) _ d) ex ev)
declared_at all statics _ _ i x v d ex ev = absurd cc

-- a name that is not among the names of declarations is not found
pub unfound : (x : Name) (ds : List Declaration) → among x (map (λ d. d.name) ds) ≡ false →
    named (λ d. d.name) x ds ≡ None
unfound x [] e = refl
unfound x (d ∷ ds) e =
    let no = unequal x d.name (or_first (bytes_eq x d.name) _ e) in
    rw no (unfound x ds (or_second (bytes_eq x d.name) _ e))

-- a static expression that is the name of no variable
named_static : (names : List Name) (st : Static) → is_no_variable names st ≡ true →
    (x : Name) × (st ≡ Named x) × (among x names ≡ false)
named_static names (Named x) u = (x, refl, not-true _ u)
named_static names _ u = absurd cc

-- The context that the code reads of a specialization is what the definitions say of its instances.

module _ (P : Program) (r : Reached) (t : Table) (s : Specialization) (n : ResolvedNode) (p : Path)
    (resolved : IsResolved (source_names P) n)
    (distinct : are_distinct (variable_names (node_of n)) ≡ true)
    (valued : map Some s.statics.items ≡ map
    (static_value P (instance_of p (node_of n) s.values.items)) (statics_of n)) where
  abbrev here : Instance
  here = instance_of p (node_of n) s.values.items

  abbrev names : List Name
  names = variable_names (node_of n)

  -- variable `x` has a declaration, whose type is found by its name
  found : (x : VariableId) → is_variable (counts_of n) x ≡ true
      → (o : Option DataType) × (option_map (variable_type P here)
      (named (λ d. d.name) (name_at names x) (variables (node_of n))) ≡ Some o)
      × (variable_at n s x ≡ o)
  found x w =
      let v = held_at n.variables.items x.0 w in
      let y = held_at names x.0 (subst (λ k. nat_lt x.0 k ≡ true)
      (resolved.as_many ∙ sym (length-map (variables (node_of n)) (λ d. d.name))) w) in
      let at = declared_at names (statics_of n) names n.variables.items x.0 y.0 v.0 distinct y.1 v.1
      in (
        declared_type s.statics.items v.0,
        ap (λ o. option_map (variable_type P here)
            (named (λ d. d.name) (either_or o []) (variables (node_of n)))) y.1
            ∙ ap (λ ds. option_map (variable_type P here) (named (λ d. d.name) y.0 ds))
            (sym resolved.declared)
            ∙ ap (option_map (variable_type P here)) at
            ∙ ap Some (declared_is P here (statics_of n) s.statics.items valued names y.0 v.0),
        ap (λ o. o >>= declared_type s.statics.items) v.1,
      )

  pub variable_is : (x : VariableId) → is_variable (counts_of n) x ≡ true →
      name_data_type P here (name_at names x) ≡ variable_at n s x
  variable_is x w =
      let f = found x w in
      ap (λ o. either_or o (constant_type (name_value P here (name_at names x)))) f.1 ∙ sym f.2

  pub left_is : (x : VariableId) → is_variable (counts_of n) x ≡ true →
      type_of_name P here (name_at names x) ≡ variable_at n s x
  left_is x w = let f = found x w in grind (arith, f.1, f.2)

  -- the static expression with number `i`
  static_held : (i : StaticId) → is_static (counts_of n) i ≡ true →
      (st : Static) × (slice_get (statics_of n) i.0 ≡ Some st)
  static_held i w =
      let part = held_at n.statics.items i.0 w in (
        static_of part.0.text,
        slice_get-map (λ q. static_of q.text) n.statics.items i.0
            ∙ ap (option_map (λ q. static_of q.text)) part.1,
      )

  pub value_is : (i : StaticId) → is_static (counts_of n) i ≡ true
      → is_no_variable names (static_at (statics_of n) i) ≡ true
      → data_types P here (named_value (static_at (statics_of n) i))
      ≡ singly (constant_at s.statics.items i)
  value_is i w u =
      let h = static_held i w in
      let same = ap (λ o. either_or o (Whole 0)) h.1 in
      let x = named_static names h.0 (subst (λ st. is_no_variable names st ≡ true) same u) in
      let value = ap (static_value P here) (sym x.1)
      ∙ value_at P here (statics_of n) s.statics.items valued i h.0 h.1 in
      ap (λ st. data_types P here (named_value st)) (same ∙ x.1)
      ∙ ap (λ o. singly (either_or (option_map (variable_type P here) o)
      (constant_type (name_value P here x.0))))
      (unfound x.0 (variables (node_of n)) x.2)
      ∙ ap (λ o. singly (constant_type o)) value

  pub static_is : (i : StaticId) → is_static (counts_of n) i ≡ true →
      static_count P here (static_at (statics_of n) i) ≡ count_at s.statics.items i
  static_is i w =
      let h = static_held i w in
      count_is P here (statics_of n) s.statics.items valued i h.0 h.1

  pub call_at : (c : CallId) → is_call (counts_of n) c ≡ true
      → (site : CallSite) × (slice_get n.calls.items c.0 ≡ Some site)
      × (slice_get (node_sites (node_of n)) c.0 ≡ Some
      (site_of (source_names P) (statics_of n) site))
      × (is_site_within (length (source_names P)) (counts_of n) site ≡ true)
  call_at c w =
      let site = held_at n.calls.items c.0 w in (
        site.0,
        site.1,
        ap (λ (ss : List Site). slice_get ss c.0) (sym resolved.calls)
            ∙ slice_get-map (site_of (source_names P) (statics_of n)) n.calls.items c.0
            ∙ ap (option_map (site_of (source_names P) (statics_of n))) site.1,
        all_at (is_site_within (length (source_names P)) (counts_of n)) n.calls.items c.0 site.0
            resolved.calls_within site.1,
      )

  pub repeats_is : (c : CallId) → is_call (counts_of n) c ≡ true
      → static_count P here (either_or (site_at (node_sites (node_of n)) c).count (Whole 0)) ≡
      repeats_at n s c
  repeats_is c w =
      let site = call_at c w in
      let within = and_second (are_statics (counts_of n) site.0.first_argument site.0.arguments) _
      (and_second (nat_lt site.0.callee.0 (length (source_names P))) _ site.3) in
      ap (λ o. static_count P here (either_or (either_or o no_site).count (Whole 0))) site.2
      ∙ by site.0.count within
      ∙ sym (ap (λ o. o >>= repeats_of s.statics.items) site.1)
    where
      by : (o : Option StaticId) → is_count_within (counts_of n) o ≡ true
          → static_count P here (either_or (option_map (static_at (statics_of n)) o) (Whole 0)) ≡
          either_or (option_map (count_at s.statics.items) o) (Some 0)
      by None w = refl
      by (Some i) w = static_is i w
