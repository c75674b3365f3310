-- The interface of the node under test and of the observer, and the scalar inputs.
use Rattle.std.proofs.Common.{◌≡◌, ℕ, ℤ, ◌+◌, Bool, true, false, List, [], ◌∷◌, ◌++◌, length, take}
use Rattle.std.proofs.Common.{drop, map, Option, Some, None, option_map, refl, ap, sym, ◌∙◌, arith}
use Rattle.std.proofs.Common.{length-append, subst}
use Rattle.std.specs.Prelude.{◌&&◌, nat_le, is_some}
use Rattle.std.specs.List.{flat_map}
use Rattle.std.proofs.lemmas.List.{length-map, map-append, take_at, drop_at}
use Rattle.std.proofs.lemmas.List.Sums.{sum_by-cons}
use Rattle.std.proofs.lemmas.Option.{same_Some}
use Rattle.std.proofs.Common.{◌<◌, ◌≤◌, min}
use Rattle.std.proofs.lemmas.Bool.{false≢true}
use Rattle.std.proofs.lemmas.Bool.Decides.{nat_tests}
use Rattle.std.proofs.Math.Bool.{and-false}
use Rattle.lb_syntax.specs.Lists.{◌>>=◌, all_some, listed, holds, either_or}
use Rattle.lb_syntax.specs.Tree.{Name, Declaration}
use Rattle.lb_static.specs.Instances.{Program, Instance, Root, Observer, instances, instance_at}
use Rattle.lb_static.specs.Interfaces.{InterfaceView, valued_node_in, interface_under, inputs_of}
use Rattle.lb_static.specs.Interfaces.{outputs_of, is_one_truth_in, observes, property_by}
use Rattle.lb_static.specs.Interfaces.{property_in, elements_named}
use Rattle.lb_static.specs.InstanceTable.{HasStarts, specialized_instance_at}
use Rattle.lb_static.specs.ReachedNodes.{IsReached, source_names}
use Rattle.lb_static.specs.DataTypes.{DataType, are_types, element_count, element_names}
use Rattle.lb_static.specs.DataTypes.{input_types, output_types, scalar_elements, variable_type}
use Rattle.lb_static.specs.DataTypes.{is_type, signature, total, truth}
use Rattle.lb_static.specs.Instantiation.{are_same, fits_observer, has_plain_clocks, has_property}
use Rattle.lb_static.specs.Instantiation.{is_one_truth, is_root, instantiation_refusal}
use Rattle.lb_static.specs.declared.reachable.Reached.{Reached}
use Rattle.lb_static.specs.declared.resolved.ResolvedNode.{ResolvedNode}
use Rattle.lb_static.specs.declared.table.SpecializationId.{SpecializationId}
use Rattle.lb_static.specs.declared.table.Table.{Table}
use Rattle.lb_static.proofs.ElementNames.{length-element_names, name_of}
use Rattle.lb_static.proofs.Options.{all_some-append, length-all_some}
use Rattle.lb_static.proofs.InterfaceTypes.{face_by, face_of, face_is}
use Rattle.lb_static.proofs.RootStarts.{stands, nothing_stands}
use Rattle.lb_static.proofs.SizesInRange.{root_has_types, all_or_none, all_some-cons}

-- ## Types of inputs and outputs

joined : {A : Type 0} (o p : Option (List A)) (xs : List A)
    → (o >>= λ a. option_map (λ b. a ++ b) p) ≡ Some xs
    → (a : List A) × (b : List A) × (o ≡ Some a) × (p ≡ Some b) × ((a ++ b) ≡ xs)
joined None p xs e = absurd cc
joined (Some a) None xs e = absurd cc
joined (Some a) (Some b) xs e = let f : (a ++ b) ≡ xs = cc in (a, b, refl, refl, f)

-- if the items of two lists together are all there, so are those of each list
pub both_there : {A : Type 0} (os ps : List (Option A)) (xs : List A)
    → all_some (os ++ ps) ≡ Some xs
    → (all_some os ≡ Some (take (length os) xs)) × (all_some ps ≡ Some (drop (length os) xs))
both_there os ps xs e =
    let j = joined (all_some os) (all_some ps) xs (sym (all_some-append os ps) ∙ e) in
    let long = length-all_some os j.0 j.2 in (
      j.2 ∙ ap Some (sym (take_at j.0 j.1 (length os) long) ∙ ap (take (length os)) j.4),
      j.3 ∙ ap Some (sym (drop_at j.0 j.1 (length os) long) ∙ ap (drop (length os)) j.4),
    )

-- the relation of the types of an instance to its interface
record Typed (P : Program) (here : Instance) (f : InterfaceView) : Type 0 where
  node : here.node ≡ f.node
  plain : has_plain_clocks P here ≡ f.is_plain
  all : all_some (map (variable_type P here) (here.node.inputs ++ here.node.outputs))
      ≡ Some f.data_types
  inputs : input_types P here ≡ Some (inputs_of f)
  outputs : output_types P here ≡ Some (outputs_of f)

-- an instance with types has the relation `Typed` to the interface of its parts
parts : (P : Program) (here : Instance) (ss : List DataType)
    → all_some (map (variable_type P here) (here.node.inputs ++ here.node.outputs)) ≡ Some ss
    → Typed P here (record {
      node =
          here.node;
      inputs = length here.node.inputs;
      data_types = ss;
      is_plain = has_plain_clocks P here;
    })
parts P here ss e =
    let split = both_there (map (variable_type P here) here.node.inputs)
    (map (variable_type P here) here.node.outputs) ss
    (ap all_some (sym (map-append (variable_type P here) here.node.inputs here.node.outputs))
    ∙ e) in
    let long = length-map here.node.inputs (variable_type P here) in record {
      node = refl;
      plain = refl;
      all = e;
      inputs = split.0 ∙ ap (λ k. Some (take k ss)) long;
      outputs = split.1 ∙ ap (λ k. Some (drop k ss)) long;
    }

typed : (P : Program) (here : Instance) (f : InterfaceView) → face_of P here ≡ Some f
    → Typed P here f
typed P here f e = by (all_some
    (map (variable_type P here) (here.node.inputs ++ here.node.outputs)))
    (parts P here) e
  where
    by : (o : Option (List DataType))
        → ((ss : List DataType) → o ≡ Some ss
        → Typed P here (record {
          node = here.node;
          inputs =
              length here.node.inputs;
          data_types = ss;
          is_plain = has_plain_clocks P here;
        }))
        → option_map (λ ss. record {
          node = here.node;
          inputs = length here.node.inputs;
          data_types =
              ss;
          is_plain = has_plain_clocks P here;
        }) o ≡ Some f → Typed P here f
    by None made g = absurd cc
    by (Some ss) made g = subst (Typed P here) (same_Some _ f g) (made ss refl)

-- an instance without an interface lacks the type of some input or output
untyped : (P : Program) (here : Instance) → face_of P here ≡ None
    → all_some (map (variable_type P here) (here.node.inputs ++ here.node.outputs)) ≡ None
untyped P here e = by (all_some
    (map (variable_type P here) (here.node.inputs ++ here.node.outputs))) e
  where
    by : (o : Option (List DataType))
        → face_by here.node (length here.node.inputs) (has_plain_clocks P here) o ≡ None → o ≡ None
    by None g = refl
    by (Some ss) g = absurd cc

-- ## The scalar inputs

elements_are : (P : Program) (here : Instance) (ds : List Declaration) (ss : List DataType)
    → all_some (map (variable_type P here) ds) ≡ Some ss
    → flat_map (scalar_elements P here) ds ≡ elements_named (map name_of ds) ss
elements_are P here [] ss e = refl
elements_are P here (d ∷ ds) ss e =
    by (variable_type P here d) (all_some (map (variable_type P here) ds))
    (elements_are P here ds)
    (sym (all_some-cons (variable_type P here d) (map (variable_type P here) ds)) ∙ e)
  where
    by : (o : Option DataType) (p : Option (List DataType))
        → ((xs : List DataType) → p ≡ Some xs
        → flat_map (scalar_elements P here) ds ≡ elements_named (map name_of ds) xs)
        → all_or_none o p ≡ Some ss
        → listed (λ t. map (λ x. (x, t.kind)) (element_names d.name t.sizes)) o
        ++ flat_map (scalar_elements P here) ds ≡ elements_named (d.name ∷ map name_of ds) ss
    by None p rest g = absurd cc
    by (Some t) None rest g = absurd cc
    by (Some t) (Some xs) rest g =
        ap (λ l. map (λ x. (x, t.kind)) (element_names d.name t.sizes) ++ l) (rest xs refl)
        ∙ ap (elements_named (d.name ∷ map name_of ds)) (same_Some (t ∷ xs) ss g)

length-elements : (xs : List Name) (ss : List DataType) → length xs ≡ length ss
    → length (elements_named xs ss) ≡ total ss
length-elements [] [] e = refl
length-elements [] (s ∷ ss) e = absurd (omega (arith, e))
length-elements (x ∷ xs) [] e = absurd (omega (arith, e))
length-elements (x ∷ xs) (s ∷ ss) e =
    let others : length xs ≡ length ss = omega arith in
    length-append (map (λ n. (n, s.kind)) (element_names x s.sizes)) (elements_named xs ss)
    ∙ ap (λ k. k + length (elements_named xs ss))
    (length-map (element_names x s.sizes) (λ n. (n, s.kind)) ∙ length-element_names x s.sizes)
    ∙ ap (λ k. element_count s + k) (length-elements xs ss others)
    ∙ sym (sum_by-cons element_count s ss)

signature_is : (P : Program) (here : Instance) (f : InterfaceView) → instance_at P Root ≡ Some here
    → Typed P here f → signature P ≡ elements_named (map name_of f.node.inputs) (inputs_of f)
signature_is P here f is t =
    ap (listed (λ root. flat_map (scalar_elements P root) root.node.inputs)) is
    ∙ elements_are P here here.node.inputs (inputs_of f) t.inputs
    ∙ ap (λ n. elements_named (map name_of n.inputs) (inputs_of f)) t.node

count_is : (P : Program) (here : Instance) (f : InterfaceView) → instance_at P Root ≡ Some here
    → Typed P here f → length (signature P) ≡ total (inputs_of f)
count_is P here f is t =
    ap length (signature_is P here f is t)
    ∙ length-elements (map name_of f.node.inputs) (inputs_of f)
    (length-map f.node.inputs name_of ∙ ap (λ n. length n.inputs) (sym t.node)
    ∙ sym (length-map here.node.inputs (variable_type P here))
    ∙ sym (length-all_some (map (variable_type P here) here.node.inputs) (inputs_of f) t.inputs))

-- ## The property

one_truth_is : (P : Program) (ss : List DataType) → is_one_truth P (Some ss) ≡ is_one_truth_in ss
one_truth_is P [] = refl
one_truth_is P (s ∷ []) = by (is_type s truth)
  where
    by : (b : Bool) → b ≡ (b && true)
    by true = refl
    by false = refl
one_truth_is P (s ∷ (t ∷ ss)) = by (is_type s truth)
  where
    by : (b : Bool) → false ≡ (b && false)
    by true = refl
    by false = refl

-- the property of an instance with an observer that has types
observed : (P : Program) (here other : Instance) (f o : InterfaceView) → Typed P here f
    → Typed P other o
    → has_property P here (Some other) ≡ observes o f
observed P here other f o t u =
    ap (λ b. b && (fits_observer P here other && is_one_truth P (output_types P other))) u.plain
    ∙ ap (λ x. o.is_plain && (are_same P x
    (all_some (map (variable_type P here) (here.node.inputs ++ here.node.outputs)))
    && is_one_truth P (output_types P other))) u.inputs
    ∙ ap (λ x. o.is_plain && (are_same P (Some (inputs_of o)) x
    && is_one_truth P (output_types P other))) t.all
    ∙ ap (λ x. o.is_plain && (are_types (inputs_of o) f.data_types && is_one_truth P x)) u.outputs
    ∙ ap (λ b. o.is_plain && (are_types (inputs_of o) f.data_types && b))
    (one_truth_is P (outputs_of o))

-- an observer without types gives no property
unobserved : (P : Program) (here other : Instance)
    → all_some (map (variable_type P other) (other.node.inputs ++ other.node.outputs)) ≡ None
    → has_property P here (Some other) ≡ false
unobserved P here other e =
    by (has_plain_clocks P other) (input_types P other) (output_types P other)
    (sym (all_some-append (map (variable_type P other) other.node.inputs)
    (map (variable_type P other) other.node.outputs))
    ∙ ap all_some (sym (map-append (variable_type P other) other.node.inputs other.node.outputs))
    ∙ e)
  where
    by : (b : Bool) (i o : Option (List DataType)) → (i >>= λ a. option_map (λ c. a ++ c) o) ≡ None
        → (b && (are_same P i (all_some
        (map (variable_type P here) (here.node.inputs ++ here.node.outputs))) && is_one_truth P o))
        ≡ false
    by b None o g = and-false b
    by b (Some a) None g = ap (λ c. b && c)
        (and-false (are_same P (Some a)
        (all_some (map (variable_type P here) (here.node.inputs ++ here.node.outputs)))))
        ∙ and-false b
    by b (Some a) (Some c) g = absurd cc

-- a test that is there and passes
abbrev pub is_so : Option Bool → Bool
is_so o = either_or o false

property_is : (P : Program) (r : Reached) (t : Table) (here : Instance) (f : InterfaceView)
    → IsReached P r
    → HasStarts P r t → Typed P here f
    → has_property P here (instance_at P Observer) ≡ is_so (property_in r t f)
property_is P r t here f reached table root =
    ap (has_property P here) (sym table.observer) ∙ by t.observer
  where
    with_types : (other : Instance) (n : ResolvedNode) (statics : List ℤ) (o : Option InterfaceView)
        → face_of P other ≡ o
        → has_property P here (Some other) ≡ is_so (option_map (λ p. observes p f) o)
    with_types other n statics None e = unobserved P here other (untyped P other e)
    with_types other n statics (Some p) e = observed P here other f p root (typed P other p e)

    found : (id : SpecializationId) (o : Option (ResolvedNode × List ℤ)) → valued_node_in r t id ≡ o
        → has_property P here (specialized_instance_at r t Observer id) ≡ is_so (property_by f o)
    found id None e = ap (has_property P here) (nothing_stands r t Observer id e)
        ∙ ap (is_one_truth P) root.outputs ∙ one_truth_is P (outputs_of f)
    found id (Some s) e =
        let there = stands P r t Observer id s.0 s.1 reached table e in
        ap (has_property P here) there.1
        ∙ with_types there.0 s.0 s.1 (interface_under s.0 s.1)
        (sym (face_is P (source_names P) there.0 s.0 s.1 there.2))

    by : (o : Option SpecializationId)
        → has_property P here (o >>= specialized_instance_at r t Observer)
        ≡ is_so (property_by f (o >>= valued_node_in r t))
    by None = ap (is_one_truth P) root.outputs ∙ one_truth_is P (outputs_of f)
    by (Some id) = found id (valued_node_in r t id) refl

-- ## The node under test

-- the interface of the node under test is there where instantiation refuses nothing
pub root_has_face : (P : Program) (r : Reached) (t : Table) (n : ResolvedNode) (statics : List ℤ)
    → IsReached P r → HasStarts P r t → instantiation_refusal P 0 (instances P) ≡ None
    → valued_node_in r t t.root ≡ Some (n, statics) → interface_under n statics ≡ None → ⊥
root_has_face P r t n statics reached table instantiated found none =
    let there = stands P r t Root t.root n statics reached table found in
    let here = there.0 in
    let is : instance_at P Root ≡ Some here = sym table.root ∙ there.1 in
    let no_types = untyped P here
    (sym (face_is P (source_names P) here n statics there.2) ∙ none) in
    let types = root_has_types P here is instantiated in
    false≢true (sym (ap is_some no_types) ∙ types)

-- the rule of the node under test, in terms of its interface
pub root_is : (P : Program) (r : Reached) (t : Table) (n : ResolvedNode) (statics : List ℤ)
    (f : InterfaceView) → IsReached P r → HasStarts P r t
    → valued_node_in r t t.root ≡ Some (n, statics) → interface_under n statics ≡ Some f
    → (holds (is_root P) (instance_at P Root)
    ≡ (f.is_plain && (nat_le (total (inputs_of f)) 1023 && is_so (property_in r t f))))
    × (signature P ≡ elements_named (map name_of f.node.inputs) (inputs_of f))
root_is P r t n statics f reached table found there_is =
    let there = stands P r t Root t.root n statics reached table found in
    let here = there.0 in
    let is : instance_at P Root ≡ Some here = sym table.root ∙ there.1 in
    let root = typed P here f
    (sym (face_is P (source_names P) here n statics there.2) ∙ there_is) in (
      ap (holds (is_root P)) is
          ∙ ap (λ b. b && (nat_le (length (signature P)) 1023
          && has_property P here (instance_at P Observer))) root.plain
          ∙ ap (λ k. f.is_plain && (nat_le k 1023 && has_property P here (instance_at P Observer)))
          (count_is P here f is root)
          ∙ ap (λ b. f.is_plain && (nat_le (total (inputs_of f)) 1023 && b))
          (property_is P r t here f reached table root),
      signature_is P here f is root,
    )

-- ## The number of scalar inputs

pub too_many : (n counted : ℕ) → counted ≡ min n 65537 → 1023 < counted → nat_le n 1023 ≡ false
too_many n counted e over = let more : 1023 < n = omega arith in grind (arith, nat_tests)

pub few_enough : (n counted : ℕ) → counted ≡ min n 65537 → counted ≤ 1023
    → (n ≤ 1023) × (nat_le n 1023 ≡ true)
few_enough n counted e within =
    let less : n ≤ 1023 = omega arith in (less, grind (arith, nat_tests))
