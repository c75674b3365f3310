-- The property of an accepted program is the one output, a truth value, of an instance.
use Rattle.lb_expand.proofs.Words
use Words.{nat_le, list_all, ◌>>=◌, Every, holds, either_or, listed, all_some, E4, E7, E8, unless}
use Words.{Name, Node, Declaration, and_first, and_second, DataType, truth, is_kind, same_sizes}
use Words.{product, element_count, variable_type, width, signature, Program, Instance, Root}
use Words.{Observer, node_named, start_at, instance_at, instances, static_refusal}
use Words.{instantiation_refusal, has_no_parameters, has_plain_clocks, fits_observer, has_property}
use Words.{is_root, keeps_names, is_well_founded, property_path, second_none, kept, names_kept}
use Words.{is_some, ◌≡◌, ℕ, true, Option, Some, None, option_map, List, [], ◌∷◌, map, length}
use Words.{flat_map, refl, ap, sym, ◌∙◌, arith, length-append}
use Rattle.lb_static.specs.{DataTypes.output_types, Instantiation.is_one_truth, Names.starts}

module _ (P : Program) where
  scalar_width :
      (o : Option DataType) → is_one_truth P (all_some (o ∷ [])) ≡ true →
      either_or (option_map element_count o) 0 ≡ 1
  scalar_width None e = absurd cc
  scalar_width (Some t) e = by t.sizes (and_second (is_kind t.kind truth.kind) _ e)
    where
      by : (ns : List ℕ) → same_sizes ns [] ≡ true → product ns ≡ 1
      by [] h = refl
      by (n ∷ ns) h = absurd cc

  no_two :
      (o p : Option DataType) (os : List (Option DataType)) →
      is_one_truth P (all_some (o ∷ (p ∷ os))) ≡ true → ⊥
  no_two None p os e = absurd cc
  no_two (Some s) None os e = absurd cc
  no_two (Some s) (Some t) os e = by (all_some os) e
    where
      by : (o : Option (List DataType)) →
          is_one_truth P (option_map (λ ts. s ∷ ts) (option_map (λ ts. t ∷ ts) o)) ≡ true → ⊥
      by None h = absurd cc
      by (Some ts) h = absurd cc

  -- where the one output is a truth value, the outputs have one element
  pub output_width :
      (here : Instance) (ds : List Declaration) (f : Declaration → List ℕ) →
      is_one_truth P (all_some (map (variable_type P here) ds)) ≡ true →
      Every (λ d. length (f d) ≡ width P here d) ds → length (flat_map f ds) ≡ 1
  output_width here [] f e h = absurd cc
  output_width here (d ∷ []) f e h =
      let own : length (f d) ≡ 1 = h.0 ∙ scalar_width (variable_type P here d) e in
      omega (arith, own, length-append (f d) [])
  output_width here (d ∷ (c ∷ ds)) f e h =
      absurd (no_two (variable_type P here d) (variable_type P here c)
      (map (variable_type P here) ds) e)

  -- the instance whose one output is the property
  pub record HasProperty : Type 0 where
    pub here : Instance
    pub stands : instance_at P (property_path P.observer) ≡ Some here
    pub is_truth : is_one_truth P (output_types P here) ≡ true

module _ (P : Program) (accepted : static_refusal P ≡ None) where
  pub rooted : holds (is_root P) (instance_at P Root) ≡ true
  rooted =
      let founded = second_none (unless (keeps_names P) E4) _ accepted in
      let parameters = second_none (unless (is_well_founded P) E7) _ founded in
      let instantiated = second_none (unless (has_no_parameters P) E8) _ parameters in
      kept (holds (is_root P) (instance_at P Root)) E8
      (second_none (instantiation_refusal P 0 (instances P)) _ instantiated)

  all_there : list_all is_some (starts P) ≡ true
  all_there = and_first _ _ (and_second _ _ (names_kept P accepted))

  observer_named : (f : Name) → P.observer ≡ Some f → is_some (node_named P f) ≡ true
  observer_named f some =
      let rest = and_second (is_some (node_named P P.root)) _ all_there in
      let one = sym (ap (λ o. list_all is_some (map (node_named P) (listed (λ x. x ∷ []) o))) some)
      ∙ rest in
      and_first (is_some (node_named P f)) true one

  not_none : (g : Node → Instance) (o : Option Node) → is_some o ≡ true → option_map g o ≡ None → ⊥
  not_none g None e h = absurd cc
  not_none g (Some n) e h = absurd cc

  alone :
      (root : Instance) → instance_at P Root ≡ Some root →
      has_property P root (instance_at P Observer) ≡ true → P.observer ≡ None → HasProperty P
  alone root is property none = record {
    here = root;
    stands = ap (λ o. instance_at P (property_path o)) none ∙ is;
    is_truth = sym (ap (λ o. has_property P root (o >>= start_at P Observer)) none) ∙ property;
  }

  observed :
      (root : Instance) → has_property P root (instance_at P Observer) ≡ true → (f : Name) →
      P.observer ≡ Some f → HasProperty P
  observed root property f some = by (start_at P Observer f) refl
    where
      by : (o : Option Instance) → start_at P Observer f ≡ o → HasProperty P
      by None e =
          absurd (not_none (λ n. record { path = Observer; node = n; values = [] })
          (node_named P f) (observer_named f some) e)
      by (Some observer) e =
          let there : instance_at P Observer ≡ Some observer =
          ap (λ o. o >>= start_at P Observer) some ∙ e in
          let all : has_property P root (Some observer) ≡ true =
          sym (ap (has_property P root) there) ∙ property in
          record {
            here = observer;
            stands = ap (λ o. instance_at P (property_path o)) some ∙ there;
            is_truth = and_second (fits_observer P root observer) _
                (and_second (has_plain_clocks P observer) _ all);
          }

  either_way :
      (root : Instance) → instance_at P Root ≡ Some root →
      has_property P root (instance_at P Observer) ≡ true → (o : Option Name) →
      P.observer ≡ o → HasProperty P
  either_way root is property None e = alone root is property e
  either_way root is property (Some f) e = observed root property f e

  -- an accepted program has an instance with the property as its one output
  pub property_of : HasProperty P
  property_of = by (instance_at P Root) refl rooted
    where
      by : (o : Option Instance) → instance_at P Root ≡ o → holds (is_root P) o ≡ true →
          HasProperty P
      by None is keeps = absurd cc
      by (Some root) is keeps =
          let later = and_second (has_plain_clocks P root) _ keeps in
          let property = and_second (nat_le (length (signature P)) 1023) _ later in
          either_way root is property P.observer refl
