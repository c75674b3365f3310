-- The first rule that a program breaks, and the node that breaks it.
use Rattle.lb_check.proofs.Words
use Words.{Bool, E10, E9, Elaboration, Global, IfOk, IfSome, In, Instance, IsJudged, IsLawful, List}
use Words.{Node, NodeId, NodeTypes, None, Option, Part, Path, Program, Reached, Result, Some}
use Words.{Specialization, Table, Vec, [], ap, arith, check_refusal, cond, elaborated_program}
use Words.{false, find, holds, instances, instantiation_refusal, is_clocked, is_defined}
use Words.{is_part_typed, is_some, is_specialization_typed, is_typed, keeps_names, list_all}
use Words.{map, not, not-false, not-true, option_map, or_else, refl, slice_get, slice_get-map}
use Words.{specialized_at, static_refusal, subst, suc, sym, tree_at, true, unless, zero, ℕ, ◌<◌}
use Words.{◌∙◌, ◌∷◌, ◌≡◌}
use Rattle.lb_check.proofs.lists.ListPairs.{all_pass, not_all_pass}
use Rattle.lb_check.proofs.typing.Specializations.{has_instance}
use Rattle.lb_check.proofs.typing.TypedSpecializations.{instances_typed, specialization_part}
use Rattle.lb_check.proofs.typing.TypedSpecializations.{specialization_typed}
use Rattle.lb_check.specs.{BrokenRules.IsBroken, FoundParts.AreJudgedTypes}
use Rattle.lb_check.specs.{FoundParts.IsIllTypedAt, PlacedTypes.AreFound}
use Rattle.lb_check.specs.declared.{judged_types.IllTyped.IllTyped, part.IllFormed.IllFormed}
use Rattle.lb_static.specs.{Elaborated.IsElaborated, Instantiation.has_no_parameters}
use Rattle.{lb_static.specs.Names.is_well_founded, lb_syntax.specs.Refusals.{E11, E4, E7, E8}}
use Rattle.{lb_syntax.specs.Refusals.Refusal, std.{proofs.Common.Err, specs.Prelude.{IfErr, Ok}}}
use Rattle.std.specs.Prelude.{is_ok}

-- The first of the rules of types, clocks and definitions that an elaborated program breaks.

-- ## Rules in a row

pub first_none : {A : Type 0} (o p : Option A) → or_else o p ≡ None → o ≡ None
first_none o p e = grind arith

pub second_none : {A : Type 0} (o p : Option A) → or_else o p ≡ None → p ≡ None
second_none o p e = grind arith

pub kept : (b : Bool) (r : Refusal) → unless b r ≡ None → b ≡ true
kept true r e = refl
kept false r e = absurd cc

-- ## An elaborated program

pub names_kept : (P : Program) → static_refusal P ≡ None → keeps_names P ≡ true
names_kept P e = kept (keeps_names P) E4 (first_none (unless (keeps_names P) E4) _ e)

pub instantiation_kept : (P : Program) → static_refusal P ≡ None
    → instantiation_refusal P 0 (instances P) ≡ None
instantiation_kept P e =
    let calls = second_none (unless (keeps_names P) E4) _ e in
    let parameters = second_none (unless (is_well_founded P) E7) _ calls in
    first_none (instantiation_refusal P 0 (instances P)) _
    (second_none (unless (has_no_parameters P) E8) _ parameters)

pub judged : (P : Program) (e : Elaboration) → IsElaborated P e → IsJudged P e.reached e.table
judged P e is = record {
  names = names_kept P is.accepted;
  reached = is.reached;
  table = is.table;
  instantiated = instantiation_kept P is.accepted;
}

-- ## A node that breaks a rule

pub broken : {A : Type 0} (o : Option A) (x : A) (b : Bool) → is_some o ≡ not b → o ≡ Some x →
    b ≡ false
broken o x b e is = grind arith

pub kept_by : {A : Type 0} (o : Option A) (b : Bool) → is_some o ≡ not b →
    ((x : A) → o ≡ Some x → ⊥) → b ≡ true
kept_by None true e none = refl
kept_by None false e none = absurd cc
kept_by (Some x) b e none = absurd (none x refl)

-- the program of a lawful elaboration is judged
pub judged_here : (e : Elaboration) (r : Reached) (t : Table) → IsLawful e → r ≡ e.reached →
    t ≡ e.table → IsJudged (elaborated_program e) r t
judged_here e r t is same_nodes same_table =
    let P = elaborated_program e in
    subst (λ r. IsJudged P r t) (sym same_nodes)
    (subst (λ t. IsJudged P e.reached t) (sym same_table) (judged P e is))

-- ## The first of three rules

module _ (P : Program) where
  abbrev typed : Bool
  typed = list_all (is_typed P) (instances P)

  abbrev clocked : Bool
  clocked = list_all (λ here. is_clocked P here.node) (instances P)

  abbrev pub defined : Bool
  defined = list_all (λ here. is_defined P here.node) (instances P)

  abbrev first_of_three : (a b c : Bool) → Option Refusal
  first_of_three a b c = or_else (unless a E9) (or_else (unless b E10) (unless c E11))

  pub by_tests : (a b c : Bool) → typed ≡ a → clocked ≡ b → defined ≡ c →
      check_refusal P ≡ first_of_three a b c
  by_tests a b c e f g = rw (e, f, g) refl

  pub all_kept : typed ≡ true → clocked ≡ true → defined ≡ true → check_refusal P ≡ None
  all_kept e f g = by_tests true true true e f g

-- The node that the code answers breaks the rule.

-- ## The first item that is found

-- `x` is the first item of `xs` that passes `f`
abbrev IsFound : {A : Type 0} → (A → Bool) → List A → A → Type 0
IsFound {A} f xs x =
    (i : ℕ) × (slice_get xs i ≡ Some x) × (f x ≡ true)
    × ((k : ℕ) (y : A) → k < i → slice_get xs k ≡ Some y → f y ≡ false)

found_at : {A : Type 0} (f : A → Bool) (xs : List A) (x : A) → find f xs ≡ Some x → IsFound f xs x
found_at f [] x e = absurd cc
found_at f (y ∷ xs) x e = by (f y) (found_at f xs x) refl e
  where
    by : (b : Bool) → (find f xs ≡ Some x → IsFound f xs x) → f y ≡ b →
        cond b (Some y) (find f xs) ≡ Some x
        → IsFound f (y ∷ xs) x
    by true later is e =
        let same : y ≡ x = cc in
        (0, e, subst (λ z. f z ≡ true) same is, λ k z lt at. absurd (omega arith))
    by false later is e =
        let rest = later e in
        (suc rest.0, rest.1, rest.2, earlier rest.0 rest.3)
      where
        earlier : (i : ℕ) → ((k : ℕ) (z : _) → k < i → slice_get xs k ≡ Some z → f z ≡ false)
            → (k : ℕ) (z : _) → k < suc i → slice_get (y ∷ xs) k ≡ Some z → f z ≡ false
        earlier i none zero z lt at = let same : y ≡ z = cc in subst (λ w. f w ≡ false) same is
        earlier i none (suc k) z lt at = none k z (omega arith) at

mapped : {A B : Type 0} (g : A → B) (o : Option A) (y : B) → option_map g o ≡ Some y →
    (x : A) × (o ≡ Some x) × (g x ≡ y)
mapped g None y e = absurd cc
mapped g (Some x) y e = let same : g x ≡ y = cc in (x, refl, same)

pub find_mapped : {A B : Type 0} (g : A → B) (f : B → Bool) (xs : List A) →
    find f (map g xs) ≡ option_map g (find (λ x. f (g x)) xs)
find_mapped g f [] = refl
find_mapped g f (x ∷ xs) = grind (arith, find_mapped g f xs)

-- an item is found exactly where not all items pass the test
all_or_some : {A B : Type 0} (g : A → B) (f : A → Bool) (xs : List A) →
    is_some (option_map g (find (λ x. not (f x)) xs)) ≡ not (list_all f xs)
all_or_some g f [] = refl
all_or_some g f (x ∷ xs) = grind (arith, all_or_some g f xs)

is_some_mapped : {A B : Type 0} (g : A → B) (o : Option A) → is_some o ≡ is_some (option_map g o)
is_some_mapped g o = grind arith

pub not_all : {A B C : Type 0} (g : A → B) (f : A → Bool) (xs : List A) (h : C → B)
    (found : Option C) → option_map h found ≡ option_map g (find (λ x. not (f x)) xs)
    → is_some found ≡ not (list_all f xs)
not_all g f xs h found e = is_some_mapped h found ∙ ap is_some e ∙ all_or_some g f xs

-- ## A node that is answered

pub if_found : {A E : Type 0} (r : Result A E) (C D : A → Type 0) → IfOk r C →
    ((a : A) → C a → D a) → IfOk r D
if_found (Ok a) C D h f = f a h
if_found (Err e) C D h f = h

pub both_found : {A E : Type 0} (r : Result A E) (B C D : A → Type 0) → IfOk r B → IfOk r C →
    ((a : A) → B a → C a → D a) → IfOk r D
both_found (Ok a) B C D g h f = f a g h
both_found (Err e) B C D g h f = h

-- the types that are found of each specialization
pub types_found : (r : Reached) (t : Table) (found : Result (Option (Vec NodeTypes Global)) IllTyped)
    → AreJudgedTypes r t found → IfOk found (AreFound r t)
types_found r t (Ok types) told = told.1
types_found r t (Err f) told = tt

pub told : {A : Type 0} (o : Option A) (x : A) (Q : A → Type 0) → IfSome o Q → o ≡ Some x → Q x
told None id Q q e = absurd cc
told (Some k) id Q q e = let same : k ≡ id = cc in subst Q same q

module _ (P : Program) (r : Reached) where
  -- the instance of a specialization at a path has the node of the specialization
  tree_is : (p : Path) (s : Specialization) (here : Instance) → specialized_at r p s ≡ Some here →
      tree_at r s.node ≡ Some here.node
  tree_is p s here e = grind arith

  module _ (t : Table) (j : IsJudged P r t) where
    abbrev ss : List Specialization
    ss = t.specializations.items

    -- types: a specialization that breaks them in a part has an instance that does
    types_broken : (place : ℕ) (id : NodeId) (p : Part) → IsIllTypedAt r t place id p →
        IsBroken (is_typed P) (is_part_typed P) P r id p
    types_broken place id p (s, at, same, broken) =
        let h = has_instance P r t j.table place s at in (
          h.1,
          h.2,
          ap (tree_at r) (sym same) ∙ tree_is h.0 s h.1 h.3,
          specialization_typed P r t j place s at h.0 h.1 h.3 ∙ broken.0,
          specialization_part P r t j place s at h.0 h.1 h.3 p broken,
        )

    abbrev Found : Type 0
    Found = Result (Option (Vec NodeTypes Global)) IllTyped

    pub types_named : (found : Found) → AreJudgedTypes r t found →
        IfErr found (λ f. IsBroken (is_typed P) (is_part_typed P) P r f.node f.part)
    types_named (Ok types) told = tt
    types_named (Err f) told = types_broken f.place f.node f.part told.1

    -- types are found exactly where each instance keeps the rules
    pub types_judged : (found : Found) → AreJudgedTypes r t found →
        is_ok found ≡ list_all (is_typed P) (instances P)
    types_judged (Ok types) told =
        sym (all_pass (is_specialization_typed r t) ss (sym told.0)) ∙ instances_typed P r t j
    types_judged (Err f) told =
        sym (not_all_pass (is_specialization_typed r t) ss f.place (sym told.0))
        ∙ instances_typed P r t j

    -- clocks and definitions: whether the node of a specialization keeps a rule
    abbrev in_tree : (Node → Bool) → Specialization → Bool
    in_tree rule s = holds rule (tree_at r s.node)

    node_broken : (rule : Node → Bool) (i : ℕ) (s : Specialization) → slice_get ss i ≡ Some s →
        in_tree rule s ≡ false
        → (here : Instance) × In here (instances P) × (tree_at r s.node ≡ Some here.node)
        × (rule here.node ≡ false)
    node_broken rule i s at broken =
        let h = has_instance P r t j.table i s at in
        let tree = tree_is h.0 s h.1 h.3 in
        (h.1, h.2, tree, sym (ap (holds rule) tree) ∙ broken)

    -- clocks and definitions: the first node that breaks a rule by the code breaks it by the
    -- definitions, and so does its part
    module _ (rule : Node → Bool) (part_rule : Node → Part → Bool) (code : NodeId → Bool)
        (Fact : NodeId → Part → Type 0)
        (first : (i : ℕ) (s : Specialization) → slice_get t.specializations.items i ≡ Some s →
        code s.node ≡ false
        → ((k : ℕ) (m : Specialization) → k < i → slice_get t.specializations.items k ≡ Some m →
        code m.node ≡ true) → holds rule (tree_at r s.node) ≡ false)
        (first_part : (i : ℕ) (s : Specialization) → slice_get t.specializations.items i ≡ Some s →
        code s.node ≡ false
        → ((k : ℕ) (m : Specialization) → k < i → slice_get t.specializations.items k ≡ Some m →
        code m.node ≡ true) → (p : Part) → Fact s.node p → (n : Node) → tree_at r s.node ≡ Some n →
        part_rule n p ≡ false) where
      node_named : (id : NodeId) (p : Part) → Fact id p →
          Some id ≡ find (λ id. not (code id)) (map (λ s. s.node) t.specializations.items)
          → IsBroken (λ here. rule here.node) (λ here. part_rule here.node) P r id p
      node_named id p fact e =
          let f = found_at (λ id. not (code id)) (map (λ s. s.node) ss) id (sym e) in
          let s = mapped (λ s. s.node) (slice_get ss f.0) id
          (sym (slice_get-map (λ s. s.node) ss f.0) ∙ f.1) in
          let broken = subst (λ k. code k ≡ false) (sym s.2) (not-true (code id) f.2) in
          let earlier = λ (k : ℕ) (m : Specialization) (lt : k < f.0)
          (at : slice_get ss k ≡ Some m).
          not-false (code m.node) (f.3 k m.node lt
          (slice_get-map (λ s. s.node) ss k ∙ ap (option_map (λ s. s.node)) at)) in
          let b = node_broken rule f.0 s.0 s.1 (first f.0 s.0 s.1 broken earlier) in
          subst (λ (k : NodeId). IsBroken (λ here. rule here.node) (λ here. part_rule here.node) P
          r k p) s.2 (
            b.0,
            b.1,
            b.2,
            b.3,
            first_part f.0 s.0 s.1 broken earlier p
                (subst (λ (k : NodeId). Fact k p) (sym s.2) fact) b.0.node b.2,
          )

      pub part_named : (found : Option IllFormed) →
          option_map (λ f. f.node) found
          ≡ find (λ id. not (code id)) (map (λ s. s.node) t.specializations.items)
          → IfSome found (λ f. Fact f.node f.part)
          → IfSome found (λ f. IsBroken (λ here. rule here.node) (λ here. part_rule here.node) P r
          f.node f.part)
      part_named None e told = tt
      part_named (Some f) e told = node_named f.node f.part told e
