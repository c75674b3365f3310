-- The scope of a node: variables stand before static parameters.
use Rattle.std.proofs.Common.{◌≡◌, ℕ, zero, suc, ◌+◌, ◌<◌, ◌≤◌, Bool, true, false, cond, List, []}
use Rattle.std.proofs.Common.{◌∷◌, ◌++◌, length, take, drop, get_or, map, Option, Some, None}
use Rattle.std.proofs.Common.{option_map, refl, ap, sym, subst, ◌∙◌, arith}
use Rattle.std.specs.Prelude.{◌&&◌, ◌||◌, not, nat_lt, nat_le, nat_eq, position, slice_get, find}
use Rattle.std.specs.List.{position_or_len}
use Rattle.std.specs.Str.{bytes_eq}
use Rattle.std.proofs.lemmas.Option.{slice_get_past, slice_get-map, slice_get_read}
use Rattle.std.proofs.lemmas.Bool.Decides.{nat_tests}
use Rattle.std.proofs.lemmas.List.{length-map, map-append, append_assoc}
use Rattle.std.proofs.Math.Seq.{drop-append_seam, take-append_seam}
use Rattle.std.proofs.lemmas.Slice.Eq.{bytes_eq-Decides}
use Rattle.lb_syntax.specs.Lists.{either_or, holds}
use Rattle.lb_syntax.specs.Tree as tree
use Rattle.lb_syntax.specs.declared.tree.Node as written
use Rattle.lb_syntax.specs.declared.tree.Source.{Source}
use Rattle.lb_syntax.specs.Grammar.{declarations, declared}
use Rattle.lb_syntax.specs.SourceView.{view_source, view_node, view_group, view_groups}
use Rattle.lb_syntax.specs.declared.tree.Declarations.{Declarations}
use Rattle.lb_syntax.specs.declared.tree.Kind.{Kind}
use Rattle.lb_syntax.specs.Tree.{Name, Node, Declaration, Static, Sampling}
use Rattle.lb_syntax.proofs.TruthValues.{or_first}
use Rattle.lb_static.specs.declared.node_scope.NodeScope.{NodeScope}
use Rattle.lb_static.specs.declared.error.StaticError.{StaticError}
use Rattle.lb_static.specs.SourceNames.{constants_in, names_in, names_in_source}
use Rattle.lb_static.specs.CountedNames.{Declares, are_once}
use Rattle.lb_static.specs.NameFaults.{IsNameFault, alone, is_told}
use Rattle.lb_static.specs.Names.{is_constant, is_static_name, is_variable}
use Rattle.lb_static.specs.NodeNames.{node_in, program_in, takes, IsVariableAt, IsCallee}
use Rattle.lb_static.specs.Parts.{among, declared_names, variable_names}
use Rattle.lb_static.proofs.Faults.{fault_within}
use Rattle.lb_static.proofs.Groups.{groups_next}
use Rattle.lb_static.proofs.TestedItems.{found_passes}
use Rattle.lb_static.proofs.Lists.{none_passes, some_passes, position_take}
use Rattle.lb_static.proofs.Scopes.{among_append, bytes_eq-symmetric, position_map, once_before}
use Rattle.lb_static.proofs.Scopes.{name_at_place}

-- ## Refused names

-- a name that is doubled in a front of a list is doubled in the list
pub front_fault : (e : StaticError) (front rest all : List Name) → front ++ rest ≡ all
    → IsNameFault e (are_once (is_told e Declares) front)
    → IsNameFault e (are_once (is_told e Declares) all)
front_fault e front rest all is h =
    fault_within e _ _ h (once_before (is_told e Declares) front rest all is)

-- ## Names of declarations

names_of_group : (k : Kind) (sizes : List Static) (clock : Option Sampling) (xs : List Name)
    → names_in (map (λ x. record { name = x; kind = k; sizes = sizes; clock = clock }) xs) ≡ xs
names_of_group k sizes clock [] = refl
names_of_group k sizes clock (x ∷ xs) = ap (λ l. x ∷ l) (names_of_group k sizes clock xs)

pub group_names : (g : Declarations) → names_in (declarations (view_group g)) ≡ g.names.items
group_names g = let v = view_group g in names_of_group v.kind v.sizes v.clock v.names

pub groups_names_next : (gs : List Declarations) (i : ℕ) (g : Declarations) → i < length gs
    → g ≡ get_or gs i g
    → names_in (declared (view_groups (drop i gs))) ≡ g.names.items
    ++ names_in (declared (view_groups (drop (i + 1) gs)))
groups_names_next gs i g below is =
    ap names_in (groups_next gs i g below is)
    ∙ map-append (λ d. d.name) (declarations (view_group g))
    (declared (view_groups (drop (i + 1) gs)))
    ∙ ap (λ l. l ++ names_in (declared (view_groups (drop (i + 1) gs)))) (group_names g)

-- the names before, the names of group `i` and the names of the groups behind it are all names
pub group_names_join : (before all : List Name) (gs : List Declarations) (i : ℕ) (g : Declarations)
    (names : List Name) → i < length gs → g ≡ get_or gs i g
    → names ≡ g.names.items → before ++ names_in (declared (view_groups (drop i gs))) ≡ all
    → (before ++ names) ++ names_in (declared (view_groups (drop (i + 1) gs))) ≡ all
group_names_join before all gs i g names below is same e =
    append_assoc before names _
    ∙ ap (λ l. before ++ (l ++ names_in (declared (view_groups (drop (i + 1) gs))))) same
    ∙ ap (λ l. before ++ l) (sym (groups_names_next gs i g below is)) ∙ e

-- the names of inputs, outputs and locals, list by list, are the names of the three lists together
pub names_split : (ins outs locals : List Declaration)
    → (names_in ins ++ names_in outs) ++ names_in locals ≡ names_in (ins ++ (outs ++ locals))
names_split ins outs locals =
    append_assoc (names_in ins) (names_in outs) (names_in locals)
    ∙ ap (λ l. names_in ins ++ l) (sym (map-append (λ d. d.name) outs locals))
    ∙ sym (map-append (λ d. d.name) ins (outs ++ locals))

module _ (n : Node) where
  pub locals_in : (front : List Name)
      → front ≡ (names_in n.inputs ++ names_in n.outputs) ++ names_in n.locals
      → front ++ n.parameters ≡ declared_names n
  locals_in front e = ap (λ l. l ++ n.parameters) (e ∙ names_split n.inputs n.outputs n.locals)

  pub outputs_in : (front : List Name) → front ≡ names_in n.inputs ++ names_in n.outputs
      → front ++ (names_in n.locals ++ n.parameters) ≡ declared_names n
  outputs_in front e = sym (append_assoc front (names_in n.locals) n.parameters)
      ∙ locals_in (front ++ names_in n.locals) (ap (λ l. l ++ names_in n.locals) e)

  pub inputs_in : (front : List Name) → front ≡ names_in n.inputs
      → front ++ (names_in n.outputs ++ (names_in n.locals ++ n.parameters)) ≡ declared_names n
  inputs_in front e =
      sym (append_assoc front (names_in n.outputs) (names_in n.locals ++ n.parameters))
      ∙ outputs_in (front ++ names_in n.outputs) (ap (λ l. l ++ names_in n.outputs) e)

-- ## Variables and static parameters

among_variables : (vars parameters all : List Name) (k : ℕ) (x : Name) (i : ℕ)
    → all ≡ vars ++ parameters → k ≡ length vars → position (bytes_eq x) all ≡ Some i
    → nat_lt i k ≡ among x vars
among_variables vars parameters all k x i e n at =
    position_take (bytes_eq x) k all i at
    ∙ ap (among x) (ap (take k) e ∙ ap (λ m. take m (vars ++ parameters)) n
    ∙ take-append_seam vars parameters)

static_at : (vars parameters all : List Name) (k : ℕ) (x : Name) (i : ℕ) (c : Bool)
    → all ≡ vars ++ parameters → k ≡ length vars → position (bytes_eq x) all ≡ Some i
    → nat_le k i ≡ (not (among x vars) && (among x parameters || c))
static_at vars parameters all k x i c e n at =
    by (nat_lt i k) (among x vars) (among x parameters) refl
    (among_variables vars parameters all k x i e n at)
    (sym (among_append x vars parameters) ∙ ap (among x) (sym e)
    ∙ some_passes (bytes_eq x) all i at)
  where
    by : (less v p : Bool) → nat_lt i k ≡ less → less ≡ v → (v || p) ≡ true
        → nat_le k i ≡ (not v && (p || c))
    by true true p l f g = grind (arith, nat_tests)
    by true false p l f g = absurd cc
    by false true p l f g = absurd cc
    by false false true l f g = grind (arith, nat_tests)
    by false false false l f g = absurd cc

module _ (here : NodeScope) where
  abbrev n : Node
  n = node_in here

  pub static_found : (x y : Name) (i : ℕ) → Some i ≡ position (bytes_eq y) here.declared → y ≡ x
      → nat_le here.variables i ≡ is_static_name (program_in here) n x
  static_found x y i at same =
      static_at (variable_names n) n.parameters here.declared here.variables y i
      (is_constant (program_in here) y) here.names_are here.variables_are (sym at)
      ∙ ap (is_static_name (program_in here) n) same

  among_constants : (x : Name)
      → among x (take here.globals.now.constants here.globals.now.names)
      ≡ is_constant (program_in here) x
  among_constants x =
      let source = view_source here.source.now in
      let count : here.globals.now.constants ≡ length (constants_in source) =
      here.constants_are ∙ sym (length-map _ _) ∙ sym (length-map _ _) in
      ap (among x) (ap (take here.globals.now.constants) here.globals_are
      ∙ ap (λ m. take m (names_in_source source)) count ∙ take-append_seam (constants_in source) _)

  -- the place of a name among the names of nodes is the place of the node with this name
  pub nodes_placed : (y : Name)
      → position (bytes_eq y) (drop here.globals.now.constants here.globals.now.names)
      ≡ position (λ (m : written.Node). bytes_eq m.name y) here.source.now.nodes.items
  nodes_placed y =
      let source = view_source here.source.now in
      let items = here.source.now.nodes.items in
      let count : here.globals.now.constants ≡ length (constants_in source) =
      here.constants_are ∙ sym (length-map _ _) ∙ sym (length-map _ _) in
      ap (position (bytes_eq y))
      (ap (drop here.globals.now.constants) here.globals_are
      ∙ ap (λ m. drop m (names_in_source source)) count ∙ drop-append_seam (constants_in source) _)
      ∙ sym (position_map (bytes_eq y) (λ (m : Node). m.name) (map view_node items))
      ∙ sym (position_map (λ (m : Node). bytes_eq y m.name) view_node items)
      ∙ (λ j. position (λ (m : written.Node). bytes_eq-symmetric y m.name j) items)

  pub static_not_found : (x y : Name) (c : Bool) → None ≡ position (bytes_eq y) here.declared
      → y ≡ x
      → c ≡ among y (take here.globals.now.constants here.globals.now.names)
      → c ≡ is_static_name (program_in here) n x
  static_not_found x y c at same is =
      is ∙ among_constants y
      ∙ by (among y (variable_names n)) (among y n.parameters) (is_constant (program_in here) y)
      (sym (among_append y (variable_names n) n.parameters) ∙ ap (among y) (sym here.names_are)
      ∙ none_passes (bytes_eq y) here.declared (sym at))
      ∙ ap (is_static_name (program_in here) n) same
    where
      by : (v p c : Bool) → (v || p) ≡ false → c ≡ (not v && (p || c))
      by true p c e = absurd cc
      by false true c e = absurd cc
      by false false c e = refl

  slice_get_front : {A : Type 0} (xs ys : List A) (i : ℕ) (x : A) → i < length xs
      → slice_get (xs ++ ys) i ≡ Some x → slice_get xs i ≡ Some x
  slice_get_front [] ys i x below e = absurd (omega arith)
  slice_get_front (z ∷ xs) ys zero x below e = e
  slice_get_front (z ∷ xs) ys (suc i) x below e = slice_get_front xs ys i x (omega arith) e

  pub variable_found : (x y : Name) (i : ℕ) → Some i ≡ position (bytes_eq y) here.declared → y ≡ x
      → i < here.variables → IsVariableAt n x (record { 0 = i })
  variable_found x y i at same below =
      let m = here.variables_are in
      let within : i < length (variable_names n) = omega arith in
      let found = ap (λ l. slice_get l i) (sym here.names_are)
      ∙ name_at_place y here.declared i (sym at) in (
        ap (λ o. either_or o []) (slice_get_front (variable_names n) n.parameters i y within found)
            ∙ same,
        grind (arith, nat_tests),
      )

  pub is_variable_at : (x y : Name) (i : ℕ) → Some i ≡ position (bytes_eq y) here.declared → y ≡ x
      → nat_lt i here.variables ≡ is_variable (program_in here) n x
  is_variable_at x y i at same =
      among_variables (variable_names n) n.parameters here.declared here.variables y i
      here.names_are here.variables_are (sym at)
      ∙ ap (is_variable (program_in here) n) same

  pub no_variable : (x y : Name) → None ≡ position (bytes_eq y) here.declared → y ≡ x
      → is_variable (program_in here) n x ≡ false
  no_variable x y at same =
      ap (is_variable (program_in here) n) (sym same)
      ∙ or_first (among y (variable_names n)) (among y n.parameters)
      (sym (among_append y (variable_names n) n.parameters) ∙ ap (among y) (sym here.names_are)
      ∙ none_passes (bytes_eq y) here.declared (sym at))

-- ## Nodes by name

-- the item at the first place that passes is the item that is found
found_at : {A : Type 0} (p : A → Bool) (xs : List A)
    → slice_get xs (position_or_len p xs) ≡ find p xs
found_at p [] = refl
found_at p (x ∷ xs) = step (p x) (position_or_len p xs) (found_at p xs)
  where
    step : (b : Bool) (m : ℕ) → slice_get xs m ≡ find p xs
        → slice_get (x ∷ xs) (cond (not b) (1 + m) 0) ≡ cond b (Some x) (find p xs)
    step true m h = refl
    step false m h = let one_more : suc m ≡ 1 + m =
        omega arith in subst (λ k. slice_get (x ∷ xs) k ≡ find p xs) one_more h

pub find_placed : {A : Type 0} (p : A → Bool) (xs : List A) (i : ℕ) → position p xs ≡ Some i
    → slice_get xs i ≡ find p xs
find_placed p xs i e = by (nat_lt (position_or_len p xs) (length xs)) (position_or_len p xs) refl e
  where
    by : (b : Bool) (m : ℕ) → position_or_len p xs ≡ m → cond b (Some m) None ≡ Some i
        → slice_get xs i ≡ find p xs
    by true m is h = let same : m ≡ i = cc in ap (slice_get xs) (sym (is ∙ same)) ∙ found_at p xs
    by false m is h = absurd cc

pub past_all : {A : Type 0} (p : A → Bool) (xs : List A) → position p xs ≡ None
    → length xs ≤ position_or_len p xs
past_all p xs e = by (nat_lt (position_or_len p xs) (length xs)) refl e
  where
    by : (b : Bool) → nat_lt (position_or_len p xs) (length xs) ≡ b
        → cond b (Some (position_or_len p xs)) None ≡ None → length xs ≤ position_or_len p xs
    by true is h = absurd cc
    by false is h = grind (arith, nat_tests)

pub find_none : {A : Type 0} (p : A → Bool) (xs : List A) → position p xs ≡ None → find p xs ≡ None
find_none p xs e = sym (found_at p xs) ∙ slice_get_past xs (position_or_len p xs) (past_all p xs e)

pub position_within : {A : Type 0} (p : A → Bool) (xs : List A) (i : ℕ) → position p xs ≡ Some i
    → i < length xs
position_within p xs i e =
    by (nat_lt (position_or_len p xs) (length xs)) (position_or_len p xs) refl e
  where
    by : (b : Bool) (m : ℕ) → nat_lt m (length xs) ≡ b → cond b (Some m) None ≡ Some i
        → i < length xs
    by true m is h = let same : m ≡ i =
        cc in let less : m < length xs = grind (arith, nat_tests) in omega arith
    by false m is h = absurd cc

module _ (source : Source) (f y : Name) (same : y ≡ f) where
  abbrev is_named_so : Name → tree.Node → Bool
  is_named_so x n = bytes_eq n.name x

  abbrev nodes : List tree.Node
  nodes = map view_node source.nodes.items

  pub no_callee : (count : ℕ)
      → position (λ (n : written.Node). bytes_eq n.name y) source.nodes.items ≡ None
      → takes (alone (view_source source)) f count ≡ false
  no_callee count e =
      ap (λ x. takes (alone (view_source source)) x count) (sym same)
      ∙ ap (holds (λ (callee : tree.Node). nat_eq count (length callee.parameters)))
      (find_none (is_named_so y) nodes
      (sym (position_map (is_named_so y) view_node source.nodes.items) ∙ e))

  module _ (i : ℕ) (x : written.Node)
      (at : position (λ (n : written.Node). bytes_eq n.name y) source.nodes.items ≡ Some i)
      (is : x ≡ get_or source.nodes.items i x) where
    below : i < length source.nodes.items
    below = position_within _ source.nodes.items i at

    stands : slice_get nodes i ≡ Some (view_node x)
    stands = slice_get-map view_node source.nodes.items i
        ∙ ap (option_map view_node)
        (slice_get_read source.nodes.items (length source.nodes.items) i x refl below is)

    found : find (is_named_so y) nodes ≡ Some (view_node x)
    found = sym (find_placed (is_named_so y) nodes i
        (sym (position_map (is_named_so y) view_node source.nodes.items) ∙ at)) ∙ stands

    pub takes_so : (count : ℕ)
        → takes (alone (view_source source)) f count ≡ nat_eq count (length x.parameters.items)
    takes_so count =
        ap (λ z. takes (alone (view_source source)) z count) (sym same)
        ∙ ap (holds (λ (callee : tree.Node). nat_eq count (length callee.parameters))) found

    pub callee_at : (count : ℕ) → count ≡ length x.parameters.items
        → IsCallee (alone (view_source source)) f count (record { 0 = i })
    callee_at count e =
        let named_so = (bytes_eq-Decides x.name y).0
        (found_passes (is_named_so y) nodes (view_node x) found) in
        let names : slice_get (map (λ (n : tree.Node). n.name) nodes) i ≡ Some f =
        slice_get-map (λ (n : tree.Node). n.name) nodes i
        ∙ ap (option_map (λ (n : tree.Node). n.name)) stands ∙ ap Some (named_so ∙ same) in
        let long : length (map (λ (n : tree.Node). n.name) nodes) ≡ length source.nodes.items =
        length-map _ _ ∙ length-map _ _ in
        let less : i < length source.nodes.items = below in
        let equal : nat_eq count (length x.parameters.items) ≡ true = grind (arith, nat_tests) in
        (ap (λ o. either_or o []) names, grind (arith, nat_tests), takes_so count ∙ equal)
