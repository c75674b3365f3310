-- The variables of groups of declarations.
use Rattle.std.proofs.Common.{◌≡◌, ℕ, zero, suc, ◌+◌, ◌<◌, Bool, true, false, List, [], ◌∷◌, ◌++◌}
use Rattle.std.proofs.Common.{◌≤◌, length, take, get_or, map, Option, refl, ap, sym, subst, ◌∙◌}
use Rattle.std.proofs.Common.{vec_len, length-append, arith}
use Rattle.std.specs.Prelude.{◌&&◌, nat_eq, flat_map}
use Rattle.std.specs.List.{list_all}
use Rattle.std.proofs.lemmas.List.{append-nil, map-append, take_more, append_assoc}
use Rattle.std.proofs.lemmas.List.{nil_from_length}
use Rattle.std.proofs.lemmas.Bool.Decides.{nat_tests}
use Rattle.std.proofs.lemmas.Bool.{and_from, and_left, and_right}
use Rattle.std.proofs.lemmas.List.Folds.{list_all-append}
use Rattle.lb_syntax.specs.Grammar.{Group, declarations, declared}
use Rattle.lb_syntax.specs.SourceView.{view_group, view_groups}
use Rattle.lb_syntax.specs.Tree.{Name, Declaration}
use Rattle.lb_syntax.specs.declared.tree.Declarations.{Declarations}
use Rattle.lb_static.specs.NameFaults.{IsNameFault}
use Rattle.lb_static.specs.NodeProgress.{Progress, texts, counts_in, grown, nameless, after_group}
use Rattle.lb_static.specs.NodeProgress.{after_groups, with_variable, with_alike, declaration_fits}
use Rattle.lb_static.specs.NodeProgress.{statics_fit, clock_fits, ClockStands, StaticsStand}
use Rattle.lb_static.specs.NodeProgress.{statics_told, clock_told, declaration_told}
use Rattle.lb_static.specs.Parts.{variable_names}
use Rattle.lb_static.specs.ResolvedTerms.{declaration_of, is_declared_within}
use Rattle.lb_static.specs.SharedParts.{with_parts}
use Rattle.lb_static.specs.StaticParts.{Dimension, group_parts, if_named}
use Rattle.lb_static.specs.declared.error.StaticError.{StaticError}
use Rattle.lb_static.specs.declared.resolved.Sampling as resolved
use Rattle.lb_static.specs.declared.resolved.StaticId.{StaticId}
use Rattle.lb_static.specs.declared.resolved.Variable.{Variable}
use Rattle.lb_static.proofs.Faults.{fault_within}
use Rattle.lb_static.proofs.Lists.{map_map}
use Rattle.lb_static.proofs.Resolutions.{flat_more}
use Rattle.lb_static.proofs.SharedParts.{kept_twice}

-- ## Names and their number

-- a group without a name declares nothing
pub empty_fits : (s : Progress) (g : Declarations) → nat_eq (vec_len g.names) 0 ≡ true
    → list_all (declaration_fits s) (declarations (view_group g)) ≡ true
empty_fits s g e =
    let none : vec_len g.names ≡ 0 = grind (arith, nat_tests) in
    let long : length g.names.items ≡ 0 = omega (arith, none, g.names.ok.0) in
    let h = view_group g in
    ap (λ l. list_all (declaration_fits s)
    (map (λ x. record { name = x; kind = h.kind; sizes = h.sizes; clock = h.clock }) l))
    (nil_from_length g.names.items long)

-- no variable goes where some groups are added
pub more_declared : (s after : Progress) (gs : List Group) (n m : ℕ) → after ≡ after_groups s gs
    → n ≡ length s.declared → m ≡ length after.declared → n ≤ m
more_declared s after gs n m is before later =
    let e : length after.declared ≡ length s.declared + length (map nameless (declared gs)) =
    ap (λ k. length k.declared) is ∙ length-append s.declared (map nameless (declared gs)) in
    omega arith

-- ## Variables that are all alike

pub none_alike : (s : Progress) (v : Variable) → s ≡ with_alike s [] v
none_alike s v = λ j. record {
  source = s.source;
  node =
      s.node;
  declared = sym (append-nil s.declared) j;
  parts = s.parts;
  calls = s.calls;
}

-- the progress with one more variable of a group
pub one_more_alike : (start here after : Progress) (names : List Name) (i : ℕ) (x : Name)
    (v : Variable) → i < length names → here ≡ with_alike start (take i names) v
    → after ≡ with_variable here
    (declaration_of (variable_names here.node) (texts here).statics [] v)
    → after ≡ with_alike start (take (i + 1) names) v
one_more_alike start here after names i x v below is grew =
    let d : Declaration = declaration_of (variable_names start.node) (texts start).statics [] v in
    let g : after ≡ with_variable (with_alike start (take i names) v) d =
    subst (λ k. after ≡ with_variable k
    (declaration_of (variable_names k.node) (texts k).statics [] v)) is grew in
    let more : (start.declared ++ map (λ y. d) (take i names)) ++ d ∷ [] ≡ start.declared
    ++ map (λ y. d) (take (i + 1) names) =
    append_assoc start.declared (map (λ y. d) (take i names)) (d ∷ [])
    ∙ ap (λ l. start.declared ++ l)
    (sym (map-append (λ y. d) (take i names) (get_or names i x ∷ []))
    ∙ ap (map (λ y. d)) (sym (take_more names i x below))) in
    g ∙ (λ j. record {
      source =
          start.source;
      node = start.node;
      declared = more j;
      parts = start.parts;
      calls = start.calls;
    })

pub still_fits : (start here : Progress) (names : List Name) (v : Variable)
    → here ≡ with_alike start names v → is_declared_within (counts_in (texts start)) v ≡ true
    → is_declared_within (counts_in (texts here)) v ≡ true
still_fits start here names v is h =
    subst (λ k. is_declared_within (counts_in (texts k)) v ≡ true) (sym is) h

-- ## A group

abbrev alike : Group → Name → Declaration
alike g x = record { name = x; kind = g.kind; sizes = g.sizes; clock = g.clock }

group_fits_of : (s : Progress) (g : Group) (names : List Name)
    → (statics_fit s g.sizes && clock_fits s g.clock) ≡ true
    → list_all (declaration_fits s) (map (alike g) names) ≡ true
group_fits_of s g [] h = refl
group_fits_of s g (x ∷ names) h = and_from _ _ h (group_fits_of s g names h)

pub group_fits : (s : Progress) (g : Group) → statics_fit s g.sizes ≡ true
    → clock_fits s g.clock ≡ true → list_all (declaration_fits s) (declarations g) ≡ true
group_fits s g h k = group_fits_of s g g.names (and_from _ _ h k)

group_fails : (f : StaticError) (s : Progress) (g : Group) (names : List Name)
    → nat_eq (length names) 0 ≡ false
    → (statics_told f s g.sizes && clock_told f s g.clock) ≡ false
    → list_all (declaration_told f s) (map (alike g) names) ≡ false
group_fails f s g [] e h = absurd cc
group_fails f s g (x ∷ names) e h =
    and_left _ (list_all (declaration_told f s) (map (alike g) names)) h

pub clock_fault : (f : StaticError) (s : Progress) (g : Group) → nat_eq (length g.names) 0 ≡ false
    → IsNameFault f (clock_told f s g.clock)
    → IsNameFault f (list_all (declaration_told f s) (declarations g))
clock_fault f s g some h =
    fault_within f _ _ h (λ e. group_fails f s g g.names some
    (and_right (statics_told f s g.sizes) _ e))

pub sizes_fault : (f : StaticError) (s : Progress) (g : Group) → nat_eq (length g.names) 0 ≡ false
    → IsNameFault f (statics_told f s g.sizes)
    → IsNameFault f (list_all (declaration_told f s) (declarations g))
sizes_fault f s g some h =
    fault_within f _ _ h (λ e. group_fails f s g g.names some
    (and_left _ (clock_told f s g.clock) e))

pub group_done : (s mid after : Progress) (g : Group) (first : StaticId) (count : ℕ)
    (clock : Option resolved.Sampling) → nat_eq (length g.names) 0 ≡ false
    → mid ≡ grown s (map (λ x. (Dimension, x)) g.sizes) [] → StaticsStand mid g.sizes (first, count)
    → ClockStands s g.clock clock
    → after ≡ with_alike mid g.names
    (record { kind = g.kind; first_size = first; sizes = count; clock = clock })
    → after ≡ after_group s g
group_done s mid after g first count clock some is stand told grew =
    let m = grown s (map (λ x. (Dimension, x)) g.sizes) [] in
    let v : Variable = record { kind = g.kind; first_size = first; sizes = count; clock = clock } in
    let h : after ≡ with_alike m g.names v = subst (λ k. after ≡ with_alike k g.names v) is grew in
    let sizes = (subst (λ k. StaticsStand k g.sizes (first, count)) is stand).0 in
    let one : declaration_of (variable_names s.node) (texts m).statics [] v
    ≡ nameless (alike g []) =
    λ j. record { name = []; kind = g.kind; sizes = sizes j; clock = told.0 j } in
    let all : map (λ x. declaration_of (variable_names s.node) (texts m).statics [] v) g.names
    ≡ map nameless (declarations g) =
    ap (λ d. map (λ (x : Name). d) g.names) one ∙ sym (map_map (alike g) nameless g.names) in
    let parts : map (λ x. (Dimension, x)) g.sizes ≡ group_parts g = by g.names some in
    let calls : s.calls ++ [] ≡ s.calls = append-nil s.calls in
    h ∙ (λ j. record {
      source = s.source;
      node =
          s.node;
      declared = s.declared ++ all j;
      parts = with_parts s.parts (parts j);
      calls = calls j;
    })
  where
    by : (names : List Name) → nat_eq (length names) 0 ≡ false
        → map (λ x. (Dimension, x)) g.sizes ≡ if_named names (map (λ x. (Dimension, x)) g.sizes)
    by [] e = absurd cc
    by (x ∷ names) e = refl

-- ## Groups

groups_more : (gs : List Group) (g : Group)
    → declared (gs ++ g ∷ []) ≡ declared gs ++ declarations g
groups_more [] g = append-nil (declarations g)
groups_more (h ∷ gs) g = ap (λ l. declarations h ++ l) (groups_more gs g)
    ∙ sym (append_assoc (declarations h) (declared gs) (declarations g))

pub no_groups : (s : Progress) → s ≡ after_groups s []
no_groups s =
    λ j. record {
      source = s.source;
      node = s.node;
      declared = sym (append-nil s.declared) j;
      parts = s.parts;
      calls = s.calls;
    }

taken : (gs : List Declarations) (i : ℕ) (g : Declarations) → i < length gs → g ≡ get_or gs i g
    → view_groups (take i gs) ++ view_group g ∷ [] ≡ view_groups (take (i + 1) gs)
taken gs i g below is =
    ap (λ x. view_groups (take i gs) ++ view_group x ∷ []) is
    ∙ sym (map-append view_group (take i gs) (get_or gs i g ∷ []))
    ∙ ap view_groups (sym (take_more gs i g below))

pub next_group : (start here after : Progress) (gs : List Declarations) (i : ℕ) (g : Declarations)
    → i < length gs → g ≡ get_or gs i g
    → here ≡ after_groups start (view_groups (take i gs)) → after ≡ after_group here (view_group g)
    → after ≡ after_groups start (view_groups (take (i + 1) gs))
next_group start here after gs i g below is at grew =
    let before = view_groups (take i gs) in
    let v = view_group g in
    let h : after ≡ after_group (after_groups start before) v =
    subst (λ k. after ≡ after_group k v) at grew in
    let names : (start.declared ++ map nameless (declared before)) ++ map nameless (declarations v)
    ≡ start.declared ++ map nameless (declared (before ++ v ∷ [])) =
    append_assoc start.declared (map nameless (declared before)) (map nameless (declarations v))
    ∙ ap (λ l. start.declared ++ l)
    (sym (map-append nameless (declared before) (declarations v))
    ∙ ap (map nameless) (sym (groups_more before v))) in
    let parts : with_parts (with_parts start.parts (flat_map group_parts before)) (group_parts v)
    ≡ with_parts start.parts (flat_map group_parts (before ++ v ∷ [])) =
    kept_twice start.parts (flat_map group_parts before) (group_parts v)
    ∙ ap (with_parts start.parts) (sym (flat_more group_parts before v)) in
    subst (λ l. after ≡ after_groups start l) (taken gs i g below is)
    (h ∙ (λ j. record {
      source =
          start.source;
      node = start.node;
      declared = names j;
      parts = parts j;
      calls = start.calls;
    }))

pub next_fits : (start here : Progress) (gs : List Declarations) (i : ℕ) (g : Declarations)
    → i < length gs → g ≡ get_or gs i g
    → here ≡ after_groups start (view_groups (take i gs))
    → list_all (declaration_fits start) (declared (view_groups (take i gs))) ≡ true
    → list_all (declaration_fits here) (declarations (view_group g)) ≡ true
    → list_all (declaration_fits start) (declared (view_groups (take (i + 1) gs))) ≡ true
next_fits start here gs i g below is at old new =
    let before = view_groups (take i gs) in
    let v = view_group g in
    let h : list_all (declaration_fits start) (declarations v) ≡ true =
    subst (λ k. list_all (declaration_fits k) (declarations v) ≡ true) at new in
    subst (λ l. list_all (declaration_fits start) (declared l) ≡ true) (taken gs i g below is)
    (ap (list_all (declaration_fits start)) (groups_more before v)
    ∙ list_all-append (declaration_fits start) (declared before) (declarations v)
    ∙ and_from _ _ old h)

group_among : (p : Declaration → Bool) (gs : List Declarations) (i : ℕ) (g : Declarations)
    → i < length gs → g ≡ get_or gs i g
    → list_all p (declarations (view_group g)) ≡ false
    → list_all p (declared (view_groups gs)) ≡ false
group_among p [] i g below is e = absurd (omega arith)
group_among p (h ∷ gs) zero g below is e =
    list_all-append p (declarations (view_group h)) (declared (view_groups gs))
    ∙ and_left _ _ (ap (λ x. list_all p (declarations (view_group x))) (sym is) ∙ e)
group_among p (h ∷ gs) (suc i) g below is e =
    list_all-append p (declarations (view_group h)) (declared (view_groups gs))
    ∙ and_right _ _ (group_among p gs i g (omega arith) is e)

pub group_fault : (f : StaticError) (start here : Progress) (gs : List Declarations) (i : ℕ)
    (g : Declarations) → i < length gs → g ≡ get_or gs i g
    → here ≡ after_groups start (view_groups (take i gs))
    → IsNameFault f (list_all (declaration_told f here) (declarations (view_group g)))
    → IsNameFault f (list_all (declaration_told f start) (declared (view_groups gs)))
group_fault f start here gs i g below is at h =
    let k : IsNameFault f (list_all (declaration_told f start) (declarations (view_group g))) =
    subst (λ m. IsNameFault f (list_all (declaration_told f m) (declarations (view_group g))))
    at h in
    fault_within f _ _ k (group_among (declaration_told f start) gs i g below is)
