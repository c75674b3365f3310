-- The constants that come up in the walk over the names in reached nodes.
-- This file says what data of the program mean; no definition of the language stands on it.
use Rattle.std.specs.Prelude.{◌≡◌, ℕ, Bool, true, nat_lt, Option, Some, None, is_some, List, []}
use Rattle.std.specs.Prelude.{◌∷◌}
use Rattle.std.specs.Prelude.{length, map, flat_map, position, slice_get, if◌then◌else◌}
use Rattle.std.specs.List.{list_all}
use Rattle.std.specs.Str.{bytes_eq}
use Rattle.lb_syntax.specs.Lists.{◌>>=◌, listed, where_true}
use Rattle.lb_syntax.specs.Tree.{Name, Constant, Source}
use Rattle.lb_static.specs.NameFaults.{alone, is_told}
use Rattle.lb_static.specs.CountedNames.{constants_where}
use Rattle.lb_static.specs.Names.{constants_within, is_constant, named_constants}
use Rattle.lb_static.specs.Parts.{among, static_names}
use Rattle.lb_static.specs.ResolvedNodes.{node_of}
use Rattle.lb_static.specs.ResolvedTerms.{static_of}
use Rattle.lb_static.specs.WorkLists.{is_visited}
use Rattle.lb_static.specs.declared.error.StaticError.{StaticError}
use Rattle.lb_static.specs.declared.globals.Globals.{Globals}
use Rattle.lb_static.specs.declared.resolved.ResolvedNode.{ResolvedNode}
use Rattle.lb_static.specs.declared.resolved.StaticPart.{StaticPart}

-- the place of the constant of a name, where the first `count` global names are those of constants
abbrev pub constant_place : List Name → ℕ → Name → Option ℕ
constant_place names count x =
    position (bytes_eq x) names >>= λ place. where_true (nat_lt place count) place

-- the place of the constant that a name stands for, unless the name is hidden
abbrev pub place_named : Globals → (hidden : List Name) → Name → List ℕ
place_named g hidden x =
    if among x hidden then [] else listed (λ p. p ∷ []) (constant_place g.names g.constants x)

abbrev pub places_named : Globals → (hidden : List Name) → List Name → List ℕ
places_named g hidden xs = flat_map (place_named g hidden) xs

-- the places of the constants that a static expression names
abbrev pub part_constants : Globals → (hidden : List Name) → StaticPart → List ℕ
part_constants g hidden p = places_named g hidden (static_names (static_of p.text))

-- the places of the constants that a node names
abbrev pub node_constants : Globals → ResolvedNode → List ℕ
node_constants g r = flat_map (part_constants g (node_of r).parameters) r.statics.items

-- each name is the name of a constant
abbrev pub is_judged : Globals → List Name → Bool
is_judged g xs = list_all (λ x. is_some (constant_place g.names g.constants x)) xs

-- a name among `xs` that is not the name of a constant
abbrev pub IsUnknown : Globals → List Name → Name → Type 0
IsUnknown g xs x = (among x xs ≡ true) × (constant_place g.names g.constants x ≡ None)

-- The places in `order` are those of the constants whose name is in `xs`.
pub record AreNamed (s : Source) (xs : List Name) (order : List ℕ) : Type 0 where
  pub within : list_all (λ place. nat_lt place (length s.constants)) order ≡ true
  pub visited : (place : ℕ) (c : Constant) → slice_get s.constants place ≡ Some c
      → is_visited order place ≡ among c.name xs

-- each name in the value of a constant that is reached from `xs` is the name of a constant
abbrev pub keeps_constants : Source → List Name → Bool
keeps_constants s xs =
    let P = alone s in
    list_all (λ c. list_all (is_constant P) (static_names c.value))
    (constants_within P xs (length s.constants))

-- `keeps_constants`, where only the name that an error holds counts
abbrev pub told_constants : StaticError → Source → List Name → Bool
told_constants e s xs = constants_where (is_told e) (alone s) xs

-- `keeps_constants` for the constants that some nodes name
abbrev pub keeps_constants_of : Source → List ResolvedNode → Bool
keeps_constants_of s nodes =
    keeps_constants s (flat_map (named_constants (alone s)) (map node_of nodes))

abbrev pub told_constants_of : StaticError → Source → List ResolvedNode → Bool
told_constants_of e s nodes =
    told_constants e s (flat_map (named_constants (alone s)) (map node_of nodes))
