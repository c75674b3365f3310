-- A program keeps the rule of names where the judged parts of it do.
use Rattle.std.proofs.Common.{◌≡◌, ℕ, zero, suc, Bool, true, false, List, length, refl, ap, sym}
use Rattle.std.proofs.Common.{◌∙◌}
use Rattle.std.specs.Prelude.{◌&&◌, ◌||◌, filter, flat_map, is_some}
use Rattle.std.specs.List.{list_all, list_any, Contains}
use Rattle.std.specs.Str.{bytes_eq}
use Rattle.std.proofs.lemmas.Bool.{and_from, and_right}
use Rattle.std.proofs.lemmas.Map.Keys.{any_passes_from_place}
use Rattle.lb_syntax.specs.Tree.{Name}
use Rattle.lb_syntax.proofs.TruthValues.{and_first, and_second, both_ways}
use Rattle.lb_syntax.proofs.ListPlaces.{all_at, all_from}
use Rattle.lb_static.specs.CalledNodes.{are_named}
use Rattle.lb_static.specs.Instances.{Program}
use Rattle.lb_static.specs.CountedNames.{NameUse, Declares, Statics, are_once, constants_where}
use Rattle.lb_static.specs.CountedNames.{are_named_where, counted, is_named_where}
use Rattle.lb_static.specs.CountedNames.{keeps_names_where, starts_where}
use Rattle.lb_static.specs.NamedConstants.{keeps_constants, told_constants}
use Rattle.lb_static.specs.NameFaults.{IsNameFault, is_told, named_in, alone}
use Rattle.lb_static.specs.Names.{are_distinct, constants_within, global_names, is_constant}
use Rattle.lb_static.specs.Names.{is_named, keeps_names, named_constants, reached_constants}
use Rattle.lb_static.specs.Names.{reached_nodes, starts}
use Rattle.lb_static.specs.Parts.{among, static_names}
use Rattle.lb_static.specs.ReachedNodes.{IsReached, trees}
use Rattle.lb_static.specs.ResolvedNodes.{node_of}
use Rattle.lb_static.specs.declared.error.StaticError.{StaticError}
use Rattle.lb_static.specs.declared.reachable.Reached.{Reached}
use Rattle.lb_static.proofs.Faults.{fault_within}
use Rattle.lb_static.proofs.CalledNodes.{all_map}
use Rattle.lb_static.proofs.Mentions.{any_flat}
use Rattle.lb_static.proofs.ReachedPlaces.{contained, place_of}
use Rattle.lb_static.proofs.TestedItems.{filter_same}
use Rattle.lb_static.proofs.WorkLists.{any_at}

-- a list with all items of another has an item that passes, if the other has
any_alike : {A : Type 0} (p : A → Bool) (xs ys : List A) → ((x : A) → Contains xs x → Contains ys x)
    → list_any p xs ≡ true → list_any p ys ≡ true
any_alike p xs ys same e =
    let f = any_at p xs e in
    let k = place_of ys f.item (same f.item (contained xs f.place f.item f.at)) in
    any_passes_from_place p ys k.place f.item k.at f.passes

constants_alike : (P : Program) (xs ys : List Name) → ((x : Name) → among x xs ≡ among x ys)
    → (k : ℕ) → constants_within P xs k ≡ constants_within P ys k
constants_alike P xs ys same zero =
    filter_same (λ c. among c.name xs) (λ c. among c.name ys) P.source.constants (λ c. same c.name)
constants_alike P xs ys same (suc k) =
    ap (λ b. filter (λ c. among c.name xs || list_any (λ d. among c.name (static_names d.value)) b)
    P.source.constants) (constants_alike P xs ys same k)
    ∙ filter_same (λ c. among c.name xs
    || list_any (λ d. among c.name (static_names d.value)) (constants_within P ys k))
    (λ c. among c.name ys || list_any (λ d. among c.name (static_names d.value))
    (constants_within P ys k)) P.source.constants
    (λ c. ap (λ b. b || list_any (λ d. among c.name (static_names d.value))
    (constants_within P ys k)) (same c.name))

constants_of : (P : Program) (xs : List Name) (k : ℕ)
    → constants_within (alone P.source) xs k ≡ constants_within P xs k
constants_of P xs zero = refl
constants_of P xs (suc k) =
    ap (λ b. filter (λ c. among c.name xs || list_any (λ d. among c.name (static_names d.value)) b)
    P.source.constants) (constants_of P xs k)

module _ (P : Program) (r : Reached) (reached : IsReached P r) where
  named_alike : (x : Name)
      → among x (flat_map (named_constants P) (trees r))
      ≡ among x (flat_map (named_constants P) (reached_nodes P))
  named_alike x =
      any_flat (bytes_eq x) (named_constants P) (trees r)
      ∙ both_ways _ _ (any_alike (λ n. among x (named_constants P n)) (trees r) (reached_nodes P)
      (λ n. (reached.same n).0))
      (any_alike (λ n. among x (named_constants P n)) (reached_nodes P) (trees r)
      (λ n. (reached.same n).1))
      ∙ sym (any_flat (bytes_eq x) (named_constants P) (reached_nodes P))

  abbrev constants_kept : Bool
  constants_kept = keeps_constants P.source
      (flat_map (named_constants (alone P.source)) (trees r))

  constants_are : constants_kept
      ≡ list_all (λ c. list_all (is_constant P) (static_names c.value)) (reached_constants P)
  constants_are =
      ap (list_all (λ c. list_all (is_constant P) (static_names c.value)))
      (constants_of P (flat_map (named_constants P) (trees r)) (length P.source.constants)
      ∙ constants_alike P (flat_map (named_constants P) (trees r))
      (flat_map (named_constants P) (reached_nodes P)) named_alike (length P.source.constants))

  pub nodes_named : are_named P ≡ true
      → list_all (λ n. named_in P.source (node_of n)) r.nodes.items ≡ true
  nodes_named e =
      let all = and_second (list_all is_some (starts P)) (list_all (is_named P) (reached_nodes P))
      e in
      sym (all_map (named_in P.source) node_of r.nodes.items)
      ∙ all_from (named_in P.source) (trees r) (λ i n at.
      let k = place_of (reached_nodes P) n ((reached.same n).0 (contained (trees r) i n at)) in
      all_at (is_named P) (reached_nodes P) k.place n all k.at)

  pub names_kept : are_distinct (global_names P) ≡ true → are_named P ≡ true → constants_kept ≡ true
      → keeps_names P ≡ true
  names_kept d e f =
      and_from (are_distinct (global_names P)) _ d
      (and_from (list_all is_some (starts P)) _
      (and_first (list_all is_some (starts P)) (list_all (is_named P) (reached_nodes P)) e)
      (and_from (list_all (is_named P) (reached_nodes P)) _
      (and_second (list_all is_some (starts P)) (list_all (is_named P) (reached_nodes P)) e)
      (sym constants_are ∙ f)))

  told_are : (counts : NameUse → Name → Bool)
      → constants_where counts (alone P.source) (flat_map (named_constants (alone P.source))
      (trees r))
      ≡ list_all (λ c. list_all (counted (counts Statics) (is_constant P)) (static_names c.value))
      (reached_constants P)
  told_are counts =
      ap (list_all (λ c. list_all (counted (counts Statics) (is_constant P))
      (static_names c.value)))
      (constants_of P (flat_map (named_constants P) (trees r)) (length P.source.constants)
      ∙ constants_alike P (flat_map (named_constants P) (trees r))
      (flat_map (named_constants P) (reached_nodes P)) named_alike (length P.source.constants))

  pub fault_constants : (e : StaticError)
      → IsNameFault e (told_constants e P.source
      (flat_map (named_constants (alone P.source)) (trees r)))
      → IsNameFault e (keeps_names_where (is_told e) P)
  fault_constants e h =
      let counts = is_told e in
      fault_within e _ (keeps_names_where counts P) h (λ no.
      and_right (are_once (counts Declares) (global_names P)) _
      (and_right (starts_where counts P) _
      (and_right (list_all (is_named_where counts P) (reached_nodes P)) _
      (sym (told_are counts) ∙ no))))

named_first : (a b c d : Bool) → (b && c) ≡ false → (a && (b && (c && d))) ≡ false
named_first false b c d e = refl
named_first true false c d e = refl
named_first true true false d e = refl
named_first true true true d e = absurd cc

-- a fault of the names of the starts and of the reached nodes is one of the program
pub fault_named : (P : Program) (e : StaticError) → IsNameFault e (are_named_where (is_told e) P)
    → IsNameFault e (keeps_names_where (is_told e) P)
fault_named P e h =
    let counts = is_told e in
    fault_within e (are_named_where counts P) (keeps_names_where counts P) h
    (named_first (are_once (counts Declares) (global_names P)) (starts_where counts P)
    (list_all (is_named_where counts P) (reached_nodes P)) _)
