-- The walk over the constants that are reached by name: one more constant, and a fault of a
-- constant.
use Rattle.std.proofs.Common.{◌≡◌, ℕ, zero, suc, ◌<◌, ◌≤◌, Bool, true, false, List, [], ◌∷◌, length}
use Rattle.std.proofs.Common.{map, Option, Some, None, is_some, option_map, refl, ap, sym, subst}
use Rattle.std.proofs.Common.{◌∙◌, arith}
use Rattle.std.specs.Prelude.{◌||◌, filter, nat_lt, slice_get}
use Rattle.std.specs.List.{list_all, list_any}
use Rattle.std.specs.Str.{bytes_eq}
use Rattle.std.proofs.lemmas.Bool.Decides.{nat_tests}
use Rattle.std.proofs.lemmas.List.{length-map}
use Rattle.std.proofs.lemmas.Option.{slice_get-map, slice_get_within}
use Rattle.std.proofs.lemmas.Slice.Eq.{bytes_eq-Decides}
use Rattle.std.proofs.lemmas.Bool.{and_from}
use Rattle.std.proofs.lemmas.Map.Keys.{any_passes_from_place}
use Rattle.lb_syntax.specs.Lists.{either_or, holds, listed}
use Rattle.lb_syntax.specs.Tree.{Name, Constant, Source}
use Rattle.lb_syntax.proofs.TruthValues.{and_first}
use Rattle.lb_syntax.proofs.ListPlaces.{all_at, get_before, all_from}
use Rattle.lb_static.specs.SourceNames.{constants_in, names_in_source}
use Rattle.lb_static.specs.CountedNames.{Statics, counted}
use Rattle.lb_static.specs.NameFaults.{IsNameFault, TellsName, alone, is_told}
use Rattle.lb_static.specs.NamedConstants.{AreNamed, IsUnknown, constant_place, is_judged}
use Rattle.lb_static.specs.NamedConstants.{keeps_constants}
use Rattle.lb_static.specs.NamedConstants.{place_named, places_named, told_constants}
use Rattle.lb_static.specs.Names.{are_distinct, constants_within, is_constant}
use Rattle.lb_static.specs.Parts.{among, static_names}
use Rattle.lb_static.specs.WorkLists.{AreReachable, Grows, is_reachable, is_visited}
use Rattle.lb_static.specs.WorkLists.{visited_after_all, within}
use Rattle.lb_static.specs.declared.error.StaticError.{StaticError}
use Rattle.lb_static.specs.declared.globals.Globals.{Globals}
use Rattle.lb_static.proofs.Faults.{counted_fails, told_fault}
use Rattle.lb_static.proofs.CalledNodes.{grown_at, reachable_passes, refuted, there}
use Rattle.lb_static.proofs.ConstantPlaces.{constant_found, constant_known}
use Rattle.lb_static.proofs.Reachability.{closed_has, reachable_by, reachable_next}
use Rattle.lb_static.proofs.Reachability.{reachable_visits, within_is}
use Rattle.lb_static.proofs.TestedItems.{all_flat}
use Rattle.lb_static.proofs.ReachedPlaces.{filtered_from, mapped_from}
use Rattle.lb_static.proofs.WorkLists.{any_at, at_visited, grows_all, grows_both, visited_all}
use Rattle.lb_static.proofs.WorkLists.{visited_at}
use Rattle.lb_static.proofs.Growth.{all_on}

-- the value of the first constant has the name of the second
abbrev pub names_constant : Constant → Constant → Bool
names_constant d c = among c.name (static_names d.value)

-- the first `done` constants that came up are judged, and the constants that they name came up too
pub record AreJudged (s : Source) (g : Globals) (before after : List ℕ) (done : ℕ) : Type 0 where
  pub few : done ≤ length after
  pub grows : Grows before after
  pub judged : (turn place : ℕ) (c : Constant) → turn < done → slice_get after turn ≡ Some place
      → slice_get s.constants place ≡ Some c
      → is_judged g (static_names c.value) ≡ true
  pub linked : (turn place : ℕ) (c : Constant) → turn < done → slice_get after turn ≡ Some place
      → slice_get s.constants place ≡ Some c
      → list_all (is_visited after) (places_named g [] (static_names c.value)) ≡ true
  pub reachable : (start : Constant → Bool) → AreReachable s.constants start names_constant before
      → AreReachable s.constants start names_constant after

module _ (s : Source) (g : Globals) (names : g.names ≡ names_in_source s)
    (count : g.constants ≡ length s.constants) (once : are_distinct (names_in_source s) ≡ true)
  where
    -- the constant at the place of a name has that name
    pub name_of_place : (x : Name) (p : ℕ) (c : Constant)
        → constant_place g.names g.constants x ≡ Some p → slice_get s.constants p ≡ Some c
        → c.name ≡ x
    name_of_place x p c e at =
        let f = constant_found g.names g.constants x p e in
        let below : p < length (constants_in s) =
        omega (arith, f.below, count, length-map s.constants (λ k. k.name)) in
        let is = sym (slice_get-map (λ k. k.name) s.constants p ∙ ap (option_map (λ k. k.name)) at)
        ∙ (sym (get_before (constants_in s) (map (λ n. n.name) s.nodes) p below)
        ∙ ap (λ l. slice_get l p) (sym names) ∙ f.at) in
        let same : Some c.name ≡ Some x = is in
        ap (λ o. either_or o x) same

    pub place_of_constant : (p : ℕ) (c : Constant) → slice_get s.constants p ≡ Some c
        → constant_place g.names g.constants c.name ≡ Some p
    place_of_constant p c at =
        let inside = slice_get_within s.constants p c at in
        let below : p < length (constants_in s) =
        omega (arith, inside, length-map s.constants (λ k. k.name)) in
        let early : p < g.constants = omega (arith, inside, count) in
        constant_known g.names g.constants c.name p (ap are_distinct names ∙ once) early
        (ap (λ l. slice_get l p) names
        ∙ get_before (constants_in s) (map (λ n. n.name) s.nodes) p below
        ∙ slice_get-map (λ k. k.name) s.constants p ∙ ap (option_map (λ k. k.name)) at)

    -- a name that has the place of a constant is the name of a constant
    known_is : (x : Name) → is_some (constant_place g.names g.constants x) ≡ true
        → is_constant (alone s) x ≡ true
    known_is x e = by (constant_place g.names g.constants x) refl e
      where
        by : (o : Option ℕ) → constant_place g.names g.constants x ≡ o → is_some o ≡ true
            → is_constant (alone s) x ≡ true
        by None at h = absurd cc
        by (Some p) at h =
            let f = constant_found g.names g.constants x p at in
            let below : p < length (constants_in s) =
            omega (arith, f.below, count, length-map s.constants (λ k. k.name)) in
            any_passes_from_place (bytes_eq x) (constants_in s) p x
            (sym (get_before (constants_in s) (map (λ n. n.name) s.nodes) p below)
            ∙ ap (λ l. slice_get l p) (sym names) ∙ f.at) ((bytes_eq-Decides x x).1 refl)

    known_from : (x : Name) → is_constant (alone s) x ≡ true
        → is_some (constant_place g.names g.constants x) ≡ true
    known_from x e =
        let f = any_at (bytes_eq x) (constants_in s) e in
        let c = mapped_from (λ (k : Constant). k.name) s.constants f.place f.item f.at in
        let same : c.item.name ≡ x = c.is ∙ sym ((bytes_eq-Decides x f.item).0 f.passes) in
        ap (λ y. is_some (constant_place g.names g.constants y)) (sym same)
        ∙ ap is_some (place_of_constant f.place c.item c.at)

    -- ## One more constant

    module _ (before order : List ℕ) (done place : ℕ) (c : Constant)
        (h : AreJudged s g before order done)
        (next : slice_get order done ≡ Some place) (at : slice_get s.constants place ≡ Some c) where
      abbrev places : List ℕ
      places = places_named g [] (static_names c.value)

      abbrev after : List ℕ
      after = visited_after_all order places

      grown : Grows order after
      grown = grows_all order places

      abbrev had_there : (Constant → Bool) → ℕ → Bool
      had_there start p = holds (is_reachable s.constants start names_constant (suc (length order)))
          (slice_get s.constants p)

      -- the constants that the value names are reachable in one step more
      named_reachable : (start : Constant → Bool)
          → AreReachable s.constants start names_constant before
          → list_all (λ p. holds (is_reachable s.constants start names_constant
          (suc (length order)))
          (slice_get s.constants p)) places ≡ true
      named_reachable start e =
          all_flat (had_there start) (place_named g []) (static_names c.value)
          ∙ all_from (λ x. list_all (had_there start) (place_named g [] x)) (static_names c.value)
          (λ i x is. by x i is (constant_place g.names g.constants x) refl)
        where
          here : is_reachable s.constants start names_constant (length order) c ≡ true
          here =
              ap (holds (is_reachable s.constants start names_constant (length order))) (sym at)
              ∙ all_at (λ p. holds (is_reachable s.constants start names_constant (length order))
              (slice_get s.constants p)) order done place (h.reachable start e) next

          by : (x : Name) (i : ℕ) → slice_get (static_names c.value) i ≡ Some x → (o : Option ℕ)
              → constant_place g.names g.constants x ≡ o
              → list_all (had_there start) (listed (λ p. p ∷ []) o) ≡ true
          by x i is None found = refl
          by x i is (Some p) found =
              let f = constant_found g.names g.constants x p found in
              let lt : nat_lt p (length s.constants)
              ≡ true = (let below : p < length s.constants =
              omega (arith, f.below, count) in grind (arith, nat_tests)) in
              and_from _ _ (there s.constants p
              (is_reachable s.constants start names_constant (suc (length order))) lt
              (λ a found_at. reachable_next s.constants start names_constant (length order) place a
              c at
              here
              (any_passes_from_place (bytes_eq a.name) (static_names c.value) i x is
              ((bytes_eq-Decides a.name x).1 (name_of_place x p a found found_at))))) refl

      earlier : (turn p : ℕ) → turn < suc done → slice_get after turn ≡ Some p
          → slice_get order turn ≡ Some p
      earlier turn p below found = grown_at order after turn p grown
          (omega (arith, below, slice_get_within order done place next)) found

      more_judged_at : (C : Constant → Type 0) → C c
          → ((turn p : ℕ) (d : Constant) → turn < done → slice_get order turn ≡ Some p
          → slice_get s.constants p ≡ Some d → C d)
          → (turn p : ℕ) (d : Constant) → turn < suc done → slice_get after turn ≡ Some p
          → slice_get s.constants p ≡ Some d → C d
      more_judged_at C here before turn p d below found is = by (nat_lt turn done) refl
        where
          by : (b : Bool) → nat_lt turn done ≡ b → C d
          by true e = let lt : turn < done =
              grind (arith, nat_tests) in before turn p d lt (earlier turn p below found) is
          by false e =
              let past : done ≤ turn = grind (arith, nat_tests) in
              let last : turn ≡ done = omega (arith, past, below) in
              let same : Some p ≡ Some place =
              sym (earlier turn p below found) ∙ ap (slice_get order) last ∙ next in
              let one : p ≡ place = cc in
              let value : Some c ≡ Some d = sym at ∙ ap (slice_get s.constants) (sym one) ∙ is in
              let it : c ≡ d = cc in
              subst C it here

      pub more_judged : is_judged g (static_names c.value) ≡ true
          → AreJudged s g before after (suc done)
      more_judged good = record {
        few = omega (arith, slice_get_within order done place next, grown.longer);
        grows = grows_both before order after h.grows grown;
        judged = more_judged_at (λ d. is_judged g (static_names d.value) ≡ true) good h.judged;
        linked = more_judged_at (λ d. list_all (is_visited after)
            (places_named g [] (static_names d.value)) ≡ true) (visited_all order places)
            (λ turn p d below found is. all_on (is_visited order) (is_visited after)
            (places_named g [] (static_names d.value)) grown.still
            (h.linked turn p d below found is));
        reachable = λ start e. reachable_visits s.constants start names_constant (length order)
            order places
            (omega arith) (h.reachable start e) (named_reachable start e);
      }

    -- ## All constants

    abbrev begins : List Name → Constant → Bool
    begins xs c = among c.name xs

    abbrev is_good : Constant → Bool
    is_good c = list_all (is_constant (alone s)) (static_names c.value)

    within_constants : (xs : List Name) (k : ℕ)
        → constants_within (alone s) xs k ≡ within s.constants (begins xs) names_constant k
    within_constants xs zero = refl
    within_constants xs (suc k) =
        ap (λ b. filter (λ c. among c.name xs
        || list_any (λ d. among c.name (static_names d.value)) b) s.constants)
        (within_constants xs k)

    starts_reachable : (xs : List Name) (before : List ℕ) → AreNamed s xs before
        → AreReachable s.constants (begins xs) names_constant before
    starts_reachable xs before n =
        all_from (λ p. holds (is_reachable s.constants (begins xs) names_constant (length before))
        (slice_get s.constants p)) before
        (λ turn p at. there s.constants p
        (is_reachable s.constants (begins xs) names_constant (length before))
        (all_at (λ q. nat_lt q (length s.constants)) before turn p n.within at)
        (λ c is. reachable_by s.constants (begins xs) names_constant 0 (length before) c
        (omega arith)
        (sym (n.visited p c is) ∙ at_visited before turn p at)))

    pub all_judged : (before after : List ℕ) (done : ℕ) (xs : List Name)
        → AreJudged s g before after done → length after ≤ done → AreNamed s xs before
        → keeps_constants s xs ≡ true
    all_judged before after done xs h all n =
        all_from is_good (constants_within (alone s) xs (length s.constants)) (λ i c at.
        let k = filtered_from (is_reachable s.constants (begins xs) names_constant
        (length s.constants))
        s.constants i c
        (ap (λ l. slice_get l i)
        (sym (within_constants xs (length s.constants)
        ∙ within_is s.constants (begins xs) names_constant (length s.constants))) ∙ at) in
        let came = closed_has s.constants (begins xs) names_constant after
        (λ p a is st. h.grows.still p (n.visited p a is ∙ st)) closed (length s.constants) k.place
        c k.at k.passes in
        let t = visited_at after k.place came in
        let below : t.turn < done =
        omega (arith, slice_get_within after t.turn k.place t.at, all) in
        all_on (λ x. is_some (constant_place g.names g.constants x))
        (is_constant (alone s))
        (static_names c.value) known_is (h.judged t.turn k.place c below t.at k.at))
      where
        closed : (p q : ℕ) (a b : Constant) → slice_get s.constants q ≡ Some b
            → slice_get s.constants p ≡ Some a → is_visited after q ≡ true
            → names_constant b a ≡ true
            → is_visited after p ≡ true
        closed p q a b at_b at_a came is =
            let t = visited_at after q came in
            let below : t.turn < done = omega (arith, slice_get_within after t.turn q t.at, all) in
            let f = any_at (bytes_eq a.name) (static_names b.value) is in
            let linked = all_at (λ x. list_all (is_visited after) (place_named g [] x))
            (static_names b.value) f.place f.item
            (sym (all_flat (is_visited after) (place_named g []) (static_names b.value))
            ∙ h.linked t.turn q b below t.at at_b) f.at in
            let here = ap (constant_place g.names g.constants)
            (sym ((bytes_eq-Decides a.name f.item).0 f.passes)) ∙ place_of_constant p a at_a in
            and_first (is_visited after p) true
            (ap (λ o. list_all (is_visited after) (listed (λ i. i ∷ []) o)) (sym here) ∙ linked)

    -- a name that an error holds, and that is not the name of a constant, fails the test of the
    -- names
    unknown_fails : (e : StaticError) (xs : List Name) (x : Name) → IsUnknown g xs x
        → is_told e Statics x ≡ true
        → list_all (counted (is_told e Statics) (is_constant (alone s))) xs ≡ false
    unknown_fails e xs x bad told =
        let no : is_constant (alone s) x ≡ false =
        refuted (is_some (constant_place g.names g.constants x)) (is_constant (alone s) x)
        (known_from x) (ap is_some bad.1) in
        let test = counted (is_told e Statics) (is_constant (alone s)) in
        refuted (test x) (list_all test xs) (λ all.
        let f = any_at (bytes_eq x) xs bad.0 in
        subst (λ y. test y ≡ true) (sym ((bytes_eq-Decides x f.item).0 f.passes))
        (all_at test xs f.place f.item all f.at))
        (counted_fails (is_told e Statics) (is_constant (alone s)) x told no)

    -- a name in the value of a constant, which is not the name of a constant, is a fault
    pub fault_judged : (e : StaticError) (before order : List ℕ) (done place : ℕ) (c : Constant)
        (xs : List Name) (x : Name) → AreJudged s g before order done
        → slice_get order done ≡ Some place
        → slice_get s.constants place ≡ Some c → length order ≤ length s.constants
        → IsUnknown g (static_names c.value) x → AreNamed s xs before → TellsName x Statics e
        → IsNameFault e (told_constants e s xs)
    fault_judged e before order done place c xs x h next at few bad n tells =
        let reachable : is_reachable s.constants (begins xs) names_constant (length order) c
        ≡ true =
        ap (holds (is_reachable s.constants (begins xs) names_constant (length order))) (sym at)
        ∙ all_at (λ p. holds (is_reachable s.constants (begins xs) names_constant (length order))
        (slice_get s.constants p)) order done place
        (h.reachable (begins xs) (starts_reachable xs before n))
        next in
        let good : Constant → Bool =
        λ k. list_all (counted (is_told e Statics) (is_constant (alone s)))
        (static_names k.value) in
        told_fault e Statics x (told_constants e s xs) tells
        (λ told. refuted (good c) (told_constants e s xs)
        (λ all. reachable_passes s.constants (begins xs) names_constant good (length order)
        (length s.constants)
        place c at few reachable
        (ap (list_all good) (sym (within_constants xs (length s.constants)))
        ∙ all)) (unknown_fails e (static_names c.value) x bad told))
