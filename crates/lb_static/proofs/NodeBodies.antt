-- Statements resolved one after another.
use Rattle.std.proofs.Common.{◌≡◌, ℕ, ◌+◌, ◌<◌, true, List, [], ◌∷◌, ◌++◌, length, take, get_or}
use Rattle.std.proofs.Common.{map, Ok, ap, sym, subst, refl, ◌∙◌}
use Rattle.std.specs.Prelude.{flat_map}
use Rattle.std.specs.List.{list_all}
use Rattle.std.proofs.lemmas.List.{map-append, take_more}
use Rattle.std.proofs.lemmas.List.Folds.{list_all-append}
use Rattle.std.proofs.lemmas.Bool.{and_from}
use Rattle.std.proofs.Math.Bool.{and-true}
use Rattle.lb_syntax.specs.SourceView.{view_statement}
use Rattle.lb_syntax.specs.Tree as tree
use Rattle.lb_syntax.specs.declared.tree.Statement.{Statement}
use Rattle.lb_syntax.proofs.TruthValues.{and_first, and_second}
use Rattle.lb_static.specs.Instances.{Site, sites, statement_sites}
use Rattle.lb_static.specs.NameFaults.{IsNameFault}
use Rattle.lb_static.specs.NodeProgress.{Progress, texts, counts_in, grown, is_variable_of}
use Rattle.lb_static.specs.NodeProgress.{after_statements, statement_fits, statement_told}
use Rattle.lb_static.specs.NodeProgress.{StatementsStand}
use Rattle.lb_static.specs.NodeProgress.{ResolvesStatement}
use Rattle.lb_static.specs.Parts.{right_side}
use Rattle.lb_static.specs.ResolvedTerms.{name_at, statement_of, is_statement_within}
use Rattle.lb_static.specs.ResolvedTerms.{is_statement_unhidden, is_variable, is_within}
use Rattle.lb_static.specs.StaticParts.{Part, parts_of}
use Rattle.lb_static.specs.declared.error.StaticError.{StaticError}
use Rattle.lb_static.specs.declared.resolved.ResolvedStatement.{ResolvedStatement}
use Rattle.lb_static.specs.declared.resolved.ResolvedStatement.TheVariants.{Equation, Assertion}
use Rattle.lb_static.proofs.Faults.{fault_within}
use Rattle.lb_static.proofs.Growth.{same_on, all_on, both_on, same_two}
use Rattle.lb_static.proofs.GrownNodes.{expr_grown, grown_nothing, grown_twice}
use Rattle.lb_static.proofs.GrownNodes.{unhidden_grown, within_grown}
use Rattle.lb_static.proofs.Resolutions.{flat_more, one_fails}

module _ (s : Progress) (P : List Part) (C : List Site) where
  still : (statement : ResolvedStatement)
      → is_statement_within (counts_in (texts s)) statement ≡ true
      → is_statement_within (counts_in (texts (grown s P C))) statement ≡ true
  still (Equation lefts e) h =
      and_from _ _ (and_first (list_all (is_variable (counts_in (texts s))) lefts.items)
      (is_within (counts_in (texts s)) e) h)
      (within_grown s P C e (and_second (list_all (is_variable (counts_in (texts s))) lefts.items) _
      h))
  still (Assertion e) h = within_grown s P C e h

  stays : (statement : ResolvedStatement)
      → is_statement_within (counts_in (texts s)) statement ≡ true
      → statement_of (texts (grown s P C)) statement ≡ statement_of (texts s) statement
  stays (Equation lefts e) h =
      ap (λ z. tree.Equation (map (name_at (texts s).variables) lefts.items) z)
      (expr_grown s P C e (and_second (list_all (is_variable (counts_in (texts s))) lefts.items) _
      h))
  stays (Assertion e) h = ap tree.Assertion (expr_grown s P C e h)

  unhidden : (statement : ResolvedStatement)
      → is_statement_within (counts_in (texts s)) statement ≡ true
      → is_statement_unhidden (texts s) statement ≡ true
      → is_statement_unhidden (texts (grown s P C)) statement ≡ true
  unhidden (Equation lefts e) h u = unhidden_grown s P C e
      (and_second (list_all (is_variable (counts_in (texts s))) lefts.items) _ h) u
  unhidden (Assertion e) h u = unhidden_grown s P C e h u

  statements_grown : (xs : List tree.Statement) (statements : List ResolvedStatement)
      → StatementsStand s xs statements
      → StatementsStand (grown s P C) xs statements
  statements_grown xs statements h = (
    same_on (is_statement_within (counts_in (texts s))) (statement_of (texts (grown s P C)))
        (statement_of (texts s)) statements stays h.1 ∙ h.0,
    all_on (is_statement_within (counts_in (texts s)))
        (is_statement_within (counts_in (texts (grown s P C))))
        statements still h.1,
    both_on (is_statement_within (counts_in (texts s))) (is_statement_unhidden (texts s))
        (is_statement_unhidden (texts (grown s P C))) statements unhidden h.1 h.2,
  )

-- the invariant of a loop over statements
abbrev pub StatementsSoFar : (start here : Progress) → List tree.Statement → List ResolvedStatement
    → Type 0
StatementsSoFar start here xs statements =
    (here ≡ after_statements start xs) × StatementsStand here xs statements
    × (list_all (statement_fits start) xs ≡ true)

pub none_so_far : (start : Progress) (statements : List ResolvedStatement) → statements ≡ []
    → StatementsSoFar start start [] statements
none_so_far start statements none =
    subst (StatementsSoFar start start []) (sym none)
    (sym (grown_nothing start), (refl, refl, refl), refl)

one_more_step : (start before after : Progress) (xs : List tree.Statement)
    (statements : List ResolvedStatement)
    (x : tree.Statement) (statement : ResolvedStatement)
    → StatementsSoFar start before xs statements
    → ResolvesStatement before after x (Ok statement)
    → StatementsSoFar start after (xs ++ x ∷ []) (statements ++ statement ∷ [])
one_more_step start before after xs statements x statement d g =
    let h : ResolvesStatement (after_statements start xs) after x (Ok statement) =
    subst (λ m. ResolvesStatement m after x (Ok statement)) d.0 g in
    let old : StatementsStand after xs statements =
    subst (λ m. StatementsStand m xs statements) (sym g.0)
    (statements_grown before (parts_of (is_variable_of before) (right_side x))
    (sites (right_side x)) xs
    statements d.1) in
    let parts = λ (y : tree.Statement). parts_of (is_variable_of start) (right_side y) in
    let grew : after ≡ grown start (flat_map parts xs ++ parts x)
    (flat_map statement_sites xs ++ sites (right_side x)) =
    h.0 ∙ grown_twice start (flat_map parts xs) (parts x) (flat_map statement_sites xs)
    (sites (right_side x)) in (
      grew ∙ same_two (grown start) _ _ _ _ (sym (flat_more parts xs x))
          (ap (λ l. flat_map statement_sites xs ++ l) (sym (sites_of x))
          ∙ sym (flat_more statement_sites xs x)),
      (
        map-append (statement_of (texts after)) statements (statement ∷ [])
            ∙ same_two (λ (l : List tree.Statement) y. l ++ y ∷ []) _ _ _ _ old.0 h.1.0,
        list_all-append (is_statement_within (counts_in (texts after))) statements (statement ∷ [])
            ∙ and_from _ _ old.1 (and-true (is_statement_within (counts_in (texts after)) statement)
            ∙ h.1.1),
        list_all-append (is_statement_unhidden (texts after)) statements (statement ∷ [])
            ∙ and_from _ _ old.2 (and-true (is_statement_unhidden (texts after) statement) ∙ h.1.2),
      ),
      list_all-append (statement_fits start) xs (x ∷ [])
          ∙ and_from _ _ d.2 (and-true (statement_fits start x) ∙ h.2),
    )
  where
    sites_of : (y : tree.Statement) → statement_sites y ≡ sites (right_side y)
    sites_of (tree.Equation lefts e) = refl
    sites_of (tree.Assertion e) = refl

pub next_step : (start before after : Progress) (statements : List ResolvedStatement)
    (xs : List Statement) (i : ℕ)
    (x : Statement) (statement : ResolvedStatement) → i < length xs → x ≡ get_or xs i x
    → StatementsSoFar start before (map view_statement (take i xs)) statements
    → ResolvesStatement before after (view_statement x) (Ok statement)
    → StatementsSoFar start after (map view_statement (take (i + 1) xs))
    (statements ++ statement ∷ [])
next_step start before after statements xs i x statement below is d g =
    let same : map view_statement (take i xs) ++ view_statement x ∷ []
    ≡ map view_statement (take (i + 1) xs) =
    ap (λ y. map view_statement (take i xs) ++ view_statement y ∷ []) is
    ∙ sym (map-append view_statement (take i xs) (get_or xs i x ∷ []))
    ∙ ap (map view_statement) (sym (take_more xs i x below)) in
    subst (λ l. StatementsSoFar start after l (statements ++ statement ∷ [])) same
    (one_more_step start before after (map view_statement (take i xs)) statements (view_statement x)
    statement
    d g)

-- a statement that is refused makes the whole body refused
pub fault_of_statement : (start here : Progress) (f : StaticError) (xs : List Statement) (i : ℕ)
    (x : Statement) → i < length xs → x ≡ get_or xs i x
    → here ≡ after_statements start (map view_statement (take i xs))
    → IsNameFault f (statement_told f here (view_statement x))
    → IsNameFault f (list_all (statement_told f start) (map view_statement xs))
fault_of_statement start here f xs i x below is at h =
    let g : IsNameFault f (statement_told f start (view_statement x)) =
    subst (λ k. IsNameFault f (statement_told f k (view_statement x))) at h in
    fault_within f _ _ g (one_fails (statement_told f start) view_statement xs i x below is)
