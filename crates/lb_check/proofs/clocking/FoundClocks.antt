-- The clocks and calls that the code finds of nodes are those of their texts.
use Rattle.lb_check.proofs.Words
use Words.{Bool, Call', CallId, Context, Count, E10, E9, Elaboration, Every, Expr, FoundCall}
use Words.{FoundTerm, Group', HasTermClocks, Instance, IsJudged, IsLawful, IterateNode', List, Name}
use Words.{Node, None, Occurrence, Option, Program, Reached, ResolvedNode, ResolvedStatement}
use Words.{Row_of-Term, SeesClocks, Some, Specialization, Statement, Table, Term, Texts, Value}
use Words.{VariableId, [], all_at, and_first, and_from, and_second, ap, ap₂, are_declared_clocks}
use Words.{are_on_results, are_single, are_unhidden, are_within, at, base_clock, check_refusal}
use Words.{clock_in, clock_of, clock_or, cond, context_of, counts_of, determined_clock}
use Words.{elaborated_program, expr_of, exprs_of, false, flat_map, given_to, holds, infer_clock}
use Words.{instances, is_call, is_call_within, is_clock_within, is_clocked, is_clocked_on}
use Words.{is_occurrence_clocked, is_single, is_single_within, is_site, is_statement_clocked}
use Words.{is_statement_single, is_statement_unhidden, is_statement_within, is_typed, is_unhidden}
use Words.{is_variable, is_within, items-the_row-Term, left_clock, left_names, lefts_at, length}
use Words.{list_all, list_all-append, listed, map, mapped_from, name_in, named_value, nat_eq}
use Words.{node_named, node_occurrences, node_of, node_terms, nothing_found, occurrences}
use Words.{occurrences_each, operands_in, operands_of, option_map, placed_arguments, placed_side}
use Words.{placed_statement, placed_terms, refl, right_side, right_sides, row_of, side_call}
use Words.{side_clocks, site_at, sites_in, slice_get, slice_get-map, stands_for, statement_clock}
use Words.{statement_of, statement_sites, static_at, subst, sym, texts_of, tree_at, true, ungrouped}
use Words.{unless, with_terms, zip, ℕ, ◌&&◌, ◌++◌, ◌+◌, ◌<◌, ◌∙◌, ◌∷◌, ◌≡◌, ◌≤◌}
use Rattle.lb_check.proofs.clocking.PlacedTerms.{IsCall, IsCallOf, IsTerm, arguments_on}
use Rattle.lb_check.proofs.clocking.PlacedTerms.{call_of_row, call_right, determined_is, given_by}
use Rattle.lb_check.proofs.clocking.PlacedTerms.{row_placed, term_placed}
use Rattle.lb_check.proofs.clocking.{PlacedWithin.node_within, StatementClockSets.left_is}
use Rattle.lb_check.proofs.clocking.TermClockSets.{called_operands, operands_items, row_items}
use Rattle.lb_check.proofs.clocking.{TermClockSets.term_stands, WalkedClocks.all_found}
use Rattle.lb_check.proofs.clocking.WalkedClocks.{calls_among, clocks_among}
use Rattle.lb_check.proofs.{clocking.WholeClocks.clocked_node, definitions.BrokenRules.first_none}
use Rattle.lb_check.proofs.definitions.BrokenRules.{judged, kept, second_none}
use Rattle.lb_check.proofs.definitions.CallNumbers.{AreFrom, first_lefts, from_calls, later_lefts}
use Rattle.lb_check.proofs.definitions.CallNumbers.{lefts_among, no_more, no_own, own_is, own_lefts}
use Rattle.lb_check.proofs.definitions.CallNumbers.{row_from, statement_below}
use Rattle.lb_check.proofs.lists.ListPairs.{Pairs, Pairs-append, Pairs-with, get_mapped, paired_at}
use Rattle.lb_check.proofs.lists.Members.{Every-all}
use Rattle.lb_check.proofs.programs.CountedCalls.{call_placed as call_at_place, calls_in}
use Rattle.lb_check.proofs.programs.CountedCalls.{counted_from, node_counted}
use Rattle.lb_check.proofs.programs.OccurrenceSites.{body_calls, body_occurrences, calls_each}
use Rattle.lb_check.proofs.typing.Specializations.{all_specializations}
use Rattle.lb_check.specs.{FoundTerms.{HasFoundCalls, HasFoundClocks}, PlacedClocks.call_in}
use Rattle.lb_check.specs.PlacedClocks.{found_in, side_base}
use Rattle.lb_check.specs.declared.{found_clocks.NodeClocks.NodeClocks, own_clock.Clock.Clock}
use Rattle.lb_syntax.specs.Tree as tree
use Rattle.lb_static.specs.declared.resolved.ResolvedStatement.TheVariants as statement
use Rattle.lb_check.specs.Occurrences as text
use Rattle.lb_check.proofs.clocking.EquationClockSets as side

-- The clocks and calls that the code finds of the terms of a node are those of the occurrences in
-- its text.

abbrev no_names : List Name
no_names = []

module _ (P : Program) (r : Reached) (here : ResolvedNode) (sees : SeesClocks P r here) where
  abbrev texts : Texts
  texts = texts_of here

  abbrev ctx : Context
  ctx = context_of r here

  -- the clock of an equation with these left variables
  abbrev left_k : List VariableId → Clock
  left_k lefts = left_clock (context_of r here) lefts

  abbrev AreLawful : List Occurrence → Type 0
  AreLawful os = list_all (is_occurrence_clocked P (node_of here)) os ≡ true

  -- ## Equations

  -- the found call of a whole right side is right, and so are the clocks of its arguments
  call_found :
      (lefts : List VariableId) → list_all (is_variable (counts_of here)) lefts ≡ true →
      (n : ℕ) (c : CallId) {m : Count} (row : Row_of-Term m) →
      is_call (counts_of here) c ≡ true → are_within (counts_of here) row ≡ true →
      are_unhidden (texts_of here) row ≡ true → are_single r here row ≡ true →
      is_clocked_on P here (clock_in here (left_k lefts)) n (call_of_row P r here sees c row) ≡ true
      →
      are_on_results P (node_of here) (clock_in here (left_k lefts)) (map (name_in here) lefts)
      (call_of_row P r here sees c row) ≡ true →
      IsCallOf P here (map (name_in here) lefts)
      (at (clock_in here (left_k lefts)) n (call_of_row P r here sees c row))
      (side_call (context_of r here) lefts (operands_in (context_of r here) row)
      ((context_of r here).callee c))
      × (text.call_clocks (clock_in here (left_k lefts))
      (node_named P (site_at (texts_of here).calls c).callee) (row_of (texts_of here) row)
      ≡ map (clock_in here)
      (side_clocks (context_of r here) lefts (operands_in (context_of r here) row)
      ((context_of r here).callee c)))
  call_found lefts wl n c {m = m} row wc w u singles kept results =
      let found = called_operands P r here sees c row wc w u singles in
      let site = site_at texts.calls c in
      let es = items-the_row-Term m row in
      let os = operands_of ctx es in
      let xs = map (name_in here) lefts in
      let e = tree.Call site.callee site.arguments (exprs_of texts es) in
      let k = statement_clock P (node_of here) (tree.Equation xs e) in
      let on_left = left_is P r here sees lefts wl e in
      let args = row_items texts m row in
      let kept_there : is_clocked_on P here k n e ≡ true =
      subst (λ k. is_clocked_on P here k n e ≡ true) on_left
      (subst (λ es. is_clocked_on P here (clock_in here (left_k lefts)) n
      (tree.Call site.callee site.arguments es) ≡ true) args kept) in
      let results_there : are_on_results P (node_of here) k xs e ≡ true =
      subst (λ k. are_on_results P (node_of here) k xs e ≡ true) on_left
      (subst (λ es. are_on_results P (node_of here) (clock_in here (left_k lefts)) xs
      (tree.Call site.callee site.arguments es) ≡ true) args results) in
      let given = side.side_given found.3 site found.2 lefts wl n kept_there results_there in
      let base = side.side_base found.3 site found.2 lefts wl n kept_there results_there in
      let fits = side.side_fitting found.3 site found.2 lefts wl n kept_there results_there in
      let right = call_right P r here sees (clock_in here (left_k lefts)) n lefts c row found.0
      found.2 found.3 (stands_for found.0.inputs os lefts) (side.Y_in found.3 site found.2 lefts wl)
      given (side_base ctx found.0 os lefts)
      (ap (λ k. base_clock k (node_of found.0)) on_left ∙ base) fits in
      rw (operands_items ctx m row, found.1) right

  -- found terms stand for occurrences, where `lefts` has the left variables of each call by its
  -- number
  abbrev Places : (ℕ → List Name) → List Occurrence → List FoundTerm → Type 0
  Places lefts os ts = Pairs (λ o t. IsTerm P here (lefts o.calls_before) o t) os ts

  relabel_call : (l k : List Name) (o : Occurrence) (c : Option FoundCall) →
      (is_site o.expr ≡ true → l ≡ k) → IsCall P here l o c → IsCall P here k o c
  relabel_call l k o None same h = h
  relabel_call l k o (Some c) same h = (h.0, subst (λ l. IsCallOf P here l o c) (same h.0) h.1)

  relabel : (f g : ℕ → List Name) (Q : Occurrence → Type 0) →
      ((o : Occurrence) → Q o → is_site o.expr ≡ true → f o.calls_before ≡ g o.calls_before) →
      (os : List Occurrence) (ts : List FoundTerm) → Every Q os → Places f os ts → Places g os ts
  relabel f g Q same os ts q h =
      Pairs-with (λ o t. IsTerm P here (f o.calls_before) o t)
      (λ o t. IsTerm P here (g o.calls_before) o t) Q
      (λ o t known is. (
        is.0,
        relabel_call (f o.calls_before) (g o.calls_before) o t.call
            (same o known) is.1,
      )) os ts q h

  abbrev own : List VariableId → ℕ → Expr → ℕ → List Name
  own lefts n e = own_lefts P (node_of here) n e (map (name_in here) lefts)

  -- a right side that stands on the clock of its equation is placed there
  abbrev IsPlaced : List VariableId → ℕ → Term → Type 0
  IsPlaced lefts n e =
      is_clocked_on P here (clock_in here (left_clock (context_of r here) lefts)) n
      (expr_of (texts_of here) e) ≡ true →
      are_on_results P (node_of here) (clock_in here (left_clock (context_of r here) lefts))
      (map (name_in here) lefts) (ungrouped (expr_of (texts_of here) e)) ≡ true →
      Places (own lefts n (expr_of (texts_of here) e))
      (occurrences P (node_of here)
      (clock_in here (left_clock (context_of r here) lefts)) n (expr_of (texts_of here) e))
      (placed_side (context_of r here) lefts e)

  -- a right side that is no call is placed
  plain : (lefts : List VariableId) (n : ℕ) (t : Term) →
      is_site (ungrouped (expr_of (texts_of here) t)) ≡ false →
      Pairs (IsTerm P here [])
      (occurrences P (node_of here) (clock_in here (left_k lefts)) n (expr_of (texts_of here) t))
      (placed_terms (context_of r here) (left_k lefts) t) →
      Places (own lefts n (expr_of (texts_of here) t))
      (occurrences P (node_of here) (clock_in here (left_k lefts)) n (expr_of (texts_of here) t))
      (placed_terms (context_of r here) (left_k lefts) t)
  plain lefts n t is h =
      let e = expr_of texts t in
      relabel (λ i. []) (own lefts n e) (λ o. Unit {0})
      (λ o known site. no_own P (node_of here) n e (map (name_in here) lefts) o.calls_before is)
      _ _ (Every-all (λ o. Unit {0}) (λ o. tt) _) h

  -- the occurrences within a whole right side are no whole right sides
  inner : (lefts : List VariableId) (n : ℕ) (e : Expr) (os : List Occurrence)
      (ts : List FoundTerm) → AreFrom (n + 1) os → Pairs (IsTerm P here []) os ts →
      Places (own lefts n e) os ts
  inner lefts n e os ts later h =
      relabel (λ i. []) (own lefts n e) (λ o. is_site o.expr ≡ true → n + 1 ≤ o.calls_before)
      (λ o known site. no_more P (node_of here) n e (map (name_in here) lefts) o.calls_before
      (known site))
      os ts later h

  no_site_value : (s : tree.Static) → is_site (ungrouped (named_value s)) ≡ false
  no_site_value (tree.Named x) = refl
  no_site_value s = refl

  side_placed :
      (lefts : List VariableId) → list_all (is_variable (counts_of here)) lefts ≡ true →
      (n : ℕ) (e : Term) → is_within (counts_of here) e ≡ true →
      is_unhidden (texts_of here) e ≡ true → is_single_within r here e ≡ true → IsPlaced lefts n e
  unfolding placed_side placed_terms is_single_within is_single
  side_placed lefts wl n (Value i) w u s k f =
      plain lefts n (Value i) (no_site_value (static_at texts.statics i))
      (term_placed P r here sees (left_k lefts) n (Value i) w u s k)
  side_placed lefts wl n (Group' p a) w u s k f = side_placed lefts wl n a w u s k f
  side_placed lefts wl n (Call' c arity all) w u s k f =
      let wc = and_first _ (are_within (counts_of here) all) w in
      let wa = and_second (is_call (counts_of here) c) _ w in
      let es = row_of texts all in
      let x = call_of_row P r here sees c all in
      let ks = side_clocks ctx lefts (operands_in ctx all) (ctx.callee c) in
      let names = map (name_in here) lefts in
      let found = call_found lefts wl n c all wc wa u s k f in (
        (
          refl,
          (
            refl,
            subst
                (λ l. IsCallOf P here l (at (clock_in here (left_k lefts)) n x)
                (side_call ctx lefts (operands_in ctx all) (ctx.callee c)))
                (sym (own_is P (node_of here) n x names refl))
                found.0,
          ),
        ),
        inner lefts n x _ _
            (from_calls (n + 1) (occurrences_each P (node_of here) (text.call_clocks (clock_in here
            (left_k lefts)) (node_named P (site_at texts.calls c).callee) es) (n + 1) es)
            (sites_in es) (calls_each P (node_of here) (text.call_clocks (clock_in here
            (left_k lefts)) (node_named P (site_at texts.calls c).callee) es) (n + 1) es))
            (subst (λ ls. AreLawful (occurrences_each P (node_of here) ls (n + 1) es) →
            Pairs (IsTerm P here []) (occurrences_each P (node_of here) ls (n + 1) es)
            (placed_arguments ctx ks all))
            (sym found.1)
            (λ e. arguments_on P r here sees ks (n + 1) all wa u s e) (and_second _ _ k)),
      )
  side_placed lefts wl n (IterateNode' it c arity all) w u s k f =
      let es = row_of texts all in
      let x = expr_of texts (IterateNode' it c arity all) in (
        (refl, (refl, record { runs = refl; given = refl; parameters = refl })),
        inner lefts n x _ _ (row_from P (node_of here) (clock_in here (left_k lefts)) (n + 1) es)
            (row_placed P r here sees (left_k lefts) (n + 1) all
            (and_second _ _ w) u s (and_second _ _ k)),
      )
  side_placed lefts wl n t w u s k f =
      plain lefts n t refl (term_placed P r here sees (left_k lefts) n t w u s k)

  -- ## Statements

  statement_placed :
      (n : ℕ) (s : ResolvedStatement) → is_statement_within (counts_of here) s ≡ true →
      is_statement_unhidden (texts_of here) s ≡ true → is_statement_single r here s ≡ true →
      is_clocked_on P here (statement_clock P (node_of here) (statement_of (texts_of here) s)) n
      (right_side (statement_of (texts_of here) s)) ≡ true →
      is_statement_clocked P (node_of here) (statement_of (texts_of here) s)
      (at (statement_clock P (node_of here) (statement_of (texts_of here) s)) n
      (right_side (statement_of (texts_of here) s))) ≡ true →
      Places (own_lefts P (node_of here) n (right_side (statement_of (texts_of here) s))
      (left_names (statement_of (texts_of here) s)))
      (occurrences P (node_of here)
      (statement_clock P (node_of here) (statement_of (texts_of here) s)) n
      (right_side (statement_of (texts_of here) s)))
      (placed_statement (context_of r here) s)
  statement_placed n (statement.Equation lefts e) w u s kept results =
      let wl = and_first _ (is_within (counts_of here) e) w in
      let we = and_second (list_all (is_variable (counts_of here)) lefts.items) _ w in
      let x = expr_of texts e in
      subst (λ k. is_clocked_on P here k n x ≡ true →
      are_on_results P (node_of here) k (map (name_in here) lefts.items) (ungrouped x) ≡ true →
      Places (own lefts.items n x) (occurrences P (node_of here) k n x)
      (placed_side ctx lefts.items e)) (left_is P r here sees lefts.items wl x)
      (side_placed lefts.items wl n e we u s) kept results
  statement_placed n (statement.Assertion e) w u s kept results =
      let x = expr_of texts e in
      let k = determined_clock (infer_clock ctx e) in
      let stands = term_stands P r here sees e w u s in
      let is = determined_is P r here sees x (infer_clock ctx e) stands
      (clock_or (clock_of P (node_of here) x)) n kept in
      subst (λ l. AreLawful (occurrences P (node_of here) l n x) →
      Places (own_lefts P (node_of here) n x []) (occurrences P (node_of here) l n x)
      (placed_terms ctx k e))
      (sym is)
      (λ f. relabel (λ i. []) (own_lefts P (node_of here) n x []) (λ o. Unit {0})
      (λ o known site. none (nat_eq n o.calls_before && is_site (ungrouped x)))
      _ _ (Every-all (λ o. Unit {0}) (λ o. tt) _)
      (term_placed P r here sees k n e w u s f)) kept
    where
      none : (b : Bool) → [] ≡ cond b no_names []
      none true = refl
      none false = refl

  abbrev all_in : List Occurrence → List Occurrence
  all_in os = flat_map (λ r. occurrences P (node_of here) r.clock r.calls_before r.expr) os

  abbrev sides : ℕ → List Statement → List Occurrence
  sides n ss = right_sides P (node_of here) n ss

  abbrev are_kept : List Statement → List Occurrence → Bool
  are_kept ss os = list_all (λ s. is_statement_clocked P (node_of here) s.0 s.1) (zip ss os)

  statements_placed :
      (n : ℕ) (ss : List ResolvedStatement) →
      list_all (is_statement_within (counts_of here)) ss ≡ true →
      list_all (is_statement_unhidden (texts_of here)) ss ≡ true →
      list_all (is_statement_single r here) ss ≡ true →
      AreLawful (all_in (sides n (map (statement_of (texts_of here)) ss))) →
      are_kept (map (statement_of (texts_of here)) ss)
      (sides n (map (statement_of (texts_of here)) ss)) ≡ true →
      Places (lefts_among P (node_of here) n (map (statement_of (texts_of here)) ss))
      (all_in (sides n (map (statement_of (texts_of here)) ss)))
      (flat_map (placed_statement (context_of r here)) ss)
  statements_placed n [] w u s kept results = tt
  statements_placed n (st ∷ ss) w u s kept results =
      let text_of = statement_of texts st in
      let k = statement_clock P (node_of here) text_of in
      let e = right_side text_of in
      let m = n + length (statement_sites text_of) in
      let body = map (statement_of texts) ss in
      let first = occurrences P (node_of here) k n e in
      let rest = all_in (sides m body) in
      let split =
      sym (list_all-append (is_occurrence_clocked P (node_of here)) first rest) ∙ kept in
      let among = lefts_among P (node_of here) n (text_of ∷ body) in
      Pairs-append (λ o t. IsTerm P here (among o.calls_before) o t) first rest _ _
      (relabel (own_lefts P (node_of here) n e (left_names text_of)) among
      (λ o. is_site o.expr ≡ true → o.calls_before < m)
      (λ o below site. first_lefts P (node_of here) n text_of body o.calls_before (below site))
      first _ (statement_below P (node_of here) n text_of)
      (statement_placed n st (and_first _ _ w) (and_first _ _ u) (and_first _ _ s)
      (and_first _ _ split) (and_first _ _ results)))
      (relabel (lefts_among P (node_of here) m body) among
      (λ o. is_site o.expr ≡ true → m ≤ o.calls_before)
      (λ o later site. later_lefts P (node_of here) n text_of body o.calls_before (later site))
      rest _ (from_calls m (body_occurrences P (node_of here) m body) _ (body_calls P (node_of here)
      m body))
      (statements_placed m ss (and_second _ _ w) (and_second _ _ u) (and_second _ _ s)
      (and_second _ _ split) (and_second _ _ results)))

  terms_placed :
      list_all (is_statement_unhidden (texts_of here)) here.body.items ≡ true →
      list_all (is_statement_single r here) here.body.items ≡ true →
      is_clocked P (node_of here) ≡ true →
      Places (lefts_at P (node_of here)) (node_occurrences P (node_of here)) (node_terms r here)
  terms_placed u s kept =
      let resolved = sees.own.resolved in
      let rules = and_second (are_declared_clocks (node_of here)) _ kept in
      let lawful = and_first (list_all (is_occurrence_clocked P (node_of here))
      (node_occurrences P (node_of here))) _ rules in
      let results = and_second (list_all (is_occurrence_clocked P (node_of here))
      (node_occurrences P (node_of here))) _ rules in
      subst (λ b. AreLawful (all_in (sides 0 b)) → are_kept b (sides 0 b) ≡ true →
      Places (lefts_among P (node_of here) 0 b) (all_in (sides 0 b))
      (flat_map (placed_statement (context_of r here)) here.body.items))
      resolved.body
      (statements_placed 0 here.body.items resolved.body_within u s) lawful results

  -- ## The clocks, and the calls

  clocks_of : (f : ℕ → List Name) (os : List Occurrence) (ts : List FoundTerm) → Places f os ts →
      map (λ o. o.clock) os ≡ map (clock_in here) (clocks_among ts)
  clocks_of f [] [] h = refl
  clocks_of f [] (t ∷ ts) h = absurd h
  clocks_of f (o ∷ os) [] h = absurd h
  clocks_of f (o ∷ os) (t ∷ ts) h = ap₂ (λ k ks. k ∷ ks) h.0.0 (clocks_of f os ts h.1)

  calls_of : (f : ℕ → List Name) (os : List Occurrence) (ts : List FoundTerm) → Places f os ts →
      Pairs (λ o c. IsCallOf P here (f o.calls_before) o c) (calls_in os) (calls_among ts)
  calls_of f [] [] h = tt
  calls_of f [] (t ∷ ts) h = absurd h
  calls_of f (o ∷ os) [] h = absurd h
  calls_of f (o ∷ os) (t ∷ ts) h = by t.call h.0.1 (calls_of f os ts h.1)
    where
      by : (c : Option FoundCall) → IsCall P here (f o.calls_before) o c →
          Pairs (λ o c. IsCallOf P here (f o.calls_before) o c) (calls_in os) (calls_among ts) →
          Pairs (λ o c. IsCallOf P here (f o.calls_before) o c) (calls_in (o ∷ os))
          (listed (λ c. c ∷ []) c ++ calls_among ts)
      by None is rest =
          subst (λ b. Pairs (λ o c. IsCallOf P here (f o.calls_before) o c)
          (cond b (o ∷ calls_in os) (calls_in os)) (calls_among ts)) (sym is) rest
      by (Some c) is rest =
          subst (λ b. Pairs (λ o c. IsCallOf P here (f o.calls_before) o c)
          (cond b (o ∷ calls_in os) (calls_in os)) (c ∷ calls_among ts)) (sym is.0) (is.1, rest)

  given_to_is : (call : ℕ) (e : Expr) →
      given_to P (node_of here) call e ≡ given_by P e (lefts_at P (node_of here) call)
  given_to_is call (tree.Call f statics es) = refl
  given_to_is call _ = refl

  -- the clocks and calls found of a node that keeps the rules of clocks are right, where its calls
  -- are counted
  pub node_placed :
      list_all (is_statement_unhidden (texts_of here)) here.body.items ≡ true →
      list_all (is_statement_single r here) here.body.items ≡ true →
      is_clocked P (node_of here) ≡ true →
      counted_from 0 (calls_in (node_occurrences P (node_of here))) ≡ true →
      HasTermClocks P here (clocks_among (node_terms r here))
      × HasFoundCalls P here (calls_among (node_terms r here))
  node_placed u s kept counted = (
    clocks_of (lefts_at P (node_of here)) _ _ (terms_placed u s kept),
    found,
  )
    where
      found : HasFoundCalls P here (calls_among (node_terms r here))
      found i o e =
          let p = call_at_place P (node_of here) counted i o e in
          let c = paired_at
          (λ o c. IsCallOf P here (lefts_at P (node_of here) o.calls_before) o c)
          (calls_in (node_occurrences P (node_of here))) _ i o
          (calls_of (lefts_at P (node_of here)) _ _ (terms_placed u s kept)) p.2 in (
            c.0,
            c.1,
            record {
              runs = c.2.runs;
              given = given_to_is o.calls_before o.expr ∙ c.2.given;
              parameters = c.2.parameters;
            },
          )

-- The clocks and calls that the code finds of the nodes of a program are those of their texts.

-- all items pass `g`, where all pass `f` and what passes `f` passes `g`
all_pass : {A : Type 0} (f g : A → Bool) → ((x : A) → f x ≡ true → g x ≡ true) → (xs : List A) →
    list_all f xs ≡ true → list_all g xs ≡ true
all_pass f g leads [] e = refl
all_pass f g leads (x ∷ xs) e =
    and_from (g x) (list_all g xs) (leads x (and_first _ _ e))
    (all_pass f g leads xs (and_second _ _ e))

module _ (P : Program) (r : Reached) (t : Table) (j : IsJudged P r t)
    (typed : list_all (is_typed P) (instances P) ≡ true)
    (clocked : list_all (λ here. is_clocked P here.node) (instances P) ≡ true)
    (found : List NodeClocks)
    (is : map found_in found
    ≡ map (λ n. with_terms nothing_found (node_terms r n)) r.nodes.items) where
  -- whether the calls of a node are numbered in the order in which they stand
  abbrev are_counted : Node → Bool
  are_counted n = counted_from 0 (calls_in (node_occurrences P n))

  counted : (i : ℕ) (s : Specialization) (n : ResolvedNode) →
      slice_get t.specializations.items i ≡ Some s →
      slice_get r.nodes.items s.node.0 ≡ Some n → are_counted (node_of n) ≡ true
  counted i s n at there =
      let each = all_pass (is_typed P) (λ (here : Instance). are_counted here.node)
      (λ here e. node_counted P here e) (instances P) typed in
      let all = all_specializations P r t j.table are_counted ∙ each in
      let tree : tree_at r s.node ≡ Some (node_of n) =
      slice_get-map node_of r.nodes.items s.node.0 ∙ ap (option_map node_of) there in
      sym (ap (holds are_counted) tree)
      ∙ all_at (λ (s : Specialization). holds are_counted (tree_at r s.node))
      t.specializations.items i s all at

  of_node : (i : ℕ) (s : Specialization) (n : ResolvedNode) →
      slice_get t.specializations.items i ≡ Some s →
      slice_get r.nodes.items s.node.0 ≡ Some n →
      (f : NodeClocks)
      × (slice_get found s.node.0 ≡ Some f)
      × HasTermClocks P n f.terms.items
      × HasFoundCalls P n (map call_in f.calls.items)
      × (list_all (is_clock_within n) f.terms.items ≡ true)
      × (list_all (is_call_within n) (map call_in f.calls.items) ≡ true)
  of_node i s n at there =
      let known = clocked_node P r t j typed clocked i s n at there in
      let of = λ (n : ResolvedNode). with_terms nothing_found (node_terms r n) in
      let f =
      mapped_from found_in found s.node.0 (of n)
      (ap (λ l. slice_get l s.node.0) is ∙ get_mapped of r.nodes.items s.node.0 n there) in
      let same = f.2 ∙ all_found nothing_found (node_terms r n) in
      let placed = node_placed P r n known.sees known.unhidden known.single known.kept
      (counted i s n at there) in
      let resolved = known.sees.own.resolved in
      let within = node_within r n resolved.declared_within resolved.body_within in (
        f.0,
        f.1,
        subst (HasTermClocks P n) (sym (ap (λ g. g.terms) same)) placed.0,
        subst (HasFoundCalls P n) (sym (ap (λ g. g.calls) same)) placed.1,
        ap (λ g. list_all (is_clock_within n) g.terms) same ∙ within.0,
        ap (λ g. list_all (is_call_within n) g.calls) same ∙ within.1,
      )

  pub found_clocks : HasFoundClocks P r t found
  found_clocks = record { clocks = of_node }

-- the clocks and calls that are found of an elaborated program without a broken rule are right
pub found_here :
    (e : Elaboration) (r : Reached) (found : List NodeClocks) → IsLawful e →
    r ≡ e.reached → check_refusal (elaborated_program e) ≡ None →
    map found_in found ≡ map (λ n. with_terms nothing_found (node_terms r n)) r.nodes.items →
    HasFoundClocks (elaborated_program e) e.reached e.table found
found_here e r found is same accepted placed =
    let P = elaborated_program e in
    let typed = list_all (is_typed P) (instances P) in
    let clocked = list_all (λ here. is_clocked P here.node) (instances P) in
    found_clocks P e.reached e.table (judged P e is)
    (kept typed E9 (first_none (unless typed E9) _ accepted))
    (kept clocked E10
    (first_none (unless clocked E10) _ (second_none (unless typed E9) _ accepted))) found
    (subst (λ r. map found_in found
    ≡ map (λ n. with_terms nothing_found (node_terms r n)) r.nodes.items) same placed)
