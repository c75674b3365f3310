-- The statements of a node keep the rules of clocks exactly where the code finds it.
use Rattle.lb_check.proofs.Words
use Words.{AnyClock, Bool, Call', CallId, ClockSet, Context, Expr, Exprs, Group', IsClockSet, List}
use Words.{Name, NoClock, Node, Occurrence, OneClock, Program, Reached, ResolvedNode}
use Words.{ResolvedStatement, Row_of-Term, SeesClocks, Some, Statement, Static, Term, Texts, Value}
use Words.{VariableId, [], accepts_clock, all_at, and-true, and_first, and_second, ap, ap₂}
use Words.{are_on_results, are_single, are_unhidden, are_within, at, at_place, both_ways, clock_in}
use Words.{clock_of, clock_or, context_of, counts_of, declared_clock, declared_in, expr_of}
use Words.{exprs_of, false, flat_map, holds, infer_clock, is_body_clocked, is_call, is_clock}
use Words.{is_clock_within, is_clocked, is_clocked_on, is_equation_clocked, is_occurrence_clocked}
use Words.{is_part_clocked, is_resolved_statement_clocked, is_same, is_single, is_single_within}
use Words.{is_statement_clocked, is_statement_single, is_statement_unhidden, is_statement_within}
use Words.{is_unhidden, is_variable, is_within, items-the_row-Term, left_clock, left_clocks, length}
use Words.{list_all, list_all-append, map, name_in, named_value, node_of, occurrences, operands_in}
use Words.{operands_of, refl, right_side, right_sides, row_of, same, site_at, slice_get}
use Words.{statement_clock, statement_of, statement_sites, statements, static_at, subst, suc, sym}
use Words.{texts_of, true, ungrouped, zero, zip, ℕ, ◌&&◌, ◌+◌, ◌∙◌, ◌∷◌, ◌≡◌}
use Rattle.lb_check.proofs.clocking.ClockTests.{clock_turned, declared_is, declared_within, same_is}
use Rattle.lb_check.proofs.clocking.EquationClockSets.{code_kept, rules, text_kept}
use Rattle.lb_check.proofs.clocking.{OwnClocks.clock_itself, TermClockSets.called_operands}
use Rattle.lb_check.proofs.clocking.TermClockSets.{operands_items, row_items, term_stands}
use Rattle.lb_check.proofs.lists.ListPairs.{fails_at, item_there}
use Rattle.lb_check.specs.{BrokenParts.is_side_clocked, TermClocks.is_call_clocked}
use Rattle.lb_check.specs.{TermClocks.{is_one_clocked, stands}, declared.own_clock.Clock.Clock}
use Rattle.lb_syntax.specs.Tree as tree
use Rattle.lb_static.specs.declared.resolved.ResolvedStatement.TheVariants as statement
use Rattle.lb_check.specs.Clocks as clocks
use Rattle.lb_check.specs.declared.part.Part.TheVariants as part

regrouped : (a b c d : Bool) → ((a && b) && (c && d)) ≡ ((a && c) && (b && d))
regrouped true true c d = refl
regrouped true false true d = refl
regrouped true false false d = refl
regrouped false b c d = refl

-- ## A reached node

module _ (P : Program) (r : Reached) (here : ResolvedNode) (sees : SeesClocks P r here) where
  abbrev t : Texts
  t = texts_of here

  abbrev node : Node
  node = node_of here

  abbrev ctx : Context
  ctx = context_of r here

  -- ## The clock set of an expression

  accepts_clock_is : (k : Clock) → is_clock_within here k ≡ true → (s : ClockSet) (e : Expr) →
      IsClockSet P here e s → (n : ℕ)
      → is_clocked_on P here (clock_in here k) n e ≡ accepts_clock (Some k) s
  accepts_clock_is k w NoClock e st n = st (clock_in here k) n
  accepts_clock_is k w AnyClock e st n = st.1 (clock_in here k) n
  accepts_clock_is k w (OneClock c) e st n =
      st.2 (clock_in here k) n ∙ clock_turned (clock_in here k) (clock_in here c)
      ∙ sym (same_is here sees.own c k st.0 w)

  asserted : (s : ClockSet) (e : Expr) → IsClockSet P here e s → (n : ℕ) →
      is_clocked_on P here (clock_or (clock_of P node e)) n e ≡ stands s
  asserted NoClock e st n = st _ n
  asserted AnyClock e st n = st.1 _ n
  asserted (OneClock c) e st n =
      st.2 (clock_or (clock_of P node e)) n ∙ ap (λ o. is_clock (clock_or o) (clock_in here c)) st.1
      ∙ clock_itself (clock_in here c)

  -- ## Left variables

  abbrev left_k : List VariableId → clocks.Clock
  left_k lefts = clock_in here (left_clock ctx lefts)

  pub left_is : (lefts : List VariableId) → list_all (is_variable (counts_of here)) lefts ≡ true →
      (e : Expr)
      → left_k lefts ≡ statement_clock P node (tree.Equation (map (name_in here) lefts) e)
  unfolding context_of
  left_is [] w e = refl
  left_is (x ∷ xs) w e = declared_is here sees.own x (and_first _ _ w)

  left_within : (lefts : List VariableId) → list_all (is_variable (counts_of here)) lefts ≡ true →
      is_clock_within here (left_clock ctx lefts) ≡ true
  unfolding context_of
  left_within [] w = refl
  left_within (x ∷ xs) w = declared_within here sees.own x (and_first _ _ w)

  lefts_are : (k : Clock) → is_clock_within here k ≡ true → (lefts : List VariableId) →
      list_all (is_variable (counts_of here)) lefts ≡ true
      → list_all (is_clock (clock_in here k))
      (left_clocks node (map (name_in here) lefts)) ≡ list_all
      (λ x. is_same k (ctx.variable x)) lefts
  unfolding context_of
  lefts_are k wk [] w = refl
  lefts_are k wk (x ∷ xs) w =
      let wx = and_first _ (list_all (is_variable (counts_of here)) xs) w in
      let one : is_clock (clock_in here k) (declared_clock node (name_in here x)) ≡ is_same k
      (declared_in here x) =
      ap (is_clock (clock_in here k)) (sym (declared_is here sees.own x wx))
      ∙ sym (same_is here sees.own k _ wk (declared_within here sees.own x wx)) in
      ap₂ (λ b c. b && c) one (lefts_are k wk xs (and_second _ _ w))

  one_clocked : (lefts : List VariableId) → list_all (is_variable (counts_of here)) lefts ≡ true →
      (s : ClockSet) (e : Expr) → IsClockSet P here e s → (n : ℕ)
      → (is_clocked_on P here (left_k lefts) n e
      && list_all (is_clock (left_k lefts)) (left_clocks node (map (name_in here) lefts))) ≡
      is_one_clocked ctx lefts s
  one_clocked lefts w s e st n =
      let k = left_clock ctx lefts in
      let wk = left_within lefts w in
      ap₂ (λ b c. b && c) (accepts_clock_is k wk s e st n) (lefts_are k wk lefts w)

  -- a constant or a parameter is no call
  value_side : (k : clocks.Clock) (xs : List Name) (s : Static)
      → are_on_results P node k xs (ungrouped (named_value s)) ≡ list_all (is_clock k)
      (left_clocks node xs)
  value_side k xs (tree.Whole n) = refl
  value_side k xs s = refl

  -- ## Right sides and statements

  abbrev IsSide : List VariableId → ℕ → Term → Type 0
  IsSide lefts n e =
      (is_clocked_on P here (left_k lefts) n (expr_of t e)
      && are_on_results P node (left_k lefts) (map (name_in here) lefts) (ungrouped (expr_of t e)))
      ≡ is_equation_clocked ctx lefts e

  call_side : (lefts : List VariableId) → list_all (is_variable (counts_of here)) lefts ≡ true →
      (n : ℕ) (c : CallId) {m : _} (row : Row_of-Term m)
      → is_call (counts_of here) c ≡ true → are_within (counts_of here) row ≡ true →
      are_unhidden t row ≡ true → are_single r here row ≡ true
      → let e = tree.Call (site_at t.calls c).callee (site_at t.calls c).arguments (row_of t row) in
      (is_clocked_on P here (left_k lefts) n e
      && are_on_results P node (left_k lefts) (map (name_in here) lefts) e)
      ≡ holds (λ callee. is_call_clocked ctx callee (operands_in ctx row) lefts) (ctx.callee c)
  call_side lefts wl n c {m = m} row wc w u s =
      let site = site_at t.calls c in
      let xs = map (name_in here) lefts in
      let es = items-the_row-Term m row in
      let e = tree.Call site.callee site.arguments (exprs_of t es) in
      let found = called_operands P r here sees c row wc w u s in
      let on_left =
      subst (λ k. (is_clocked_on P here k n e && are_on_results P node k xs e) ≡ is_call_clocked ctx
      found.0 (operands_of ctx es) lefts)
      (sym (left_is lefts wl e)) (rules found.3 site found.2 lefts wl n ∙ both_ways _ _
      (code_kept found.3 site found.2 lefts wl) (text_kept found.3 site found.2 lefts wl)) in
      ap (λ (es : Exprs). is_clocked_on P here (left_k lefts) n
      (tree.Call site.callee site.arguments es)
      && are_on_results P node (left_k lefts) xs (tree.Call site.callee site.arguments es))
      (row_items t m row)
      ∙ on_left ∙ ap (λ os. is_call_clocked ctx found.0 os lefts) (sym (operands_items ctx m row))
      ∙ sym (ap (holds (λ callee. is_call_clocked ctx callee (operands_in ctx row) lefts)) found.1)

  term_side : (lefts : List VariableId) → list_all (is_variable (counts_of here)) lefts ≡ true →
      (n : ℕ) (e : Term)
      → is_within (counts_of here) e ≡ true → is_unhidden t e ≡ true → is_single r here e ≡ true
      → (is_clocked_on P here (left_k lefts) n (expr_of t e)
      && list_all (is_clock (left_k lefts)) (left_clocks node (map (name_in here) lefts)))
      ≡ is_one_clocked ctx lefts (infer_clock ctx e)
  term_side lefts wl n e w u s =
      one_clocked lefts wl (infer_clock ctx e) (expr_of t e) (term_stands P r here sees e w u s) n

  side_clocked : (lefts : List VariableId) →
      list_all (is_variable (counts_of here)) lefts ≡ true → (n : ℕ) (e : Term)
      → is_within (counts_of here) e ≡ true → is_unhidden t e ≡ true →
      is_single_within r here e ≡ true → IsSide lefts n e
  unfolding is_equation_clocked is_single_within
  side_clocked lefts wl n (Value i) w u s =
      ap (λ b. is_clocked_on P here (left_k lefts) n (expr_of t (Value i)) && b)
      (value_side (left_k lefts) (map (name_in here) lefts) (static_at t.statics i))
      ∙ term_side lefts wl n (Value i) w u s
  side_clocked lefts wl n (Group' p e) w u s = side_clocked lefts wl n e w u s
  side_clocked lefts wl n (Call' c arity all) w u s =
      call_side lefts wl n c all (and_first _ _ w) (and_second _ _ w) u s
  side_clocked lefts wl n e w u s = term_side lefts wl n e w u s

  statement_clocked : (n : ℕ) (s : ResolvedStatement)
      → is_statement_within (counts_of here) s ≡ true →
      is_statement_unhidden t s ≡ true → is_statement_single r here s ≡ true
      → let k = statement_clock P node (statement_of t s) in
      let e = right_side (statement_of t s) in
      (is_clocked_on P here k n e && is_statement_clocked P node (statement_of t s) (at k n e)) ≡
      is_resolved_statement_clocked ctx s
  statement_clocked n (statement.Equation lefts e) w u s =
      let wl = and_first _ (is_within (counts_of here) e) w in
      subst (λ k. (is_clocked_on P here k n (expr_of t e)
      && are_on_results P node k (map (name_in here) lefts.items) (ungrouped (expr_of t e)))
      ≡ is_equation_clocked ctx lefts.items e) (left_is lefts.items wl (expr_of t e))
      (side_clocked lefts.items wl n e (and_second _ _ w) u s)
  statement_clocked n (statement.Assertion e) w u s =
      and-true _ ∙ asserted (infer_clock ctx e) (expr_of t e) (term_stands P r here sees e w u s) n

  statements_clocked : (n : ℕ) (ss : List ResolvedStatement) →
      list_all (is_statement_within (counts_of here)) ss ≡ true →
      list_all (is_statement_unhidden t) ss ≡ true
      → list_all (is_statement_single r here) ss ≡ true
      → let body = map (statement_of t) ss in
      (list_all (is_occurrence_clocked P node)
      (flat_map (λ r. occurrences P node r.clock r.calls_before r.expr) (right_sides P node n body))
      && list_all (λ s. is_statement_clocked P node s.0 s.1) (zip body (right_sides P node n body)))
      ≡ list_all (is_resolved_statement_clocked ctx) ss
  statements_clocked n [] w u s = refl
  statements_clocked n (st ∷ ss) w u s =
      let one = statement_clocked n st (and_first _ _ w) (and_first _ _ u) (and_first _ _ s) in
      let m = n + length (statement_sites (statement_of t st)) in
      let more = statements_clocked m ss (and_second _ _ w) (and_second _ _ u) (and_second _ _ s) in
      let k = statement_clock P node (statement_of t st) in
      let e = right_side (statement_of t st) in
      let rest = flat_map (λ (r : Occurrence). occurrences P node r.clock r.calls_before r.expr)
      (right_sides P node m (map (statement_of t) ss)) in
      ap (λ b. b && list_all (λ s. is_statement_clocked P node s.0 s.1)
      (zip (map (statement_of t) (st ∷ ss))
      (right_sides P node n (map (statement_of t) (st ∷ ss)))))
      (list_all-append (is_occurrence_clocked P node) (occurrences P node k n e) rest)
      ∙ regrouped (is_clocked_on P here k n e) (list_all (is_occurrence_clocked P node) rest)
      (is_statement_clocked P node (statement_of t st) (at k n e)) _
      ∙ ap₂ (λ b c. b && c) one more

  -- a node keeps the rules of clocks exactly where the code finds it of each statement
  pub node_clocked : list_all (is_statement_unhidden (texts_of here)) here.body.items ≡ true →
      list_all (is_statement_single r here) here.body.items ≡ true
      → is_clocked P (node_of here) ≡ is_body_clocked r here
  node_clocked u s =
      ap (λ b. b && (list_all (is_occurrence_clocked P node)
      (flat_map (λ r. occurrences P node r.clock r.calls_before r.expr)
      (right_sides P node 0 node.body))
      && list_all (λ s. is_statement_clocked P node s.0 s.1)
      (zip node.body (right_sides P node 0 node.body)))) sees.own.declared
      ∙ ap (λ b. list_all (is_occurrence_clocked P node)
      (flat_map (λ r. occurrences P node r.clock r.calls_before r.expr) (right_sides P node 0 b))
      && list_all (λ s. is_statement_clocked P node s.0 s.1) (zip b (right_sides P node 0 b)))
      (sym sees.own.resolved.body)
      ∙ statements_clocked 0 here.body.items sees.own.resolved.body_within u s

  -- the statement at a place, with its right side
  side_at : (n : ℕ) (ss : List ResolvedStatement) (j : ℕ) (st : ResolvedStatement) →
      slice_get ss j ≡ Some st
      → (m : ℕ) × (slice_get (zip (map (statement_of t) ss)
      (right_sides P node n (map (statement_of t) ss))) j
      ≡ Some (
        statement_of t st,
        at (statement_clock P node (statement_of t st)) m (right_side (statement_of t st)),
      ))
  side_at n [] j st e = absurd cc
  side_at n (s ∷ ss) zero st e =
      let same : s ≡ st = cc in (
        n,
        ap (λ (s : ResolvedStatement). Some (
          statement_of t s,
          at (statement_clock P node (statement_of t s)) n (right_side (statement_of t s)),
        )) same,
      )
  side_at n (s ∷ ss) (suc j) st e =
      side_at (n + length (statement_sites (statement_of t s))) ss j st e

  -- a statement that the code finds to break the rules of clocks breaks them
  pub statement_broken : list_all (is_statement_unhidden (texts_of here)) here.body.items ≡ true
      → list_all (is_statement_single r here) here.body.items ≡ true → (j : ℕ) →
      at_place (is_resolved_statement_clocked (context_of r here)) here.body.items j ≡ false
      → is_part_clocked P (node_of here) (part.Statement j) ≡ false
  statement_broken u s j e =
      let st = item_there (is_resolved_statement_clocked ctx) here.body.items j e in
      let side = side_at 0 here.body.items j st.0 st.1 in
      let resolved = sees.own.resolved in
      let whole = ap (λ b. slice_get (zip b (right_sides P node 0 b)) j) (sym resolved.body)
      ∙ side.1 in
      fails_at (is_side_clocked P node) (statements P node) j (
        statement_of t st.0,
        at (statement_clock P node (statement_of t st.0)) side.0 (right_side (statement_of t st.0)),
      ) whole (statement_clocked side.0 st.0
      (all_at (is_statement_within (counts_of here)) here.body.items j st.0 resolved.body_within
      st.1) (all_at (is_statement_unhidden t) here.body.items j st.0 u st.1)
      (all_at (is_statement_single r here) here.body.items j st.0 s st.1) ∙ st.2)
