-- The clocks and calls that the code finds of the parts of a term are those of its occurrences.
use Rattle.lb_check.proofs.Words
use Words.{AnyClock, Array', Arrow', AtMostOne', Binary', Bool, Call', CallId, ClockSet, Context}
use Words.{Count, Current', Expr, Fby', FoundCall, FoundTerm, Given, Group', If', Index'}
use Words.{IsClockSet, IterateNode', IterateSymbol', Join', List, Literal, Name, NoClock, None}
use Words.{Nor', Occurrence, OneClock, Option, Pre', Program, Reached, Replicate', ResolvedNode}
use Words.{Row_of-Term, SeesClocks, Slice', Some, Static, Term, Texts, Truth, Unary', Value}
use Words.{VariableId, When', [], and_first, and_second, ap, ap₂, are_given, are_single}
use Words.{are_unhidden, are_within, arith, at, call_count, calls_single, clock_in, clock_of}
use Words.{clock_or, clock_sets, context_of, counts_of, declared_clock, declared_in}
use Words.{determined_clock, either_or, end_of-Term, expr_of, exprs_of, false, given_at}
use Words.{given_inputs, given_parameters, given_variables, holds, infer_clock, input_clocks}
use Words.{is_call, is_clocked_on, is_occurrence_clocked, is_single, is_site, is_unhidden}
use Words.{is_within, items-the_row-Term, list_all, list_all-append, listed, map, more_of-Term}
use Words.{name_in, named_value, nat_eq, nat_tests, nested_call, node_named, node_of, occurrences}
use Words.{occurrences_each, occurrences_in, operands_in, operands_of, outer, pair_names, part}
use Words.{placed_arguments, placed_row, placed_terms, refl, row_of, site_at, site_clock, static_at}
use Words.{subst, sym, texts_of, true, variable_names, ℕ, ◌&&◌, ◌++◌, ◌+◌, ◌<◌, ◌>>=◌, ◌∙◌, ◌∷◌}
use Words.{◌≡◌}
use Rattle.lb_check.proofs.clocking.CallOperands.{KnownOperands, arguments_placed}
use Rattle.lb_check.proofs.clocking.{ClockTests.declared_is, GivenVariables.given_is}
use Rattle.lb_check.proofs.clocking.{OuterClocks.fits_on, PlacedWithin.are_among}
use Rattle.lb_check.proofs.clocking.{PlacedWithin.parameters_within, TermClockSets.called_operands}
use Rattle.lb_check.proofs.clocking.TermClockSets.{operands_items, row_items, term_stands}
use Rattle.lb_check.{proofs.lists.ListPairs.{Pairs, Pairs-append}, specs.FoundTerms.are_parameters}
use Rattle.lb_check.specs.{FoundTerms.given_names, PlacedClocks.{argument_clocks, call_base}}
use Rattle.lb_check.specs.{PlacedClocks.call_clocks, declared.own_clock.Clock.Clock}
use Rattle.lb_static.specs.declared.resolved.Term.{Variable}
use Rattle.lb_syntax.specs.Tree as tree
use Rattle.lb_check.specs.Clocks as clocks
use Rattle.lb_check.specs.Occurrences as text
use Rattle.lb_check.proofs.clocking.CallClockSets as one

-- ## The found term of an occurrence

-- the variables of the caller that stand for clock parameters of a call with left variables `lefts`
abbrev pub given_by : Program → Expr → List Name → Given
given_by P (tree.Call f statics es) lefts =
    listed (λ callee. given_parameters callee es lefts) (node_named P f)
given_by P e lefts = []

pub record IsCallOf (P : Program) (n : ResolvedNode) (lefts : List Name) (o : Occurrence)
    (c : FoundCall) : Type 0 where
  pub runs : site_clock P o.clock o.expr ≡ clock_in n c.runs
  pub given : given_by P o.expr lefts ≡ given_names P n o.expr c.given
  pub parameters : are_parameters P o.expr c.given ≡ true

abbrev pub IsCall : Program → ResolvedNode → List Name → Occurrence → Option FoundCall → Type 0
IsCall P n lefts o None = is_site o.expr ≡ false
IsCall P n lefts o (Some c) = (is_site o.expr ≡ true) × IsCallOf P n lefts o c

-- a found term has the clock of an occurrence, and is its call, if it is one
abbrev pub IsTerm : Program → ResolvedNode → List Name → Occurrence → FoundTerm → Type 0
IsTerm P n lefts o t = (o.clock ≡ clock_in n t.clock) × IsCall P n lefts o t.call

module _ (P : Program) (r : Reached) (here : ResolvedNode) (sees : SeesClocks P r here) where
  abbrev texts : Texts
  texts = texts_of here

  abbrev ctx : Context
  ctx = context_of r here

  abbrev AreLawful : List Occurrence → Type 0
  AreLawful os = list_all (is_occurrence_clocked P (node_of here)) os ≡ true

  fore : (os os' : List Occurrence) → AreLawful (os ++ os') → AreLawful os
  fore os os' e =
      and_first _ _ (sym (list_all-append (is_occurrence_clocked P (node_of here)) os os') ∙ e)

  aft : (os os' : List Occurrence) → AreLawful (os ++ os') → AreLawful os'
  aft os os' e =
      and_second _ _ (sym (list_all-append (is_occurrence_clocked P (node_of here)) os os') ∙ e)

  -- the occurrences of an expression on clock `k` of the code
  abbrev on : Clock → ℕ → Expr → List Occurrence
  on k n e = occurrences P (node_of here) (clock_in here k) n e

  abbrev Places : List Occurrence → List FoundTerm → Type 0
  Places os ts = Pairs (IsTerm P here []) os ts

  both_placed :
      (os os' : List Occurrence) (ts ts' : List FoundTerm) → Places os ts → Places os' ts' →
      Places (os ++ os') (ts ++ ts')
  both_placed os os' ts ts' h g = Pairs-append (IsTerm P here []) os os' ts ts' h g

  declares : (context_of r here).variable ≡ declared_in here
  unfolding context_of
  declares = refl

  -- the clock that the code determines for the operand of `current` is that of the text
  pub determined_is :
      (e : Expr) (s : ClockSet) → IsClockSet P here e s → (k : clocks.Clock) (n : ℕ) →
      is_clocked_on P here k n e ≡ true →
      clock_or (clock_of P (node_of here) e) ≡ clock_in here (determined_clock s)
  determined_is e NoClock st k n kept = absurd (never (st k n) kept)
    where
      never : {b : Bool} → b ≡ false → b ≡ true → ⊥
      never p q = cc
  determined_is e AnyClock st k n kept = ap clock_or st.0
  determined_is e (OneClock c) st k n kept = ap clock_or st.1

  abbrev pub call_of_row : {m : Count} → CallId → Row_of-Term m → Expr
  call_of_row c row =
      tree.Call (site_at (texts_of here).calls c).callee (site_at (texts_of here).calls c).arguments
      (row_of (texts_of here) row)

  -- a call on clock `k` with left variables `lefts`, whose callee runs on clock `b`: the variables
  -- given for clock parameters, and the clocks of the arguments
  pub call_right :
      (k : clocks.Clock) (n : ℕ) (lefts : List VariableId) (c : CallId) {m : Count}
      (row : Row_of-Term m) (callee : ResolvedNode) →
      node_named P (site_at (texts_of here).calls c).callee ≡ Some (node_of callee) →
      KnownOperands P here callee (context_of r here) (items-the_row-Term m row) →
      (Y : ℕ → Option VariableId) →
      ((i : ℕ) → i < callee.inputs →
      Y i ≡ given_at (operands_of (context_of r here) (items-the_row-Term m row)) i) →
      are_given callee (operands_of (context_of r here) (items-the_row-Term m row)) ≡ true →
      (b : Clock) → clocks.base_clock k (node_of callee) ≡ clock_in here b →
      fits_on here Y (clock_in here b) (input_clocks callee)
      (clock_sets (operands_of (context_of r here) (items-the_row-Term m row))) ≡ true →
      IsCallOf P here (map (name_in here) lefts) (at k n (call_of_row c row)) (record {
        runs = b;
        given = given_variables callee (operands_of (context_of r here)
            (items-the_row-Term m row)) lefts;
      })
      × (text.call_clocks k (node_named P (site_at (texts_of here).calls c).callee)
      (row_of (texts_of here) row) ≡ map (clock_in here) (argument_clocks b Y callee))
  call_right k n lefts c {m = m} row callee named ops Y Y_is given b base fits =
      let es = items-the_row-Term m row in
      let xs = map (name_in here) lefts in
      let gs = given_variables callee (operands_of ctx es) lefts in
      let args = row_items texts m row in (
        record {
          runs =
              ap (λ o. either_or (o >>= λ callee. Some (clocks.base_clock k callee)) k) named
              ∙ base;
          given =
              ap (listed (λ callee. given_parameters callee (row_of texts row) xs)) named
              ∙ ap (λ es. given_parameters (node_of callee) es xs) args
              ∙ given_is callee ops.called here ctx es lefts given
              ∙ sym (ap (listed (λ z. map (pair_names (variable_names z) here) gs)) named);
          parameters =
              ap (are_among gs) named
              ∙ parameters_within callee ops.called (operands_of ctx es) lefts;
        },
        ap₂ (text.call_clocks k) named args
            ∙ ap (λ z. map (λ (d : tree.Declaration). outer z
            (given_inputs (node_of callee).inputs (exprs_of texts es))
            (declared_clock (node_of callee) d.name)) (node_of callee).inputs) base
            ∙ arguments_placed ops Y Y_is given b fits,
      )

  -- the found call of a call, with the clock on which its callee runs and the variables given for
  -- its clock parameters, and the clocks of its arguments
  call_found :
      (k : Clock) (n : ℕ) (c : CallId) {m : Count} (row : Row_of-Term m) →
      is_call (counts_of here) c ≡ true → are_within (counts_of here) row ≡ true →
      are_unhidden (texts_of here) row ≡ true → calls_single r here c ≡ true →
      are_single r here row ≡ true →
      is_clocked_on P here (clock_in here k) n (call_of_row c row) ≡ true →
      IsCallOf P here [] (at (clock_in here k) n (call_of_row c row))
      (nested_call k (operands_in (context_of r here) row) ((context_of r here).callee c))
      × (text.call_clocks (clock_in here k) (node_named P (site_at (texts_of here).calls c).callee)
      (row_of (texts_of here) row)
      ≡ map (clock_in here)
      (call_clocks (context_of r here) k c (operands_in (context_of r here) row)))
  unfolding context_of
  call_found k n c {m = m} row wc w u single singles kept =
      let found = called_operands P r here sees c row wc w u singles in
      let site = site_at texts.calls c in
      let os = operands_of ctx (items-the_row-Term m row) in
      let one_test : nat_eq found.0.outputs 1 ≡ true =
      sym (ap (holds (λ n. nat_eq n.outputs 1)) found.1) ∙ single in
      let outputs : found.0.outputs ≡ 1 = grind (arith, nat_tests) in
      let on_items : is_clocked_on P here (clock_in here k) n
      (tree.Call site.callee site.arguments (exprs_of texts (items-the_row-Term m row))) ≡ true =
      subst (λ es. is_clocked_on P here (clock_in here k) n
      (tree.Call site.callee site.arguments es) ≡ true) (row_items texts m row) kept in
      let right = call_right (clock_in here k) n [] c row found.0 found.2 found.3 (given_at os)
      (λ i lt. refl) (one.runs_given found.3 site found.2 outputs k n on_items)
      (call_base k found.0 os) (one.runs_base found.3 site found.2 outputs k n on_items)
      (one.runs_fitting found.3 site found.2 outputs k n on_items) in
      rw (operands_items ctx m row, found.1) right

  value_placed : (k : Clock) (n : ℕ) (s : Static) → Places (on k n (named_value s)) (part k ∷ [])
  value_placed k n (tree.Named x) = ((refl, refl), tt)
  value_placed k n s = ((refl, refl), tt)

  -- the found terms of a term on clock `k` stand for its occurrences
  abbrev HasPlaces : Clock → ℕ → Term → Type 0
  HasPlaces k n t =
      is_within (counts_of here) t ≡ true → is_unhidden texts t ≡ true → is_single r here t ≡ true →
      AreLawful (on k n (expr_of texts t)) →
      Places (on k n (expr_of texts t)) (placed_terms ctx k t)

  -- the found terms of two operands stand for their occurrences
  two_placed :
      (k : Clock) (n : ℕ) (a b : Term) →
      (is_within (counts_of here) a && is_within (counts_of here) b) ≡ true →
      (is_unhidden texts a && is_unhidden texts b) ≡ true →
      (is_single r here a && is_single r here b) ≡ true →
      HasPlaces k n a → HasPlaces k (n + call_count (expr_of texts a)) b →
      AreLawful (on k n (expr_of texts a)
      ++ on k (n + call_count (expr_of texts a)) (expr_of texts b)) →
      Places (on k n (expr_of texts a)
      ++ on k (n + call_count (expr_of texts a)) (expr_of texts b))
      (placed_terms ctx k a ++ placed_terms ctx k b)
  two_placed k n a b w u o h g e =
      let first = on k n (expr_of texts a) in
      both_placed _ _ _ _
      (h (and_first _ _ w) (and_first _ _ u) (and_first _ _ o) (fore first _ e))
      (g (and_second _ _ w) (and_second _ _ u) (and_second _ _ o) (aft first _ e))

  mutual
    unfolding placed_terms is_single

    pub term_placed :
        (k : Clock) (n : ℕ) (t : Term) → is_within (counts_of here) t ≡ true →
        is_unhidden (texts_of here) t ≡ true → is_single r here t ≡ true →
        AreLawful (on k n (expr_of (texts_of here) t)) →
        Places (on k n (expr_of (texts_of here) t)) (placed_terms (context_of r here) k t)
    term_placed k n (Literal m) w u o e = ((refl, refl), tt)
    term_placed k n (Truth b) w u o e = ((refl, refl), tt)
    term_placed k n (Variable x) w u o e = ((refl, refl), tt)
    term_placed k n (Value i) w u o e = value_placed k n (static_at texts.statics i)
    term_placed k n (Group' p a) w u o e = term_placed k n a w u o e
    term_placed k n (Unary' op p a) w u o e = (
      (refl, refl),
      term_placed k n a w u o e,
    )
    term_placed k n (Binary' op p a q b) w u o e = (
      (refl, refl),
      two_placed k n a b w u o (λ w u o e. term_placed k n a w u o e)
          (λ w u o e. term_placed k (n + call_count (expr_of texts a)) b w u o e) e,
    )
    term_placed k n (If' p c q a r' b) w u o e =
        let na = n + call_count (expr_of texts c) in
        let first = on k n (expr_of texts c) in (
          (refl, refl),
          both_placed _ _ _ _
              (term_placed k n c (and_first _ _ w) (and_first _ _ u) (and_first _ _ o)
              (fore first _ e))
              (two_placed k na a b (and_second _ _ w) (and_second _ _ u) (and_second _ _ o)
              (λ w u o e. term_placed k na a w u o e)
              (λ w u o e. term_placed k (na + call_count (expr_of texts a)) b w u o e)
              (aft first _ e)),
        )
    term_placed k n (Arrow' p a q b) w u o e = (
      (refl, refl),
      two_placed k n a b w u o (λ w u o e. term_placed k n a w u o e)
          (λ w u o e. term_placed k (n + call_count (expr_of texts a)) b w u o e) e,
    )
    term_placed k n (Fby' p a q b) w u o e = (
      (refl, refl),
      two_placed k n a b w u o (λ w u o e. term_placed k n a w u o e)
          (λ w u o e. term_placed k (n + call_count (expr_of texts a)) b w u o e) e,
    )
    term_placed k n (Pre' p a) w u o e = (
      (refl, refl),
      term_placed k n a w u o e,
    )
    term_placed k n (Current' p a) w u o e =
        let x = expr_of texts a in
        let kept = and_second _ _ e in
        let stands = term_stands P r here sees a w u o in
        let is = determined_is x (infer_clock ctx a) stands
        (clock_or (clock_of P (node_of here) x)) n kept in (
          (refl, refl),
          subst (λ l. AreLawful (occurrences P (node_of here) l n x) →
              Places (occurrences P (node_of here) l n x)
              (placed_terms ctx (determined_clock (infer_clock ctx a)) a)) (sym is)
              (λ f. term_placed (determined_clock (infer_clock ctx a)) n a w u o f) kept,
        )
    term_placed k n (When' p a x sign) w u o e =
        let y = expr_of texts a in
        let kept = and_second _ _ e in
        let is = declared_is here sees.own x (and_first _ _ w) in
        let same : clock_in here ((context_of r here).variable x)
        ≡ declared_clock (node_of here) (name_in here x) =
        ap (λ f. clock_in here (f x)) declares ∙ is in (
          (refl, refl),
          subst (λ l. AreLawful (occurrences P (node_of here) l n y) →
              Places (occurrences P (node_of here) l n y)
              (placed_terms ctx (ctx.variable x) a)) same
              (λ f. term_placed ((context_of r here).variable x) n a (and_second _ _ w) u o f) kept,
        )
    term_placed k n (Replicate' p a i) w u o e = (
      (refl, refl),
      term_placed k n a (and_second _ _ w) u o e,
    )
    term_placed k n (Index' p a i) w u o e = (
      (refl, refl),
      term_placed k n a (and_second _ _ w) u o e,
    )
    term_placed k n (Slice' p a i j) w u o e = (
      (refl, refl),
      term_placed k n a (and_second _ _ (and_second _ _ w)) u o e,
    )
    term_placed k n (Join' p a q b) w u o e = (
      (refl, refl),
      two_placed k n a b w u o (λ w u o e. term_placed k n a w u o e)
          (λ w u o e. term_placed k (n + call_count (expr_of texts a)) b w u o e) e,
    )
    term_placed k n (Array' arity all) w u o e = (
      (refl, refl),
      row_placed k n all w u o e,
    )
    term_placed k n (AtMostOne' arity all) w u o e = (
      (refl, refl),
      row_placed k n all w u o e,
    )
    term_placed k n (Nor' arity all) w u o e = (
      (refl, refl),
      row_placed k n all w u o e,
    )
    term_placed k n (Call' c arity all) w u o e =
        let wc = and_first _ (are_within (counts_of here) all) w in
        let wa = and_second (is_call (counts_of here) c) _ w in
        let oc = and_first _ (are_single r here all) o in
        let oa = and_second (calls_single r here c) _ o in
        let es = row_of texts all in
        let ks = call_clocks ctx k c (operands_in ctx all) in
        let found = call_found k n c all wc wa u oc oa e in (
          (refl, (refl, found.0)),
          subst (λ ls. AreLawful (occurrences_each P (node_of here) ls (n + 1) es) →
              Places (occurrences_each P (node_of here) ls (n + 1) es)
              (placed_arguments ctx ks all))
              (sym found.1)
              (λ f. arguments_on ks (n + 1) all wa u oa f) (and_second _ _ e),
        )
    term_placed k n (IterateNode' it c arity all) w u o e = (
      (refl, (refl, record { runs = refl; given = refl; parameters = refl })),
      row_placed k (n + 1) all (and_second _ _ w) u o (and_second _ _ e),
    )
    term_placed k n (IterateSymbol' it op i arity all) w u o e = (
      (refl, refl),
      row_placed k n all (and_second _ _ w) u o e,
    )

    pub row_placed :
        {m : Count} (k : Clock) (n : ℕ) (row : Row_of-Term m) →
        are_within (counts_of here) row ≡ true → are_unhidden (texts_of here) row ≡ true →
        are_single r here row ≡ true →
        AreLawful (occurrences_in P (node_of here) (clock_in here k) n (row_of (texts_of here) row))
        → Places (occurrences_in P (node_of here) (clock_in here k) n (row_of (texts_of here) row))
        (placed_row (context_of r here) k row)
    row_placed k n end_of-Term w u o e = tt
    row_placed k n (more_of-Term a rest) w u o e =
        let x = expr_of texts a in
        both_placed _ _ _ _
        (term_placed k n a (and_first _ _ w) (and_first _ _ u) (and_first _ _ o)
        (fore (on k n x) _ e))
        (row_placed k (n + call_count x) rest (and_second _ _ w) (and_second _ _ u)
        (and_second _ _ o) (aft (on k n x) _ e))

    pub arguments_on :
        {m : Count} (ks : List Clock) (n : ℕ) (row : Row_of-Term m) →
        are_within (counts_of here) row ≡ true → are_unhidden (texts_of here) row ≡ true →
        are_single r here row ≡ true →
        AreLawful (occurrences_each P (node_of here) (map (clock_in here) ks) n
        (row_of (texts_of here) row)) →
        Places (occurrences_each P (node_of here) (map (clock_in here) ks) n
        (row_of (texts_of here) row)) (placed_arguments (context_of r here) ks row)
    arguments_on ks n end_of-Term w u o e = tt
    arguments_on [] n (more_of-Term a rest) w u o e = tt
    arguments_on (k ∷ ks) n (more_of-Term a rest) w u o e =
        let x = expr_of texts a in
        both_placed _ _ _ _
        (term_placed k n a (and_first _ _ w) (and_first _ _ u) (and_first _ _ o)
        (fore (on k n x) _ e))
        (arguments_on ks (n + call_count x) rest (and_second _ _ w) (and_second _ _ u)
        (and_second _ _ o) (aft (on k n x) _ e))
