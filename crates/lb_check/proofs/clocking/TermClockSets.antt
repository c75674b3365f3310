-- The clock set that the code infers for a term has the clocks on which its expression may stand.
use Rattle.lb_check.proofs.Words
use Words.{AnyClock, AreClockSets, Array', ArrayIterator, Arrow', AtMostOne', Base, Binary', Bool}
use Words.{Call', CallId, ClockSet, Context, Count, Counts, Current', Declared, Expr, Fby', Group'}
use Words.{HasClocks, If', Index', IsClockSet, IterateNode', IterateSymbol', Join', List, Literal}
use Words.{NoClock, Node, Nor', OneClock, Operand, Pre', Program, Reached, Replicate', ResolvedNode}
use Words.{Row_of-Term, SeesClocks, Slice', Some, Static, Term, Texts, Truth, Unary', Value}
use Words.{VariableId, When', [], among, and-false, and-true, and_first, and_second, ap, are_single}
use Words.{are_unhidden, are_within, arith, at, both, call_clock_set, call_count, callee_in}
use Words.{calls_single, clock_in, clock_of, clock_or, clock_within, context_of, counts_of}
use Words.{declaration_of, declared_clock, declared_in, either_or, end_of-Term, expr_of, exprs_of}
use Words.{false, holds, if_node, if◌then◌else◌, infer_clock, is_base_clocked, is_base_clocked_node}
use Words.{is_call, is_clock, is_clocked_on, is_no_variable, is_occurrence_clocked, is_same}
use Words.{is_single, is_some, is_unhidden, is_variable, is_within, items-the_row-Term, length}
use Words.{list_all, list_all-append, listed, more_of-Term, name_in, named_value, nat_eq, nat_tests}
use Words.{node_named, node_of, not, not-true, occurrences, occurrences_in, operand_of, operands_in}
use Words.{operands_of, option_map, or_else, parent, raised, refl, row_of, sampling_of, site_at}
use Words.{static_at, statics_of, suc, sym, texts_of, together, true, variable_names, variables}
use Words.{waits_below, ℕ, ◌&&◌, ◌++◌, ◌+◌, ◌>>=◌, ◌||◌, ◌∙◌, ◌∷◌, ◌≡◌}
use Rattle.lb_check.proofs.clocking.{CallClockSets.call_stands, CallOperands.KnownOperands}
use Rattle.lb_check.proofs.clocking.ClockDepths.{is_some_map, parameters_are, zip_all}
use Rattle.lb_check.proofs.clocking.ClockTests.{among_at, clock_turned, declared_is}
use Rattle.lb_check.proofs.clocking.ClockTests.{declared_within, has_declared, name_there, on_one}
use Rattle.lb_check.proofs.clocking.{ClockTests.{on_two, same_is}, OwnClocks.clock_itself}
use Rattle.lb_check.proofs.{definitions.NodePlaces.callee_found, typing.FittedTypes.unfound}
use Rattle.lb_check.specs.{ClockRules.is_just_below, TermClocks.sampled}
use Rattle.lb_check.specs.declared.own_clock.Clock.TheVariants.{On}
use Rattle.lb_static.specs.{ResolvedTerms.iterate_expr, declared.resolved.Term.Variable}
use Rattle.lb_syntax.specs.Tree as tree
use Rattle.lb_check.specs.Clocks as clocks

both_are : (a b c d : Bool) → a ≡ c → b ≡ d → (a && b) ≡ (c && d)
both_are a b c d e f = ap (λ x. x && b) e ∙ ap (λ x. c && x) f

inner : {A : Type 0} (f : A → Bool) (xs ys : List A) (x : A) → f x ≡ true →
    list_all f (xs ++ ys) ≡ list_all f (xs ++ (x ∷ ys))
inner f [] ys x e = sym (ap (λ b. b && list_all f ys) e)
inner f (z ∷ xs) ys x e = ap (λ b. f z && b) (inner f xs ys x e)

-- the parts of a choice are a condition and two branches that stand together
if_parts : (P : Program) (here : ResolvedNode) (c a b : Expr) (k : clocks.Clock) (n : ℕ) →
    is_clocked_on P here k n (tree.If c a b)
    ≡ list_all (is_occurrence_clocked P (node_of here))
    (occurrences P (node_of here) k n c
    ++ occurrences P (node_of here) k (n + call_count c) (tree.Arrow a b))
if_parts P here c a b k n =
    let node = node_of here in
    let first = occurrences P node k (n + call_count c) a in
    let last = occurrences P node k (n + call_count c + call_count a) b in
    inner (is_occurrence_clocked P node) (occurrences P node k n c) (first ++ last)
    (at k (n + call_count c) (tree.Arrow a b)) refl

-- ## The parts of an expression

module _ (P : Program) (here : ResolvedNode) (own : HasClocks here) where
  abbrev node : Node
  node = node_of here

  abbrev accepts : tree.Expr → clocks.Clock → ℕ → Bool
  accepts e k n = is_clocked_on P here k n e

  -- an expression with one part, on its clock, has the clock set of the part
  one_part : (a d : Expr) (s : ClockSet) → IsClockSet P here a s →
      clock_of P node d ≡ clock_of P node a
      → ((k : clocks.Clock) (n : ℕ) → accepts d k n ≡ accepts a k n) → IsClockSet P here d s
  one_part a d NoClock ha ec ed = λ k n. ed k n ∙ ha k n
  one_part a d AnyClock ha ec ed = (ec ∙ ha.0, λ k n. ed k n ∙ ha.1 k n)
  one_part a d (OneClock c) ha ec ed = (ha.0, ec ∙ ha.1, λ k n. ed k n ∙ ha.2 k n)

  -- an expression with one part and a test has the clock set of the part where the test holds, else
  -- none
  tested_part : (a d : Expr) (m : ℕ) (b : Bool) (s : ClockSet) → IsClockSet P here a s →
      clock_of P node d ≡ clock_of P node a
      → ((k : clocks.Clock) (n : ℕ) → accepts d k n ≡ (b && accepts a k (n + m))) →
      IsClockSet P here d (if b then s else NoClock)
  tested_part a d m false s ha ec ed = ed
  tested_part a d m true NoClock ha ec ed = λ k n. ed k n ∙ ha k (n + m)
  tested_part a d m true AnyClock ha ec ed = (ec ∙ ha.0, λ k n. ed k n ∙ ha.1 k (n + m))
  tested_part a d m true (OneClock c) ha ec ed = (ha.0, ec ∙ ha.1, λ k n. ed k n ∙ ha.2 k (n + m))

  -- an expression with two parts, on its clock, has the clock set of both
  two_parts : (a b d : Expr) (m : ℕ) (s t : ClockSet) → IsClockSet P here a s →
      IsClockSet P here b t
      → clock_of P node d ≡ or_else (clock_of P node a) (clock_of P node b)
      → ((k : clocks.Clock) (n : ℕ) → accepts d k n ≡ (accepts a k n && accepts b k (n + m))) →
      IsClockSet P here d (both s t)
  two_parts a b d m NoClock t ha hb ec ed =
      λ k n. ed k n ∙ ap (λ x. x && accepts b k (n + m)) (ha k n)
  two_parts a b d m AnyClock NoClock ha hb ec ed =
      λ k n. ed k n ∙ both_are _ _ true false (ha.1 k n) (hb k (n + m))
  two_parts a b d m AnyClock AnyClock ha hb ec ed = (
    ec ∙ ap (λ o. or_else o (clock_of P node b)) ha.0 ∙ hb.0,
    λ k n. ed k n
        ∙ both_are _ _ true true (ha.1 k n) (hb.1 k (n + m)),
  )
  two_parts a b d m AnyClock (OneClock c) ha hb ec ed = (
    hb.0,
    ec ∙ ap (λ o. or_else o (clock_of P node b)) ha.0 ∙ hb.1,
    λ k n. ed k n ∙ both_are _ _ true _ (ha.1 k n) (hb.2 k (n + m)),
  )
  two_parts a b d m (OneClock c) NoClock ha hb ec ed =
      λ k n. ed k n ∙ ap (λ x. accepts a k n && x) (hb k (n + m)) ∙ and-false (accepts a k n)
  two_parts a b d m (OneClock c) AnyClock ha hb ec ed = (
    ha.0,
    ec ∙ ap (λ o. or_else o (clock_of P node b)) ha.1,
    λ k n. ed k n ∙ ap (λ x. accepts a k n && x) (hb.1 k (n + m)) ∙ and-true (accepts a k n)
        ∙ ha.2 k n,
  )
  two_parts a b d m (OneClock c) (OneClock e) ha hb ec ed = by (is_same c e) refl
    where
      by : (x : Bool) → is_same c e ≡ x → IsClockSet P here d (if x then OneClock c else NoClock)
      by true is = (
        ha.0,
        ec ∙ ap (λ o. or_else o (clock_of P node b)) ha.1,
        λ k n. ed k n ∙ both_are _ _ _ _
            (ha.2 k n) (hb.2 k (n + m))
            ∙ on_one k _ _ (sym (same_is here own c e ha.0 hb.0) ∙ is),
      )
      by false is =
          λ k n. ed k n ∙ both_are _ _ _ _ (ha.2 k n) (hb.2 k (n + m))
          ∙ on_two k _ _ (sym (same_is here own c e ha.0 hb.0) ∙ is)

  -- ## Variables, constants and static parameters

  variable_stands : (x : VariableId) → is_variable (counts_of here) x ≡ true →
      IsClockSet P here (tree.Variable (name_in here x)) (OneClock (declared_in here x))
  variable_stands x w =
      let declared = declared_clock node (name_in here x) in
      let is = declared_is here own x w in
      let inside = among_at (variable_names (node_of here)) x.0 (name_in here x) (name_there here
      own x w) in (
        declared_within here own x w,
        has_declared here own x w ∙ ap Some (sym is),
        λ k n. ap (λ b. (not b || is_clock k declared) && true) inside
            ∙ and-true (is_clock k declared) ∙ ap (is_clock k) (sym is),
      )

  value_stands : (s : Static) → is_no_variable (variable_names node) s ≡ true →
      IsClockSet P here (named_value s) AnyClock
  value_stands (tree.Named x) u =
      let out = not-true (among x (variable_names node)) u in (
        ap (λ o. o >>= clock_within (suc (length (variables node))) (variables node))
            (unfound x _ out),
        λ k n. ap (λ b. (not b || is_clock k (declared_clock node x)) && true) out,
      )
  value_stands s u = (refl, λ k n. refl)

  -- ## Samples

  module _ (r : Reached) where
    abbrev env : Context
    env = record { variable = declared_in here; callee = callee_in r here }

    when_stands : (a : Expr) (x : VariableId) (sign : Bool) (s : ClockSet) →
        is_variable (counts_of here) x ≡ true → IsClockSet P here a s
        → IsClockSet P here (tree.When a (name_in here x) sign) (sampled env x sign s)
    when_stands a x sign NoClock w ha =
        let declared = declared_clock node (name_in here x) in
        λ k n. ap (λ b. is_clock k (clocks.On declared (name_in here x) sign) && b) (ha declared n)
        ∙ and-false _
    when_stands a x sign AnyClock w ha =
        let declared = declared_clock node (name_in here x) in (
          w,
          ap (option_map (λ k. clocks.On k (name_in here x) sign)) (has_declared here own x w),
          λ k n. ap (λ b. is_clock k (clocks.On declared (name_in here x) sign) && b)
              (ha.1 declared n) ∙ and-true _,
        )
    when_stands a x sign (OneClock l) w ha = by (is_same l (declared_in here x)) refl
      where
        operand : (n : ℕ) → accepts a (declared_clock node (name_in here x)) n ≡ is_same l
            (declared_in here x)
        operand n =
            let is = declared_is here own x w in
            ha.2 (declared_clock node (name_in here x)) n
            ∙ clock_turned (declared_clock node (name_in here x)) (clock_in here l)
            ∙ ap (is_clock (clock_in here l)) (sym is)
            ∙ sym (same_is here own l (declared_in here x) ha.0 (declared_within here own x w))

        by : (b : Bool) → is_same l (declared_in here x) ≡ b
            → IsClockSet P here (tree.When a (name_in here x) sign)
            (if b then OneClock (On x sign) else NoClock)
        by true is = (
          w,
          ap (option_map (λ k. clocks.On k (name_in here x) sign)) (has_declared here own x w),
          λ k n. ap
              (λ b. is_clock k (clocks.On (declared_clock node (name_in here x))
              (name_in here x) sign) && b) (operand n ∙ is) ∙ and-true _,
        )
        by false is =
            λ k n. ap
            (λ b. is_clock k (clocks.On (declared_clock node (name_in here x))
            (name_in here x) sign) && b) (operand n ∙ is) ∙ and-false _

    current_stands : (a : Expr) (s : ClockSet) → IsClockSet P here a s →
        IsClockSet P here (tree.Current a) (raised env s)
    current_stands a NoClock ha =
        λ k n. ap (λ b. is_just_below k (clock_of P node a) && b)
        (ha (clock_or (clock_of P node a)) n) ∙ and-false _
    current_stands a AnyClock ha =
        λ k n. ap (λ o. is_just_below k o && accepts a (clock_or (clock_of P node a)) n) ha.0
    current_stands a (OneClock Base) ha =
        λ k n. ap (λ o. is_just_below k o && accepts a (clock_or (clock_of P node a)) n) ha.1
    current_stands a (OneClock (On x sign)) ha =
        let declared = declared_clock node (name_in here x) in
        let sampled_clock = clocks.On declared (name_in here x) sign in
        let is = declared_is here own x ha.0 in (
          declared_within here own x ha.0,
          ap (λ o. o >>= parent) ha.1 ∙ ap Some (sym is),
          λ k n. ap (λ o. is_just_below k o && accepts a (clock_or o) n) ha.1
              ∙ ap (λ b. is_clock k declared && b)
              (ha.2 sampled_clock n ∙ clock_itself sampled_clock)
              ∙ and-true (is_clock k declared) ∙ ap (is_clock k) (sym is),
        )

-- ## Rows

pub row_items : (t : Texts) (n : _) (row : Row_of-Term n) →
    row_of t row ≡ exprs_of t (items-the_row-Term n row)
row_items t n end_of-Term = refl
row_items t n (more_of-Term e rest) = ap (tree.Cons (expr_of t e)) (row_items t _ rest)

pub within_items : (m : Counts) (n : _) (row : Row_of-Term n) →
    list_all (is_within m) (items-the_row-Term n row) ≡ are_within m row
within_items m n end_of-Term = refl
within_items m n (more_of-Term e rest) = ap (λ b. is_within m e && b) (within_items m _ rest)

pub unhidden_items : (t : Texts) (n : _) (row : Row_of-Term n) →
    list_all (is_unhidden t) (items-the_row-Term n row) ≡ are_unhidden t row
unhidden_items t n end_of-Term = refl
unhidden_items t n (more_of-Term e rest) = ap (λ b. is_unhidden t e && b) (unhidden_items t _ rest)

pub operands_items : (ctx : Context) (n : _) (row : Row_of-Term n) →
    operands_in ctx row ≡ operands_of ctx (items-the_row-Term n row)
unfolding infer_clock
operands_items ctx n end_of-Term = refl
operands_items ctx n (more_of-Term e rest) =
    ap (λ (os : List Operand). operand_of ctx e ∷ os) (operands_items ctx _ rest)

module _ (P : Program) (here : ResolvedNode) (own : HasClocks here) (ctx : Context) where
  -- the clock set of a list is that of its terms together
  list_stands : (es : List Term) → AreClockSets P here ctx es
      → IsClockSet P here (tree.Array (exprs_of (texts_of here) es)) (together (operands_of ctx es))
  list_stands [] all = (refl, λ k n. refl)
  list_stands (e ∷ es) all =
      let a = expr_of (texts_of here) e in
      let rest = exprs_of (texts_of here) es in
      two_parts P here own a (tree.Array rest) (tree.Array (tree.Cons a rest)) (call_count a)
      (infer_clock ctx e) (together (operands_of ctx es))
      all.0 (list_stands es all.1) refl
      (λ k n. list_all-append (is_occurrence_clocked P (node_of here))
      (occurrences P (node_of here) k n a)
      (occurrences_in P (node_of here) k (n + call_count a) rest))

-- ## Iterated nodes

-- the parameters of an iterated node are on its base clock exactly where the code finds so
base_clocked_is : (callee : ResolvedNode) → HasClocks callee →
    is_base_clocked_node (node_of callee) ≡ is_base_clocked callee
base_clocked_is callee h =
    let names = variable_names (node_of callee) in
    let are = parameters_are h.nodes callee h.resolved h.distinct in
    ap (list_all (λ (d : tree.Declaration). not (is_some d.clock))) are.0
    ∙ zip_all (declaration_of names (statics_of callee))
    (λ (d : tree.Declaration). not (is_some d.clock))
    (λ (v : Declared). not (is_some v.clock)) (waits_below (length names))
    (λ x v w. ap not (sym (is_some_map (sampling_of names) v.clock))) _ _ are.1 are.2

-- ## Terms

module _ (P : Program) (r : Reached) (here : ResolvedNode) (sees : SeesClocks P r here) where
  abbrev texts : Texts
  texts = texts_of here

  abbrev ctx : Context
  ctx = env P here sees.own r

  abbrev Finds : Expr → ClockSet → Type 0
  Finds e s = IsClockSet P here e s

  -- the callee of a call is the node with the name of its site
  callee_at : (c : CallId) → is_call (counts_of here) c ≡ true
      → (m : ResolvedNode) × (callee_in r here c ≡ Some m)
      × (node_named P (site_at texts.calls c).callee ≡ Some (node_of m))
  callee_at c w =
      let m = callee_found P r sees.names sees.reached sees.place here sees.at c w in
      (m.0, m.1, m.2)

  pair_stands : (a b d : Expr) (s t : ClockSet) → Finds a s → Finds b t →
      clock_of P (node_of here) d ≡ or_else (clock_of P (node_of here) a)
      (clock_of P (node_of here) b)
      → ((k : clocks.Clock) (n : ℕ) → is_clocked_on P here k n d
      ≡ list_all (is_occurrence_clocked P (node_of here))
      (occurrences P (node_of here) k n a
      ++ occurrences P (node_of here) k (n + call_count a) b))
      → Finds d (both s t)
  pair_stands a b d s t ha hb ec ed =
      two_parts P here sees.own a b d _ s t ha hb ec
      (λ k n. ed k n ∙ list_all-append (is_occurrence_clocked P (node_of here))
      (occurrences P (node_of here) k n a) (occurrences P (node_of here) k (n + call_count a) b))

  -- the clock set of a row is that of its terms together
  row_together : {m : Count} (row : Row_of-Term m)
      → AreClockSets P here ctx (items-the_row-Term m row)
      → Finds (tree.Array (row_of texts row)) (together (operands_in ctx row))
  row_together {m = m} row all =
      rw (row_items texts m row, operands_items ctx m row)
      (list_stands P here sees.own ctx (items-the_row-Term m row) all)

  -- a term with a row of operands on its clock has the clock set of the operands together
  together_stands : {m : Count} (row : Row_of-Term m) (d : Expr) →
      AreClockSets P here ctx (items-the_row-Term m row)
      → clock_of P (node_of here) d ≡ clock_of P (node_of here) (tree.Array (row_of texts row))
      → ((k : clocks.Clock) (n : ℕ) →
      is_clocked_on P here k n d ≡ is_clocked_on P here k n (tree.Array (row_of texts row)))
      → Finds d (together (operands_in ctx row))
  together_stands {m = m} row d all ec ed =
      one_part P here sees.own (tree.Array (row_of texts row)) d (together (operands_in ctx row))
      (row_together row all) ec ed

  known_row : (c : CallId) {m : Count} (row : Row_of-Term m) (callee : ResolvedNode) →
      callee_in r here c ≡ Some callee → are_within (counts_of here) row ≡ true →
      are_unhidden texts row ≡ true → AreClockSets P here ctx (items-the_row-Term m row)
      → KnownOperands P here callee ctx (items-the_row-Term m row)
  known_row c {m = m} row callee is w u all = record {
    own = sees.own;
    called = sees.callees c callee is;
    declares = refl;
    within = within_items _ m row ∙ w;
    unhidden = unhidden_items texts m row ∙ u;
    stand = all;
  }

  -- a call with one result has the clock set that the code finds
  call_finds : (c : CallId) {m : Count} (row : Row_of-Term m) → is_call (counts_of here) c ≡ true →
      are_within (counts_of here) row ≡ true
      → are_unhidden texts row ≡ true → calls_single r here c ≡ true →
      AreClockSets P here ctx (items-the_row-Term m row)
      → Finds (tree.Call (site_at texts.calls c).callee (site_at texts.calls c).arguments
      (row_of texts row))
      (either_or (option_map (λ n. call_clock_set n (operands_in ctx row)) (callee_in r here c))
      NoClock)
  call_finds c {m = m} row wc w u one all =
      let callee = callee_at c wc in
      let site = site_at texts.calls c in
      let es = items-the_row-Term m row in
      let single : nat_eq callee.0.outputs 1 ≡ true =
      sym (ap (holds (λ n. nat_eq n.outputs 1)) callee.1) ∙ one in
      let outputs : callee.0.outputs ≡ 1 = grind (arith, nat_tests) in
      let stands = call_stands (known_row c row callee.0 callee.1 w u all) site callee.2 outputs in
      rw (callee.1, row_items texts m row, operands_items ctx m row) stands

  -- an iterated node has the clock set that the code finds
  iterate_finds : (it : ArrayIterator) (c : CallId) {m : Count} (row : Row_of-Term m) →
      is_call (counts_of here) c ≡ true
      → AreClockSets P here ctx (items-the_row-Term m row)
      → Finds (iterate_expr it (site_at texts.calls c) (row_of texts row))
      (if holds is_base_clocked (callee_in r here c) then together
      (operands_in ctx row) else NoClock)
  iterate_finds it c row wc all =
      let callee = callee_at c wc in
      let site = site_at texts.calls c in
      let test : if_node P is_base_clocked_node site.callee ≡ is_base_clocked callee.0 =
      ap (λ o. list_all is_base_clocked_node (listed (λ n. n ∷ []) o)) callee.2 ∙ and-true _
      ∙ base_clocked_is callee.0 (sees.callees c callee.0 callee.1) in
      let same : if_node P is_base_clocked_node site.callee
      ≡ holds is_base_clocked (callee_in r here c) =
      test ∙ sym (ap (holds is_base_clocked) callee.1) in
      tested_part P here sees.own (tree.Array (row_of texts row))
      (iterate_expr it site (row_of texts row)) 1 (holds is_base_clocked (callee_in r here c))
      (together (operands_in ctx row)) (row_together row all) refl
      (λ k n. ap (λ b. b && list_all (is_occurrence_clocked P (node_of here))
      (occurrences_in P (node_of here) k (n + 1) (row_of texts row))) same)

  mutual
    unfolding infer_clock is_single

    term_finds : (t : Term) → is_within (counts_of here) t ≡ true → is_unhidden texts t ≡ true →
        is_single r here t ≡ true
        → Finds (expr_of texts t) (infer_clock ctx t)
    term_finds (Literal n) w u o = (refl, λ k n. refl)
    term_finds (Truth b) w u o = (refl, λ k n. refl)
    term_finds (Variable x) w u o = variable_stands P here sees.own x w
    term_finds (Value i) w u o = value_stands P here sees.own (static_at texts.statics i) u
    term_finds (Group' p e) w u o =
        one_part P here sees.own (expr_of texts e) (tree.Group (expr_of texts e)) _
        (term_finds e w u o) refl (λ k n. refl)
    term_finds (Unary' op p e) w u o =
        one_part P here sees.own (expr_of texts e) (tree.Unary op (expr_of texts e)) _
        (term_finds e w u o) refl (λ k n. refl)
    term_finds (Binary' op p a q b) w u o =
        pair_stands (expr_of texts a) (expr_of texts b)
        (tree.Binary op (expr_of texts a) (expr_of texts b)) _ _
        (term_finds a (and_first _ _ w) (and_first _ _ u) (and_first _ _ o))
        (term_finds b (and_second _ _ w) (and_second _ _ u) (and_second _ _ o)) refl (λ k n. refl)
    term_finds (If' p c q a r' b) w u o =
        let wab = and_second (is_within (counts_of here) c) _ w in
        let uab = and_second (is_unhidden texts c) _ u in
        let oab = and_second (is_single r here c) _ o in
        let branches = tree.Arrow (expr_of texts a) (expr_of texts b) in
        pair_stands (expr_of texts c) branches
        (tree.If (expr_of texts c) (expr_of texts a) (expr_of texts b)) _ _
        (term_finds c (and_first _ _ w) (and_first _ _ u) (and_first _ _ o))
        (pair_stands (expr_of texts a) (expr_of texts b) branches _ _
        (term_finds a (and_first _ _ wab) (and_first _ _ uab) (and_first _ _ oab))
        (term_finds b (and_second _ _ wab) (and_second _ _ uab) (and_second _ _ oab))
        refl (λ k n. refl))
        refl (if_parts P here (expr_of texts c) (expr_of texts a) (expr_of texts b))
    term_finds (Arrow' p a q b) w u o =
        pair_stands (expr_of texts a) (expr_of texts b)
        (tree.Arrow (expr_of texts a) (expr_of texts b)) _ _
        (term_finds a (and_first _ _ w) (and_first _ _ u) (and_first _ _ o))
        (term_finds b (and_second _ _ w) (and_second _ _ u) (and_second _ _ o)) refl (λ k n. refl)
    term_finds (Fby' p a q b) w u o =
        pair_stands (expr_of texts a) (expr_of texts b)
        (tree.Fby (expr_of texts a) (expr_of texts b)) _ _
        (term_finds a (and_first _ _ w) (and_first _ _ u) (and_first _ _ o))
        (term_finds b (and_second _ _ w) (and_second _ _ u) (and_second _ _ o)) refl (λ k n. refl)
    term_finds (Pre' p e) w u o =
        one_part P here sees.own (expr_of texts e) (tree.Pre (expr_of texts e)) _
        (term_finds e w u o) refl (λ k n. refl)
    term_finds (Current' p e) w u o =
        current_stands P here sees.own r (expr_of texts e) (infer_clock ctx e) (term_finds e w u o)
    term_finds (When' p e x sign) w u o =
        when_stands P here sees.own r (expr_of texts e) x sign (infer_clock ctx e)
        (and_first _ _ w) (term_finds e (and_second _ _ w) u o)
    term_finds (Replicate' p e i) w u o =
        one_part P here sees.own (expr_of texts e)
        (tree.Replicate (expr_of texts e) (static_at texts.statics i)) _
        (term_finds e (and_second _ _ w) u o) refl (λ k n. refl)
    term_finds (Index' p e i) w u o =
        one_part P here sees.own (expr_of texts e)
        (tree.Index (expr_of texts e) (static_at texts.statics i)) _
        (term_finds e (and_second _ _ w) u o) refl (λ k n. refl)
    term_finds (Slice' p e i j) w u o =
        one_part P here sees.own (expr_of texts e)
        (tree.Slice (expr_of texts e) (static_at texts.statics i) (static_at texts.statics j)) _
        (term_finds e (and_second _ _ (and_second _ _ w)) u o) refl (λ k n. refl)
    term_finds (Join' p a q b) w u o =
        pair_stands (expr_of texts a) (expr_of texts b)
        (tree.Join (expr_of texts a) (expr_of texts b)) _ _
        (term_finds a (and_first _ _ w) (and_first _ _ u) (and_first _ _ o))
        (term_finds b (and_second _ _ w) (and_second _ _ u) (and_second _ _ o)) refl (λ k n. refl)
    term_finds (Array' arity all) w u o =
        together_stands all (tree.Array (row_of texts all)) (row_finds all w u o) refl (λ k n. refl)
    term_finds (AtMostOne' arity all) w u o =
        together_stands all (tree.AtMostOne (row_of texts all)) (row_finds all w u o) refl
        (λ k n. refl)
    term_finds (Nor' arity all) w u o =
        together_stands all (tree.Nor (row_of texts all)) (row_finds all w u o) refl (λ k n. refl)
    term_finds (Call' c arity all) w u o =
        let wc = and_first _ (are_within (counts_of here) all) w in
        let wa = and_second (is_call (counts_of here) c) _ w in
        call_finds c all wc wa u (and_first _ _ o) (row_finds all wa u (and_second _ _ o))
    term_finds (IterateNode' it c arity all) w u o =
        iterate_finds it c all (and_first _ _ w) (row_finds all (and_second _ _ w) u o)
    term_finds (IterateSymbol' it op i arity all) w u o =
        together_stands all (tree.Iterate it (tree.Symbol op) (static_at texts.statics i)
        (row_of texts all)) (row_finds all (and_second _ _ w) u o) refl (λ k n. refl)

    row_finds : {m : Count} (row : Row_of-Term m) → are_within (counts_of here) row ≡ true →
        are_unhidden texts row ≡ true → are_single r here row ≡ true
        → AreClockSets P here ctx (items-the_row-Term m row)
    row_finds end_of-Term w u o = tt
    row_finds (more_of-Term e rest) w u o = (
      term_finds e (and_first _ _ w) (and_first _ _ u) (and_first _ _ o),
      row_finds rest (and_second _ _ w) (and_second _ _ u) (and_second _ _ o),
    )

  -- a term has the clock set that the code infers
  pub term_stands : (t : Term) → is_within (counts_of here) t ≡ true →
      is_unhidden (texts_of here) t ≡ true → is_single r here t ≡ true
      → IsClockSet P here (expr_of (texts_of here) t) (infer_clock (context_of r here) t)
  unfolding context_of
  term_stands t w u o = term_finds t w u o

  -- the callee of a call, and what is known of the operands of the call
  pub called_operands : (c : CallId) {m : Count} (row : Row_of-Term m) →
      is_call (counts_of here) c ≡ true → are_within (counts_of here) row ≡ true →
      are_unhidden (texts_of here) row ≡ true → are_single r here row ≡ true
      → (callee : ResolvedNode) × ((context_of r here).callee c ≡ Some callee)
      × (node_named P (site_at (texts_of here).calls c).callee ≡ Some (node_of callee))
      × KnownOperands P here callee (context_of r here) (items-the_row-Term m row)
  unfolding context_of
  called_operands c row wc w u o =
      let found = callee_at c wc in
      (found.0, found.1, found.2, known_row c row found.0 found.1 w u (row_finds row w u o))
