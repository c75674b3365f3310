-- The operands of a call and the clocks on which they are placed.
use Rattle.lb_check.proofs.Words
use Words.{AnyClock, AreClockSets, ClockSet, Context, Declaration, Declared, Expr, HasClocks}
use Words.{IsClockSet, List, NoClock, None, OneClock, Option, Program, ResolvedNode, Sampling, Some}
use Words.{Term, VariableId, [], all_at, and_first, and_second, ap, ap₂, are_given}
use Words.{are_given_variables, arith, both_ways, call_count, clock_in, clock_of, clock_sets}
use Words.{counts_of, declared_clock, declared_in, depth, drop, each_clock, either_or, expected}
use Words.{expr_of, exprs_of, given_at, given_inputs, infer_clock, inl, input_clocks, inr}
use Words.{is_clocked_on, is_given, is_occurrence_clocked, is_some, is_unhidden, is_variable}
use Words.{is_variable_at, is_within, length, length-map, length-take-le, list_all, list_all-append}
use Words.{map, mapped_from, nat_lt, nat_tests, node_of, not, occurrences, occurrences_each}
use Words.{operands_of, option_map, outer, refl, slice_get, slice_get_within, subst, suc, sym, take}
use Words.{texts_of, true, waits_below, zero, ℕ, ◌&&◌, ◌+◌, ◌<◌, ◌||◌, ◌∙◌, ◌∷◌, ◌≡◌, ◌≤◌}
use Rattle.lb_check.proofs.clocking.ClockDepths.{as_many_names, inputs_clocked, outputs_clocked}
use Rattle.lb_check.proofs.clocking.{ClockTests.clock_same, GivenNames.{all_given, clock_set_at}}
use Rattle.lb_check.proofs.clocking.GivenNames.{given_in, input_at, input_held, operand_at, term_at}
use Rattle.lb_check.proofs.clocking.GivenNames.{variable_held, variable_stands, variable_within}
use Rattle.lb_check.proofs.clocking.OuterClocks.{AreGiven, AreOfNode, HaveNames, IsGiven, IsWithin}
use Rattle.lb_check.proofs.clocking.OuterClocks.{StandFor, expected_on, fits_on, outer_all}
use Rattle.lb_check.proofs.clocking.OuterClocks.{place_name, seen, stood, variable_at}
use Rattle.lb_check.proofs.{clocking.OwnClocks.clock_of_waiting, lists.ListPairs.each_pair}
use Rattle.lb_check.proofs.lists.ListPairs.{get_dropped, get_mapped, get_taken, pair_at, pairs_from}
use Rattle.lb_check.{proofs.lists.ListPairs.taken, specs.CallClocks.waits_for_given}
use Rattle.lb_check.specs.{PlacedClocks.argument_clocks, declared.own_clock.Clock.Clock}
use Rattle.lb_check.specs.declared.own_clock.Clock.TheVariants.{On}
use Rattle.lb_check.specs.CallClocks as code
use Rattle.lb_check.specs.Clocks as tree

-- The operands of a call: the variables that stand for those of the callee, and their clocks.

-- ## The operands that the code finds

operand_is : (ctx : Context) (es : List Term) (i : ℕ) →
    is_some (given_at (operands_of ctx es) i) ≡ is_variable_at es i
operand_is ctx [] i = refl
operand_is ctx (t ∷ es) zero = refl
operand_is ctx (t ∷ es) (suc i) = operand_is ctx es i

same_given : (ctx : Context) (inputs : ℕ) (es : List Term) (o : Option Sampling) →
    is_given inputs (operands_of ctx es) o ≡ waits_for_given inputs es o
same_given ctx inputs es None = refl
same_given ctx inputs es (Some s) =
    ap (λ b. not (nat_lt s.variable.0 inputs) || b) (operand_is ctx es s.variable.0)

all_same : (ctx : Context) (inputs : ℕ) (es : List Term) (vs : List Declared)
    → list_all (λ v. is_given inputs (operands_of ctx es) v.clock) vs ≡ list_all
    (code.is_given inputs es) vs
all_same ctx inputs es [] = refl
all_same ctx inputs es (v ∷ vs) =
    ap₂ (λ b c. b && c) (same_given ctx inputs es v.clock) (all_same ctx inputs es vs)

some_of : {A : Type 0} (o : Option A) → is_some o ≡ true → (x : A) × (o ≡ Some x)
some_of None e = absurd cc
some_of (Some x) e = (x, refl)

-- ## The variables that a callee's parameters wait for

module _ (callee : ResolvedNode) (hc : HasClocks callee) where
  wait_inputs : list_all (waits_below callee.inputs)
      (take callee.inputs callee.variables.items) ≡ true
  wait_inputs =
      sym (inputs_clocked hc.nodes callee hc.resolved hc.distinct)
      ∙ and_first _ _
      hc.declared

  wait_outputs : list_all (waits_below (callee.inputs + callee.outputs))
      (take callee.outputs (drop callee.inputs callee.variables.items)) ≡ true
  wait_outputs =
      sym (outputs_clocked hc.nodes callee hc.resolved hc.distinct)
      ∙ and_first _ _ (and_second _ _
      hc.declared)

  below : (n : ℕ) (v : Declared) (s : Sampling) → v.clock ≡ Some s → waits_below n v ≡ true →
      s.variable.0 < n
  below n v s is e = let lt : nat_lt s.variable.0 n ≡ true = rw is at e in grind (arith, nat_tests)

  pub input_waits : (i : ℕ) (v : Declared) (s : Sampling) → i < callee.inputs →
      slice_get callee.variables.items i ≡ Some v → v.clock ≡ Some s → s.variable.0 < callee.inputs
  input_waits i v s lt at is =
      below callee.inputs v s is (all_at _ _ i v wait_inputs
      (taken callee.inputs callee.variables.items i v at lt))

  pub output_waits : (j : ℕ) (v : Declared) (s : Sampling) → j < callee.outputs →
      slice_get callee.variables.items (callee.inputs + j) ≡ Some v → v.clock ≡ Some s
      → s.variable.0 < callee.inputs + callee.outputs
  output_waits j v s lt at is =
      let here : slice_get (drop callee.inputs callee.variables.items) j ≡ Some v =
      get_dropped callee.inputs callee.variables.items j ∙ at in
      below _ v s is (all_at _ _ j v wait_outputs (taken callee.outputs _ j v here lt))

  -- no variable waits for itself
  pub not_itself : (x : VariableId) (v : Declared) (s : Sampling) →
      slice_get callee.variables.items x.0 ≡ Some v → x.0 < length callee.variables.items →
      v.clock ≡ Some s
      → s.variable.0 ≡ x.0 → ⊥
  not_itself x v s at lt is e =
      let own = λ (i : ℕ). declared_clock (node_of callee) (place_name callee i) in
      let deeper : suc (depth (own s.variable.0)) ≡ depth (own x.0) =
      ap depth (clock_of_waiting callee hc x v s at lt is) in
      let level : depth (own s.variable.0) ≡ depth (own x.0) = ap (λ i. depth (own i)) e in
      absurd (omega (arith, deeper, level))

-- ## The clocks on which operands stand

module _ (P : Program) (here : ResolvedNode) where
  pub stood_is : (e : Expr) (s : ClockSet) → IsClockSet P here e s → (k : tree.Clock) (n : ℕ) →
      is_clocked_on P here k n e ≡ stood here k s
  stood_is e NoClock p k n = p k n
  stood_is e AnyClock p k n = p.1 k n
  stood_is e (OneClock c) p k n = p.2 k n

  -- an expression that may stand on a clock determines no other clock
  pub stood_clock : (e : Expr) (s : ClockSet) → IsClockSet P here e s → (z k : tree.Clock) →
      stood here z s ≡ true → clock_of P (node_of here) e ≡ Some k → k ≡ z
  stood_clock e NoClock p z k t is = absurd cc
  stood_clock e AnyClock p z k t is = let none : clock_of P (node_of here) e ≡ None = p.0 in
      absurd cc
  stood_clock e (OneClock c) p z k t is =
      let only : clock_of P (node_of here) e ≡ Some (clock_in here c) = p.1 in
      let same : k ≡ clock_in here c = cc in
      same ∙ sym (clock_same z _ t)

  pub stands_at : (ctx : Context) (es : List Term) (i : ℕ) (t : Term) → AreClockSets P here ctx es →
      slice_get es i ≡ Some t
      → IsClockSet P here (expr_of (texts_of here) t) (infer_clock ctx t)
  stands_at ctx [] i t all e = absurd cc
  stands_at ctx (u ∷ es) zero t all e =
      let same : u ≡ t = cc in subst
      (λ z. IsClockSet P here (expr_of (texts_of here) z) (infer_clock ctx z)) same all.0
  stands_at ctx (u ∷ es) (suc i) t all e = stands_at ctx es i t all.1 e

  pub each_stood : (ctx : Context) (es : List Term) → AreClockSets P here ctx es →
      (ks : List tree.Clock) (n : ℕ)
      → list_all (is_occurrence_clocked P (node_of here))
      (occurrences_each P (node_of here) ks n (exprs_of (texts_of here) es))
      ≡ each_pair (stood here) ks (clock_sets (operands_of ctx es))
  each_stood ctx [] all [] n = refl
  each_stood ctx [] all (k ∷ ks) n = refl
  each_stood ctx (t ∷ es) all [] n = refl
  each_stood ctx (t ∷ es) all (k ∷ ks) n =
      let e = expr_of (texts_of here) t in
      let more = occurrences_each P (node_of here) ks (n + call_count e)
      (exprs_of (texts_of here) es) in
      list_all-append (is_occurrence_clocked P (node_of here))
      (occurrences P (node_of here) k n e) more
      ∙ ap₂ (λ b c. b && c) (stood_is e _ all.0 k n) (each_stood ctx es all.1 ks _)

  -- the clock that each operand determines, at the place of the operand
  pub clock_there : (es : List Term) (i : ℕ) (t : Term) → slice_get es i ≡ Some t
      → slice_get (each_clock P (node_of here) (exprs_of (texts_of here) es)) i ≡ Some
      (clock_of P (node_of here) (expr_of (texts_of here) t))
  clock_there [] i t e = absurd cc
  clock_there (u ∷ es) zero t e = let same : u ≡ t = cc in
      ap (λ z. Some (clock_of P (node_of here) (expr_of (texts_of here) z))) same
  clock_there (u ∷ es) (suc i) t e = clock_there es i t e

  pub clock_from : (es : List Term) (i : ℕ) (o : Option tree.Clock) →
      slice_get (each_clock P (node_of here) (exprs_of (texts_of here) es)) i ≡ Some o
      → (t : Term) × (slice_get es i ≡ Some t)
      × (clock_of P (node_of here) (expr_of (texts_of here) t) ≡ o)
  clock_from [] i o e = absurd cc
  clock_from (u ∷ es) zero o e = (u, refl, cc)
  clock_from (u ∷ es) (suc i) o e = clock_from es i o e

-- the operands `es` of a call of `callee`, which have the clock sets that the code infers
pub record KnownOperands (P : Program) (here callee : ResolvedNode) (ctx : Context)
    (es : List Term) : Type 0 where
  pub own : HasClocks here
  pub called : HasClocks callee
  pub declares : ctx.variable ≡ declared_in here
  pub within : list_all (is_within (counts_of here)) es ≡ true
  pub unhidden : list_all (is_unhidden (texts_of here)) es ≡ true
  pub stand : AreClockSets P here ctx es

module _ {P : Program} {here callee : ResolvedNode} {ctx : Context} {es : List Term}
    (ops : KnownOperands P here callee ctx es) where
  -- each awaited input is given a variable exactly where the code finds it
  pub are_given_is : are_given_variables (node_of here) (node_of callee)
      (exprs_of (texts_of here) es) ≡ are_given callee (operands_of ctx es)
  are_given_is =
      all_given here callee ops.called.nodes ops.called.resolved ops.called.distinct
      (as_many_names ops.own.nodes here ops.own.resolved ops.own.distinct) es ops.within
      ops.unhidden
      ∙ sym (all_same ctx callee.inputs es
      (take (callee.inputs + callee.outputs) callee.variables.items))

  pub operand_within : (i : ℕ) (y : VariableId) → given_at (operands_of ctx es) i ≡ Some y →
      is_variable (counts_of here) y ≡ true
  operand_within i y e =
      let t = operand_at ctx es i y e in
      variable_within _ t.0 y t.2 (all_at _ es i t.0 ops.within t.1)

  pub operand_stands : (i : ℕ) (y : VariableId) → given_at (operands_of ctx es) i ≡ Some y →
      slice_get (clock_sets (operands_of ctx es)) i ≡ Some (OneClock (declared_in here y))
  operand_stands i y e =
      let t = operand_at ctx es i y e in
      clock_set_at ctx es i t.0 t.1 ∙ ap Some (variable_stands ctx t.0 y t.2)
      ∙ ap (λ f. Some (OneClock (f y))) ops.declares

  clock_set_within : (i : ℕ) (s : ClockSet) →
      slice_get (clock_sets (operands_of ctx es)) i ≡ Some s → IsWithin here s
  clock_set_within i s e l only =
      let t = term_at ctx es i s e in
      let there = stands_at P here ctx es i t.0 ops.stand t.1 in
      let stands : IsClockSet P here (expr_of (texts_of here) t.0) (OneClock l) =
      subst (IsClockSet P here (expr_of (texts_of here) t.0)) (t.2 ∙ only) there in
      stands.0

  module _ (all : are_given callee (operands_of ctx es) ≡ true) where
    pub waited_given : (i : ℕ) (v : Declared) (s : Sampling) → i < callee.inputs + callee.outputs →
        slice_get callee.variables.items i ≡ Some v → v.clock ≡ Some s
        → s.variable.0 < callee.inputs →
        (y : VariableId) × (given_at (operands_of ctx es) s.variable.0 ≡ Some y)
    waited_given i v s lt at is less =
        let inside = taken _ callee.variables.items i v at lt in
        let passes = all_at _ _ i v all inside in
        let small : nat_lt s.variable.0 callee.inputs ≡ true = grind (arith, nat_tests) in
        let there : is_given callee.inputs (operands_of ctx es) (Some s) ≡ true =
        subst (λ o. is_given callee.inputs (operands_of ctx es) o ≡ true) is passes in
        some_of _ (rw small at there)

  -- ## The inputs of the callee

  abbrev inputs_given : tree.Given
  inputs_given = given_inputs (node_of callee).inputs (exprs_of (texts_of here) es)

  -- the clocks of the arguments, where the callee runs on clock `b`
  abbrev pub inputs_seen : tree.Clock → List tree.Clock
  inputs_seen b =
      map (λ (d : Declaration). outer b
      (given_inputs (node_of callee).inputs (exprs_of (texts_of here) es))
      (declared_clock (node_of callee) d.name)) (node_of callee).inputs

  module _ (Y : ℕ → Option VariableId)
      (Y_is : (i : ℕ) → i < callee.inputs → Y i ≡ given_at (operands_of ctx es) i) where
    pub own_inputs : StandFor here callee Y
        (λ i. slice_get (clock_sets (operands_of ctx es)) i) callee.inputs
    own_inputs i y lt e = let there = sym (Y_is i lt) ∙ e in
        (operand_stands i y there, operand_within i y there)

    pub names_inputs : HaveNames here callee Y
        (given_inputs (node_of callee).inputs (exprs_of (texts_of here) es)) callee.inputs
    names_inputs i y lt e = ap (λ o. either_or o (place_name callee i))
        (given_in callee ops.called here ctx es i y lt (sym (Y_is i lt) ∙ e))

    module _ (m : ℕ) (few : callee.inputs ≤ m) (waits : AreGiven callee Y callee.inputs m) where
      inputs_is_given : (i : ℕ) (c : Option Sampling) →
          slice_get (input_clocks callee) i ≡ Some c → IsGiven here Y c
      inputs_is_given i c e s is =
          let v = mapped_from _ _ i c e in
          let t = get_taken callee.inputs callee.variables.items i v.0 v.1 in
          let less = t.1 in
          let z = waits i v.0 s (omega arith) t.0 (v.2 ∙ is) in
          let small = z.0 in
          (z.1.0, z.1.1, (own_inputs s.variable.0 z.1.0 small z.1.1).1)

      -- the inputs are given variables of the caller, and the operands stand on clocks of it
      pub inputs_of : AreOfNode here Y (input_clocks callee) (clock_sets (operands_of ctx es))
      inputs_of = record { given = inputs_is_given; within = clock_set_within }

      abbrev S : ℕ → Option ClockSet
      S = λ i. slice_get (clock_sets (operands_of ctx es)) i

      pub outer_stand : (b : tree.Clock) →
          each_pair (stood here) (inputs_seen b) (clock_sets (operands_of ctx es)) ≡ true
          → (i : ℕ) (s : ClockSet) → i < callee.inputs → S i ≡ Some s →
          stood here (seen callee inputs_given b i) s ≡ true
      outer_stand b fits i s lt e =
          let d = input_held callee ops.called i lt in
          let here_seen = get_mapped _ _ i d.0 d.1 in
          let k = outer b inputs_given (declared_clock (node_of callee) d.0.name) in
          let stands : stood here k s ≡ true = pair_at _ _ _ i k s fits here_seen e in
          subst (λ n. stood here (outer b inputs_given (declared_clock (node_of callee) n))
          s ≡ true) (input_at callee ops.called i d.0 d.1).0 stands

      pub code_stand : (b : tree.Clock) →
          fits_on here Y b (input_clocks callee) (clock_sets (operands_of ctx es)) ≡ true
          → (i : ℕ) (v : Declared) (s : ClockSet) → i < callee.inputs →
          slice_get callee.variables.items i ≡ Some v → S i ≡ Some s
          → stood here (expected_on here Y b v.clock) s ≡ true
      code_stand b fits i v s lt at e =
          let c = get_mapped _ _ i v (taken callee.inputs callee.variables.items i v at lt) in
          pair_at _ _ _ i v.clock s fits c e

      pub outer_known : (b : tree.Clock) →
          each_pair (stood here) (inputs_seen b) (clock_sets (operands_of ctx es)) ≡ true
          → (x : VariableId) (v : Declared) → x.0 < m →
          slice_get callee.variables.items x.0 ≡ Some v →
          expected_on here Y b v.clock ≡ seen callee inputs_given b x.0
      outer_known b fits =
          outer_all here callee ops.own ops.called Y S callee.inputs m few waits own_inputs
          inputs_given names_inputs b
          (λ i v s lt at e. inl (outer_stand b fits i s lt e))

      pub code_known : (b : tree.Clock) →
          fits_on here Y b (input_clocks callee) (clock_sets (operands_of ctx es)) ≡ true
          → (x : VariableId) (v : Declared) → x.0 < m →
          slice_get callee.variables.items x.0 ≡ Some v →
          expected_on here Y b v.clock ≡ seen callee inputs_given b x.0
      code_known b fits =
          outer_all here callee ops.own ops.called Y S callee.inputs m few waits own_inputs
          inputs_given names_inputs b
          (λ i v s lt at e. inr (code_stand b fits i v s lt at e))

      pub to_code : (b : tree.Clock) →
          each_pair (stood here) (inputs_seen b) (clock_sets (operands_of ctx es)) ≡ true
          → fits_on here Y b (input_clocks callee) (clock_sets (operands_of ctx es)) ≡ true
      to_code b fits =
          pairs_from (λ c s. stood here (expected_on here Y b c) s) (input_clocks callee)
          (clock_sets (operands_of ctx es)) (λ i c s p q.
          let v = mapped_from (λ v. v.clock) (take callee.inputs callee.variables.items) i c p in
          let t = get_taken callee.inputs callee.variables.items i v.0 v.1 in
          let less = t.1 in
          let known = outer_known b fits (variable_at i) v.0 (omega arith) t.0 in
          ap (λ k. stood here k s) (ap (expected_on here Y b) (sym v.2) ∙ known)
          ∙ outer_stand b fits i s less q)

      pub to_outer : (b : tree.Clock) →
          fits_on here Y b (input_clocks callee) (clock_sets (operands_of ctx es)) ≡ true
          → each_pair (stood here) (inputs_seen b) (clock_sets (operands_of ctx es)) ≡ true
      to_outer b fits =
          pairs_from (stood here) (inputs_seen b) (clock_sets (operands_of ctx es)) (λ i k s p q.
          let d = mapped_from (λ (d : Declaration). outer b inputs_given
          (declared_clock (node_of callee) d.name)) (node_of callee).inputs i k p in
          let place = input_at callee ops.called i d.0 d.1 in
          let less = place.1 in
          let v = variable_held callee ops.called i (omega arith) in
          let known = code_known b fits (variable_at i) v.0 (omega arith) v.1 in
          let same : k ≡ seen callee inputs_given b i = sym d.2
          ∙ ap (λ n. outer b inputs_given (declared_clock (node_of callee) n)) place.0 in
          ap (λ k. stood here k s) (same ∙ sym known) ∙ code_stand b fits i v.0 s less v.1 q)

      -- operands stand on the clocks that the caller sees exactly where they stand on those that
      -- the code expects
      pub same_fits : (b : tree.Clock) →
          each_pair (stood here) (inputs_seen b) (clock_sets (operands_of ctx es))
          ≡ fits_on here Y b (input_clocks callee) (clock_sets (operands_of ctx es))
      same_fits b = both_ways _ _ (to_code b) (to_outer b)

-- The clocks on which the code places the arguments of a call are those that the caller sees.

-- two lists of one length are equal, where their items at each place are
pub same_items :
    {A : Type 0} (xs ys : List A) → length xs ≡ length ys →
    ((i : ℕ) (x y : A) → slice_get xs i ≡ Some x → slice_get ys i ≡ Some y → x ≡ y) → xs ≡ ys
same_items [] [] long same = refl
same_items [] (y ∷ ys) long same = absurd (omega (arith, long))
same_items (x ∷ xs) [] long same = absurd (omega (arith, long))
same_items (x ∷ xs) (y ∷ ys) long same =
    ap₂ (λ z zs. z ∷ zs) (same 0 x y refl refl)
    (same_items xs ys (omega (arith, long)) (λ i a b p q. same (suc i) a b p q))

-- the clock of a parameter that the code expects is the one in the text of the caller
pub clock_expected :
    (here : ResolvedNode) (Y : ℕ → Option VariableId) (b : Clock) (c : Option Sampling) →
    IsGiven here Y c →
    clock_in here (either_or (expected (Some b) Y c) b) ≡ expected_on here Y (clock_in here b) c
clock_expected here Y b None given = refl
clock_expected here Y b (Some s) given =
    let y = given s refl in
    ap (λ o. clock_in here (either_or (option_map (λ y. On y s.sign) o) b)) y.1
    ∙ sym (ap (λ o. either_or (option_map (λ y. clock_in here (On y s.sign)) o) tree.Base) y.1)

module _ {P : Program} {here callee : ResolvedNode} {ctx : Context} {es : List Term}
    (ops : KnownOperands P here callee ctx es)
    (Y : ℕ → Option VariableId)
    (Y_is : (i : ℕ) → i < callee.inputs → Y i ≡ given_at (operands_of ctx es) i)
    (all : are_given callee (operands_of ctx es) ≡ true) (b : Clock)
    (fits : fits_on here Y (clock_in here b) (input_clocks callee)
    (clock_sets (operands_of ctx es)) ≡ true) where
  few : callee.inputs ≤ callee.inputs
  few = omega arith

  waits : AreGiven callee Y callee.inputs callee.inputs
  waits i v s lt at is =
      let less = input_waits callee ops.called i v s lt at is in
      let y = waited_given ops all i v s (omega arith) at is less in
      (less, (y.0, Y_is s.variable.0 less ∙ y.1))

  abbrev seen_of : Declaration → tree.Clock
  seen_of d =
      outer (clock_in here b) (given_inputs (node_of callee).inputs (exprs_of (texts_of here) es))
      (declared_clock (node_of callee) d.name)

  abbrev placed_of : Declared → Clock
  placed_of v = either_or (expected (Some b) Y v.clock) b

  abbrev params : List Declared
  params = take callee.inputs callee.variables.items

  variables_there : (n : ℕ) → n ≤ callee.inputs → n ≤ length callee.variables.items
  variables_there zero le = omega arith
  variables_there (suc n) le =
      let v = variable_held callee ops.called n (omega (arith, le)) in
      let lt = slice_get_within callee.variables.items n v.0 v.1 in
      omega (arith, lt)

  one_placed : (i : ℕ) (k l : tree.Clock) →
      slice_get (map seen_of (node_of callee).inputs) i ≡ Some k →
      slice_get (map (clock_in here) (map placed_of params)) i ≡ Some l → k ≡ l
  one_placed i k l p q =
      let d = mapped_from seen_of (node_of callee).inputs i k p in
      let c = mapped_from (clock_in here) (map placed_of params) i l q in
      let v = mapped_from placed_of params i c.0 c.1 in
      let t = get_taken callee.inputs callee.variables.items i v.0 v.1 in
      let less = t.1 in
      let inputs = inputs_of ops Y Y_is callee.inputs few waits in
      let given = inputs.given i v.0.clock (get_mapped (λ v. v.clock) params i v.0 v.1) in
      let known = code_known ops Y Y_is callee.inputs few
      waits (clock_in here b) fits (variable_at i) v.0 less t.0 in
      let name = (input_at callee ops.called i d.0 d.1).0 in
      sym d.2
      ∙ ap (λ x. outer (clock_in here b)
      (given_inputs (node_of callee).inputs (exprs_of (texts_of here) es))
      (declared_clock (node_of callee) x)) name
      ∙ sym known ∙ sym (clock_expected here Y b v.0.clock given)
      ∙ ap (clock_in here) v.2 ∙ c.2

  pub arguments_placed :
      inputs_seen ops (clock_in here b)
      ≡ map (clock_in here) (argument_clocks b Y callee)
  arguments_placed =
      same_items (map seen_of (node_of callee).inputs)
      (map (clock_in here) (map placed_of params))
      (length-map (node_of callee).inputs seen_of ∙ sym ops.called.resolved.inputs
      ∙ sym (length-map (map placed_of params) (clock_in here) ∙ length-map params placed_of
      ∙ length-take-le callee.inputs callee.variables.items
      (variables_there callee.inputs (omega arith))))
      one_placed
