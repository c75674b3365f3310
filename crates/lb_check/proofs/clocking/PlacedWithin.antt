-- The clocks and calls that the code finds of a node name variables of the node; the pairs of a
-- call name variables of its callee.
use Rattle.lb_check.proofs.Words
use Words.{◌∙◌, list_all-append, ◌≡◌, ℕ, zero, suc, ◌+◌, ◌-◌, ◌<◌, ◌≤◌, Bool, true, false, List, []}
use Words.{◌∷◌, ◌++◌, length, map, flat_map, take, Option, Some, None, refl, arith, nat_lt}
use Words.{slice_get, option_map, if◌then◌else◌, list_all, nat_tests, length-take, Count, and_from}
use Words.{◌>>=◌, Every, either_or, holds, listed, or_else, Node, all_at, and_first, and_second}
use Words.{variable_names, node_of, counts_of, is_variable, is_call, is_within, are_within}
use Words.{is_declared_within, is_sampling_within, is_statement_within, Reached, ResolvedNode}
use Words.{ResolvedStatement, Sampling, Term, Group', Unary', Binary', If', Arrow', Fby', Pre'}
use Words.{Current', When', Replicate', Index', Slice', Join', Array', AtMostOne', Nor', Call'}
use Words.{IterateNode', IterateSymbol', Row_of-Term, end_of-Term, more_of-Term, VariableId}
use Words.{variable_of, is_call_within, HasClocks, is_clock_within, FoundCall, FoundTerm}
use Words.{determined_clock, given_from, given_variable, given_variables, is_awaited, nested_call}
use Words.{node_terms, pair_at, placed_arguments, placed_row, placed_side, placed_statement}
use Words.{placed_terms, side_call, Context, base_of, both, call_clock_set, clock_set_on}
use Words.{clock_sets, clock_with, context_of, declared_in, expected, first_result, given_at}
use Words.{infer_clock, input_clocks, is_same, left_clock, left_clock_sets, operands_in}
use Words.{output_clocks, raised, result_base, stands_for, together, ClockSet, NoClock, AnyClock}
use Words.{OneClock, Operand, GivenVariable, Base, Declared}
use Rattle.lb_static.specs.declared.resolved.Term.{Variable}
use Rattle.lb_check.specs.PlacedClocks.{argument_clocks, call_base, side_base}
use Rattle.lb_check.specs.declared.own_clock.Clock.{Clock, TheVariants.On}
use Rattle.lb_check.proofs.clocking.{ClockDepths.as_many_names, WalkedClocks.calls_among}
use Rattle.lb_check.proofs.{clocking.WalkedClocks.clocks_among, lists.Members.Every-append}
use Rattle.lb_static.specs.declared.resolved.ResolvedStatement.TheVariants as statement

-- ## Variables of a callee

-- whether there is a callee, and the pairs `gs` are for variables of it
abbrev pub are_among : List GivenVariable → Option Node → Bool
are_among gs o =
    holds (λ callee. list_all (λ g. nat_lt g.callee.0 (length (variable_names callee))) gs) o

all_append :
    {A : Type 0} (f : A → Bool) (xs ys : List A) → list_all f xs ≡ true → list_all f ys ≡ true →
    list_all f (xs ++ ys) ≡ true
all_append f xs ys p q = list_all-append f xs ys ∙ and_from _ _ p q

module _ (count : ℕ) where
  abbrev is_low : GivenVariable → Bool
  is_low g = nat_lt g.callee.0 count

  low : (i : ℕ) → i < count → nat_lt i count ≡ true
  low i lt = grind (arith, nat_tests)

  one_low :
      (n : ResolvedNode) (given : ℕ → Option VariableId) (i : ℕ) → i < count →
      list_all is_low (listed (λ g. g ∷ []) (given_variable n given i)) ≡ true
  one_low n given i lt = by (is_awaited n i) (given i)
    where
      by : (b : Bool) (o : Option VariableId) →
          list_all (λ g. nat_lt g.callee.0 count)
          (listed (λ g. g ∷ []) (if b then option_map (pair_at i) o else None)) ≡ true
      by false o = refl
      by true None = refl
      by true (Some y) = and_from _ true (low i lt) refl

  from_low :
      (n : ResolvedNode) (given : ℕ → Option VariableId) (i m : ℕ) → i + m ≤ count →
      list_all is_low (given_from n given i m) ≡ true
  from_low n given i zero le = refl
  from_low n given i (suc m) le =
      all_append is_low _ _ (one_low n given i (omega (arith, le)))
      (from_low n given (suc i) m (omega (arith, le)))

-- the pairs that the code finds are for variables of the callee
pub parameters_within :
    (callee : ResolvedNode) → HasClocks callee → (os : List Operand) (lefts : List VariableId) →
    list_all (λ g. nat_lt g.callee.0 (length (variable_names (node_of callee))))
    (given_variables callee os lefts) ≡ true
parameters_within callee hc os lefts =
    let vs = callee.variables.items in
    let many = as_many_names hc.nodes callee hc.resolved hc.distinct in
    let few = length-take (callee.inputs + callee.outputs) vs in
    from_low _ callee _ 0 _ (omega (arith, many, few))

-- ## Clocks of a node

module _ (here : ResolvedNode) where
  abbrev IsIn : Clock → Type 0
  IsIn k = is_clock_within here k ≡ true

  -- a variable, if there is one, is one of the node
  abbrev IsFound : Option VariableId → Type 0
  IsFound None = Unit {0}
  IsFound (Some x) = is_variable (counts_of here) x ≡ true

  -- a clock, if there is one, is on a variable of the node
  abbrev IsClock : Option Clock → Type 0
  IsClock None = Unit {0}
  IsClock (Some k) = is_clock_within here k ≡ true

  abbrev IsSet : ClockSet → Type 0
  IsSet NoClock = Unit {0}
  IsSet AnyClock = Unit {0}
  IsSet (OneClock k) = is_clock_within here k ≡ true

  abbrev AreOperands : List Operand → Type 0
  AreOperands os = Every (λ o. IsSet o.clock_set × IsFound o.variable) os

  if_in : (b : Bool) (s : ClockSet) → IsSet s → IsSet (if b then s else NoClock)
  if_in true s p = p
  if_in false s p = tt

  both_in : (s t : ClockSet) → IsSet s → IsSet t → IsSet (both s t)
  both_in AnyClock t p q = q
  both_in (OneClock k) AnyClock p q = p
  both_in (OneClock k) (OneClock l) p q = if_in (is_same k l) (OneClock k) p
  both_in s t p q = tt

  together_in : (os : List Operand) → AreOperands os → IsSet (together os)
  together_in [] h = tt
  together_in (o ∷ os) h = both_in o.clock_set (together os) h.0.0 (together_in os h.1)

  sets_in : (os : List Operand) → AreOperands os → Every IsSet (clock_sets os)
  sets_in [] h = tt
  sets_in (o ∷ os) h = (h.0.0, sets_in os h.1)

  given_in : (os : List Operand) → AreOperands os → (i : ℕ) → IsFound (given_at os i)
  given_in [] h i = tt
  given_in (o ∷ os) h zero = h.0.1
  given_in (o ∷ os) h (suc i) = given_in os h.1 i

  among_in :
      (xs : List VariableId) → list_all (is_variable (counts_of here)) xs ≡ true → (i : ℕ) →
      IsFound (slice_get xs i)
  among_in [] w i = tt
  among_in (x ∷ xs) w zero = and_first _ _ w
  among_in (x ∷ xs) w (suc i) = among_in xs (and_second _ _ w) i

  stands_in :
      (inputs : ℕ) (os : List Operand) → AreOperands os → (lefts : List VariableId) →
      list_all (is_variable (counts_of here)) lefts ≡ true → (i : ℕ) →
      IsFound (stands_for inputs os lefts i)
  stands_in inputs os h lefts w i = by (nat_lt i inputs)
    where
      by : (b : Bool) → IsFound (if b then given_at os i else slice_get lefts (i - inputs))
      by true = given_in os h i
      by false = among_in lefts w _

  expected_in :
      (base : Option Clock) → IsClock base → (given : ℕ → Option VariableId) →
      ((i : ℕ) → IsFound (given i)) → (c : Option Sampling) → IsClock (expected base given c)
  expected_in base b given g None = b
  expected_in base b given g (Some s) = by (given s.variable.0) (g s.variable.0)
    where
      by : (o : Option VariableId) → IsFound o → IsClock (option_map (λ y. On y s.sign) o)
      by None p = tt
      by (Some y) p = p

  base_in :
      (cs : List (Option Sampling)) (ss : List ClockSet) → Every IsSet ss → IsClock (base_of cs ss)
  base_in [] ss h = tt
  base_in (c ∷ cs) [] h = tt
  base_in (None ∷ cs) (OneClock k ∷ ss) h = h.0
  base_in (c ∷ cs) (s ∷ ss) h = base_in cs ss h.1

  or_in : (o : Option Clock) (k : Clock) → IsClock o → IsIn k → IsIn (either_or o k)
  or_in None k p q = q
  or_in (Some l) k p q = p

  arguments_in :
      (base : Clock) → IsIn base → (given : ℕ → Option VariableId) →
      ((i : ℕ) → IsFound (given i)) → (vs : List Declared) →
      Every IsIn (map (λ v. either_or (expected (Some base) given v.clock) base) vs)
  arguments_in base b given g [] = tt
  arguments_in base b given g (v ∷ vs) = (
    or_in _ base (expected_in _ b given g v.clock) b,
    arguments_in base b given g vs,
  )

  -- the pairs have variables of the node
  abbrev AreCallers : List GivenVariable → Type 0
  AreCallers gs = list_all (λ g. is_variable (counts_of here) g.caller) gs ≡ true

  callers_in :
      (n : ResolvedNode) (given : ℕ → Option VariableId) → ((i : ℕ) → IsFound (given i)) →
      (i m : ℕ) → AreCallers (given_from n given i m)
  callers_in n given g i zero = refl
  callers_in n given g i (suc m) =
      all_append (λ g. is_variable (counts_of here) g.caller)
      (listed (λ g. g ∷ []) (given_variable n given i)) (given_from n given (suc i) m)
      (by (is_awaited n i) (given i) (g i)) (callers_in n given g (suc i) m)
    where
      by : (b : Bool) (o : Option VariableId) → IsFound o →
          AreCallers (listed (λ g. g ∷ []) (if b then option_map (pair_at i) o else None))
      by false o p = refl
      by true None p = refl
      by true (Some y) p = and_from (is_variable (counts_of here) y) true p refl

  variable_in : (t : Term) → is_within (counts_of here) t ≡ true → IsFound (variable_of t)
  unfolding variable_of
  variable_in (Variable x) w = w
  variable_in (Group' p e) w = variable_in e w
  variable_in t w = tt

  set_on : (o : Option Clock) → IsClock o → IsSet (clock_set_on o)
  set_on None p = tt
  set_on (Some k) p = p

  result_in :
      (base : Option Clock) → IsClock base → (given : ℕ → Option VariableId) →
      ((i : ℕ) → IsFound (given i)) → (cs : List (Option Sampling)) →
      IsSet (first_result base given cs)
  result_in base b given g [] = set_on base b
  result_in base b given g (c ∷ cs) = set_on _ (expected_in base b given g c)

  call_set_in :
      (os : List Operand) → AreOperands os → (o : Option ResolvedNode) →
      IsSet (either_or (option_map (λ n. call_clock_set n os) o) NoClock)
  call_set_in os h None = tt
  call_set_in os h (Some n) =
      if_in _ _ (result_in _ (base_in (input_clocks n) _ (sets_in os h)) _ (given_in os h)
      (output_clocks n))

  module _ (ctx : Context) (declares : (x : VariableId) → is_clock_within here (ctx.variable x)
      ≡ true) where
    raised_in : (s : ClockSet) → IsSet s → IsSet (raised ctx s)
    raised_in (OneClock (On x sign)) p = declares x
    raised_in s p = tt

    determined_in : (s : ClockSet) → IsSet s → IsIn (determined_clock s)
    determined_in (OneClock k) p = p
    determined_in s p = refl

    left_in : (lefts : List VariableId) → IsIn (left_clock ctx lefts)
    left_in [] = refl
    left_in (x ∷ xs) = declares x

    mutual
      unfolding infer_clock

      -- the clock set of a term is on a variable of the node
      term_in : (t : Term) → is_within (counts_of here) t ≡ true → IsSet (infer_clock ctx t)
      term_in (Variable x) w = declares x
      term_in (Group' p e) w = term_in e w
      term_in (Unary' op p a) w = term_in a w
      term_in (Binary' op p a q b) w =
          both_in _ _ (term_in a (and_first _ _ w)) (term_in b (and_second _ _ w))
      term_in (If' p c q a o b) w =
          let others = and_second (is_within (counts_of here) c) _ w in
          both_in (infer_clock ctx c) (both (infer_clock ctx a) (infer_clock ctx b))
          (term_in c (and_first _ _ w)) (both_in _ _ (term_in a (and_first _ _ others))
          (term_in b (and_second _ _ others)))
      term_in (Arrow' p a q b) w =
          both_in _ _ (term_in a (and_first _ _ w)) (term_in b (and_second _ _ w))
      term_in (Fby' p a q b) w =
          both_in _ _ (term_in a (and_first _ _ w)) (term_in b (and_second _ _ w))
      term_in (Pre' p e) w = term_in e w
      term_in (Current' p e) w = raised_in (infer_clock ctx e) (term_in e w)
      term_in (When' p e x sign) w = if_in _ (OneClock (On x sign)) (and_first _ _ w)
      term_in (Replicate' p e i) w = term_in e (and_second _ _ w)
      term_in (Index' p e i) w = term_in e (and_second _ _ w)
      term_in (Slice' p e i j) w = term_in e (and_second _ _ (and_second _ _ w))
      term_in (Join' p a q b) w =
          both_in _ _ (term_in a (and_first _ _ w)) (term_in b (and_second _ _ w))
      term_in (Array' arity all) w = together_in _ (row_in all w)
      term_in (AtMostOne' arity all) w = together_in _ (row_in all w)
      term_in (Nor' arity all) w = together_in _ (row_in all w)
      term_in (Call' c arity all) w =
          call_set_in (operands_in ctx all) (row_in all (and_second _ _ w)) (ctx.callee c)
      term_in (IterateNode' it c arity all) w =
          if_in _ _ (together_in _ (row_in all (and_second _ _ w)))
      term_in (IterateSymbol' it op i arity all) w = together_in _ (row_in all (and_second _ _ w))
      term_in t w = tt

      row_in : {m : Count} (row : Row_of-Term m) → are_within (counts_of here) row ≡ true →
          AreOperands (operands_in ctx row)
      row_in end_of-Term w = tt
      row_in (more_of-Term e rest) w =
          let first = and_first _ (are_within (counts_of here) rest) w in (
            (term_in e first, variable_in e first),
            row_in rest (and_second _ _ w),
          )

    -- ## Found calls and terms

    -- a found call, if there is one, names variables of the node
    abbrev IsCallIn : Option FoundCall → Type 0
    IsCallIn None = Unit {0}
    IsCallIn (Some c) = is_call_within here c ≡ true

    abbrev IsFoundIn : FoundTerm → Type 0
    IsFoundIn t = (is_clock_within here t.clock ≡ true) × IsCallIn t.call

    abbrev AreFound : List FoundTerm → Type 0
    AreFound ts = Every IsFoundIn ts

    two_in : (xs ys : List FoundTerm) → AreFound xs → AreFound ys → AreFound (xs ++ ys)
    two_in xs ys p q = Every-append IsFoundIn xs ys p q

    call_base_in :
        (k : Clock) → IsIn k → (os : List Operand) → AreOperands os → (n : ResolvedNode) →
        IsIn (call_base k n os)
    call_base_in k p os h n = or_in _ k (base_in (input_clocks n) _ (sets_in os h)) p

    nested_in :
        (k : Clock) → IsIn k → (os : List Operand) → AreOperands os → (o : Option ResolvedNode) →
        is_call_within here (nested_call k os o) ≡ true
    nested_in k p os h None = and_from (is_clock_within here k) true p refl
    nested_in k p os h (Some n) =
        and_from _ _ (call_base_in k p os h n)
        (callers_in n (stands_for n.inputs os []) (stands_in n.inputs os h [] refl) 0 _)

    calls_in :
        (k : Clock) → IsIn k → (os : List Operand) → AreOperands os → (o : Option ResolvedNode) →
        Every IsIn (listed (λ n. argument_clocks (call_base k n os) (given_at os) n) o)
    calls_in k p os h None = tt
    calls_in k p os h (Some n) =
        arguments_in _ (call_base_in k p os h n) _ (given_in os h) (take n.inputs n.variables.items)

    mutual
      unfolding placed_terms

      placed_in : (k : Clock) → IsIn k → (t : Term) → is_within (counts_of here) t ≡ true →
          AreFound (placed_terms ctx k t)
      placed_in k h (Group' p e) w = placed_in k h e w
      placed_in k h (Unary' op p a) w = ((h, tt), placed_in k h a w)
      placed_in k h (Binary' op p a q b) w = (
        (h, tt),
        two_in _ _ (placed_in k h a (and_first _ _ w)) (placed_in k h b (and_second _ _ w)),
      )
      placed_in k h (If' p c q a o b) w =
          let others = and_second (is_within (counts_of here) c) _ w in (
            (h, tt),
            two_in _ _ (placed_in k h c (and_first _ _ w)) (two_in _ _
                (placed_in k h a (and_first _ _ others)) (placed_in k h b (and_second _ _ others))),
          )
      placed_in k h (Arrow' p a q b) w = (
        (h, tt),
        two_in _ _ (placed_in k h a (and_first _ _ w)) (placed_in k h b (and_second _ _ w)),
      )
      placed_in k h (Fby' p a q b) w = (
        (h, tt),
        two_in _ _ (placed_in k h a (and_first _ _ w)) (placed_in k h b (and_second _ _ w)),
      )
      placed_in k h (Pre' p e) w = ((h, tt), placed_in k h e w)
      placed_in k h (Current' p e) w = (
        (h, tt),
        placed_in _ (determined_in _ (term_in e w)) e w,
      )
      placed_in k h (When' p e x sign) w = (
        (h, tt),
        placed_in (ctx.variable x) (declares x) e (and_second _ _ w),
      )
      placed_in k h (Replicate' p e i) w = (
        (h, tt),
        placed_in k h e (and_second _ _ w),
      )
      placed_in k h (Index' p e i) w = (
        (h, tt),
        placed_in k h e (and_second _ _ w),
      )
      placed_in k h (Slice' p e i j) w = (
        (h, tt),
        placed_in k h e (and_second _ _ (and_second _ _ w)),
      )
      placed_in k h (Join' p a q b) w = (
        (h, tt),
        two_in _ _ (placed_in k h a (and_first _ _ w)) (placed_in k h b (and_second _ _ w)),
      )
      placed_in k h (Array' arity all) w = ((h, tt), row_placed_in k h all w)
      placed_in k h (AtMostOne' arity all) w = ((h, tt), row_placed_in k h all w)
      placed_in k h (Nor' arity all) w = ((h, tt), row_placed_in k h all w)
      placed_in k h (Call' c arity all) w =
          let wa = and_second (is_call (counts_of here) c) _ w in
          let os = operands_in ctx all in (
            (h, nested_in k h os (row_in all wa) (ctx.callee c)),
            arguments_placed_in _ (calls_in k h os (row_in all wa) (ctx.callee c)) all wa,
          )
      placed_in k h (IterateNode' it c arity all) w = (
        (h, and_from (is_clock_within here k) true h refl),
        row_placed_in k h all (and_second _ _ w),
      )
      placed_in k h (IterateSymbol' it op i arity all) w = (
        (h, tt),
        row_placed_in k h all (and_second _ _ w),
      )
      placed_in k h t w = ((h, tt), tt)

      row_placed_in : {m : Count} (k : Clock) → IsIn k → (row : Row_of-Term m) →
          are_within (counts_of here) row ≡ true → AreFound (placed_row ctx k row)
      row_placed_in k h end_of-Term w = tt
      row_placed_in k h (more_of-Term e rest) w =
          two_in _ _ (placed_in k h e (and_first _ _ w)) (row_placed_in k h rest (and_second _ _ w))

      arguments_placed_in : {m : Count} (ks : List Clock) → Every IsIn ks →
          (row : Row_of-Term m) → are_within (counts_of here) row ≡ true →
          AreFound (placed_arguments ctx ks row)
      arguments_placed_in ks h end_of-Term w = tt
      arguments_placed_in [] h (more_of-Term e rest) w = tt
      arguments_placed_in (k ∷ ks) h (more_of-Term e rest) w =
          two_in _ _ (placed_in k h.0 e (and_first _ _ w))
          (arguments_placed_in ks h.1 rest (and_second _ _ w))

    -- ## Statements

    lefts_sets : (lefts : List VariableId) → Every IsSet (left_clock_sets ctx lefts)
    lefts_sets [] = tt
    lefts_sets (x ∷ xs) = (declares x, lefts_sets xs)

    either_in : (o p : Option Clock) → IsClock o → IsClock p → IsClock (or_else o p)
    either_in None p h g = g
    either_in (Some k) p h g = h

    result_base_in :
        (n : ResolvedNode) (os : List Operand) → AreOperands os → (lefts : List VariableId) →
        IsClock (result_base ctx n os lefts)
    result_base_in n os h [] = refl
    result_base_in n os h (x ∷ xs) =
        either_in _ _ (base_in (output_clocks n) _ (lefts_sets (x ∷ xs)))
        (base_in (input_clocks n) _ (sets_in os h))

    side_base_in :
        (n : ResolvedNode) (os : List Operand) → AreOperands os → (lefts : List VariableId) →
        IsIn (side_base ctx n os lefts)
    side_base_in n os h lefts =
        or_in (result_base ctx n os lefts) Base (result_base_in n os h lefts) refl

    module _ (lefts : List VariableId)
        (wl : list_all (is_variable (counts_of here)) lefts ≡ true) where
      side_call_in :
          (os : List Operand) → AreOperands os → (o : Option ResolvedNode) →
          is_call_within here (side_call ctx lefts os o) ≡ true
      side_call_in os h None =
          and_from (is_clock_within here (left_clock ctx lefts)) true (left_in lefts) refl
      side_call_in os h (Some n) =
          and_from _ _ (side_base_in n os h lefts)
          (callers_in n (stands_for n.inputs os lefts) (stands_in n.inputs os h lefts wl) 0 _)

      side_clocks_in :
          (os : List Operand) → AreOperands os → (o : Option ResolvedNode) →
          Every IsIn (listed (λ n. argument_clocks (side_base ctx n os lefts)
          (stands_for n.inputs os lefts) n) o)
      side_clocks_in os h None = tt
      side_clocks_in os h (Some n) =
          arguments_in _ (side_base_in n os h lefts) _ (stands_in n.inputs os h lefts wl)
          (take n.inputs n.variables.items)

      side_in : (t : Term) → is_within (counts_of here) t ≡ true →
          AreFound (placed_side ctx lefts t)
      unfolding placed_side
      side_in (Group' p e) w = side_in e w
      side_in (Call' c arity all) w =
          let wa = and_second (is_call (counts_of here) c) _ w in
          let os = operands_in ctx all in (
            (left_in lefts, side_call_in os (row_in all wa) (ctx.callee c)),
            arguments_placed_in _ (side_clocks_in os (row_in all wa) (ctx.callee c)) all wa,
          )
      side_in t w = placed_in (left_clock ctx lefts) (left_in lefts) t w

    statement_in : (s : ResolvedStatement) → is_statement_within (counts_of here) s ≡ true →
        AreFound (placed_statement ctx s)
    statement_in (statement.Equation lefts e) w =
        side_in lefts.items (and_first _ _ w) e (and_second _ _ w)
    statement_in (statement.Assertion e) w = placed_in _ (determined_in _ (term_in e w)) e w

    statements_in :
        (ss : List ResolvedStatement) →
        list_all (is_statement_within (counts_of here)) ss ≡ true →
        AreFound (flat_map (placed_statement ctx) ss)
    statements_in [] w = tt
    statements_in (s ∷ ss) w =
        two_in _ _ (statement_in s (and_first _ _ w)) (statements_in ss (and_second _ _ w))

    clocks_in : (ts : List FoundTerm) → AreFound ts →
        list_all (is_clock_within here) (clocks_among ts) ≡ true
    clocks_in [] h = refl
    clocks_in (t ∷ ts) h =
        and_from _ _
        h.0.0 (clocks_in ts h.1)

    calls_all : (ts : List FoundTerm) → AreFound ts →
        list_all (is_call_within here) (calls_among ts) ≡ true
    calls_all [] h = refl
    calls_all (t ∷ ts) h =
        all_append (is_call_within here) (listed (λ c. c ∷ []) t.call) (calls_among ts)
        (by t.call h.0.1) (calls_all ts h.1)
      where
        by : (o : Option FoundCall) → IsCallIn o →
            list_all (is_call_within here) (listed (λ c. c ∷ []) o) ≡ true
        by None p = refl
        by (Some c) p = and_from (is_call_within here c) true p refl

module _ (r : Reached) (here : ResolvedNode)
    (declared : list_all (is_declared_within (counts_of here)) here.variables.items ≡ true) where
  declared_clock_in : (x : VariableId) → is_clock_within here (declared_in here x) ≡ true
  declared_clock_in x = by (slice_get here.variables.items x.0) refl
    where
      waits : (o : Option Sampling) → is_sampling_within (counts_of here) o ≡ true →
          is_clock_within here (clock_with o) ≡ true
      waits None w = refl
      waits (Some s) w = w

      by : (o : Option Declared) → slice_get here.variables.items x.0 ≡ o →
          is_clock_within here (clock_with (o >>= λ v. v.clock)) ≡ true
      by None e = refl
      by (Some v) e =
          waits v.clock (and_second _ _ (all_at _ here.variables.items x.0 v declared e))

  context_in : (x : VariableId) → is_clock_within here ((context_of r here).variable x) ≡ true
  unfolding context_of
  context_in x = declared_clock_in x

  -- the found terms of a node name its variables
  pub node_within :
      list_all (is_statement_within (counts_of here)) here.body.items ≡ true →
      (list_all (is_clock_within here) (clocks_among (node_terms r here)) ≡ true)
      × (list_all (is_call_within here) (calls_among (node_terms r here)) ≡ true)
  node_within body =
      let all = statements_in here (context_of r here) context_in here.body.items body in (
        clocks_in here (context_of r here) context_in (node_terms r here) all,
        calls_all here (context_of r here) context_in (node_terms r here) all,
      )
