-- A call with one result stands on the clocks that the code finds, and on no others.
use Rattle.lb_check.proofs.Words
use Words.{AnyClock, Bool, ClockSet, Context, Declaration, Declared, Expr, IsClockSet, List}
use Words.{NoClock, None, OneClock, Option, Program, ResolvedNode, Sampling, Site, Some, Term}
use Words.{VariableId, [], above, all_fit, and-true, and_first, and_from, and_second, ap}
use Words.{append-nil, are_given, argument_clocks, arith, base_clock, base_from}
use Words.{base_from_arguments, base_of, both_ways, call_clock_set, called_clock, clock_in}
use Words.{clock_of, clock_set_on, clock_sets, declared_clock, depth, drop, each_clock, either_or}
use Words.{expected, expr_of, exprs_of, false, false_from_ne_true, first_result, first_result_clock}
use Words.{given_at, given_inputs, given_outputs, if◌then◌else◌, infer_clock, inl, input_clocks}
use Words.{inr, is_call_clocked, is_clock, is_clocked_on, length, map, mapped_from, node_named}
use Words.{node_of, operands_of, option_map, outer, output_clocks, own_depth, refl, result_clocks}
use Words.{slice_get, slice_get_within, subst, suc, sym, take, texts_of, true, zero, ℕ, ◌&&◌, ◌++◌}
use Words.{◌+◌, ◌<◌, ◌>>=◌, ◌∙◌, ◌∷◌, ◌≡◌, ◌≤◌, ◌⊎◌}
use Rattle.lb_check.proofs.clocking.CallOperands.{KnownOperands, are_given_is, clock_from}
use Rattle.lb_check.proofs.clocking.CallOperands.{clock_there, code_known, each_stood, input_waits}
use Rattle.lb_check.proofs.clocking.CallOperands.{inputs_of, inputs_seen, not_itself}
use Rattle.lb_check.proofs.clocking.CallOperands.{operand_stands, operand_within, output_waits}
use Rattle.lb_check.proofs.clocking.CallOperands.{same_fits, stands_at, stood_clock, waited_given}
use Rattle.lb_check.proofs.clocking.{ClockTests.clock_same, GivenNames.{clock_set_at, input_held}}
use Rattle.lb_check.proofs.clocking.GivenNames.{output_at, term_at, variable_held}
use Rattle.lb_check.proofs.clocking.OuterClocks.{AreGiven, AreOfNode, IsGiven, above_outer}
use Rattle.lb_check.proofs.clocking.OuterClocks.{base_found, base_is, base_within, clock_equal}
use Rattle.lb_check.proofs.clocking.OuterClocks.{expects, fit_none, fit_some, fits_on, place_name}
use Rattle.lb_check.proofs.clocking.OuterClocks.{place_split, seen, stood, variable_at}
use Rattle.lb_check.proofs.{clocking.OwnClocks.clock_of_free, lists.ListPairs.each_pair}
use Rattle.lb_check.proofs.lists.ListPairs.{get_mapped, get_taken, pair_at}
use Rattle.lb_check.specs.declared.own_clock.Clock.{Clock}
use Rattle.lb_syntax.specs.Tree as text
use Rattle.lb_check.specs.Clocks as tree

-- ## Lists with one item

one_of : {A : Type 0} (xs : List A) → length xs ≡ 1 → (x : A) × (xs ≡ x ∷ [])
one_of [] e = absurd (omega (arith, e))
one_of (x ∷ []) e = (x, refl)
one_of (x ∷ y ∷ xs) e = absurd (omega (arith, e))

take_one : {A : Type 0} (m : ℕ) (xs : List A) (x : A) → slice_get xs m ≡ Some x →
    take 1 (drop m xs) ≡ x ∷ []
take_one m [] x e = absurd cc
take_one zero (y ∷ xs) x e = let same : y ≡ x = cc in ap (λ z. z ∷ []) same
take_one (suc m) (y ∷ xs) x e = take_one m xs x e

no_outputs : (ds : List Declaration) → given_outputs ds [] ≡ []
no_outputs [] = refl
no_outputs (d ∷ ds) = refl

-- ## The base clock, from the arguments

-- the arguments determine base clock `b` or none, where each argument with a clock determines `b`
from_arguments : (n : text.Node) (ds : List Declaration) (ks : List (Option tree.Clock))
    (b : tree.Clock)
    → ((i : ℕ) (d : Declaration) (k : tree.Clock) → slice_get ds i ≡ Some d →
    slice_get ks i ≡ Some (Some k) → above (own_depth n d) k ≡ b)
    → (base_from_arguments n ds ks ≡ Some b)
    ⊎ ((base_from_arguments n ds ks ≡ None)
    × ((i : ℕ) (d : Declaration) (o : Option tree.Clock) → slice_get ds i ≡ Some d →
    slice_get ks i ≡ Some o → o ≡ None))
from_arguments n [] ks b h = inr (refl, λ i d o p q. absurd cc)
from_arguments n (d ∷ ds) [] b h = inr (refl, λ i d o p q. absurd cc)
from_arguments n (d ∷ ds) (Some k ∷ ks) b h = inl (ap Some (h 0 d k refl refl))
from_arguments n (d ∷ ds) (None ∷ ks) b h =
    elim (from_arguments n ds ks b (λ i d k p q. h (suc i) d k p q)) [
      | inl e ↦ inl e
      | inr e ↦ inr (e.0, more e.1)
    ]
  where
    more : ((i : ℕ) (d : Declaration) (o : Option tree.Clock) → slice_get ds i ≡ Some d →
        slice_get ks i ≡ Some o → o ≡ None)
        → (i : ℕ) (c : Declaration) (o : Option tree.Clock) → slice_get (d ∷ ds) i ≡ Some c →
        slice_get (None ∷ ks) i ≡ Some o → o ≡ None
    more rest zero c o p q = cc
    more rest (suc i) c o p q = rest i c o p q

module _ {P : Program} {here callee : ResolvedNode} {ctx : Context} {es : List Term}
    (ops : KnownOperands P here callee ctx es) (site : Site)
    (named : node_named P site.callee ≡ Some (node_of callee)) where
  abbrev args : text.Exprs
  args = exprs_of (texts_of here) es

  abbrev ss : List ClockSet
  ss = clock_sets (operands_of ctx es)

  abbrev pub call_of : Expr
  call_of = text.Call site.callee site.arguments (exprs_of (texts_of here) es)

  -- a call and its operands keep the rules on a clock where the call does and each operand stands
  -- on its clock
  pub clocked_call : (k : tree.Clock) (n : ℕ) →
      is_clocked_on P here k n (text.Call site.callee site.arguments (exprs_of (texts_of here) es))
      ≡ (is_call_clocked (node_of here) k args (node_of callee)
      && each_pair (stood here) (argument_clocks k (node_of callee) args) ss)
  clocked_call k n =
      rw (named, and-true (is_call_clocked (node_of here) k args (node_of callee)))
      (ap (λ b. is_call_clocked (node_of here) k args (node_of callee) && b)
      (each_stood P here ctx es ops.stand _ (n + 1)))

  -- ## One result

  module _ (single : callee.outputs ≡ 1) where
    abbrev given : tree.Given
    given = given_inputs (node_of callee).inputs (exprs_of (texts_of here) es)

    abbrev Y : ℕ → Option VariableId
    Y = given_at (operands_of ctx es)

    pub the_output : (d : Declaration) × ((node_of callee).outputs ≡ d ∷ [])
    the_output = one_of (node_of callee).outputs (sym ops.called.resolved.outputs ∙ single)

    pub result : (o : Declared) × (slice_get callee.variables.items callee.inputs ≡ Some o)
    result = variable_held callee ops.called callee.inputs (omega (arith, single))

    output_name : the_output.0.name ≡ place_name callee callee.inputs
    output_name =
        let first : slice_get (node_of callee).outputs 0 ≡ Some the_output.0 =
        ap (λ l. slice_get l 0) the_output.1 in
        let place : callee.inputs + 0 ≡ callee.inputs = omega arith in
        (output_at callee ops.called 0 the_output.0 first).0 ∙ ap (place_name callee) place

    -- the base clock of the callee, from the clock of its result
    abbrev pub up : tree.Clock → tree.Clock
    up k = above (depth (declared_clock (node_of callee) (place_name callee callee.inputs))) k

    pub base_up : (k : tree.Clock) → base_clock k (node_of callee) ≡ up k
    base_up k =
        ap (base_from k (node_of callee)) the_output.1
        ∙ ap (λ x. above (depth (declared_clock (node_of callee) x)) k) output_name

    pub results_seen : (k : tree.Clock) →
        result_clocks k (node_of callee) args [] ≡ seen callee given (up k) callee.inputs ∷ []
    results_seen k =
        let f = λ (b : tree.Clock) (g : tree.Given) (d : Declaration). outer b g
        (declared_clock (node_of callee) d.name) in
        ap (λ g. map (f (base_clock k (node_of callee)) (given ++ g)) (node_of callee).outputs)
        (no_outputs _)
        ∙ ap (λ g. map (f (base_clock k (node_of callee)) g) (node_of callee).outputs)
        (append-nil given)
        ∙ ap (map (f (base_clock k (node_of callee)) given)) the_output.1
        ∙ ap (λ b. f b given the_output.0 ∷ []) (base_up k)
        ∙ ap (λ x. outer (up k) given (declared_clock (node_of callee) x) ∷ []) output_name

    one_result : (k : tree.Clock) → is_call_clocked (node_of here) k args (node_of callee)
        ≡ (are_given callee (operands_of ctx es)
        && is_clock (seen callee given (up k) callee.inputs) k)
    one_result k =
        let many : length (node_of callee).outputs ≡ 1 = sym ops.called.resolved.outputs ∙ single in
        rw (are_given_is ops, many, results_seen k)
        (ap (λ b. are_given callee (operands_of ctx es) && b) (and-true _))

    -- a call keeps the rules on `k` where variables are given, its result is on `k`, and its
    -- operands stand on their clocks
    called : (k : tree.Clock) (n : ℕ) → is_clocked_on P here k n call_of
        ≡ ((are_given callee (operands_of ctx es)
        && is_clock (seen callee given (up k) callee.inputs) k)
        && each_pair (stood here) (inputs_seen ops (up k)) ss)
    called k n = clocked_call k n ∙ rw (one_result k, base_up k) refl

    results : output_clocks callee ≡ result.0.clock ∷ []
    results =
        ap (λ m. map (λ v. v.clock) (take m (drop callee.inputs callee.variables.items))) single
        ∙ ap (map (λ v. v.clock)) (take_one callee.inputs callee.variables.items result.0 result.1)

    module _ (all : are_given callee (operands_of ctx es) ≡ true) where
      -- each parameter waits for an input, if it waits for a variable
      waits_input : (i : ℕ) (v : Declared) (s : Sampling) → i < callee.inputs + 1 →
          slice_get callee.variables.items i ≡ Some v → v.clock ≡ Some s →
          s.variable.0 < callee.inputs
      waits_input i v s lt at is =
          elim (place_split i callee.inputs 1 lt) [
            | inl less ↦ input_waits callee ops.called i v s less at is
            | inr p ↦
                let small = output_waits callee ops.called p.0 v s (omega (arith, p.2, single))
                (ap (slice_get callee.variables.items) (sym p.1) ∙ at) is in
                let other = not_itself callee ops.called (variable_at i) v s at
                (slice_get_within callee.variables.items i v at) is in
                omega (arith, small, other, p.1, p.2, single)
          ]

      pub waits : AreGiven callee Y callee.inputs (callee.inputs + 1)
      waits i v s lt at is =
          let less = waits_input i v s lt at is in
          (less, waited_given ops all i v s (omega (arith, single)) at is less)

      pub few : callee.inputs ≤ callee.inputs + 1
      few = omega arith

      abbrev fits : tree.Clock → Bool
      fits b = fits_on here Y b (input_clocks callee) ss

      abbrev fits_outer : tree.Clock → Bool
      fits_outer b = each_pair (stood here) (inputs_seen ops b) ss

      fits_same : (b : tree.Clock) → fits_outer b ≡ fits b
      fits_same b = same_fits ops Y (λ i lt. refl) (callee.inputs + 1) few waits b

      row : AreOfNode here Y (input_clocks callee) ss
      row = inputs_of ops Y (λ i lt. refl) (callee.inputs + 1) few waits

      result_given : IsGiven here Y result.0.clock
      result_given s is =
          let z = waits callee.inputs result.0 s (omega arith) result.1 is in (
            z.1.0,
            z.1.1,
            operand_within ops s.variable.0 z.1.0 z.1.1,
          )

      -- ## The clock that the call determines

      abbrev arguments_base : Option tree.Clock
      arguments_base = base_from_arguments (node_of callee) (node_of callee).inputs
          (each_clock P (node_of here) args)

      call_clock : clock_of P (node_of here) call_of ≡ option_map
          (λ k. seen callee given k callee.inputs) arguments_base
      call_clock =
          ap (λ o. o >>= called_clock args (each_clock P (node_of here) args)) named
          ∙ ap (λ ds. option_map (λ k. first_result_clock k (node_of callee) given ds)
          arguments_base) the_output.1
          ∙ ap (λ x. option_map (λ k. outer k given (declared_clock (node_of callee) x))
          arguments_base) output_name

      abbrev NoneDetermines : Type 0
      NoneDetermines =
          (i : ℕ) (d : Declaration) (o : Option tree.Clock) →
          slice_get (node_of callee).inputs i ≡ Some d
          → slice_get (each_clock P (node_of here) args) i ≡ Some o → o ≡ None

      determined : (b : tree.Clock) → fits b ≡ true →
          (arguments_base ≡ Some b) ⊎ ((arguments_base ≡ None) × NoneDetermines)
      determined b ok =
          from_arguments (node_of callee) (node_of callee).inputs
          (each_clock P (node_of here) args) b (λ i d k p q.
          let t = clock_from P here es i (Some k) q in
          let f = λ (d : Declaration). outer b given (declared_clock (node_of callee) d.name) in
          let there = get_mapped f (node_of callee).inputs i d p in
          let stands : stood here (f d) (infer_clock ctx t.0) ≡ true =
          pair_at (stood here) (map f (node_of callee).inputs) ss i (f d) (infer_clock ctx t.0)
          (fits_same b ∙ ok) there (clock_set_at ctx es i t.0 t.1) in
          let same : k ≡ f d =
          stood_clock P here (expr_of (texts_of here) t.0) (infer_clock ctx t.0)
          (stands_at P here ctx es i t.0 ops.stand t.1) (f d) k stands t.2 in
          ap (above (own_depth (node_of callee) d)) same
          ∙ above_outer b given (declared_clock (node_of callee) d.name))

      -- no operand stands on one clock alone, where none determines a clock
      some_determines : NoneDetermines → (i : ℕ) (l : Clock) → i < callee.inputs →
          slice_get ss i ≡ Some (OneClock l) → ⊥
      some_determines none i l lt e =
          let t = term_at ctx es i _ e in
          let x = expr_of (texts_of here) t.0 in
          let stands : IsClockSet P here x (OneClock l) =
          subst (IsClockSet P here x) t.2 (stands_at P here ctx es i t.0 ops.stand t.1) in
          let d = input_held callee ops.called i lt in
          let gone = none i d.0 (clock_of P (node_of here) x) d.1
          (clock_there P here es i t.0 t.1) in
          let there : clock_of P (node_of here) x ≡ Some (clock_in here l) = stands.1 in
          absurd cc

      base_determined : (k : Clock) (b : tree.Clock) → base_of (input_clocks callee) ss ≡ Some k →
          fits b ≡ true → arguments_base ≡ Some b
      base_determined k b e ok =
          let z = base_found (input_clocks callee) ss k e in
          let v = mapped_from (λ v. v.clock)
          (take callee.inputs callee.variables.items) z.0 None z.1 in
          let lt = (get_taken callee.inputs callee.variables.items z.0 v.0 v.1).1 in
          elim (determined b ok) [ inl s ↦ s | inr s ↦ absurd (some_determines s.1 z.0 k lt z.2) ]

      -- no operand determines a clock, where the operands fit on each base clock
      none_determined : ((b : tree.Clock) → fits b ≡ true) →
          (arguments_base ≡ None) × NoneDetermines
      none_determined ok =
          elim (determined tree.Base (ok tree.Base)) [
            | inl s ↦ elim (determined (tree.On tree.Base [] true) (ok (tree.On tree.Base [] true)))
                [ inl t ↦ absurd cc | inr t ↦ t ]
            | inr s ↦ s
          ]

      result_free : NoneDetermines → (o : Option Sampling) → result.0.clock ≡ o → o ≡ None
      result_free none None is = refl
      result_free none (Some s) is =
          let z = waits callee.inputs result.0 s (omega arith) result.1 is in
          absurd (some_determines none s.variable.0 _ z.0 (operand_stands ops s.variable.0 z.1.0
          z.1.1))

      -- ## The clock set of the call

      on_clock : (k : tree.Clock) (n : ℕ) →
          is_clocked_on P here k n call_of ≡
          (is_clock (seen callee given (up k) callee.inputs) k && fits (up k))
      on_clock k n =
          called k n
          ∙ ap (λ g. (g && is_clock (seen callee given (up k) callee.inputs) k)
          && fits_outer (up k)) all
          ∙ ap (λ b. is_clock (seen callee given (up k) callee.inputs) k && b) (fits_same (up k))

      nowhere : ((b : tree.Clock) → fits b ≡ true → ⊥) → IsClockSet P here call_of NoClock
      nowhere misfit k n =
          on_clock k n ∙ false_from_ne_true _ (λ t. misfit (up k)
          (and_second (is_clock (seen callee given (up k) callee.inputs) k) _ t))

      -- the call stands on one clock alone, where the operands fit on one base clock alone
      only_on : (b k : tree.Clock) → fits b ≡ true → ((c : tree.Clock) → fits c ≡ true → c ≡ b)
          → (is_clock (seen callee given (up k) callee.inputs) k && fits (up k)) ≡ is_clock k
          (seen callee given b callee.inputs)
      only_on b k ok one = both_ways _ _ there back
        where
          there : (is_clock (seen callee given (up k) callee.inputs) k && fits (up k)) ≡ true →
              is_clock k (seen callee given b callee.inputs) ≡ true
          there t =
              let same : up k ≡ b = one (up k)
              (and_second (is_clock (seen callee given (up k) callee.inputs) k) _ t) in
              let on : seen callee given (up k) callee.inputs ≡ k =
              clock_same _ k (and_first _ (fits (up k)) t) in
              clock_equal k (seen callee given b callee.inputs)
              (sym on ∙ ap (λ c. seen callee given c callee.inputs) same)

          back : is_clock k (seen callee given b callee.inputs) ≡ true →
              (is_clock (seen callee given (up k) callee.inputs) k && fits (up k)) ≡ true
          back t =
              let on : k ≡ seen callee given b callee.inputs = clock_same k _ t in
              let same : up k ≡ b = ap up on ∙ above_outer b given
              (declared_clock (node_of callee) (place_name callee callee.inputs)) in
              and_from _ (fits (up k))
              (clock_equal _ k (ap (λ c. seen callee given c callee.inputs) same ∙ sym on))
              (ap fits same ∙ ok)

      some_stands : (k : Clock) → base_of (input_clocks callee) ss ≡ Some k →
          fits (clock_in here k) ≡ true
          → IsClockSet P here call_of (clock_set_on (expected (Some k) Y result.0.clock))
      some_stands k e ok =
          let b = clock_in here k in
          let r = expects here Y k (base_within ops.own row k e) result.0.clock result_given in
          let clock : clock_in here r.0 ≡ seen callee given b callee.inputs = r.2
          ∙ code_known ops Y (λ i lt. refl) (callee.inputs + 1) few waits b ok
          (variable_at callee.inputs) result.0 (omega arith) result.1 in
          let one = λ (c : tree.Clock) (ok : fits c ≡ true). base_is ops.own row k c e ok in
          let determines : clock_of P (node_of here) call_of ≡ Some (clock_in here r.0) =
          call_clock ∙ ap (option_map (λ c. seen callee given c callee.inputs))
          (base_determined k b e ok) ∙ ap Some (sym clock) in
          subst (λ o. IsClockSet P here call_of (clock_set_on o)) (sym r.1)
          (r.3, determines, λ l n. on_clock l n ∙ only_on b l ok one ∙ ap (is_clock l) (sym clock))

      -- the call stands on each clock, where nothing determines the base clock of the callee
      anywhere : ((b : tree.Clock) → fits b ≡ true) → result.0.clock ≡ None →
          arguments_base ≡ None → IsClockSet P here call_of AnyClock
      anywhere ok free none =
          let lt = slice_get_within callee.variables.items callee.inputs result.0 result.1 in
          let base : tree.Base ≡ declared_clock (node_of callee) (place_name callee callee.inputs) =
          clock_of_free callee ops.called (variable_at callee.inputs) result.0 result.1 lt free in
          let itself = λ (k : tree.Clock). subst
          (λ c. outer (above (depth c) k) given c ≡ k) base refl in (
            call_clock ∙ ap (option_map (λ k. seen callee given k callee.inputs)) none,
            λ k n. on_clock k n ∙ and_from _ (fits (up k)) (clock_equal _ k (itself k))
                (ok (up k)),
          )

      none_stands : base_of (input_clocks callee) ss ≡ None →
          all_fit None Y (input_clocks callee) ss ≡ true
          → IsClockSet P here call_of (clock_set_on (expected None Y result.0.clock))
      none_stands e ok =
          let every = λ (b : tree.Clock). sym (fit_none ops.own row e b) ∙ ok in
          let z = none_determined every in
          let free = result_free z.1 result.0.clock refl in
          subst (λ c. IsClockSet P here call_of (clock_set_on (expected None Y c))) (sym free)
          (anywhere every free z.0)

      by_base : (base : Option Clock) → base_of (input_clocks callee) ss ≡ base → (f : Bool) →
          all_fit base Y (input_clocks callee) ss ≡ f
          → IsClockSet P here call_of (if f then clock_set_on
          (expected base Y result.0.clock) else NoClock)
      by_base (Some k) e true fit = some_stands k e
          (sym (fit_some ops.own row k (base_within ops.own row k e)) ∙ fit)
      by_base (Some k) e false misfit =
          nowhere (λ b ok.
          let fit : all_fit (Some k) Y (input_clocks callee) ss ≡ true =
          fit_some ops.own row k (base_within ops.own row k e)
          ∙ ap fits (sym (base_is ops.own row k b e ok)) ∙ ok in
          absurd cc)
      by_base None e true fit = none_stands e fit
      by_base None e false misfit =
          nowhere (λ b ok.
          let fit : all_fit None Y (input_clocks callee) ss ≡ true =
          fit_none ops.own row e b ∙ ok in
          absurd cc)

    by_given : (g : Bool) → are_given callee (operands_of ctx es) ≡ g
        → IsClockSet P here call_of
        (if g && all_fit (base_of (input_clocks callee) ss) Y
        (input_clocks callee) ss then clock_set_on
        (expected (base_of (input_clocks callee) ss) Y result.0.clock) else NoClock)
    by_given true all = by_base all _ refl _ refl
    by_given false missing = λ k n.
        called k n
        ∙ ap (λ g. (g && is_clock (seen callee given (up k) callee.inputs) k)
        && each_pair (stood here) (inputs_seen ops (up k)) ss) missing

    -- a call with one result stands where the code finds, if its operands do
    pub call_stands : IsClockSet P here
        (text.Call site.callee site.arguments (exprs_of (texts_of here) es))
        (call_clock_set callee (operands_of ctx es))
    call_stands =
        let base = base_of (input_clocks callee) ss in
        let g = are_given callee (operands_of ctx es) in
        let f = all_fit base Y (input_clocks callee) ss in
        subst (λ cs. IsClockSet P here call_of (if g && f then first_result base Y cs else NoClock))
        (sym results) (by_given g refl)

    -- ## The base clock of a call that stands on a clock

    module _ (k : Clock) (n : ℕ)
        (kept : is_clocked_on P here (clock_in here k) n call_of ≡ true) where
      judged : ((are_given callee (operands_of ctx es)
          && is_clock (seen callee given (up (clock_in here k)) callee.inputs) (clock_in here k))
          && each_pair (stood here) (inputs_seen ops (up (clock_in here k))) ss)
          ≡ true
      judged = sym (called (clock_in here k) n) ∙ kept

      pub runs_given : are_given callee (operands_of ctx es) ≡ true
      runs_given =
          and_first (are_given callee (operands_of ctx es)) _ (and_first _ (each_pair (stood here)
          (inputs_seen ops (up (clock_in here k))) ss) judged)

      runs_fit : fits runs_given (up (clock_in here k)) ≡ true
      runs_fit =
          and_second (is_clock (seen callee given (up (clock_in here k)) callee.inputs)
          (clock_in here k)) _ (sym (on_clock runs_given (clock_in here k) n) ∙ kept)

      up_is : (o : Option Clock) → base_of (input_clocks callee) ss ≡ o →
          up (clock_in here k) ≡ clock_in here (either_or o k)
      up_is (Some l) e = base_is ops.own (row runs_given) l (up (clock_in here k)) e runs_fit
      up_is None e =
          let none = λ (b : tree.Clock). fit_none ops.own (row runs_given) e b in
          let every = λ (b : tree.Clock). sym (none b) ∙ none (up (clock_in here k)) ∙ runs_fit in
          let free = result_free runs_given (none_determined runs_given every).1
          result.0.clock refl in
          let lt = slice_get_within callee.variables.items callee.inputs result.0 result.1 in
          let top : tree.Base ≡ declared_clock (node_of callee) (place_name callee callee.inputs) =
          clock_of_free callee ops.called (variable_at callee.inputs) result.0 result.1 lt free in
          subst (λ c. above (depth c) (clock_in here k) ≡ clock_in here k) top refl

      pub runs_base : base_clock (clock_in here k) (node_of callee)
          ≡ clock_in here (either_or (base_of (input_clocks callee) ss) k)
      runs_base = base_up (clock_in here k) ∙ up_is (base_of (input_clocks callee) ss) refl

      pub runs_fitting : fits_on here Y
          (clock_in here (either_or (base_of (input_clocks callee) ss) k)) (input_clocks callee) ss
          ≡ true
      runs_fitting =
          subst (λ b. fits_on here Y b (input_clocks callee) ss ≡ true)
          (up_is (base_of (input_clocks callee) ss) refl) runs_fit
