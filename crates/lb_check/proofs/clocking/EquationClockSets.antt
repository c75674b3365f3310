-- A call that is a whole right side keeps the rules of clocks exactly where the code finds so.
use Rattle.lb_check.proofs.Words
use Words.{Base, Bool, ClockSet, Context, Declaration, Declared, Expr, List, Name, None, OneClock}
use Words.{Option, Program, ResolvedNode, Sampling, Site, Some, Term, VariableId, [], above, all_at}
use Words.{all_fit, and-true, and_first, and_from, and_second, ap, ap₂, are_clocks, are_given}
use Words.{are_on_results, argument_clocks, arith, base_clock, base_from, base_of, clock_in}
use Words.{clock_sets, counts_of, declared_clock, declared_in, depth, either_or, exprs_of, false}
use Words.{given_at, given_inputs, given_name, given_outputs, if◌then◌else◌, inl, input_clocks, inr}
use Words.{is_clock, is_clock_within, is_clocked_on, is_variable, item_at, left_clock_sets}
use Words.{left_clocks, length, length-map, list_all, listed, map, mapped_from, name_in, nat_eq}
use Words.{nat_lt, nat_tests, node_named, node_of, not, operands_of, or_else, outer, output_clocks}
use Words.{own_depth, refl, result_base, result_clocks, slice_get, stands_for, statement_clock}
use Words.{subst, suc, sym, texts_of, true, ℕ, ◌&&◌, ◌++◌, ◌+◌, ◌-◌, ◌<◌, ◌||◌, ◌∙◌, ◌∷◌, ◌≡◌, ◌≤◌}
use Words.{◌⊎◌}
use Rattle.lb_check.proofs.clocking.CallOperands.{KnownOperands, are_given_is, code_known}
use Rattle.lb_check.proofs.clocking.CallOperands.{code_stand, input_waits, inputs_of, inputs_seen}
use Rattle.lb_check.proofs.clocking.CallOperands.{output_waits, own_inputs, same_fits, waited_given}
use Rattle.lb_check.proofs.clocking.ClockTests.{clock_same, clock_turned, declared_is}
use Rattle.lb_check.proofs.clocking.{ClockTests.declared_within, GivenNames.found_before}
use Rattle.lb_check.proofs.clocking.GivenNames.{given_in, given_out, output_at, output_held}
use Rattle.lb_check.proofs.clocking.{GivenNames.variable_held, OuterClocks.{AreGiven, AreOfNode}}
use Rattle.lb_check.proofs.clocking.OuterClocks.{HaveNames, IsGiven, IsWithin, StandFor}
use Rattle.lb_check.proofs.clocking.OuterClocks.{above_outer, base_is, base_within, clock_equal}
use Rattle.lb_check.proofs.clocking.OuterClocks.{clocks_at, clocks_from, clocks_length, expected_on}
use Rattle.lb_check.proofs.clocking.OuterClocks.{first_part, fit_none, fit_some, fits_on, outer_all}
use Rattle.lb_check.proofs.clocking.OuterClocks.{place_name, place_split, second_part, seen, stood}
use Rattle.lb_check.proofs.{clocking.OuterClocks.variable_at, lists.ListPairs.each_pair}
use Rattle.lb_check.proofs.lists.ListPairs.{get_dropped, get_mapped, get_taken, pair_at, pairs_from}
use Rattle.lb_check.{proofs.lists.ListPairs.taken, specs.declared.own_clock.Clock.Clock}
use Rattle.std.proofs.lemmas.List.{nil_from_length}
use Rattle.lb_syntax.specs.Tree as text
use Rattle.lb_check.specs.Clocks as tree
use Rattle.lb_check.proofs.clocking.CallClockSets as one

module _ {P : Program} {here callee : ResolvedNode} {ctx : Context} {es : List Term}
    (ops : KnownOperands P here callee ctx es) (site : Site)
    (named : node_named P site.callee ≡ Some (node_of callee))
    (lefts : List VariableId) (wl : list_all (is_variable (counts_of here)) lefts ≡ true) where
  abbrev args : text.Exprs
  args = exprs_of (texts_of here) es

  abbrev ss : List ClockSet
  ss = clock_sets (operands_of ctx es)

  abbrev ls : List ClockSet
  ls = left_clock_sets ctx lefts

  abbrev xs : List Name
  xs = map (name_in here) lefts

  abbrev Y : ℕ → Option VariableId
  Y = stands_for callee.inputs (operands_of ctx es) lefts

  pub Y_in : (i : ℕ) → i < callee.inputs → Y i ≡ given_at (operands_of ctx es) i
  Y_in i lt = first_part callee.inputs (given_at (operands_of ctx es)) (slice_get lefts) i lt

  Y_out : (j : ℕ) → Y (callee.inputs + j) ≡ slice_get lefts j
  Y_out j = second_part callee.inputs (given_at (operands_of ctx es)) (slice_get lefts) j

  -- the clock set of what stands for variable `i` of the callee
  abbrev S : ℕ → Option ClockSet
  S i = if nat_lt i callee.inputs then slice_get ss i else slice_get ls (i - callee.inputs)

  S_in : (i : ℕ) → i < callee.inputs → S i ≡ slice_get ss i
  S_in i lt = first_part callee.inputs (slice_get ss) (slice_get ls) i lt

  S_out : (j : ℕ) → S (callee.inputs + j) ≡ slice_get ls j
  S_out j = second_part callee.inputs (slice_get ss) (slice_get ls) j

  abbrev inner : tree.Given
  inner = given_inputs (node_of callee).inputs args

  abbrev given : tree.Given
  given = given_inputs (node_of callee).inputs args ++ given_outputs (node_of callee).outputs xs

  -- ## Left variables

  left_within : (j : ℕ) (x : VariableId) → slice_get lefts j ≡ Some x →
      is_variable (counts_of here) x ≡ true
  left_within j x e = all_at (is_variable (counts_of here)) lefts j x wl e

  left_stands : (j : ℕ) (x : VariableId) → slice_get lefts j ≡ Some x →
      slice_get ls j ≡ Some (OneClock (declared_in here x))
  left_stands j x e = get_mapped _ lefts j x e
      ∙ ap (λ f. Some (OneClock (f x))) ops.declares

  left_from : (j : ℕ) (s : ClockSet) → slice_get ls j ≡ Some s →
      (x : VariableId) × (slice_get lefts j ≡ Some x) × (s ≡ OneClock (declared_in here x))
  left_from j s e =
      let x = mapped_from _ lefts j s e in
      (x.0, x.1, sym x.2 ∙ ap (λ f. OneClock (f x.0)) ops.declares)

  lefts_within : (j : ℕ) (s : ClockSet) → slice_get ls j ≡ Some s → IsWithin here s
  lefts_within j s e l only =
      let x = left_from j s e in
      let both : OneClock l ≡ OneClock (declared_in here x.0) = sym only ∙ x.2 in
      let same : l ≡ declared_in here x.0 = cc in
      subst (λ k. is_clock_within here k ≡ true) (sym same)
      (declared_within here ops.own x.0 (left_within j x.0 x.1))

  left_clock_from : (j : ℕ) (k : tree.Clock) → slice_get (left_clocks (node_of here) xs) j ≡ Some k
      → (x : VariableId) × (slice_get lefts j ≡ Some x)
      × (declared_clock (node_of here) (name_in here x) ≡ k)
  left_clock_from j k e =
      let n = mapped_from _ xs j k e in
      let x = mapped_from _ lefts j n.0 n.1 in
      (x.0, x.1, ap (declared_clock (node_of here)) x.2 ∙ n.2)

  -- a left variable may stand on a clock exactly where that is its own
  left_stood : (j : ℕ) (x : VariableId) (k : tree.Clock) → slice_get lefts j ≡ Some x →
      stood here k (OneClock (declared_in here x)) ≡ is_clock k
      (declared_clock (node_of here) (name_in here x))
  left_stood j x k e = ap (is_clock k) (declared_is here ops.own x (left_within j x e))

  -- ## The variables that stand for those of the callee

  all_stand : StandFor here callee Y S (callee.inputs + callee.outputs)
  all_stand i y lt e =
      elim (place_split i callee.inputs callee.outputs lt) [
        | inl less ↦
            let z = own_inputs ops Y Y_in i y less e in
            (S_in i less ∙ z.0, z.1)
        | inr p ↦
            let there : slice_get lefts p.0 ≡ Some y = sym (Y_out p.0) ∙ ap Y (sym p.1) ∙ e in
            (ap S p.1 ∙ S_out p.0 ∙ left_stands p.0 y there, left_within p.0 y there)
      ]

  all_names : HaveNames here callee Y given (callee.inputs + callee.outputs)
  all_names i y lt e =
      elim (place_split i callee.inputs callee.outputs lt) [
        | inl less ↦
            let there = given_in callee ops.called here ctx es i y less (sym (Y_in i less) ∙ e) in
            ap (λ o. either_or o (place_name callee i)) (found_before inner _ _ _ there)
        | inr p ↦
            let there : slice_get lefts p.0 ≡ Some y = sym (Y_out p.0) ∙ ap Y (sym p.1) ∙ e in
            let x = get_mapped _ lefts p.0 y there in
            let here_given = given_out callee ops.called args xs p.0 _ p.2 x in
            let at : given_name given (place_name callee (callee.inputs + p.0)) ≡ name_in here y =
            ap (λ o. either_or o (place_name callee (callee.inputs + p.0))) here_given in
            ap (λ i. given_name given (place_name callee i)) p.1 ∙ at
      ]

  -- the declared clock of output `j` is that of the variable at its place
  out_clock : (j : ℕ) (c : Option Sampling) → slice_get (output_clocks callee) j ≡ Some c
      → (v : Declared) × (slice_get callee.variables.items (callee.inputs + j) ≡ Some v)
      × (v.clock ≡ c) × (j < callee.outputs)
  out_clock j c e =
      let v = mapped_from _ _ j c e in
      let t = get_taken callee.outputs _ j v.0 v.1 in
      (v.0, sym (get_dropped callee.inputs callee.variables.items j) ∙ t.0, v.2, t.1)

  module _ (all : are_given callee (operands_of ctx es) ≡ true)
      (many : length lefts ≡ callee.outputs) where
    what_waits : (i : ℕ) (v : Declared) (s : Sampling) → i < callee.inputs + callee.outputs →
        slice_get callee.variables.items i ≡ Some v → v.clock ≡ Some s
        → s.variable.0 < callee.inputs + callee.outputs
    what_waits i v s lt at is =
        elim (place_split i callee.inputs callee.outputs lt) [
          | inl less ↦ let small = input_waits callee ops.called i v s less at is in omega arith
          | inr p ↦ output_waits callee ops.called p.0 v s p.2
              (ap (slice_get callee.variables.items) (sym p.1) ∙ at) is
        ]

    -- each variable that is waited for is given a variable of the caller
    waits : AreGiven callee Y (callee.inputs + callee.outputs) (callee.inputs + callee.outputs)
    waits i v s lt at is =
        let below = what_waits i v s lt at is in (
          below,
          elim (place_split s.variable.0 callee.inputs callee.outputs below) [
            | inl less ↦
                let y = waited_given ops all i v s lt at is less in
                (y.0, Y_in s.variable.0 less ∙ y.1)
            | inr p ↦
                let small = p.2 in
                let y = item_at lefts p.0 (omega (arith, many)) in
                (y.0, ap Y p.1 ∙ Y_out p.0 ∙ y.1)
          ],
        )

    waits_in : AreGiven callee Y callee.inputs callee.inputs
    waits_in i v s lt at is =
        let less = input_waits callee ops.called i v s lt at is in
        let y = waited_given ops all i v s (omega arith) at is less in
        (less, (y.0, Y_in s.variable.0 less ∙ y.1))

    abbrev fits_in : tree.Clock → Bool
    fits_in b = fits_on here Y b (input_clocks callee) ss

    abbrev fits_out : tree.Clock → Bool
    fits_out b = fits_on here Y b (output_clocks callee) ls

    abbrev outer_in : tree.Clock → Bool
    outer_in b = each_pair (stood here) (inputs_seen ops b) ss

    -- the clocks of the results, where the callee runs on clock `b`
    abbrev outputs_seen : tree.Clock → List tree.Clock
    outputs_seen b = map (λ (d : Declaration). outer b given
        (declared_clock (node_of callee) d.name)) (node_of callee).outputs

    abbrev outer_out : tree.Clock → Bool
    outer_out b = are_clocks (left_clocks (node_of here) xs) (outputs_seen b)

    few : callee.inputs ≤ callee.inputs
    few = omega arith

    in_same : (b : tree.Clock) → outer_in b ≡ fits_in b
    in_same b = same_fits ops Y Y_in callee.inputs few waits_in b

    row_in : AreOfNode here Y (input_clocks callee) ss
    row_in = inputs_of ops Y Y_in callee.inputs few waits_in

    params_out : (j : ℕ) (c : Option Sampling) → slice_get (output_clocks callee) j ≡ Some c →
        IsGiven here Y c
    params_out j c e s is =
        let v = out_clock j c e in
        let less = v.3 in
        let z = waits (callee.inputs + j) v.0 s (omega arith) v.1 (v.2 ∙ is) in
        (z.1.0, z.1.1, (all_stand s.variable.0 z.1.0 z.0 z.1.1).1)

    row_out : AreOfNode here Y (output_clocks callee) ls
    row_out = record { given = params_out; within = lefts_within }

    -- ## The clocks of the results

    inputs_stand : (b : tree.Clock) → fits_in b ≡ true → (i : ℕ) (v : Declared) (s : ClockSet) →
        i < callee.inputs → slice_get callee.variables.items i ≡ Some v
        → S i ≡ Some s → stood here (expected_on here Y b v.clock) s ≡ true
    inputs_stand b ok i v s lt at e =
        code_stand ops Y Y_in callee.inputs few waits_in b ok i v s lt at (sym (S_in i lt) ∙ e)

    known : (b : tree.Clock) → fits_in b ≡ true
        → ((j : ℕ) (v : Declared) (x : VariableId) → j < callee.outputs →
        slice_get callee.variables.items (callee.inputs + j) ≡ Some v →
        slice_get lefts j ≡ Some x
        → (stood here (seen callee given b (callee.inputs + j)) (OneClock (declared_in here x))
        ≡ true)
        ⊎ (stood here (expected_on here Y b v.clock) (OneClock (declared_in here x)) ≡ true))
        → (x : VariableId) (v : Declared) → x.0 < callee.inputs + callee.outputs →
        slice_get callee.variables.items x.0 ≡ Some v
        → expected_on here Y b v.clock ≡ seen callee given b x.0
    known b ok out =
        outer_all here callee ops.own ops.called Y S _ _ (omega arith) waits all_stand given
        all_names b (λ i v s lt at e. elim (place_split i callee.inputs callee.outputs lt) [
          | inl less ↦ inr (inputs_stand b ok i v s less at e)
          | inr p ↦
              let x = left_from p.0 s (sym (S_out p.0) ∙ ap S (sym p.1) ∙ e) in
              let there = out p.0 v x.0 p.2
              (ap (slice_get callee.variables.items) (sym p.1) ∙ at) x.1 in
              rw (p.1, x.2) there
        ])

    -- each left variable is on the clock of its result, where all are
    result_at : (b : tree.Clock) → outer_out b ≡ true → (j : ℕ) (x : VariableId) →
        j < callee.outputs → slice_get lefts j ≡ Some x
        → is_clock (declared_clock (node_of here) (name_in here x))
        (seen callee given b (callee.inputs + j)) ≡ true
    result_at b ok j x lt e =
        let d = output_held callee ops.called j lt in
        let f = λ (d : Declaration). outer b given (declared_clock (node_of callee) d.name) in
        let there = get_mapped f _ j d.0 d.1 in
        let k = declared_clock (node_of here) (name_in here x) in
        let left = get_mapped _ xs j _ (get_mapped _ lefts j x e) in
        let same = clocks_at _ _ j k (f d.0) ok left there in
        subst (λ n. is_clock k (outer b given (declared_clock (node_of callee) n)) ≡ true)
        (output_at callee ops.called j d.0 d.1).0 same

    known_outer : (b : tree.Clock) → fits_in b ≡ true → outer_out b ≡ true →
        (x : VariableId) (v : Declared) → x.0 < callee.inputs + callee.outputs
        → slice_get callee.variables.items x.0 ≡ Some v →
        expected_on here Y b v.clock ≡ seen callee given b x.0
    known_outer b ok out =
        known b ok (λ j v x lt at e.
        let z = seen callee given b (callee.inputs + j) in
        inl (left_stood j x z e ∙ clock_turned z (declared_clock (node_of here) (name_in here x))
        ∙ result_at b out j x lt e))

    left_fits : (b : tree.Clock) → fits_out b ≡ true → (j : ℕ) (v : Declared) (x : VariableId) →
        j < callee.outputs → slice_get callee.variables.items (callee.inputs + j) ≡ Some v
        → slice_get lefts j ≡ Some x →
        stood here (expected_on here Y b v.clock) (OneClock (declared_in here x)) ≡ true
    left_fits b ok j v x lt at e =
        let there = get_dropped callee.inputs callee.variables.items j ∙ at in
        let clock = get_mapped _ _ j v (taken callee.outputs _ j v there lt) in
        pair_at _ _ ls j v.clock _ ok clock (left_stands j x e)

    known_code : (b : tree.Clock) → fits_in b ≡ true → fits_out b ≡ true →
        (x : VariableId) (v : Declared) → x.0 < callee.inputs + callee.outputs
        → slice_get callee.variables.items x.0 ≡ Some v →
        expected_on here Y b v.clock ≡ seen callee given b x.0
    known_code b ok out = known b ok (λ j v x lt at e. inr (left_fits b out j v x lt at e))

    to_out : (b : tree.Clock) → fits_in b ≡ true → outer_out b ≡ true → fits_out b ≡ true
    to_out b ok out =
        pairs_from (λ c s. stood here (expected_on here Y b c) s) (output_clocks callee) ls
        (λ j c s p q.
        let v = out_clock j c p in
        let x = left_from j s q in
        let less = v.3 in
        let z = seen callee given b (callee.inputs + j) in
        let at : expected_on here Y b v.0.clock ≡ z =
        known_outer b ok out (variable_at (callee.inputs + j)) v.0 (omega arith) v.1 in
        ap (stood here (expected_on here Y b c)) x.2
        ∙ ap (λ k. stood here k (OneClock (declared_in here x.0)))
        (ap (expected_on here Y b) (sym v.2) ∙ at)
        ∙ left_stood j x.0 z x.1 ∙ clock_turned z (declared_clock (node_of here) (name_in here x.0))
        ∙ result_at b out j x.0 less x.1)

    from_out : (b : tree.Clock) → fits_in b ≡ true → fits_out b ≡ true → outer_out b ≡ true
    from_out b ok out =
        let count : length (left_clocks (node_of here) xs) ≡ length (outputs_seen b) =
        simp length-map (many ∙ ops.called.resolved.outputs) in
        clocks_from (left_clocks (node_of here) xs) (outputs_seen b) count (λ j k l p q.
        let x = left_clock_from j k p in
        let d = mapped_from (λ (d : Declaration). outer b given
        (declared_clock (node_of callee) d.name)) (node_of callee).outputs j l q in
        let place = output_at callee ops.called j d.0 d.1 in
        let less = place.1 in
        let v = variable_held callee ops.called (callee.inputs + j) (omega arith) in
        let own = declared_clock (node_of here) (name_in here x.0) in
        let z = seen callee given b (callee.inputs + j) in
        let at : expected_on here Y b v.0.clock ≡ z =
        known_code b ok out (variable_at (callee.inputs + j)) v.0 (omega arith) v.1 in
        let same : l ≡ z = sym d.2 ∙ ap
        (λ n. outer b given (declared_clock (node_of callee) n)) place.0 in
        ap (λ c. is_clock c l) (sym x.2) ∙ ap (is_clock own) (same ∙ sym at)
        ∙ clock_turned own (expected_on here Y b v.0.clock)
        ∙ sym (left_stood j x.0 (expected_on here Y b v.0.clock) x.1)
        ∙ left_fits b out j v.0 x.0 less v.1 x.1)

    -- ## The base clock of the callee

    abbrev code_in : Option Clock → Bool
    code_in base = all_fit base Y (input_clocks callee) ss

    abbrev code_out : Option Clock → Bool
    code_out base = all_fit base Y (output_clocks callee) ls

    in_code : (k : Clock) → is_clock_within here k ≡ true →
        code_in (Some k) ≡ fits_in (clock_in here k)
    in_code = fit_some ops.own row_in

    out_code : (k : Clock) → is_clock_within here k ≡ true →
        code_out (Some k) ≡ fits_out (clock_in here k)
    out_code = fit_some ops.own row_out

    on_base : (k : Clock) (b : tree.Clock) → is_clock_within here k ≡ true → b ≡ clock_in here k →
        fits_in b ≡ true → fits_out b ≡ true
        → (code_in (Some k) ≡ true) × (code_out (Some k) ≡ true)
    on_base k b w same ok out = (
      in_code k w ∙ ap fits_in (sym same) ∙ ok,
      out_code k w
          ∙ ap fits_out (sym same) ∙ out,
    )

    to_base : (o p : Option Clock) → base_of (output_clocks callee) ls ≡ o →
        base_of (input_clocks callee) ss ≡ p
        → (b : tree.Clock) → fits_in b ≡ true → fits_out b ≡ true →
        (code_in (or_else o p) ≡ true) × (code_out (or_else o p) ≡ true)
    to_base (Some k) p eo ep b ok out =
        on_base k b (base_within ops.own row_out k eo) (base_is ops.own row_out k b eo out) ok out
    to_base None (Some k) eo ep b ok out =
        on_base k b (base_within ops.own row_in k ep) (base_is ops.own row_in k b ep ok) ok out
    to_base None None eo ep b ok out = (
      fit_none ops.own row_in ep b ∙ ok,
      fit_none ops.own row_out eo b ∙ out,
    )

    abbrev FitsSome : Type 0
    FitsSome = (b : tree.Clock) × (fits_in b ≡ true) × (fits_out b ≡ true)

    off_base : (k : Clock) → is_clock_within here k ≡ true → code_in (Some k) ≡ true →
        code_out (Some k) ≡ true → FitsSome
    off_base k w ok out = (clock_in here k, sym (in_code k w) ∙ ok, sym (out_code k w) ∙ out)

    from_base : (o p : Option Clock) → base_of (output_clocks callee) ls ≡ o →
        base_of (input_clocks callee) ss ≡ p
        → code_in (or_else o p) ≡ true → code_out (or_else o p) ≡ true → FitsSome
    from_base (Some k) p eo ep ok out = off_base k (base_within ops.own row_out k eo) ok out
    from_base None (Some k) eo ep ok out = off_base k (base_within ops.own row_in k ep) ok out
    from_base None None eo ep ok out = (
      tree.Base,
      sym (fit_none ops.own row_in ep tree.Base) ∙ ok,
      sym (fit_none ops.own row_out eo tree.Base) ∙ out,
    )

    -- ## The clock of the equation

    abbrev call : Expr
    call = text.Call site.callee site.arguments (exprs_of (texts_of here) es)

    abbrev clock_on : List VariableId → tree.Clock
    clock_on l = statement_clock P (node_of here) (text.Equation (map (name_in here) l) call)

    -- the base clock of the callee, from the clock of the equation
    abbrev from_left : tree.Clock
    from_left = base_clock (clock_on lefts) (node_of callee)

    abbrev base : Option Clock
    base = result_base ctx callee (operands_of ctx es) lefts

    no_left : lefts ≡ [] → from_left ≡ tree.Base
    no_left none =
        let count : length (node_of callee).outputs ≡ 0 =
        sym (ap length (sym none) ∙ many ∙ ops.called.resolved.outputs) in
        ap (λ l. base_clock (clock_on l) (node_of callee)) none
        ∙ ap (base_from tree.Base (node_of callee)) (nil_from_length (node_of callee).outputs count)

    base_first : (k : tree.Clock) (ds : List Declaration) (d : Declaration) →
        slice_get ds 0 ≡ Some d → base_from k (node_of callee) ds ≡ above
        (own_depth (node_of callee) d) k
    base_first k [] d e = absurd cc
    base_first k (c ∷ ds) d e = let same : c ≡ d = cc in
        ap (λ z. above (own_depth (node_of callee) z) k) same

    -- the clock of the equation is that of the first result
    left_seen : (x : VariableId) (l : List VariableId) → lefts ≡ x ∷ l → (b : tree.Clock) →
        fits_in b ≡ true → fits_out b ≡ true
        → (clock_on lefts ≡ seen callee given b (callee.inputs + 0)) × (0 < callee.outputs)
    left_seen x l is b ok out =
        let count : suc (length l) ≡ callee.outputs = ap length (sym is) ∙ many in
        let some : 0 < callee.outputs = omega (arith, count) in
        let first : slice_get lefts 0 ≡ Some x = ap (λ l. slice_get l 0) is in
        let on = result_at b (from_out b ok out) 0 x some first in (
          ap clock_on is ∙ clock_same (declared_clock (node_of here) (name_in here x))
              (seen callee given b (callee.inputs + 0)) on,
          some,
        )

    left_base : (x : VariableId) (l : List VariableId) → lefts ≡ x ∷ l → (b : tree.Clock) →
        fits_in b ≡ true → fits_out b ≡ true → from_left ≡ b
    left_base x l is b ok out =
        let z = left_seen x l is b ok out in
        let d = output_held callee ops.called 0 z.1 in
        let place = output_at callee ops.called 0 d.0 d.1 in
        base_first (clock_on lefts) (node_of callee).outputs d.0 d.1
        ∙ ap (λ n. above (depth (declared_clock (node_of callee) n)) (clock_on lefts)) place.0
        ∙ ap
        (above
        (depth (declared_clock (node_of callee) (place_name callee (callee.inputs + 0))))) z.0
        ∙ above_outer b given (declared_clock (node_of callee)
        (place_name callee (callee.inputs + 0)))

    base_is_first : (x : VariableId) (l : List VariableId) → lefts ≡ x ∷ l →
        base ≡ or_else (base_of (output_clocks callee) ls) (base_of (input_clocks callee) ss)
    base_is_first x l is =
        ap (result_base ctx callee (operands_of ctx es)) is
        ∙ ap (λ l. or_else (base_of (output_clocks callee) (left_clock_sets ctx l))
        (base_of (input_clocks callee) ss)) (sym is)

    to_code : (l : List VariableId) → lefts ≡ l → fits_in from_left ≡ true →
        fits_out from_left ≡ true → (code_in base ≡ true) × (code_out base ≡ true)
    to_code [] is ok out =
        let some : base ≡ Some Base = ap (result_base ctx callee (operands_of ctx es)) is in
        let z = on_base Base from_left refl (no_left is) ok out in
        (ap code_in some ∙ z.0, ap code_out some ∙ z.1)
    to_code (x ∷ l) is ok out =
        let z = to_base _ _ refl refl from_left ok out in
        (ap code_in (base_is_first x l is) ∙ z.0, ap code_out (base_is_first x l is) ∙ z.1)

    from_code : (l : List VariableId) → lefts ≡ l → code_in base ≡ true → code_out base ≡ true →
        (fits_in from_left ≡ true) × (fits_out from_left ≡ true)
    from_code [] is ok out =
        let some : base ≡ Some Base = ap (result_base ctx callee (operands_of ctx es)) is in (
          ap fits_in (no_left is) ∙ sym (in_code Base refl) ∙ ap code_in (sym some) ∙ ok,
          ap fits_out (no_left is) ∙ sym (out_code Base refl) ∙ ap code_out (sym some) ∙ out,
        )
    from_code (x ∷ l) is ok out =
        let first = base_is_first x l is in
        let z = from_base _ _ refl refl (ap code_in (sym first) ∙ ok)
        (ap code_out (sym first) ∙ out) in
        let same = left_base x l is z.0 z.1 z.2 in
        (ap fits_in same ∙ z.1, ap fits_out same ∙ z.2)

    -- ## A callee with one output

    module _ (single : callee.outputs ≡ 1) where
      waits_one : AreGiven callee Y callee.inputs (callee.inputs + 1)
      waits_one i v s lt at is =
          let z = one.waits ops site named single all i v s lt at is in
          (z.0, (z.1.0, Y_in s.variable.0 z.0 ∙ z.1.1))

      -- the clock of its result is the same without the variables given for outputs
      same_result : (b : tree.Clock) → fits_in b ≡ true → fits_out b ≡ true →
          seen callee given b (callee.inputs + 0) ≡ seen callee inner b callee.inputs
      same_result b ok out =
          let o = variable_held callee ops.called callee.inputs (omega (arith, single)) in
          let place : callee.inputs + 0 ≡ callee.inputs = omega arith in
          let less : callee.inputs < callee.inputs + 1 = omega arith in
          let within : callee.inputs < callee.inputs + callee.outputs = omega (arith, single) in
          ap (seen callee given b) place
          ∙ sym (known_code b ok out (variable_at callee.inputs) o.0 within o.1)
          ∙ code_known ops Y Y_in (callee.inputs + 1)
          (omega arith) waits_one b ok (variable_at callee.inputs) o.0 less o.1

      result_on : (l : List VariableId) → lefts ≡ l → fits_in from_left ≡ true →
          fits_out from_left ≡ true
          → are_clocks (result_clocks (clock_on lefts) (node_of callee) args [])
          (clock_on lefts ∷ []) ≡ true
      result_on [] is ok out = let none : 0 ≡ callee.outputs = ap length (sym is) ∙ many in
          absurd (omega (arith, none, single))
      result_on (x ∷ l) is ok out =
          let k = clock_on lefts in
          let on : k ≡ seen callee inner from_left callee.inputs =
          (left_seen x l is from_left ok out).0 ∙ same_result from_left ok out in
          ap (λ ks. are_clocks ks (k ∷ [])) (one.results_seen ops site named single k)
          ∙ ap (λ c. is_clock (seen callee inner c callee.inputs) k && true)
          (sym (one.base_up ops site named single k))
          ∙ and-true (is_clock (seen callee inner from_left callee.inputs) k)
          ∙ clock_equal (seen callee inner from_left callee.inputs) k (sym on)

    -- the rule for calls with one result holds, where the operands and the results fit
    one_kept : fits_in from_left ≡ true → fits_out from_left ≡ true
        → (not (nat_eq (length (node_of callee).outputs) 1)
        || are_clocks (result_clocks (clock_on lefts) (node_of callee) args [])
        (clock_on lefts ∷ [])) ≡ true
    one_kept ok out = by (nat_eq (length (node_of callee).outputs) 1) refl
      where
        by : (b : Bool) → nat_eq (length (node_of callee).outputs) 1 ≡ b →
            (not b || are_clocks (result_clocks (clock_on lefts) (node_of callee) args [])
            (clock_on lefts ∷ [])) ≡ true
        by false e = refl
        by true e =
            let count : length (node_of callee).outputs ≡ 1 = grind (arith, nat_tests) in
            result_on (ops.called.resolved.outputs ∙ count) lefts refl ok out

  -- ## The equation

  abbrev whole : Expr
  whole = text.Call site.callee site.arguments (exprs_of (texts_of here) es)

  abbrev k : tree.Clock
  k = statement_clock P (node_of here)
      (text.Equation (map (name_in here) lefts)
      (text.Call site.callee site.arguments (exprs_of (texts_of here) es)))

  abbrev g : Bool
  g = are_given callee (operands_of ctx es)

  -- the rule for calls with one result
  abbrev kept_one : Bool
  kept_one = not (nat_eq (length (node_of callee).outputs) 1)
      || are_clocks (result_clocks k (node_of callee) args []) (k ∷ [])

  abbrev kept_in : Bool
  kept_in = each_pair (stood here) (argument_clocks k (node_of callee) args) ss

  abbrev kept_out : Bool
  kept_out = are_clocks (left_clocks (node_of here) xs) (result_clocks k (node_of callee) args xs)

  abbrev fit_in : Bool
  fit_in = all_fit (result_base ctx callee (operands_of ctx es) lefts) Y (input_clocks callee) ss

  abbrev fit_out : Bool
  fit_out = all_fit (result_base ctx callee (operands_of ctx es) lefts) Y (output_clocks callee) ls

  pub rules : (m : ℕ) →
      (is_clocked_on P here k m whole && are_on_results P (node_of here) k xs whole) ≡
      (((g && kept_one) && kept_in) && kept_out)
  rules m =
      let results = λ (o : Option text.Node). list_all
      (λ n. are_clocks (left_clocks (node_of here) xs) (result_clocks k n args xs))
      (listed (λ n. n ∷ []) o) in
      ap₂ (λ b c. b && c)
      (one.clocked_call ops site named k m
      ∙ ap (λ b. (b && kept_one) && kept_in) (are_given_is ops))
      (ap results named ∙ and-true kept_out)

  as_many : kept_out ≡ true → length lefts ≡ callee.outputs
  as_many out =
      let f = declared_clock (node_of here) in
      let c = λ (d : Declaration). outer (base_clock k (node_of callee)) given
      (declared_clock (node_of callee) d.name) in
      sym (length-map lefts (name_in here)) ∙ sym (length-map xs f)
      ∙ clocks_length _ _ out
      ∙ length-map (node_of callee).outputs c ∙ sym ops.called.resolved.outputs

  pub code_kept : (((g && kept_one) && kept_in) && kept_out) ≡ true →
      (nat_eq (length lefts) callee.outputs && (g && (fit_in && fit_out))) ≡ true
  code_kept t =
      let out = and_second ((g && kept_one) && kept_in) kept_out t in
      let front = and_first ((g && kept_one) && kept_in) kept_out t in
      let all = and_first g kept_one (and_first (g && kept_one) kept_in front) in
      let many = as_many out in
      let inside = sym (in_same all many (from_left all many))
      ∙ and_second (g && kept_one) kept_in front in
      let outside = to_out all many (from_left all many) inside out in
      let z = to_code all many lefts refl inside outside in
      let count : nat_eq (length lefts) callee.outputs ≡ true = grind (arith, nat_tests) in
      and_from _ _ count (and_from g _ all (and_from fit_in fit_out z.0 z.1))

  pub text_kept : (nat_eq (length lefts) callee.outputs && (g && (fit_in && fit_out))) ≡ true →
      (((g && kept_one) && kept_in) && kept_out) ≡ true
  text_kept t =
      let count = and_first (nat_eq (length lefts) callee.outputs) _ t in
      let many : length lefts ≡ callee.outputs = grind (arith, nat_tests) in
      let rest = and_second (nat_eq (length lefts) callee.outputs) _ t in
      let all = and_first g _ rest in
      let fit = and_second g _ rest in
      let z = from_code all many lefts refl (and_first fit_in fit_out fit)
      (and_second fit_in fit_out fit) in
      let out = from_out all many (from_left all many) z.0 z.1 in
      and_from _ kept_out
      (and_from (g && kept_one) kept_in (and_from g kept_one all (one_kept all many z.0 z.1))
      (in_same all many (from_left all many) ∙ z.0))
      out

  -- ## The base clock of a call that is a whole right side

  module _ (m : ℕ) (whole_kept : is_clocked_on P here k m whole ≡ true)
      (on_results : are_on_results P (node_of here) k xs whole ≡ true) where
    judged : (((g && kept_one) && kept_in) && kept_out) ≡ true
    judged = sym (rules m) ∙ and_from (is_clocked_on P here k m whole) _ whole_kept on_results

    front : ((g && kept_one) && kept_in) ≡ true
    front = and_first ((g && kept_one) && kept_in) kept_out judged

    pub side_given : are_given callee (operands_of ctx es) ≡ true
    side_given = and_first g kept_one (and_first (g && kept_one) kept_in front)

    many : length lefts ≡ callee.outputs
    many = as_many (and_second ((g && kept_one) && kept_in) kept_out judged)

    inside : fits_in side_given many (from_left side_given many) ≡ true
    inside =
        sym (in_same side_given many (from_left side_given many))
        ∙ and_second (g && kept_one) kept_in front

    outside : fits_out side_given many (from_left side_given many) ≡ true
    outside =
        to_out side_given many (from_left side_given many) inside
        (and_second ((g && kept_one) && kept_in) kept_out judged)

    -- the operands fit on each base clock, where nothing determines one
    any_in : base_of (input_clocks callee) ss ≡ None → (b : tree.Clock) →
        fits_in side_given many b ≡ true
    any_in e b =
        let none = λ (c : tree.Clock). fit_none ops.own (row_in side_given many) e c in
        sym (none b) ∙ none (from_left side_given many) ∙ inside

    -- the base clock that some left variable or operand determines is that of the equation
    found_base : (x : VariableId) (l : List VariableId) → lefts ≡ x ∷ l → (o p : Option Clock) →
        base_of (output_clocks callee) ls ≡ o → base_of (input_clocks callee) ss ≡ p →
        from_left side_given many ≡ clock_in here (either_or (or_else o p) Base)
    found_base x l is (Some b) p eo ep =
        base_is ops.own (row_out side_given many) b (from_left side_given many) eo outside
    found_base x l is None (Some b) eo ep =
        base_is ops.own (row_in side_given many) b (from_left side_given many) ep inside
    found_base x l is None None eo ep =
        let at = λ (b : tree.Clock). left_base side_given many x l is b (any_in ep b)
        (let none = λ (c : tree.Clock). fit_none ops.own (row_out side_given many) eo c in sym
        (none b) ∙ none (from_left side_given many) ∙ outside)
        in
        let two : tree.Base ≡ tree.On tree.Base [] true =
        sym (at tree.Base) ∙ at (tree.On tree.Base [] true) in
        absurd cc

    by_lefts : (l : List VariableId) → lefts ≡ l → from_left side_given many
        ≡ clock_in here (either_or (result_base ctx callee (operands_of ctx es) lefts) Base)
    by_lefts [] is =
        let some : result_base ctx callee (operands_of ctx es) lefts ≡ Some Base =
        ap (result_base ctx callee (operands_of ctx es)) is in
        no_left side_given many is ∙ sym (ap (λ o. clock_in here (either_or o Base)) some)
    by_lefts (x ∷ l) is =
        found_base x l is _ _ refl refl
        ∙ sym (ap (λ o. clock_in here (either_or o Base)) (base_is_first side_given many x l is))

    pub side_base : base_clock k (node_of callee)
        ≡ clock_in here (either_or (result_base ctx callee (operands_of ctx es) lefts) Base)
    side_base = by_lefts lefts refl

    pub side_fitting : fits_on here Y
        (clock_in here (either_or (result_base ctx callee (operands_of ctx es) lefts) Base))
        (input_clocks callee) ss ≡ true
    side_fitting =
        subst (λ b. fits_on here Y b (input_clocks callee) ss ≡ true) (by_lefts lefts refl) inside
