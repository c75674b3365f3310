-- The variables that the code finds to stand for those of a callee.
use Rattle.lb_check.proofs.Words
use Words.{Bool, Context, Declaration, Declared, Given, GivenVariable, HasClocks, List, Name, None}
use Words.{Option, ResolvedNode, Sampling, Some, Term, Variable, VariableId, [], and_first}
use Words.{and_second, ap, append_assoc, ap₂, are_given, arith, as_variable, bytes_eq, cond}
use Words.{declaration_of, drop, drop_more, either_or, expr_of, exprs_of, false, filter, get_or}
use Words.{given_at, given_from, given_inputs, given_outputs, given_parameters, given_variable}
use Words.{given_variables, holds, if◌then◌else◌, is_awaited, is_clock_parameter, is_given, is_some}
use Words.{item_at, length, length-take-le, list_all, list_any, listed, lt-ltb, map, map-append}
use Words.{name_at, name_in, nat_eq, nat_lt, nat_tests, node_of, not, operands_of, option_map}
use Words.{pair_at, pair_names, refl, set, slice_get, slice_get_within, stands_for, statics_of}
use Words.{subst, suc, sym, take, texts_of, true, variable_names, variable_of, waits_below, zero}
use Words.{zip2, ℕ, ◌++◌, ◌+◌, ◌-◌, ◌<◌, ◌==◌, ◌||◌, ◌∙◌, ◌∷◌, ◌≡◌, ◌≢◌, ◌≤◌}
use Rattle.lb_check.proofs.clocking.ClockDepths.{as_many_names, parameters_are}
use Rattle.lb_check.proofs.clocking.GivenNames.{all_variables, input_at, output_at, variable_as}
use Rattle.lb_check.proofs.clocking.{GivenNames.variable_held, OuterClocks.{first_part, place_name}}
use Rattle.lb_check.proofs.{clocking.OuterClocks.second_part, lists.Members.distinct_at}
use Rattle.{lb_check.specs.PlacedClocks.waits_at, std.proofs.Math.Bool.{or_assoc, or_comm}}
use Rattle.std.proofs.lemmas.List.{get_or-set_other, get_or-set_same, Elements.filter-append}

-- Flags of awaited variables, and the pairs that a loop over places finds, from a place on.

-- ## Flags

-- the flag at place `p` is set, and all others stay
pub flag_more : (flags : List Bool) (p i : ℕ) → p < length flags →
    get_or (set flags p true) i false ≡ (nat_eq p i || get_or flags i false)
flag_more flags p i lt = by (nat_eq p i) refl
  where
    by : (b : Bool) → nat_eq p i ≡ b →
        get_or (set flags p true) i false ≡ (b || get_or flags i false)
    by true e =
        let same : p ≡ i = grind (arith, nat_tests) in
        subst (λ k. get_or (set flags p true) k false ≡ true) same
        (get_or-set_same flags p true false lt)
    by false e =
        let other : i ≢ p = grind (arith, nat_tests) in
        get_or-set_other flags p i true false other

-- no flag is set at a place past the flags
pub flag_past : (flags : List Bool) (p i : ℕ) → length flags ≤ p → i < length flags →
    get_or flags i false ≡ (nat_eq p i || get_or flags i false)
flag_past flags p i le lt =
    let e : nat_eq p i ≡ false = grind (arith, nat_tests) in
    sym (ap (λ b. b || get_or flags i false) e)

-- whether one of some variables waits for the variable at place `i`
abbrev pub is_waited : ℕ → List Variable → Bool
is_waited i vs = list_any (λ (v : Variable). waits_at i v.clock) vs

-- one more variable is looked at
pub waited_more : (vs : List Variable) (j i : ℕ) (d : Variable) (old now : List Bool) (new : Bool) →
    j < length vs → new ≡ (waits_at i (get_or vs j d).clock || get_or now i false) → now ≡ old →
    (is_waited i (drop j vs) || get_or old i false) ≡ (is_waited i (drop (j + 1) vs) || new)
waited_more vs j i d old now new lt e same =
    let one = waits_at i (get_or vs j d).clock in
    let rest = is_waited i (drop (j + 1) vs) in
    let flag = get_or old i false in
    ap (λ l. is_waited i l || flag) (drop_more vs j d lt)
    ∙ ap (λ b. b || flag) (or_comm one rest) ∙ or_assoc rest one flag
    ∙ ap (λ b. rest || b) (sym (e ∙ ap (λ fs. one || get_or fs i false) same))

-- ## Pairs

module _ (n : ResolvedNode) (given : ℕ → Option VariableId) (count i : ℕ)
    (done : List GivenVariable)
    (known : given_from n given 0 count ≡ done ++ given_from n given i (count - i)) where
  -- the pair of one more place is found
  pub given_more :
      (more : List GivenVariable) (pair : Option GivenVariable) → i < count →
      pair ≡ given_variable n given i → more ≡ done ++ listed (λ g. g ∷ []) pair →
      given_from n given 0 count ≡ more ++ given_from n given (i + 1) (count - (i + 1))
  given_more more pair lt is e =
      let rest : count - i ≡ suc (count - (i + 1)) = omega arith in
      let next : suc i ≡ i + 1 = omega arith in
      let one = listed (λ g. g ∷ []) pair in
      known ∙ ap (λ m. done ++ given_from n given i m) rest
      ∙ ap (λ o. done ++ (listed (λ g. g ∷ []) o ++ given_from n given (suc i) (count - (i + 1))))
      (sym is)
      ∙ ap (λ j. done ++ (one ++ given_from n given j (count - (i + 1)))) next
      ∙ sym (append_assoc done one (given_from n given (i + 1) (count - (i + 1))))
      ∙ ap (λ l. l ++ given_from n given (i + 1) (count - (i + 1))) (sym e)

-- The variables that the code finds to stand for clock parameters of a callee are those that the
-- text gives.

-- ## Lists

abbrev no_pair : Option GivenVariable
no_pair = None

abbrev one_pair : Name → Name → Given
one_pair y x = (x, y) ∷ []

abbrev pair_where : Name → Name → Bool → Given
pair_where x y b = cond b (one_pair y x) []

abbrev listed_pair : Name → Option Name → Given
listed_pair x o = listed (λ y. one_pair y x) o

-- an item passes both tests, where one passes `f` and all pass `g`
both_pass : {A : Type 0} (f g : A → Bool) (xs : List A) → list_any f xs ≡ true →
    list_all g xs ≡ true → (x : A) × (f x ≡ true) × (g x ≡ true)
both_pass f g [] some all = absurd cc
both_pass {A = A} f g (x ∷ xs) some all = by (f x) refl (both_pass f g xs)
  where
    by : (b : Bool) → f x ≡ b →
        (list_any f xs ≡ true → list_all g xs ≡ true → (x : A) × (f x ≡ true) × (g x ≡ true)) →
        (x : A) × (f x ≡ true) × (g x ≡ true)
    by true is further = (x, is, and_first (g x) (list_all g xs) all)
    by false is further =
        further (sym (ap (λ b. b || list_any f xs) is) ∙ some) (and_second _ _ all)

-- ## Clock parameters

module _ (callee : ResolvedNode) (hc : HasClocks callee) where
  abbrev names : List Name
  names = variable_names (node_of callee)

  abbrev declared_as : Name → Declared → Declaration
  declared_as x v = declaration_of (variable_names (node_of callee)) (statics_of callee) x v

  -- two names are the same exactly where their places are
  same_place : (y : VariableId) (i : ℕ) (x : Name) →
      y.0 < length (variable_names (node_of callee)) →
      slice_get (variable_names (node_of callee)) i ≡ Some x →
      bytes_eq (name_at (variable_names (node_of callee)) y) x ≡ nat_eq y.0 i
  same_place y i x less at =
      let z = item_at names y.0 less in
      let own : slice_get names y.0 ≡ Some (name_at names y) =
      z.1 ∙ ap (λ o. Some (either_or o [])) (sym z.1) in
      let turned : (i == y.0) ≡ nat_eq y.0 i = grind (arith, nat_tests) in
      distinct_at names y.0 i (name_at names y) x hc.distinct own at ∙ turned

  module _ (i : ℕ) (x : Name) (at : slice_get (variable_names (node_of callee)) i ≡ Some x) where
    abbrev awaits : Declaration → Bool
    awaits d = holds (λ s. bytes_eq s.variable x) d.clock

    awaited_one : (z : Name) (v : Declared) (o : Option Sampling) → v.clock ≡ o →
        waits_below (length (variable_names (node_of callee))) v ≡ true →
        awaits (declared_as z v) ≡ waits_at i v.clock
    awaited_one z v None is b = rw is refl
    awaited_one z v (Some s) is b =
        let below : nat_lt s.variable.0 (length names) ≡ true = rw is at b in
        let less : s.variable.0 < length names = grind (arith, nat_tests) in
        rw is (same_place s.variable i x less at)

    awaited_list : (xs : List Name) (vs : List Declared) → length xs ≡ length vs →
        list_all (waits_below (length (variable_names (node_of callee)))) vs ≡ true →
        list_any awaits (zip2 declared_as xs vs) ≡ list_any (λ v. waits_at i v.clock) vs
    awaited_list [] [] long b = refl
    awaited_list (z ∷ xs) [] long b = absurd (omega (arith, long))
    awaited_list [] (v ∷ vs) long b = absurd (omega (arith, long))
    awaited_list (z ∷ xs) (v ∷ vs) long b =
        let below = waits_below (length names) in
        ap₂ (λ b c. b || c) (awaited_one z v v.clock refl (and_first _ _ b))
        (awaited_list xs vs (omega (arith, long)) (and_second _ _ b))

    -- a name is that of a clock parameter exactly where the code finds so
    clock_parameter : is_clock_parameter (node_of callee) x ≡ is_awaited callee i
    clock_parameter =
        let are = parameters_are hc.nodes callee hc.resolved hc.distinct in
        ap (list_any awaits) are.0 ∙ awaited_list _ _ are.1 are.2

  -- ## Places

  abbrev IsParameter : Name × Name → Bool
  IsParameter g = is_clock_parameter (node_of callee) g.0

  -- no pairs are found at `m` places from `a` on, where nothing stands for them
  none_from : (Y : ℕ → Option VariableId) (a m : ℕ) → ((j : ℕ) → j < m → Y (a + j) ≡ None) →
      given_from callee Y a m ≡ []
  none_from Y a zero none = refl
  none_from Y a (suc m) none =
      let zeroth : a ≡ a + 0 = omega arith in
      let here : Y a ≡ None = ap Y zeroth ∙ none 0 (omega arith) in
      let gone : given_variable callee Y a ≡ no_pair =
      ap (λ o. if is_awaited callee a then option_map (pair_at a) o else None) here
      ∙ neither (is_awaited callee a) in
      ap₂ (λ o l. listed (λ g. g ∷ []) o ++ l) gone
      (none_from Y (suc a) m (λ j lt.
      let next : suc a + j ≡ a + suc j = omega arith in
      ap Y next ∙ none (suc j) (omega (arith, lt))))
    where
      neither : (b : Bool) → (if b then no_pair else no_pair) ≡ no_pair
      neither true = refl
      neither false = refl

  module _ (here : ResolvedNode) where
    abbrev named_pairs : List GivenVariable → Given
    named_pairs gs = map (pair_names (variable_names (node_of callee)) here) gs

    -- the pair of one more parameter is found
    one_given : (a : ℕ) (x : Name) (o : Option Name) (p : Option VariableId) (b : Bool) →
        is_clock_parameter (node_of callee) x ≡ b → is_awaited callee a ≡ b →
        (b ≡ true → o ≡ option_map (name_in here) p) →
        x ≡ place_name callee a →
        filter IsParameter (listed_pair x o)
        ≡ named_pairs (listed (λ g. g ∷ [])
        (if is_awaited callee a then option_map (pair_at a) p else None))
    one_given a x None p false is aw same name =
        ap (λ b. named_pairs (listed (λ g. g ∷ [])
        (if b then option_map (pair_at a) p else None))) (sym aw)
    one_given a x (Some y) p false is aw same name =
        ap (pair_where x y) is
        ∙ ap (λ b. named_pairs (listed (λ g. g ∷ [])
        (if b then option_map (pair_at a) p else None))) (sym aw)
    one_given a x o p true is aw same name =
        ap (λ o. filter IsParameter (listed_pair x o)) (same refl)
        ∙ by p
        ∙ ap (λ b. named_pairs (listed (λ g. g ∷ [])
        (if b then option_map (pair_at a) p else None))) (sym aw)
      where
        by : (p : Option VariableId) →
            filter IsParameter (listed_pair x (option_map (name_in here) p))
            ≡ map (pair_names (variable_names (node_of callee)) here)
            (listed (λ g. g ∷ []) (option_map (pair_at a) p))
        by None = refl
        by (Some y) =
            ap (pair_where x (name_in here y)) is
            ∙ ap (one_pair (name_in here y)) name

    -- the declarations `ds` are those of the parameters from place `a` on
    record StandFrom (a : ℕ) (ds : List Declaration) : Type 0 where
      name : (j : ℕ) (d : Declaration) → slice_get ds j ≡ Some d →
          d.name ≡ place_name callee (a + j)
      awaited : (j : ℕ) (d : Declaration) → slice_get ds j ≡ Some d →
          is_clock_parameter (node_of callee) d.name ≡ is_awaited callee (a + j)

    later : (a : ℕ) (d : Declaration) (ds : List Declaration) → StandFrom a (d ∷ ds) →
        StandFrom (suc a) ds
    later a d ds s = record {
      name = λ j e at.
          let next : a + suc j ≡ suc a + j = omega arith in
          s.name (suc j) e at ∙ ap (place_name callee) next;
      awaited = λ j e at.
          let next : a + suc j ≡ suc a + j = omega arith in
          s.awaited (suc j) e at ∙ ap (is_awaited callee) next;
    }

    first_name : (a : ℕ) (d : Declaration) (ds : List Declaration) → StandFrom a (d ∷ ds) →
        d.name ≡ place_name callee a
    first_name a d ds s =
        let e : a + 0 ≡ a = omega arith in s.name 0 d refl ∙ ap (place_name callee) e

    first_awaited : (a : ℕ) (d : Declaration) (ds : List Declaration) → StandFrom a (d ∷ ds) →
        is_clock_parameter (node_of callee) d.name ≡ is_awaited callee a
    first_awaited a d ds s =
        let e : a + 0 ≡ a = omega arith in s.awaited 0 d refl ∙ ap (is_awaited callee) e

    -- ## Inputs

    variable_text : (t : Term) (p : Option VariableId) → variable_of t ≡ p → is_some p ≡ true →
        as_variable (expr_of (texts_of here) t) ≡ option_map (name_in here) p
    variable_text t None is some = absurd cc
    variable_text t (Some y) is some = variable_as (texts_of here) t y is

    inputs_given : (ctx : Context) (Y : ℕ → Option VariableId) (a : ℕ) (ds : List Declaration)
        (es : List Term) → StandFrom a ds →
        ((j : ℕ) → j < length ds → Y (a + j) ≡ given_at (operands_of ctx es) j) →
        ((j : ℕ) → j < length ds → is_awaited callee (a + j) ≡ true → is_some (Y (a + j)) ≡ true) →
        filter IsParameter (given_inputs ds (exprs_of (texts_of here) es))
        ≡ named_pairs (given_from callee Y a (length ds))
    inputs_given ctx Y a [] es s ys all = refl
    inputs_given ctx Y a (d ∷ ds) [] s ys all =
        ap named_pairs (sym (none_from Y a (suc (length ds)) (λ j lt. ys j lt)))
    inputs_given ctx Y a (d ∷ ds) (t ∷ es) s ys all =
        let e : a ≡ a + 0 = omega arith in
        let p : Y a ≡ variable_of t = ap Y e ∙ ys 0 (omega arith) in
        let some = λ (b : is_awaited callee a ≡ true). sym (ap is_some p)
        ∙ ap (λ i. is_some (Y i)) e
        ∙ all 0 (omega arith) (sym (ap (is_awaited callee) e) ∙ b) in
        let is = first_awaited a d ds s in
        filter-append IsParameter (listed_pair d.name (as_variable (expr_of (texts_of here) t))) _
        ∙ ap₂ (λ l m. l ++ m) (one_given a d.name _ (Y a) _ is refl
        (λ b. variable_text t (variable_of t) refl (some b)
        ∙ ap (option_map (name_in here)) (sym p))
        (first_name a d ds s))
        (inputs_given ctx Y (suc a) ds es (later a d ds s)
        (λ j lt. let next : suc a + j ≡ a + suc j = omega arith in
        ap Y next ∙ ys (suc j) (omega (arith, lt)))
        (λ j lt b. let next : suc a + j ≡ a + suc j = omega arith in
        ap (λ i. is_some (Y i)) next
        ∙ all (suc j) (omega (arith, lt)) (sym (ap (is_awaited callee) next) ∙ b)))
        ∙ sym (map-append (pair_names (variable_names (node_of callee)) here)
        (listed (λ g. g ∷ []) (given_variable callee Y a)) _)

    -- ## Outputs

    outputs_given : (Y : ℕ → Option VariableId) (a : ℕ) (ds : List Declaration)
        (lefts : List VariableId) → StandFrom a ds →
        ((j : ℕ) → j < length ds → Y (a + j) ≡ slice_get lefts j) →
        filter IsParameter (given_outputs ds (map (name_in here) lefts))
        ≡ named_pairs (given_from callee Y a (length ds))
    outputs_given Y a [] lefts s ys = refl
    outputs_given Y a (d ∷ ds) [] s ys =
        ap named_pairs (sym (none_from Y a (suc (length ds)) (λ j lt. ys j lt)))
    outputs_given Y a (d ∷ ds) (x ∷ lefts) s ys =
        let e : a ≡ a + 0 = omega arith in
        let p : Y a ≡ Some x = ap Y e ∙ ys 0 (omega arith) in
        let is = first_awaited a d ds s in
        filter-append IsParameter (one_pair (name_in here x) d.name) _
        ∙ ap₂ (λ l m. l ++ m) (one_given a d.name (Some (name_in here x)) (Y a) _ is refl
        (λ b. ap (option_map (name_in here)) (sym p)) (first_name a d ds s))
        (outputs_given Y (suc a) ds lefts (later a d ds s)
        (λ j lt. let next : suc a + j ≡ a + suc j = omega arith in
        ap Y next ∙ ys (suc j) (omega (arith, lt))))
        ∙ sym (map-append (pair_names (variable_names (node_of callee)) here)
        (listed (λ g. g ∷ []) (given_variable callee Y a)) _)

    -- ## All parameters

    split_from : (Y : ℕ → Option VariableId) (a m n : ℕ) →
        given_from callee Y a (m + n)
        ≡ given_from callee Y a m ++ given_from callee Y (a + m) n
    split_from Y a zero n =
        let e : 0 + n ≡ n = omega arith in
        let f : a ≡ a + 0 = omega arith in
        ap (given_from callee Y a) e ∙ ap (λ i. given_from callee Y i n) f
    split_from Y a (suc m) n =
        let e : suc m + n ≡ suc (m + n) = omega arith in
        let f : suc a + m ≡ a + suc m = omega arith in
        let one = listed (λ g. g ∷ []) (given_variable callee Y a) in
        ap (given_from callee Y a) e
        ∙ ap (λ l. one ++ l) (split_from Y (suc a) m n
        ∙ ap (λ i. given_from callee Y (suc a) m ++ given_from callee Y i n) f)
        ∙ sym (append_assoc one (given_from callee Y (suc a) m) (given_from callee Y (a + suc m) n))

    named_at : (i : ℕ) → i < callee.inputs + callee.outputs →
        slice_get (variable_names (node_of callee)) i ≡ Some (place_name callee i)
    named_at i lt =
        let v = variable_held callee hc i lt in
        let many = as_many_names hc.nodes callee hc.resolved hc.distinct in
        let there = slice_get_within callee.variables.items i v.0 v.1 in
        let z = item_at names i (omega (arith, many, there)) in
        z.1 ∙ ap (λ o. Some (either_or o [])) (sym z.1)

    inputs_stand : StandFrom 0 (node_of callee).inputs
    inputs_stand = record {
      name = λ j d at.
          let e : j ≡ 0 + j = omega arith in
          (input_at callee hc j d at).0 ∙ ap (place_name callee) e;
      awaited = λ j d at.
          let e : j ≡ 0 + j = omega arith in
          let i = input_at callee hc j d at in
          let less = i.1 in
          ap (is_clock_parameter (node_of callee)) i.0
          ∙ clock_parameter j (place_name callee j) (named_at j (omega (arith, less)))
          ∙ ap (is_awaited callee) e;
    }

    outputs_stand : StandFrom callee.inputs (node_of callee).outputs
    outputs_stand = record {
      name = λ j d at. (output_at callee hc j d at).0;
      awaited = λ j d at.
          let i = output_at callee hc j d at in
          let less = i.1 in
          ap (is_clock_parameter (node_of callee)) i.0
          ∙ clock_parameter (callee.inputs + j) (place_name callee (callee.inputs + j))
          (named_at (callee.inputs + j) (omega (arith, less)));
    }

    module _ (ctx : Context) (es : List Term) (lefts : List VariableId)
        (all : are_given callee (operands_of ctx es) ≡ true) where
      abbrev Y : ℕ → Option VariableId
      Y = stands_for callee.inputs (operands_of ctx es) lefts

      Y_in : (j : ℕ) → j < callee.inputs →
          stands_for callee.inputs (operands_of ctx es) lefts j ≡ given_at (operands_of ctx es) j
      Y_in j lt = first_part callee.inputs (given_at (operands_of ctx es)) (slice_get lefts) j lt

      Y_out : (j : ℕ) →
          stands_for callee.inputs (operands_of ctx es) lefts (callee.inputs + j)
          ≡ slice_get lefts j
      Y_out j = second_part callee.inputs (given_at (operands_of ctx es)) (slice_get lefts) j

      -- an awaited input is given a variable
      waited_some : (i : ℕ) → i < callee.inputs → is_awaited callee i ≡ true →
          is_some (given_at (operands_of ctx es) i) ≡ true
      waited_some i lt b =
          let v = both_pass (λ (v : Declared). waits_at i v.clock)
          (λ (v : Declared). is_given callee.inputs (operands_of ctx es) v.clock)
          (take (callee.inputs + callee.outputs) callee.variables.items) b all in
          by v.0.clock v.1 v.2
        where
          by : (o : Option Sampling) → waits_at i o ≡ true →
              is_given callee.inputs (operands_of ctx es) o ≡ true →
              is_some (given_at (operands_of ctx es) i) ≡ true
          by None w g = absurd cc
          by (Some s) w g =
              let waits : nat_eq s.variable.0 i ≡ true = w in
              let same : s.variable.0 ≡ i = grind (arith, nat_tests) in
              let less : nat_lt i callee.inputs ≡ true = lt-ltb i callee.inputs lt in
              sym (ap (λ j. not (nat_lt j callee.inputs)
              || is_some (given_at (operands_of ctx es) j)) same
              ∙ ap (λ c. not c || is_some (given_at (operands_of ctx es) i)) less) ∙ g

      as_many : length (take (callee.inputs + callee.outputs) callee.variables.items)
          ≡ callee.inputs + callee.outputs
      as_many = length-take-le (callee.inputs + callee.outputs) callee.variables.items
          (all_variables callee hc)

      -- the pairs that the code finds are those that the caller gives
      pub given_is :
          given_parameters (node_of callee) (exprs_of (texts_of here) es) (map (name_in here) lefts)
          ≡ map (pair_names (variable_names (node_of callee)) here)
          (given_variables callee (operands_of ctx es) lefts)
      given_is =
          let ins = given_inputs (node_of callee).inputs (exprs_of (texts_of here) es) in
          let outs = given_outputs (node_of callee).outputs (map (name_in here) lefts) in
          let zeroth : 0 + callee.inputs ≡ callee.inputs = omega arith in
          filter-append IsParameter ins outs
          ∙ ap₂ (λ l m. l ++ m)
          (inputs_given ctx Y 0 (node_of callee).inputs es inputs_stand
          (λ j lt. let e : 0 + j ≡ j = omega arith in
          ap Y e ∙ Y_in j (subst (λ m. j < m) (sym hc.resolved.inputs) lt))
          (λ j lt b. let e : 0 + j ≡ j = omega arith in
          let less = subst (λ m. j < m) (sym hc.resolved.inputs) lt in
          ap (λ i. is_some (Y i)) e ∙ ap is_some (Y_in j less)
          ∙ waited_some j less (sym (ap (is_awaited callee) e) ∙ b))
          ∙ ap (λ m. named_pairs (given_from callee Y 0 m)) (sym hc.resolved.inputs))
          (outputs_given Y callee.inputs (node_of callee).outputs lefts outputs_stand
          (λ j lt. Y_out j)
          ∙ ap (λ m. named_pairs (given_from callee Y callee.inputs m)) (sym hc.resolved.outputs))
          ∙ sym (map-append (pair_names (variable_names (node_of callee)) here)
          (given_from callee Y 0 callee.inputs) (given_from callee Y callee.inputs callee.outputs))
          ∙ ap named_pairs (sym (ap (given_from callee Y 0) as_many
          ∙ split_from Y 0 callee.inputs callee.outputs
          ∙ ap (λ i. given_from callee Y 0 callee.inputs ++ given_from callee Y i callee.outputs)
          zeroth))
