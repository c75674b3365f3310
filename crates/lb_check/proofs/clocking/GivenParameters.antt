-- The clocks of the parameters of a callee: each variable that such a clock waits for is a clock
-- parameter, and the call gives it a variable of the caller.
use Rattle.lb_check.proofs.Words
use Words.{Always, Bool, Child, Clock, Declaration, Exprs, Given, In, Instance, List, Name, Node}
use Words.{None, Occurrence, On, Option, Path, Program, Some, Where, WholeClock, [], all_in, among}
use Words.{and_first, and_second, any_in, ap, append_assoc, ap₂, are_declared_clocks}
use Words.{are_given_variables, arith, bytes_eq, bytes_eq-Decides, call_at, cond, declared_clock}
use Words.{either_or, false, filter, given_inputs, given_name, given_outputs, given_to, holds}
use Words.{implied, inl, inr, instance_at, is_base_clocked_node, is_clock_parameter, is_clocked_by}
use Words.{is_given_variable, is_some, length, listed, map, map-append, named, not, option_map}
use Words.{outer, refl, runs_on, serves, serving, site_clock, subst, suc, sym, true, variable_clock}
use Words.{variable_names, variables, whole_clock, ℕ, ◌++◌, ◌>>=◌, ◌||◌, ◌∙◌, ◌∷◌, ◌≡◌, ◌⊎◌}
use Rattle.lb_check.proofs.clocking.{GivenNames.none_given, NamedClocks.{IsOver, bytes_turned}}
use Rattle.lb_check.proofs.clocking.NamedClocks.{clock_or_over, found_first, input_over, named_over}
use Rattle.lb_check.proofs.clocking.NamedClocks.{one_clock, output_over, own_names}
use Rattle.lb_check.proofs.lists.Members.{Every-at, Every-from, in_either}
use Rattle.lb_check.{proofs.programs.OccurrenceSites.find_first, specs.Clocks.Base}
use Rattle.{lb_check.specs.Needs.given_at, lb_static.proofs.Scopes.among_append}
use Rattle.lb_syntax.specs.Tree.{Sampling}
pub use Rattle.lb_check.proofs.clocking.GivenNames.{given_after}

-- ## The pair that is found by a name

abbrev pub found_in : Given → Name → Option (Name × Name)
found_in given x = named (λ g. g.0) x given

-- name `x` is given a variable
abbrev pub IsGiven : Given → Name → Type 0
IsGiven given x = (g : Name × Name) × (found_in given x ≡ Some g)

pub given_before : (given rest : Given) (x : Name) → IsGiven given x → IsGiven (given ++ rest) x
given_before given rest x h = (h.0, find_first (λ g. bytes_eq g.0 x) given rest h.0 h.1)

-- a name that is given a variable is found the same where more pairs follow
pub same_before : (given rest : Given) (x : Name) → IsGiven given x →
    found_in (given ++ rest) x ≡ found_in given x
same_before given rest x h = find_first (λ g. bytes_eq g.0 x) given rest h.0 h.1 ∙ sym h.1

-- a name that passes a test is found among the pairs that pass it
pub found_filtered :
    (test : Name → Bool) (given : Given) (x : Name) → test x ≡ true →
    found_in (filter (λ g. test g.0) given) x ≡ found_in given x
found_filtered test [] x e = refl
found_filtered test (g ∷ given) x e =
    by (test g.0) (bytes_eq g.0 x) refl refl (found_filtered test given x e)
  where
    here : test g.0 ≡ false → bytes_eq g.0 x ≡ true → ⊥
    here fails is =
        let same = ap test ((bytes_eq-Decides g.0 x).0 is) in
        let both : true ≡ false = sym e ∙ (sym same ∙ fails) in
        absurd cc

    by : (a b : Bool) → test g.0 ≡ a → bytes_eq g.0 x ≡ b →
        found_in (filter (λ g. test g.0) given) x ≡ found_in given x →
        found_in (cond a (g ∷ filter (λ g. test g.0) given) (filter (λ g. test g.0) given)) x
        ≡ cond b (Some g) (found_in given x)
    by true true p q rest = ap (λ b. cond b (Some g) (found_in (filter (λ g. test g.0) given) x)) q
    by true false p q rest =
        ap (λ b. cond b (Some g) (found_in (filter (λ g. test g.0) given) x)) q ∙ rest
    by false true p q rest = absurd (here p q)
    by false false p q rest = rest

-- each output is given a left variable, where there are as many as outputs
output_given :
    (ds : List Declaration) (xs : List Name) (x : Name) → length xs ≡ length ds →
    among x (map (λ d. d.name) ds) ≡ true → IsGiven (given_outputs ds xs) x
output_given [] xs x long e = absurd cc
output_given (d ∷ ds) [] x long e = absurd (omega (arith, long))
output_given (d ∷ ds) (y ∷ xs) x long e =
    by (bytes_eq d.name x) refl (λ f. output_given ds xs x (omega (arith, long)) f)
  where
    by : (b : Bool) → bytes_eq d.name x ≡ b →
        (among x (map (λ d. d.name) ds) ≡ true → IsGiven (given_outputs ds xs) x) →
        IsGiven ((d.name, y) ∷ given_outputs ds xs) x
    by true is later = (
      (d.name, y),
      ap (λ b. cond b (Some (d.name, y)) (found_in (given_outputs ds xs) x)) is,
    )
    by false is later =
        let differs = bytes_turned x d.name ∙ is in
        let h = later (sym (ap (λ b. b || among x (map (λ d. d.name) ds)) differs) ∙ e) in
        (h.0, ap (λ b. cond b (Some (d.name, y)) (found_in (given_outputs ds xs) x)) is ∙ h.1)

-- ## Clocks over given names

-- a clock over no names is the base clock
over_none : (k : Clock) → IsOver (λ x. ⊥) k → k ≡ Base
over_none Base h = refl
over_none (On k x sign) h = absurd h.1

-- a clock over given names is over them where more are given
pub over_before : (given rest : Given) (k : Clock) → IsOver (IsGiven given) k →
    IsOver (IsGiven (given ++ rest)) k
over_before given rest Base h = tt
over_before given rest (On k x sign) h =
    (over_before given rest k h.0, given_before given rest x h.1)

-- the outer clock of a clock over given names is the same where more are given
pub outer_before : (b : Clock) (given rest : Given) (k : Clock) → IsOver (IsGiven given) k →
    outer b (given ++ rest) k ≡ outer b given k
outer_before b given rest Base h = refl
outer_before b given rest (On k x sign) h =
    ap₂ (λ l y. On l y sign) (outer_before b given rest k h.0)
    (ap (name_or x) (same_before given rest x h.1))
  where
    name_or : Name → Option (Name × Name) → Name
    name_or x o = either_or (option_map (λ g. g.1) o) x

-- ## The clocks of parameters

module _ (callee : Node) (declared : are_declared_clocks callee ≡ true) where
  -- the inputs and outputs of the callee
  abbrev pub parameters : List Declaration
  parameters = callee.inputs ++ callee.outputs

  abbrev names_of : List Declaration → List Name
  names_of ds = map (λ d. d.name) ds

  own_name : (d : Declaration) → In d parameters → among d.name (names_of parameters) ≡ true
  own_name d i =
      Every-at (λ d. among d.name (names_of parameters) ≡ true) parameters d
      (own_names parameters) i

  -- a variable that has the name of a parameter is a parameter
  parameter_found :
      (x : Name) (v : Declaration) → among x (names_of parameters) ≡ true →
      named (λ d. d.name) x (variables callee) ≡ Some v → In v parameters
  parameter_found x v e is =
      let all = append_assoc callee.inputs callee.outputs callee.locals in
      found_first (λ d. In d parameters) x parameters callee.locals v
      (Every-from (λ d. In d parameters) parameters (λ d i. i)) e
      (ap (named (λ d. d.name) x) all ∙ is)

  -- a parameter waits for a parameter
  waited : (d : Declaration) (s : Sampling) → In d parameters → d.clock ≡ Some s →
      among s.variable (names_of parameters) ≡ true
  waited d s i is = by (in_either d callee.inputs callee.outputs i)
    where
      by : In d callee.inputs ⊎ In d callee.outputs → among s.variable (names_of parameters) ≡ true
      by (inl j) =
          let test = all_in (is_clocked_by callee.inputs) callee.inputs d
          (and_first _ _ declared) j in
          let among_inputs = one_clock
          (λ s. among s.variable (map (λ v. v.name) callee.inputs)) d s test is in
          subst (λ xs. among s.variable xs ≡ true)
          (sym (map-append (λ d. d.name) callee.inputs callee.outputs))
          (among_append s.variable (names_of callee.inputs) (names_of callee.outputs)
          ∙ ap (λ b. b || among s.variable (names_of callee.outputs)) among_inputs)
      by (inr j) =
          let test = all_in (is_clocked_by (callee.inputs ++ callee.outputs)) callee.outputs d
          (and_first _ _ (and_second _ _ declared)) j in
          one_clock (λ s. among s.variable (map (λ v. v.name) (callee.inputs ++ callee.outputs)))
          d s test is

  module _ (V : Name → Type 0)
      (each : (d : Declaration) (s : Sampling) → In d parameters → d.clock ≡ Some s →
      V s.variable) where
    -- a statement on each variable that a parameter waits for holds of all that its clock waits for
    pub parameter_over : (d : Declaration) → In d parameters →
        IsOver V (declared_clock callee d.name)
    parameter_over d i =
        clock_or_over V (variable_clock callee d.name)
        (named_over V (variables callee) (λ v. In v parameters)
        (λ e s v h is found. (each e s h is, parameter_found s.variable v (waited e s h is) found))
        (suc (length (variables callee))) d.name
        (λ v found. parameter_found d.name v (own_name d i) found))

  -- the clock of a parameter waits for clock parameters alone
  pub over_parameters :
      (d : Declaration) → In d parameters →
      IsOver (λ x. is_clock_parameter callee x ≡ true) (declared_clock callee d.name)
  over_parameters d i =
      parameter_over (λ x. is_clock_parameter callee x ≡ true)
      (λ e s h is. any_in (λ d. holds (λ t. bytes_eq t.variable s.variable) d.clock) parameters e h
      (ap (holds (λ t. bytes_eq t.variable s.variable)) is
      ∙ (bytes_eq-Decides s.variable s.variable).1 refl)) d i

  -- the parameters of a node without clocked parameters are on its base clock
  pub on_base :
      is_base_clocked_node callee ≡ true → (d : Declaration) → In d parameters →
      declared_clock callee d.name ≡ Base
  on_base free d i =
      over_none (declared_clock callee d.name)
      (parameter_over (λ x. ⊥) (λ e s h is. never e s h is) d i)
    where
      never : (e : Declaration) (s : Sampling) → In e parameters → e.clock ≡ Some s → ⊥
      never e s h is =
          let none = all_in (λ d. not (is_some d.clock)) parameters e free h in
          let both : not (is_some (Some s)) ≡ true = ap (λ o. not (is_some o)) (sym is) ∙ none in
          absurd cc

  module _ (here : Node) (es : Exprs) (is_given : are_given_variables here callee es ≡ true) where
    abbrev inputs_given : Given
    inputs_given = given_inputs callee.inputs es

    -- the clock of an input waits for variables that the call gives an argument
    pub input_given :
        (d : Declaration) → In d callee.inputs →
        IsOver (IsGiven (given_inputs callee.inputs es)) (declared_clock callee d.name)
    input_given d i =
        input_over (IsGiven inputs_given) here callee es declared is_given (λ x g e m. (g, e))
        d.name
        (Every-at (λ d. among d.name (names_of callee.inputs) ≡ true) callee.inputs d
        (own_names callee.inputs) i)

    -- the clock of the one output waits for variables that the call gives an argument
    pub result_given :
        (d : Declaration) → callee.outputs ≡ d ∷ [] →
        IsOver (IsGiven (given_inputs callee.inputs es)) (declared_clock callee d.name)
    result_given d one =
        output_over (IsGiven inputs_given) here callee es declared is_given (λ x g e m. (g, e))
        d one

    held : (x : Name) (o : Option (Name × Name)) → found_in inputs_given x ≡ o →
        holds (λ g. among g.1 (variable_names here)) o ≡ true → IsGiven inputs_given x
    held x None is e = absurd cc
    held x (Some g) is e = (g, is)

    module _ (lefts : List Name) (long : length lefts ≡ length callee.outputs) where
      abbrev all_given : Given
      all_given = inputs_given ++ given_outputs callee.outputs lefts

      each_given : (d : Declaration) (s : Sampling) → In d parameters → d.clock ≡ Some s →
          IsGiven all_given s.variable
      each_given d s i is = by (among s.variable (names_of callee.inputs)) refl
        where
          by : (b : Bool) → among s.variable (names_of callee.inputs) ≡ b →
              IsGiven all_given s.variable
          by true e =
              let test = all_in (is_given_variable here callee inputs_given) parameters d is_given i
              in
              let h = one_clock (λ s.
              not (among s.variable (map (λ i. i.name) callee.inputs))
              || holds (λ g. among g.1 (variable_names here))
              (named (λ g. g.0) s.variable inputs_given)) d s test is in
              given_before inputs_given (given_outputs callee.outputs lefts) s.variable
              (held s.variable (found_in inputs_given s.variable) refl
              (implied (among s.variable (names_of callee.inputs)) _ h e))
          by false e =
              let some = subst (λ xs. among s.variable xs ≡ true)
              (map-append (λ d. d.name) callee.inputs callee.outputs) (waited d s i is) in
              let there =
              sym (among_append s.variable (names_of callee.inputs) (names_of callee.outputs)
              ∙ ap (λ b. b || among s.variable (names_of callee.outputs)) e) ∙ some in
              let h = output_given callee.outputs lefts s.variable long there in (
                h.0,
                given_after inputs_given (given_outputs callee.outputs lefts) s.variable
                    (none_given s.variable callee.inputs es e) ∙ h.1,
              )

      -- the clock of a parameter waits for variables that the call gives an argument or a left
      -- variable
      pub parameter_given :
          (d : Declaration) → In d parameters →
          IsOver (IsGiven (given_inputs callee.inputs es ++ given_outputs callee.outputs lefts))
          (declared_clock callee d.name)
      parameter_given d i = parameter_over (IsGiven all_given) each_given d i

-- ## The clocks of a callee, in the whole program

-- `x` is a clock parameter of the callee, and is given a variable
pub record IsServed (callee : Node) (given : Given) (x : Name) : Type 0 where
  pub parameter : is_clock_parameter callee x ≡ true
  pub value : Name × Name
  pub is : found_in given x ≡ Some value

pub over_served :
    (callee : Node) (given : Given) (k : Clock) →
    IsOver (λ x. is_clock_parameter callee x ≡ true) k → IsOver (IsGiven given) k →
    IsOver (IsServed callee given) k
over_served callee given Base h g = tt
over_served callee given (On k x sign) h g =
    let one : IsServed callee given x =
    record { parameter = h.1; value = g.1.0; is = g.1.1 } in
    (over_served callee given k h.0 g.0, one)

module _ (P : Program) (here : Instance) (at : instance_at P here.path ≡ Some here)
    (o : Occurrence) (own : call_at P here.node o.calls_before ≡ Some o) where
  abbrev child : ℕ → Path
  child i = Child here.path o.calls_before i

  abbrev runs_here : Clock → WholeClock
  runs_here k = whole_clock P here.path (runs_on P here.path) k

  -- the instances of a call run on the clock of the call
  pub called_runs : (i : ℕ) →
      runs_on P (Child here.path o.calls_before i)
      ≡ whole_clock P here.path (runs_on P here.path) (site_clock P o.clock o.expr)
  called_runs i =
      ap (λ (c : Option Instance).
      either_or
      (c >>= λ h. call_at P h.node o.calls_before >>= λ o.
      Some (runs_here (site_clock P o.clock o.expr))) Always) at
      ∙ ap (λ (c : Option Occurrence).
      either_or (c >>= λ o. Some (runs_here (site_clock P o.clock o.expr))) Always) own

  call_given :
      given_at P (instance_at P here.path) o.calls_before
      ≡ given_to P here.node o.calls_before o.expr
  call_given =
      ap (λ c. given_at P c o.calls_before) at
      ∙ ap (listed (λ (q : Occurrence). given_to P here.node o.calls_before q.expr)) own

  module _ (callee : Node) (given : Given) (b : Clock)
      (is_given : given_to P here.node o.calls_before o.expr
      ≡ filter (λ g. is_clock_parameter callee g.0) given)
      (runs : site_clock P o.clock o.expr ≡ b) (i : ℕ) where
    served : (x : Name) → IsServed callee given x →
        serving P (child i) x ≡ serving P here.path (given_name given x)
    served x h =
        let found : found_in (given_at P (instance_at P here.path) o.calls_before) x
        ≡ Some h.value =
        ap (λ gs. found_in gs x) (call_given ∙ is_given)
        ∙ found_filtered (is_clock_parameter callee) given x h.parameter ∙ h.is in
        ap (λ t. serves (child i) x t (serving P here.path)) found
        ∙ ap (λ t. serving P here.path (either_or (option_map (λ g. g.1) t) x)) (sym h.is)

    -- a clock of the callee, in the whole program, is the clock that its caller sees
    pub called_clock :
        (k : Clock) → IsOver (IsServed callee given) k →
        whole_clock P (Child here.path o.calls_before i)
        (runs_on P (Child here.path o.calls_before i)) k
        ≡ whole_clock P here.path (runs_on P here.path) (outer b given k)
    called_clock Base h = called_runs i ∙ ap runs_here runs
    called_clock (On k x sign) h =
        ap₂ (λ w (y : Path × Name). Where w y.0 y.1 sign) (called_clock k h.0) (served x h.1)
