-- The variables that serve for others in clocks: their numbers and values.
use Rattle.lb_check.proofs.Words
use Words.{Always, Assertion, Bool, Call, Child, Clock, Declaration, Equation, Expr, Exprs, Given}
use Words.{In, Instance, List, Name, Node, None, Observer, Occurrence, On, Option, Path, Program}
use Words.{Root, Site, Some, Statement, Static, Where, WholeClock, [], all_in, among, and_first}
use Words.{and_second, ap, ap₂, are_declared_clocks, are_given_variables, arith, at, bytes_eq}
use Words.{bytes_eq-Decides, call_at, call_site, callee_of, check_refusal, clock_names}
use Words.{declares_once, either_or, eqb-true, false, filter, flat_map, found_passes, given_inputs}
use Words.{given_outputs, given_parameters, given_to, holds, implied, in_any, inl, inr, instance_at}
use Words.{instance_count, instances, is_call_clocked, is_clock_parameter, is_given_variable}
use Words.{is_named, is_occurrence_clocked, is_site, item_at, left_names, lefts_at, length}
use Words.{list_all, listed, map, map_in, nat_eq, node_named, node_occurrences, node_sites, not}
use Words.{numbers_of, refl, right_side, runs_on, same_Some, serves, serving, site_clock, slice_get}
use Words.{statements, static_refusal, subst, sym, true, ungrouped, variable_names, variables}
use Words.{whole_clock, width, ℕ, ◌&&◌, ◌++◌, ◌<◌, ◌>>=◌, ◌||◌, ◌∙◌, ◌∷◌, ◌≡◌, ◌⊎◌}
use Rattle.lb_check.proofs.clocking.{GivenNames.none_given, GivenParameters.found_filtered}
use Rattle.lb_check.proofs.clocking.GivenParameters.{found_in, given_after, same_before}
use Rattle.lb_check.proofs.clocking.NamedClocks.{IsOver, base_over, called_passes, one_clock}
use Rattle.lb_check.proofs.definitions.BrokenRules.{instantiation_kept, names_kept}
use Rattle.lb_check.proofs.definitions.CallNumbers.{IsRightSide, lefts_are}
use Rattle.lb_check.proofs.lists.Members.{Every-at, in_second, to_pieces}
use Rattle.lb_check.proofs.programs.{AcceptedElements.numbers_width, AcceptedRules.clocked}
use Rattle.lb_check.proofs.programs.InstancePaths.{called, callee_node, find_in, in_instances}
use Rattle.lb_check.proofs.programs.InstancePaths.{instances_named, path_is}
use Rattle.lb_check.proofs.programs.OccurrenceSites.{own_site, site_is}
use Rattle.lb_check.proofs.programs.TypedOccurrences.{IsVariable, occurrence_fits}
use Rattle.lb_check.{proofs.typing.PositiveTypes.width_positive, specs.Clocks.Base}
use Rattle.{lb_check.specs.Needs.given_at, lb_static.proofs.Members.filter_in}
use Rattle.lb_static.specs.Names.{is_callable, is_known, is_static_name, is_variable}
use Rattle.{lb_static.specs.Parts.{node_names, node_static_names}, lb_syntax.specs.Tree.Sampling}
use Rattle.std.proofs.{Common.zip, lemmas.Option.none-some}

-- The variables that clocks of an accepted program wait for, as the whole program sees them, are
-- variables of instances, each with a first element.

-- ## Names

among_in : (x : Name) (xs : List Name) → among x xs ≡ true → In x xs
among_in x [] e = absurd cc
among_in x (y ∷ xs) e = grind (arith, among_in x xs, (bytes_eq-Decides x y).0)

pub zip_first : {A B : Type 0} (xs : List A) (ys : List B) (t : A × B) → In t (zip xs ys) → In
    t.0 xs
zip_first {A = A} {B = B} (x ∷ xs) (y ∷ ys) t (inl e) = inl (ap (λ (u : A × B). u.0) e)
zip_first (x ∷ xs) (y ∷ ys) t (inr i) = inr (zip_first xs ys t i)
zip_first _ _ t i = absurd i

-- the variable given for an output is a left variable
pub output_value :
    (ds : List Declaration) (xs : List Name) (x : Name) (g : Name × Name) →
    found_in (given_outputs ds xs) x ≡ Some g → In g.1 xs
output_value (d ∷ ds) (y ∷ xs) x g e = grind (arith, output_value ds xs x g)
output_value _ _ x g e = absurd cc

held : (x : Name) (names : List Name) (o : Option (Name × Name)) (g : Name × Name) →
    holds (λ g. among g.1 names) o ≡ true → o ≡ Some g → In g.1 names
held x names None g e is = absurd cc
held x names (Some h) g e is =
    among_in g.1 names (subst (λ (u : Name × Name). among u.1 names ≡ true) (same_Some h g is) e)

-- a clock that waits for name `x` is there, and its variable is `x`
waits_here : (x : Name) (o : Option Sampling) → holds (λ s. bytes_eq s.variable x) o ≡ true →
    (s : Sampling) × (o ≡ Some s) × (s.variable ≡ x)
waits_here x None e = absurd cc
waits_here x (Some s) e = (s, refl, (bytes_eq-Decides s.variable x).0 e)

-- an expression that is a call
record IsCall (e : Expr) : Type 0 where
  name : Name
  statics : List Static
  arguments : Exprs
  is : e ≡ Call name statics arguments

-- an expression that gives a variable for a name is a call
giving_call :
    (P : Program) (n : Node) (k : ℕ) (e : Expr) (x : Name) (g : Name × Name) →
    found_in (given_to P n k e) x ≡ Some g → IsCall e
giving_call P n k (Call f statics es) x g found =
    record { name = f; statics = statics; arguments = es; is = refl }
giving_call P n k _ x g found = absurd (none-some g found)

module _ (P : Program) (accepted : static_refusal P ≡ None) where
  -- variable `x` of path `p` has a first number
  abbrev pub HasFirst : Path → Name → Type 0
  HasFirst p x = (i : ℕ) × (slice_get (numbers_of P p x) 0 ≡ Some i)

  -- each variable of an instance has a first number
  pub has_first :
      (here : Instance) → In here (instances P) → (x : Name) → IsVariable here.node x →
      HasFirst here.path x
  has_first here stands x i =
      let d = map_in (λ d. d.name) (variables here.node) x i in
      let wide = Every-at (λ d. length (numbers_of P here.path d.name) ≡ width P here d)
      (variables here.node) d.0 (numbers_width P accepted here stands) d.1 in
      let some = width_positive P accepted here stands d.0 d.1 in
      let long : 0 < length (numbers_of P here.path x) =
      subst (λ y. 0 < length (numbers_of P here.path y)) d.2 (omega (arith, wide, some)) in
      item_at (numbers_of P here.path x) 0 long

  -- each variable of a clock has a first number
  abbrev pub IsNumbered : WholeClock → Type 0
  IsNumbered Always = Unit {0}
  IsNumbered (Where k p x sign) = IsNumbered k × HasFirst p x

  module _ (checked : check_refusal P ≡ None) where
    module _ (here : Instance) (stands : In here (instances P)) where
      pub left_variable : (s : Statement) (x : Name) → In s here.node.body → In x (left_names s) →
          IsVariable here.node x
      left_variable s x i j =
          let named = Every-at (λ c. is_named P c.node ≡ true) (instances P) here
          (instances_named P (names_kept P accepted)) stands in
          let n = here.node in
          let sites = and_second (declares_once P n) _ named in
          let names = and_second (list_all (is_callable P) (node_sites n)) _ sites in
          let statics = and_second (list_all (is_known P n) (node_names n)) _ names in
          let rules = and_second (list_all (is_static_name P n) (node_static_names n)) _ statics in
          among_in x (variable_names here.node)
          (all_in (is_variable P here.node)
          (clock_names here.node ++ flat_map left_names here.node.body) x rules
          (in_second x (clock_names here.node) (flat_map left_names here.node.body)
          (to_pieces left_names x s here.node.body i j)))

      -- the left variables of a call are variables of its node
      left_of_call :
          (o : Occurrence) → In o (node_occurrences P here.node) → is_site o.expr ≡ true →
          (x : Name) → In x (lefts_at P here.node o.calls_before) → IsVariable here.node x
      left_of_call o i is x on = by (lefts_are P here.node o i is)
        where
          by : ((r : IsRightSide P here.node o)
              × (lefts_at P here.node o.calls_before ≡ left_names r.statement.0))
              ⊎ (lefts_at P here.node o.calls_before ≡ []) → IsVariable here.node x
          by (inl r) =
              let s = r.0.statement in
              left_variable s.0 x (zip_first here.node.body _ s r.0.stands)
              (subst (λ xs. In x xs) r.1 on)
          by (inr none) = absurd (subst (λ xs. In x xs) none on)

      lawful : (o : Occurrence) → In o (node_occurrences P here.node) →
          is_occurrence_clocked P here.node o ≡ true
      lawful o i =
          all_in (is_occurrence_clocked P here.node) (node_occurrences P here.node) o
          (and_first _ _ (and_second (are_declared_clocks here.node) _
          (clocked P checked here stands))) i

      module _ (k : Clock) (n : ℕ) (f : Name) (statics : List Static) (es : Exprs)
          (i : In (at k n (Call f statics es)) (node_occurrences P here.node)) (callee : Node)
          (named : node_named P f ≡ Some callee) (x : Name) (g : Name × Name)
          (found : found_in (given_parameters callee es (lefts_at P here.node n)) x ≡ Some g) where
        abbrev test : Name × Name → Bool
        test g = is_clock_parameter callee g.0

        abbrev ins : Given
        ins = given_inputs callee.inputs es

        abbrev outs : Given
        outs = given_outputs callee.outputs (lefts_at P here.node n)

        own : g.0 ≡ x
        own =
            (bytes_eq-Decides g.0 x).0
            (found_passes (λ (g : Name × Name). bytes_eq g.0 x) (filter test (ins ++ outs)) g found)

        parameter : is_clock_parameter callee x ≡ true
        parameter =
            let on = filter_in test (ins ++ outs) g
            (find_in (λ (g : Name × Name). bytes_eq g.0 x) (filter test (ins ++ outs)) g found) in
            subst (λ y. is_clock_parameter callee y ≡ true) own on.1

        -- the pair of `x` is found among arguments and left variables
        pub all_found :
            found_in
            (given_inputs callee.inputs es
            ++ given_outputs callee.outputs (lefts_at P here.node n)) x ≡ Some g
        all_found =
            sym (found_filtered (is_clock_parameter callee) (ins ++ outs) x parameter) ∙ found

        input_value : (o : Option (Name × Name)) → found_in ins x ≡ o →
            holds (λ g. among g.1 (variable_names here.node)) o ≡ true → IsVariable here.node g.1
        input_value None is h = absurd cc
        input_value (Some w) is h =
            held x (variable_names here.node) (Some w) g h
            (sym is ∙ sym (same_before ins outs x (w, is)) ∙ all_found)

        -- some parameter waits for `x`
        waiting : (d : Declaration) × In d (callee.inputs ++ callee.outputs)
            × (holds (λ s. bytes_eq s.variable x) d.clock ≡ true)
        waiting =
            in_any (λ d. holds (λ s. bytes_eq s.variable x) d.clock)
            (callee.inputs ++ callee.outputs) parameter

        by_input : among x (map (λ d. d.name) callee.inputs) ≡ true → IsVariable here.node g.1
        by_input e =
            let call = called_passes P (is_call_clocked here.node k es) f callee
            (lawful (at k n (Call f statics es)) i) named in
            let rule = and_first (are_given_variables here.node callee es) _ call in
            let d = waiting in
            let s = waits_here x d.0.clock d.2 in
            let own_rule = all_in (is_given_variable here.node callee ins)
            (callee.inputs ++ callee.outputs) d.0 rule d.1 in
            let h = one_clock (λ s.
            not (among s.variable (map (λ i. i.name) callee.inputs))
            || holds (λ g. among g.1 (variable_names here.node))
            (found_in ins s.variable)) d.0 s.0 own_rule s.1 in
            let held_by = implied (among s.0.variable (map (λ d. d.name) callee.inputs)) _ h
            (ap (λ y. among y (map (λ d. d.name) callee.inputs)) s.2 ∙ e) in
            input_value (found_in ins x) refl
            (subst (λ y. holds (λ g. among g.1 (variable_names here.node)) (found_in ins y) ≡ true)
            s.2 held_by)

        by_output : among x (map (λ d. d.name) callee.inputs) ≡ false → IsVariable here.node g.1
        by_output e =
            left_of_call (at k n (Call f statics es)) i refl g.1
            (output_value callee.outputs (lefts_at P here.node n) x g
            (sym (given_after ins outs x (none_given x callee.inputs es e)) ∙ all_found))

        given_by : IsVariable here.node g.1
        given_by = by (among x (map (λ d. d.name) callee.inputs)) refl
          where
            by : (b : Bool) → among x (map (λ d. d.name) callee.inputs) ≡ b →
                IsVariable here.node g.1
            by true e = by_input e
            by false e = by_output e

      -- the variable that a call gives for a name is one of its caller
      given_by_call :
          (k : Clock) (n : ℕ) (f : Name) (statics : List Static) (es : Exprs) →
          In (at k n (Call f statics es)) (node_occurrences P here.node) → (x : Name)
          (g : Name × Name) → found_in (given_to P here.node n (Call f statics es)) x ≡ Some g →
          IsVariable here.node g.1
      given_by_call k n f statics es i x g found = by (node_named P f) refl found
        where
          by : (o : Option Node) → node_named P f ≡ o →
              found_in (listed (λ c. given_parameters c es (lefts_at P here.node n)) o) x ≡ Some g →
              IsVariable here.node g.1
          by None is h = absurd (none-some g h)
          by (Some callee) is h = given_by k n f statics es i callee is x g h

      pub given_variable :
          (k : Clock) (n : ℕ) (e : Expr) → In (at k n e) (node_occurrences P here.node) →
          (x : Name) (g : Name × Name) → found_in (given_to P here.node n e) x ≡ Some g →
          IsVariable here.node g.1
      given_variable k n e i x g found =
          let call = giving_call P here.node n e x g found in
          given_by_call k n call.name call.statics call.arguments
          (subst (λ z. In (at k n z) (node_occurrences P here.node)) call.is i) x g
          (subst (λ z. found_in (given_to P here.node n z) x ≡ Some g) call.is found)

      -- the call with number `n` is an occurrence with this number
      pub call_found : (n : ℕ) (o : Occurrence) → call_at P here.node n ≡ Some o →
          In o (node_occurrences P here.node) × (o.calls_before ≡ n)
      call_found n o e =
          let test = λ (o : Occurrence). nat_eq o.calls_before n && is_site o.expr in (
            find_in test (node_occurrences P here.node) o e,
            eqb-true o.calls_before n (and_first _ _
                (found_passes test (node_occurrences P here.node) o e)),
          )

    -- ## Variables that serve

    -- a variable of the instance at a path has a first number
    own_first :
        (p : Path) (here : Instance) → instance_at P p ≡ Some here → (x : Name) →
        IsVariable here.node x → HasFirst p x
    own_first p here at x i =
        subst (λ p. HasFirst p x) (path_is P p here at)
        (has_first here (in_instances P (instantiation_kept P accepted) p here at) x i)

    -- the variable that serves for a variable of an instance has a first number
    pub serving_first :
        (p : Path) (here : Instance) → instance_at P p ≡ Some here → (x : Name) →
        IsVariable here.node x → HasFirst (serving P p x).0 (serving P p x).1
    serving_first Root here at x i = own_first Root here at x i
    serving_first Observer here at x i = own_first Observer here at x i
    serving_first (Child p call index) here at x i =
        let k = called P p call index here at in
        let up = in_instances P (instantiation_kept P accepted) p k.caller k.above in
        let own = own_first (Child p call index) here at x i in
        by own k.caller k.above up (serving_first p k.caller k.above)
        (found_in (given_at P (instance_at P p) call) x) refl
      where
        by : HasFirst (Child p call index) x → (caller : Instance) →
            instance_at P p ≡ Some caller → In caller (instances P) →
            ((y : Name) → IsVariable caller.node y →
            HasFirst (serving P p y).0 (serving P p y).1) →
            (o : Option (Name × Name)) → found_in (given_at P (instance_at P p) call) x ≡ o →
            HasFirst (serves (Child p call index) x o (serving P p)).0
            (serves (Child p call index) x o (serving P p)).1
        by own caller above stands again None found = own
        by own caller above stands again (Some g) found =
            again g.1 (from (call_at P caller.node call) refl
            (ap (λ c. found_in (given_at P c call) x) (sym above) ∙ found))
          where
            from : (o : Option Occurrence) → call_at P caller.node call ≡ o →
                found_in (listed (λ o. given_to P caller.node call o.expr) o) x ≡ Some g →
                IsVariable caller.node g.1
            from None is h = absurd (none-some g h)
            from (Some o) is h =
                let at = call_found caller stands call o is in
                given_variable caller stands o.clock o.calls_before o.expr at.0 x g
                (ap (λ n. found_in (given_to P caller.node n o.expr) x) at.1 ∙ h)

    -- each variable of a clock over the variables of an instance has a first number in the whole
    -- program
    pub whole_numbered :
        (p : Path) (here : Instance) → instance_at P p ≡ Some here → (w : WholeClock) →
        IsNumbered w → (k : Clock) → IsOver (IsVariable here.node) k →
        IsNumbered (whole_clock P p w k)
    whole_numbered p here at w n Base h = n
    whole_numbered p here at w n (On k x sign) h =
        (whole_numbered p here at w n k h.0, serving_first p here at x h.1)

    pub site_over :
        (V : Name → Type 0) (k : Clock) (e : Expr) → IsOver V k → IsOver V (site_clock P k e)
    site_over V k (Call f statics es) h = grind (arith, h, base_over V k)
    site_over V k _ h = h

    -- each variable of the clock on which an instance runs has a first number
    pub runs_numbered :
        (p : Path) (here : Instance) → instance_at P p ≡ Some here → IsNumbered (runs_on P p)
    runs_numbered Root here at = tt
    runs_numbered Observer here at = tt
    runs_numbered (Child p call index) here at =
        let k = called P p call index here at in
        let up = in_instances P (instantiation_kept P accepted) p k.caller k.above in
        subst (λ o. IsNumbered (either_or (o >>= λ h. call_at P h.node call >>= λ o.
        Some (whole_clock P p (runs_on P p) (site_clock P o.clock o.expr))) Always)) (sym k.above)
        (by k.caller k.above up (runs_numbered p k.caller k.above)
        (call_at P k.caller.node call) refl)
      where
        by : (caller : Instance) → instance_at P p ≡ Some caller → In caller (instances P) →
            IsNumbered (runs_on P p) → (o : Option Occurrence) →
            call_at P caller.node call ≡ o →
            IsNumbered (either_or (o >>= λ o.
            Some (whole_clock P p (runs_on P p) (site_clock P o.clock o.expr))) Always)
        by caller above stands runs None is = tt
        by caller above stands runs (Some o) is =
            let at = call_found caller stands call o is in
            let fits = occurrence_fits P accepted checked caller stands o at.0 in
            whole_numbered p caller above (runs_on P p) runs (site_clock P o.clock o.expr)
            (site_over (IsVariable caller.node) o.clock o.expr fits.over)

-- Each variable has the value of the one that serves for it in a clock, where each variable of a
-- callee has the value of the caller's variable that is given for it.

none_given_by_name : (ds : List Declaration) (x : Name) (g : Name × Name) →
    found_in (given_outputs ds []) x ≡ Some g → ⊥
none_given_by_name [] x g e = cc
none_given_by_name (d ∷ ds) x g e = cc

-- a call of an instance, and the callee
pub record IsCallOf (P : Program) (here : Instance) (k : Clock) (n : ℕ) (f : Name)
    (statics : List Static) (es : Exprs) (c : Instance) : Type 0 where
  pub stands : In here (instances P)
  pub occurs : In (at k n (Call f statics es)) (node_occurrences P here.node)
  pub callee_stands : In c (instances P)
  pub gives : callee_of P here (call_site f statics) n 0 ≡ Some c

-- the call is the whole right side of an equation
pub record IsRightOf (P : Program) (here : Instance) (n : ℕ) (f : Name) (statics : List Static)
    (es : Exprs) (lefts : List Name) : Type 0 where
  pub right : Expr
  pub occurrence : Occurrence
  pub stands : In (Equation lefts right, occurrence) (statements P here.node)
  pub is : ungrouped right ≡ Call f statics es
  pub number : occurrence.calls_before ≡ n

module _ (P : Program) (accepted : static_refusal P ≡ None) (checked : check_refusal P ≡ None)
    {A : Type 0} (of : Path → Name → A)
    (of_argument :
    (here : Instance) (k : Clock) (n : ℕ) (f : Name) (statics : List Static) (es : Exprs)
    (c : Instance) → IsCallOf P here k n f statics es c → (x : Name) (g : Name × Name) →
    found_in (given_inputs c.node.inputs es) x ≡ Some g → IsVariable here.node g.1 →
    of c.path x ≡ of here.path g.1)
    (of_result :
    (here : Instance) (k : Clock) (n : ℕ) (f : Name) (statics : List Static) (es : Exprs)
    (c : Instance) → IsCallOf P here k n f statics es c → (lefts : List Name) →
    IsRightOf P here n f statics es lefts → (x : Name) (g : Name × Name) →
    found_in (given_outputs c.node.outputs lefts) x ≡ Some g → of c.path x ≡ of here.path g.1)
  where
    -- ## A call

    module _ (here : Instance) (k : Clock) (n : ℕ) (f : Name) (statics : List Static) (es : Exprs)
        (c : Instance) (call : IsCallOf P here k n f statics es c) where
      by_statement :
          (s : Statement) (q : Occurrence) → In (s, q) (statements P here.node) →
          q.expr ≡ right_side s →
          at q.clock q.calls_before (ungrouped q.expr) ≡ at k n (Call f statics es) →
          (x : Name) (g : Name × Name) →
          found_in (given_outputs c.node.outputs (left_names s)) x ≡ Some g →
          of c.path x ≡ of here.path g.1
      by_statement (Assertion e) q on right is x g found =
          absurd (none_given_by_name c.node.outputs x g found)
      by_statement (Equation lefts e) q on right is x g found =
          of_result here k n f statics es c call lefts
          (record {
            right = e;
            occurrence = q;
            stands = on;
            is = ap ungrouped (sym right) ∙ ap (λ (z : Occurrence). z.expr) is;
            number = ap (λ (z : Occurrence). z.calls_before) is;
          }) x g found

      by_result :
          (x : Name) (g : Name × Name) →
          found_in (given_outputs c.node.outputs (lefts_at P here.node n)) x ≡ Some g →
          of c.path x ≡ of here.path g.1
      by_result x g found =
          by (lefts_are P here.node (at k n (Call f statics es)) call.occurs refl)
        where
          by : ((r : IsRightSide P here.node (at k n (Call f statics es)))
              × (lefts_at P here.node n ≡ left_names r.statement.0))
              ⊎ (lefts_at P here.node n ≡ []) → of c.path x ≡ of here.path g.1
          by (inl r) =
              by_statement r.0.statement.0 r.0.statement.1 r.0.stands r.0.own.expr r.0.is x g
              (subst (λ xs. found_in (given_outputs c.node.outputs xs) x ≡ Some g) r.1 found)
          by (inr no_lefts) =
              absurd (none_given_by_name c.node.outputs x g
              (subst (λ xs. found_in (given_outputs c.node.outputs xs) x ≡ Some g) no_lefts found))

      -- a name that is given a variable has the value of this variable
      by_call :
          node_named P f ≡ Some c.node → (x : Name) (g : Name × Name) →
          found_in (given_parameters c.node es (lefts_at P here.node n)) x ≡ Some g →
          of c.path x ≡ of here.path g.1
      by_call named x g found =
          by
          (given_variable P accepted checked here call.stands k n (Call f statics es)
          call.occurs x g
          (ap (λ z. found_in (listed (λ m. given_parameters m es (lefts_at P here.node n)) z) x)
          named
          ∙ found))
          (found_in (given_inputs c.node.inputs es) x) refl
          (all_found P accepted checked here call.stands k n f statics es call.occurs c.node
          named x g
          found)
        where
          by : IsVariable here.node g.1 → (z : Option (Name × Name)) →
              found_in (given_inputs c.node.inputs es) x ≡ z →
              found_in
              (given_inputs c.node.inputs es
              ++ given_outputs c.node.outputs (lefts_at P here.node n)) x ≡ Some g →
              of c.path x ≡ of here.path g.1
          by variable None is all =
              by_result x g
              (sym (given_after (given_inputs c.node.inputs es)
              (given_outputs c.node.outputs (lefts_at P here.node n)) x is) ∙ all)
          by variable (Some h) is all =
              of_argument here k n f statics es c call x g
              (sym (same_before (given_inputs c.node.inputs es)
              (given_outputs c.node.outputs (lefts_at P here.node n)) x (h, is)) ∙ all) variable

    -- the one instance of a call is at index 0
    only_index :
        (here : Instance) (o : Occurrence) → In o (node_occurrences P here.node) → (f : Name)
        (statics : List Static) (es : Exprs) → o.expr ≡ Call f statics es → (site : Site)
        (count index : ℕ) → slice_get (node_sites here.node) o.calls_before ≡ Some site →
        instance_count P here site.count ≡ Some count → index < count →
        (site ≡ call_site f statics) × (index ≡ 0)
    only_index here o i f statics es is site count index at_site counts lower =
        let there = site_is P here.node o (call_site f statics) i (ap own_site is) in
        let same : site ≡ call_site f statics = same_Some _ _ (sym at_site ∙ there) in
        let one : Some count ≡ Some 1 =
        sym counts ∙ ap (λ (s : Site). instance_count P here s.count) same in
        let single = same_Some count 1 one in
        (same, omega (arith, lower, single))

    -- ## Variables that serve

    module _ (here : Instance) (stands : In here (instances P)) (c : Instance)
        (c_stands : In c (instances P)) (site : Site) (call count index : ℕ)
        (at_site : slice_get (node_sites here.node) call ≡ Some site)
        (counts : instance_count P here site.count ≡ Some count) (lower : index < count)
        (gives : callee_of P here site call index ≡ Some c) (x : Name) (g : Name × Name) where
      named_call :
          (o : Occurrence) → In o (node_occurrences P here.node) → o.calls_before ≡ call →
          (f : Name) (statics : List Static) (es : Exprs) → o.expr ≡ Call f statics es →
          (n : Option Node) → node_named P f ≡ n →
          found_in (listed (λ m. given_parameters m es (lefts_at P here.node call)) n) x ≡ Some g →
          of c.path x ≡ of here.path g.1
      named_call o on number f statics es e None named found = absurd (none-some g found)
      named_call o on number f statics es e (Some callee) named found =
          let single = only_index here o on f statics es e site count index
          (ap (slice_get (node_sites here.node)) number ∙ at_site) counts lower in
          let gives_it : callee_of P here (call_site f statics) call 0 ≡ Some c =
          ap₂ (λ s i. callee_of P here s call i) (sym single.0) (sym single.1) ∙ gives in
          let occurs : In (at o.clock call (Call f statics es)) (node_occurrences P here.node) =
          subst (λ z. In z (node_occurrences P here.node))
          (ap₂ (λ m z. at o.clock m z) number e) on in
          let node = callee_node P here (call_site f statics) call 0 c gives_it in
          let same : callee ≡ c.node = same_Some callee c.node (sym named ∙ node) in
          by_call here o.clock call f statics es c
          (record { stands = stands; occurs = occurs; callee_stands = c_stands; gives = gives_it })
          node x g
          (subst (λ m. found_in (given_parameters m es (lefts_at P here.node call)) x ≡ Some g) same
          found)

      one_call :
          (o : Occurrence) → In o (node_occurrences P here.node) → o.calls_before ≡ call →
          found_in (given_to P here.node call o.expr) x ≡ Some g → of c.path x ≡ of here.path g.1
      one_call o on number found =
          let is = giving_call P here.node call o.expr x g found in
          named_call o on number is.name is.statics is.arguments is.is (node_named P is.name) refl
          (subst (λ z. found_in (given_to P here.node call z) x ≡ Some g) is.is found)

      numbered_call :
          (o : Option Occurrence) → call_at P here.node call ≡ o →
          found_in (listed (λ o. given_to P here.node call o.expr) o) x ≡ Some g →
          of c.path x ≡ of here.path g.1
      numbered_call None is found = absurd (none-some g found)
      numbered_call (Some o) is found =
          let on = call_found P accepted checked here stands call o is in
          one_call o on.0 on.1 found

    given_same :
        (p : Path) (call index : ℕ) (c : Instance) → instance_at P (Child p call index) ≡ Some c →
        (x : Name) (g : Name × Name) → found_in (given_at P (instance_at P p) call) x ≡ Some g →
        of (Child p call index) x ≡ of p g.1
    given_same p call index c at x g found =
        let k = called P p call index c at in
        let kept = instantiation_kept P accepted in
        let up = in_instances P kept p k.caller k.above in
        let down = in_instances P kept (Child p call index) c at in
        let own = path_is P (Child p call index) c at in
        let above = path_is P p k.caller k.above in
        ap (λ q. of q x) (sym own)
        ∙ numbered_call k.caller up c down k.site call k.count index k.stands k.counts k.lower
        k.gives
        x g (call_at P k.caller.node call) refl
        (ap (λ z. found_in (given_at P z call) x) (sym k.above) ∙ found)
        ∙ ap (λ q. of q g.1) above

    -- a variable has the value of the variable that serves for it in a clock
    pub serving_same :
        (p : Path) (c : Instance) → instance_at P p ≡ Some c → (x : Name) →
        of p x ≡ of (serving P p x).0 (serving P p x).1
    serving_same Root c at x = refl
    serving_same Observer c at x = refl
    serving_same (Child p call index) c at x =
        let k = called P p call index c at in
        by (serving_same p k.caller k.above) (found_in (given_at P (instance_at P p) call) x) refl
      where
        by : ((y : Name) → of p y ≡ of (serving P p y).0 (serving P p y).1) →
            (o : Option (Name × Name)) → found_in (given_at P (instance_at P p) call) x ≡ o →
            of (Child p call index) x
            ≡ of (serves (Child p call index) x o (serving P p)).0
            (serves (Child p call index) x o (serving P p)).1
        by again None is = refl
        by again (Some g) is = given_same p call index c at x g is ∙ again g.1
