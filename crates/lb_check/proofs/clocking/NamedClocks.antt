-- The clocks in the text of a node, and those that its expressions determine, wait for its
-- variables.
use Rattle.lb_check.proofs.Words
use Words.{map-append, ◌≡◌, ℕ, zero, suc, Bool, true, false, cond, List, [], ◌∷◌, ◌++◌, length, map}
use Words.{Option, Some, None, refl, ap, sym, ◌∙◌, subst, ◌&&◌, ◌||◌, IfSome, option_map, list_all}
use Words.{bytes_eq, bytes_eq-Decides, or_right, ◌>>=◌, Every, either_or, holds, listed, or_else}
use Words.{both_ways, inl, inr, bind_some, and_first, and_second, implied, among, variable_names}
use Words.{variables, named, Clock, On, Given, sampled, clock_within, variable_clock, clock_or}
use Words.{declared_clock, parent, above, own_depth, given_name, outer, given_inputs, base_from}
use Words.{base_clock, first_result_clock, argument_clocks, is_clocked_by, are_declared_clocks}
use Words.{is_given_variable, are_given_variables, ◌+◌, ◌<◌, arith, Node_named, Symbol, Expr, Group}
use Words.{Unary, Binary, If, Arrow, Fby, Pre, Current, When, Replicate, Index, Slice, Join, Array}
use Words.{AtMostOne, Nor, Call, Iterate, Nil, Cons, Program, Instance, Site, sites, sites_in}
use Words.{numbered_sites, node_named, instance_count, callee_of, static_count, DataType}
use Words.{is_call_clocked, if_node, is_occurrence_clocked, clock_of, each_clock, called_clock}
use Words.{base_from_arguments, Occurrence, call_count, call_clocks, occurrences, occurrences_in}
use Words.{occurrences_each, data_types, all_types, from_one, from_truths, unary_type, binary_type}
use Words.{common_type, array_of, index_type, slice_type, join_type, operator_types, Name, Exprs}
use Words.{Declaration, Node}
use Rattle.lb_syntax.{specs.Tree.{Sampling, Literal, Truth, Variable}, proofs.SameNames.name_same}
use Rattle.lb_check.specs.{ClockRules.if_clocked, Clocks.{Base, first_clock}}
use Rattle.lb_check.proofs.clocking.OwnClocks.{clock_found}
use Rattle.{lb_static.proofs.Scopes.among_append, lb_syntax.proofs.TruthValues.or_nothing}
use Rattle.lb_check.proofs.lists.Members.{Every-tested, Every-both, Every-first, Every-second}
use Rattle.lb_check.proofs.typing.OperandTypes.{bound, one, two, from_true, first_of_all, placed}
use Rattle.lb_check.proofs.typing.OperandTypes.{one_output}

-- The clocks in the text of a node that keeps the rules of clocks wait for its variables alone.

-- ## Options

pub either :
    {A : Type 0} (Q : A → Type 0) (o p : Option A) → IfSome o Q → IfSome p Q →
    IfSome (or_else o p) Q
either Q (Some a) p h g = h
either Q None p h g = g

pub if_some :
    {A : Type 0} (Q : A → Type 0) (o : Option A) → ((a : A) → o ≡ Some a → Q a) → IfSome o Q
if_some Q None h = tt
if_some Q (Some a) h = h a refl

-- ## The declaration that is found by a name

-- a statement on all declarations holds of the one that is found by its name
pub named_every :
    (E : Declaration → Type 0) (x : Name) (ds : List Declaration) (v : Declaration) →
    Every E ds → named (λ d. d.name) x ds ≡ Some v → E v × (bytes_eq v.name x ≡ true)
named_every E x [] v all e = absurd cc
named_every E x (d ∷ ds) v all e = by (named_every E x ds v all.1) (bytes_eq d.name x) refl e
  where
    by : (named (λ d. d.name) x ds ≡ Some v → E v × (bytes_eq v.name x ≡ true)) → (b : Bool) →
        bytes_eq d.name x ≡ b → cond b (Some d) (named (λ d. d.name) x ds) ≡ Some v →
        E v × (bytes_eq v.name x ≡ true)
    by rest true same h =
        let one : d ≡ v = cc in
        subst (λ w. E w × (bytes_eq w.name x ≡ true)) one (all.0, same)
    by rest false other h = rest h

module _ (V : Name → Type 0) where
  -- a statement on the names of all declarations holds of a name among these names
  pub among_has :
      (x : Name) (ds : List Declaration) → Every (λ d. V d.name) ds →
      among x (map (λ d. d.name) ds) ≡ true → V x
  among_has x [] all e = absurd cc
  among_has x (d ∷ ds) all e = by (among_has x ds all.1) (bytes_eq x d.name) refl e
    where
      by : (among x (map (λ d. d.name) ds) ≡ true → V x) → (b : Bool) → bytes_eq x d.name ≡ b →
          (b || among x (map (λ d. d.name) ds)) ≡ true → V x
      by rest true same h = subst V (sym (name_same x d.name same)) all.0
      by rest false other h = rest h

  pub named_has :
      (x : Name) (ds : List Declaration) (v : Declaration) → Every (λ d. V d.name) ds →
      named (λ d. d.name) x ds ≡ Some v → V x
  named_has x ds v all e =
      let found = named_every _ x ds v all e in
      subst V (name_same v.name x found.1) found.0

same_turned : (x y : Name) → bytes_eq x y ≡ true → bytes_eq y x ≡ true
same_turned x y e = (bytes_eq-Decides y x).1 (sym (name_same x y e))

pub bytes_turned : (x y : Name) → bytes_eq x y ≡ bytes_eq y x
bytes_turned x y = both_ways _ _ (same_turned x y) (same_turned y x)

-- a statement on the first declarations holds of the one that is found by one of their names
pub found_first :
    (E : Declaration → Type 0) (x : Name) (ds rest : List Declaration) (v : Declaration) →
    Every E ds → among x (map (λ d. d.name) ds) ≡ true →
    named (λ d. d.name) x (ds ++ rest) ≡ Some v → E v
found_first E x [] rest v all e is = absurd cc
found_first E x (d ∷ ds) rest v all e is =
    by (found_first E x ds rest v all.1) (bytes_eq d.name x) refl is
  where
    by : (among x (map (λ d. d.name) ds) ≡ true →
        named (λ d. d.name) x (ds ++ rest) ≡ Some v → E v) → (b : Bool) → bytes_eq d.name x ≡ b →
        cond b (Some d) (named (λ d. d.name) x (ds ++ rest)) ≡ Some v → E v
    by next true same h = let one : d ≡ v = cc in subst E one all.0
    by next false other h =
        let differs = bytes_turned x d.name ∙ other in
        next (sym (ap (λ b. b || among x (map (λ d. d.name) ds)) differs) ∙ e) h

-- a name among none of the first declarations finds the next one, where that has the name
found_next :
    (x : Name) (ds : List Declaration) (d : Declaration) (rest : List Declaration) →
    among x (map (λ d. d.name) ds) ≡ false → bytes_eq d.name x ≡ true →
    named (λ d. d.name) x (ds ++ (d ∷ rest)) ≡ Some d
found_next x [] d rest e is = ap (λ b. cond b (Some d) (named (λ d. d.name) x rest)) is
found_next x (c ∷ ds) d rest e is =
    by (λ h. found_next x ds d rest h is) (bytes_eq x c.name) refl e
  where
    by : (among x (map (λ d. d.name) ds) ≡ false →
        named (λ d. d.name) x (ds ++ (d ∷ rest)) ≡ Some d) → (b : Bool) → bytes_eq x c.name ≡ b →
        (b || among x (map (λ d. d.name) ds)) ≡ false →
        named (λ d. d.name) x (c ∷ (ds ++ (d ∷ rest))) ≡ Some d
    by next true same h = absurd cc
    by next false differs h =
        ap (λ b. cond b (Some c) (named (λ d. d.name) x (ds ++ (d ∷ rest))))
        (bytes_turned c.name x ∙ differs)
        ∙ next h

-- a name among declarations and one more, and among none of the first, is that of the last
last_name :
    (x : Name) (ds : List Declaration) (d : Declaration) →
    among x (map (λ d. d.name) ds) ≡ false →
    among x (map (λ d. d.name) (ds ++ (d ∷ []))) ≡ true → bytes_eq x d.name ≡ true
last_name x ds d none e =
    let split = ap (among x) (map-append (λ (d : Declaration). d.name) ds (d ∷ []))
    ∙ among_append x (map (λ d. d.name) ds) (d.name ∷ [])
    ∙ ap (λ b. b || among x (d.name ∷ [])) none in
    or_nothing (bytes_eq x d.name) ∙ sym split ∙ e

-- the name of each declaration is among the names of all
pub own_names : (ds : List Declaration) → Every (λ d. among d.name (map (λ d. d.name) ds) ≡ true) ds
own_names ds = from ds (λ x e. e)
  where
    from : (cs : List Declaration) →
        ((x : Name) → among x (map (λ d. d.name) cs) ≡ true →
        among x (map (λ d. d.name) ds) ≡ true) →
        Every (λ d. among d.name (map (λ d. d.name) ds) ≡ true) cs
    from [] h = tt
    from (c ∷ cs) h = (
      h c.name (ap (λ b. b || among c.name (map (λ d. d.name) cs))
          ((bytes_eq-Decides c.name c.name).1 refl)),
      from cs (λ x e. h x (or_right (bytes_eq x c.name) _ e)),
    )

-- a declaration that waits for one of `ds` is clocked by `ds`
only_clock :
    (ds : List Declaration) (d : Declaration) (s : Sampling) → d.clock ≡ Some s →
    among s.variable (map (λ v. v.name) ds) ≡ true → is_clocked_by ds d ≡ true
only_clock ds d s is e =
    subst
    (λ o. list_all (λ s. among s.variable (map (λ v. v.name) ds)) (listed (λ s. s ∷ []) o) ≡ true)
    (sym is) (ap (λ b. b && true) e)

-- ## Clocks over some names

-- `V` holds of each variable of a clock
abbrev pub IsOver : (Name → Type 0) → Clock → Type 0
IsOver V Base = Unit {0}
IsOver V (On k x sign) = IsOver V k × V x

module _ (V : Name → Type 0) where
  pub above_over : (n : ℕ) (k : Clock) → IsOver V k → IsOver V (above n k)
  above_over zero k h = h
  above_over (suc n) Base h = tt
  above_over (suc n) (On k x sign) h = above_over n k h.0

  pub parent_over : (o : Option Clock) → IfSome o (IsOver V) → IfSome (o >>= parent) (IsOver V)
  parent_over None h = tt
  parent_over (Some Base) h = tt
  parent_over (Some (On k x sign)) h = h.0

  pub clock_or_over : (o : Option Clock) → IfSome o (IsOver V) → IsOver V (clock_or o)
  clock_or_over None h = tt
  clock_or_over (Some k) h = h

  pub outer_over :
      (k : Clock) (given : Given) (own : Clock) → IsOver V k →
      IsOver (λ x. V (given_name given x)) own → IsOver V (outer k given own)
  outer_over k given Base h own = h
  outer_over k given (On b x sign) h own = (outer_over k given b h own.0, own.1)

  pub base_over : (k : Clock) (n : Node) → IsOver V k → IsOver V (base_clock k n)
  base_over k n h = by n.outputs
    where
      by : (ds : List Declaration) → IsOver V (base_from k n ds)
      by [] = h
      by (d ∷ ds) = above_over _ k h

-- ## Declared clocks

-- a statement on each variable that a variable waits for holds of all that its clock waits for
module _ (V : Name → Type 0) (vars : List Declaration) (E : Declaration → Type 0)
    (waits : (d : Declaration) (s : Sampling) (v : Declaration) → E d → d.clock ≡ Some s →
    named (λ v. v.name) s.variable vars ≡ Some v → V s.variable × E v) where
  pub within_over :
      (n : ℕ) (d : Declaration) (k : Clock) → E d → clock_within n vars d ≡ Some k → IsOver V k
  within_over zero d k h e = absurd cc
  within_over (suc n) d k h e =
      elim (clock_found n vars d k e) [
        | inl free ↦ subst (IsOver V) free.1 tt
        | inr b ↦
            let w = waits d b.waits b.variable h b.has b.found in
            subst (IsOver V) b.on (within_over n b.variable b.clock w.1 b.is, w.0)
      ]

  pub named_over :
      (n : ℕ) (x : Name) → ((v : Declaration) → named (λ v. v.name) x vars ≡ Some v → E v) →
      IfSome (named (λ v. v.name) x vars >>= clock_within n vars) (IsOver V)
  named_over n x h =
      if_some _ _ (λ k e.
      let v = bind_some _ _ k e in
      within_over n v.0 k (h v.0 v.1) v.2)

module _ (V : Name → Type 0) (n : Node) (all : Every (λ d. V d.name) (variables n)) where
  -- the clock of a variable is over the variables of its node
  pub variable_over : (x : Name) → IfSome (variable_clock n x) (IsOver V)
  variable_over x =
      named_over V (variables n) (λ d. Unit {0})
      (λ d s v h is found. (named_has V s.variable (variables n) v all found, tt))
      (suc (length (variables n))) x (λ v found. tt)

  pub declared_over : (x : Name) → IsOver V (declared_clock n x)
  declared_over x = clock_or_over V (variable_clock n x) (variable_over x)

  -- the clock of `when` is over the variables of the node
  pub when_over : (x : Name) (sign : Bool) →
      IfSome (option_map (λ k. On k x sign) (variable_clock n x)) (IsOver V)
  when_over x sign = by (variable_clock n x) refl (variable_over x)
    where
      by : (o : Option Clock) → variable_clock n x ≡ o → IfSome o (IsOver V) →
          IfSome (option_map (λ k. On k x sign) o) (IsOver V)
      by None is h = tt
      by (Some k) is h =
          let v = bind_some (named (λ d. d.name) x (variables n))
          (clock_within (suc (length (variables n))) (variables n)) k is in
          (h, named_has V x (variables n) v.0 all v.1)

-- ## The variables that a call is given

-- a test on the clock of a declaration holds of the clock that it has
pub one_clock :
    (test : Sampling → Bool) (d : Declaration) (s : Sampling) → if_clocked test d ≡ true →
    d.clock ≡ Some s → test s ≡ true
one_clock test d s e is =
    and_first (test s) true
    (subst (λ o. list_all test (listed (λ s. s ∷ []) o) ≡ true) is e)

-- `Seen` holds of all that the clock of an input waits for, where it holds of each input for which
-- a variable of the caller is given
module _ (Seen : Name → Type 0) (here callee : Node) (es : Exprs)
    (declared : are_declared_clocks callee ≡ true)
    (is_given : are_given_variables here callee es ≡ true)
    (seen : (x : Name) (g : Name × Name) →
    named (λ g. g.0) x (given_inputs callee.inputs es) ≡ Some g →
    among g.1 (variable_names here) ≡ true → Seen x) where
  abbrev given : Given
  given = given_inputs callee.inputs es

  -- a parameter waits for inputs alone, and is given a variable for the one that it waits for
  abbrev Waits : Declaration → Type 0
  Waits d = (is_clocked_by callee.inputs d ≡ true) × (is_given_variable here callee given d ≡ true)

  inputs_wait : Every Waits callee.inputs
  inputs_wait =
      Every-both _ _ callee.inputs (Every-tested _ callee.inputs (and_first _ _ declared))
      (Every-first _ callee.inputs
      callee.outputs (Every-tested _ _
      is_given))

  -- `Seen` holds of an awaited input that is given a variable of the caller
  given_there :
      (x : Name) (o : Option (Name × Name)) → named (λ g. g.0) x given ≡ o →
      holds (λ g. among g.1 (variable_names here)) o ≡ true → Seen x
  given_there x None is e = absurd cc
  given_there x (Some g) is e = seen x g is e

  abbrev input_names : List Name
  input_names = map (λ d. d.name) callee.inputs

  waited_given : (d : Declaration) (s : Sampling) → is_given_variable here callee given d ≡ true →
      d.clock ≡ Some s → among s.variable input_names ≡ true → Seen s.variable
  waited_given d s w is e =
      let test = one_clock _
      d s w is in
      given_there s.variable _ refl (implied _ _ test e)

  waits :
      (d : Declaration) (s : Sampling) (v : Declaration) → Waits d → d.clock ≡ Some s →
      named (λ v. v.name) s.variable (variables callee) ≡ Some v → Seen s.variable × Waits v
  waits d s v w is found =
      let e = one_clock _ d s w.0 is in (
        waited_given d s w.1 is e,
        found_first Waits s.variable callee.inputs _ v inputs_wait
            e found,
      )

  -- `Seen` holds of each variable of the clock of an input
  pub input_over : (x : Name) → among x input_names ≡ true → IsOver Seen (declared_clock callee x)
  input_over x e =
      clock_or_over Seen (variable_clock callee x)
      (named_over Seen (variables callee) Waits waits (suc (length (variables callee))) x
      (λ v found. found_first Waits x callee.inputs (callee.outputs ++ callee.locals) v inputs_wait
      e found))

  -- ## The clock of the one result

  module _ (d : Declaration) (one : callee.outputs ≡ d ∷ []) where
    abbrev vars : List Declaration
    vars = variables callee

    all_are : vars ≡ callee.inputs ++ (d ∷ callee.locals)
    all_are = ap (λ outs. callee.inputs ++ (outs ++ callee.locals)) one

    output_found : (x : Name) → among x input_names ≡ false → bytes_eq d.name x ≡ true →
        named (λ d. d.name) x vars ≡ Some d
    output_found x none is =
        ap (named (λ d. d.name) x) all_are ∙ found_next x callee.inputs d callee.locals none is

    -- a variable that waits for itself has no clock
    circle : (s : Sampling) → d.clock ≡ Some s →
        named (λ v. v.name) s.variable vars ≡ Some d → (m : ℕ) → clock_within m vars d ≡ None
    circle s is found zero = refl
    circle s is found (suc m) =
        ap (sampled (clock_within m vars) vars) is
        ∙ ap (λ o. o >>= λ v. clock_within m vars v >>= λ k. Some (On k s.variable s.sign)) found
        ∙ ap (λ o. o >>= λ k. Some (On k s.variable s.sign)) (circle s is found m)

    clocked : is_clocked_by (callee.inputs ++ callee.outputs) d ≡ true
    clocked =
        let outs = and_first _ _ (and_second _ _ declared) in
        and_first _ true
        (subst (λ ds. list_all (is_clocked_by (callee.inputs ++ callee.outputs)) ds ≡ true) one
        outs)

    is_given_output : is_given_variable here callee given d ≡ true
    is_given_output =
        let all_given = Every-second _
        callee.inputs callee.outputs (Every-tested _ _
        is_given) in
        (subst (Every (λ d. is_given_variable here callee given d ≡ true)) one all_given).0

    itself : (x : Name) → among x input_names ≡ false →
        among x (map (λ v. v.name) (callee.inputs ++ (d ∷ []))) ≡ true → bytes_eq d.name x ≡ true
    itself x none e = same_turned x d.name (last_name x callee.inputs d none e)

    output_within : (m : ℕ) → IfSome (clock_within m vars d) (IsOver Seen)
    output_within m = by d.clock refl
      where
        waiting : (s : Sampling) → d.clock ≡ Some s → (b : Bool) →
            among s.variable input_names ≡ b → IfSome (clock_within m vars d) (IsOver Seen)
        waiting s is true e =
            let own : is_clocked_by callee.inputs d ≡ true = only_clock callee.inputs d s is e in
            if_some _ _ (λ k. within_over Seen vars Waits waits m d k (own, is_given_output))
        waiting s is false e =
            let some = one_clock _ d s clocked is in
            let there = subst (λ outs. among s.variable (map (λ v. v.name)
            (callee.inputs ++ outs)) ≡ true) one some in
            let found = output_found s.variable e (itself s.variable e there) in
            subst (λ o. IfSome o (IsOver Seen)) (sym (circle s is found m)) tt

        by : (o : Option Sampling) → d.clock ≡ o → IfSome (clock_within m vars d) (IsOver Seen)
        by None is = free m
          where
            free : (m : ℕ) → IfSome (clock_within m vars d) (IsOver Seen)
            free zero = tt
            free (suc m) =
                subst (λ o. IfSome (sampled (clock_within m vars) vars o) (IsOver Seen)) (sym is)
                tt
        by (Some s) is = waiting s is (among s.variable input_names) refl

    -- `Seen` holds of each variable of the clock of the one output
    pub output_over : IsOver Seen (declared_clock callee d.name)
    output_over = by (among d.name input_names) refl
      where
        by : (b : Bool) → among d.name input_names ≡ b → IsOver Seen (declared_clock callee d.name)
        by true e = input_over d.name e
        by false e =
            let n = suc (length vars) in
            let found = output_found d.name e ((bytes_eq-Decides d.name d.name).1 refl) in
            let same : variable_clock callee d.name ≡ clock_within n vars d =
            ap (λ o. o >>= clock_within n vars) found in
            clock_or_over Seen (variable_clock callee d.name)
            (subst (λ o. IfSome o (IsOver Seen)) (sym same) (output_within n))

-- the clocks of a call, as the caller sees them
module _ (V : Name → Type 0) (here callee : Node) (es : Exprs)
    (all : Every (λ d. V d.name) (variables here))
    (declared : are_declared_clocks callee ≡ true)
    (is_given : are_given_variables here callee es ≡ true) where
  -- `V` holds of the variable of the caller that stands for variable `x` of the callee
  abbrev SeenOver : Name → Type 0
  SeenOver x = V (given_name (given_inputs callee.inputs es) x)

  seen_over :
      (x : Name) (g : Name × Name) →
      named (λ g. g.0) x (given_inputs callee.inputs es) ≡ Some g →
      among g.1 (variable_names here) ≡ true → SeenOver x
  seen_over x g is e =
      subst V (sym (ap (λ o. either_or (option_map (λ g. g.1) o) x) is)) (among_has V g.1 _ all e)

  -- `V` holds of each variable of the clocks of the arguments
  pub arguments_over : (k : Clock) → IsOver V k → Every (IsOver V) (argument_clocks k callee es)
  arguments_over k h = by callee.inputs (own_names callee.inputs)
    where
      by : (ds : List Declaration) →
          Every (λ d. among d.name (map (λ i. i.name) callee.inputs) ≡ true) ds →
          Every (IsOver V)
          (map (λ d. outer (base_clock k callee) (given_inputs callee.inputs es)
          (declared_clock callee d.name)) ds)
      by [] own = tt
      by (d ∷ ds) own = (
        outer_over V (base_clock k callee) (given_inputs callee.inputs es)
            (declared_clock callee d.name) (base_over V k callee h)
            (input_over SeenOver here callee es declared is_given seen_over d.name own.0),
        by ds own.1,
      )

  -- `V` holds of each variable of the clock of the one result
  pub result_over :
      (d : Declaration) → callee.outputs ≡ d ∷ [] → (k : Clock) → IsOver V k →
      IsOver V (first_result_clock k callee (given_inputs callee.inputs es) callee.outputs)
  result_over d one k h =
      subst (λ outs. IsOver V (first_result_clock k callee (given_inputs callee.inputs es) outs))
      (sym one)
      (outer_over V k (given_inputs callee.inputs es) (declared_clock callee d.name) h
      (output_over SeenOver here callee es declared is_given seen_over d one))

-- The clock that something inside an expression determines is over the variables of its node.

-- the number of instances of a call; 0 where its count has no value
abbrev pub count_of : Program → Instance → Site → ℕ
count_of P here s = either_or (instance_count P here s.count) 0

-- a call has an instance, and `Q` holds of each of its instances
abbrev pub OfCalled : Program → Instance → (Instance → Type 0) → ℕ × Site → Type 0
OfCalled P here Q s =
    (0 < count_of P here s.1)
    × ((i : ℕ) → i < count_of P here s.1 → (c : Instance) →
    callee_of P here s.1 s.0 i ≡ Some c → Q c)

-- ## The calls of the parts of a text

module _ (S : ℕ × Site → Type 0) where
  abbrev pub Sited : ℕ → List Site → Type 0
  Sited n ss = Every S (numbered_sites n ss)

  pub sited_first : (n : ℕ) (ss ts : List Site) → Sited n (ss ++ ts) → Sited n ss
  sited_first n [] ts h = tt
  sited_first n (s ∷ ss) ts h = (h.0, sited_first (suc n) ss ts h.1)

  pub sited_second : (n : ℕ) (ss ts : List Site) → Sited n (ss ++ ts) → Sited (n + length ss) ts
  sited_second n [] ts h = let e : n ≡ n + 0 = omega arith in subst (λ m. Sited m ts) e h
  sited_second n (s ∷ ss) ts h =
      let e : suc n + length ss ≡ n + suc (length ss) = omega arith in
      subst (λ m. Sited m ts) e (sited_second (suc n) ss ts h.1)

  pub sited_after : (n : ℕ) (ss : List Site) → Sited (suc n) ss → Sited (n + 1) ss
  sited_after n ss h = let e : suc n ≡ n + 1 = omega arith in subst (λ m. Sited m ss) e h

-- the node with name `f` passes the test that all nodes of this name pass
pub called_passes :
    (P : Program) (test : Node → Bool) (f : Name) (n : Node) → if_node P test f ≡ true →
    node_named P f ≡ Some n → test n ≡ true
called_passes P test f n e is =
    and_first (test n) true
    (subst (λ o. list_all test (listed (λ n. n ∷ []) o) ≡ true) is e)

module _ (P : Program) (here : Instance) (Q : Instance → Type 0) where
  abbrev pub Lawful : Occurrence → Type 0
  Lawful o = is_occurrence_clocked P here.node o ≡ true

  abbrev pub AllLawful : List Occurrence → Type 0
  AllLawful os = Every Lawful os

  abbrev pub AreSited : ℕ → List Site → Type 0
  AreSited n ss = Sited (OfCalled P here Q) n ss

  pub fore : (os os' : List Occurrence) → AllLawful (os ++ os') → AllLawful os
  fore os os' h = Every-first Lawful os os' h

  pub aft : (os os' : List Occurrence) → AllLawful (os ++ os') → AllLawful os'
  aft os os' h = Every-second Lawful os os' h

  -- the first of two operands is lawful and sited where both are, and below the second
  pub left :
      (k : Clock) (n : ℕ) (a b : Expr) →
      AllLawful (occurrences P here.node k n a ++ occurrences P here.node k (n + call_count a) b) →
      AreSited n (sites a ++ sites b) →
      AllLawful (occurrences P here.node k n a) × AreSited n (sites a)
  left k n a b h s = (
    fore _ _ h,
    sited_first _ n _ _ s,
  )

  pub right :
      (k : Clock) (n : ℕ) (a b : Expr) →
      AllLawful (occurrences P here.node k n a ++ occurrences P here.node k (n + call_count a) b) →
      AreSited n (sites a ++ sites b) →
      AllLawful (occurrences P here.node k (n + call_count a) b)
      × AreSited (n + call_count a) (sites b)
  right k n a b h s = (
    aft _ _ h,
    sited_second _ n _ _ s,
  )

module _ (P : Program) (here : Instance) (V : Name → Type 0)
    (all : Every (λ d. V d.name) (variables here.node)) (Q : Instance → Type 0)
    (declared : (c : Instance) → Q c → are_declared_clocks c.node ≡ true) where
  abbrev AreLawful : List Occurrence → Type 0
  AreLawful os = AllLawful P here Q os

  abbrev SitesHold : ℕ → List Site → Type 0
  SitesHold n ss = AreSited P here Q n ss

  abbrev Over : Option Clock → Type 0
  Over o = IfSome o (IsOver V)

  either_over : (o p : Option Clock) → Over o → Over p → Over (or_else o p)
  either_over o p a b = either (IsOver V) o p a b

  mapped :
      (f : Clock → Clock) (o : Option Clock) →
      ((k : Clock) → IsOver V k → IsOver V (f k)) → Over o → Over (option_map f o)
  mapped f None each h = tt
  mapped f (Some k) each h = each k h

  base_first :
      (callee : Node) (d : Declaration) (ds : List Declaration) (o : Option Clock)
      (ks : List (Option Clock)) → Over o → Over (base_from_arguments callee ds ks) →
      Over (base_from_arguments callee (d ∷ ds) (o ∷ ks))
  base_first callee d ds None ks h rest = rest
  base_first callee d ds (Some k) ks h rest = above_over V (own_depth callee d) k h

  mutual
    pub determined :
        (k : Clock) (n : ℕ) (e : Expr) (t : DataType) → data_types P here e ≡ Some (t ∷ []) →
        AreLawful (occurrences P here.node k n e) → SitesHold n (sites e) →
        Over (clock_of P here.node e)
    determined k n (Literal m) t e h s = tt
    determined k n (Truth b) t e h s = tt
    determined k n (Variable x) t e h s = variable_over V here.node all x
    determined k n (Group a) t e h s = determined k n a t e h s
    determined k n (Unary op a) t e h s =
        let i = one (data_types P here a) (unary_type op) (t ∷ []) e in
        determined k n a i.data_type i.is h.1 s
    determined k n (Binary op a b) t e h s =
        let i = two (data_types P here a) (data_types P here b) (binary_type op) (t ∷ []) e in
        let l = left P here Q k n a b h.1 s in
        let r = right P here Q k n a b h.1 s in
        either_over _ _ (determined k n a i.first i.is_first l.0 l.1)
        (determined k (n + call_count a) b i.second i.is_second r.0 r.1)
    determined k n (If c a b) t e h s =
        let na = n + call_count c in
        let c_is = bound (from_truths (from_one (data_types P here c) Some)) _ (t ∷ []) e in
        let truths = from_true (from_one (data_types P here c) Some) c_is.value c_is.is in
        let z = one (data_types P here c) Some truths.data_types truths.is in
        let i = two (data_types P here a) (data_types P here b) common_type (t ∷ []) c_is.gives in
        let oc = occurrences P here.node k n c in
        let oa = occurrences P here.node k na a in
        let ob = occurrences P here.node k (na + call_count a) b in
        let rest = sited_second (OfCalled P here Q) n (sites c) (sites a ++ sites b) s in
        let branches = aft P here Q oc (oa ++ ob) h.1 in
        let l = left P here Q k na a b branches rest in
        let r = right P here Q k na a b branches rest in
        either_over _ _
        (determined k n c z.data_type z.is (fore P here Q oc (oa ++ ob) h.1)
        (sited_first (OfCalled P here Q) n (sites c) (sites a ++ sites b) s))
        (either_over _ _ (determined k na a i.first i.is_first l.0 l.1)
        (determined k (na + call_count a) b i.second i.is_second r.0 r.1))
    determined k n (Arrow a b) t e h s =
        let i = two (data_types P here a) (data_types P here b) common_type (t ∷ []) e in
        let l = left P here Q k n a b h.1 s in
        let r = right P here Q k n a b h.1 s in
        either_over _ _ (determined k n a i.first i.is_first l.0 l.1)
        (determined k (n + call_count a) b i.second i.is_second r.0 r.1)
    determined k n (Fby a b) t e h s =
        let i = two (data_types P here a) (data_types P here b) common_type (t ∷ []) e in
        let l = left P here Q k n a b h.1 s in
        let r = right P here Q k n a b h.1 s in
        either_over _ _ (determined k n a i.first i.is_first l.0 l.1)
        (determined k (n + call_count a) b i.second i.is_second r.0 r.1)
    determined k n (Pre a) t e h s =
        let i = one (data_types P here a) Some (t ∷ []) e in
        determined k n a i.data_type i.is h.1 s
    determined k n (Current a) t e h s =
        let i = one (data_types P here a) Some (t ∷ []) e in
        parent_over V (clock_of P here.node a)
        (determined (clock_or (clock_of P here.node a)) n a i.data_type i.is h.1 s)
    determined k n (When a x sign) t e h s = when_over V here.node all x sign
    determined k n (Replicate a m) t e h s =
        let c = bound (static_count P here m) _ (t ∷ []) e in
        let i = one (data_types P here a) (array_of c.value) (t ∷ []) c.gives in
        determined k n a i.data_type i.is h.1 s
    determined k n (Index a m) t e h s =
        let c = bound (static_count P here m) _ (t ∷ []) e in
        let i = one (data_types P here a) (index_type c.value) (t ∷ []) c.gives in
        determined k n a i.data_type i.is h.1 s
    determined k n (Slice a m l) t e h s =
        let c = bound (static_count P here m) _ (t ∷ []) e in
        let d = bound (static_count P here l) _ (t ∷ []) c.gives in
        let i = one (data_types P here a) (slice_type c.value d.value) (t ∷ []) d.gives in
        determined k n a i.data_type i.is h.1 s
    determined k n (Join a b) t e h s =
        let i = two (data_types P here a) (data_types P here b) join_type (t ∷ []) e in
        let l = left P here Q k n a b h.1 s in
        let r = right P here Q k n a b h.1 s in
        either_over _ _ (determined k n a i.first i.is_first l.0 l.1)
        (determined k (n + call_count a) b i.second i.is_second r.0 r.1)
    determined k n (Array es) t e h s =
        let b = bound (all_types P here es) _ (t ∷ []) e in
        first_determined k n es b.value b.is h.1 s
    determined k n (AtMostOne es) t e h s =
        let b = from_true (all_types P here es) (t ∷ []) e in
        first_determined k n es b.data_types b.is h.1 s
    determined k n (Nor es) t e h s =
        let b = from_true (all_types P here es) (t ∷ []) e in
        first_determined k n es b.data_types b.is h.1 s
    determined k n (Call f statics es) t e h s =
        let c = one_output P here f statics es t e in
        let p = placed P here f statics c.callee c.is in
        let callee = c.callee.node in
        let o = bound (operator_types P here (Node_named f statics)) _ (t ∷ []) e in
        let a = bound (all_types P here es) _ (t ∷ []) o.gives in
        let call = called_passes P (is_call_clocked here.node k es) f callee h.0 p.node in
        let given = and_first (are_given_variables here.node callee es) _ call in
        let known = declared _ (s.0.1 0 (omega arith) _ (p.at n 0)) in
        let rest = subst (λ o. AreLawful
        (occurrences_each P here.node (call_clocks k o es) (n + 1) es))
        p.node h.1 in
        let bases = base_determined callee
        (λ d. outer (base_clock k callee) (given_inputs callee.inputs es)
        (declared_clock callee d.name)) callee.inputs (n + 1) es a.value a.is rest
        (sited_after (OfCalled P here Q) n (sites_in es) s.1) in
        subst (λ o. Over (o >>= called_clock es (each_clock P here.node es))) (sym p.node)
        (mapped
        (λ b. first_result_clock b callee (given_inputs callee.inputs es) callee.outputs)
        (base_from_arguments callee callee.inputs (each_clock P here.node es))
        (result_over V here.node callee es all known given c.output c.one) bases)
    determined k n (Iterate it (Node_named f statics) m es) t e h s =
        let c = bound (static_count P here m) _ (t ∷ []) e in
        let o = bound (operator_types P here (Node_named f statics)) _ (t ∷ []) c.gives in
        let a = bound (all_types P here es) _ (t ∷ []) o.gives in
        first_determined k (n + 1) es a.value a.is h.1
        (sited_after (OfCalled P here Q) n (sites_in es) s.1)
    determined k n (Iterate it (Symbol op) m es) t e h s =
        let c = bound (static_count P here m) _ (t ∷ []) e in
        let o = bound (operator_types P here (Symbol op)) _ (t ∷ []) c.gives in
        let a = bound (all_types P here es) _ (t ∷ []) o.gives in
        first_determined k n es a.value a.is h.1 s

    first_determined :
        (k : Clock) (n : ℕ) (es : Exprs) (ts : List DataType) → all_types P here es ≡ Some ts →
        AreLawful (occurrences_in P here.node k n es) → SitesHold n (sites_in es) →
        Over (first_clock P here.node es)
    first_determined k n Nil ts e h s = tt
    first_determined k n (Cons a es) ts e h s =
        let i = first_of_all P here a es ts e in
        let oa = occurrences P here.node k n a in
        let ob = occurrences_in P here.node k (n + call_count a) es in
        either_over _ _
        (determined k n a i.first i.is (fore P here Q oa ob h)
        (sited_first (OfCalled P here Q) n (sites a) (sites_in es) s))
        (first_determined k (n + call_count a) es i.rest i.others (aft P here Q oa ob h)
        (sited_second (OfCalled P here Q) n (sites a) (sites_in es) s))

    -- the base clock of a callee is over the variables of the caller
    base_determined :
        (callee : Node) (f : Declaration → Clock) (ds : List Declaration) (n : ℕ) (es : Exprs)
        (ts : List DataType) → all_types P here es ≡ Some ts →
        AreLawful (occurrences_each P here.node (map f ds) n es) → SitesHold n (sites_in es) →
        Over (base_from_arguments callee ds (each_clock P here.node es))
    base_determined callee f [] n es ts e h s = tt
    base_determined callee f (d ∷ ds) n Nil ts e h s = tt
    base_determined callee f (d ∷ ds) n (Cons a es) ts e h s =
        let i = first_of_all P here a es ts e in
        let oa = occurrences P here.node (f d) n a in
        let ob = occurrences_each P here.node (map f ds) (n + call_count a) es in
        base_first callee d ds (clock_of P here.node a) (each_clock P here.node es)
        (determined (f d) n a i.first i.is (fore P here Q oa ob h)
        (sited_first (OfCalled P here Q) n (sites a) (sites_in es) s))
        (base_determined callee f ds (n + call_count a) es i.rest i.others (aft P here Q oa ob h)
        (sited_second (OfCalled P here Q) n (sites a) (sites_in es) s))
