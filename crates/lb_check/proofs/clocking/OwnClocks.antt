-- The clock of a declared variable stands one step below that of the variable that it waits for.
use Rattle.lb_check.proofs.Words
use Words.{Bool, Clock, Compared, Declaration, HasClocks, List, Name, None, On, Option}
use Words.{ResolvedNode, Sampling, Some, Variable, VariableId, [], all_at, and-true, and_second, ap}
use Words.{arith, awaited, beq, bind_some, bytes_eq, bytes_eq-Decides, clock_in, clock_or}
use Words.{clock_within, counts_of, declaration_of, declared_clock, either_or, false, inl, inr}
use Words.{is_clock, is_clock_within, is_clocked_by, is_some, is_variable, item_at, length}
use Words.{list_all, name_in, named, nat_eq, nat_tests, node_of, option_map, refl, same, sampled}
use Words.{sampling_of, slice_get, statics_of, subst, suc, sym, true, variable_clock}
use Words.{variable_names, variables, zero, ℕ, ◌&&◌, ◌++◌, ◌<◌, ◌==◌, ◌>>=◌, ◌∙◌, ◌≡◌, ◌≢◌, ◌⊎◌}
use Rattle.lb_check.proofs.clocking.ClockDepths.{are_awaited, as_many_names, at_name, at_place}
use Rattle.lb_check.{proofs.lists.Members.distinct_at, specs.Clocks.Base}
use Rattle.lb_syntax.specs.Tree as tree
use Rattle.lb_check.specs.declared.own_clock.Clock.TheVariants as code

pub beq_same : (a b : Bool) → beq a b ≡ same a b
beq_same true true = refl
beq_same true false = refl
beq_same false true = refl
beq_same false false = refl

-- ## A clock within more steps

-- the clock of a variable stands on that of the variable that it waits for
pub clock_step : (m : ℕ) (ds : List Declaration) (d v : Declaration) (s : tree.Sampling) (k : Clock)
    → d.clock ≡ Some s → named (λ v. v.name) s.variable ds ≡ Some v → clock_within m ds v ≡ Some k →
    clock_within (suc m) ds d ≡ Some (On k s.variable s.sign)
clock_step m ds d v s k is found e =
    ap (sampled (clock_within m ds) ds) is
    ∙ ap (λ o. o >>= λ v. clock_within m ds v >>= λ k. Some (On k s.variable s.sign)) found
    ∙ ap (λ o. o >>= λ k. Some (On k s.variable s.sign)) e

-- the variable that one with clock `k` waits for, and its clock, which is found in one step less
pub record Below (m : ℕ) (ds : List Declaration) (d : Declaration) (k : Clock) : Type 0 where
  pub waits : tree.Sampling
  pub has : d.clock ≡ Some waits
  pub variable : Declaration
  pub found : named (λ v. v.name) waits.variable ds ≡ Some variable
  pub clock : Clock
  pub is : clock_within m ds variable ≡ Some clock
  pub on : On clock waits.variable waits.sign ≡ k

-- a clock that is found is the base clock, or stands on that of the variable that is waited for
pub clock_found : (m : ℕ) (ds : List Declaration) (d : Declaration) (k : Clock) →
    clock_within (suc m) ds d ≡ Some k → ((d.clock ≡ None) × (Base ≡ k)) ⊎ Below m ds d k
clock_found m ds d k e = by d.clock refl e
  where
    by : (o : Option tree.Sampling) → d.clock ≡ o → sampled (clock_within m ds) ds o ≡ Some k →
        ((d.clock ≡ None) × (Base ≡ k)) ⊎ Below m ds d k
    by None is e = inl (is, cc)
    by (Some s) is e =
        let v = bind_some (named (λ v. v.name) s.variable ds)
        (λ v. clock_within m ds v >>= λ l. Some (On l s.variable s.sign)) k e in
        let up = bind_some (clock_within m ds v.0) (λ l. Some (On l s.variable s.sign)) k v.2 in
        inr (record {
          waits = s;
          has = is;
          variable = v.0;
          found = v.1;
          clock = up.0;
          is = up.1;
          on = cc;
        })

-- a clock that is found within `m` steps is found within one more
pub more_steps : (m : ℕ) (ds : List Declaration) (d : Declaration) (k : Clock) →
    clock_within m ds d ≡ Some k → clock_within (suc m) ds d ≡ Some k
more_steps zero ds d k e = absurd cc
more_steps (suc m) ds d k e =
    elim (clock_found m ds d k e) [
      | inl free ↦ ap (sampled (clock_within (suc m) ds) ds) free.0 ∙ ap Some free.1
      | inr w ↦ clock_step (suc m) ds d w.variable w.waits w.clock w.has w.found
          (more_steps m ds w.variable w.clock w.is) ∙ ap Some w.on
    ]

-- ## Declared clocks

-- a clock that waits for one within `m` steps stands just below the clock within one more step
one_below : (m : ℕ) (ds : List Declaration) (d : Declaration) (x : Name) (sign : Bool)
    (o : Option Clock) → clock_within m ds d ≡ o
    → is_some (o >>= λ k. Some (On k x sign)) ≡ true →
    clock_or (o >>= λ k. Some (On k x sign)) ≡ On (clock_or (clock_within (suc m) ds d)) x sign
one_below m ds d x sign None is e = absurd cc
one_below m ds d x sign (Some k) is e = rw (more_steps m ds d k is) refl

-- a clock is the same as itself
pub clock_itself : (k : Clock) → is_clock k k ≡ true
clock_itself Base = refl
clock_itself (On k x true) = let e = (bytes_eq-Decides x x).1 refl in rw e (clock_itself k)
clock_itself (On k x false) = let e = (bytes_eq-Decides x x).1 refl in rw e (clock_itself k)

module _ (r : ResolvedNode) (h : HasClocks r) where
  abbrev names : List Name
  names = variable_names (node_of r)

  abbrev ds : List Declaration
  ds = variables (node_of r)

  abbrev vs : List Variable
  vs = r.variables.items

  as_many : length r.variables.items ≡ length (variable_names (node_of r))
  as_many = as_many_names h.nodes r h.resolved h.distinct

  -- the name of a variable of the node stands at its place, and finds its declaration
  pub name_of_place : (x : VariableId) (v : Variable) → slice_get r.variables.items x.0 ≡ Some v →
      x.0 < length r.variables.items
      → (slice_get (variable_names (node_of r)) x.0 ≡ Some (name_in r x))
      × (named (λ d. d.name) (name_in r x) (variables (node_of r)) ≡ Some
      (declaration_of names (statics_of r) (name_in r x) v))
  name_of_place x v e lt =
      let less : x.0 < length names = omega (arith, as_many) in
      let z = item_at names x.0 less in
      let same : z.0 ≡ name_in r x = sym (ap (λ o. either_or o []) z.1) in
      let here = subst (λ y. slice_get names x.0 ≡ Some y) same z.1 in
      let decl = declaration_of names (statics_of r) (name_in r x) v in
      let place = at_place names (statics_of r) vs ds h.resolved.declared as_many refl h.distinct
      (are_awaited h.nodes r h.resolved) x.0 (name_in r x) v here e in (
        here,
        at_name names (statics_of r) vs ds h.resolved.declared as_many refl h.distinct
            (are_awaited h.nodes r h.resolved) x.0 decl place,
      )

  -- each variable has a declared clock
  pub has_clock : (x : VariableId) →
      slice_get (variable_names (node_of r)) x.0 ≡ Some (name_in r x) →
      is_some (variable_clock (node_of r) (name_in r x)) ≡ true
  has_clock x e =
      let n = node_of r in
      let last = and_second (list_all (is_clocked_by (n.inputs ++ n.outputs)) n.outputs) _
      (and_second (list_all (is_clocked_by n.inputs) n.inputs) _ h.declared) in
      all_at (λ x. is_some (variable_clock n x)) names x.0 (name_in r x) last e

  pub clock_of_free : (x : VariableId) (v : Variable) → slice_get r.variables.items x.0 ≡ Some v →
      x.0 < length r.variables.items
      → v.clock ≡ None → Base ≡ declared_clock (node_of r) (name_in r x)
  clock_of_free x v e lt is =
      sym (ap (λ o. clock_or (o >>= clock_within (suc (length ds)) ds)) (name_of_place x v e lt).1
      ∙ ap
      (λ o. clock_or (sampled (clock_within (length ds) ds) ds
      (option_map (sampling_of names) o))) is)

  pub clock_of_waiting : (x : VariableId) (v : Variable) (s : Sampling) →
      slice_get r.variables.items x.0 ≡ Some v → x.0 < length r.variables.items
      → v.clock ≡ Some s
      → On (declared_clock (node_of r) (name_in r s.variable))
      (name_in r s.variable) s.sign ≡ declared_clock (node_of r) (name_in r x)
  clock_of_waiting x v s e lt is =
      let y = s.variable in
      let size = length ds in
      let aw : awaited vs x.0 ≡ Some y.0 = rw (e, is) refl in
      let less : y.0 < length vs = are_awaited h.nodes r h.resolved x.0 y.0 aw in
      let w = item_at vs y.0 less in
      let there = name_of_place y w.0 w.1 less in
      let decl = declaration_of names (statics_of r) (name_in r y) w.0 in
      let here = name_of_place x v e lt in
      let step : variable_clock (node_of r)
      (name_in r x) ≡ (clock_within size ds decl >>= λ k. Some (On k (name_in r y) s.sign)) =
      ap (λ o. o >>= clock_within (suc size) ds) here.1
      ∙ ap (λ o. sampled (clock_within size ds) ds (option_map (sampling_of names) o)) is
      ∙ ap (λ o. o >>= λ v. clock_within size ds v >>= λ k. Some (On k (name_in r y) s.sign))
      there.1 in
      let some = sym (ap is_some step) ∙ has_clock x here.0 in
      let clock_there : declared_clock (node_of r) (name_in r y) ≡ clock_or
      (clock_within (suc size) ds decl) =
      ap (λ o. clock_or (o >>= clock_within (suc size) ds)) there.1 in
      sym (ap clock_or step ∙ one_below size ds decl (name_in r y) s.sign
      (clock_within size ds decl) refl some
      ∙ ap (λ k. On k (name_in r y) s.sign) (sym clock_there))

  -- two variables with one name are the same
  same_variable : (x y : VariableId) → is_variable (counts_of r) x ≡ true →
      is_variable (counts_of r) y ≡ true
      → bytes_eq (name_in r x) (name_in r y) ≡ (y.0 == x.0)
  same_variable x y wx wy =
      let lx : x.0 < length r.variables.items = grind (arith, nat_tests) in
      let ly : y.0 < length r.variables.items = grind (arith, nat_tests) in
      let v = item_at vs x.0 lx in
      let w = item_at vs y.0 ly in
      distinct_at names x.0 y.0 (name_in r x) (name_in r y) h.distinct
      (name_of_place x v.0 v.1 lx).0 (name_of_place y w.0 w.1 ly).0

  same_or_not : (x y : VariableId) (sign other : Bool) (b : Bool) → (y.0 == x.0) ≡ b →
      bytes_eq (name_in r x) (name_in r y) ≡ b
      → (b && same sign other) ≡ is_clock
      (On (declared_clock (node_of r) (name_in r x)) (name_in r x) sign)
      (On (declared_clock (node_of r) (name_in r y)) (name_in r y) other)
  same_or_not x y sign other false is e = rw e refl
  same_or_not x y sign other true is e =
      let one : name_in r x ≡ name_in r y = (bytes_eq-Decides (name_in r x) (name_in r y)).0 e in
      let k = declared_clock (node_of r) (name_in r x) in
      let itself : is_clock k (declared_clock (node_of r) (name_in r y)) ≡ true =
      subst (λ z. is_clock k (declared_clock (node_of r) z) ≡ true) one (clock_itself k) in
      rw (e, itself) (sym (and-true (same sign other)))

  pub same_clock : (x y : VariableId) (sign other : Bool) → is_variable (counts_of r) x ≡ true →
      is_variable (counts_of r) y ≡ true
      → ((y.0 == x.0) && same sign other) ≡ is_clock (clock_in r (code.On x sign))
      (clock_in r (code.On y other))
  same_clock x y sign other wx wy =
      same_or_not x y sign other (y.0 == x.0) refl (same_variable x y wx wy)

  -- two clocks of one variable are the same exactly where their signs are
  pub same_signs : (left right : Compared) (x y : VariableId) (sign other : Bool) →
      left ≡ code.On x sign → right ≡ code.On y other
      → is_clock_within r left ≡ true → is_clock_within r right ≡ true → x.0 ≡ y.0
      → beq sign other ≡ is_clock (clock_in r left) (clock_in r right)
  same_signs left right x y sign other is_left is_right wl wr e =
      let one : (y.0 == x.0) ≡ true = grind (arith, nat_tests) in
      let whole = same_clock x y sign other (subst (λ k. is_clock_within r k ≡ true) is_left wl)
      (subst (λ k. is_clock_within r k ≡ true) is_right wr) in
      rw (is_left, is_right) (beq_same sign other ∙ ap (λ b. b && same sign other) (sym one)
      ∙ whole)

  -- two clocks of two variables are not the same
  pub other_variable : (left right : Compared) (x y : VariableId) (sign other : Bool) →
      left ≡ code.On x sign → right ≡ code.On y other
      → is_clock_within r left ≡ true → is_clock_within r right ≡ true → x.0 ≢ y.0
      → nat_eq x.0 y.0 ≡ is_clock (clock_in r left) (clock_in r right)
  other_variable left right x y sign other is_left is_right wl wr e =
      let two : (y.0 == x.0) ≡ false = grind (arith, nat_tests) in
      let apart : nat_eq x.0 y.0 ≡ false = grind (arith, nat_tests) in
      let whole = same_clock x y sign other (subst (λ k. is_clock_within r k ≡ true) is_left wl)
      (subst (λ k. is_clock_within r k ≡ true) is_right wr) in
      rw (is_left, is_right) (apart ∙ ap (λ b. b && same sign other) (sym two) ∙ whole)
