-- The declared clocks of a node: their depth, and that the clock of a variable is on the declared
-- clock of the variable that it waits for.
use Rattle.lb_check.proofs.Words
use Words.{inl, inr, ◌≡◌, ℕ, zero, suc, ◌*◌, ◌<◌, ◌≤◌, Option, Some, None, List, [], ◌∷◌, length}
use Words.{map, refl, ap, sym, ◌∙◌, subst, arith, bytes_eq, ◌>>=◌, In, Name, Declaration, Node}
use Words.{variables, variable_names, named, in_map, Clock, On, clock_within, variable_clock}
use Words.{clock_or, declared_clock, depth, above, base_from, base_clock, own_depth}
use Rattle.lb_check.{specs.Clocks.Base, proofs.clocking.OwnClocks.{clock_found, more_steps}}
use Rattle.lb_check.proofs.programs.{InstancePaths.find_in, TypedOccurrences.IsVariable}
use Rattle.lb_check.proofs.programs.TypedOccurrences.{found_name}

-- ## Steps within which a clock is found

module _ (vars : List Declaration) where
  -- a clock that is found within `m` steps is less than `m` deep
  within_deep : (m : ℕ) (d : Declaration) (k : Clock) → clock_within m vars d ≡ Some k → depth k < m
  within_deep zero d k e = absurd cc
  within_deep (suc m) d k e =
      elim (clock_found m vars d k e) [
        | inl free ↦ let none : 0 ≡ depth k = ap depth free.1 in omega (arith, none)
        | inr w ↦
            let deep : suc (depth w.clock) ≡ depth k = ap depth w.on in
            let below = within_deep m w.variable w.clock w.is in
            omega (arith, deep, below)
      ]

module _ (n : Node) where
  -- a name that is found among the variables of a node is one of a variable
  found_variable :
      (x : Name) (v : Declaration) → named (λ v. v.name) x (variables n) ≡ Some v →
      IsVariable n x
  found_variable x v e =
      subst (λ y. In y (variable_names n)) (found_name x (variables n) v e)
      (in_map (λ d. d.name) (variables n) v
      (find_in (λ (d : Declaration). bytes_eq d.name x) (variables n) v e))

  -- a clock of the node: its base clock, or the instants of a declared clock at which its variable
  -- has a sign
  abbrev pub IsOwn : Clock → Type 0
  IsOwn Base = Unit {0}
  IsOwn (On k x sign) = (k ≡ declared_clock n x) × IsVariable n x

  within_own :
      (d : Declaration) (k : Clock) →
      clock_within (suc (length (variables n))) (variables n) d ≡ Some k → IsOwn k
  within_own d k e =
      let vars = variables n in
      elim (clock_found (length vars) vars d k e) [
        | inl free ↦ subst IsOwn free.1 tt
        | inr w ↦
            let found : variable_clock n w.waits.variable ≡ Some w.clock =
            ap (λ o. o >>= clock_within (suc (length vars)) vars) w.found
            ∙ more_steps (length vars) vars w.variable w.clock w.is in
            subst IsOwn w.on (
              sym (ap clock_or found),
              found_variable w.waits.variable w.variable w.found,
            )
      ]

  -- what holds of the base clock and of each clock that is found holds of each declared clock
  of_declared : (Q : Clock → Type 0) → Q Base →
      ((d : Declaration) (k : Clock) →
      clock_within (suc (length (variables n))) (variables n) d ≡ Some k → Q k) →
      (x : Name) → Q (declared_clock n x)
  of_declared Q base each x = by (named (λ d. d.name) x (variables n))
    where
      found : (d : Declaration) (o : Option Clock) →
          clock_within (suc (length (variables n))) (variables n) d ≡ o → Q (clock_or o)
      found d None e = base
      found d (Some k) e = each d k e

      by : (o : Option Declaration) →
          Q (clock_or (o >>= clock_within (suc (length (variables n))) (variables n)))
      by None = base
      by (Some d) = found d (clock_within (suc (length (variables n))) (variables n) d) refl

  -- each declared clock is a clock of the node
  pub declared_own : (x : Name) → IsOwn (declared_clock n x)
  declared_own x = of_declared IsOwn tt within_own x

  -- a declared clock is at most as deep as there are variables
  pub declared_deep : (x : Name) → depth (declared_clock n x) ≤ length (variables n)
  declared_deep x =
      of_declared (λ k. depth k ≤ length (variables n)) (omega arith)
      (λ d k e.
      let below = within_deep (variables n) (suc (length (variables n))) d k e in
      omega (arith, below)) x

  some_variable : (x : Name) → IsVariable n x → 0 < length (variables n)
  some_variable x i = by (variables n) i
    where
      by : (ds : List Declaration) → In x (map (λ d. d.name) ds) → 0 < length ds
      by [] i = absurd i
      by (d ∷ ds) i = omega arith

  -- a clock of the node is at most twice as deep as there are variables
  pub own_deep : (k : Clock) → IsOwn k → depth k ≤ 2 * length (variables n)
  own_deep Base h = omega arith
  own_deep (On k x sign) h =
      let deep = declared_deep x in
      let same : depth k ≡ depth (declared_clock n x) = ap depth h.0 in
      let some = some_variable x h.1 in
      omega (arith, deep, same, some)

  -- a clock above a clock of the node is a clock of the node
  pub above_own : (m : ℕ) (k : Clock) → IsOwn k → IsOwn (above m k)
  above_own zero k h = h
  above_own (suc m) Base h = tt
  above_own (suc m) (On k x sign) h = above_own m k (subst IsOwn (sym h.0) (declared_own x))

  pub base_own : (k : Clock) (callee : Node) → IsOwn k → IsOwn (base_clock k callee)
  base_own k callee h = by callee.outputs
    where
      by : (ds : List Declaration) → IsOwn (base_from k callee ds)
      by [] = h
      by (d ∷ ds) = above_own (own_depth callee d) k h
