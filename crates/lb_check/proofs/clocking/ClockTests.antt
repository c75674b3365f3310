-- Tests of whether two clocks of a node are the same, and the declared clock of a variable.
use Rattle.lb_check.proofs.Words
use Words.{Bool, Clock, Compared, HasClocks, List, Name, None, On, Option, ResolvedNode, Sampling}
use Words.{Some, Variable, VariableId, [], all_at, among, and_first, and_second, ap, are_statics}
use Words.{arith, both_ways, bytes_eq, bytes_eq-Decides, clock_in, clock_or, clock_with, counts_of}
use Words.{declared_clock, declared_in, false, is_clock, is_clock_within, is_declared_within}
use Words.{is_same, is_sampling_within, is_some, is_variable, item_at, length, name_in, nat_eq}
use Words.{nat_tests, node_of, refl, same, slice_get, subst, suc, sym, true, variable_clock}
use Words.{variable_names, zero, ℕ, ◌&&◌, ◌<◌, ◌==◌, ◌>>=◌, ◌∙◌, ◌∷◌, ◌≡◌}
use Rattle.lb_check.proofs.clocking.ClockSetRows.{declared_there, same_is as same_one}
use Rattle.lb_check.proofs.clocking.OwnClocks.{clock_itself, has_clock, name_of_place, same_clock}
use Rattle.{lb_check.specs.Clocks.Base, std.proofs.Math.Bool.{and_self, or-true}}
use Rattle.lb_check.specs.declared.own_clock.Clock.TheVariants as code

-- ## Clocks of a text

pub clock_same : (k l : Clock) → is_clock k l ≡ true → k ≡ l
clock_same Base Base e = refl
clock_same Base (On l y other) e = absurd cc
clock_same (On k x sign) Base e = absurd cc
clock_same (On k x sign) (On l y other) e =
    let rest = and_second (bytes_eq x y) _ e in
    let names : x ≡ y = (bytes_eq-Decides x y).0 (and_first (bytes_eq x y) _ e) in
    let signs : sign ≡ other = same_one sign other (and_first (same sign other) _ rest) in
    let clocks : k ≡ l = clock_same k l (and_second (same sign other) _ rest) in
    cc

turned : (k l : Clock) → is_clock k l ≡ true → is_clock l k ≡ true
turned k l e = subst (λ m. is_clock m k ≡ true) (clock_same k l e) (clock_itself k)

pub clock_turned : (k l : Clock) → is_clock k l ≡ is_clock l k
clock_turned k l = both_ways (is_clock k l) (is_clock l k) (turned k l) (turned l k)

-- a clock is the same as two equal clocks exactly where it is the same as the first
pub on_one : (k c d : Clock) → is_clock c d ≡ true → (is_clock k c && is_clock k d) ≡ is_clock k c
on_one k c d e = subst (λ m. (is_clock k c && is_clock k m) ≡ is_clock k c) (clock_same c d e)
    (and_self (is_clock k c))

-- no clock is the same as two clocks that differ
pub on_two : (k c d : Clock) → is_clock c d ≡ false → (is_clock k c && is_clock k d) ≡ false
on_two k c d e = by (is_clock k c) refl
  where
    by : (b : Bool) → is_clock k c ≡ b → (b && is_clock k d) ≡ false
    by false is = refl
    by true is = subst (λ m. is_clock m d ≡ false) (sym (clock_same k c is)) e

-- ## Clocks of a node

pub among_at : (xs : List Name) (i : ℕ) (x : Name) → slice_get xs i ≡ Some x → among x xs ≡ true
among_at [] i x e = absurd cc
among_at (n ∷ xs) zero x e =
    let one : n ≡ x = cc in
    let z : bytes_eq x n ≡ true = (bytes_eq-Decides x n).1 (sym one) in
    rw z refl
among_at (n ∷ xs) (suc i) x e = rw (among_at xs i x e) (or-true (bytes_eq x n))

some_is : (o : Option Clock) → is_some o ≡ true → o ≡ Some (clock_or o)
some_is None e = absurd cc
some_is (Some k) e = refl

module _ (r : ResolvedNode) (h : HasClocks r) where
  pub same_is : (c d : Compared) → is_clock_within r c ≡ true → is_clock_within r d ≡ true
      → is_same c d ≡ is_clock (clock_in r c) (clock_in r d)
  same_is code.Base code.Base wc wd = refl
  same_is code.Base (code.On y other) wc wd = refl
  same_is (code.On x sign) code.Base wc wd = refl
  same_is (code.On x sign) (code.On y other) wc wd =
      let turned : nat_eq x.0 y.0 ≡ (y.0 == x.0) = grind (arith, nat_tests) in
      ap (λ b. b && same sign other) turned ∙ same_clock r h x y sign other wc wd

  module _ (x : VariableId) (w : is_variable (counts_of r) x ≡ true) where
    below : x.0 < length r.variables.items
    below = grind (arith, nat_tests)

    variable : (v : Variable) × (slice_get r.variables.items x.0 ≡ Some v)
    variable = item_at r.variables.items x.0 below

    pub name_there : slice_get (variable_names (node_of r)) x.0 ≡ Some (name_in r x)
    name_there = let v = variable in (name_of_place r h x v.0 v.1 below).0

    -- the declared clock of a variable, as the code reads it, is that of the text
    pub declared_is : clock_in r (declared_in r x) ≡ declared_clock (node_of r) (name_in r x)
    declared_is =
        let v = variable in
        ap (λ o. clock_in r (clock_with (o >>= λ v. v.clock))) v.1
        ∙ declared_there r h x v.0 v.1 below

    pub declared_within : is_clock_within r (declared_in r x) ≡ true
    declared_within =
        let v = variable in
        ap (λ o. is_clock_within r (clock_with (o >>= λ v. v.clock))) v.1
        ∙ by v.0 v.1 v.0.clock refl
      where
        by : (v : Variable) → slice_get r.variables.items x.0 ≡ Some v → (o : Option Sampling) →
            v.clock ≡ o
            → is_clock_within r (clock_with o) ≡ true
        by v at None is = refl
        by v at (Some s) is =
            let within = all_at (is_declared_within (counts_of r)) r.variables.items x.0 v
            h.resolved.declared_within at in
            subst (λ o. is_sampling_within (counts_of r) o ≡ true) is
            (and_second (are_statics (counts_of r) v.first_size v.sizes) _ within)

    pub has_declared : variable_clock (node_of r) (name_in r x) ≡ Some
        (declared_clock (node_of r) (name_in r x))
    has_declared = some_is (variable_clock (node_of r) (name_in r x)) (has_clock r h x name_there)
