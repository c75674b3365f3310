-- Clocks that the code compares, and rows of operands from a place on.
use Rattle.lb_check.proofs.Words
use Words.{AnyClock, Base, Bool, ClockSet, HasClocks, List, NoClock, None, OneClock, Operand}
use Words.{Option, ResolvedNode, Sampling, Some, Variable, VariableId, [], accepts_clock, all_fit}
use Words.{and_first, and_second, ap, arith, base_of, beq, both, clock_in, clock_sets, clock_with}
use Words.{clocks_of, drop, drop_all, drop_more, expected, false, get_or, if◌then◌else◌, is_same}
use Words.{length, name_in, nat_eq, nat_tests, node_of, or_else, refl, same, slice_get, sym}
use Words.{together, true, ℕ, ◌&&◌, ◌+◌, ◌<◌, ◌∙◌, ◌∷◌, ◌≡◌, ◌≢◌, ◌≤◌}
use Rattle.lb_check.proofs.clocking.OwnClocks.{beq_same, clock_of_free, clock_of_waiting}
use Rattle.lb_check.specs.declared.own_clock.Clock.{Clock, TheVariants.On}
use Rattle.lb_check.specs.Clocks as tree

-- ## Clocks

-- two clocks on one variable are the same where their signs are
pub same_variable : (left right : Clock) (x y : VariableId) (sign other : Bool) → left ≡ On x sign →
    right ≡ On y other
    → x.0 ≡ y.0 → beq sign other ≡ is_same left right
same_variable left right x y sign other is_left is_right e =
    let one : nat_eq x.0 y.0 ≡ true = grind (arith, nat_tests) in
    rw (is_left, is_right, one) (beq_same sign other)

-- two clocks on two variables are not the same
pub two_variables : (left right : Clock) (x y : VariableId) (sign other : Bool) → left ≡ On x sign →
    right ≡ On y other
    → x.0 ≢ y.0 → nat_eq x.0 y.0 ≡ is_same left right
two_variables left right x y sign other is_left is_right e =
    let apart : nat_eq x.0 y.0 ≡ false = grind (arith, nat_tests) in
    rw (is_left, is_right, apart) refl

-- the declared clock of a variable is found, of one that is there, and of one that is not
pub declared_there : (r : ResolvedNode) → HasClocks r → (x : VariableId) (v : Variable) →
    slice_get r.variables.items x.0 ≡ Some v
    → x.0 < length r.variables.items →
    clock_in r (clock_with v.clock) ≡ tree.declared_clock (node_of r) (name_in r x)
declared_there r h x v at lt = by v.clock refl
  where
    by : (o : Option Sampling) → v.clock ≡ o →
        clock_in r (clock_with o) ≡ tree.declared_clock (node_of r) (name_in r x)
    by None e = clock_of_free r h x v at lt e
    by (Some s) e = clock_of_waiting r h x v s at lt e

pub same_is : (a b : Bool) → same a b ≡ true → a ≡ b
same_is true true e = refl
same_is true false e = absurd cc
same_is false true e = absurd cc
same_is false false e = refl

-- clock `k` is the same as `m` exactly where `l` is, if `k` and `l` are the same
same_as : (k l m : Clock) → is_same k l ≡ true → is_same k m ≡ is_same l m
same_as Base Base m e = refl
same_as Base (On y t) m e = absurd cc
same_as (On x s) Base m e = absurd cc
same_as (On x s) (On y t) Base e = refl
same_as (On x s) (On y t) (On z u) e =
    let first = and_first (nat_eq x.0 y.0) _ e in
    let one : x.0 ≡ y.0 = grind (arith, nat_tests) in
    let signs = same_is s t (and_second (nat_eq x.0 y.0) _ e) in
    rw (one, signs) refl

-- ## Several operands

pub both_anywhere : (s : ClockSet) → both s AnyClock ≡ s
both_anywhere NoClock = refl
both_anywhere AnyClock = refl
both_anywhere (OneClock k) = refl

pub both_nowhere : (s : ClockSet) → both s NoClock ≡ NoClock
both_nowhere NoClock = refl
both_nowhere AnyClock = refl
both_nowhere (OneClock k) = refl

pub both_both : (s t u : ClockSet) → both s (both t u) ≡ both (both s t) u
both_both NoClock t u = refl
both_both AnyClock t u = refl
both_both (OneClock k) NoClock u = refl
both_both (OneClock k) AnyClock u = refl
both_both (OneClock k) (OneClock l) NoClock =
    sym (both_nowhere (if is_same k l then OneClock k else NoClock))
both_both (OneClock k) (OneClock l) AnyClock =
    sym (both_anywhere (if is_same k l then OneClock k else NoClock))
both_both (OneClock k) (OneClock l) (OneClock m) = by (is_same k l) (is_same l m) refl refl
  where
    by : (a b : Bool) → is_same k l ≡ a → is_same l m ≡ b
        → both (OneClock k) (if is_same l m then OneClock l else NoClock) ≡ both
        (if is_same k l then OneClock k else NoClock) (OneClock m)
    by true b e f = let g = same_as k l m e in rw (e, g) (last b f)
      where
        last : (b : Bool) → is_same l m ≡ b
            → both (OneClock k) (if is_same l m then OneClock l else NoClock) ≡
            (if is_same l m then OneClock k else NoClock)
        last true f = rw (f, e) refl
        last false f = rw f refl
    by false true e f = rw (e, f, e) refl
    by false false e f = rw (e, f) refl

pub together_next : (s : ClockSet) (os : List Operand) (i : ℕ) (d : Operand) → i < length os
    → both s (together (drop i os)) ≡ both (both s (get_or os i d).clock_set)
    (together (drop (i + 1) os))
together_next s os i d lt =
    ap (λ rest. both s (together rest)) (drop_more os i d lt)
    ∙ both_both s (get_or os i d).clock_set (together (drop (i + 1) os))

-- ## Operands beside their parameters

pub base_next : (vs : List Variable) (os : List Operand) (i : ℕ) (v : Variable) (o : Operand) →
    i < length vs → i < length os
    → base_of (clocks_of (drop i vs)) (clock_sets (drop i os))
    ≡ or_else (base_of ((get_or vs i v).clock ∷ []) ((get_or os i o).clock_set ∷ []))
    (base_of (clocks_of (drop (i + 1) vs)) (clock_sets (drop (i + 1) os)))
base_next vs os i v o lv lo =
    rw (drop_more vs i v lv) (rw (drop_more os i o lo)
    (by (get_or vs i v).clock (get_or os i o).clock_set (clocks_of (drop (i + 1) vs))
    (clock_sets (drop (i + 1) os))))
  where
    by : (c : Option Sampling) (s : ClockSet) (cs : List (Option Sampling)) (ss : List ClockSet)
        → base_of (c ∷ cs) (s ∷ ss) ≡ or_else (base_of (c ∷ []) (s ∷ [])) (base_of cs ss)
    by None NoClock cs ss = refl
    by None AnyClock cs ss = refl
    by None (OneClock k) cs ss = refl
    by (Some c) s cs ss = refl

-- operands that end before place `i` determine no base clock from there on
pub base_short : (vs : List Variable) (os : List Operand) (i : ℕ) → length os ≤ i
    → base_of (clocks_of (drop i vs)) (clock_sets (drop i os)) ≡ None
base_short vs os i le = rw (drop_all i os le) (by (clocks_of (drop i vs)))
  where
    by : (cs : List (Option Sampling)) → base_of cs [] ≡ None
    by [] = refl
    by (None ∷ cs) = refl
    by (Some c ∷ cs) = refl

pub fit_short : (base : Option Clock) (given : ℕ → Option VariableId) (vs : List Variable)
    (os : List Operand) (i : ℕ) → length os ≤ i
    → all_fit base given (clocks_of (drop i vs)) (clock_sets (drop i os)) ≡ true
fit_short base given vs os i le = rw (drop_all i os le) (by (clocks_of (drop i vs)))
  where
    by : (cs : List (Option Sampling)) → all_fit base given cs [] ≡ true
    by [] = refl
    by (c ∷ cs) = refl

pub fit_next : (base : Option Clock) (given : ℕ → Option VariableId) (vs : List Variable)
    (os : List Operand) (i : ℕ) (v : Variable) (o : Operand)
    → i < length vs → i < length os
    → all_fit base given (clocks_of (drop i vs)) (clock_sets (drop i os))
    ≡ (accepts_clock (expected base given (get_or vs i v).clock) (get_or os i o).clock_set
    && all_fit base given (clocks_of (drop (i + 1) vs)) (clock_sets (drop (i + 1) os)))
fit_next base given vs os i v o lv lo = rw (drop_more vs i v lv) (rw (drop_more os i o lo) refl)

-- the operand at a place is judged, and found to fit or not
pub fit_at : (base : Option Clock) (given : ℕ → Option VariableId) (vs : List Variable)
    (os : List Operand) (i : ℕ) (v : Variable) (o : Operand) (k : Option Clock)
    (judged found whole : Bool) → i < length vs → i < length os
    → k ≡ expected base given (get_or vs i v).clock
    → judged ≡ accepts_clock k (get_or os i o).clock_set → judged ≡ found
    → whole ≡ all_fit base given (clocks_of (drop i vs)) (clock_sets (drop i os))
    → whole
    ≡ (found && all_fit base given (clocks_of (drop (i + 1) vs)) (clock_sets (drop (i + 1) os)))
fit_at base given vs os i v o k judged found whole lv lo clock test is known =
    let later = all_fit base given (clocks_of (drop (i + 1) vs)) (clock_sets (drop (i + 1) os)) in
    known ∙ fit_next base given vs os i v o lv lo
    ∙ ap (λ b. b && later)
    (ap (λ l. accepts_clock l (get_or os i o).clock_set) (sym clock) ∙ sym test ∙ is)

-- the operand at a place determines this base clock, or none
pub base_at : (vs : List Variable) (os : List Operand) (i : ℕ) (v : Variable) (o : Operand)
    (own found whole : Option Clock) → i < length vs → i < length os
    → own ≡ base_of ((get_or vs i v).clock ∷ []) ((get_or os i o).clock_set ∷ []) → own ≡ found
    → whole ≡ base_of (clocks_of (drop i vs)) (clock_sets (drop i os))
    → whole ≡ or_else found
    (base_of (clocks_of (drop (i + 1) vs)) (clock_sets (drop (i + 1) os)))
base_at vs os i v o own found whole lv lo is same known =
    let later = base_of (clocks_of (drop (i + 1) vs)) (clock_sets (drop (i + 1) os)) in
    known ∙ base_next vs os i v o lv lo ∙ ap (λ k. or_else k later) (sym is ∙ same)

-- the rules for rows of operands beside their parameters
pub ruleset beside = (base_next, base_short, fit_next, fit_short)
