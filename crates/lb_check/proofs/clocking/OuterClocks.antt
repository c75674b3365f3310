-- The clocks of a callee as its caller sees them, and the operands that fit them.
use Rattle.lb_check.proofs.Words
use Words.{AnyClock, Base, Bool, ClockSet, Given, HasClocks, List, Name, NoClock, None, OneClock}
use Words.{Option, ResolvedNode, Sampling, Some, Variable, VariableId, [], above, accepts_clock}
use Words.{add-sub_cancel_left, all_fit, and_first, and_from, and_second, ap, are_clocks, arith}
use Words.{awaited, base_of, clock_in, counts_of, declared_clock, declared_in, depth, either_or}
use Words.{expected, false, given_name, holds, if◌then◌else◌, inl, inr, is_clock, is_clock_within}
use Words.{is_same, is_variable, item_at, length, lt-ltb, name_in, nat_lt, nat_tests, node_of}
use Words.{option_map, outer, refl, slice_get, slice_get_within, subst, suc, sym, true}
use Words.{variable_names, zero, ℕ, ◌&&◌, ◌+◌, ◌-◌, ◌<◌, ◌∙◌, ◌∷◌, ◌≡◌, ◌≤◌, ◌⊎◌}
use Rattle.lb_check.proofs.clocking.{ClockDepths.are_awaited, ClockTests.{clock_same, clock_turned}}
use Rattle.lb_check.proofs.clocking.{ClockTests.{declared_is, same_is}, OwnClocks.clock_itself}
use Rattle.lb_check.proofs.clocking.OwnClocks.{clock_of_free, clock_of_waiting}
use Rattle.lb_check.proofs.lists.ListPairs.{each_pair, pair_at, same_pairs}
use Rattle.lb_check.specs.declared.own_clock.Clock.{Clock, TheVariants.On}
use Rattle.lb_check.specs.Clocks as tree

-- Two lists of clocks that are the same, and the places of the inputs and outputs of a node.

-- ## Clocks of two lists

-- two lists of the same clocks are of one length
pub clocks_length : (ks ls : List tree.Clock) → are_clocks ks ls ≡ true → length ks ≡ length ls
clocks_length [] [] e = refl
clocks_length [] (l ∷ ls) e = absurd cc
clocks_length (k ∷ ks) [] e = absurd cc
clocks_length (k ∷ ks) (l ∷ ls) e = ap suc (clocks_length ks ls (and_second (is_clock k l) _ e))

-- the clocks at one place of two lists of the same clocks are the same
pub clocks_at : (ks ls : List tree.Clock) (j : ℕ) (k l : tree.Clock) → are_clocks ks ls ≡ true →
    slice_get ks j ≡ Some k → slice_get ls j ≡ Some l → is_clock k l ≡ true
clocks_at [] ls j k l e p q = absurd cc
clocks_at (x ∷ ks) [] j k l e p q = absurd cc
clocks_at (x ∷ ks) (y ∷ ls) zero k l e p q =
    let s : x ≡ k = cc in
    let t : y ≡ l = cc in
    sym (ap (λ z. is_clock z y) s ∙ ap (is_clock k) t) ∙ and_first (is_clock x y) _ e
clocks_at (x ∷ ks) (y ∷ ls) (suc j) k l e p q =
    clocks_at ks ls j k l (and_second (is_clock x y) _ e) p q

-- two lists of one length are of the same clocks, where the clocks at each place are the same
pub clocks_from : (ks ls : List tree.Clock) → length ks ≡ length ls
    → ((j : ℕ) (k l : tree.Clock) → slice_get ks j ≡ Some k → slice_get ls j ≡ Some l →
    is_clock k l ≡ true) → are_clocks ks ls ≡ true
clocks_from [] [] e h = refl
clocks_from [] (l ∷ ls) e h = absurd (omega (arith, e))
clocks_from (k ∷ ks) [] e h = absurd (omega (arith, e))
clocks_from (k ∷ ks) (l ∷ ls) e h =
    and_from (is_clock k l) (are_clocks ks ls) (h 0 k l refl refl)
    (clocks_from ks ls (omega (arith, e)) (λ j x y p q. h (suc j) x y p q))

-- ## Places of inputs, and of outputs

-- a place below `m + n` is an input, below `m`, or output `j`, at `m + j`
pub place_split : (i m n : ℕ) → i < m + n → (i < m) ⊎ ((j : ℕ) × (i ≡ m + j) × (j < n))
place_split i m n lt = by (nat_lt i m) refl
  where
    by : (b : Bool) → nat_lt i m ≡ b → (i < m) ⊎ ((j : ℕ) × (i ≡ m + j) × (j < n))
    by true less = inl (grind (arith, nat_tests))
    by false more =
        let low : m ≤ i = grind (arith, nat_tests) in
        inr (i - m, omega arith, omega arith)

-- what stands at the places of two parts, of which the first has `n`
pub first_part : {A : Type 0} (n : ℕ) (f g : ℕ → A) (i : ℕ) → i < n →
    (if nat_lt i n then f i else g (i - n)) ≡ f i
first_part n f g i lt = rw (lt-ltb i n lt) refl

pub second_part : {A : Type 0} (n : ℕ) (f g : ℕ → A) (j : ℕ) →
    (if nat_lt (n + j) n then f (n + j) else g (n + j - n)) ≡ g j
second_part n f g j =
    let past : nat_lt (n + j) n ≡ false = grind (arith, nat_tests) in
    rw (past, add-sub_cancel_left n j) refl

-- The clocks of a callee, as its caller sees them, from the numbers of both.

-- ## Clocks of the text

pub above_outer : (b : tree.Clock) (given : Given) (k : tree.Clock) →
    above (depth k) (outer b given k) ≡ b
above_outer b given tree.Base = refl
above_outer b given (tree.On k x sign) = above_outer b given k

pub clock_equal : (k l : tree.Clock) → k ≡ l → is_clock k l ≡ true
clock_equal k l e = subst (λ z. is_clock k z ≡ true) e (clock_itself k)

-- ## Clocks of a node

-- the name of the variable at place `i`
abbrev pub place_name : ResolvedNode → ℕ → Name
place_name r i = either_or (slice_get (variable_names (node_of r)) i) []

-- the variable at place `i`
abbrev pub variable_at : ℕ → VariableId
variable_at i = record { 0 = i }

-- whether a term with this clock set may stand on clock `k`
abbrev pub stood : ResolvedNode → tree.Clock → ClockSet → Bool
stood here k NoClock = false
stood here k AnyClock = true
stood here k (OneClock c) = is_clock k (clock_in here c)

-- ## A callee's clocks, as its caller sees them

-- the clock of a parameter, where the callee runs on clock `b`, and the variables `given` of the
-- caller stand for those of the callee
abbrev pub expected_on : ResolvedNode → (ℕ → Option VariableId) → tree.Clock → Option Sampling →
    tree.Clock
expected_on here given b None = b
expected_on here given b (Some s) =
    either_or (option_map (λ y. clock_in here (On y s.sign)) (given s.variable.0)) tree.Base

-- the clock of the callee's variable at place `i`, as the caller sees it
abbrev pub seen : ResolvedNode → Given → tree.Clock → ℕ → tree.Clock
seen callee given b i = outer b given (declared_clock (node_of callee) (place_name callee i))

-- an awaited variable is given one of the caller, which is on the clock that the caller sees of it
abbrev pub WaitsFor : ResolvedNode → ResolvedNode → (ℕ → Option VariableId) → Given → tree.Clock →
    Sampling → Type 0
WaitsFor here callee Y given b s =
    (y : VariableId)
    × (Y s.variable.0 ≡ Some y)
    × (given_name given (name_in callee s.variable) ≡ name_in here y)
    × (declared_clock (node_of here) (name_in here y) ≡ seen callee given b s.variable.0)

module _ (here callee : ResolvedNode) (hc : HasClocks callee) (Y : ℕ → Option VariableId)
    (given : Given) (b : tree.Clock) where
  -- the clock of one parameter is the one that the caller sees, where it waits for a given variable
  pub one_outer : (x : VariableId) (v : Variable) (o : Option Sampling) →
      slice_get callee.variables.items x.0 ≡ Some v → x.0 < length callee.variables.items →
      v.clock ≡ o
      → ((s : Sampling) → o ≡ Some s → WaitsFor here callee Y given b s) →
      expected_on here Y b o ≡ seen callee given b x.0
  one_outer x v None e lt is waits = ap (outer b given) (clock_of_free callee hc x v e lt is)
  one_outer x v (Some s) e lt is waits =
      let w = waits s refl in
      let z = s.variable in
      ap (λ o. either_or (option_map (λ y. clock_in here (On y s.sign)) o) tree.Base) w.1
      ∙ ap (λ k. tree.On k (name_in here w.0) s.sign) w.3
      ∙ ap (λ n. tree.On (seen callee given b z.0) n s.sign) (sym w.2)
      ∙ ap (outer b given) (clock_of_waiting callee hc x v s e lt is)

-- a parameter that waits for another waits for one of the first n, and is given a variable
abbrev pub AreGiven : ResolvedNode → (ℕ → Option VariableId) → (n m : ℕ) → Type 0
AreGiven callee Y n m =
    (i : ℕ) (v : Variable) (s : Sampling) → i < m → slice_get callee.variables.items i ≡ Some v →
    v.clock ≡ Some s
    → (s.variable.0 < n) × ((y : VariableId) × (Y s.variable.0 ≡ Some y))

-- a variable that stands for one of the first `n` is one of the caller, has its name, and stands on
-- its declared clock alone
abbrev pub StandFor : ResolvedNode → ResolvedNode → (ℕ → Option VariableId) →
    (ℕ → Option ClockSet) → ℕ → Type 0
StandFor here callee Y S n =
    (i : ℕ) (y : VariableId) → i < n → Y i ≡ Some y →
    (S i ≡ Some (OneClock (declared_in here y))) × (is_variable (counts_of here) y ≡ true)

abbrev pub HaveNames : ResolvedNode → ResolvedNode → (ℕ → Option VariableId) → Given → ℕ → Type 0
HaveNames here callee Y given n =
    (i : ℕ) (y : VariableId) → i < n → Y i ≡ Some y →
    given_name given (place_name callee i) ≡ name_in here y

-- each operand for one of the first `n` may stand on its clock, in one form or the other
abbrev pub AcceptsClock : ResolvedNode → ResolvedNode → (ℕ → Option VariableId) →
    (ℕ → Option ClockSet) → Given → tree.Clock → ℕ → Type 0
AcceptsClock here callee Y S given b n =
    (i : ℕ) (v : Variable) (s : ClockSet) → i < n → slice_get callee.variables.items i ≡ Some v →
    S i ≡ Some s
    → (stood here (seen callee given b i) s ≡ true)
    ⊎ (stood here (expected_on here Y b v.clock) s ≡ true)

module _ (here callee : ResolvedNode) (h : HasClocks here) (hc : HasClocks callee)
    (Y : ℕ → Option VariableId) (S : ℕ → Option ClockSet) (n m : ℕ)
    (few : n ≤ m) (waits : AreGiven callee Y n m) (own : StandFor here callee Y S n) (given : Given)
    (names : HaveNames here callee Y given n)
    (b : tree.Clock) (stands : AcceptsClock here callee Y S given b n) where
  -- a variable that may stand on the clock that the caller sees is on it
  on_clock : (y : VariableId) (k l : tree.Clock) → is_variable (counts_of here) y ≡ true → k ≡ l →
      stood here k (OneClock (declared_in here y)) ≡ true
      → declared_clock (node_of here) (name_in here y) ≡ l
  on_clock y k l w e p = sym (declared_is here h y w)
      ∙ sym (clock_same k (clock_in here (declared_in here y)) p) ∙ e

  waited_there : (x : VariableId) (v : Variable) (s : Sampling) →
      slice_get callee.variables.items x.0 ≡ Some v → v.clock ≡ Some s
      → (w : Variable) × (slice_get callee.variables.items s.variable.0 ≡ Some w)
      × (s.variable.0 < length callee.variables.items)
  waited_there x v s e is =
      let aw : awaited callee.variables.items x.0 ≡ Some s.variable.0 = rw (e, is) refl in
      let lt : s.variable.0 < length callee.variables.items =
      are_awaited hc.nodes callee hc.resolved x.0 s.variable.0 aw in
      let w = item_at callee.variables.items s.variable.0 lt in
      (w.0, w.1, lt)

  -- an awaited variable is on the clock that the caller sees, where its own clock is known
  waits_known : (s : Sampling) (y : VariableId) (w : Variable) → s.variable.0 < n →
      Y s.variable.0 ≡ Some y → slice_get callee.variables.items s.variable.0 ≡ Some w
      → expected_on here Y b w.clock ≡ seen callee given b s.variable.0 →
      WaitsFor here callee Y given b s
  waits_known s y w lt e at known =
      let o = own s.variable.0 y lt e in
      let l = seen callee given b s.variable.0 in
      let on : declared_clock (node_of here) (name_in here y) ≡ l =
      elim (stands s.variable.0 w (OneClock (declared_in here y)) lt at o.0) [
        | inl p ↦ on_clock y l l o.1 refl p
        | inr p ↦ on_clock y (expected_on here Y b w.clock) l o.1 known p
      ] in
      (y, e, names s.variable.0 y lt e, on)

  by_clock : (k : tree.Clock) (x : VariableId) (v : Variable) →
      k ≡ declared_clock (node_of callee) (name_in callee x) → x.0 < m →
      x.0 < length callee.variables.items
      → slice_get callee.variables.items x.0 ≡ Some v →
      expected_on here Y b v.clock ≡ seen callee given b x.0
  by_clock tree.Base x v is lt less at =
      one_outer here callee hc Y given b x v v.clock at less refl (λ s e.
      let on = clock_of_waiting callee hc x v s at less e in
      absurd cc)
  by_clock (tree.On k z sign) x v is lt less at =
      one_outer here callee hc Y given b x v v.clock at less refl (λ s e.
      let w = waits x.0 v s lt at e in
      let small = w.0 in
      let t = waited_there x v s at e in
      let on = clock_of_waiting callee hc x v s at less e in
      let up : k ≡ declared_clock (node_of callee) (name_in callee s.variable) = cc in
      waits_known s w.1.0 t.0 small w.1.1 t.1 (by_clock k s.variable t.0 up (omega arith) t.2 t.1))

  -- the clock of each of the first `m` parameters is the one that the caller sees
  pub outer_all : (x : VariableId) (v : Variable) → x.0 < m →
      slice_get callee.variables.items x.0 ≡ Some v
      → expected_on here Y b v.clock ≡ seen callee given b x.0
  outer_all x v lt at =
      by_clock (declared_clock (node_of callee) (name_in callee x)) x v refl lt
      (slice_get_within callee.variables.items x.0 v at) at

-- Operands stand on the clocks that the code expects of them exactly where they stand on those that
-- the caller sees.

-- ## The base clock of a callee

pub base_found : (cs : List (Option Sampling)) (ss : List ClockSet) (k : Clock) →
    base_of cs ss ≡ Some k
    → (i : ℕ) × (slice_get cs i ≡ Some None) × (slice_get ss i ≡ Some (OneClock k))
base_found [] ss k e = absurd cc
base_found (c ∷ cs) [] k e = absurd cc
base_found (None ∷ cs) (OneClock l ∷ ss) k e = (0, refl, ap (λ o. option_map OneClock o) e)
base_found (c ∷ cs) (s ∷ ss) k e = let z = base_found cs ss k e in (suc z.0, z.1, z.2)

pub base_none : (cs : List (Option Sampling)) (ss : List ClockSet) → base_of cs ss ≡ None →
    (i : ℕ) (k : Clock) → slice_get cs i ≡ Some None
    → slice_get ss i ≡ Some (OneClock k) → ⊥
base_none [] ss e i k p q = absurd cc
base_none (c ∷ cs) [] e i k p q = absurd cc
base_none (None ∷ cs) (OneClock l ∷ ss) e i k p q = absurd cc
base_none (c ∷ cs) (s ∷ ss) e zero k p q = absurd cc
base_none (c ∷ cs) (s ∷ ss) e (suc i) k p q = base_none cs ss e i k p q

-- ## One parameter

pub fit_pairs : (base : Option Clock) (given : ℕ → Option VariableId) (cs : List (Option Sampling))
    (ss : List ClockSet)
    → all_fit base given cs ss ≡ each_pair (λ c s. accepts_clock (expected base given c) s) cs ss
fit_pairs base given [] ss = refl
fit_pairs base given (c ∷ cs) [] = refl
fit_pairs base given (c ∷ cs) (s ∷ ss) =
    ap (λ b. accepts_clock (expected base given c) s && b) (fit_pairs base given cs ss)

-- a variable of the caller stands for the one that a parameter waits for
abbrev pub IsGiven : ResolvedNode → (ℕ → Option VariableId) → Option Sampling → Type 0
IsGiven here Y c = (s : Sampling) → c ≡ Some s →
    (y : VariableId) × (Y s.variable.0 ≡ Some y) × (is_variable (counts_of here) y ≡ true)

abbrev pub IsWithin : ResolvedNode → ClockSet → Type 0
IsWithin here s = (l : Clock) → s ≡ OneClock l → is_clock_within here l ≡ true

-- the code expects the clock that the caller sees
abbrev pub Expects : ResolvedNode → (ℕ → Option VariableId) → Option Clock → tree.Clock →
    Option Sampling → Type 0
Expects here Y base b c =
    (k : Clock) × (expected base Y c ≡ Some k) × (clock_in here k ≡ expected_on here Y b c)
    × (is_clock_within here k ≡ true)

module _ (here : ResolvedNode) (Y : ℕ → Option VariableId) where
  pub expects_waiting : (base : Option Clock) (b : tree.Clock) (s : Sampling) →
      IsGiven here Y (Some s) → Expects here Y base b (Some s)
  expects_waiting base b s given =
      let y = given s refl in
      let k = On y.0 s.sign in (
        k,
        ap (option_map (λ y. On y s.sign)) y.1,
        sym (ap (λ o. either_or (option_map (λ y. clock_in here (On y s.sign)) o) tree.Base) y.1),
        y.2,
      )

  pub expects : (k : Clock) → is_clock_within here k ≡ true → (c : Option Sampling) →
      IsGiven here Y c → Expects here Y (Some k) (clock_in here k) c
  expects k w None given = (k, refl, refl, w)
  expects k w (Some s) given = expects_waiting (Some k) (clock_in here k) s given

  pub stood_code : HasClocks here → (base : Option Clock) (b : tree.Clock) (c : Option Sampling) →
      Expects here Y base b c → (s : ClockSet) → IsWithin here s
      → accepts_clock (expected base Y c) s ≡ stood here (expected_on here Y b c) s
  stood_code h base b c e NoClock w = refl
  stood_code h base b c e AnyClock w = refl
  stood_code h base b c e (OneClock l) w =
      ap (holds (λ k. is_same l k)) e.1 ∙ same_is here h l e.0 (w l refl) e.3
      ∙ clock_turned (clock_in here l) (clock_in here e.0)
      ∙ ap (λ z. is_clock z (clock_in here l)) e.2

stood_free : (here : ResolvedNode) (k : tree.Clock) (s : ClockSet) →
    ((l : Clock) → s ≡ OneClock l → ⊥) → accepts_clock None s ≡ stood here k s
stood_free here k NoClock other = refl
stood_free here k AnyClock other = refl
stood_free here k (OneClock l) other = absurd (other l refl)

-- ## All parameters

-- the operands fit the clocks that the caller sees, where the callee runs on clock `b`
abbrev pub fits_on : ResolvedNode → (ℕ → Option VariableId) → tree.Clock →
    List (Option Sampling) → List ClockSet → Bool
fits_on here Y b cs ss = each_pair (λ c s. stood here (expected_on here Y b c) s) cs ss

-- the variables that stand for those that parameters wait for are of the caller, and so are the
-- clocks of operands
pub record AreOfNode (here : ResolvedNode) (Y : ℕ → Option VariableId)
    (cs : List (Option Sampling)) (ss : List ClockSet) : Type 0 where
  pub given : (i : ℕ) (c : Option Sampling) → slice_get cs i ≡ Some c → IsGiven here Y c
  pub within : (i : ℕ) (s : ClockSet) → slice_get ss i ≡ Some s → IsWithin here s

module _ {here : ResolvedNode} (h : HasClocks here) {Y : ℕ → Option VariableId}
    {cs : List (Option Sampling)} {ss : List ClockSet} (row : AreOfNode here Y cs ss) where
  pub fit_some : (k : Clock) → is_clock_within here k ≡ true →
      all_fit (Some k) Y cs ss ≡ fits_on here Y (clock_in here k) cs ss
  fit_some k w =
      fit_pairs (Some k) Y cs ss
      ∙ same_pairs _ _ cs ss (λ i c s p q. stood_code here Y h (Some k) (clock_in here k) c
      (expects here Y k w c (row.given i c p)) s (row.within i s q))

  none_fits : (b : tree.Clock) (c : Option Sampling) → IsGiven here Y c → (s : ClockSet) →
      IsWithin here s → ((k : Clock) → c ≡ None → s ≡ OneClock k → ⊥)
      → accepts_clock (expected None Y c) s ≡ stood here (expected_on here Y b c) s
  none_fits b None g s w other = stood_free here b s (λ l e. other l refl e)
  none_fits b (Some x) g s w other =
      stood_code here Y h None b (Some x) (expects_waiting here Y None b x g) s w

  -- the operands fit on each base clock, where nothing determines one
  pub fit_none : base_of cs ss ≡ None → (b : tree.Clock) →
      all_fit None Y cs ss ≡ fits_on here Y b cs ss
  fit_none e b =
      fit_pairs None Y cs ss
      ∙ same_pairs _ _ cs ss (λ i c s p q. none_fits b c (row.given i c p) s (row.within i s q)
      (λ k none only. base_none cs ss e i k (p ∙ ap Some none) (q ∙ ap Some only)))

  pub base_within : (k : Clock) → base_of cs ss ≡ Some k → is_clock_within here k ≡ true
  base_within k e = let z = base_found cs ss k e in row.within z.0 (OneClock k) z.2 k refl

  -- the base clock that the code finds is that of the callee, where the operands fit
  pub base_is : (k : Clock) (b : tree.Clock) → base_of cs ss ≡ Some k →
      fits_on here Y b cs ss ≡ true → b ≡ clock_in here k
  base_is k b e fits =
      let z = base_found cs ss k e in
      clock_same b (clock_in here k) (pair_at _ cs ss z.0 None (OneClock k) fits z.1 z.2)
