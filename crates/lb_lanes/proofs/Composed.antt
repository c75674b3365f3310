-- The rounds of the transposition, one after another.
use Rattle.std.proofs.Common.{◌≡◌, ℕ, zero, suc, ◌<◌, ◌≤◌, Bool, true, ◌&&◌, List, [], ◌∷◌, get_or}
use Rattle.std.proofs.Common.{refl, ap, ap₂, ◌∙◌, subst, arith, nat_eq, ltb, ◌⊎◌, inl, inr}
use Rattle.std.proofs.lemmas.Bool.{and_parts, cases_lt, ltb-true, eqb-true}
use Rattle.lb_lanes.specs.Planes.{on}
use Rattle.lb_lanes.specs.Correct.{IsTransposed}
use Rattle.lb_lanes.specs.Transposes.{IsRound, IsMask, is_masked, row_from}
use Rattle.lb_lanes.specs.Transposes.{column_from}

-- whether a test holds of each number below `n`, found by trying each
unfoldable pub every : (ℕ → Bool) → ℕ → Bool
every p zero = true
every p (suc n) = p n && every p n

or_here : (p : ℕ → Bool) (n i : ℕ) → (i < n → p i ≡ true) → p n ≡ true → (i < n) ⊎ (n ≤ i)
    → i < suc n → p i ≡ true
or_here p n i below here (inl l) h = below l
or_here p n i below here (inr le) h =
    let same : n ≡ i = omega (arith, le, h) in
    subst (λ k. p k ≡ true) same here

pub every_at : (p : ℕ → Bool) (n : ℕ) → every p n ≡ true → (i : ℕ) → i < n → p i ≡ true
unfolding every
every_at p zero e i h = absurd (omega (arith, h))
every_at p (suc n) e i h =
    let parts = and_parts (p n) (every p n) e in
    or_here p n i (λ l. every_at p n parts.1 i l) parts.0 (cases_lt i n) h

-- whether the rounds with these shifts, the last one first, lead from a place to the other
pub arrives : List ℕ → ℕ → ℕ → ℕ → ℕ → Bool
arrives [] r c r' c' = nat_eq r r' && nat_eq c c'
arrives (s ∷ ss) r c r' c' =
    (ltb (row_from s r c) 64 && ltb (column_from s r c) 64)
    && arrives ss (row_from s r c) (column_from s r c) r' c'

-- `new` is `old` after the rounds with these shifts, the last one first
pub AreRounds : List ℕ → List ℕ → List ℕ → Type 0
AreRounds [] old new = new ≡ old
AreRounds (s ∷ ss) old new = (between : List ℕ) × AreRounds ss old between × IsRound s between new

follow : (ss old new : List ℕ) → AreRounds ss old new → (r c r' c' : ℕ) → r < 64 → c < 64
    → arrives ss r c r' c' ≡ true
    → on (get_or new r 0) c ≡ on (get_or old r' 0) c'
unfolding arrives AreRounds
follow [] old new same r c r' c' hr hc e =
    let parts = and_parts (nat_eq r r') (nat_eq c c') e in
    ap (λ ws. on (get_or ws r 0) c) same
    ∙ ap₂ (λ i k. on (get_or old i 0) k) (eqb-true r r' parts.0) (eqb-true c c' parts.1)
follow (s ∷ ss) old new rounds r c r' c' hr hc e =
    let i = row_from s r c in
    let k = column_from s r c in
    let parts = and_parts (ltb i 64 && ltb k 64) (arrives ss i k r' c') e in
    let within = and_parts (ltb i 64) (ltb k 64) parts.0 in
    rounds.2 r c hr hc
    ∙ follow ss old rounds.0 rounds.1 i k r' c' (ltb-true i 64 within.0) (ltb-true k 64 within.1)
    parts.1

abbrev shifts : List ℕ
shifts = 1 ∷ 2 ∷ 4 ∷ 8 ∷ 16 ∷ 32 ∷ []

-- from each place the rounds lead to its mirror place across the diagonal: all 4,096 are tried
all_arrive : every (λ r. every (λ c. arrives shifts c r r c) 64) 64 ≡ true
unfolding every arrives
all_arrive = refl

pub transposed : (w0 w1 w2 w3 w4 w5 w6 : List ℕ) → IsRound 32 w0 w1 → IsRound 16 w1 w2
    → IsRound 8 w2 w3 → IsRound 4 w3 w4
    → IsRound 2 w4 w5 → IsRound 1 w5 w6 → IsTransposed w0 w6
unfolding AreRounds
transposed w0 w1 w2 w3 w4 w5 w6 p q x y z v r c hr hc =
    follow shifts w0 w6 (w5, (w4, (w3, (w2, (w1, (w0, refl, p), q), x), y), z), v) c r r c hc hr
    (every_at (λ c. arrives shifts c r r c) 64
    (every_at (λ r. every (λ c. arrives shifts c r r c) 64) 64 all_arrive r hr) c hc)

-- a word is a mask, where trying all 64 columns shows it
pub mask_by : (s m : ℕ) → every (is_masked s m) 64 ≡ true → IsMask s m
mask_by s m e c h = every_at (is_masked s m) 64 e c h
