-- Lanes of planes that are set one by one, and words that hold Booleans as bits.
use Rattle.std.proofs.Common.{◌≡◌, ◌≢◌, ℕ, zero, suc, ◌+◌, ◌-◌, ◌*◌, ◌/◌, ◌%◌, ◌<◌, ◌≤◌, ◌==◌}
use Rattle.std.proofs.Common.{◌&&◌, ◌||◌, Bool, true, false, List, get_or, set, length, refl}
use Rattle.std.proofs.Common.{sym, ap, ap₂, ◌∙◌, subst, arith, below_more, ◌⊎◌, inl, inr}
use Rattle.std.proofs.Common.{length-set, ◌^◌, w64}
use Rattle.std.proofs.lemmas.Bool.{cases_lt, true≢false}
use Rattle.std.proofs.lemmas.List.{get_or-set_same, get_or-set_other}
use Rattle.std.specs.Prelude.{bit_or}
use Rattle.std.specs.Int.{bit_at, trailing_zeros}
use Rattle.std.proofs.lemmas.Nat.Bits.{bit_at-trailing_zeros}
use Rattle.std.proofs.Math.Bool.{or_comm}
use Rattle.lb_traces.specs.Packed.{bit_in}
use Rattle.lb_lanes.specs.Planes.{on}
use Rattle.lb_lanes.proofs.OnPlanes.{on-or, on-above, on-zero, shl, on-shl_high, on-shl_low}
use Rattle.lb_lanes.proofs.OnPlanes.{on-shr}

-- ## One lane

one_first : on 1 0 ≡ true
unfolding on
one_first = refl

one_other : (j : ℕ) → on 1 (suc j) ≡ false
one_other j = on-above 1 1 (suc j) (omega arith) (omega arith)

pub same_number : (a : ℕ) → (a == a) ≡ true
same_number a = grind arith

pub no_number : (a b : ℕ) → a ≢ b → (a == b) ≡ false
no_number a b ne = grind arith

one_there : (k j : ℕ) → on 1 j ≡ ((k + j) == k)
one_there k zero =
    one_first ∙ sym (same_number k) ∙ ap (λ n. n == k) (let e : k ≡ k + 0 = omega arith in e)
one_there k (suc j) =
    let ne : (k + suc j) ≢ k = λ e. absurd (omega (arith, e)) in
    one_other j ∙ sym (no_number (k + suc j) k ne)

on-bit : (k i : ℕ) → k < 64 → i < 64 → on (shl k 1) i ≡ (i == k)
on-bit k i hk hi = by (cases_lt i k)
  where
    by : (i < k) ⊎ (k ≤ i) → on (shl k 1) i ≡ (i == k)
    by (inl l) =
        let ne : i ≢ k = λ e. absurd (omega (arith, l, e)) in
        on-shl_low k i 1 l hi ∙ sym (no_number i k ne)
    by (inr le) =
        let j = i - k in
        let e : k + j ≡ i = omega (arith, le) in
        let lt : k + j < 64 = omega (arith, e, hi) in
        subst (λ n. on (shl k 1) n ≡ (n == k)) e (on-shl_high k j 1 lt ∙ one_there k j)

-- a plane with one more lane
pub lane_more : (plane k i : ℕ) → k < 64 → i < 64 →
    on (bit_or plane (shl k 1)) i ≡ ((i == k) || on plane i)
lane_more plane k i hk hi =
    on-or plane (shl k 1) i
    ∙ ap (λ b. on plane i || b) (on-bit k i hk hi)
    ∙ or_comm (on plane i) (i == k)

-- ## Booleans as the bits of words

-- bit `c` of word `g` is Boolean `64 * g + c`
pub bit_there :
    (words : List ℕ) (word g c : ℕ) (b : Bool) → c < 64 → word ≡ get_or words g 0 →
    bit_in words (64 * g + c) ≡ b → on word c ≡ b
unfolding on
bit_there words word g c b lt same is =
    let n = 64 * g + c in
    let whole : 64 * ((64 * g + c) / 64) + (64 * g + c) % 64 ≡ 64 * g + c = omega arith in
    let small : (64 * g + c) % 64 < 64 = omega arith in
    let q : (64 * g + c) / 64 ≡ g = omega (arith, whole, small, lt) in
    let m : (64 * g + c) % 64 ≡ c = omega (arith, whole, q) in
    ap (λ w. bit_at w c == 1) same
    ∙ sym (ap₂ (λ x y. bit_at (get_or words x 0) y == 1) q m)
    ∙ is

-- ## Copies to places side by side

module _ {A : Type 0} (z : A) (first : ℕ) (words old : List A) where
  pub record Put (new : List A) (n : ℕ) : Type 0 where
    pub as_long : length new ≡ length old
    pub put : (c : ℕ) → c < n → get_or new (first + c) z ≡ get_or words c z
    pub below : (k : ℕ) → k < first → get_or new k z ≡ get_or old k z
    pub above : (k : ℕ) → first + n ≤ k → get_or new k z ≡ get_or old k z

  pub put_none : Put old 0
  put_none = record {
    as_long = refl;
    put = λ c h. absurd (omega (arith, h));
    below = λ k h. refl;
    above = λ k h. refl;
  }

  pub put_more :
      (n : ℕ) (new : List A) (v : A) → Put new n → first + n < length old → v ≡ get_or words n z →
      Put (set new (first + n) v) (n + 1)
  put_more n new v h room is_v = record {
    as_long = length-set new (first + n) v ∙ h.as_long;
    put =
        below_more (λ c. get_or (set new (first + n) v) (first + c) z ≡ get_or words c z) n
        (λ c l.
        let ne : (first + c) ≢ (first + n) = λ e. absurd (omega (arith, l, e)) in
        get_or-set_other new (first + n) (first + c) v z ne ∙ h.put c l)
        (get_or-set_same new (first + n) v z (omega (arith, h.as_long, room)) ∙ is_v);
    below = λ k l.
        let ne : k ≢ (first + n) = λ e. absurd (omega (arith, l, e)) in
        get_or-set_other new (first + n) k v z ne ∙ h.below k l;
    above = λ k l.
        let ne : k ≢ (first + n) = λ e. absurd (omega (arith, l, e)) in
        get_or-set_other new (first + n) k v z ne ∙ h.above k (omega (arith, l));
  }

-- ## A column of rows

neither : (a b : Bool) → ((a && false) || b) ≡ b
neither true b = refl
neither false b = refl

alone : (a : Bool) → ((a && true) || false) ≡ a
alone true = refl
alone false = refl

-- `plane` has the bits of the first `n` rows in column `c`
pub record ColumnSoFar (rows : List ℕ) (from c plane n : ℕ) : Type 0 where
  pub done : (j : ℕ) → j < n → on plane j ≡ on (get_or rows (from + j) 0) c
  pub rest : (j : ℕ) → n ≤ j → j < 64 → on plane j ≡ false

pub column_none : (rows : List ℕ) (from c : ℕ) → ColumnSoFar rows from c 0 0
column_none rows from c = record {
  done = λ j l. absurd (omega (arith, l));
  rest = λ j l m. on-zero j;
}

pub column_more : (rows : List ℕ) (from c plane plane' n : ℕ) (bit : Bool)
    → ColumnSoFar rows from c plane n → n < 64 → bit ≡ on (get_or rows (from + n) 0) c
    → ((j : ℕ) → j < 64 → on plane' j ≡ ((bit && (j == n)) || on plane j))
    → ColumnSoFar rows from c plane' (n + 1)
column_more rows from c plane plane' n bit h lt e is = record {
  done = below_more (λ j. on plane' j ≡ on (get_or rows (from + j) 0) c) n
      (λ j l. other j (omega (arith, l, lt)) (λ f. absurd (omega (arith, l, f))) ∙ h.done j l)
      (is n lt
      ∙ ap₂ (λ x y. (bit && x) || y) (same_number n) (h.rest n (omega arith) lt)
      ∙ alone bit ∙ e);
  rest = λ j l m. other j m (λ f. absurd (omega (arith, l, f))) ∙ h.rest j (omega (arith, l)) m;
}
  where
    other : (j : ℕ) → j < 64 → j ≢ n → on plane' j ≡ on plane j
    other j m ne =
        is j m ∙ ap (λ x. (bit && x) || on plane j) (no_number j n ne) ∙ neither bit (on plane j)

-- ## The first lane of a plane from `from` on

on_from : (plane from i : ℕ) → from ≤ i → on plane i ≡ on (plane / 2 ^ from) (i - from)
on_from plane from i le =
    ap (on plane) (arith_from from i le) ∙ sym (on-shr plane from (i - from))
  where
    arith_from : (from i : ℕ) → from ≤ i → i ≡ from + (i - from)
    arith_from from i le = omega (arith, le)

-- a plane that is 0 from lane `from` on has none of these lanes
pub none_from : (plane from i : ℕ) → plane / 2 ^ from ≡ 0 → from ≤ i → on plane i ≡ false
none_from plane from i none le =
    on_from plane from i le ∙ ap (λ n. on n (i - from)) none ∙ on-zero (i - from)

-- `next` is the first lane of a plane from `from` on
pub record IsNext (plane from next : ℕ) : Type 0 where
  pub within : next < 64
  pub none : (i : ℕ) → from ≤ i → i < next → on plane i ≡ false
  pub there : on plane next ≡ true

pub lowest_from :
    (plane from : ℕ) → plane < 2 ^ 64 → plane / 2 ^ from < 2 ^ 64 → 0 < plane / 2 ^ from →
    IsNext plane from (from + trailing_zeros w64 (plane / 2 ^ from))
unfolding on
lowest_from plane from fits fits' some = record {
  within = below (cases_lt (from + trailing_zeros w64 (plane / 2 ^ from)) 64);
  none = λ i le l.
      on_from plane from i le
      ∙ ap (λ n. n == 1) (zeros.2 (i - from) (omega (arith, l, le)));
  there = there;
}
  where
    zeros : (trailing_zeros w64 (plane / 2 ^ from) < 64)
        × (bit_at (plane / 2 ^ from) (trailing_zeros w64 (plane / 2 ^ from)) ≡ 1)
        × ((i : ℕ) → i < trailing_zeros w64 (plane / 2 ^ from) → bit_at (plane / 2 ^ from) i ≡ 0)
    zeros = bit_at-trailing_zeros w64 (plane / 2 ^ from) some fits'

    there : on plane (from + trailing_zeros w64 (plane / 2 ^ from)) ≡ true
    there =
        sym (on-shr plane from (trailing_zeros w64 (plane / 2 ^ from)))
        ∙ ap (λ n. n == 1) zeros.1

    below :
        (from + trailing_zeros w64 (plane / 2 ^ from) < 64)
        ⊎ (64 ≤ from + trailing_zeros w64 (plane / 2 ^ from)) →
        from + trailing_zeros w64 (plane / 2 ^ from) < 64
    below (inl lt) = lt
    below (inr le) =
        absurd
        (true≢false
        (sym there ∙ on-above plane 64 (from + trailing_zeros w64 (plane / 2 ^ from)) fits le))
