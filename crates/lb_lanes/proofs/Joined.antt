-- A step of a loop over chunks of eight: the lanes before it are done, and those after it are as
-- they were.
use Rattle.std.proofs.Common.{◌≡◌, ℕ, ◌<◌, ◌≤◌, ◌+◌, ◌-◌, ◌⊎◌, inl, inr, ◌||◌, Bool, true, false}
use Rattle.std.proofs.Common.{List, get_or, refl, sym, ap, ap₂, ◌∙◌, subst, arith, ◌≢◌, length, set}
use Rattle.std.proofs.Common.{below_more, ◌^◌}
use Rattle.std.proofs.lemmas.Bool.{cases_lt}
use Rattle.std.proofs.lemmas.List.{get_or-set_same, get_or-set_other}
use lib.Bits.{bit_or}
use Rattle.lb_lanes.specs.Planes.{on}
use Rattle.lb_lanes.proofs.OnPlanes.{on-or, on-above, on-shl_low, on-shl_high, shl}

or_false : (b : Bool) → (b || false) ≡ b
or_false true = refl
or_false false = refl

-- a lane below, in and above chunk `x`, of a plane to which that chunk is joined at `k`
on-below : (f x k i : ℕ) → i < k → i < 64 → on (bit_or f (shl k x)) i ≡ on f i
on-below f x k i h w = on-or f (shl k x) i ∙ ap (λ b. on f i || b) (on-shl_low k i x h w)
    ∙ or_false (on f i)

on-inside : (f x k j : ℕ) → k + j < 64 → on f (k + j) ≡ false
    → on (bit_or f (shl k x)) (k + j) ≡ on x j
on-inside f x k j h none = on-or f (shl k x) (k + j)
    ∙ ap₂ (λ a b. a || b) none (on-shl_high k j x h)

on-after : (n f x k i : ℕ) → x < 2 ^ n → k + n ≤ i → i < 64 → on f i ≡ false
    → on (bit_or f (shl k x)) i ≡ false
on-after n f x k i small le h none =
    let j = i - k in
    let e : k + j ≡ i = omega arith in
    subst (λ l. on (bit_or f (shl k x)) l ≡ false) e
    (on-inside f x k j (omega (arith, e)) (subst (λ l. on f l ≡ false) (sym e) none)
    ∙ on-above x n j small (omega arith))

-- the lanes of a plane below k pass the test, and no later one is set
pub record DoneBelow (test : ℕ → Bool) (k plane : ℕ) : Type 0 where
  pub done : (i : ℕ) → i < k → on plane i ≡ test i
  pub rest : (i : ℕ) → k ≤ i → i < 64 → on plane i ≡ false

-- with a chunk of `n` lanes joined, the lanes below `k + n` are done
pub lanes_joined : (n : ℕ) (test : ℕ → Bool) (f x k : ℕ) → k + n ≤ 64 → x < 2 ^ n
    → DoneBelow test k f → ((j : ℕ) → j < n → on x j ≡ test (k + j))
    → DoneBelow test (k + n) (bit_or f (shl k x))
lanes_joined n test f x k room small before new = record {
  done = λ i h. at i h (cases_lt i k);
  rest = λ i le h. on-after n f x k i small le h (before.rest i (omega arith) h);
}
  where
    at : (i : ℕ) → i < k + n → (i < k) ⊎ (k ≤ i) → on (bit_or f (shl k x)) i ≡ test i
    at i h (inl l) = on-below f x k i l (omega arith) ∙ before.done i l
    at i h (inr le) =
        let j = i - k in
        let e : k + j ≡ i = omega arith in
        subst (λ l. on (bit_or f (shl k x)) l ≡ test l) e
        (on-inside f x k j (omega (arith, e)) (before.rest (k + j) (omega arith) (omega (arith, e)))
        ∙ new j (omega arith))

-- each word below `k` satisfies `P`, and each later one is as in `first`
pub record WrittenBelow (P : ℕ → ℕ → Type 0) (k : ℕ) (first words : List ℕ) : Type 0 where
  pub done : (i : ℕ) → i < k → P i (get_or words i 0)
  pub rest : (i : ℕ) → k ≤ i → get_or words i 0 ≡ get_or first i 0

pub more_words_joined : (n : ℕ) (P : ℕ → ℕ → Type 0) (first words words' : List ℕ) (k : ℕ)
    → WrittenBelow P k first words
    → ((i : ℕ) → i < k → get_or words' i 0 ≡ get_or words i 0)
    → ((i : ℕ) → k + n ≤ i → get_or words' i 0 ≡ get_or words i 0)
    → ((j : ℕ) → j < n → P (k + j) (get_or words' (k + j) 0))
    → WrittenBelow P (k + n) first words'
more_words_joined n P first words words' k before below above new = record {
  done = λ i h. at i h (cases_lt i k);
  rest = λ i le. above i le ∙ before.rest i (omega arith);
}
  where
    at : (i : ℕ) → i < k + n → (i < k) ⊎ (k ≤ i) → P i (get_or words' i 0)
    at i h (inl l) = subst (P i) (sym (below i l)) (before.done i l)
    at i h (inr le) =
        let j = i - k in
        let e : k + j ≡ i = omega arith in
        subst (λ m. P m (get_or words' m 0)) e (new j (omega arith))

pub words_joined : (P : ℕ → ℕ → Type 0) (first words words' : List ℕ) (k : ℕ)
    → WrittenBelow P k first words
    → ((i : ℕ) → i < k → get_or words' i 0 ≡ get_or words i 0)
    → ((i : ℕ) → k + 8 ≤ i → get_or words' i 0 ≡ get_or words i 0)
    → ((j : ℕ) → j < 8 → P (k + j) (get_or words' (k + j) 0))
    → WrittenBelow P (k + 8) first words'
words_joined = more_words_joined 8

-- a step of the loop over the rest: the word at k is new
pub word_joined : (P : ℕ → ℕ → Type 0) (first words : List ℕ) (k v : ℕ) → k < length words
    → WrittenBelow P k first words → P k v
    → WrittenBelow P (k + 1) first (set words k v)
word_joined P first words k v h before new = record {
  done = below_more (λ i. P i (get_or (set words k v) i 0)) k
      (λ i l. let ne : i ≢ k = omega arith in
      subst (P i) (sym (get_or-set_other words k i v 0 ne)) (before.done i l))
      (subst (P k) (sym (get_or-set_same words k v 0 h)) new);
  rest = λ i le. let ne : i ≢ k = omega arith in get_or-set_other words k i v 0 ne
      ∙ before.rest i (omega arith);
}
