-- The words of a row, bit by bit and word by word.
use Rattle.std.proofs.Common.{ℕ, ◌≡◌, ◌≢◌, ◌+◌, ◌*◌, ◌^◌, ◌%◌, ◌<◌, ◌≤◌, ◌==◌, Bool, true, false}
use Rattle.std.proofs.Common.{◌||◌}
use Rattle.std.proofs.Common.{◌⊎◌, inl, inr, List, [], ◌∷◌, ◌++◌, ℤ, pos, length, get_or, refl, sym}
use Rattle.std.proofs.Common.{ap, ◌∙◌, arith, below_more, w64}
use Rattle.std.proofs.lemmas.List.{get_or_append_left, get_or_push, length_push, append-nil}
use Rattle.std.proofs.lemmas.List.{append_assoc, get_or_past}
use Rattle.std.proofs.lemmas.Bool.{cases_lt}
use Rattle.std.proofs.lemmas.Nat.Bits.{bit_at-zero, bit_at_set_same, bit_at_set_other}
use Rattle.std.specs.Prelude.{int_le, bit_or}
use Rattle.std.specs.Int.{bit_at}
use Rattle.lb_traces.specs.Packed.{words_of_row, truth_in, HasPushed}

-- ## The bits of a word

-- bit `i` after it is set; and below, where it is not
pub bit_here :
    (word i : ℕ) (b : Bool) → b ≡ true → i < 64 →
    (bit_at (bit_or word (1 * 2 ^ i % 2 ^ 64)) i == 1) ≡ (b || (bit_at word i == 1))
bit_here word i b is l =
    ap (λ n. n == 1) (bit_at_set_same w64 word i l)
    ∙ ap (λ x. x || (bit_at word i == 1)) (sym is)

pub bit_there :
    (word i j : ℕ) → i < 64 → j ≢ i → bit_at (bit_or word (1 * 2 ^ i % 2 ^ 64)) j ≡ bit_at word j
bit_there word i j l ne = bit_at_set_other w64 word i l j ne

-- the lowest `n` bits of `word` are the Booleans from number `first` on, and the others are 0
pub record Packing (row : List ℤ) (columns : List ℕ) (first word n : ℕ) : Type 0 where
  pub done : (i : ℕ) → i < n → (bit_at word i == 1) ≡ truth_in row columns (first + i)
  pub rest : (i : ℕ) → n ≤ i → bit_at word i ≡ 0

pub packing_none : (row : List ℤ) (columns : List ℕ) (first : ℕ) → Packing row columns first 0 0
packing_none row columns first = record {
  done = λ i h. absurd (omega (arith, h));
  rest = λ i h. bit_at-zero i;
}

pub packing_more :
    (row : List ℤ) (columns : List ℕ) (first word new n : ℕ) (b : Bool) →
    Packing row columns first word n → b ≡ truth_in row columns (first + n) →
    (bit_at new n == 1) ≡ (b || (bit_at word n == 1)) →
    ((j : ℕ) → j ≢ n → bit_at new j ≡ bit_at word j) → Packing row columns first new (n + 1)
packing_more row columns first word new n b h is here others = record {
  done =
      below_more (λ i. (bit_at new i == 1) ≡ truth_in row columns (first + i)) n
      (λ i l.
      let ne : i ≢ n = λ e. absurd (omega (arith, l, e)) in
      ap (λ x. x == 1) (others i ne) ∙ h.done i l)
      (here
      ∙ ap (λ x. b || (x == 1)) (h.rest n (omega arith))
      ∙ or_false b
      ∙ is);
  rest = λ i le.
      let ne : i ≢ n = λ e. absurd (omega (arith, le, e)) in
      others i ne ∙ h.rest i (omega (arith, le));
}
  where
    or_false : (a : Bool) → (a || (0 == 1)) ≡ a
    or_false true = refl
    or_false false = refl

-- `truth_in` is false past the last Boolean
pub no_truth :
    (row : List ℤ) (columns : List ℕ) (b : ℕ) → length columns ≤ b →
    truth_in row columns b ≡ false
no_truth row columns b le =
    ap (λ c. int_le (pos 1) (get_or row c (pos 0))) (get_or_past columns b (length row) le)
    ∙ ap (int_le (pos 1)) (get_or_past row (length row) (pos 0) (omega arith))

-- all 64 bits are Booleans of the row once the bits of the word or the Booleans are used up
pub packing_all :
    (row : List ℤ) (columns : List ℕ) (first word n : ℕ) → Packing row columns first word n →
    (n < 64 → length columns ≤ first + n) →
    (i : ℕ) → i < 64 → (bit_at word i == 1) ≡ truth_in row columns (first + i)
packing_all row columns first word n h most i l = by (cases_lt i n)
  where
    by : (i < n) ⊎ (n ≤ i) → (bit_at word i == 1) ≡ truth_in row columns (first + i)
    by (inl lt) = h.done i lt
    by (inr le) =
        ap (λ x. x == 1) (h.rest i le)
        ∙ sym (no_truth row columns (first + i) (omega (arith, le, most (omega (arith, le, l)))))

-- ## The words of a row

-- the first `n` words of the row stand at the end of `new`
pub record Pushing (old : List ℕ) (row : List ℤ) (columns new : List ℕ) (n : ℕ) : Type 0 where
  pub more : List ℕ
  pub is : new ≡ old ++ more
  pub as_long : length more ≡ n
  pub bits :
      (g : ℕ) → g < n → (i : ℕ) → i < 64 →
      (bit_at (get_or more g 0) i == 1) ≡ truth_in row columns (64 * g + i)

pub pushing_none :
    (old : List ℕ) (row : List ℤ) (columns : List ℕ) → Pushing old row columns old 0
pushing_none old row columns = record {
  more = [];
  is = sym (append-nil old);
  as_long = refl;
  bits = λ g h. absurd (omega (arith, h));
}

pub pushing_more :
    (old : List ℕ) (row : List ℤ) (columns new new' : List ℕ) (n word : ℕ) →
    Pushing old row columns new n → new' ≡ new ++ word ∷ [] →
    ((i : ℕ) → i < 64 → (bit_at word i == 1) ≡ truth_in row columns (64 * n + i)) →
    Pushing old row columns new' (n + 1)
pushing_more old row columns new new' n word h is bits = record {
  more = h.more ++ word ∷ [];
  is = is ∙ ap (λ l. l ++ word ∷ []) h.is ∙ append_assoc old h.more (word ∷ []);
  as_long = length_push h.more word ∙ ap (λ x. x + 1) h.as_long;
  bits =
      below_more
      (λ g.
      (i : ℕ) → i < 64 →
      (bit_at (get_or (h.more ++ word ∷ []) g 0) i == 1) ≡ truth_in row columns (64 * g + i))
      n
      (λ g l i m.
      ap (λ w. bit_at w i == 1)
      (get_or_append_left h.more (word ∷ []) 0 g (omega (arith, l, h.as_long)))
      ∙ h.bits g l i m)
      (λ i m. ap (λ w. bit_at w i == 1) (get_or_push h.more word 0 n h.as_long) ∙ bits i m);
}

pub pushing_all :
    (old : List ℕ) (row : List ℤ) (columns new : List ℕ) (n : ℕ) →
    Pushing old row columns new n → n ≡ words_of_row (length columns) →
    HasPushed old row columns new
pushing_all old row columns new n h all = record {
  more = h.more;
  is = h.is;
  packed = record {
    as_long = h.as_long ∙ all;
    bits = λ g i l m. h.bits g (omega (arith, l, h.as_long)) i m;
  };
}
