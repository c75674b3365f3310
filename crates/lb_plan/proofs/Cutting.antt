-- The batches that a width cuts from a list of numbers are a plan.
use Rattle.std.proofs.Common.{◌≡◌, ℕ, zero, suc, ◌+◌, ◌-◌, ◌*◌, ◌%◌, ◌^◌, ◌<◌, ◌≤◌, List, [], ◌∷◌}
use Rattle.std.proofs.Common.{◌++◌, length, get_or, take, drop, map, min, sym, ap, ◌∙◌, subst}
use Rattle.std.proofs.Common.{arith}
use Rattle.std.specs.List.{range_with_len}
use Rattle.std.specs.List.Sorted.{IsPermutation}
use Rattle.std.proofs.lemmas.List.{length-take, length-drop, map-id, append-nil, take_all, take_min}
use Rattle.std.proofs.lemmas.List.Concat.{flat_map-append}
use Rattle.std.proofs.lemmas.List.FromFn.{get_or-map-range_with_len, length-map-range_with_len}
use Rattle.std.proofs.lemmas.List.FromFn.{map-range_with_len_more}
use Rattle.std.proofs.Math.Nat.{mul-le-mul_right}
use lib.Seq.{take-add}
use Rattle.lb_plan.specs.Plans.{numbers_in, IsPlan, IsLawful}
use Rattle.lb_plan.specs.Cuts.{count_of, batch_of, batches_of, IsCut}

-- ## The number of batches

-- c is the quotient of `n + (w - 1)` by w, rounded down, and `left` is the remainder
pub record IsQuotient (w n c : ℕ) : Type 0 where
  pub left : ℕ
  pub below : left < w
  pub is : c * w + left ≡ n + (w - 1)

counted : (w n : ℕ) → 0 < w → IsQuotient w n (count_of w n)
counted w n some = record { left = (n + (w - 1)) % w; below = omega arith; is = omega arith }

-- `count_of w n` batches have room for n numbers
pub holds_all : (w n : ℕ) → 0 < w → n ≤ count_of w n * w
holds_all w n some = let q = counted w n some in omega (arith, q.below, q.is)

-- each batch begins before the end of the numbers
pub begins : (w n i : ℕ) → 0 < w → i < count_of w n → i * w < n
begins w n i some below =
    let q = counted w n some in
    let more : (i + 1) * w ≤ count_of w n * w = mul-le-mul_right w (omega arith) in
    omega (arith, q.below, q.is, more)

-- ## The numbers of the batches

module _ (w : ℕ) (xs : List ℕ) where
  -- the first c batches hold the first `c * w` numbers
  first_batches : (c : ℕ) → numbers_in (map (batch_of w xs) (range_with_len 0 c)) ≡ take (c * w) xs
  first_batches zero = let none : 0 ≡ zero * w = omega arith in ap (λ n. take n xs) none
  first_batches (suc c) =
      let batch = batch_of w xs in
      let one : suc c ≡ c + 1 = omega arith in
      let product : c * w + w ≡ suc c * w = omega arith in
      ap (λ n. numbers_in (map batch (range_with_len 0 n))) one
      ∙ ap numbers_in (map-range_with_len_more batch 0 c c (omega arith))
      ∙ flat_map-append (λ b. b) (map batch (range_with_len 0 c)) (batch c ∷ [])
      ∙ ap (λ l. numbers_in (map batch (range_with_len 0 c)) ++ l) (append-nil (batch c))
      ∙ ap (λ l. l ++ batch c) (first_batches c)
      ∙ sym (take-add (c * w) w xs)
      ∙ ap (λ n. take n xs) product

  -- all batches hold all numbers
  pub joined : 0 < w → numbers_in (batches_of w xs) ≡ xs
  joined some =
      first_batches (count_of w (length xs)) ∙ take_all _ xs (holds_all w (length xs) some)

  pub count_is : length (batches_of w xs) ≡ count_of w (length xs)
  count_is = length-map-range_with_len (batch_of w xs) 0 (count_of w (length xs))

  pub batch_is :
      (i : ℕ) → i < length (batches_of w xs) →
      get_or (batches_of w xs) i [] ≡ batch_of w xs i
  batch_is i below =
      get_or-map-range_with_len (batch_of w xs) 0 (count_of w (length xs)) i i []
      (omega (arith, count_is)) (omega arith)

  length_is : (i : ℕ) → length (batch_of w xs i) ≡ min w (length xs - i * w)
  length_is i = length-take w (drop (i * w) xs) ∙ ap (min w) (length-drop (i * w) xs)

  pub is_plan : IsCut w xs → IsPlan (length xs) w (batches_of w xs)
  is_plan cut = record {
    each_once =
        subst (IsPermutation (range_with_len 0 (length xs))) (sym (joined cut.some))
        cut.each_once;
    not_empty = λ i below.
        let begin = begins w (length xs) i cut.some (omega (arith, count_is, below)) in
        let e = ap length (batch_is i below) ∙ length_is i in
        omega (arith, begin, e, cut.some);
    not_wider = λ i below.
        let e = ap length (batch_is i below) ∙ length_is i in
        omega (arith, e);
    full = λ i below.
        let begin = begins w (length xs) (i + 1) cut.some (omega (arith, count_is, below)) in
        let e = ap length (batch_is i (omega (arith, below))) ∙ length_is i in
        omega (arith, begin, e);
  }

  -- the batches of n numbers are a plan
  pub plan_of :
      (n : ℕ) → n ≡ length xs → (0 < w) × (w ≤ 64) → n < 2 ^ 32 →
      IsPermutation (range_with_len 0 n) xs → IsPlan n w (batches_of w xs)
  plan_of n e wide few each_once =
      subst (λ m. IsPlan m w (batches_of w xs)) (sym e)
      (is_plan (record {
        some = wide.0;
        at_most_64 = wide.1;
        few = omega (arith, few, e);
        each_once = subst (λ m. IsPermutation (range_with_len 0 m) xs) e each_once;
      }))

  -- the batches of a cut are a plan of their numbers
  pub joined_plan :
      IsCut w xs → IsPlan (length (numbers_in (batches_of w xs))) w (batches_of w xs)
  joined_plan cut =
      subst (λ n. IsPlan n w (batches_of w xs)) (sym (ap length (joined cut.some))) (is_plan cut)

  pub is_lawful : IsCut w xs → IsLawful (batches_of w xs)
  is_lawful cut =
      record { width = w; at_most_64 = cut.at_most_64; plan = joined_plan cut }

-- the place of batch i among the numbers: from `i * w` to `end`
pub record Lies (w : ℕ) (xs : List ℕ) (i end : ℕ) (batch : List ℕ) : Type 0 where
  pub rises : i * w ≤ end
  pub within : end ≤ length xs
  pub value : take (end - i * w) (drop (i * w) xs) ≡ batch

-- batch i ends a width after its begin, or at the end of all numbers
pub lies :
    (w : ℕ) (numbers : List ℕ) (batches : List (List ℕ)) (i : ℕ) (xs : List ℕ) (end : ℕ) →
    batches_of w numbers ≡ batches → IsCut w numbers → xs ≡ numbers → i < length batches →
    end ≡ min (i * w + w) (length xs) → Lies w xs i end (get_or batches i [])
lies w numbers batches i xs end view cut same below is =
    let count : length (batches_of w numbers) ≡ length batches = ap length view in
    let inside : i < length (batches_of w numbers) = omega (arith, count, below) in
    let long : length xs ≡ length numbers = ap length same in
    let begin = begins w (length numbers) i cut.some
    (omega (arith, count_is w numbers, inside)) in
    let left = length-drop (i * w) numbers in
    let size : end - i * w ≡ min w (length (drop (i * w) numbers)) =
    omega (arith, is, left, long) in
    record {
      rises = omega (arith, is, begin, long);
      within = omega (arith, is);
      value =
          ap (λ l. take (end - i * w) (drop (i * w) l)) same
          ∙ ap (λ n. take n (drop (i * w) numbers)) size
          ∙ take_min w (drop (i * w) numbers)
          ∙ sym (batch_is w numbers i inside)
          ∙ ap (λ l. get_or l i []) view;
    }

-- the numbers below n + 1 are those below n, and n
pub range_more : (n : ℕ) → range_with_len 0 (n + 1) ≡ range_with_len 0 n ++ n ∷ []
range_more n =
    sym (map-id (range_with_len 0 (n + 1)))
    ∙ map-range_with_len_more (λ k. k) 0 n n (omega arith)
    ∙ ap (λ ks. ks ++ n ∷ []) (map-id (range_with_len 0 n))
