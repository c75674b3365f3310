-- Lists to which integers are pushed, as the code leaves them.
use Rattle.std.proofs.Common.{ℕ, ◌≡◌, ◌+◌, ◌-◌, ◌<◌, ◌≤◌, false, List, [], ◌∷◌, ◌++◌}
use Rattle.std.proofs.Common.{length, get_or, take, drop, ℤ, pos, negsuc, int_le, sym, ap, ap₂}
use Rattle.std.proofs.Common.{◌∙◌, subst, arith, ◌≤ℤ◌, ◌≢◌, set, below_more, get_or-set_other}
use Rattle.std.proofs.Common.{get_or-set_same, w16, w32, to_z, of_z}
use Rattle.std.proofs.Math.Seq.{take-add}
use Rattle.std.proofs.lemmas.Int.{ints}
use Rattle.std.proofs.lemmas.List.{append_assoc, get_or_default, get_or-take, length-take-le}
use Rattle.std.proofs.lemmas.List.{same_lists}
use Rattle.lb_traces.specs.Narrow.{IsTold, integers_of, IsNarrow}
use Rattle.lb_traces.proofs.NarrowLists.{integers-append, integers-plain, integers-cell}
use Rattle.lb_traces.proofs.NarrowLists.{integers-other}
use Rattle.lb_traces.proofs.NarrowLists.{IsNarrow-other, part-more}

-- an integer that a cell tells lies within 16 bits
pub told-low : (v : ℤ) → IsTold v → negsuc 32766 ≤ℤ v
told-low v h = grind (arith, ints, h.0)

pub told-high : (v : ℤ) → IsTold v → v ≤ℤ pos 32767
told-high v h = grind (arith, ints, h.1)

-- its cast to 16 bits is the integer itself
pub told-cast : (v : ℤ) → IsTold v → to_z w16 (of_z w16 (to_z w32 (of_z w32 v))) ≡ v
told-cast v h = omega (arith, ints, told-low v h, told-high v h)

-- one more cell of an array
pub cells-set : (cells numbers : List ℤ) (i : ℕ) (x : ℤ) → i < length cells →
    ((k : ℕ) → k < i → get_or cells k (pos 0) ≡ get_or numbers k (pos 0)) →
    x ≡ get_or numbers i (pos 0) → (k : ℕ) → k < i + 1 →
    get_or (set cells i x) k (pos 0) ≡ get_or numbers k (pos 0)
cells-set cells numbers i x l before here =
    below_more _ _ (λ k h. let ne : k ≢ i = omega arith in rw get_or-set_other (before k h))
    (rw get_or-set_same here)

-- `m` more of a list
pub chunk-pushed : (old all items new : List ℤ) (n m : ℕ) → items ≡ old ++ take n all →
    new ≡ items ++ take (n + m - n) (drop n all) → new ≡ old ++ take (n + m) all
chunk-pushed old all items new n m is pushed =
    let count : n + m - n ≡ m = omega arith in
    pushed ∙ ap₂ (λ xs k. xs ++ take k (drop n all)) is count
    ∙ append_assoc old (take n all) (take m (drop n all))
    ∙ ap (λ xs. old ++ xs) (sym (take-add n m all))

-- a list that another begins with
pub front-is : (cells numbers : List ℤ) → length numbers ≤ length cells →
    ((i : ℕ) → i < length numbers → get_or cells i (pos 0) ≡ get_or numbers i (pos 0)) →
    take (length numbers) cells ≡ numbers
front-is cells numbers fits same =
    let n = length numbers in
    let long : length (take n cells) ≡ n = length-take-le n cells fits in
    same_lists (take n cells) numbers long
    (λ i d l.
    let below : i < n = omega (arith, l, long) in
    get_or-take n cells i d below
    ∙ get_or_default cells i d (pos 0) (omega (arith, below, fits))
    ∙ same i below
    ∙ get_or_default numbers i (pos 0) d below)

module _ (cells : List ℤ) (places : List ℕ) (values now : List ℤ)
    (is : IsNarrow cells places values) (view : integers_of cells places values ≡ now) where
  -- one more cell
  pub cell-pushed : (x number : ℤ) → x ≡ number → IsTold number →
      integers_of (cells ++ x ∷ []) places values ≡ now ++ number ∷ []
  cell-pushed x number same told =
      ap (λ v. integers_of (cells ++ v ∷ []) places values) same
      ∙ integers-cell _ _ _ _ is told.0 ∙ ap (λ xs. xs ++ number ∷ []) view

  -- one more integer that stands elsewhere
  pub other-pushed : (x : ℤ) (p : ℕ) (v number : ℤ) → x ≡ negsuc 32767 → p ≡ length cells →
      v ≡ number →
      integers_of (cells ++ x ∷ []) (places ++ p ∷ []) (values ++ v ∷ []) ≡ now ++ number ∷ []
  other-pushed x p v number least last same =
      ap (λ c. integers_of (cells ++ c ∷ []) (places ++ p ∷ []) (values ++ v ∷ [])) least
      ∙ ap (λ q. integers_of (cells ++ negsuc 32767 ∷ []) (places ++ q ∷ []) (values ++ v ∷ [])) last
      ∙ integers-other cells places values v is
      ∙ ap₂ (λ xs n. xs ++ n ∷ []) view same

  pub other-fits : (x : ℤ) (p : ℕ) (v : ℤ) → x ≡ negsuc 32767 → p ≡ length cells →
      length cells < 4294967296 →
      IsNarrow (cells ++ x ∷ []) (places ++ p ∷ []) (values ++ v ∷ [])
  other-fits x p v least last few =
      subst (λ c. IsNarrow (cells ++ c ∷ []) (places ++ p ∷ []) (values ++ v ∷ [])) (sym least)
      (subst (λ q. IsNarrow (cells ++ negsuc 32767 ∷ []) (places ++ q ∷ []) (values ++ v ∷ []))
      (sym last) (IsNarrow-other cells places values v is few))

  -- more cells
  pub cells-pushed : (part numbers : List ℤ) → part ≡ numbers →
      ((i : ℕ) → i < length numbers → IsTold (get_or numbers i (pos 0))) →
      integers_of (cells ++ part) places values ≡ now ++ numbers
  cells-pushed part numbers same told =
      ap (λ xs. integers_of (cells ++ xs) places values) same
      ∙ integers-append _ _ _ _ is ∙ ap₂ (λ xs ys. xs ++ ys) view (integers-plain numbers (λ i d l.
      subst (λ v. int_le v (negsuc 32767) ≡ false) (get_or_default numbers i (pos 0) d l)
      (told i l).0))

-- one more integer at the end of the second of two lists
pub tail-pushed : (packed tail new old from : List ℤ) (start i : ℕ) (v : ℤ) →
    packed ++ tail ≡ old ++ take (i - start) (drop start from) → new ≡ tail ++ v ∷ [] →
    v ≡ get_or from i (pos 0) → start ≤ i → i < length from →
    packed ++ new ≡ old ++ take (i + 1 - start) (drop start from)
tail-pushed packed tail new old from start i v is pushed value le l =
    ap (λ xs. packed ++ xs) pushed ∙ sym (append_assoc packed tail (v ∷ []))
    ∙ ap (λ xs. xs ++ v ∷ []) is ∙ part-more old from start i v le l value
