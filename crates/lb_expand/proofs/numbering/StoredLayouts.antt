-- What is stored of a layout gives the numbers that counting the rows gives: the loops that store
-- it, and how it is read.
use Rattle.lb_expand.proofs.Words.{◌≡◌, ℕ, zero, suc, ◌+◌, ◌*◌, ◌-◌, ◌<◌, ◌≤◌, min, Bool, true}
use Rattle.lb_expand.proofs.Words.{false, List, [], ◌∷◌, ◌++◌, map, flat_map, take, drop, get_or}
use Rattle.lb_expand.proofs.Words.{length, Option, Some, None, option_map, refl, ap, ap₂, sym, ◌∙◌}
use Rattle.lb_expand.proofs.Words.{subst, arith, slice_get, sum_by, nat_lt, range_with_len}
use Rattle.lb_expand.proofs.Words.{flat_map-append, length-append, append_assoc, append-nil}
use Rattle.lb_expand.proofs.Words.{map-append, take_more, take_all, ltb-true, ltb-false, lt-ltb}
use Rattle.lb_expand.proofs.Words.{all_some, either_or, listed, element_count, product, times_sizes}
use Rattle.lb_expand.proofs.Words.{sum_of, declared_width, AreAdded, numbers_between, numbers_at, ℤ}
use Rattle.lb_expand.proofs.{Words.{sum_by-cons, sum_by_more, Declared}, frames.FramedRows.past_end}
use Rattle.lb_expand.proofs.numbering.NumberedRows.{piece_long, sum_cons, sum_append}
use Rattle.std.proofs.{Common.reverse, lemmas.{Bool.le-ltb, List.Sums.sum_by-take-le}}
use Rattle.lb_static.{specs.StaticValues.natural, proofs.Options.all_some-reverse}
use Rattle.lb_static.proofs.Widths.{product_is, product_reverse, sizes_product, product_naturals}
use Rattle.{lb_static.proofs.Widths.times_are, lb_expand.specs.Rows.sums_after}

-- ## The width of a variable

typed_count :
    (v : Declared) (o : Option (List ℕ)) →
    either_or (option_map element_count
    (option_map (λ (ns : List ℕ). record { kind = v.kind; sizes = reverse ns }) o)) 0
    ≡ either_or (option_map product (option_map (λ (ns : List ℕ). reverse ns) o)) 0
typed_count v None = refl
typed_count v (Some ns) = refl

width_product :
    (statics : List ℤ) (v : Declared) →
    declared_width statics v ≡ sizes_product (take v.sizes (drop v.first_size.0 statics))
width_product statics v =
    let vs = take v.sizes (drop v.first_size.0 statics) in
    let os = map natural vs in
    typed_count v (all_some os)
    ∙ (ap (λ o. either_or (option_map product o) 0) (sym (all_some-reverse os))
    ∙ (product_is (reverse os) ∙ (product_reverse os ∙ product_naturals vs)))

-- the product of the sizes, stopped at 65,537, is the width, stopped there too
pub capped :
    (statics : List ℤ) (v : Declared) →
    times_sizes 1 (take v.sizes (drop v.first_size.0 statics))
    ≡ min (declared_width statics v) 65537
capped statics v =
    let vs = take v.sizes (drop v.first_size.0 statics) in
    let once : 1 * sizes_product vs ≡ sizes_product vs = omega arith in
    cc (times_are 1 vs, width_product statics v)

-- ## Sums

sum_one : (n : ℕ) → sum_of (n ∷ []) ≡ n
sum_one n = omega (arith, sum_cons n [])

sums_append :
    (n : ℕ) (ws vs : List ℕ) →
    sums_after n (ws ++ vs) ≡ sums_after n ws ++ sums_after (n + sum_of ws) vs
sums_append n [] vs = let e : n ≡ n + 0 = omega arith in cc
sums_append n (w ∷ ws) vs =
    let e : (n + w) + sum_of ws ≡ n + sum_of (w ∷ ws) =
    let more = sum_cons w ws in omega (arith, more) in
    cc (sums_append (n + w) ws vs)

length_sums : (n : ℕ) (ws : List ℕ) → length (sums_after n ws) ≡ length ws
length_sums n [] = refl
length_sums n (w ∷ ws) = ap suc (length_sums (n + w) ws)

sums_at :
    (n : ℕ) (ws : List ℕ) (k : ℕ) → k ≤ length ws →
    get_or (n ∷ sums_after n ws) k 0 ≡ n + sum_of (take k ws)
sums_at n ws zero le = omega arith
sums_at n [] (suc k) le = absurd (omega arith)
sums_at n (w ∷ ws) (suc k) le =
    let e : (n + w) + sum_of (take k ws) ≡ n + sum_of (w ∷ take k ws) =
    let more = sum_cons w (take k ws) in omega (arith, more) in
    sums_at (n + w) ws k (omega arith) ∙ e

sums_past : (n : ℕ) (ws : List ℕ) (k : ℕ) → length ws < k → get_or (n ∷ sums_after n ws) k 0 ≡ 0
sums_past n ws k lt =
    let long = length_sums n ws in past_end (n ∷ sums_after n ws) k (omega (arith, long, lt))

-- the sum of a mapped list is the `sum_by` of the list
pub sum_mapped : {A : Type 0} (f : A → ℕ) (xs : List A) → sum_of (map f xs) ≡ sum_by f xs
sum_mapped f [] = refl
sum_mapped f (x ∷ xs) = cc (sum_cons (f x) (map f xs), sum_mapped f xs, sum_by-cons f x xs)

pub sum_pieces :
    {A : Type 0} (f : A → List ℕ) (xs : List A) →
    sum_of (flat_map f xs) ≡ sum_by (λ x. sum_of (f x)) xs
sum_pieces f [] = refl
sum_pieces f (x ∷ xs) =
    cc (sum_append (f x) (flat_map f xs), sum_pieces f xs, sum_by-cons (λ x. sum_of (f x)) x xs)

-- the sum of the lengths of all pieces is the length of their `flat_map`
lengths_sum :
    {A : Type 0} (f : A → List ℕ) (xs : List A) →
    sum_of (map (λ x. length (f x)) xs) ≡ length (flat_map f xs)
lengths_sum f [] = refl
lengths_sum f (x ∷ xs) =
    sum_cons (length (f x)) (map (λ x. length (f x)) xs)
    ∙ (ap (λ n. length (f x) + n) (lengths_sum f xs) ∙ sym (length-append (f x) (flat_map f xs)))

-- ## One variable more

module _ {A : Type 0} (f : A → ℕ) where
  -- the elements of one more variable are added
  pub one_added :
      (xs : List A) (i : ℕ) (d : A) (last next width more : ℕ) (before after longer : List ℕ) →
      i < length xs → AreAdded (map f (take i xs)) last before after next →
      width ≡ min (f (get_or xs i d)) 65537 →
      width ≤ 65536 - next → more ≡ next + width → longer ≡ after ++ more ∷ [] →
      AreAdded (map f (take (i + 1) xs)) last before longer more
  one_added xs i d last next width more before after longer lt h capped fits sum pushed =
      let x = get_or xs i d in
      let few = h.few in
      let next_is = h.next_is in
      let ws = map f (take i xs) in
      let exact : width ≡ f x = omega (arith, few, capped, fits) in
      let split : map f (take (i + 1) xs) ≡ ws ++ f x ∷ [] =
      ap (map f) (take_more xs i d lt) ∙ map-append f (take i xs) (x ∷ []) in
      let total = sum_append ws (f x ∷ []) in
      let last_one = sum_one (f x) in
      let end : more ≡ (last + sum_of ws) + f x = omega (arith, sum, next_is, exact) in
      rw split (record {
        starts = pushed
            ∙ (ap (λ l. l ++ more ∷ []) h.starts
            ∙ (append_assoc before (sums_after last ws) (more ∷ [])
            ∙ (ap (λ m. before ++ (sums_after last ws ++ m ∷ [])) end
            ∙ ap (λ l. before ++ l) (sym (sums_append last ws (f x ∷ []))))));
        next_is = omega (arith, end, total, last_one);
        few = omega (arith, few, fits, sum);
      })

  -- the variables have more than 65,536 elements
  pub past_most :
      (xs : List A) (i : ℕ) (d : A) (last next width : ℕ) (before after : List ℕ) →
      i < length xs → AreAdded (map f (take i xs)) last before after next →
      width ≡ min (f (get_or xs i d)) 65537 →
      65536 - next < width → 65536 < last + sum_of (map f xs)
  past_most xs i d last next width before after lt h capped over =
      let few = h.few in
      let next_is = h.next_is in
      let done = sum_mapped f (take i xs) in
      let all = sum_mapped f xs in
      let more = sum_by_more f xs i d lt in
      let part = sum_by-take-le f xs (i + 1) in
      omega (arith, few, next_is, done, all, more, part, capped, over)

-- ## One row more

-- the numbers that are stored for the rows that are done
pub record IsStored {A : Type 0} (f : A → List ℕ) (done : List A) (variables elements : List ℕ)
    (count : ℕ) : Type 0 where
  pub variables_are : variables ≡ 0 ∷ sums_after 0 (map (λ x. length (f x)) done)
  pub elements_are : elements ≡ 0 ∷ sums_after 0 (flat_map f done)
  pub count_is : count ≡ sum_of (flat_map f done)
  pub few : count ≤ 65536

module _ {A : Type 0} (f : A → List ℕ) where
  -- all rows are stored
  pub all_stored :
      (xs : List A) (i : ℕ) (variables elements : List ℕ) (count : ℕ) → length xs ≤ i →
      IsStored f (take i xs) variables elements count → IsStored f xs variables elements count
  all_stored xs i variables elements count le h = rw (← (take_all i xs le)) h

  -- one row more is stored
  pub row_stored :
      (xs : List A) (i : ℕ) (d : A) (variables elements longer more : List ℕ) (count next : ℕ) →
      i < length xs → IsStored f (take i xs) variables elements count →
      AreAdded (f (get_or xs i d)) count elements longer next →
      more ≡ variables ++ (length longer - 1) ∷ [] → IsStored f (take (i + 1) xs) more longer next
  row_stored xs i d variables elements longer more count next lt h added pushed =
      let x = get_or xs i d in
      let done = take i xs in
      let ws = flat_map f done in
      let ls = map (λ x. length (f x)) done in
      let split = take_more xs i d lt in
      let pieces : flat_map f (take (i + 1) xs) ≡ ws ++ f x =
      ap (flat_map f) split
      ∙ (flat_map-append f done (x ∷ []) ∙ ap (λ l. ws ++ l) (append-nil (f x))) in
      let lengths : map (λ x. length (f x)) (take (i + 1) xs) ≡ ls ++ length (f x) ∷ [] =
      ap (map (λ x. length (f x))) split ∙ map-append (λ x. length (f x)) done (x ∷ []) in
      let start : count ≡ 0 + sum_of ws = let e = h.count_is in omega (arith, e) in
      let elements_now : longer ≡ 0 ∷ sums_after 0 (ws ++ f x) =
      added.starts
      ∙ (ap₂ (λ l m. l ++ sums_after m (f x)) h.elements_are start
      ∙ ap (λ l. 0 ∷ l) (sym (sums_append 0 ws (f x)))) in
      let long : length longer ≡ suc (length (ws ++ f x)) =
      ap length elements_now ∙ ap suc (length_sums 0 (ws ++ f x)) in
      let parts = length-append ws (f x) in
      let before = lengths_sum f done in
      let last : length longer - 1 ≡ (0 + sum_of ls) + length (f x) =
      omega (arith, long, parts, before) in
      record {
        variables_are = pushed
            ∙ (ap₂ (λ l m. l ++ m ∷ []) h.variables_are last
            ∙ (ap (λ l. 0 ∷ l) (sym (sums_append 0 ls (length (f x) ∷ [])))
            ∙ ap (λ l. 0 ∷ sums_after 0 l) (sym lengths)));
        elements_are = elements_now ∙ ap (λ l. 0 ∷ sums_after 0 l) (sym pieces);
        count_is = let s = sum_append ws (f x) in
            let n = added.next_is in
            let t = ap sum_of pieces in
            omega (arith, start, n, s, t);
        few = added.few;
      }

  -- there are more than 65,536 elements
  pub rows_past :
      (xs : List A) (i : ℕ) (d : A) (variables elements : List ℕ) (count : ℕ) →
      i < length xs → IsStored f (take i xs) variables elements count →
      65536 < count + sum_of (f (get_or xs i d)) → 65536 < sum_of (flat_map f xs)
  rows_past xs i d variables elements count lt h over =
      let count_is = h.count_is in
      let done = sum_pieces f (take i xs) in
      let all = sum_pieces f xs in
      let more = sum_by_more (λ y. sum_of (f y)) xs i d lt in
      let part = sum_by-take-le (λ y. sum_of (f y)) xs (i + 1) in
      omega (arith, count_is, done, all, more, part, over)

-- ## Reading a stored layout

module _ (variables elements : List ℕ) (j x first next : ℕ) where
  nothing :
      next ≤ first + x → get_or variables j 0 ≡ first → get_or variables (j + 1) 0 ≡ next →
      numbers_at variables elements j x ≡ []
  nothing le e g = cc (le-ltb x (next - first) (omega (arith, le)))

  something :
      first + x < next → get_or variables j 0 ≡ first → get_or variables (j + 1) 0 ≡ next →
      numbers_at variables elements j x
      ≡ numbers_between (get_or elements (first + x) 0) (get_or elements (first + x + 1) 0)
  something lt e g = cc (lt-ltb x (next - first) (omega (arith, lt)))

module _ {A : Type 0} (f : A → List ℕ) where
  take_first : (xs ys : List ℕ) (n : ℕ) → n ≤ length xs → take n (xs ++ ys) ≡ take n xs
  take_first xs ys zero le = refl
  take_first [] ys (suc n) le = absurd (omega arith)
  take_first (x ∷ xs) ys (suc n) le = ap (λ l. x ∷ l) (take_first xs ys n (omega arith))

  take_over : (xs ys : List ℕ) (n : ℕ) → take (length xs + n) (xs ++ ys) ≡ xs ++ take n ys
  take_over [] ys n = let e : 0 + n ≡ n = omega arith in ap (λ m. take m ys) e
  take_over (x ∷ xs) ys n =
      let e : suc (length xs) + n ≡ suc (length xs + n) = omega arith in
      ap (λ m. take m (x ∷ (xs ++ ys))) e ∙ ap (λ l. x ∷ l) (take_over xs ys n)

  take_pieces :
      (xs : List A) (j : ℕ) (x : A) → slice_get xs j ≡ Some x → (n : ℕ) → n ≤ length (f x) →
      take (length (flat_map f (take j xs)) + n) (flat_map f xs)
      ≡ flat_map f (take j xs) ++ take n (f x)
  take_pieces [] j x e n le = absurd cc
  take_pieces (y ∷ xs) zero x e n le =
      let same : y ≡ x = cc in
      let start : 0 + n ≡ n = omega arith in
      let long : n ≤ length (f y) = subst (λ z. n ≤ length (f z)) (sym same) le in
      cc (take_first (f y) (flat_map f xs) n long)
  take_pieces (y ∷ xs) (suc j) x e n le =
      let rest = flat_map f (take j xs) in
      let start : length (f y ++ rest) + n ≡ length (f y) + (length rest + n) =
      let more = length-append (f y) rest in omega (arith, more) in
      ap (λ m. take m (f y ++ flat_map f xs)) start
      ∙ (take_over (f y) (flat_map f xs) (length rest + n)
      ∙ (ap (λ l. f y ++ l) (take_pieces xs j x e n le)
      ∙ sym (append_assoc (f y) rest (take n (f x)))))

  within_rows : (xs : List A) (j : ℕ) (x : A) → slice_get xs j ≡ Some x → j < length xs
  within_rows [] j x e = absurd cc
  within_rows (y ∷ xs) zero x e = omega arith
  within_rows (y ∷ xs) (suc j) x e =
      let below = within_rows xs j x e in omega (arith, below)

  no_row : (xs : List A) (j : ℕ) → slice_get xs j ≡ None → length xs ≤ j
  no_row [] j e = omega arith
  no_row (y ∷ xs) zero e = absurd cc
  no_row (y ∷ xs) (suc j) e = let past = no_row xs j e in omega (arith, past)

  length_mapped : (g : A → ℕ) (xs : List A) → length (map g xs) ≡ length xs
  length_mapped g [] = refl
  length_mapped g (x ∷ xs) = ap suc (length_mapped g xs)

  take_mapped : (g : A → ℕ) (k : ℕ) (xs : List A) → take k (map g xs) ≡ map g (take k xs)
  take_mapped g zero xs = refl
  take_mapped g (suc k) [] = refl
  take_mapped g (suc k) (x ∷ xs) = ap (λ l. g x ∷ l) (take_mapped g k xs)

  length_taken : (n : ℕ) (l : List ℕ) → length (take n l) ≤ length l
  length_taken zero l = omega arith
  length_taken (suc n) [] = omega arith
  length_taken (suc n) (x ∷ l) = let h = length_taken n l in omega (arith, h)

  -- the pieces before place `j`, with the piece at `j`, are no longer than all pieces
  pieces_within :
      (xs : List A) (j : ℕ) (x : A) → slice_get xs j ≡ Some x →
      length (flat_map f (take j xs)) + length (f x) ≤ length (flat_map f xs)
  pieces_within xs j x e =
      let before = flat_map f (take j xs) in
      let taken = take_pieces xs j x e (length (f x)) (omega arith) in
      let all = take_all (length (f x)) (f x) (omega arith) in
      let front = length-append before (f x) in
      let same : length (take (length before + length (f x)) (flat_map f xs))
      ≡ length (before ++ f x) =
      ap length (taken ∙ ap (λ l. before ++ l) all) in
      let few = length_taken (length before + length (f x)) (flat_map f xs) in
      omega (arith, front, same, few)

  module _ (xs : List A) (variables elements : List ℕ) (count : ℕ)
      (h : IsStored f xs variables elements count) where
    -- item `k` of `variables` is the number of variables of the first `k` rows
    pub starts : (k : ℕ) → k ≤ length xs → get_or variables k 0 ≡ length (flat_map f (take k xs))
    starts k le =
        let ls = map (λ x. length (f x)) xs in
        let long = length_mapped (λ x. length (f x)) xs in
        let some = lengths_sum f (take k xs) in
        ap (λ l. get_or l k 0) h.variables_are
        ∙ (sums_at 0 ls k (omega (arith, long, le))
        ∙ (ap (λ l. 0 + sum_of l) (take_mapped (λ x. length (f x)) k xs)
        ∙ omega (arith, some)))

    starts_past : (k : ℕ) → length xs < k → get_or variables k 0 ≡ 0
    starts_past k lt =
        let ls = map (λ x. length (f x)) xs in
        let long = length_mapped (λ x. length (f x)) xs in
        ap (λ l. get_or l k 0) h.variables_are ∙ sums_past 0 ls k (omega (arith, long, lt))

    -- the start of variable `n` of row `j`: after the elements of the rows and variables before it
    element_start :
        (j : ℕ) (row : A) → slice_get xs j ≡ Some row → (n : ℕ) → n ≤ length (f row) →
        get_or elements (length (flat_map f (take j xs)) + n) 0
        ≡ sum_of (flat_map f (take j xs)) + sum_of (take n (f row))
    element_start j row e n le =
        let before = flat_map f (take j xs) in
        let room = pieces_within xs j row e in
        let within : length before + n ≤ length (flat_map f xs) = omega (arith, room, le) in
        let split = sum_append before (take n (f row)) in
        ap (λ l. get_or l (length before + n) 0) h.elements_are
        ∙ (sums_at 0 (flat_map f xs) (length before + n) within
        ∙ (ap (λ l. 0 + sum_of l) (take_pieces xs j row e n le) ∙ omega (arith, split)))

    row_read :
        (j x : ℕ) (row : A) → slice_get xs j ≡ Some row →
        numbers_at variables elements j x
        ≡ range_with_len (sum_of (flat_map f (take j xs)) + sum_of (take x (f row)))
        (get_or (f row) x 0)
    row_read j x row e = by (nat_lt x (length (f row))) refl
      where
        by : (b : Bool) → nat_lt x (length (f row)) ≡ b →
            numbers_at variables elements j x
            ≡ range_with_len (sum_of (flat_map f (take j xs)) + sum_of (take x (f row)))
            (get_or (f row) x 0)
        by false is =
            let first = length (flat_map f (take j xs)) in
            let below = within_rows xs j row e in
            let end = piece_long f xs j row e in
            let le = ltb-false x (length (f row)) is in
            let no : get_or (f row) x 0 ≡ 0 = past_end (f row) x le in
            nothing variables elements j x first (first + length (f row)) (omega (arith, le))
            (starts j (omega (arith, below))) (starts (j + 1) (omega (arith, below)) ∙ end)
            ∙ ap (range_with_len (sum_of (flat_map f (take j xs)) + sum_of (take x (f row))))
            (sym no)
        by true is =
            let first = length (flat_map f (take j xs)) in
            let sum = sum_of (flat_map f (take j xs)) in
            let below = within_rows xs j row e in
            let end = piece_long f xs j row e in
            let lt = ltb-true x (length (f row)) is in
            let from = element_start j row e x (omega (arith, lt)) in
            let next : first + x + 1 ≡ first + (x + 1) = omega arith in
            let to = ap (λ n. get_or elements n 0) next
            ∙ element_start j row e (x + 1) (omega (arith, lt)) in
            let more = sum_by_more (λ k. k) (f row) x 0 lt in
            let wide : (sum + sum_of (take (x + 1) (f row))) - (sum + sum_of (take x (f row)))
            ≡ get_or (f row) x 0 = omega (arith, more) in
            something variables elements j x first (first + length (f row)) (omega (arith, lt))
            (starts j (omega (arith, below))) (starts (j + 1) (omega (arith, below)) ∙ end)
            ∙ (ap₂ numbers_between from to
            ∙ ap (range_with_len (sum + sum_of (take x (f row)))) wide)

    -- the numbers that are read of a layout are the numbers that are counted
    pub read_numbers :
        (j x : ℕ) →
        numbers_at variables elements j x
        ≡ range_with_len
        (sum_of (flat_map f (take j xs)) + sum_of (take x (listed f (slice_get xs j))))
        (get_or (listed f (slice_get xs j)) x 0)
    read_numbers j x = by (slice_get xs j) refl
      where
        by : (o : Option A) → slice_get xs j ≡ o →
            numbers_at variables elements j x
            ≡ range_with_len (sum_of (flat_map f (take j xs)) + sum_of (take x (listed f o)))
            (get_or (listed f o) x 0)
        by None e =
            let past = no_row xs j e in
            let no = past_end [] x (omega arith) in
            cc (nothing variables elements j x (get_or variables j 0) 0 (omega arith) refl
            (starts_past (j + 1) (omega (arith, past))))
        by (Some row) e = row_read j x row e
