-- Two lists item by item, lists that are read backwards, and searches through a list.
use Rattle.lb_check.proofs.Words
use Words.{Bool, Every, List, None, Option, Some, [], and-false, and-true, and_first, and_from}
use Words.{and_second, ap, append-nil, append_assoc, arith, at_place, cond, drop, drop_all}
use Words.{drop_more, false, first_broken, get_or, is_some, length, list_all, listed, map}
use Words.{map-append, not, or_else, refl, reverse, reverse-append, slice_get, subst, suc, sym}
use Words.{take, true, zero, ℕ, ◌&&◌, ◌++◌, ◌+◌, ◌-◌, ◌<◌, ◌∙◌, ◌∷◌, ◌≡◌, ◌≤◌}
use Rattle.std.{proofs.lemmas.List.take_more, specs.List.position_from}

-- The items of two lists, place by place.

-- ## Lists

-- two equal lists have equal first items and equal rests
pub cons_same : {A : Type 0} (x y : A) (xs ys : List A) → x ∷ xs ≡ y ∷ ys → (x ≡ y) × (xs ≡ ys)
cons_same x y xs ys e = (cc, cc)

pub get_dropped : {A : Type 0} (m : ℕ) (xs : List A) (j : ℕ) →
    slice_get (drop m xs) j ≡ slice_get xs (m + j)
get_dropped zero xs j = let e : j ≡ 0 + j = omega arith in ap (slice_get xs) e
get_dropped (suc m) [] j = refl
get_dropped (suc m) (x ∷ xs) j =
    let e : suc (m + j) ≡ suc m + j = omega arith in
    get_dropped m xs j ∙ ap (slice_get (x ∷ xs)) e

pub get_taken : {A : Type 0} (n : ℕ) (xs : List A) (i : ℕ) (x : A) →
    slice_get (take n xs) i ≡ Some x → (slice_get xs i ≡ Some x) × (i < n)
get_taken (suc n) (y ∷ xs) zero x e = (e, omega arith)
get_taken (suc n) (y ∷ xs) (suc i) x e =
    let z = get_taken n xs i x e in let lt = z.1 in
    (z.0, omega arith)
get_taken _ _ i x e = absurd cc

pub taken : {A : Type 0} (n : ℕ) (xs : List A) (i : ℕ) (x : A) → slice_get xs i ≡ Some x → i < n →
    slice_get (take n xs) i ≡ Some x
taken zero xs i x e lt = absurd (omega arith)
taken (suc n) [] i x e lt = absurd cc
taken (suc n) (y ∷ xs) zero x e lt = e
taken (suc n) (y ∷ xs) (suc i) x e lt = taken n xs i x e (omega arith)

pub get_mapped : {A B : Type 0} (f : A → B) (xs : List A) (i : ℕ) (x : A) →
    slice_get xs i ≡ Some x → slice_get (map f xs) i ≡ Some (f x)
get_mapped f [] i x e = absurd cc
get_mapped f (y ∷ xs) zero x e = let same : y ≡ x = cc in ap (λ z. Some (f z)) same
get_mapped f (y ∷ xs) (suc i) x e = get_mapped f xs i x e

-- ## Tests of two lists

-- whether the items of two lists pass a test, place by place, as far as both go
abbrev pub each_pair : {A B : Type 0} → (A → B → Bool) → List A → List B → Bool
each_pair f [] ys = true
each_pair f (x ∷ xs) [] = true
each_pair f (x ∷ xs) (y ∷ ys) = f x y && each_pair f xs ys

pub pair_at : {A B : Type 0} (f : A → B → Bool) (xs : List A) (ys : List B) (i : ℕ) (x : A)
    (y : B) → each_pair f xs ys ≡ true
    → slice_get xs i ≡ Some x → slice_get ys i ≡ Some y → f x y ≡ true
pair_at f (a ∷ xs) (b ∷ ys) zero x y e p q =
    let s : a ≡ x = cc in
    let t : b ≡ y = cc in
    sym (ap (λ z. f z b) s ∙ ap (f x) t) ∙ and_first (f a b) _ e
pair_at f (a ∷ xs) (b ∷ ys) (suc i) x y e p q = pair_at f xs ys i x y (and_second (f a b) _ e) p q
pair_at f _ _ i x y e p q = absurd cc

pub pairs_from : {A B : Type 0} (f : A → B → Bool) (xs : List A) (ys : List B)
    → ((i : ℕ) (x : A) (y : B) → slice_get xs i ≡ Some x → slice_get ys i ≡ Some y → f x y ≡ true) →
    each_pair f xs ys ≡ true
pairs_from f [] ys h = refl
pairs_from f (x ∷ xs) [] h = refl
pairs_from f (x ∷ xs) (y ∷ ys) h =
    and_from (f x y) (each_pair f xs ys) (h 0 x y refl refl)
    (pairs_from f xs ys (λ i a b p q. h (suc i) a b p q))

-- two tests with the same result at each place pass the same pairs of lists
pub same_pairs : {A B : Type 0} (f g : A → B → Bool) (xs : List A) (ys : List B)
    → ((i : ℕ) (x : A) (y : B) → slice_get xs i ≡ Some x → slice_get ys i ≡ Some y → f x y ≡ g x y)
    → each_pair f xs ys ≡ each_pair g xs ys
same_pairs f g [] ys h = refl
same_pairs f g (x ∷ xs) [] h = refl
same_pairs f g (x ∷ xs) (y ∷ ys) h =
    ap (λ b. b && each_pair f xs ys) (h 0 x y refl refl)
    ∙ ap (λ b. g x y && b) (same_pairs f g xs ys (λ i a b p q. h (suc i) a b p q))

-- Two lists whose items are in a relation, place by place.

abbrev pub Pairs : {A B : Type 0} → (A → B → Type 0) → List A → List B → Type 0
Pairs R [] [] = Unit {0}
Pairs R [] (y ∷ ys) = ⊥
Pairs R (x ∷ xs) [] = ⊥
Pairs R (x ∷ xs) (y ∷ ys) = R x y × Pairs R xs ys

module _ {A B : Type 0} (R : A → B → Type 0) where
  pub Pairs-append :
      (xs xs' : List A) (ys ys' : List B) → Pairs R xs ys → Pairs R xs' ys' →
      Pairs R (xs ++ xs') (ys ++ ys')
  Pairs-append [] xs' [] ys' h g = g
  Pairs-append (x ∷ xs) xs' (y ∷ ys) ys' h g = (h.0, Pairs-append xs xs' ys ys' h.1 g)
  Pairs-append _ xs' _ ys' h g = absurd h

  -- the items are in relation `S`, where they are in `R`, and each of the first list has `Q`, which
  -- leads from `R` to `S`
  pub Pairs-with :
      (S : A → B → Type 0) (Q : A → Type 0) → ((x : A) (y : B) → Q x → R x y → S x y) →
      (xs : List A) (ys : List B) → Every Q xs → Pairs R xs ys → Pairs S xs ys
  Pairs-with S Q f [] [] q h = tt
  Pairs-with S Q f (x ∷ xs) (y ∷ ys) q h = (f x y q.0 h.0, Pairs-with S Q f xs ys q.1 h.1)
  Pairs-with S Q f _ _ q h = absurd h

  -- the item that is paired with the one at place `i`
  pub paired_at :
      (xs : List A) (ys : List B) (i : ℕ) (x : A) → Pairs R xs ys → slice_get xs i ≡ Some x →
      (y : B) × (slice_get ys i ≡ Some y) × R x y
  paired_at [] ys i x h e = absurd cc
  paired_at (z ∷ xs) [] i x h e = absurd h
  paired_at (z ∷ xs) (y ∷ ys) zero x h e =
      let same : z ≡ x = cc in (y, refl, subst (λ w. R w y) same h.0)
  paired_at (z ∷ xs) (y ∷ ys) (suc i) x h e = paired_at xs ys i x h.1 e

-- ## Results that are added one after another

pub mapped_next :
    {A B : Type 0} (f : A → B) (xs : List A) (i : ℕ) (d : A) (done more whole : List B) (y : B) →
    i < length xs → y ≡ f (get_or xs i d) → more ≡ done ++ (y ∷ []) →
    whole ≡ done ++ map f (drop i xs) → whole ≡ more ++ map f (drop (i + 1) xs)
mapped_next f xs i d done more whole y lt is pushed known =
    let rest = map f (drop (i + 1) xs) in
    known ∙ ap (λ l. done ++ map f l) (drop_more xs i d lt)
    ∙ ap (λ z. done ++ (z ∷ rest)) (sym is) ∙ sym (append_assoc done (y ∷ []) rest)
    ∙ ap (λ l. l ++ rest) (sym pushed)

pub mapped_end : {A B : Type 0} (f : A → B) (xs : List A) (i : ℕ) (done whole : List B) →
    length xs ≤ i → whole ≡ done ++ map f (drop i xs) → whole ≡ done
mapped_end f xs i done whole le known =
    known ∙ ap (λ l. done ++ map f l) (drop_all i xs le) ∙ append-nil done

pub taken_more : {A B : Type 0} (f : A → B) (xs : List A) (i : ℕ) (x : A) (done more : List B)
    (y : B) → i < length xs → x ≡ get_or xs i x → y ≡ f x → more ≡ done ++ (y ∷ []) →
    done ≡ map f (take i xs) → more ≡ map f (take (i + 1) xs)
taken_more f xs i x done more y lt is same pushed known =
    pushed ∙ ap (λ l. l ++ (y ∷ [])) known
    ∙ ap (λ z. map f (take i xs) ++ (z ∷ [])) (same ∙ ap f is)
    ∙ sym (map-append f (take i xs) (get_or xs i x ∷ []))
    ∙ ap (map f) (sym (take_more xs i x lt))

-- ## Items that are tested one after another

-- the item at a place is tested, and found to pass or to fail
pub tested_at :
    {A : Type 0} (f : A → Bool) (xs : List A) (i : ℕ) (d : A) (tested found whole : Bool) →
    i < length xs → tested ≡ f (get_or xs i d) → tested ≡ found → whole ≡ list_all f (drop i xs) →
    whole ≡ (found && list_all f (drop (i + 1) xs))
tested_at f xs i d tested found whole lt test is known =
    known ∙ ap (list_all f) (drop_more xs i d lt)
    ∙ ap (λ b. b && list_all f (drop (i + 1) xs)) (sym test ∙ is)

-- Lists that are read, or that grow, from the last item to the first.

-- a list grows by `ys`, and then by the items `xs` that stand before them
pub further :
    {A : Type 0} (before mid after xs ys : List A) → mid ≡ before ++ reverse ys →
    after ≡ mid ++ reverse xs → after ≡ before ++ reverse (xs ++ ys)
further before mid after xs ys m a =
    a ∙ ap (λ l. l ++ reverse xs) m ∙ append_assoc before (reverse ys) (reverse xs)
    ∙ ap (λ l. before ++ l) (sym (reverse-append xs ys))

-- ## The last items, such as the last two of `[a, b, c]`

pub none_last : {A : Type 0} (all : List A) → drop (length all - 0) all ≡ []
none_last all = drop_all (length all - 0) all (omega arith)

pub more_last :
    {A : Type 0} (all : List A) (seen : ℕ) (x : A) → seen < length all →
    x ≡ get_or all (length all - 1 - seen) x →
    drop (length all - (seen + 1)) all ≡ x ∷ drop (length all - seen) all
more_last all seen x lt is =
    let at = length all - 1 - seen in
    let place : length all - (seen + 1) ≡ at = omega arith in
    let later : at + 1 ≡ length all - seen = omega (arith, lt) in
    ap (λ i. drop i all) place ∙ drop_more all at x (omega (arith, lt))
    ∙ ap (λ y. y ∷ drop (at + 1) all) (sym is) ∙ ap (λ i. x ∷ drop i all) later

pub all_last : {A : Type 0} (all : List A) (seen : ℕ) → length all ≤ seen →
    drop (length all - seen) all ≡ all
all_last all seen le =
    let none : length all - seen ≡ 0 = omega (arith, le) in ap (λ i. drop i all) none

-- The first item of a list that fails a test, and the steps of a loop that searches for it.

module _ {A : Type 0} (f : A → Bool) where
  -- the place of the first item that fails the test, in a list that begins at place `i`
  abbrev pub broken_from : ℕ → List A → Option ℕ
  broken_from i xs = position_from (λ x. not (f x)) i xs

  -- after an item that passes, the first item that fails is found from the next place on
  pub broken_more : (whole : Option ℕ) (all : List A) (i : ℕ) (x : A) →
      whole ≡ broken_from i (drop i all) → i < length all → x ≡ get_or all i x → f x ≡ true
      → whole ≡ broken_from (i + 1) (drop (i + 1) all)
  broken_more whole all i x known lt is e =
      known ∙ ap (broken_from i) (drop_more all i x lt)
      ∙ ap (λ c. cond (not c) (Some i) (broken_from (i + 1) (drop (i + 1) all)))
      (sym (ap f is) ∙ e)

  -- each item passes, where the search comes to the end of the list
  pub none_broken : (read all : List A) (i : ℕ) → length read ≤ i → read ≡ all →
      first_broken f read ≡ broken_from i (drop i read) → None ≡ first_broken f all
  none_broken read all i le same known =
      sym (sym (ap (first_broken f) same) ∙ known ∙ ap (broken_from i) (drop_all i read le))

  -- the first item that fails is found at place `i`
  pub broken_here : (read all : List A) (i : ℕ) (x : A) → i < length read → x ≡ get_or read i x →
      read ≡ all → first_broken f read ≡ broken_from i (drop i read) → f x ≡ false →
      Some i ≡ first_broken f all
  broken_here read all i x lt is same known e =
      sym (sym (ap (first_broken f) same) ∙ known ∙ ap (broken_from i) (drop_more read i x lt)
      ∙ ap (λ c. cond (not c) (Some i) (broken_from (i + 1) (drop (i + 1) read)))
      (sym (ap f is) ∙ e))

  -- one more item is judged, after others of which `broken` is the first that fails
  pub broken_next : (whole broken next : Option ℕ) (all : List A) (i : ℕ) (x : A) →
      whole ≡ or_else broken (broken_from i (drop i all)) → i < length all → x ≡ get_or all i x →
      next ≡ or_else broken (cond (f x) None (Some i)) →
      whole ≡ or_else next (broken_from (i + 1) (drop (i + 1) all))
  broken_next whole broken next all i x known lt is e =
      let rest = broken_from (i + 1) (drop (i + 1) all) in
      known ∙ ap (λ l. or_else broken (broken_from i l)) (drop_more all i x lt)
      ∙ ap (λ y. or_else broken (cond (not (f y)) (Some i) rest)) (sym is)
      ∙ by broken (f x) rest ∙ ap (λ o. or_else o rest) (sym e)
    where
      by : (o : Option ℕ) (b : Bool) (rest : Option ℕ) →
          or_else o (cond (not b) (Some i) rest) ≡ or_else (or_else o (cond b None (Some i))) rest
      by (Some k) b rest = refl
      by None true rest = refl
      by None false rest = refl

  -- where all items are judged, `broken` is the first of all that fails
  pub broken_end : (whole broken : Option ℕ) (all : List A) (i : ℕ) →
      whole ≡ or_else broken (broken_from i (drop i all)) → length all ≤ i → broken ≡ whole
  broken_end whole broken all i known le =
      by broken ∙ sym (known ∙ ap (λ l. or_else broken (broken_from i l)) (drop_all i all le))
    where
      by : (o : Option ℕ) → o ≡ or_else o None
      by (Some k) = refl
      by None = refl

  -- ## The item that is found

  all_from : (k : ℕ) (xs : List A) → broken_from k xs ≡ None → list_all f xs ≡ true
  all_from k [] e = refl
  all_from k (x ∷ xs) e = grind (arith, all_from (k + 1) xs)

  -- each item passes, where none is found that fails
  pub all_pass : (xs : List A) → first_broken f xs ≡ None → list_all f xs ≡ true
  all_pass xs e = all_from 0 xs e

  abbrev IsFailing : (k : ℕ) → List A → (m : ℕ) → Type 0
  IsFailing k xs m = (i : ℕ) × (m ≡ k + i) × (x : A) × (slice_get xs i ≡ Some x) × (f x ≡ false)

  found_from : (k : ℕ) (xs : List A) (m : ℕ) → broken_from k xs ≡ Some m → IsFailing k xs m
  found_from k [] m e = absurd cc
  found_from k (x ∷ xs) m e = by (f x) (found_from (k + 1) xs m) refl e
    where
      by : (b : Bool) → (broken_from (k + 1) xs ≡ Some m → IsFailing (k + 1) xs m) → f x ≡ b →
          cond (not b) (Some k) (broken_from (k + 1) xs) ≡ Some m → IsFailing k (x ∷ xs) m
      by true later is e =
          let h = later e in
          let moved : m ≡ k + suc h.0 = omega (arith, h.1) in
          (suc h.0, moved, h.2, h.3, h.4)
      by false later is e =
          let same : k ≡ m = cc in
          (0, omega (arith, same), x, refl, is)

  -- the item that is found stands in the list, and fails
  pub found_item : (xs : List A) (i : ℕ) → first_broken f xs ≡ Some i →
      (x : A) × (slice_get xs i ≡ Some x) × (f x ≡ false)
  found_item xs i e =
      let h = found_from 0 xs i e in
      let same : h.0 ≡ i = omega (arith, h.1) in
      (h.2, subst (λ k. slice_get xs k ≡ Some h.2) same h.3, h.4)

  -- ## A place

  pub fails_at : (xs : List A) (i : ℕ) (x : A) → slice_get xs i ≡ Some x → f x ≡ false →
      at_place f xs i ≡ false
  fails_at xs i x is e = ap (λ o. list_all f (listed (λ x. x ∷ []) o)) is ∙ and-true (f x) ∙ e

  pub fails_there : (xs : List A) (i : ℕ) → first_broken f xs ≡ Some i → at_place f xs i ≡ false
  fails_there xs i e = let h = found_item xs i e in fails_at xs i h.0 h.1 h.2

  -- not all items pass, where one fails
  pub one_fails : (xs : List A) (i : ℕ) (x : A) → slice_get xs i ≡ Some x → f x ≡ false →
      list_all f xs ≡ false
  one_fails [] i x e fails = absurd cc
  one_fails (y ∷ xs) zero x e fails = let same : y ≡ x = cc in rw (same, fails) refl
  one_fails (y ∷ xs) (suc i) x e fails = grind (arith, one_fails xs i x e fails, and-false)

  pub not_all_pass : (xs : List A) (i : ℕ) → first_broken f xs ≡ Some i → list_all f xs ≡ false
  not_all_pass xs i e = let h = found_item xs i e in one_fails xs i h.0 h.1 h.2

  -- at a place that fails stands an item that fails
  pub item_there : (xs : List A) (i : ℕ) → at_place f xs i ≡ false →
      (x : A) × (slice_get xs i ≡ Some x) × (f x ≡ false)
  item_there xs i e = grind (arith, and-true)

  -- the answer is `true` where all items pass
  pub is_none_found : (xs : List A) (o : Option ℕ) (b : Bool) → o ≡ first_broken f xs →
      is_some o ≡ not b → list_all f xs ≡ true → b ≡ true
  is_none_found xs None true e h all = refl
  is_none_found xs None false e h all = absurd cc
  is_none_found xs (Some i) b e h all =
      absurd (let no = sym (not_all_pass xs i (sym e)) ∙ all in cc)

pub none_found : (o : Option ℕ) (b : Bool) → is_some o ≡ not b → b ≡ true → o ≡ None
none_found None b h e = refl
none_found _ _ h e = absurd cc
