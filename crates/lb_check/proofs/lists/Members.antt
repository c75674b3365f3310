-- Members of lists: statements on each item, lists in which nothing stands twice, distinct names.
use Rattle.lb_check.proofs.Words
use Words.{Bool, Every, IfSome, In, List, Name, None, Option, Some, [], among, and_first}
use Words.{and_second, ap, ap₂, are_distinct, arith, bytes_eq, bytes_eq-Decides, false}
use Words.{false_from_ne_true, flat_map, in_map, inl, inr, length, list_all, map, nat_lt, nat_tests}
use Words.{not, not-true, or_first, or_second, range_with_len, refl, reverse, reverse-append}
use Words.{slice_get, some_of, subst, suc, sym, true, zero, ℕ, ◌++◌, ◌+◌, ◌<◌, ◌==◌, ◌∙◌, ◌∷◌, ◌≡◌}
use Words.{◌≤◌, ◌⊎◌}
use Rattle.std.specs.List.{filter}
pub use Rattle.lb_syntax.specs.Lists.{AreApart}

-- Statements on each item of a list.

pub Every-map :
    {A : Type 0} (P Q : A → Type 0) → ((a : A) → P a → Q a) → (xs : List A) →
    Every P xs → Every Q xs
Every-map P Q f [] h = tt
Every-map P Q f (x ∷ xs) h = (f x h.0, Every-map P Q f xs h.1)

pub Every-both :
    {A : Type 0} (P Q : A → Type 0) → (xs : List A) → Every P xs → Every Q xs →
    Every (λ x. P x × Q x) xs
Every-both P Q [] p q = tt
Every-both P Q (x ∷ xs) p q = ((p.0, q.0), Every-both P Q xs p.1 q.1)

-- each item passes a test that `list_all` passes
pub Every-tested :
    {A : Type 0} (test : A → Bool) (xs : List A) → list_all test xs ≡ true →
    Every (λ x. test x ≡ true) xs
Every-tested test [] e = tt
Every-tested test (x ∷ xs) e =
    (and_first (test x) _ e, Every-tested test xs (and_second (test x) _ e))

module _ {A : Type 0} (Q : A → Type 0) where
  pub Every-all : ((x : A) → Q x) → (xs : List A) → Every Q xs
  Every-all h [] = tt
  Every-all h (x ∷ xs) = (h x, Every-all h xs)

  pub Every-append : (xs ys : List A) → Every Q xs → Every Q ys → Every Q (xs ++ ys)
  Every-append [] ys p q = q
  Every-append (x ∷ xs) ys p q = (p.0, Every-append xs ys p.1 q)

  pub Every-first : (xs ys : List A) → Every Q (xs ++ ys) → Every Q xs
  Every-first [] ys p = tt
  Every-first (x ∷ xs) ys p = (p.0, Every-first xs ys p.1)

  pub Every-second : (xs ys : List A) → Every Q (xs ++ ys) → Every Q ys
  Every-second [] ys p = p
  Every-second (x ∷ xs) ys p = Every-second xs ys p.1

-- a statement on each item holds of the items that pass a test
pub Every-filter :
    {A : Type 0} (Q : A → Type 0) (test : A → Bool) (xs : List A) → Every Q xs →
    Every Q (filter test xs)
Every-filter Q test [] h = tt
Every-filter Q test (x ∷ xs) h = grind (arith, Every-filter Q test xs h.1, h.0)

-- a statement on each item of a `flat_map` holds of each item of each piece
module _ {A : Type 0} (Q : A → Type 0) {B : Type 0} (f : B → List A) where
  pub Every-piece : (bs : List B) → Every Q (flat_map f bs) → Every (λ b. Every Q (f b)) bs
  Every-piece [] h = tt
  Every-piece (b ∷ bs) h = (
    Every-first Q (f b) (flat_map f bs) h,
    Every-piece bs (Every-second Q (f b) (flat_map f bs) h),
  )

  pub Every-of_pieces : (bs : List B) → Every (λ b. Every Q (f b)) bs → Every Q (flat_map f bs)
  Every-of_pieces [] h = tt
  Every-of_pieces (b ∷ bs) h = Every-append Q (f b) (flat_map f bs) h.0 (Every-of_pieces bs h.1)

-- a statement on each result that is found holds of each item of the results
module _ {A B : Type 0} (Q : B → Type 0) (f : A → Option B) where
  pub Every-found : (xs : List A) → Every (λ x. IfSome (f x) Q) xs → Every Q (some_of (map f xs))
  Every-found [] h = tt
  Every-found (x ∷ xs) h = grind (arith, h.0, Every-found xs h.1)

  pub Every-finds : (xs : List A) → Every Q (some_of (map f xs)) → Every (λ x. IfSome (f x) Q) xs
  Every-finds [] h = tt
  Every-finds (x ∷ xs) h = grind (arith, h, Every-finds xs)

pub Every-range : (Q : ℕ → Type 0) (a n i : ℕ) → Every Q (range_with_len a n) → i < n → Q (a + i)
Every-range Q a zero i h lt = absurd (omega arith)
Every-range Q a (suc n) zero h lt = subst Q (omega arith) h.0
Every-range Q a (suc n) (suc i) h lt =
    let e : (a + 1) + i ≡ a + suc i = omega arith in
    subst Q e (Every-range Q (a + 1) n i h.1 (omega arith))

pub Every-of_range :
    (Q : ℕ → Type 0) (a n : ℕ) → ((i : ℕ) → i < n → Q (a + i)) → Every Q (range_with_len a n)
Every-of_range Q a zero h = tt
Every-of_range Q a (suc n) h = (
  let e : a + 0 ≡ a = omega arith in subst Q e (h 0 (omega arith)),
  Every-of_range Q (a + 1) n (λ i lt.
      let e : a + suc i ≡ (a + 1) + i = omega arith in
      subst Q e (h (suc i) (omega arith))),
)

-- ## Lists that are equal piece by piece

pub flat_same :
    {A B : Type 0} (f g : A → List B) (xs : List A) → Every (λ x. f x ≡ g x) xs →
    flat_map f xs ≡ flat_map g xs
flat_same f g [] h = refl
flat_same f g (x ∷ xs) h = ap₂ (λ ys zs. ys ++ zs) h.0 (flat_same f g xs h.1)

pub Every-reverse : {A : Type 0} (Q : A → Type 0) (xs : List A) → Every Q xs → Every Q (reverse xs)
Every-reverse Q [] h = tt
Every-reverse Q (x ∷ xs) h =
    subst (Every Q) (sym (reverse-append (x ∷ []) xs))
    (Every-append Q (reverse xs) (x ∷ []) (Every-reverse Q xs h.1) (h.0, tt))

-- Membership in lists, and lists in which nothing stands twice.

-- ## Membership

module _ {A : Type 0} where
  pub in_first : (x : A) (xs ys : List A) → In x xs → In x (xs ++ ys)
  in_first x [] ys i = absurd i
  in_first x (z ∷ xs) ys (inl e) = inl e
  in_first x (z ∷ xs) ys (inr i) = inr (in_first x xs ys i)

  pub in_second : (x : A) (xs ys : List A) → In x ys → In x (xs ++ ys)
  in_second x [] ys i = i
  in_second x (z ∷ xs) ys i = inr (in_second x xs ys i)

  pub in_either : (x : A) (xs ys : List A) → In x (xs ++ ys) → In x xs ⊎ In x ys
  in_either x [] ys i = inr i
  in_either x (z ∷ xs) ys (inl e) = inl (inl e)
  in_either x (z ∷ xs) ys (inr i) = grind (arith, in_either x xs ys i)

  pub Every-at : (Q : A → Type 0) (xs : List A) (x : A) → Every Q xs → In x xs → Q x
  Every-at Q [] x h i = absurd i
  Every-at Q (y ∷ xs) x h (inl e) = subst Q e h.0
  Every-at Q (y ∷ xs) x h (inr i) = Every-at Q xs x h.1 i

  pub Every-from : (Q : A → Type 0) (xs : List A) → ((x : A) → In x xs → Q x) → Every Q xs
  Every-from Q [] h = tt
  Every-from Q (x ∷ xs) h = (h x (inl refl), Every-from Q xs (λ y i. h y (inr i)))

module _ {A B : Type 0} (f : A → Option B) where
  pub in_some : (xs : List A) (x : A) (y : B) → In x xs → f x ≡ Some y → In y (some_of (map f xs))
  in_some [] x y i is = absurd i
  in_some (z ∷ xs) x y (inl e) is =
      let same : f z ≡ Some y = ap f e ∙ is in
      rw same (inl refl)
  in_some (z ∷ xs) x y (inr i) is = grind (arith, in_some xs x y i is)

  pub some_in :
      (xs : List A) (y : B) → In y (some_of (map f xs)) → (x : A) × In x xs × (f x ≡ Some y)
  some_in [] y i = absurd i
  some_in (z ∷ xs) y i = by (f z) refl i (some_in xs y)
    where
      later : (x : A) × In x xs × (f x ≡ Some y) → (x : A) × In x (z ∷ xs) × (f x ≡ Some y)
      later h = (h.0, inr h.1, h.2)

      by : (o : Option B) → f z ≡ o → In y (some_of (o ∷ map f xs)) →
          (In y (some_of (map f xs)) → (x : A) × In x xs × (f x ≡ Some y)) →
          (x : A) × In x (z ∷ xs) × (f x ≡ Some y)
      by None e j again = later (again j)
      by (Some w) e (inl same) again = (z, inl refl, e ∙ ap Some same)
      by (Some w) e (inr j) again = later (again j)

-- ## Lists in which nothing stands twice

module _ {A : Type 0} where
  pub apart-append :
      (xs ys : List A) → AreApart xs → AreApart ys → ((x : A) → In x xs → In x ys → ⊥) →
      AreApart (xs ++ ys)
  apart-append [] ys h g f = g
  apart-append (x ∷ xs) ys h g f =
      (λ i. neither (in_either x xs ys i), apart-append xs ys h.1 g (λ y i. f y (inr i)))
    where
      neither : In x xs ⊎ In x ys → ⊥
      neither (inl i) = h.0 i
      neither (inr i) = f x (inl refl) i

module _ {A B : Type 0} (f : A → B) where
  -- two items with one image are the same item, where the images are apart
  pub apart_single :
      (xs : List A) (x y : A) → AreApart (map f xs) → In x xs → In y xs → f x ≡ f y → x ≡ y
  apart_single [] x y h i j e = absurd i
  apart_single (z ∷ xs) x y h (inl p) (inl q) e = sym p ∙ q
  apart_single (z ∷ xs) x y h (inl p) (inr j) e =
      absurd (h.0 (subst (λ b. In b (map f xs)) (sym e ∙ sym (ap f p)) (in_map f xs y j)))
  apart_single (z ∷ xs) x y h (inr i) (inl q) e =
      absurd (h.0 (subst (λ b. In b (map f xs)) (e ∙ sym (ap f q)) (in_map f xs x i)))
  apart_single (z ∷ xs) x y h (inr i) (inr j) e = apart_single xs x y h.1 i j e

module _ {A B : Type 0} (f : A → Option B) where
  -- the results of `f` on the items of a list are apart, where no two items have one result
  pub some_apart :
      (xs : List A) → AreApart xs →
      ((x y : A) (b : B) → f x ≡ Some b → f y ≡ Some b → x ≡ y) →
      AreApart (some_of (map f xs))
  some_apart [] h one = tt
  some_apart (z ∷ xs) h one = by (f z) refl (some_apart xs h.1 one)
    where
      by : (o : Option B) → f z ≡ o → AreApart (some_of (map f xs)) →
          AreApart (some_of (o ∷ map f xs))
      by None e rest = rest
      by (Some b) e rest = (
        λ i.
            let x = some_in f xs b i in
            h.0 (subst (λ y. In y xs) (sym (one z x.0 b e x.2)) x.1),
        rest,
      )

module _ {A B : Type 0} (f : A → List B) where
  -- an item of `xs` in whose piece `b` stands
  pub record IsPiece (b : B) (xs : List A) : Type 0 where
    pub source : A
    pub is_in : In source xs
    pub holds : In b (f source)

  pub of_pieces : (b : B) (xs : List A) → In b (flat_map f xs) → IsPiece b xs
  of_pieces b [] h = absurd h
  of_pieces b (x ∷ xs) h = by (in_either b (f x) (flat_map f xs) h) (of_pieces b xs)
    where
      later : IsPiece b xs → IsPiece b (x ∷ xs)
      later p = record { source = p.source; is_in = inr p.is_in; holds = p.holds }

      by :
          In b (f x) ⊎ In b (flat_map f xs) → (In b (flat_map f xs) → IsPiece b xs) →
          IsPiece b (x ∷ xs)
      by (inl i) again = record { source = x; is_in = inl refl; holds = i }
      by (inr i) again = later (again i)

  pub to_pieces : (b : B) (x : A) (xs : List A) → In x xs → In b (f x) → In b (flat_map f xs)
  to_pieces b x [] i j = absurd i
  to_pieces b x (y ∷ xs) (inl e) j =
      in_first b (f y) (flat_map f xs) (subst (λ z. In b (f z)) (sym e) j)
  to_pieces b x (y ∷ xs) (inr i) j = in_second b (f y) (flat_map f xs) (to_pieces b x xs i j)

  pub apart_pieces :
      (xs : List A) → AreApart xs → ((x : A) → In x xs → AreApart (f x)) →
      ((b : B) (x y : A) → In x xs → In y xs → In b (f x) → In b (f y) → x ≡ y) →
      AreApart (flat_map f xs)
  apart_pieces [] h g shared = tt
  apart_pieces (x ∷ xs) h g shared =
      apart-append (f x) (flat_map f xs) (g x (inl refl))
      (apart_pieces xs h.1 (λ y i. g y (inr i)) (λ b y z i j. shared b y z (inr i) (inr j)))
      (λ b i j.
      let p = of_pieces b xs j in
      let same = shared b p.source x (inr p.is_in) (inl refl) p.holds i in
      h.0 (subst (λ y. In y xs) same p.is_in))

-- ## Numbers in order

pub range_above : (a n i : ℕ) → In i (range_with_len a n) → a ≤ i
range_above a zero i h = absurd h
range_above a (suc n) i (inl e) = omega (arith, e)
range_above a (suc n) i (inr h) = omega (arith, range_above (a + 1) n i h)

pub range_apart : (a n : ℕ) → AreApart (range_with_len a n)
range_apart a zero = tt
range_apart a (suc n) =
    (λ i. absurd (omega (arith, range_above (a + 1) n a i)), range_apart (a + 1) n)

pub in_range : (a n i : ℕ) → i < n → In (a + i) (range_with_len a n)
in_range a zero i lt = absurd (omega arith)
in_range a (suc n) zero lt = inl (omega arith)
in_range a (suc n) (suc i) lt =
    let e : (a + 1) + i ≡ a + suc i = omega arith in
    inr (subst (λ j. In j (range_with_len (a + 1) n)) e (in_range (a + 1) n i (omega arith)))

-- Distinct names, and the names at the places of a list.

among_append : (x : Name) (ys zs : List Name) → among x (ys ++ zs) ≡ false → among x ys ≡ false
among_append x [] zs e = refl
among_append x (y ∷ ys) zs e =
    let a = or_first (bytes_eq x y) _ e in
    let b = among_append x ys zs (or_second (bytes_eq x y) _ e) in
    rw a b

pub distinct_first : (xs ys : List Name) → are_distinct (xs ++ ys) ≡ true → are_distinct xs ≡ true
distinct_first [] ys e = refl
distinct_first (x ∷ xs) ys e =
    let a = among_append x xs ys (not-true _ (and_first _ (are_distinct (xs ++ ys)) e)) in
    rw a (distinct_first xs ys (and_second (not (among x (xs ++ ys))) _ e))

pub not_among : (x : Name) (ys : List Name) (i : ℕ) (y : Name) → among x ys ≡ false →
    slice_get ys i ≡ Some y → bytes_eq x y ≡ false
not_among x [] i y a e = absurd cc
not_among x (z ∷ ys) zero y a e =
    let same : z ≡ y = cc in subst (λ w. bytes_eq x w ≡ false) same (or_first (bytes_eq x z) _ a)
not_among x (z ∷ ys) (suc i) y a e = not_among x ys i y (or_second (bytes_eq x z) _ a) e

pub held_at : {A : Type 0} (xs : List A) (i : ℕ) → nat_lt i (length xs) ≡ true →
    (x : A) × (slice_get xs i ≡ Some x)
held_at [] i e = absurd (grind (arith, nat_tests))
held_at (x ∷ xs) zero e = (x, refl)
held_at (x ∷ xs) (suc i) e = held_at xs i (grind (arith, nat_tests))

zero_suc : (i : ℕ) → (suc i == 0) ≡ false
zero_suc i = grind (arith, nat_tests)

suc_zero : (i : ℕ) → (0 == suc i) ≡ false
suc_zero i = grind (arith, nat_tests)

pub unequal : (x y : Name) → bytes_eq x y ≡ false → bytes_eq y x ≡ false
unequal x y e =
    false_from_ne_true _
    (λ is. let same = (bytes_eq-Decides x y).1 (sym ((bytes_eq-Decides y x).0 is)) in absurd cc)

pub distinct_at : (xs : List Name) (i j : ℕ) (x y : Name) → are_distinct xs ≡ true →
    slice_get xs i ≡ Some x → slice_get xs j ≡ Some y
    → bytes_eq x y ≡ (j == i)
distinct_at [] i j x y d p q = absurd cc
distinct_at (z ∷ xs) zero zero x y d p q =
    let s : z ≡ x = cc in let t : z ≡ y = cc in
    let same : x ≡ y = sym s ∙ t in (bytes_eq-Decides x y).1 same
distinct_at (z ∷ xs) zero (suc j) x y d p q =
    let s : z ≡ x = cc in
    let no = not_among z xs j y (not-true _ (and_first _ (are_distinct xs) d)) q in
    subst (λ w. bytes_eq w y ≡ false) s no ∙ sym (zero_suc j)
distinct_at (z ∷ xs) (suc i) zero x y d p q =
    let s : z ≡ y = cc in
    let no = not_among z xs i x (not-true _ (and_first _ (are_distinct xs) d)) p in
    subst (λ w. bytes_eq x w ≡ false) s (unequal z x no) ∙ sym (suc_zero i)
distinct_at (z ∷ xs) (suc i) (suc j) x y d p q =
    distinct_at xs i j x y (and_second (not (among z xs)) _ d) p q ∙ grind (arith, nat_tests)
