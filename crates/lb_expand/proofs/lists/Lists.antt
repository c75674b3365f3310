-- Lists: `map`, `zip2`, `take` and `joined`, items with a property, sums, pairs and columns of a
-- trace.
use Rattle.lb_expand.proofs.Words
use Words.{◌≡◌, ℕ, zero, suc, List, [], ◌∷◌, ◌++◌, map, take, drop, flat_map, inl, inr, refl, sym}
use Words.{ap, ap₂, ◌∙◌, subst, map-append, Every, In, copies, joined, ◌⊎◌, ◌+◌, ◌<◌, ◌≤◌, Bool}
use Words.{true, false, cond, nat_eq, arith, range_with_len, bytes_eq, cases_lt, eqb-true}
use Words.{bytes_eq-Decides, AreApart, Name, Option, Some, None, length, ◌==◌, find, nat_lt}
use Words.{slice_get, list_all, nat_tests, either_or, and_first, and_second, are_distinct, name_at}
use Words.{named, ResolvedNode, VariableId, pair_names, GivenVariable, distinct_at, option_map}
use Rattle.std.proofs.{Math.Numerals.one-add, lemmas.Bool.ne_eqb}
use Rattle.lb_syntax.proofs.SameNames.{same_number}
pub use Rattle.lb_check.proofs.lists.Members.{Every-map, Every-both, Every-append, Every-first}
pub use Rattle.lb_check.proofs.lists.Members.{Every-second, Every-piece, Every-of_pieces}
pub use Rattle.lb_check.proofs.lists.Members.{Every-range, Every-of_range}

-- ## `map`

module _ {A B : Type 0} (g : A → B) where
  pub map-take : (n : ℕ) (xs : List A) → map g (take n xs) ≡ take n (map g xs)
  map-take zero xs = refl
  map-take (suc n) [] = refl
  map-take (suc n) (x ∷ xs) = ap (λ zs. g x ∷ zs) (map-take n xs)

  pub map-drop : (n : ℕ) (xs : List A) → map g (drop n xs) ≡ drop n (map g xs)
  map-drop zero xs = refl
  map-drop (suc n) [] = refl
  map-drop (suc n) (x ∷ xs) = map-drop n xs

  pub map-copies : (n : ℕ) (xs : List A) → map g (copies n xs) ≡ copies n (map g xs)
  map-copies zero xs = refl
  map-copies (suc n) xs = cc (map-append g xs (copies n xs), map-copies n xs)

  pub map-joined : (xss : List (List A)) → map g (joined xss) ≡ joined (map (map g) xss)
  map-joined [] = refl
  map-joined (xs ∷ xss) = cc (map-append g xs (joined xss), map-joined xss)

  -- a `flat_map` whose pieces are equal piece by piece
  pub map-pieces :
      {C : Type 0} (f : C → List A) (h : C → List B) → ((c : C) → h c ≡ map g (f c)) →
      (cs : List C) → flat_map h cs ≡ map g (flat_map f cs)
  map-pieces f h e [] = refl
  map-pieces f h e (c ∷ cs) = cc (e c, map-pieces f h e cs, map-append g (f c) (flat_map f cs))

-- ## `Every`

-- what holds of every item of each piece holds of every item of their `flat_map`
module _ {A : Type 0} (Q : A → Type 0) {B : Type 0} (f : B → List A) where
  pub Every-pieces : ((b : B) → Every Q (f b)) → (bs : List B) → Every Q (flat_map f bs)
  Every-pieces h [] = tt
  Every-pieces h (b ∷ bs) = Every-append Q (f b) (flat_map f bs) (h b) (Every-pieces h bs)

-- Lists in which at least one item has a property.

-- at least one item of the list has the property `Q`
abbrev pub SomeOf : {A : Type 0} → (A → Type 0) → List A → Type 0
SomeOf Q [] = ⊥
SomeOf Q (x ∷ xs) = Q x ⊎ SomeOf Q xs

module _ {A : Type 0} (Q : A → Type 0) where
  pub some_first : (xs ys : List A) → SomeOf Q xs → SomeOf Q (xs ++ ys)
  some_first [] ys h = absurd h
  some_first (x ∷ xs) ys (inl q) = inl q
  some_first (x ∷ xs) ys (inr h) = inr (some_first xs ys h)

  pub some_second : (xs ys : List A) → SomeOf Q ys → SomeOf Q (xs ++ ys)
  some_second [] ys h = h
  some_second (x ∷ xs) ys h = inr (some_second xs ys h)

  pub some_split : (xs ys : List A) → SomeOf Q (xs ++ ys) → SomeOf Q xs ⊎ SomeOf Q ys
  some_split [] ys h = inr h
  some_split (x ∷ xs) ys (inl q) = inl (inl q)
  some_split (x ∷ xs) ys (inr h) = first (some_split xs ys h)
    where
      first : SomeOf Q xs ⊎ SomeOf Q ys → (Q x ⊎ SomeOf Q xs) ⊎ SomeOf Q ys
      first (inl g) = inl (inr g)
      first (inr g) = inr g

  -- a list with a member that has the property
  pub some_of_in : (xs : List A) (x : A) → In x xs → Q x → SomeOf Q xs
  some_of_in [] x i q = absurd i
  some_of_in (y ∷ xs) x (inl e) q = inl (subst Q (sym e) q)
  some_of_in (y ∷ xs) x (inr i) q = inr (some_of_in xs x i q)

  -- a member that has the property
  pub in_some : (xs : List A) → SomeOf Q xs → (x : A) × In x xs × Q x
  in_some [] h = absurd h
  in_some (x ∷ xs) (inl q) = (x, inl refl, q)
  in_some (x ∷ xs) (inr h) = let r = in_some xs h in (r.0, inr r.1, r.2)

-- ## Sums

abbrev pub total : {A : Type 0} → (A → ℕ) → List A → ℕ
total f [] = 0
total f (x ∷ xs) = f x + total f xs

module _ {A : Type 0} where
  pub total-append : (f : A → ℕ) (xs ys : List A) → total f (xs ++ ys) ≡ total f xs + total f ys
  total-append f [] ys = omega arith
  total-append f (x ∷ xs) ys = let e = total-append f xs ys in omega (arith, e)

  -- the total of a sum of two functions is the sum of their totals
  pub total-plus : (f g : A → ℕ) (xs : List A) → total (λ x. f x + g x) xs ≡ total f xs + total g xs
  total-plus f g [] = omega arith
  total-plus f g (x ∷ xs) = let e = total-plus f g xs in omega (arith, e)

  -- functions that are equal item by item have equal totals
  pub total-same : (f g : A → ℕ) (xs : List A) → Every (λ x. f x ≡ g x) xs → total f xs ≡ total g xs
  total-same f g [] h = refl
  total-same f g (x ∷ xs) h = ap₂ (λ a b. a + b) h.0 (total-same f g xs h.1)

module _ {A B : Type 0} where
  pub total-map : (f : B → ℕ) (g : A → B) (xs : List A) →
      total f (map g xs) ≡ total (λ x. f (g x)) xs
  total-map f g [] = refl
  total-map f g (x ∷ xs) = ap (λ a. f (g x) + a) (total-map f g xs)

  pub total-pieces : (f : B → ℕ) (g : A → List B) (xs : List A) →
      total f (flat_map g xs) ≡ total (λ x. total f (g x)) xs
  total-pieces f g [] = refl
  total-pieces f g (x ∷ xs) = cc (total-append f (g x) (flat_map g xs), total-pieces f g xs)

-- ## How often a number stands in a list

abbrev pub times : ℕ → List ℕ → ℕ
times i is = total (λ j. cond (nat_eq i j) 1 0) is

counted_here : (i j n : ℕ) → i ≡ j → cond (nat_eq i j) 1 0 + n ≡ suc n
counted_here i j n e =
    let z : nat_eq i j ≡ true = subst (λ j. nat_eq i j ≡ true) e (same_number i) in
    ap (λ b. cond b 1 0 + n) z ∙ one-add n

counted_there : (i j n : ℕ) → (i ≡ j → ⊥) → cond (nat_eq i j) 1 0 + n ≡ n
counted_there i j n f = ap (λ b. cond b 1 0 + n) (ne_eqb i j f) ∙ omega arith

-- a number that stands in a list stands there at least once
pub times_of : (i : ℕ) (is : List ℕ) → In i is → 1 ≤ times i is
times_of i [] h = absurd h
times_of i (j ∷ is) (inl e) =
    let here = counted_here i j (times i is) (sym e) in omega (arith, here)
times_of i (j ∷ is) (inr h) = let later = times_of i is h in omega (arith, later)

pub of_times : (i : ℕ) (is : List ℕ) → 1 ≤ times i is → In i is
of_times i [] le = absurd (omega arith)
of_times i (j ∷ is) le = by (nat_eq i j) refl le (of_times i is)
  where
    by : (b : Bool) → nat_eq i j ≡ b → 1 ≤ cond b 1 0 + times i is →
        (1 ≤ times i is → In i is) → In i (j ∷ is)
    by true e lt again = inl (sym (eqb-true i j e))
    by false e lt again = inr (again (omega (arith, lt)))

-- where each number stands at most once, no two items are equal
pub once_apart : (is : List ℕ) → ((i : ℕ) → times i is ≤ 1) → AreApart is
once_apart [] f = tt
once_apart (j ∷ is) f = (
  λ h.
      let here = counted_here j j (times j is) refl in
      let later = times_of j is h in
      let one = f j in
      absurd (omega (arith, here, later, one)),
  once_apart is (λ i. let one = f i in omega (arith, one)),
)

-- ## Numbers in order

pub range_low : (a n i : ℕ) → i < a → times i (range_with_len a n) ≡ 0
range_low a zero i lt = refl
range_low a (suc n) i lt =
    let off = counted_there i a (times i (range_with_len (a + 1) n))
    (λ e. absurd (omega (arith, e, lt))) in
    off ∙ range_low (a + 1) n i (omega arith)

pub range_high : (a n i : ℕ) → a + n ≤ i → times i (range_with_len a n) ≡ 0
range_high a zero i le = refl
range_high a (suc n) i le =
    let off = counted_there i a (times i (range_with_len (a + 1) n))
    (λ e. absurd (omega (arith, e, le))) in
    off ∙ range_high (a + 1) n i (omega arith)

pub range_once : (a n i : ℕ) → a ≤ i → i < a + n → times i (range_with_len a n) ≡ 1
range_once a zero i le lt = absurd (omega arith)
range_once a (suc n) i le lt = by (nat_eq i a) refl (range_once (a + 1) n i)
  where
    differs : nat_eq i a ≡ false → i ≡ a → ⊥
    differs e same =
        let both : true ≡ false = sym (same_number i) ∙ (ap (nat_eq i) same ∙ e) in absurd cc

    above : (i ≡ a → ⊥) → a + 1 ≤ i
    above z = by_order (cases_lt a i)
      where
        by_order : (a < i) ⊎ (i ≤ a) → a + 1 ≤ i
        by_order (inl less) = omega (arith, less)
        by_order (inr ge) = let same : i ≡ a = omega (arith, ge, le) in absurd (z same)

    by : (b : Bool) → nat_eq i a ≡ b →
        (a + 1 ≤ i → i < (a + 1) + n → times i (range_with_len (a + 1) n) ≡ 1) →
        times i (range_with_len a (suc n)) ≡ 1
    by true e again =
        let same = eqb-true i a e in
        counted_here i a (times i (range_with_len (a + 1) n)) same
        ∙ ap suc (range_low (a + 1) n i (omega (arith, same)))
    by false e again =
        counted_there i a (times i (range_with_len (a + 1) n)) (differs e)
        ∙ again (above (differs e)) (omega (arith, lt))

-- ## Names

-- 1 where two names are the same, and else 0
abbrev pub is_name : Name → Name → ℕ
is_name x y = cond (bytes_eq x y) 1 0

pub named_here : (x : Name) → is_name x x ≡ 1
named_here x = ap (λ b. cond b 1 0) ((bytes_eq-Decides x x).1 refl)

pub named_in : (x : Name) (ys : List Name) → 1 ≤ total (is_name x) ys → In x ys
named_in x [] le = absurd (omega arith)
named_in x (y ∷ ys) le = by (bytes_eq x y) refl le (named_in x ys)
  where
    by : (b : Bool) → bytes_eq x y ≡ b → 1 ≤ cond b 1 0 + total (is_name x) ys →
        (1 ≤ total (is_name x) ys → In x ys) → In x (y ∷ ys)
    by true e lt again = inl (sym ((bytes_eq-Decides x y).0 e))
    by false e lt again = inr (again (omega (arith, lt)))

pub in_named : (x : Name) (ys : List Name) → In x ys → 1 ≤ total (is_name x) ys
in_named x [] i = absurd i
in_named x (y ∷ ys) (inl e) =
    let here : is_name x y ≡ 1 = ap (λ z. is_name x z) e ∙ named_here x in
    omega (arith, here)
in_named x (y ∷ ys) (inr i) = let later = in_named x ys i in omega (arith, later)

-- the list without one of its names `x`
record Others (x : Name) (ys : List Name) : Type 0 where
  others : List Name
  sums : (f : Name → ℕ) → total f ys ≡ f x + total f others

taken_out : (x : Name) (ys : List Name) → In x ys → Others x ys
taken_out x [] i = absurd i
taken_out x (y ∷ ys) (inl e) =
    record { others = ys; sums = λ f. ap (λ z. f z + total f ys) e }
taken_out x (y ∷ ys) (inr i) =
    let o = taken_out x ys i in
    record {
      others = y ∷ o.others;
      sums = λ f. let e = o.sums f in omega (arith, e);
    }

-- lists that have the same names equally often have the same sums
pub same_sums :
    (xs ys : List Name) → ((x : Name) → total (is_name x) xs ≡ total (is_name x) ys) →
    (f : Name → ℕ) → total f xs ≡ total f ys
same_sums [] [] same f = refl
same_sums [] (y ∷ ys) same f =
    let e = same y in let one = named_here y in absurd (omega (arith, e, one))
same_sums (x ∷ xs) ys same f =
    let e = same x in
    let one = named_here x in
    let o = taken_out x ys (named_in x ys (omega (arith, e, one))) in
    let rest = same_sums xs o.others (λ z.
    let a = same z in let b = o.sums (is_name z) in omega (arith, a, b)) f in
    ap (λ n. f x + n) rest ∙ sym (o.sums f)

-- A pair of variables that a call gives is the same whether it is looked up by name or by number.

-- the pair that is found by name is the pair that is found by number
module _ (names : List Name) (apart : are_distinct names ≡ true) (n : ResolvedNode) (y : ℕ)
    (x : Name) (at : slice_get names y ≡ Some x) where
  own_name : (i : VariableId) → nat_lt i.0 (length names) ≡ true →
      bytes_eq (name_at names i) x ≡ nat_eq i.0 y
  own_name i low =
      let z = name_there (slice_get names i.0) refl in
      let differ = distinct_at names i.0 y (name_at names i) x apart z at in
      differ ∙ turned
    where
      below : i.0 < length names
      below = grind (arith, nat_tests)

      name_there : (o : Option Name) → slice_get names i.0 ≡ o →
          slice_get names i.0 ≡ Some (either_or (slice_get names i.0) [])
      name_there None e = absurd (past names i.0 below e)
        where
          past : (xs : List Name) (j : ℕ) → j < length xs → slice_get xs j ≡ None → ⊥
          past [] j lt e = omega (arith, lt)
          past (z ∷ xs) zero lt e = cc
          past (z ∷ xs) (suc j) lt e = past xs j (omega (arith, lt)) e
      name_there (Some z) e = e ∙ ap (λ o. Some (either_or o [])) (sym e)

      turned : (y == i.0) ≡ nat_eq i.0 y
      turned = by (nat_eq i.0 y) refl
        where
          by : (b : Bool) → nat_eq i.0 y ≡ b → (y == i.0) ≡ b
          by true e = grind (arith, nat_tests)
          by false e = grind (arith, nat_tests)

  pub found_pair :
      (gs : List GivenVariable) →
      list_all (λ g. nat_lt g.callee.0 (length names)) gs ≡ true →
      named (λ g. g.0) x (map (pair_names names n) gs)
      ≡ option_map (pair_names names n) (find (λ g. nat_eq g.callee.0 y) gs)
  found_pair [] low = refl
  found_pair (g ∷ gs) low =
      let rest = found_pair gs
      (and_second (nat_lt g.callee.0 (length names))
      (list_all (λ g. nat_lt g.callee.0 (length names)) gs) low) in
      let own = own_name g.callee (and_first (nat_lt g.callee.0 (length names))
      (list_all (λ g. nat_lt g.callee.0 (length names)) gs) low) in
      ap (λ b. cond b (Some (pair_names names n g))
      (named (λ g. g.0) x (map (pair_names names n) gs))) own
      ∙ by (nat_eq g.callee.0 y) rest
    where
      by : (b : Bool) →
          named (λ g. g.0) x (map (pair_names names n) gs)
          ≡ option_map (pair_names names n) (find (λ g. nat_eq g.callee.0 y) gs) →
          cond b (Some (pair_names names n g))
          (named (λ g. g.0) x (map (pair_names names n) gs))
          ≡ option_map (pair_names names n)
          (cond b (Some g) (find (λ g. nat_eq g.callee.0 y) gs))
      by true e = refl
      by false e = e
