-- Lists: `map`, `zip2`, `take` and `joined`, items with a property, sums, pairs and columns of a
-- trace.
use Rattle.lb_flat.proofs.Words
use Words.{◌≡◌, ℕ, zero, suc, List, [], ◌∷◌, ◌++◌, map, take, drop, inl, inr, refl, sym, ap, ◌∙◌}
use Words.{subst, Every, In, copies, joined, ◌+◌, Bool, true, false, arith, range_with_len, Option}
use Words.{Some, None, length, length-map, length-replicate, Scalar, Stream, held, choice, previous}
use Words.{first_then, latest, newest, first_cell, Inputs, tail_of, length-both, FlatClock, Always}
use Words.{Where, Operation, Input, Constant, Copy, ApplyUnary, ApplyBinary, Choose, FirstThen}
use Words.{Previous, Latest, Sample, column, instants, operate, AreLong, chosen_cell}
use Rattle.std.proofs.lemmas.List.{map-id, FromFn.map-range_with_len_more}
pub use Rattle.lb_check.proofs.lists.Members.{Every-map, Every-both, Every-append, Every-first}
pub use Rattle.lb_check.proofs.lists.Members.{Every-second, Every-piece, Every-of_pieces}
pub use Rattle.lb_check.proofs.lists.Members.{Every-range, Every-of_range}

-- ## `map`

pub range_last : (a n : ℕ) → range_with_len a (n + 1) ≡ range_with_len a n ++ (a + n) ∷ []
range_last a n =
    sym (map-id (range_with_len a (n + 1)))
    ∙ map-range_with_len_more (λ k. k) a n (a + n) refl
    ∙ ap (λ ks. ks ++ (a + n) ∷ []) (map-id (range_with_len a n))

pub tail_long : (n : ℕ) (xs : Stream) → length xs ≡ suc n → length (tail_of xs) ≡ n
tail_long n [] e = absurd (omega arith)
tail_long n (x ∷ xs) e = omega arith

pub map-maps :
    {A B C : Type 0} (f : B → C) (g : A → B) (xs : List A) →
    map f (map g xs) ≡ map (λ x. f (g x)) xs
map-maps f g [] = refl
map-maps f g (x ∷ xs) = ap (λ zs. f (g x) ∷ zs) (map-maps f g xs)

-- ## `Every`

module _ {A : Type 0} (Q : A → Type 0) where
  pub Every-take : (n : ℕ) (xs : List A) → Every Q xs → Every Q (take n xs)
  Every-take zero xs h = tt
  Every-take (suc n) [] h = tt
  Every-take (suc n) (x ∷ xs) h = (h.0, Every-take n xs h.1)

  pub Every-drop : (n : ℕ) (xs : List A) → Every Q xs → Every Q (drop n xs)
  Every-drop zero xs h = h
  Every-drop (suc n) [] h = tt
  Every-drop (suc n) (x ∷ xs) h = Every-drop n xs h.1

  pub Every-copies : (n : ℕ) (xs : List A) → Every Q xs → Every Q (copies n xs)
  Every-copies zero xs h = tt
  Every-copies (suc n) xs h = Every-append Q xs (copies n xs) h (Every-copies n xs h)

  pub Every-joined : (xss : List (List A)) → Every (Every Q) xss → Every Q (joined xss)
  Every-joined [] h = tt
  Every-joined (xs ∷ xss) h = Every-append Q xs (joined xss) h.0 (Every-joined xss h.1)

  pub Every-in : (x : A) (xs : List A) → Every Q xs → In x xs → Q x
  Every-in x [] h i = absurd i
  Every-in x (y ∷ ys) h (inl e) = subst Q e h.0
  Every-in x (y ∷ ys) h (inr i) = Every-in x ys h.1 i

-- ## One instant of `choice` and `latest`

pub choice_step :
    (c x y : Option Scalar) (cs xs ys : Stream) →
    choice (c ∷ cs) (x ∷ xs) (y ∷ ys) ≡ chosen_cell c x y ∷ choice cs xs ys
choice_step None x y cs xs ys = refl
choice_step (Some c) None y cs xs ys = refl
choice_step (Some c) (Some v) None cs xs ys = refl
choice_step (Some c) (Some v) (Some w) cs xs ys = refl

pub latest_step :
    (v : Scalar) (b : Bool) (bs : List Bool) (x : Option Scalar) (xs : Stream) →
    latest v (b ∷ bs) (x ∷ xs) ≡ held (newest v x) b ∷ latest (newest v x) bs xs
latest_step v b bs None xs = refl
latest_step v b bs (Some w) xs = refl

-- ## Lengths

length-choice :
    (n : ℕ) (cs xs ys : Stream) → length cs ≡ n → length xs ≡ n → length ys ≡ n →
    length (choice cs xs ys) ≡ n
length-choice n [] xs ys p q r = p
length-choice (suc n) (c ∷ cs) (x ∷ xs) (y ∷ ys) p q r =
    ap length (choice_step c x y cs xs ys)
    ∙ ap suc (length-choice n cs xs ys (omega arith) (omega arith) (omega arith))
length-choice _ _ _ _ p q r = absurd (omega arith)

length-first_then :
    (n : ℕ) (xs ys : Stream) → length xs ≡ n → length ys ≡ n → length (first_then xs ys) ≡ n
length-first_then n [] ys p q = p
length-first_then n (None ∷ xs) [] p q = q
length-first_then n (Some v ∷ xs) [] p q = q
length-first_then n (Some v ∷ xs) (y ∷ ys) p q = q
length-first_then zero (None ∷ xs) (y ∷ ys) p q = absurd (omega arith)
length-first_then (suc n) (None ∷ xs) (y ∷ ys) p q =
    ap suc (length-first_then n xs ys (omega arith) (omega arith))

length-previous :
    (v : Scalar) (bs : List Bool) (xs : Stream) → length (previous v bs xs) ≡ length bs
length-previous v [] xs = refl
length-previous v (b ∷ bs) xs = ap suc (length-previous (newest v (first_cell xs)) bs (tail_of xs))

length-latest :
    (n : ℕ) (v : Scalar) (bs : List Bool) (xs : Stream) → length bs ≡ n → length xs ≡ n →
    length (latest v bs xs) ≡ n
length-latest n v [] xs p q = p
length-latest n v (b ∷ bs) [] p q = q
length-latest zero v (b ∷ bs) (x ∷ xs) p q = absurd (omega arith)
length-latest (suc n) v (b ∷ bs) (x ∷ xs) p q =
    ap length (latest_step v b bs x xs)
    ∙ ap suc (length-latest n (newest v x) bs xs (omega arith) (omega arith))

-- ## Where the streams of a flat program are as long as the trace

module _ (X : Inputs) where
  pub column_long : (F : List Stream) → AreLong X F → (i : ℕ) → length (column X F i) ≡ length X
  column_long [] long i = length-replicate (length X) None
  column_long (xs ∷ F) long zero = long.0
  column_long (xs ∷ F) long (suc i) = column_long F long.1 i

  module _ (F : List Stream) (long : AreLong X F) where
    pub instants_long : (k : FlatClock) → length (instants X F k) ≡ length X
    instants_long Always = length-replicate (length X) true
    instants_long (Where k i sign) =
        length-both _ (length X) _ _ (instants_long k) (column_long F long i)

    pub operate_long : (k : FlatClock) (o : Operation) → length (operate X F k o) ≡ length X
    operate_long k (Input j) = length-map X _
    operate_long k (Constant v) = length-map (instants X F k) _ ∙ instants_long k
    operate_long k (Copy a) = column_long F long a
    operate_long k (ApplyUnary op a) = length-map (column X F a) _ ∙ column_long F long a
    operate_long k (ApplyBinary op a b) =
        length-both _ _ _ _ (column_long F long a) (column_long F long b)
    operate_long k (Choose c a b) =
        length-choice _ _ _ _ (column_long F long c) (column_long F long a) (column_long F long b)
    operate_long k (FirstThen true a b) = column_long F long b
    operate_long k (FirstThen false a b) =
        length-first_then _ _ _ (column_long F long a) (column_long F long b)
    operate_long k (Previous v a) =
        length-previous v (instants X F k) (column X F a) ∙ instants_long k
    operate_long k (Latest v a) = length-latest _ v _ _ (instants_long k) (column_long F long a)
    operate_long k (Sample a) = length-both _ _ _ _ (instants_long k) (column_long F long a)
