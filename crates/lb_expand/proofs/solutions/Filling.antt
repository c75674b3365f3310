-- Equations that each name only elements before their own have streams, from any streams before.
use Rattle.lb_expand.proofs.Words
use Words.{◌≡◌, ℕ, zero, suc, ◌+◌, ◌<◌, true, false, ◌&&◌, List, [], ◌∷◌, ◌++◌, length, refl, sym}
use Words.{ap, ap₂, ◌∙◌, arith, inl, inr, subst, cases_lt, Every, zip2, Stream, two_scalars}
use Words.{one_scalar, constantly, along, along_two, choice, previous, first_then, sample, latest}
use Words.{shows, Inputs, FlatClock, Always, Where, Operation, Input, Constant, Copy, ApplyUnary}
use Words.{ApplyBinary, Choose, FirstThen, Previous, Latest, Sample, FlatEquation, column, instants}
use Words.{operate, Holds, AreLong, clock_reads, reads, keeps, length-append}
use Rattle.lb_flat.proofs.lists.Lists.{Every-first, Every-second, Every-append, operate_long}

-- the elements that an equation names: in its clock, and as operands that it reads or keeps
abbrev pub names : FlatEquation → List ℕ
names q = clock_reads q.clock ++ (reads q.operation ++ keeps q.operation)

-- an equation that gives element `n` and names only elements below it
pub record IsFresh (n : ℕ) (q : FlatEquation) : Type 0 where
  pub element : q.element ≡ n
  pub names_below : Every (λ i. i < n) (names q)

-- equations that give the elements from `n` on, one after another, each from elements below it
abbrev pub Fresh : ℕ → List FlatEquation → Type 0
Fresh n [] = Unit {0}
Fresh n (q ∷ qs) = IsFresh n q × Fresh (suc n) qs

-- what holds of all elements below `n` holds of all that a fresh equation of `n` names; where it
-- also holds of `n`, it holds of all elements up to `n`
module _ (G : ℕ → Type 0) (n : ℕ) (q : FlatEquation) (fresh : IsFresh n q)
    (below : (i : ℕ) → i < n → G i) where
  each_below : (is : List ℕ) → Every (λ i. i < n) is → Every G is
  each_below [] h = tt
  each_below (i ∷ is) h = (below i h.0, each_below is h.1)

  operands_below : Every (λ i. i < n) (reads q.operation ++ keeps q.operation)
  operands_below =
      Every-second (λ i. i < n) (clock_reads q.clock) (reads q.operation ++ keeps q.operation)
      fresh.names_below

  pub below_reads : Every G (reads q.operation)
  below_reads =
      each_below (reads q.operation)
      (Every-first (λ i. i < n) (reads q.operation) (keeps q.operation) operands_below)

  pub below_keeps : Every G (keeps q.operation)
  below_keeps =
      each_below (keeps q.operation)
      (Every-second (λ i. i < n) (reads q.operation) (keeps q.operation) operands_below)

  pub below_next : G q.element → (i : ℕ) → i < suc n → G i
  below_next new i lt =
      elim (cases_lt i n) [
        | inl less ↦ below i less
        | inr le ↦
            let same : n ≡ i = omega arith in
            subst G (fresh.element ∙ same) new
      ]

-- the streams of all elements, from the streams of the first ones: one equation after another
abbrev pub filled_in : Inputs → List Stream → List FlatEquation → List Stream
filled_in X F [] = F
filled_in X F (q ∷ qs) = filled_in X (F ++ (operate X F q.clock q.operation ∷ [])) qs

-- ## What an operation names

module _ (X : Inputs) (F G : List Stream) (n : ℕ)
    (same : (i : ℕ) → i < n → column X F i ≡ column X G i) where
  abbrev AreBelow : List ℕ → Type 0
  AreBelow is = Every (λ i. i < n) is

  instants_same : (k : FlatClock) → AreBelow (clock_reads k) → instants X F k ≡ instants X G k
  instants_same Always h = refl
  instants_same (Where k i sign) h =
      ap₂ (zip2 (λ b x. b && shows sign x)) (instants_same k h.1) (same i h.0)

  choice_same :
      (cs ds xs ys zs ws : Stream) → cs ≡ ds → xs ≡ ys → zs ≡ ws →
      choice cs xs zs ≡ choice ds ys ws
  choice_same cs ds xs ys zs ws p q r = cc

  module _ (k : FlatClock) (c : AreBelow (clock_reads k)) where
    operate_same :
        (o : Operation) → AreBelow (reads o) → AreBelow (keeps o) →
        operate X F k o ≡ operate X G k o
    operate_same (Input j) h m = refl
    operate_same (Constant v) h m = ap (constantly v) (instants_same k c)
    operate_same (Copy a) h m = same a h.0
    operate_same (ApplyUnary op a) h m = ap (along (one_scalar op)) (same a h.0)
    operate_same (ApplyBinary op a b) h m =
        ap₂ (along_two (two_scalars op)) (same a h.0) (same b h.1.0)
    operate_same (Choose z a b) h m =
        choice_same _ _ _ _ _ _ (same z h.0) (same a h.1.0) (same b h.1.1.0)
    operate_same (FirstThen true a b) h m = same b h.1.0
    operate_same (FirstThen false a b) h m = ap₂ first_then (same a h.0) (same b h.1.0)
    operate_same (Previous v a) h m = ap₂ (previous v) (instants_same k c) (same a m.0)
    operate_same (Latest v a) h m = ap₂ (latest v) (instants_same k c) (same a h.0)
    operate_same (Sample a) h m = ap₂ (zip2 sample) (instants_same k c) (same a h.0)

  fresh_same :
      (q : FlatEquation) → IsFresh n q →
      operate X F q.clock q.operation ≡ operate X G q.clock q.operation
  fresh_same q h = operate_same q.clock of_clock q.operation of_reads of_keeps
    where
      of_clock : AreBelow (clock_reads q.clock)
      of_clock =
          Every-first (λ i. i < n) (clock_reads q.clock) (reads q.operation ++ keeps q.operation)
          h.names_below

      others : AreBelow (reads q.operation ++ keeps q.operation)
      others =
          Every-second (λ i. i < n) (clock_reads q.clock) (reads q.operation ++ keeps q.operation)
          h.names_below

      of_reads : AreBelow (reads q.operation)
      of_reads = Every-first (λ i. i < n) (reads q.operation) (keeps q.operation) others

      of_keeps : AreBelow (keeps q.operation)
      of_keeps = Every-second (λ i. i < n) (reads q.operation) (keeps q.operation) others

-- ## Columns of longer lists

module _ (X : Inputs) where
  column_before : (F G : List Stream) (i : ℕ) → i < length F → column X (F ++ G) i ≡ column X F i
  column_before [] G i lt = absurd (omega arith)
  column_before (xs ∷ F) G zero lt = refl
  column_before (xs ∷ F) G (suc i) lt = column_before F G i (omega arith)

  column_at :
      (F : List Stream) (xs : Stream) (G : List Stream) →
      column X (F ++ (xs ∷ G)) (length F) ≡ xs
  column_at [] xs G = refl
  column_at (y ∷ F) xs G = column_at F xs G

  pub filled_keeps :
      (F : List Stream) (qs : List FlatEquation) (i : ℕ) → i < length F →
      column X (filled_in X F qs) i ≡ column X F i
  filled_keeps F [] i lt = refl
  filled_keeps F (q ∷ qs) i lt =
      let new = operate X F q.clock q.operation ∷ [] in
      filled_keeps (F ++ new) qs i (omega (arith, length-append F new))
      ∙ column_before F new i lt

  pub length-filled :
      (F : List Stream) (qs : List FlatEquation) →
      length (filled_in X F qs) ≡ length F + length qs
  length-filled F [] = omega arith
  length-filled F (q ∷ qs) =
      let new = operate X F q.clock q.operation ∷ [] in
      omega (arith, length-filled (F ++ new) qs, length-append F new)

  -- the equations hold of the streams that they fill in
  pub filled_solves :
      (F : List Stream) (n : ℕ) (qs : List FlatEquation) → length F ≡ n → Fresh n qs →
      Every (Holds X (filled_in X F qs)) qs
  filled_solves F n [] e h = tt
  filled_solves F n (q ∷ qs) e h = (
    ap (column X G) (h.0.element ∙ sym e)
        ∙ filled_keeps F' qs (length F) (omega (arith, longer)) ∙ column_at F new []
        ∙ fresh_same X F G n (λ i lt. sym (filled_keeps F (q ∷ qs) i (omega arith))) q h.0,
    filled_solves F' (suc n) qs (omega (arith, longer)) h.1,
  )
    where
      new : Stream
      new = operate X F q.clock q.operation

      F' : List Stream
      F' = F ++ (new ∷ [])

      G : List Stream
      G = filled_in X F' qs

      longer : length F' ≡ length F + 1
      longer = length-append F (new ∷ [])

  pub filled_long :
      (F : List Stream) (qs : List FlatEquation) → AreLong X F → AreLong X (filled_in X F qs)
  filled_long F [] long = long
  filled_long F (q ∷ qs) long =
      let new = operate X F q.clock q.operation in
      filled_long (F ++ (new ∷ [])) qs
      (Every-append (λ xs. length xs ≡ length X) F (new ∷ []) long
      (operate_long X F long q.clock q.operation, tt))
