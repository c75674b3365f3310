-- Streams that are filled in along equations that fit have their kinds and are present on their
-- clocks.
use Rattle.lb_expand.proofs.Words
use Words.{And, ApplyBinary, ApplyUnary, AreLong, Bad, Bool, Boolean, Choose, Constant, Copy, Every}
use Words.{FirstThen, FlatClock, FlatEquation, Holds, Input, Inputs, Integer, Kind, Latest, List}
use Words.{None, Operation, Or, Previous, Sample, Scalar, Some, Stream, [], along, along_two}
use Words.{and_first, and_second, ap, ap₂, arith, choice, column, column_of, constantly, false}
use Words.{first_cell, first_then, fits, heads_same, instants, is_of_kind, is_row, is_some, keeps}
use Words.{latest, length, map, newest, one_scalar, operate, previous, reads, refl, replicate}
use Words.{sample, shows, slice_get, subst, suc, sym, tail_of, tails_same, true, two_scalars, zip2}
use Words.{ℕ, ℤ, ◌&&◌, ◌+◌, ◌<◌, ◌∙◌, ◌∷◌, ◌≡◌}
use Rattle.lb_check.specs.{Scalars.Nil, Streams.sampled_at}
use Rattle.lb_expand.proofs.{lists.Counting.IsTruth, solutions.Filling.{Fresh, below_keeps}}
use Rattle.lb_expand.proofs.solutions.{Filling.{below_next, below_reads}, Placing.HasTruths}
use Rattle.lb_expand.proofs.solutions.Solving.{second_of_and, second_of_or}
use Rattle.lb_flat.proofs.lists.Lists.{Every-map, choice_step, column_long, instants_long}
use Rattle.lb_flat.proofs.{lists.Lists.latest_step, runs.Fitting.{CellOf, all_given, binary_of}}
use Rattle.lb_flat.proofs.runs.Fitting.{choice_present, chosen_cell_of, given_kind, held_of}
use Rattle.lb_flat.proofs.runs.Fitting.{held_present, kept_of, kept_present, newest_of, one_of}
use Rattle.lb_flat.proofs.runs.Fitting.{one_present, two_of, two_present, unary_of}
use Rattle.lb_flat.specs.Fitting.{ClockFits, IsOf, KindFits, OperandKinds, OperandsFit}
use Rattle.lb_syntax.specs.declared.tree.Kind.TheVariants.{Bool as Truth}

-- Streams that are filled in along equations whose kinds fit hold scalars of their kinds; so the
-- operands that have to be truth values are truth values.

-- a stream holds scalars of a kind where it is present
abbrev pub StreamOf : Kind → Stream → Type 0
StreamOf kind xs = Every (CellOf kind) xs

-- ## Operators

module _ (kind : Kind) where
  constantly_of : (v : Scalar) (bs : List Bool) → IsOf kind v → StreamOf kind (constantly v bs)
  constantly_of v [] h = tt
  constantly_of v (b ∷ bs) h = (held_of kind v b h, constantly_of v bs h)

  choice_of :
      (cs xs ys : Stream) → StreamOf kind xs → StreamOf kind ys →
      StreamOf kind (choice cs xs ys)
  choice_of (c ∷ cs) (x ∷ xs) (y ∷ ys) h g =
      subst (StreamOf kind) (sym (choice_step c x y cs xs ys))
      (chosen_cell_of kind c x y h.0 g.0, choice_of cs xs ys h.1 g.1)
  choice_of [] xs ys h g = tt
  choice_of (None ∷ cs) [] ys h g = tt
  choice_of (Some c ∷ cs) [] ys h g = tt
  choice_of (None ∷ cs) (x ∷ xs) [] h g = tt
  choice_of (Some c ∷ cs) (None ∷ xs) [] h g = tt
  choice_of (Some c ∷ cs) (Some v ∷ xs) [] h g = tt

  first_of_stream : (xs : Stream) → StreamOf kind xs → CellOf kind (first_cell xs)
  first_of_stream [] h = tt
  first_of_stream (x ∷ xs) h = h.0

  rest_of_stream : (xs : Stream) → StreamOf kind xs → StreamOf kind (tail_of xs)
  rest_of_stream [] h = tt
  rest_of_stream (x ∷ xs) h = h.1

  previous_of :
      (v : Scalar) (bs : List Bool) (xs : Stream) → IsOf kind v → StreamOf kind xs →
      StreamOf kind (previous v bs xs)
  previous_of v [] xs h g = tt
  previous_of v (b ∷ bs) xs h g = (
    held_of kind v b h,
    previous_of (newest v (first_cell xs)) bs (tail_of xs)
        (newest_of kind v (first_cell xs) h (first_of_stream xs g)) (rest_of_stream xs g),
  )

  first_then_of :
      (xs ys : Stream) → StreamOf kind xs → StreamOf kind ys →
      StreamOf kind (first_then xs ys)
  first_then_of (None ∷ xs) (y ∷ ys) h g = (tt, first_then_of xs ys h.1 g.1)
  first_then_of (Some v ∷ xs) (y ∷ ys) h g = (h.0, g.1)
  first_then_of _ _ h g = tt

  latest_of :
      (v : Scalar) (bs : List Bool) (xs : Stream) → IsOf kind v → StreamOf kind xs →
      StreamOf kind (latest v bs xs)
  latest_of v [] xs h g = tt
  latest_of v (b ∷ bs) [] h g = tt
  latest_of v (b ∷ bs) (x ∷ xs) h g =
      let next = newest_of kind v x h g.0 in
      subst (StreamOf kind) (sym (latest_step v b bs x xs))
      (held_of kind (newest v x) b next, latest_of (newest v x) bs xs next g.1)

  kept_stream :
      (bs : List Bool) (xs : Stream) → StreamOf kind xs → StreamOf kind (zip2 sample bs xs)
  kept_stream [] xs h = tt
  kept_stream (b ∷ bs) [] h = tt
  kept_stream (b ∷ bs) (x ∷ xs) h = (kept_of kind x b h.0, kept_stream bs xs h.1)

  along_of :
      (k : Kind) (f : Scalar → Scalar) (xs : Stream) →
      ((v : Scalar) → IsOf k v → IsOf kind (f v)) → StreamOf k xs →
      StreamOf kind (along f xs)
  along_of k f [] e h = tt
  along_of k f (x ∷ xs) e h = (one_of k kind f x e h.0, along_of k f xs e h.1)

  along_two_of :
      (k l : Kind) (f : Scalar → Scalar → Scalar) (xs ys : Stream) →
      ((v w : Scalar) → IsOf k v → IsOf l w → IsOf kind (f v w)) → StreamOf k xs →
      StreamOf l ys → StreamOf kind (along_two f xs ys)
  along_two_of k l f [] ys e h g = tt
  along_two_of k l f (x ∷ xs) [] e h g = tt
  along_two_of k l f (x ∷ xs) (y ∷ ys) e h g =
      (two_of k l kind f x y e h.0 g.0, along_two_of k l f xs ys e h.1 g.1)

  -- a stream that fits a kind holds scalars of it
  pub fits_of : (bs : List Bool) (xs : Stream) → fits kind bs xs ≡ true → StreamOf kind xs
  fits_of bs [] e = tt
  fits_of (false ∷ bs) (None ∷ xs) e = (tt, fits_of bs xs e)
  fits_of (true ∷ bs) (Some v ∷ xs) e =
      let v_is = is_of_kind kind v in let rest = fits kind bs xs in
      (and_first v_is rest e, fits_of bs xs (and_second v_is rest e))
  fits_of _ _ e = cc

-- ## Equations

module _ (inputs : List Kind) (N : ℕ → Kind) (X : Inputs)
    (rows : Every (λ row. is_row inputs row ≡ true) X) (F : List Stream) where
  -- an element holds scalars of its kind
  abbrev pub ElementOf : ℕ → Type 0
  ElementOf i = StreamOf (N i) (column X F i)

  given_of_kind :
      (kind : Kind) (j : ℕ) → slice_get inputs j ≡ Some kind →
      (Z : Inputs) → Every (λ row. is_row inputs row ≡ true) Z →
      StreamOf kind (column_of Z j)
  given_of_kind kind j at [] h = tt
  given_of_kind kind j at (row ∷ Z) h =
      (given_kind inputs row h.0 j kind at, given_of_kind kind j at Z h.1)

  of : (kind : Kind) (i : ℕ) → N i ≡ kind → ElementOf i → StreamOf kind (column X F i)
  of kind i e h = subst (λ k. StreamOf k (column X F i)) e h

  pub operate_of :
      (k : FlatClock) (kind : Kind) (o : Operation) → OperandKinds inputs N kind o →
      Every ElementOf (reads o) → Every ElementOf (keeps o) →
      StreamOf kind (operate X F k o)
  operate_of k kind (Input j) f h m = given_of_kind kind j f X rows
  operate_of k kind (Constant v) f h m = constantly_of kind v (instants X F k) f
  operate_of k kind (Copy a) f h m = of kind a f h.0
  operate_of k kind (ApplyUnary op a) f h m =
      along_of kind (N a) (one_scalar op) (column X F a)
      (λ v i. unary_of op (N a) kind v f i) h.0
  operate_of k kind (ApplyBinary op a b) f h m =
      along_two_of kind (N a) (N b) (two_scalars op) (column X F a) (column X F b)
      (λ v w i j. binary_of op (N a) (N b) kind v w f i j) h.0 h.1.0
  operate_of k kind (Choose c a b) f h m =
      choice_of kind (column X F c) (column X F a) (column X F b) (of kind a f.0 h.1.0)
      (of kind b f.1 h.1.1.0)
  operate_of k kind (FirstThen true a b) f h m = of kind b f.1 h.1.0
  operate_of k kind (FirstThen false a b) f h m =
      first_then_of kind (column X F a) (column X F b) (of kind a f.0 h.0) (of kind b f.1 h.1.0)
  operate_of k kind (Previous v a) f h m =
      previous_of kind v (instants X F k) (column X F a) f.0 (of kind a f.1 m.0)
  operate_of k kind (Latest v a) f h m =
      latest_of kind v (instants X F k) (column X F a) f.0 (of kind a f.1 h.0)
  operate_of k kind (Sample a) f h m =
      kept_stream kind (instants X F k) (column X F a) (of kind a f h.0)

  -- ## Truth values

  no_integer : {A : Type 0} (z : ℤ) → IsOf Truth (Integer z) → A
  no_integer z e = cc

  truths_of : (xs : Stream) → StreamOf Truth xs → Every IsTruth xs
  truths_of [] h = tt
  truths_of (None ∷ xs) h = (tt, truths_of xs h.1)
  truths_of (Some (Integer z) ∷ xs) h = no_integer z h.0
  truths_of (Some (Boolean b) ∷ xs) h = (tt, truths_of xs h.1)
  truths_of (Some Nil ∷ xs) h = (tt, truths_of xs h.1)
  truths_of (Some Bad ∷ xs) h = (tt, truths_of xs h.1)

  operand_truths :
      (kind : Kind) (o : Operation) → OperandKinds inputs N kind o →
      Every ElementOf (reads o) → HasTruths X F o
  operand_truths kind (ApplyBinary Or a b) f h =
      truths_of (column X F b) (of Truth b (second_of_or (N a) (N b) kind f) h.1.0)
  operand_truths kind (ApplyBinary And a b) f h =
      truths_of (column X F b) (of Truth b (second_of_and (N a) (N b) kind f) h.1.0)
  operand_truths kind o f h = tt

  -- ## Along the equations

  -- where the elements below the first equation hold scalars of their kinds, the operands that have
  -- to be truth values are truth values
  pub fresh_truths :
      (n : ℕ) (qs : List FlatEquation) → Fresh n qs → Every (Holds X F) qs →
      Every (KindFits inputs N) qs → ((i : ℕ) → i < n → ElementOf i) →
      Every (λ q. HasTruths X F q.operation) qs
  fresh_truths n [] fresh holds fit below = tt
  fresh_truths n (q ∷ qs) fresh holds fit below =
      let read = below_reads ElementOf n q fresh.0 below in
      let new = subst (StreamOf (N q.element)) (sym holds.0)
      (operate_of q.clock (N q.element) q.operation fit.0 read
      (below_keeps ElementOf n q fresh.0 below)) in (
        operand_truths (N q.element) q.operation fit.0 read,
        fresh_truths (suc n) qs fresh.1 holds.1 fit.1
            (below_next ElementOf n q fresh.0 below new),
      )

-- ## Where a stream is present

-- at each instant, whether the stream has a cell
abbrev pub presence_of : Stream → List Bool
presence_of xs = map is_some xs

-- a list is not both empty and of one item or more
ends : {A : Type 0} (b : Bool) (bs cs : List Bool) → b ∷ bs ≡ cs → [] ≡ cs → A
ends b bs cs p q = let e : b ∷ bs ≡ [] = p ∙ sym q in absurd cc

-- a stream that fits `bs` is present exactly at the instants of `bs`
pub fits_present : (kind : Kind) (bs : List Bool) (xs : Stream) → fits kind bs xs ≡ true →
    presence_of xs ≡ bs
fits_present kind [] [] e = refl
fits_present kind (true ∷ bs) (Some v ∷ xs) e =
    ap (λ cs. true ∷ cs) (fits_present kind bs xs (and_second _ (fits kind bs xs) e))
fits_present kind (false ∷ bs) (None ∷ xs) e = ap (λ cs. false ∷ cs) (fits_present kind bs xs e)
fits_present kind _ _ e = cc

own_fits : (kind : Kind) (xs : Stream) → StreamOf kind xs → fits kind (presence_of xs) xs ≡ true
own_fits kind [] h = refl
own_fits kind (None ∷ xs) h = own_fits kind xs h.1
own_fits kind (Some v ∷ xs) h = ap₂ (λ a b. a && b) h.0 (own_fits kind xs h.1)

-- ## Operators

constantly_there : (v : Scalar) (bs : List Bool) → presence_of (constantly v bs) ≡ bs
constantly_there v [] = refl
constantly_there v (b ∷ bs) = cc (held_present v b, constantly_there v bs)

along_there : (f : Scalar → Scalar) (xs : Stream) → presence_of (along f xs) ≡ presence_of xs
along_there f [] = refl
along_there f (x ∷ xs) = ap₂ (λ c cs. c ∷ cs) (one_present f x) (along_there f xs)

along_two_there :
    (f : Scalar → Scalar → Scalar) (xs ys : Stream) (bs : List Bool) → presence_of xs ≡ bs →
    presence_of ys ≡ bs → presence_of (along_two f xs ys) ≡ bs
along_two_there f [] ys bs p q = p
along_two_there f (x ∷ xs) [] bs p q = q
along_two_there f (x ∷ xs) (y ∷ ys) [] p q = absurd cc
along_two_there f (x ∷ xs) (y ∷ ys) (b ∷ bs) p q =
    ap₂ (λ c cs. c ∷ cs) (two_present f x y b (heads_same _ _ _ _ p) (heads_same _ _ _ _ q))
    (along_two_there f xs ys bs (tails_same _ _ _ _ p) (tails_same _ _ _ _ q))

choice_there :
    (cs xs ys : Stream) (bs : List Bool) → presence_of cs ≡ bs → presence_of xs ≡ bs →
    presence_of ys ≡ bs → presence_of (choice cs xs ys) ≡ bs
choice_there [] xs ys bs p q r = p
choice_there (c ∷ cs) [] ys bs p q r = ends _ _ bs p q
choice_there (c ∷ cs) (x ∷ xs) [] bs p q r = ends _ _ bs p r
choice_there (c ∷ cs) (x ∷ xs) (y ∷ ys) [] p q r = absurd cc
choice_there (c ∷ cs) (x ∷ xs) (y ∷ ys) (b ∷ bs) p q r =
    ap presence_of (choice_step c x y cs xs ys) ∙ ap₂ (λ d ds. d ∷ ds)
    (choice_present c x y b (heads_same _ _ _ _ p) (heads_same _ _ _ _ q) (heads_same _ _ _ _ r))
    (choice_there cs xs ys bs (tails_same _ _ _ _ p) (tails_same _ _ _ _ q) (tails_same _ _ _ _ r))

first_then_there :
    (xs ys : Stream) (bs : List Bool) → presence_of xs ≡ bs → presence_of ys ≡ bs →
    presence_of (first_then xs ys) ≡ bs
first_then_there [] ys bs p q = p
first_then_there (None ∷ xs) [] bs p q = ends _ _ bs p q
first_then_there (Some v ∷ xs) [] bs p q = ends _ _ bs p q
first_then_there (None ∷ xs) (y ∷ ys) [] p q = absurd cc
first_then_there (Some v ∷ xs) (y ∷ ys) [] p q = absurd cc
first_then_there (None ∷ xs) (y ∷ ys) (b ∷ bs) p q =
    cc
    (heads_same _ _ _ _ p, first_then_there xs ys bs (tails_same _ _ _ _ p) (tails_same _ _ _ _ q))
first_then_there (Some v ∷ xs) (y ∷ ys) (b ∷ bs) p q =
    cc (heads_same _ _ _ _ p, tails_same _ _ _ _ q)

previous_there : (v : Scalar) (bs : List Bool) (xs : Stream) → presence_of (previous v bs xs) ≡ bs
previous_there v [] xs = refl
previous_there v (b ∷ bs) xs =
    cc (held_present v b, previous_there (newest v (first_cell xs)) bs (tail_of xs))

latest_there : (v : Scalar) (bs : List Bool) (xs : Stream) → length xs ≡ length bs →
    presence_of (latest v bs xs) ≡ bs
latest_there v [] xs e = refl
latest_there v (b ∷ bs) [] e = absurd (omega arith)
latest_there v (b ∷ bs) (x ∷ xs) e =
    ap presence_of (latest_step v b bs x xs)
    ∙ ap₂ (λ c cs. c ∷ cs) (held_present (newest v x) b)
    (latest_there (newest v x) bs xs (omega arith))

sampled_there : (sign : Bool) (xs cs : Stream) →
    presence_of (zip2 sample (sampled_at (presence_of xs) sign cs) xs)
    ≡ sampled_at (presence_of xs) sign cs
sampled_there sign [] cs = refl
sampled_there sign (x ∷ xs) [] = refl
sampled_there sign (x ∷ xs) (c ∷ cs) =
    cc (kept_present (is_some x) (shows sign c) x refl, sampled_there sign xs cs)

-- ## Equations

module _ (inputs : List Kind) (K : ℕ → FlatClock) (N : ℕ → Kind) (X : Inputs)
    (rows : Every (λ row. is_row inputs row ≡ true) X) (F : List Stream) (long : AreLong X F) where
  -- an element is present exactly on its clock
  abbrev pub IsThere : ℕ → Type 0
  IsThere i = presence_of (column X F i) ≡ instants X F (K i)

  -- an element is present exactly on its clock, with scalars of its kind
  abbrev pub ElementFits : ℕ → Type 0
  ElementFits i = fits (N i) (instants X F (K i)) (column X F i) ≡ true

  given_there :
      (j : ℕ) → j < length inputs → (Z : Inputs) →
      Every (λ row. is_row inputs row ≡ true) Z →
      presence_of (column_of Z j) ≡ replicate (length Z) true
  given_there j lt [] h = refl
  given_there j lt (row ∷ Z) h = cc (all_given inputs row h.0 j lt, given_there j lt Z h.1)

  on : (k : FlatClock) (i : ℕ) → K i ≡ k → IsThere i → presence_of (column X F i) ≡ instants X F k
  on k i e h = h ∙ ap (instants X F) e

  operate_there :
      (k : FlatClock) (o : Operation) → OperandsFit (length inputs) K k o →
      Every IsThere (reads o) → presence_of (operate X F k o) ≡ instants X F k
  operate_there k (Input j) f h = cc (given_there j f.1 X rows, f.0)
  operate_there k (Constant v) f h = constantly_there v _
  operate_there k (Copy a) f h = on k a f h.0
  operate_there k (ApplyUnary op a) f h = along_there (one_scalar op) _ ∙ on k a f h.0
  operate_there k (ApplyBinary op a b) f h =
      along_two_there (two_scalars op) _ _ _ (on k a f.0 h.0) (on k b f.1 h.1.0)
  operate_there k (Choose c a b) f h =
      choice_there _ _ _ _ (on k c f.0 h.0) (on k a f.1 h.1.0) (on k b f.2 h.1.1.0)
  operate_there k (FirstThen true a b) f h = on k b f.1 h.1.0
  operate_there k (FirstThen false a b) f h =
      first_then_there _ _ _ (on k a f.0 h.0) (on k b f.1 h.1.0)
  operate_there k (Previous v a) f h = previous_there v _ _
  operate_there k (Latest v a) f h =
      latest_there v _ _ (column_long X F long a ∙ sym (instants_long X F long k))
  operate_there k (Sample a) f h =
      rw f.2 (subst (λ bs. presence_of (zip2 sample (sampled_at bs f.1 (column X F f.0))
      (column X F a)) ≡ sampled_at bs f.1 (column X F f.0)) h.0 (sampled_there f.1 _ _))

  -- ## Along the equations

  element_there : (i : ℕ) → ElementFits i → IsThere i
  element_there i h = fits_present (N i) (instants X F (K i)) (column X F i) h

  element_of : (i : ℕ) → ElementFits i → StreamOf (N i) (column X F i)
  element_of i h = fits_of (N i) (instants X F (K i)) (column X F i) h

  -- where all that an equation names fits, its element fits
  equation_fits :
      (q : FlatEquation) → Holds X F q → ClockFits (length inputs) K q → KindFits inputs N q →
      Every ElementFits (reads q.operation) → Every ElementFits (keeps q.operation) →
      ElementFits q.element
  equation_fits q holds clock kind r m =
      subst (λ cs. fits (N q.element) cs (column X F q.element) ≡ true) (ap presence_of holds
      ∙ operate_there q.clock q.operation clock.operands (Every-map ElementFits IsThere
      element_there (reads q.operation) r) ∙ sym (ap (instants X F) clock.own))
      (own_fits (N q.element) (column X F q.element) (subst (StreamOf (N q.element)) (sym holds)
      (operate_of inputs N X rows F q.clock (N q.element) q.operation kind (Every-map ElementFits
      (λ i. StreamOf (N i) (column X F i)) element_of (reads q.operation) r) (Every-map ElementFits
      (λ i. StreamOf (N i) (column X F i)) element_of (keeps q.operation) m))))

  -- where the elements below the first equation fit, all elements fit
  pub fresh_fits :
      (n : ℕ) (qs : List FlatEquation) → Fresh n qs → Every (Holds X F) qs →
      Every (ClockFits (length inputs) K) qs → Every (KindFits inputs N) qs →
      ((i : ℕ) → i < n → ElementFits i) → (i : ℕ) → i < n + length qs → ElementFits i
  fresh_fits n [] fresh holds clocks kinds below i lt = below i (omega arith)
  fresh_fits n (q ∷ qs) fresh holds clocks kinds below i lt =
      let new = equation_fits q holds.0 clocks.0 kinds.0
      (below_reads ElementFits n q fresh.0 below) (below_keeps ElementFits n q fresh.0 below) in
      fresh_fits (suc n) qs fresh.1 holds.1 clocks.1 kinds.1
      (below_next ElementFits n q fresh.0 below new) i (omega arith)
