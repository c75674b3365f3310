-- The operators `#` and `nor` as a chain of `or` and `and` over one stream after another.
use Rattle.lb_expand.proofs.Words
use Words.{And, Bad, Bool, Boolean, Every, IfSome, Integer, List, None, Not, Option, Or, Scalar}
use Words.{Some, Stream, [], across, all_some, along, along_two, ap, ap₂, arith, at_most_one, cond}
use Words.{constantly, count_by, false, first_cell, fold, held, length, map, nat_eq, nat_le}
use Words.{none_true, one_scalar, option_map, refl, strict, suc, sum_by-cons, sym, tail_of, true}
use Words.{two_scalars, zero, zip2, ℕ, ◌+◌, ◌∙◌, ◌∷◌, ◌≡◌}
use Rattle.{lb_check.specs.Scalars.{Cell, Nil, is_true}, lb_flat.proofs.lists.Lists.tail_long}

-- ## Counts of the operands that are true

-- a count of true operands; `Unknown` if one was nil, `Faulty` if one was a fault or no truth value
pub data Count : Type 0 where
  Counted : ℕ → Count
  Unknown : Count
  Faulty : Count

abbrev one_more : Count → Scalar → Count
one_more Faulty v = Faulty
one_more Unknown Bad = Faulty
one_more Unknown v = Unknown
one_more (Counted n) (Boolean true) = Counted (suc n)
one_more (Counted n) (Boolean false) = Counted n
one_more (Counted n) Nil = Unknown
one_more (Counted n) v = Faulty

abbrev pub more : Option Count → Cell → Option Count
more (Some c) (Some v) = Some (one_more c v)
more c x = None

-- the counts of the streams at each instant of a clock
abbrev pub counts : List Bool → List Stream → List (Option Count)
counts bs xss = fold (zip2 more) (map (held (Counted 0)) bs) xss

-- the truth value that a test of a count gives
abbrev by_test : (ℕ → Bool) → Count → Scalar
by_test test (Counted n) = Boolean (test n)
by_test test Unknown = Nil
by_test test Faulty = Bad

-- of a count: whether any operand is true; whether two are; whether none is; whether at most one is
abbrev pub any_counted : Count → Scalar
any_counted (Counted zero) = Boolean false
any_counted (Counted (suc n)) = Boolean true
any_counted Unknown = Nil
any_counted Faulty = Bad

abbrev pub two_counted : Count → Scalar
two_counted (Counted zero) = Boolean false
two_counted (Counted (suc zero)) = Boolean false
two_counted (Counted (suc (suc n))) = Boolean true
two_counted Unknown = Nil
two_counted Faulty = Bad

abbrev none_counted : Count → Scalar
none_counted c = by_test (λ n. nat_eq n 0) c

abbrev at_most_one_counted : Count → Scalar
at_most_one_counted c = by_test (λ n. nat_le n 1) c

-- a stream of counts as truth values
abbrev pub read_by : (Count → Scalar) → List (Option Count) → Stream
read_by f cs = map (option_map f) cs

-- ## The counts of a list of streams are the definitions' count

-- a cell holds no integer, as every cell of an operand that is a truth value
abbrev pub IsTruth : Cell → Type 0
IsTruth (Some (Integer z)) = ⊥
IsTruth x = Unit {0}

abbrev AreTruths : List Scalar → Type 0
AreTruths vs = Every (λ v. IsTruth (Some v)) vs

-- `f` of truth values is `g` of their count
record IsBy (f : List Scalar → Scalar) (g : Count → Scalar) : Type 0 where
  same : (vs : List Scalar) → AreTruths vs → f vs ≡ g (fold one_more (Counted 0) vs)

fault_counted : (vs : List Scalar) → fold one_more Faulty vs ≡ Faulty
fault_counted [] = refl
fault_counted (v ∷ vs) = fault_counted vs

module _ (test : ℕ → Bool) where
  -- after a nil operand, the operator and the test of the count agree
  nil_counted : (vs : List Scalar) → strict vs Nil ≡ by_test test (fold one_more Unknown vs)
  nil_counted [] = refl
  nil_counted (Bad ∷ vs) = sym (ap (by_test test) (fault_counted vs))
  nil_counted (Nil ∷ vs) = nil_counted vs
  nil_counted (Integer z ∷ vs) = nil_counted vs
  nil_counted (Boolean b ∷ vs) = nil_counted vs

  strict_counted :
      (n : ℕ) (vs : List Scalar) → AreTruths vs →
      strict vs (Boolean (test (n + count_by is_true vs)))
      ≡ by_test test (fold one_more (Counted n) vs)
  strict_counted n [] t = let e : n + 0 ≡ n = omega arith in ap (λ m. Boolean (test m)) e
  strict_counted n (Bad ∷ vs) t = sym (ap (by_test test) (fault_counted vs))
  strict_counted n (Nil ∷ vs) t = nil_counted vs
  strict_counted n (Integer z ∷ vs) t = absurd t.0
  strict_counted n (Boolean true ∷ vs) t =
      let e : n + count_by is_true (Boolean true ∷ vs) ≡ suc n + count_by is_true vs =
      omega (arith, sum_by-cons (λ v. cond (is_true v) 1 0) (Boolean true) vs) in
      ap (λ m. strict vs (Boolean (test m))) e ∙ strict_counted (suc n) vs t.1
  strict_counted n (Boolean false ∷ vs) t =
      let e : n + count_by is_true (Boolean false ∷ vs) ≡ n + count_by is_true vs =
      omega (arith, sum_by-cons (λ v. cond (is_true v) 1 0) (Boolean false) vs) in
      ap (λ m. strict vs (Boolean (test m))) e ∙ strict_counted n vs t.1

  counted_by : (vs : List Scalar) → AreTruths vs →
      strict vs (Boolean (test (count_by is_true vs)))
      ≡ by_test test (fold one_more (Counted 0) vs)
  counted_by vs t =
      let e : count_by is_true vs ≡ 0 + count_by is_true vs = omega arith in
      ap (λ m. strict vs (Boolean (test m))) e ∙ strict_counted 0 vs t

nothing_counted : (xs : List Cell) → fold more None xs ≡ None
nothing_counted [] = refl
nothing_counted (x ∷ xs) = nothing_counted xs

counted_with :
    (c : Count) (v : Scalar) (o : Option (List Scalar)) →
    option_map (fold one_more (one_more c v)) o
    ≡ option_map (fold one_more c) (option_map (λ vs. v ∷ vs) o)
counted_with c v None = refl
counted_with c v (Some vs) = refl

cells_counted :
    (c : Count) (xs : List Cell) →
    fold more (Some c) xs ≡ option_map (fold one_more c) (all_some xs)
cells_counted c [] = refl
cells_counted c (None ∷ xs) = nothing_counted xs
cells_counted c (Some v ∷ xs) = cells_counted (one_more c v) xs ∙ counted_with c v _

-- the counts at the first instant, and then the counts at the others
counts_step :
    (n : ℕ) (c : Option Count) (cs : List (Option Count)) (xss : List Stream) →
    Every (λ xs. length xs ≡ suc n) xss →
    fold (zip2 more) (c ∷ cs) xss
    ≡ fold more c (map first_cell xss) ∷ fold (zip2 more) cs (map tail_of xss)
counts_step n c cs [] h = refl
counts_step n c cs ([] ∷ xss) h = absurd (omega (arith, h.0))
counts_step n c cs ((x ∷ xs) ∷ xss) h = counts_step n (more c x) (zip2 more cs xs) xss h.1

no_instants : (xss : List Stream) → fold (zip2 more) [] xss ≡ []
no_instants [] = refl
no_instants (xs ∷ xss) = no_instants xss

-- the first cell of a stream of truth values is a truth value, and so are the others
cell_truth : (xs : Stream) → Every IsTruth xs → IsTruth (first_cell xs)
cell_truth [] t = tt
cell_truth (x ∷ xs) t = t.0

tail_truths : (xs : Stream) → Every IsTruth xs → Every IsTruth (tail_of xs)
tail_truths [] t = tt
tail_truths (x ∷ xs) t = t.1

abbrev pub AllTruths : List Stream → Type 0
AllTruths xss = Every (Every IsTruth) xss

cells_truths : (xss : List Stream) → AllTruths xss → Every IsTruth (map first_cell xss)
cells_truths [] t = tt
cells_truths (xs ∷ xss) t = (cell_truth xs t.0, cells_truths xss t.1)

tails_truths : (xss : List Stream) → AllTruths xss → AllTruths (map tail_of xss)
tails_truths [] t = tt
tails_truths (xs ∷ xss) t = (tail_truths xs t.0, tails_truths xss t.1)

tails_long :
    (n : ℕ) (xss : List Stream) → Every (λ xs. length xs ≡ suc n) xss →
    Every (λ xs. length xs ≡ n) (map tail_of xss)
tails_long n [] h = tt
tails_long n (xs ∷ xss) h = (tail_long n xs h.0, tails_long n xss h.1)

joined_truths :
    (v : Scalar) (o : Option (List Scalar)) → IsTruth (Some v) → IfSome o AreTruths →
    IfSome (option_map (λ vs. v ∷ vs) o) AreTruths
joined_truths v None t h = tt
joined_truths v (Some vs) t h = (t, h)

all_truths : (xs : List Cell) → Every IsTruth xs → IfSome (all_some xs) AreTruths
all_truths [] t = tt
all_truths (None ∷ xs) t = tt
all_truths (Some v ∷ xs) t = joined_truths v (all_some xs) t.0 (all_truths xs t.1)

module _ (f : List Scalar → Scalar) (g : Count → Scalar) (by : IsBy f g) where
  some_counted :
      (o : Option (List Scalar)) → IfSome o AreTruths →
      option_map f o ≡ option_map g (option_map (fold one_more (Counted 0)) o)
  some_counted None t = refl
  some_counted (Some vs) t = ap Some (by.same vs t)

  across_counts :
      (bs : List Bool) (xss : List Stream) → Every (λ xs. length xs ≡ length bs) xss →
      AllTruths xss → across f bs xss ≡ read_by g (counts bs xss)
  across_counts [] xss h t = sym (ap (read_by g) (no_instants xss))
  across_counts (true ∷ bs) xss h t =
      ap₂ (λ x xs. x ∷ xs)
      (some_counted (all_some (map first_cell xss)) (all_truths _ (cells_truths xss t))
      ∙ sym (ap (option_map g) (cells_counted (Counted 0) (map first_cell xss))))
      (across_counts bs (map tail_of xss) (tails_long (length bs) xss h) (tails_truths xss t))
      ∙ sym (ap (read_by g)
      (counts_step (length bs) (Some (Counted 0)) (map (held (Counted 0)) bs) xss h))
  across_counts (false ∷ bs) xss h t =
      ap₂ (λ x xs. x ∷ xs)
      (sym (ap (option_map g) (nothing_counted (map first_cell xss))))
      (across_counts bs (map tail_of xss) (tails_long (length bs) xss h) (tails_truths xss t))
      ∙ sym (ap (read_by g)
      (counts_step (length bs) None (map (held (Counted 0)) bs) xss h))

none_by : IsBy none_true none_counted
none_by = record { same = counted_by (λ n. nat_eq n 0) }

-- ## The counts by `or` and `and`

any_one : (c : Count) (v : Scalar) → two_scalars Or (any_counted c) v ≡ any_counted (one_more c v)
any_one (Counted zero) (Boolean true) = refl
any_one (Counted (suc n)) (Boolean true) = refl
any_one Unknown Nil = refl
any_one _ _ = refl

two_one :
    (c : Count) (v : Scalar) →
    two_scalars Or (two_counted c) (two_scalars And (any_counted c) v) ≡ two_counted (one_more c v)
two_one (Counted zero) (Boolean true) = refl
two_one (Counted (suc zero)) (Boolean true) = refl
two_one (Counted (suc (suc n))) (Boolean true) = refl
two_one Unknown Nil = refl
two_one _ _ = refl

pub any_step :
    (cs : List (Option Count)) (xs : Stream) →
    along_two (two_scalars Or) (read_by any_counted cs) xs
    ≡ read_by any_counted (zip2 more cs xs)
any_step [] xs = refl
any_step (c ∷ cs) [] = refl
any_step (None ∷ cs) (x ∷ xs) = cc (any_step cs xs)
any_step (Some c ∷ cs) (None ∷ xs) = cc (any_step cs xs)
any_step (Some c ∷ cs) (Some v ∷ xs) = cc (any_one c v, any_step cs xs)

pub two_step :
    (cs : List (Option Count)) (xs : Stream) →
    along_two (two_scalars Or) (read_by two_counted cs)
    (along_two (two_scalars And) (read_by any_counted cs) xs)
    ≡ read_by two_counted (zip2 more cs xs)
two_step [] xs = refl
two_step (c ∷ cs) [] = refl
two_step (None ∷ cs) (x ∷ xs) = cc (two_step cs xs)
two_step (Some c ∷ cs) (None ∷ xs) = cc (two_step cs xs)
two_step (Some c ∷ cs) (Some v ∷ xs) = cc (two_one c v, two_step cs xs)

any_counts :
    (cs : List (Option Count)) (xss : List Stream) →
    fold (along_two (two_scalars Or)) (read_by any_counted cs) xss
    ≡ read_by any_counted (fold (zip2 more) cs xss)
any_counts cs [] = refl
any_counts cs (xs ∷ xss) = cc (any_step cs xs, any_counts (zip2 more cs xs) xss)

-- no truth is counted before the first operand
pub none_yet :
    (g : Count → Scalar) → Boolean false ≡ g (Counted 0) → (bs : List Bool) →
    constantly (Boolean false) bs ≡ read_by g (map (held (Counted 0)) bs)
none_yet g e [] = refl
none_yet g e (true ∷ bs) = ap₂ (λ v ys. Some v ∷ ys) e (none_yet g e bs)
none_yet g e (false ∷ bs) = ap (λ ys. None ∷ ys) (none_yet g e bs)

not_counted :
    (f g : Count → Scalar) → ((c : Count) → one_scalar Not (f c) ≡ g c) →
    (cs : List (Option Count)) → along (one_scalar Not) (read_by f cs) ≡ read_by g cs
not_counted f g e [] = refl
not_counted f g e (None ∷ cs) = ap (λ ys. None ∷ ys) (not_counted f g e cs)
not_counted f g e (Some c ∷ cs) = ap₂ (λ v ys. Some v ∷ ys) (e c) (not_counted f g e cs)

not_any : (c : Count) → one_scalar Not (any_counted c) ≡ none_counted c
not_any (Counted (suc n)) = ap Boolean (grind arith)
not_any Unknown = refl
not_any _ = refl

not_two : (c : Count) → one_scalar Not (two_counted c) ≡ at_most_one_counted c
not_two (Counted (suc zero)) = refl
not_two (Counted (suc (suc n))) = ap Boolean (grind arith)
not_two Unknown = refl
not_two _ = refl

-- ## Both chains

-- `nor` is the negation of a chain of `or` from false
pub none_chained :
    (bs : List Bool) (xss : List Stream) → Every (λ xs. length xs ≡ length bs) xss →
    AllTruths xss →
    along (one_scalar Not) (fold (along_two (two_scalars Or)) (constantly (Boolean false) bs) xss)
    ≡ across none_true bs xss
none_chained bs xss h t =
    ap (along (one_scalar Not))
    (ap (λ ys. fold (along_two (two_scalars Or)) ys xss) (none_yet any_counted refl bs)
    ∙ any_counts (map (held (Counted 0)) bs) xss)
    ∙ not_counted any_counted none_counted not_any (counts bs xss)
    ∙ sym (across_counts none_true none_counted none_by bs xss h t)

-- `#` is the negation of whether two are true
pub at_most_one_counts :
    (bs : List Bool) (xss : List Stream) → Every (λ xs. length xs ≡ length bs) xss →
    AllTruths xss →
    along (one_scalar Not) (read_by two_counted (counts bs xss)) ≡ across at_most_one bs xss
at_most_one_counts bs xss h t =
    not_counted two_counted at_most_one_counted not_two _
    ∙ sym (across_counts at_most_one at_most_one_counted
    (record { same = counted_by (λ n. nat_le n 1) }) bs xss h t)
