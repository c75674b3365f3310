-- Tests of facts: if a test is passed, its fact holds.
use Rattle.std.proofs.Common.{◌≡◌, ℕ, Bool, true, false, ◌&&◌, ◌||◌, nat_eq, Option, Some, None}
use Rattle.std.proofs.Common.{IfSome, List, [], ◌∷◌, refl, ap}
use Rattle.std.specs.Ordering.{int_eq}
use Rattle.std.specs.Prelude.{ℤ}
use Rattle.std.specs.Str.{bytes_eq}
use Rattle.std.proofs.lemmas.Bool.{eqb-true, and_parts}
use Rattle.std.proofs.lemmas.Bool.Decides.{Decides-int_eq}
use Rattle.std.proofs.lemmas.Slice.Eq.{bytes_eq-Decides}
use Rattle.lb_syntax.specs.Lists.{Every}
use Rattle.lb_syntax.specs.Tree.{Name}
use Rattle.lb_check.specs.Scalars.{Scalar, Integer, Boolean, Nil, Bad, Cell, Stream}

-- a test of the fact `A`: if it is passed, `A` holds
pub record Test (A : Type 0) : Type 0 where
  pub passed : Bool
  pub shows : passed ≡ true → A

-- ## Tests made of tests

pub or_shows :
    {C : Type 0} (a b : Bool) → (a ≡ true → C) → (b ≡ true → C) → (a || b) ≡ true → C
or_shows true b f g e = f refl
or_shows false b f g e = g e

pub absurd_false : {A : Type 0} → false ≡ true → A
absurd_false e = absurd cc

abbrev pub holds : {A : Type 0} → A → Test A
holds a = record { passed = true; shows = λ e. a }

abbrev pub fails : {A : Type 0} → Test A
fails = record { passed = false; shows = absurd_false }

abbrev pub is_so : (b : Bool) → Test (b ≡ true)
is_so b = record { passed = b; shows = λ e. e }

-- a test of `A`, used as a test of `B`, which follows from `A`
abbrev pub so : {A B : Type 0} → (A → B) → Test A → Test B
so f t = record { passed = t.passed; shows = λ e. f (t.shows e) }

abbrev pub both : {A B : Type 0} → Test A → Test B → Test (A × B)
both s t = record {
  passed = s.passed && t.passed;
  shows = λ e.
      let p = and_parts s.passed t.passed e in
      (s.shows p.0, t.shows p.1);
}

-- a test of `C`, which follows from `A` and also from `B`: passed if either test is
abbrev pub one_or_other : {A B C : Type 0} → (A → C) → (B → C) → Test A → Test B → Test C
one_or_other f g s t = record {
  passed = s.passed || t.passed;
  shows = or_shows s.passed t.passed (λ e. f (s.shows e)) (λ e. g (t.shows e));
}

abbrev pub each :
    {A : Type 0} (P : A → Type 0) → ((x : A) → Test (P x)) → (xs : List A) → Test (Every P xs)
each P t [] = holds tt
each P t (x ∷ xs) = both (t x) (each P t xs)

abbrev pub if_some :
    {A : Type 0} (P : A → Type 0) → ((x : A) → Test (P x)) → (o : Option A) →
    Test (IfSome o P)
if_some P t None = holds tt
if_some P t (Some x) = t x

abbrev pub is_none : {A : Type 0} → (o : Option A) → Test (o ≡ None)
is_none None = holds refl
is_none (Some x) = fails

-- ## Equal values

abbrev pub equal_nats : (n m : ℕ) → Test (n ≡ m)
equal_nats n m = record { passed = nat_eq n m; shows = eqb-true n m }

abbrev pub equal_bools : (a b : Bool) → Test (a ≡ b)
equal_bools true true = holds refl
equal_bools false false = holds refl
equal_bools a b = fails

abbrev pub equal_ints : (a b : ℤ) → Test (a ≡ b)
equal_ints a b = record { passed = int_eq a b; shows = (Decides-int_eq a b).0 }

abbrev pub equal_names : (x y : Name) → Test (x ≡ y)
equal_names x y = record { passed = bytes_eq x y; shows = (bytes_eq-Decides x y).0 }

abbrev pub equal_scalars : (v w : Scalar) → Test (v ≡ w)
equal_scalars (Integer a) (Integer b) = so (ap Integer) (equal_ints a b)
equal_scalars (Boolean a) (Boolean b) = so (ap Boolean) (equal_bools a b)
equal_scalars Nil Nil = holds refl
equal_scalars Bad Bad = holds refl
equal_scalars v w = fails

abbrev pub equal_cells : (x y : Cell) → Test (x ≡ y)
equal_cells None None = holds refl
equal_cells (Some v) (Some w) = so (ap Some) (equal_scalars v w)
equal_cells x y = fails

pub cons_equal :
    {A : Type 0} (x y : A) (xs ys : List A) → (x ≡ y) × (xs ≡ ys) → (x ∷ xs) ≡ (y ∷ ys)
cons_equal x y xs ys e = let first : x ≡ y = e.0 in let rest : xs ≡ ys = e.1 in cc

abbrev pub equal_lists :
    {A : Type 0} → ((x y : A) → Test (x ≡ y)) → (xs ys : List A) → Test (xs ≡ ys)
equal_lists t [] [] = holds refl
equal_lists t (x ∷ xs) (y ∷ ys) = so (cons_equal x y xs ys) (both (t x y) (equal_lists t xs ys))
equal_lists t xs ys = fails

abbrev pub equal_streams : (xs ys : Stream) → Test (xs ≡ ys)
equal_streams xs ys = equal_lists equal_cells xs ys

abbrev pub equal_columns : (xss yss : List Stream) → Test (xss ≡ yss)
equal_columns xss yss = equal_lists equal_streams xss yss

abbrev pub equal_ticks : (bs cs : List Bool) → Test (bs ≡ cs)
equal_ticks bs cs = equal_lists equal_bools bs cs
