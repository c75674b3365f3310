-- The first static parameter with a name, and its value.
use Rattle.std.proofs.Common.{◌≡◌, ℕ, zero, suc, ◌+◌, ◌<◌, ◌≤◌, ℤ, true, false, cond, List, []}
use Rattle.std.proofs.Common.{◌∷◌}
use Rattle.std.proofs.Common.{length, drop, get_or, Option, Some, None, refl, ap, sym, ◌∙◌, subst}
use Rattle.std.proofs.Common.{arith, add-one}
use Rattle.std.specs.Prelude.{MatchOption, find, option_copied, option_map}
use Rattle.std.specs.Borrow.{Bor}
use Rattle.std.specs.List.{HoldsAt, zip}
use Rattle.std.specs.Str.{bytes_eq}
use Rattle.std.proofs.Math.ListN.{drop_of_length-le}
use Rattle.std.proofs.lemmas.List.{drop_more}
use Rattle.lb_syntax.specs.Tree.{Name}

-- the value of a name among the parameters that are left
abbrev pub value_among : Name → List Name → List ℤ → Option ℤ
value_among x names values = option_map (λ v. v.1) (find (λ v. bytes_eq v.0 x) (zip names values))

none_left : (x : Name) (names : List Name) → value_among x names [] ≡ None
none_left x [] = refl
none_left x (n ∷ ns) = refl

one_on : (x : Name) (names : List Name) (values : List ℤ) (i : ℕ) (d : Name) → i < length names
    → bytes_eq (get_or names i d) x ≡ false
    → value_among x (drop (suc i) names) (drop (suc i) values)
    ≡ value_among x (drop i names) (drop i values)
one_on x [] values i d below e = absurd (omega arith)
one_on x (n ∷ ns) [] zero d below e = none_left x ns
one_on x (n ∷ ns) (v ∷ vs) zero d below e = sym
    (ap (λ b. option_map (λ (w : Name × ℤ). w.1)
    (cond b (Some (n, v)) (find (λ w. bytes_eq w.0 x) (zip ns vs)))) e)
one_on x (n ∷ ns) [] (suc i) d below e =
    none_left x (drop (suc i) ns) ∙ sym (none_left x (drop i ns))
one_on x (n ∷ ns) (v ∷ vs) (suc i) d below e = one_on x ns vs i d (omega arith) e

pub value_passed : (x : Name) (names : List Name) (values : List ℤ) (i : ℕ) (n : Name)
    → i < length names → n ≡ get_or names i n → bytes_eq n x ≡ false
    → value_among x (drop i names) (drop i values) ≡ value_among x names values
    → value_among x (drop (i + 1) names) (drop (i + 1) values) ≡ value_among x names values
value_passed x names values i n below is e h =
    rw add-one (one_on x names values i n below (subst (λ m. bytes_eq m x ≡ false) is e) ∙ h)

pub value_missed : (x : Name) (names : List Name) (values : List ℤ) (i : ℕ) → length names ≤ i
    → value_among x (drop i names) (drop i values) ≡ value_among x names values
    → None ≡ value_among x names values
value_missed x names values i past h =
    sym (ap (λ (l : List Name). value_among x l (drop i values)) (drop_of_length-le names past)) ∙ h

pub value_here : (x : Name) (names : List Name) (values : List ℤ) (i : ℕ) (n : Name) (v : ℤ)
    → i < length names → n ≡ get_or names i n → bytes_eq n x ≡ true → i < length values
    → v ≡ get_or values i v
    → value_among x (drop i names) (drop i values) ≡ value_among x names values
    → Some v ≡ value_among x names values
value_here x names values i n v below is e within same h =
    let ns = drop (i + 1) names in
    let vs = drop (i + 1) values in
    sym (ap (λ b. option_map (λ (w : Name × ℤ). w.1)
    (cond b (Some (n, v)) (find (λ w. bytes_eq w.0 x) (zip ns vs)))) e)
    ∙ sym (ap (λ (l : List Name). value_among x l (v ∷ vs))
    (drop_more names i n below ∙ ap (λ y. y ∷ ns) (sym is)))
    ∙ sym (ap (value_among x (drop i names))
    (drop_more values i v within ∙ ap (λ y. y ∷ vs) (sym same))) ∙ h

pub value_short : (x : Name) (names : List Name) (values : List ℤ) (i : ℕ) → length values ≤ i
    → value_among x (drop i names) (drop i values) ≡ value_among x names values
    → None ≡ value_among x names values
value_short x names values i past h =
    sym (none_left x (drop i names))
    ∙ sym (ap (value_among x (drop i names)) (drop_of_length-le values past)) ∙ h

-- the value that is read at the place of the first parameter with this name, or none
pub value_read : (x : Name) (names : List Name) (values : List ℤ) (i : ℕ) (n : Name)
    (o : Option (Bor ℤ)) (r : Option ℤ)
    → i < length names → n ≡ get_or names i n → bytes_eq n x ≡ true
    → MatchOption o (length values ≤ i)
    (λ v. (i < length values) × HoldsAt (λ y. v.now ≡ y) values i)
    → r ≡ option_copied o
    → value_among x (drop i names) (drop i values) ≡ value_among x names values
    → r ≡ value_among x names values
value_read x names values i n None r below is e past copied h =
    copied ∙ value_short x names values i past h
value_read x names values i n (Some v) r below is e found copied h =
    copied ∙ value_here x names values i n v.now below is e found.0 (found.1 v.now) h
