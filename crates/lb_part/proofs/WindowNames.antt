-- The first cell of a text.
use Rattle.std.proofs.Common.{◌≡◌, ◌∙◌, ℕ, zero, suc, ◌<◌, Bool, true, false, List, [], ◌∷◌, ◌++◌}
use Rattle.std.proofs.Common.{length, get_or, take, refl, ap, arith}
use Rattle.std.proofs.lemmas.List.{append-nil}
use Rattle.std.proofs.Common.{not, ◌-◌, ◌≤◌, drop, Option, None, Some, sym, subst}
use Rattle.std.proofs.lemmas.Bool.{eq-eqb}
use Rattle.std.proofs.lemmas.List.{take_rest}
use Rattle.std.specs.Cmp.Lexicographic.{pointwise, same_text}
use Rattle.std.specs.Prelude.{IfSome, nat_eq}
use Rattle.lb_part.specs.Cuts.{ends_cell, name_of}
use Rattle.lb_part.specs.Windows.{GoesOn, HasName}

-- the first cell ends before the first byte that ends a cell
pub name-ended : (text more : List ℕ) (i : ℕ) → i < length text
    → ((k : ℕ) → k < i → ends_cell (get_or text k 0) ≡ false)
    → ends_cell (get_or text i 0) ≡ true → name_of (text ++ more) ≡ take i text
unfolding name_of
name-ended [] more i below none end = absurd (omega (arith, below))
name-ended (b ∷ rest) more zero below none end =
    let e : ends_cell b ≡ true = end in rw e refl
name-ended (b ∷ rest) more (suc i) below none end =
    let e : ends_cell b ≡ false = none 0 (omega arith) in
    let others = name-ended rest more i (omega (arith, below))
    (λ k l. none (suc k) (omega (arith, l))) end in
    rw e (ap (λ (name : List ℕ). b ∷ name) others)

-- a text without a byte that ends a cell is one cell
pub name-whole : (text : List ℕ)
    → ((k : ℕ) → k < length text → ends_cell (get_or text k 0) ≡ false) → name_of text ≡ text
unfolding name_of
name-whole [] none = refl
name-whole (b ∷ rest) none =
    let e : ends_cell b ≡ false = none 0 (omega arith) in
    let others = name-whole rest (λ k l. none (suc k) (omega (arith, l))) in
    rw e (ap (λ (name : List ℕ). b ∷ name) others)

pub name-last : (text more : List ℕ)
    → ((k : ℕ) → k < length text → ends_cell (get_or text k 0) ≡ false) → more ≡ []
    → name_of (text ++ more) ≡ text
name-last text more none is =
    ap (λ (back : List ℕ). name_of (text ++ back)) is ∙ ap name_of (append-nil text)
    ∙ name-whole text none

-- ## Two names

itself : (text : List ℕ) → pointwise nat_eq text text ≡ true
itself [] = refl
itself (b ∷ rest) = rw (eq-eqb b b refl) (itself rest)

no-true : (b : Bool) → false ≡ not b → true ≡ b
no-true true e = refl
no-true false e = cc e

pub names-same : (apart : Bool) (one other : List ℕ) → apart ≡ not (pointwise nat_eq one other)
    → apart ≡ false → one ≡ other
names-same apart one other is same =
    same_text one other (no-true (pointwise nat_eq one other) (sym same ∙ is))

pub names-other : (apart : Bool) (one other : List ℕ) → apart ≡ not (pointwise nat_eq one other)
    → apart ≡ true → one ≡ other → ⊥
names-other apart one other is far same =
    let e : pointwise nat_eq one other ≡ true =
    ap (λ (t : List ℕ). pointwise nat_eq t other) same ∙ itself other in
    let f : true ≡ false = sym far ∙ is ∙ ap not e in
    cc f

-- the first cell from a place on
pub name-from : (bytes more name : List ℕ) (place : ℕ)
    → name_of (take (length bytes - place) (drop place bytes) ++ more) ≡ name
    → name_of (drop place bytes ++ more) ≡ name
name-from bytes more name place is =
    ap (λ (t : List ℕ). name_of (t ++ more)) (sym (take_rest bytes place)) ∙ is

-- the trace of the last record goes on, where that record is known and has the same name
pub goes-known : (is_last : Bool) (bytes : List ℕ) (last : Option ℕ) (before from place : ℕ)
    (apart : Option Bool) → last ≡ Some before
    → IfSome apart (λ b. b ≡ false → HasName is_last bytes before place)
    → IfSome apart (λ b. b ≡ false → from ≤ place → GoesOn is_last bytes last place)
goes-known is_last bytes last before from place None is known = tt
goes-known is_last bytes last before from place (Some b) is known =
    λ same behind.
    subst (λ (o : Option ℕ). GoesOn is_last bytes o place) (sym is) (known same)
