-- Cells that are small numbers.
use Rattle.std.proofs.Common.{ℕ, zero, suc, ◌≡◌, ◌+◌, ◌-◌, ◌<◌, ◌≤◌, ◌^◌, Bool, true, false}
use Rattle.std.proofs.Common.{if◌then◌else◌, ◌==◌, ◌||◌, ◌&&◌, nat_le, List, [], ◌∷◌, length}
use Rattle.std.proofs.Common.{get_or, take, drop, Some, None, ℤ, pos, ◌⊎◌, inl, inr, ⊎_elim, refl}
use Rattle.std.proofs.Common.{sym, ap, ◌∙◌, arith, subst}
use Rattle.std.proofs.Math.Nat.{pow-le-pow_right}
use Rattle.std.proofs.lemmas.Bool.Decides.{nat_tests}
use Rattle.std.proofs.lemmas.List.{length-take-le, take_rest}
use Rattle.std.specs.Char.{is_ascii_digit}
use Rattle.std.specs.List.{list_all}
use Rattle.std.specs.Option.{option_and_then}
use Rattle.std.specs.Int.{w32}
use Rattle.std.proofs.lemmas.Int.{to_z-of_z}
use mir.Val.{SFits, of_z, to_z}
use Rattle.lb_syntax.specs.declared.tree.Kind.{Kind}
use Rattle.lb_syntax.specs.declared.tree.Kind.TheVariants as kind
use Rattle.lb_trace.specs.Cells.{bool_of, decimal, int_of, natural_of, signed}
use Rattle.lb_trace.specs.Plain.{ends_line}
use Rattle.lb_trace.specs.PlainRows.{BeginsWith, BeginsWithNumber}
use Rattle.lb_trace.specs.Scan.{cell_of, ends_cell}
use Rattle.lb_trace.proofs.FirstCells.{Walked, after-cell-end, after-cell-more, cell-end, cell-more}
use Rattle.lb_trace.proofs.FirstCells.{last-end, last-more, walked-end, walked-front, walked-start}

-- a digit ends no cell
pub digit-inside : (b : ℕ) → is_ascii_digit b ≡ true → ends_cell b ≡ false
digit-inside b e = grind (arith, nat_tests)

pub and-parts : (a b : Bool) → (a && b) ≡ true → (a ≡ true) × (b ≡ true)
and-parts true b h = (refl, h)
and-parts false b h = cc h

and-all : (a b c : Bool) → a ≡ true → b ≡ true → c ≡ true → (a && b && c) ≡ true
and-all a b c x y z = rw (x, y, z) refl

and-none : (a b : Bool) → b ≡ false → (a && b) ≡ false
and-none true b h = h
and-none false b h = refl

-- digits at the front of a text stand in its first cell
digits-walked : (text : List ℕ) (i : ℕ) → i ≤ length text
    → list_all is_ascii_digit (take i text) ≡ true → Walked text i
digits-walked text zero h all = walked-start text
digits-walked [] (suc i) h all = absurd (omega arith)
digits-walked (b ∷ rest) (suc i) h all =
    let parts = and-parts (is_ascii_digit b) (list_all is_ascii_digit (take i rest)) all in
    walked-front b rest i (digit-inside b parts.0) (digits-walked rest i (omega arith) parts.1)

le-true : (a b : ℕ) → a ≤ b → nat_le a b ≡ true
le-true a b h = grind (arith, nat_tests)

number-spelled : (digits : List ℕ) (n : ℕ) → 0 < length digits → length digits ≤ 9
    → list_all is_ascii_digit digits ≡ true → n ≡ decimal digits
    → natural_of digits ≡ Some n
number-spelled digits n some few all e =
    let test = and-all _ _ _
    (le-true 1 (length digits) (omega arith)) (le-true (length digits) 20 (omega arith)) all in
    rw (test, e) refl

-- a number below `10 ^ i` is below `10 ^ k` where `i` is at most `k`
pub below : (n i k : ℕ) → n < 10 ^ i → i ≤ k → n < 10 ^ k
below n i k small at =
    let some : 0 < 10 = omega arith in
    let power : 10 ^ i ≤ 10 ^ k = pow-le-pow_right some at in omega arith

-- a text begins with the number of its first 1 to 9 digits, which a byte ends
pub number-ended : (text : List ℕ) (i n : ℕ) (is_last : Bool) → i < length text → 0 < i → i ≤ 9
    → n < 10 ^ i
    → list_all is_ascii_digit (take i text) ≡ true → n ≡ decimal (take i text)
    → (ends_cell (get_or text i 0) ≡ true) × (is_last ≡ ends_line (get_or text i 0))
    → BeginsWithNumber text n (take (length text - (i + 1)) (drop (i + 1) text)) is_last
number-ended text i n is_last h some few small all e end =
    let at = walked-end _ _ _ h refl end.0 (digits-walked text i (omega arith) all) in
    let size : length (take i text) ≡ i = length-take-le i text (omega arith) in (
      ap natural_of at.0 ∙ number-spelled (take i text) n (omega arith) (omega arith) all e,
      below n i 9 small few,
      take_rest text (i + 1) ∙ sym at.1,
      end.1 ∙ sym at.2,
    )

minus-first : (rest : List ℕ) → natural_of (45 ∷ rest) ≡ None
minus-first rest =
    let test = and-none (nat_le 1 (length (45 ∷ rest)) && nat_le (length (45 ∷ rest)) 20)
    (list_all is_ascii_digit (45 ∷ rest)) refl in
    rw test refl

-- numbers that compare as equal are equal
pub equal-from : (a b : ℕ) → (a == b) ≡ true → a ≡ b
equal-from a b e = grind (arith, nat_tests)

-- a number without a sign is an integer
int-plain : (cell : List ℕ) (n : ℕ) (x : ℤ) → natural_of cell ≡ Some n → signed false n ≡ Some x
    → int_of cell ≡ Some x
int-plain [] n x e s = cc e
int-plain (b ∷ rest) n x e s = by (b == 45) refl
  where
    by : (minus : Bool) → (b == 45) ≡ minus → int_of (b ∷ rest) ≡ Some x
    by true minus =
        let none : natural_of (b ∷ rest) ≡ None =
        ap (λ d. natural_of (d ∷ rest)) (equal-from b 45 minus) ∙ minus-first rest in
        cc (none, e)
    by false minus = rw minus (ap (option_and_then (signed false)) e ∙ s)

pub int-positive : (text rest : List ℕ) (n : ℕ) (x : ℤ) (is_last : Bool)
    → BeginsWithNumber text n rest is_last → signed false n ≡ Some x
    → BeginsWith kind.Int text x rest is_last
int-positive text rest n x is_last b s = (int-plain (cell_of text) n x b.0 s, b.2, b.3)

pub int-negative : (text rest : List ℕ) (n : ℕ) (x : ℤ) (is_last : Bool)
    → BeginsWithNumber text n rest is_last → signed true n ≡ Some x
    → BeginsWith kind.Int (45 ∷ text) x rest is_last
int-negative text rest n x is_last b s = (
  ap int_of (cell-more 45 text refl) ∙ ap (option_and_then (signed true)) b.0 ∙ s,
  b.2 ∙ sym (after-cell-more 45 text refl),
  b.3 ∙ sym (last-more 45 text refl),
)

or-cases : (a b : Bool) → (a || b) ≡ true → (a ≡ true) ⊎ (b ≡ true)
or-cases true b h = inl refl
or-cases false b h = inr h

bool-cell : (b end : ℕ) (rest : List ℕ) → ends_cell b ≡ false → ends_cell end ≡ true
    → cell_of (b ∷ end ∷ rest) ≡ b ∷ []
bool-cell b end rest in_cell e =
    cell-more b (end ∷ rest) in_cell ∙ ap (λ t. b ∷ t) (cell-end end rest e)

bool-value : (b : ℕ) → ((b == 48) || (b == 49)) ≡ true
    → (ends_cell b ≡ false) × (bool_of (b ∷ []) ≡ Some (if b == 49 then pos 1 else pos 0))
bool-value b h =
    ⊎_elim
    (λ (e : (b == 48) ≡ true). let is : b ≡ 48 = equal-from b 48 e in rw is (refl, refl))
    (λ (e : (b == 49) ≡ true). let is : b ≡ 49 = equal-from b 49 e in rw is (refl, refl))
    (or-cases (b == 48) (b == 49) h)

-- a text begins with the Boolean of its first byte, 0 or 1, which a byte ends
pub bool-ended : (text : List ℕ) (x : ℤ) (is_last : Bool) → 2 ≤ length text
    → ((get_or text 0 0 == 48) || (get_or text 0 0 == 49)) ≡ true
    → x ≡ (if get_or text 0 0 == 49 then pos 1 else pos 0)
    → (ends_cell (get_or text 1 0) ≡ true) × (is_last ≡ ends_line (get_or text 1 0))
    → BeginsWith kind.Bool text x (take (length text - 2) (drop 2 text)) is_last
bool-ended [] x is_last h bit e end = absurd (omega arith)
bool-ended (b ∷ []) x is_last h bit e end = absurd (omega arith)
bool-ended (b ∷ last ∷ rest) x is_last h bit e end =
    let value = bool-value b bit in (
      ap bool_of (bool-cell b last rest value.0 end.0) ∙ value.1 ∙ ap Some (sym e),
      take_rest (b ∷ last ∷ rest) 2
          ∙ sym (after-cell-more b (last ∷ rest) value.0 ∙ after-cell-end last rest end.0),
      end.1 ∙ sym (last-more b (last ∷ rest) value.0 ∙ last-end last rest end.0),
    )

digit-both : (b : ℕ) → ((b == 48) || (b == 49)) ≡ true → bool_of (b ∷ []) ≡ int_of (b ∷ [])
digit-both b h =
    ⊎_elim
    (λ (e : (b == 48) ≡ true). let is : b ≡ 48 = equal-from b 48 e in rw is refl)
    (λ (e : (b == 49) ≡ true). let is : b ≡ 49 = equal-from b 49 e in rw is refl)
    (or-cases (b == 48) (b == 49) h)

-- a cell of one digit, 0 or 1, has the same value as an integer and as a Boolean
pub bool-int : (text rest : List ℕ) (x : ℤ) (is_last : Bool) → 2 ≤ length text
    → ((get_or text 0 0 == 48) || (get_or text 0 0 == 49)) ≡ true
    → ends_cell (get_or text 1 0) ≡ true → BeginsWith kind.Int text x rest is_last
    → BeginsWith kind.Bool text x rest is_last
bool-int [] rest x is_last h bit end int = absurd (omega (arith, h))
bool-int (b ∷ []) rest x is_last h bit end int = absurd (omega (arith, h))
bool-int (b ∷ last ∷ more) rest x is_last h bit end int =
    let cell = bool-cell b last more (bool-value b bit).0 end in
    (ap bool_of cell ∙ digit-both b bit ∙ sym (ap int_of cell) ∙ int.0, int.1, int.2)

-- a text is its first byte, and then the others
pub by_first : (text : List ℕ) (b : ℕ) → 1 ≤ length text → get_or text 0 0 ≡ b
    → text ≡ b ∷ take (length text - 1) (drop 1 text)
by_first [] b h e = absurd (omega arith)
by_first (d ∷ rest) b h e = ap (λ x. x ∷ rest) e ∙ ap (λ t. b ∷ t) (sym (take_rest (d ∷ rest) 1))

pub int-negative-in : (text rest : List ℕ) (n : ℕ) (x : ℤ) (is_last : Bool) → 1 ≤ length text
    → get_or text 0 0 ≡ 45
    → BeginsWithNumber (take (length text - 1) (drop 1 text)) n rest is_last
    → signed true n ≡ Some x
    → BeginsWith kind.Int text x rest is_last
int-negative-in text rest n x is_last h e b s =
    subst (λ t. BeginsWith kind.Int t x rest is_last) (sym (by_first text 45 h e))
    (int-negative _ _ _ _ _ b s)

-- a text begins with a number, with its sign if it has one, where digits follow the sign
pub int-either : (text digits rest : List ℕ) (negative : Bool) (n : ℕ) (x : ℤ) (is_last : Bool)
    → 1 ≤ length text → negative ≡ (get_or text 0 0 == 45)
    → digits ≡ (if negative then take (length text - 1) (drop 1 text) else text)
    → BeginsWithNumber digits n rest is_last → signed negative n ≡ Some x
    → BeginsWith kind.Int text x rest is_last
int-either text digits rest true n x is_last h minus is b s =
    int-negative-in text rest n x is_last h (equal-from (get_or text 0 0) 45 (sym minus))
    (subst (λ t. BeginsWithNumber t n rest is_last) is b) s
int-either text digits rest false n x is_last h minus is b s =
    int-positive text rest n x is_last (subst (λ t. BeginsWithNumber t n rest is_last) is b) s

-- a text begins with a value within 32 bits as it is stored
pub begins-stored : (k : Kind) (text rest : List ℕ) (x : ℤ) (is_last : Bool) → SFits w32 x
    → BeginsWith k text x rest is_last
    → BeginsWith k text (to_z w32 (of_z w32 x)) rest is_last
begins-stored k text rest x is_last fits b = (b.0 ∙ ap Some (sym (to_z-of_z w32 x fits)), b.1, b.2)
