-- Steps of a reading that did not fail.
use Rattle.std.proofs.Common.{◌≡◌, ℕ, suc, zero, ◌≤◌, ◌<◌, Bool, true, false, cond, List, ◌∷◌}
use Rattle.std.proofs.Common.{Option, Some, None, inl, inr, refl, ap, subst, ◌∙◌, arith}
use Rattle.std.specs.Prelude.{◌≢◌, bytes_eq}
use Rattle.std.proofs.lemmas.Bool.Decides.{nat_tests}
use Rattle.lb_syntax.specs.declared.token.Mark.TheVariants as m
use Rattle.lb_syntax.specs.declared.token.Token.{Token}
use Rattle.lb_syntax.specs.declared.token.Token.TheVariants as token
use Rattle.lb_syntax.specs.Levels.{Row, Form, static_level, IsLeft}
use Rattle.lb_syntax.specs.Spelling.{IsSeparator, IsForm, IsArithmetic, iterator_name}
use Rattle.lb_syntax.specs.Tree.{Name, BinaryOperator, Static, Expr, ArrayIterator, Map, Red, Fill}
use Rattle.lb_syntax.specs.Readers.{Reader, expect}
use Rattle.lb_syntax.specs.Reading.{Step, Stop, More, Fault, grown, goes_on, climb, by_first}
use Rattle.lb_syntax.specs.Reading.{separator, static_takes, takes, arithmetic_at, form_at}
use Rattle.lb_syntax.specs.Reading.{iterator_of}
use Rattle.lb_syntax.proofs.Readers.{some, some_is, expect_is, expect_same}
use Rattle.lb_syntax.proofs.SameNames.{name_same, same_name}

-- ---- climbs

pub grown_if : {T : Type 0} (b : Bool) (o : Option (T × List Token)) (e : T) (ts : List Token) →
    cond b (grown o) Stop ≡ More e ts → (b ≡ true) × (o ≡ Some (e, ts))
grown_if true (Some r) e ts h =
    let e' : r.0 ≡ e = cc in
    let ts' : r.1 ≡ ts = cc in
    (refl, ap (λ z. some (z, r.1)) e' ∙ ap (λ z. some (e, z)) ts')
grown_if true None e ts h = absurd cc
grown_if false o e ts h = absurd cc

-- `P` holds of the result of a climb, where the first step keeps it and the rest of the climb too
after_step : {T : Type 0} (P : T → List Token → Type 0) (e : T) (ts : List Token)
    (r : T × List Token) (next : T → Reader T) → P e ts →
    ((z : T) (zs : List Token) → P z zs → next z zs ≡ Some r → P r.0 r.1) →
    (s : Step T) → ((z : T) (zs : List Token) → s ≡ More z zs → P z zs) → goes_on s e ts next
    ≡ Some r → P r.0 r.1
after_step P e ts r next p ih Stop keeps h = subst (λ z. P z.0 z.1) (some_is h) p
after_step P e ts r next p ih (More z zs) keeps h = ih z zs (keeps z zs refl) h
after_step P e ts r next p ih Fault keeps h = absurd cc

-- `P` holds of the result of a climb, where it holds at the start and each step keeps it
pub climb_keeps : {T : Type 0} (step : T → List Token → Step T) (P : T → List Token → Type 0) →
    ((e : T) (ts : List Token) (z : T) (zs : List Token) → P e ts → step e ts ≡ More z zs →
    P z zs) →
    (n : ℕ) (e : T) (ts : List Token) (r : T × List Token) → P e ts → climb step n e ts ≡ Some r →
    P r.0 r.1
unfolding climb
climb_keeps step P keeps zero e ts r p h = subst (λ z. P z.0 z.1) (some_is h) p
climb_keeps step P keeps (suc n) e ts r p h =
    after_step P e ts r (climb step n) p (λ z zs. climb_keeps step P keeps n z zs r) (step e ts)
    (λ z zs. keeps e ts z zs p) h

-- ---- operands on the left

pub takes-true : (least : ℕ) (row : Row) (e : Expr) → takes least row e ≡ true →
    (least ≤ row.level) × IsLeft row e
unfolding takes
takes-true least row e h = (
  grind (arith, nat_tests),
  record { high = grind (arith, nat_tests); clear = grind (arith, nat_tests) },
)

pub takes-from : (least : ℕ) (row : Row) (e : Expr) → least ≤ row.level → IsLeft row e →
    takes least row e ≡ true
unfolding takes
takes-from least row e p q = let a = q.high in let b = q.clear in grind (arith, nat_tests)

pub takes-not : (least : ℕ) (row : Row) (e : Expr) → row.level < least → takes least row e ≡ false
unfolding takes
takes-not least row e p = grind (arith, nat_tests)

pub static_takes-true : (least : ℕ) (row : Row) (s : Static) → static_takes least row s ≡ true →
    (least ≤ row.level) × (row.left ≤ static_level s)
unfolding static_takes
static_takes-true least row s h = (grind (arith, nat_tests), grind (arith, nat_tests))

pub static_takes-from : (least : ℕ) (row : Row) (s : Static) → least ≤ row.level →
    row.left ≤ static_level s → static_takes least row s ≡ true
unfolding static_takes
static_takes-from least row s p q = grind (arith, nat_tests)

pub static_takes-not : (least : ℕ) (row : Row) (s : Static) → row.level < least →
    static_takes least row s ≡ false
unfolding static_takes
static_takes-not least row s p = grind (arith, nat_tests)

-- ---- marks

pub form_read : (t : Token) (form : Form) (ts : List Token) → form_at t ≡ Some form →
    IsForm form (t ∷ ts) ts
form_read (token.Mark mark) form ts h = (mark, h, refl)
form_read (token.Name x) form ts h = absurd cc
form_read (token.Literal n) form ts h = absurd cc

pub arithmetic_read : (t : Token) (op : BinaryOperator) (ts : List Token) → arithmetic_at t
    ≡ Some op → IsArithmetic op (t ∷ ts) ts
arithmetic_read (token.Mark mark) op ts h = (mark, h, refl)
arithmetic_read (token.Name x) op ts h = absurd cc
arithmetic_read (token.Literal n) op ts h = absurd cc

separator_by : (ts rest : List Token) (o : Option (List Token)) → expect m.Comma ts ≡ o →
    by_first o (expect m.Semicolon ts) ≡ Some rest → IsSeparator ts rest
separator_by ts rest (Some next) is h = inl (expect_is m.Comma ts rest (is ∙ h))
separator_by ts rest None is h = inr (expect_is m.Semicolon ts rest h)

pub separator_read : (ts rest : List Token) → separator ts ≡ Some rest → IsSeparator ts rest
unfolding separator
separator_read ts rest h = separator_by ts rest (expect m.Comma ts) refl h

comma_no_semicolon : (ts : List Token) → expect m.Comma (token.Mark m.Semicolon ∷ ts) ≡ None
unfolding expect
comma_no_semicolon ts = refl

pub separator_reads : (ts rest : List Token) → IsSeparator ts rest → separator ts ≡ Some rest
unfolding separator
separator_reads ts rest (inl e) = ap separator e ∙ rw (expect_same m.Comma rest) refl
separator_reads ts rest (inr e) =
    ap separator e ∙ rw (comma_no_semicolon rest, expect_same m.Semicolon rest) refl

-- ---- names of iterators

other_bytes : (x y : Name) → bytes_eq x y ≡ false → x ≢ y
other_bytes x y h e = let t = same_name x y e in absurd cc

abbrev choose : Bool → Bool → Bool → Option ArrayIterator
choose a b c = cond a (Some Map) (cond b (Some Red) (cond c (Some Fill) None))

chosen : (x : Name) (i : ArrayIterator) (a b c : Bool) → bytes_eq x (iterator_name Map) ≡ a →
    bytes_eq x (iterator_name Red) ≡ b → bytes_eq x (iterator_name Fill) ≡ c →
    choose a b c ≡ Some i → x ≡ iterator_name i
chosen x i true b c p q r h = subst (λ z. x ≡ iterator_name z) (some_is h) (name_same x _ p)
chosen x i false true c p q r h = subst (λ z. x ≡ iterator_name z) (some_is h) (name_same x _ q)
chosen x i false false true p q r h =
    subst (λ z. x ≡ iterator_name z) (some_is h) (name_same x _ r)
chosen x i false false false p q r h = absurd cc

pub iterator_read : (x : Name) (i : ArrayIterator) → iterator_of x ≡ Some i → x ≡ iterator_name i
unfolding iterator_of
iterator_read x i h = chosen x i _ _ _ refl refl refl h

none_chosen : (x : Name) (a b c : Bool) → bytes_eq x (iterator_name Map) ≡ a →
    bytes_eq x (iterator_name Red) ≡ b → bytes_eq x (iterator_name Fill) ≡ c →
    choose a b c ≡ None → (i : ArrayIterator) → x ≢ iterator_name i
none_chosen x true b c p q r h i = absurd cc
none_chosen x false true c p q r h i = absurd cc
none_chosen x false false true p q r h i = absurd cc
none_chosen x false false false p q r h Map = other_bytes x _ p
none_chosen x false false false p q r h Red = other_bytes x _ q
none_chosen x false false false p q r h Fill = other_bytes x _ r

pub no_iterator_read : (x : Name) → iterator_of x ≡ None → (i : ArrayIterator) → x ≢ iterator_name i
unfolding iterator_of
no_iterator_read x h = none_chosen x _ _ _ refl refl refl h

pub iterator_reads : (i : ArrayIterator) → iterator_of (iterator_name i) ≡ Some i
unfolding iterator_of
iterator_reads Map = refl
iterator_reads Red = refl
iterator_reads Fill = refl

by_iterator : (x : Name) → ((i : ArrayIterator) → x ≢ iterator_name i) →
    (o : Option ArrayIterator) → iterator_of x ≡ o → o ≡ None
by_iterator x other None is = refl
by_iterator x other (Some i) is = absurd (other i (iterator_read x i is))

pub no_iterator_reads : (x : Name) → ((i : ArrayIterator) → x ≢ iterator_name i) → iterator_of x
    ≡ None
no_iterator_reads x other = by_iterator x other (iterator_of x) refl
