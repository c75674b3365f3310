-- The places where the records of a text without quotes begin.
use Rattle.std.proofs.Common.{◌≡◌, ◌∙◌, ℕ, zero, suc, ◌<◌, Bool, true, false, not, ◌||◌, List, []}
use Rattle.std.proofs.Common.{◌∷◌, ◌++◌, length, get_or, drop, refl, sym, ap, subst, arith, ◌==◌}
use Rattle.lb_trace.specs.Lines.{after_line, line_of, record_of}
use Rattle.lb_trace.specs.Plain.{at_front, ends_line, is_comma, plain_records, split_at}
use Rattle.lb_trace.specs.Spelling.{Record}
use Rattle.lb_trace.proofs.Lines.{after-more, plain-line, plain-none, plain-skip}
use Rattle.lb_part.specs.Cuts.{ends_cell, name_of}
use Rattle.lb_part.specs.Windows.{BeginsIn, line_in}
use Rattle.lb_part_laws.specs.Stretches.{name_in}

-- ## Records, byte by byte

-- the records of the rest of a text; `true` where it begins within a line
unfoldable pub rest_records : Bool → List ℕ → List Record
rest_records true s = plain_records (after_line s)
rest_records false s = plain_records s

after-end : (c : ℕ) (r : List ℕ) → ends_line c ≡ true → after_line (c ∷ r) ≡ r
unfolding after_line
after-end c r e = rw e refl

pub rest-none : (begun : Bool) → rest_records begun [] ≡ []
unfolding rest_records after_line
rest-none true = plain-none
rest-none false = plain-none

pub rest-skip : (begun : Bool) (c : ℕ) (r : List ℕ) → ends_line c ≡ true
    → rest_records begun (c ∷ r) ≡ rest_records false r
unfolding rest_records
rest-skip true c r e = ap plain_records (after-end c r e)
rest-skip false c r e = plain-skip c r e

pub rest-within : (c : ℕ) (r : List ℕ) → ends_line c ≡ false
    → rest_records true (c ∷ r) ≡ rest_records true r
unfolding rest_records
rest-within c r e = ap plain_records (after-more c r e)

pub rest-begin : (c : ℕ) (r : List ℕ) → ends_line c ≡ false
    → rest_records false (c ∷ r) ≡ record_of (c ∷ r) ∷ rest_records true r
unfolding rest_records
rest-begin c r e =
    plain-line c r e
    ∙ ap (λ (t : List ℕ). record_of (c ∷ r) ∷ plain_records t) (after-more c r e)

-- ## One byte more

begins-next : (is_first : Bool) (c : ℕ) (r : List ℕ) (p : ℕ)
    → BeginsIn is_first (c ∷ r) (suc p) → BeginsIn (ends_line c) r p
begins-next is_first c r p b = record {
  inside = let h : suc p < suc (length r) = b.inside in omega (arith, h);
  line = by p b.line;
  filled = b.filled;
}
  where
    by : (q : ℕ) → line_in is_first (c ∷ r) (suc q) ≡ true → line_in (ends_line c) r q ≡ true
    by zero line = line
    by (suc q) line = line

begins-before : (is_first : Bool) (c : ℕ) (r : List ℕ) (p : ℕ)
    → BeginsIn (ends_line c) r p → BeginsIn is_first (c ∷ r) (suc p)
begins-before is_first c r p b = record {
  inside = let h : p < length r = b.inside in omega (arith, h);
  line = by p b.line;
  filled = b.filled;
}
  where
    by : (q : ℕ) → line_in (ends_line c) r q ≡ true → line_in is_first (c ∷ r) (suc q) ≡ true
    by zero line = line
    by (suc q) line = line

-- ## The name

front-first : (b : ℕ) (cells : Record) → get_or (at_front b cells) 0 [] ≡ b ∷ get_or cells 0 []
front-first b [] = refl
front-first b (cell ∷ cells) = refl

pub name-cell : (t : List ℕ) → name_in (record_of t) ≡ name_of t
unfolding line_of split_at name_of
name-cell [] = refl
name-cell (b ∷ r) = by (ends_line b) refl (is_comma b) refl (name-cell r)
  where
    by : (t : Bool) → ends_line b ≡ t → (u : Bool) → is_comma b ≡ u
        → get_or (split_at is_comma (line_of r)) 0 [] ≡ name_of r
        → get_or (split_at is_comma (line_of (b ∷ r))) 0 [] ≡ name_of (b ∷ r)
    by true e true f more = rw (e, f) refl
    by true e false f more = rw (e, f) refl
    by false e true f more = rw (e, f) refl
    by false e false f more =
        rw (e, f)
        (front-first b (split_at is_comma (line_of r)) ∙ ap (λ (n : List ℕ). b ∷ n) more)

closes : (e : ℕ) → ends_line e ≡ true → ends_cell e ≡ true
closes e ends = ap (λ t. (e == 44) || t) ends ∙ by (e == 44)
  where
    by : (t : Bool) → (t || true) ≡ true
    by true = refl
    by false = refl

-- the name in a text with a line end is the same with more text behind it
pub name-closed : (t : List ℕ) (e : ℕ) (rest : List ℕ) → ends_line e ≡ true
    → name_of ((t ++ e ∷ []) ++ rest) ≡ name_of (t ++ e ∷ [])
unfolding name_of
name-closed [] e rest ends = let c : ends_cell e ≡ true = closes e ends in rw c refl
name-closed (b ∷ t) e rest ends = by (ends_cell b) refl (name-closed t e rest ends)
  where
    by : (t' : Bool) → ends_cell b ≡ t'
        → name_of ((t ++ e ∷ []) ++ rest) ≡ name_of (t ++ e ∷ [])
        → name_of (b ∷ ((t ++ e ∷ []) ++ rest)) ≡ name_of (b ∷ (t ++ e ∷ []))
    by true is more = rw is refl
    by false is more = rw is (ap (λ (n : List ℕ). b ∷ n) more)

-- ## The last record

first-none : (begun : Bool) (c : ℕ) (r : List ℕ) → rest_records begun (c ∷ r) ≡ []
    → BeginsIn (not begun) (c ∷ r) 0 → ⊥
first-none true c r is b = cc b.line
first-none false c r is b =
    let e : record_of (c ∷ r) ∷ rest_records true r ≡ [] = sym (rest-begin c r b.filled) ∙ is in
    cc e

inner-none : (begun : Bool) (c : ℕ) (r : List ℕ) → ends_line c ≡ false
    → rest_records begun (c ∷ r) ≡ [] → rest_records true r ≡ []
inner-none true c r e is = sym (rest-within c r e) ∙ is
inner-none false c r e is =
    let f : record_of (c ∷ r) ∷ rest_records true r ≡ [] = sym (rest-begin c r e) ∙ is in
    cc f

-- where a text has no record, none begins in it
none-left : (begun : Bool) (s : List ℕ) → rest_records begun s ≡ [] → (p : ℕ)
    → BeginsIn (not begun) s p → ⊥
none-left begun [] is p b = let h : p < 0 = b.inside in omega (arith, h)
none-left begun (c ∷ r) is zero b = first-none begun c r is b
none-left begun (c ∷ r) is (suc q) b =
    by (λ f i s. none-left f r i q s) (ends_line c) refl
  where
    next : BeginsIn (ends_line c) r q
    next = begins-next (not begun) c r q b

    by : ((f : Bool) → rest_records f r ≡ [] → BeginsIn (not f) r q → ⊥)
        → (t : Bool) → ends_line c ≡ t → ⊥
    by none true e =
        none false (sym (rest-skip begun c r e) ∙ is)
        (subst (λ (f : Bool). BeginsIn f r q) e next)
    by none false e =
        none true (inner-none begun c r e is)
        (subst (λ (f : Bool). BeginsIn f r q) e next)

-- the place of the last record of a text: no record begins behind it
pub record LastRecord (begun : Bool) (s : List ℕ) (x : Record) : Type 0 where
  pub place : ℕ
  pub begins : BeginsIn (not begun) s place
  pub alone : (p : ℕ) → place < p → BeginsIn (not begun) s p → ⊥
  pub name : name_in x ≡ name_of (drop place s)

later : (begun f : Bool) (c : ℕ) (r : List ℕ) (x : Record) → ends_line c ≡ not f
    → LastRecord f r x → LastRecord begun (c ∷ r) x
later begun f c r x e l = record {
  place = suc l.place;
  begins = begins-before (not begun) c r l.place
      (subst (λ (t : Bool). BeginsIn t r l.place) (sym e) l.begins);
  alone = λ p less b. by p less b;
  name = l.name;
}
  where
    by : (p : ℕ) → suc l.place < p → BeginsIn (not begun) (c ∷ r) p → ⊥
    by zero less b = omega (arith, less)
    by (suc q) less b =
        l.alone q (omega (arith, less))
        (subst (λ (t : Bool). BeginsIn t r q) e (begins-next (not begun) c r q b))

alone-here : (c : ℕ) (r : List ℕ) (x : Record) → ends_line c ≡ false
    → record_of (c ∷ r) ≡ x → rest_records true r ≡ [] → LastRecord false (c ∷ r) x
alone-here c r x e head none = record {
  place = 0;
  begins = record { inside = omega arith; line = refl; filled = e };
  alone = λ p less b. by p less b;
  name = ap name_in (sym head) ∙ name-cell (c ∷ r);
}
  where
    by : (p : ℕ) → 0 < p → BeginsIn true (c ∷ r) p → ⊥
    by zero less b = omega (arith, less)
    by (suc q) less b =
        none-left true r none q (subst (λ (t : Bool). BeginsIn t r q) e (begins-next true c r q b))

pub no-push : {X : Type 0} (front : List X) (x : X) → [] ≡ front ++ x ∷ [] → ⊥
no-push [] x is = cc is
no-push (f ∷ front) x is = cc is

-- the last record of the text `r` behind a byte has a place in it
abbrev OthersLast : List ℕ → Record → Type 0
OthersLast r x =
    (f : Bool) (those : List Record) → rest_records f r ≡ those ++ x ∷ [] → LastRecord f r x

pub last-record : (begun : Bool) (s : List ℕ) (front : List Record) (x : Record)
    → rest_records begun s ≡ front ++ x ∷ [] → LastRecord begun s x
last-record begun [] front x is = absurd (no-push front x (sym (rest-none begun) ∙ is))
last-record begun (c ∷ r) front x is =
    by (λ f those i. last-record f r those x i) begun (ends_line c) refl front is
  where
    at : OthersLast r x → ends_line c ≡ false → (those : List Record)
        → record_of (c ∷ r) ∷ rest_records true r ≡ those ++ x ∷ [] → LastRecord false (c ∷ r) x
    at others e [] i =
        let first : record_of (c ∷ r) ≡ x = cc i in
        let none : rest_records true r ≡ [] = cc i in
        alone-here c r x e first none
    at others e (y ∷ those) i =
        let more : rest_records true r ≡ those ++ x ∷ [] = cc i in
        later false true c r x e (others true those more)

    by : OthersLast r x → (begun' : Bool) (t : Bool) → ends_line c ≡ t → (those : List Record)
        → rest_records begun' (c ∷ r) ≡ those ++ x ∷ [] → LastRecord begun' (c ∷ r) x
    by others begun' true e those i =
        later begun' false c r x e (others false those (sym (rest-skip begun' c r e) ∙ i))
    by others true false e those i =
        later true true c r x e (others true those (sym (rest-within c r e) ∙ i))
    by others false false e those i =
        at others e those (sym (rest-begin c r e) ∙ i)
