-- The lines of a text, one after the other.
use Rattle.std.proofs.Common.{ℕ, suc, ◌≡◌, ◌≤◌, ◌-◌, drop, Bool, true, false, if◌then◌else◌, ◌==◌}
use Rattle.std.proofs.Common.{◌||◌, List, []}
use Rattle.std.proofs.Common.{◌∷◌, length, map, refl, sym, ap, ◌∙◌, arith}
use Rattle.std.specs.List.{filter}
use Rattle.std.proofs.lemmas.Bool.Decides.{nat_tests}
use Rattle.lb_trace.specs.Plain.{ends_line, has_quote, is_comma, is_filled, plain_records, split_at}
use Rattle.lb_trace.specs.Lines.{EndsRecord, after_line, line_of, record_of}

-- the parts that `split_at` gives after the first line
more_lines : List ℕ → List (List ℕ)
more_lines [] = []
more_lines (b ∷ rest) = if ends_line b then split_at ends_line rest else more_lines rest

split-first : (text : List ℕ) → split_at ends_line text ≡ line_of text ∷ more_lines text
unfolding split_at line_of more_lines
split-first [] = refl
split-first (c ∷ rest) = by (ends_line c) refl (split-first rest)
  where
    by : (e : Bool) → ends_line c ≡ e → split_at ends_line rest ≡ line_of rest ∷ more_lines rest
        → split_at ends_line (c ∷ rest) ≡ line_of (c ∷ rest) ∷ more_lines (c ∷ rest)
    by true e more = rw e refl
    by false e more = rw (e, more) refl

more-filled : (text : List ℕ)
    → filter is_filled (more_lines text) ≡ filter is_filled (split_at ends_line (after_line text))
unfolding split_at after_line more_lines
more-filled [] = refl
more-filled (c ∷ rest) = by (ends_line c) refl (more-filled rest)
  where
    by : (e : Bool) → ends_line c ≡ e
        → filter is_filled (more_lines rest)
        ≡ filter is_filled (split_at ends_line (after_line rest))
        → filter is_filled (more_lines (c ∷ rest))
        ≡ filter is_filled (split_at ends_line (after_line (c ∷ rest)))
    by true e more = rw e refl
    by false e more = rw e more

-- the end of a line at the front of a text changes none of its records
pub plain-skip : (c : ℕ) (rest : List ℕ) → ends_line c ≡ true
    → plain_records (c ∷ rest) ≡ plain_records rest
unfolding plain_records split_at
plain-skip c rest e = rw e refl

pub plain-none : plain_records [] ≡ []
unfolding plain_records split_at
plain-none = refl

line-more : (c : ℕ) (rest : List ℕ) → ends_line c ≡ false → line_of (c ∷ rest) ≡ c ∷ line_of rest
unfolding line_of
line-more c rest e = rw e refl

-- any other byte at the front of a text begins a record
pub plain-line : (c : ℕ) (rest : List ℕ) → ends_line c ≡ false
    → plain_records (c ∷ rest) ≡ record_of (c ∷ rest) ∷ plain_records (after_line (c ∷ rest))
unfolding plain_records
plain-line c rest e =
    ap (λ lines. map (split_at is_comma) (filter is_filled lines)) (split-first (c ∷ rest))
    ∙ ap (λ line. map (split_at is_comma) (filter is_filled (line ∷ more_lines (c ∷ rest))))
    (line-more c rest e)
    ∙ ap (λ line. split_at is_comma line
    ∷ map (split_at is_comma) (filter is_filled (more_lines (c ∷ rest)))) (sym (line-more c rest e))
    ∙ ap (λ lines. record_of (c ∷ rest) ∷ map (split_at is_comma) lines) (more-filled (c ∷ rest))

pub after-more : (c : ℕ) (rest : List ℕ) → ends_line c ≡ false
    → after_line (c ∷ rest) ≡ after_line rest
unfolding after_line
after-more c rest e = rw e refl

pub after-short : (text : List ℕ) → length (after_line text) ≤ length text
unfolding after_line
after-short [] = omega arith
after-short (c ∷ rest) = by (ends_line c) refl (after-short rest)
  where
    by : (e : Bool) → ends_line c ≡ e → length (after_line rest) ≤ length rest
        → length (after_line (c ∷ rest)) ≤ length (c ∷ rest)
    by true e more = rw e (omega arith)
    by false e more = rw e (omega arith)

-- the place at which the text after the first line begins
pub after-ends : (text : List ℕ) → EndsRecord text (length text - length (after_line text))
unfolding after_line
after-ends [] = (omega arith, refl)
after-ends (c ∷ rest) = by (ends_line c) refl (after-ends rest)
  where
    one : (n m : ℕ) → n ≡ suc m → drop n (c ∷ rest) ≡ drop m rest
    one n m is = ap (λ k. drop k (c ∷ rest)) is

    by : (e : Bool) → ends_line c ≡ e → EndsRecord rest (length rest - length (after_line rest))
        → EndsRecord (c ∷ rest) (length (c ∷ rest) - length (after_line (c ∷ rest)))
    by true e more = rw e (omega arith, one (length (c ∷ rest) - length rest) 0 (omega arith))
    by false e more =
        let short = after-short rest in
        rw e (
          omega arith,
          one (length (c ∷ rest) - length (after_line rest))
              (length rest - length (after_line rest)) (omega (arith, short))
              ∙ more.1,
        )

or-parts : (a b : Bool) → (a || b) ≡ false → (a ≡ false) × (b ≡ false)
or-parts true b h = cc h
or-parts false b h = (refl, h)

pub no-quote : (c : ℕ) (rest : List ℕ) → has_quote (c ∷ rest) ≡ false
    → ((c == 34) ≡ false) × (has_quote rest ≡ false)
no-quote c rest h = or-parts (c == 34) (has_quote rest) h

pub no-quote-after : (text : List ℕ) → has_quote text ≡ false → has_quote (after_line text) ≡ false
unfolding after_line
no-quote-after [] h = h
no-quote-after (c ∷ rest) h =
    by (ends_line c) refl (no-quote c rest h).1 (no-quote-after rest (no-quote c rest h).1)
  where
    by : (e : Bool) → ends_line c ≡ e → has_quote rest ≡ false → has_quote (after_line rest) ≡ false
        → has_quote (after_line (c ∷ rest)) ≡ false
    by true e left more = rw e left
    by false e left more = rw e more

-- a comma ends no line
pub comma-inside : (c : ℕ) → (c == 44) ≡ true → ends_line c ≡ false
comma-inside c e = grind (arith, nat_tests)
