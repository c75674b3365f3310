-- No line and no trace goes on where a trace begins.
use Rattle.std.proofs.Common.{◌≡◌, ◌∙◌, ℕ, zero, suc, ◌+◌, ◌<◌, ◌≤◌, true, false, List, []}
use Rattle.std.proofs.Common.{◌∷◌, ◌++◌, length, get_or, drop, refl, sym, ap, subst, append_assoc}
use Rattle.std.proofs.Common.{arith, inl}
use Rattle.std.proofs.lemmas.List.{append-nil, drop-append-le, drop_all, get_or-append-add}
use Rattle.std.proofs.lemmas.List.{get_or_at, length-append}
use Rattle.std.proofs.lemmas.List.{nil_from_length}
use Rattle.lb_trace.specs.Lines.{after_line, record_of}
use Rattle.lb_trace.specs.Plain.{ends_line, plain_records}
use Rattle.lb_trace.specs.Spelling.{Record}
use Rattle.lb_trace.proofs.CutTexts.{plain-cut}
use Rattle.lb_trace.proofs.Lines.{plain-line, plain-none}
use Rattle.lb_part.specs.Cuts.{Begins, IsBefore, IsBreak, StartsTrace, at_line, name_of}
use Rattle.lb_part.specs.Cuts.IsBreak.{first as at_first, last as at_last, trace as at_trace}
use Rattle.lb_part.specs.Windows.{BeginsIn, line_in}
use Rattle.lb_part.proofs.FoundCuts.{begins-in, byte-at, line-later, long-text, name-at}
use Rattle.lb_part.proofs.FoundCuts.{text_of, within}
use Rattle.lb_part_laws.specs.Stretches.{AreApart, IsBorder, name_in}
use Rattle.lb_part_laws.proofs.RecordPlaces.{LastRecord, last-record, name-cell, name-closed}
use Rattle.lb_part_laws.proofs.RecordPlaces.{no-push, rest_records}

-- a list is empty, or has a last item
data Snoc (s : List ℕ) : Type 0 where
  none : s ≡ [] → Snoc s
  some : (front : List ℕ) (e : ℕ) → s ≡ front ++ e ∷ [] → Snoc s

snoc : (s : List ℕ) → Snoc s
snoc [] = none refl
snoc (b ∷ r) = by (snoc r)
  where
    by : Snoc r → Snoc (b ∷ r)
    by (none is) = some [] b (ap (λ (t : List ℕ). b ∷ t) is)
    by (some front e is) = some (b ∷ front) e (ap (λ (t : List ℕ). b ∷ t) is)

-- the two sides of a place where a text can be cut: one is empty, or a line ends and a trace begins
data Seam (front s rest : List ℕ) : Type 0 where
  nothing_before : s ≡ [] → Seam front s rest
  nothing_behind : rest ≡ [] → Seam front s rest
  between : (those : List ℕ) (e : ℕ) → s ≡ those ++ e ∷ [] → ends_line e ≡ true
      → StartsTrace (text_of front s rest) (length front + length s) → Seam front s rest

last-ends : (front s rest those : List ℕ) (e : ℕ) → s ≡ those ++ e ∷ []
    → at_line (text_of front s rest) (length front + length s) ≡ true → ends_line e ≡ true
last-ends front s rest those e is line =
    let long : length s ≡ length those + 1 = ap length is ∙ length-append those (e ∷ []) in
    let at : length front + length s ≡ length front + suc (length those) = omega (arith, long) in
    let byte : get_or s (length those) 0 ≡ e =
    ap (λ (t : List ℕ). get_or t (length those) 0) is
    ∙ get_or_at those e [] 0 (length those) refl in
    ap ends_line (sym byte)
    ∙ sym (line-later front s rest (length those) (omega (arith, long)))
    ∙ ap (at_line (text_of front s rest)) (sym at)
    ∙ line

seam : (front s rest : List ℕ)
    → IsBreak (text_of front s rest) (length front + length s) → Seam front s rest
seam front s rest (at_first is) =
    nothing_before (nil_from_length s (omega (arith, is)))
seam front s rest (at_last is) =
    let all = long-text front s rest in
    nothing_behind (nil_from_length rest (omega (arith, is, all)))
seam front s rest (at_trace starts) = by (snoc s)
  where
    by : Snoc s → Seam front s rest
    by (none is) = nothing_before is
    by (some those e is) =
        between those e is (last-ends front s rest those e is starts.begins.line) starts

-- ## Lines

lines-kept : (front s rest : List ℕ) → Seam front s rest
    → plain_records (s ++ rest) ≡ plain_records s ++ plain_records rest
lines-kept front s rest (nothing_before is) =
    ap (λ (t : List ℕ). plain_records (t ++ rest)) is
    ∙ ap (λ (rs : List Record). rs ++ plain_records rest) (sym plain-none)
    ∙ ap (λ (t : List ℕ). plain_records t ++ plain_records rest) (sym is)
lines-kept front s rest (nothing_behind is) =
    ap (λ (t : List ℕ). plain_records (s ++ t)) is
    ∙ ap plain_records (append-nil s)
    ∙ sym (append-nil (plain_records s))
    ∙ ap (λ (rs : List Record). plain_records s ++ rs) (sym plain-none)
    ∙ ap (λ (t : List ℕ). plain_records s ++ plain_records t) (sym is)
lines-kept front s rest (between those e is ends starts) =
    let alone : plain_records s ≡ plain_records those =
    ap plain_records is ∙ plain-cut those e [] ends
    ∙ ap (λ (rs : List Record). plain_records those ++ rs) plain-none
    ∙ append-nil (plain_records those) in
    ap (λ (t : List ℕ). plain_records (t ++ rest)) is
    ∙ ap plain_records (append_assoc those (e ∷ []) rest)
    ∙ plain-cut those e rest ends
    ∙ ap (λ (rs : List Record). rs ++ plain_records rest) (sym alone)

-- ## Traces

-- a line begins at the begin of a stretch
line-at : (front s rest : List ℕ) → IsBreak (text_of front s rest) (length front) → 0 < length s
    → at_line (text_of front s rest) (length front + 0) ≡ true
line-at front s rest (at_first is) filled =
    let e : length front + 0 ≡ 0 = omega (arith, is) in
    ap (at_line (text_of front s rest)) e
line-at front s rest (at_last is) filled =
    let all = long-text front s rest in absurd (omega (arith, is, all, filled))
line-at front s rest (at_trace starts) filled =
    let e : length front + 0 ≡ length front = omega arith in
    ap (at_line (text_of front s rest)) e ∙ starts.begins.line

begins-there : (front s rest : List ℕ) (q : ℕ) → IsBreak (text_of front s rest) (length front)
    → BeginsIn true s q → Begins (text_of front s rest) (length front + q)
begins-there front s rest q opens b = record {
  inside = let all = long-text front s rest in let h = b.inside in omega (arith, all, h);
  line = by q b.inside b.line;
  filled = ap ends_line (byte-at front s rest q b.inside) ∙ b.filled;
}
  where
    by : (i : ℕ) → i < length s → line_in true s i ≡ true
        → at_line (text_of front s rest) (length front + i) ≡ true
    by zero below line = line-at front s rest opens below
    by (suc i) below line = line-later front s rest i (omega (arith, below)) ∙ line

before-seam : (front s rest : List ℕ) (x : Record)
    → IsBreak (text_of front s rest) (length front) → (l : LastRecord false s x)
    → IsBefore (text_of front s rest) (length front + l.place) (length front + length s)
before-seam front s rest x opens l = record {
  below = let h = l.begins.inside in omega (arith, h);
  begins = begins-there front s rest l.place opens l.begins;
  alone = λ place low high b.
      let w = within front place (omega (arith, low)) in
      let e = w.is in
      l.alone w.at (omega (arith, low, e))
      (begins-in true false front s rest w.at (omega (arith, high, e))
      (inl (omega (arith, low, e))) (subst (Begins (text_of front s rest)) w.is b));
}

-- the name of the last record before the seam stands at the place of that record
name-before : (front s rest those : List ℕ) (e : ℕ) (x : Record) (l : LastRecord false s x)
    → s ≡ those ++ e ∷ [] → ends_line e ≡ true
    → name_in x ≡ name_of (drop (length front + l.place) (text_of front s rest))
name-before front s rest those e x l is ends =
    let long : length s ≡ length those + 1 = ap length is ∙ length-append those (e ∷ []) in
    let h = l.begins.inside in
    let fits : l.place ≤ length those = omega (arith, h, long) in
    let back : drop l.place s ≡ drop l.place those ++ e ∷ [] =
    ap (drop l.place) is ∙ drop-append-le l.place those (e ∷ []) fits in
    l.name
    ∙ ap name_of back
    ∙ sym (name-closed (drop l.place those) e rest ends)
    ∙ ap (λ (t : List ℕ). name_of (t ++ rest)) (sym back)
    ∙ sym (name-at front s rest l.place (omega (arith, h)))

at-seam : (front s : List ℕ) (c : ℕ) (r : List ℕ)
    → get_or (text_of front s (c ∷ r)) (length front + length s) 0 ≡ c
unfolding text_of
at-seam front s c r =
    get_or-append-add front (s ++ c ∷ r) (length s) 0 ∙ get_or_at s c r 0 (length s) refl

-- the name of the first record behind the seam stands at the place of the seam
name-behind : (front s rest : List ℕ) (y : Record) (back : List Record)
    → StartsTrace (text_of front s rest) (length front + length s)
    → plain_records rest ≡ y ∷ back
    → name_in y ≡ name_of (drop (length front + length s) (text_of front s rest))
name-behind front s [] y back starts begins =
    let none : [] ≡ y ∷ back = sym plain-none ∙ begins in cc none
name-behind front s (c ∷ r) y back starts begins =
    let at : get_or (text_of front s (c ∷ r)) (length front + length s) 0 ≡ c =
    at-seam front s c r in
    let filled : ends_line c ≡ false = ap ends_line (sym at) ∙ starts.begins.filled in
    let first : record_of (c ∷ r) ∷ plain_records (after_line (c ∷ r)) ≡ y ∷ back =
    sym (plain-line c r filled) ∙ begins in
    let same : record_of (c ∷ r) ≡ y = cc first in
    let rest : drop (length s) s ≡ [] = drop_all (length s) s (omega arith) in
    ap name_in (sym same) ∙ name-cell (c ∷ r)
    ∙ ap (λ (t : List ℕ). name_of (t ++ c ∷ r)) (sym rest)
    ∙ sym (name-at front s (c ∷ r) (length s) (omega arith))

traces-apart : (front s rest : List ℕ) → IsBreak (text_of front s rest) (length front)
    → Seam front s rest → AreApart (plain_records s) (plain_records rest)
unfolding rest_records
traces-apart front s rest opens (nothing_before is) those back x y ends begins =
    absurd (no-push those x (sym plain-none ∙ ap plain_records (sym is) ∙ ends))
traces-apart front s rest opens (nothing_behind is) those back x y ends begins =
    let none : [] ≡ y ∷ back = sym plain-none ∙ ap plain_records (sym is) ∙ begins in cc none
traces-apart front s rest opens (between inner e is closed starts) those back x y ends begins =
    λ same.
    let l = last-record false s those x ends in
    starts.apart (length front + l.place) (before-seam front s rest x opens l)
    (sym (name-before front s rest inner e x l is closed) ∙ same
    ∙ name-behind front s rest y back starts begins)

-- between a stretch, from one place where a text can be cut to the next, and the rest is a border
pub border : (front s rest : List ℕ) → IsBreak (text_of front s rest) (length front)
    → IsBreak (text_of front s rest) (length front + length s) → IsBorder s rest
border front s rest opens closes =
    let found = seam front s rest closes in
    record {
      lines = lines-kept front s rest found;
      traces = traces-apart front s rest opens found;
    }
