-- The first line of a text, and its length.
use Rattle.std.proofs.Common.{ℕ, zero, suc, ◌≡◌, ◌+◌, ◌-◌, ◌<◌, ◌≤◌, ◌||◌, ◌&&◌, Bool, true, false}
use Rattle.std.proofs.Common.{List, [], ◌∷◌, ◌++◌, length, get_or, take, drop, map}
use Rattle.std.proofs.Common.{refl, sym, ap, ◌∙◌, subst, arith, append_assoc, length-append, ◌⊎◌}
use Rattle.std.proofs.Common.{inl}
use Rattle.std.proofs.Common.{inr, ⊎_elim}
use Rattle.std.proofs.lemmas.List.{append-nil, drop_all, drop_more, get_or-append-add, get_or_at}
use Rattle.std.proofs.lemmas.List.{length-take-le, length_push, take-append-drop, take_all}
use Rattle.std.proofs.lemmas.List.{take_more}
use Rattle.std.proofs.lemmas.List.{take_rest}
use Rattle.std.proofs.lemmas.List.Folds.{list_any-append}
use Rattle.std.proofs.lemmas.Slice.Eq.{bytes_eq-Decides}
use Rattle.std.proofs.Math.Seq.{take-add}
use Rattle.std.specs.List.{filter, list_any}
use Rattle.std.specs.Prelude.{codes}
use Rattle.std.specs.Str.{bytes_eq}
use Rattle.csv.specs.Reading.{is_bom, strip_bom}
use Rattle.lb_static.specs.Signature.{Elements}
use Rattle.lb_trace.specs.Chunks.{is_ended}
use Rattle.lb_trace.specs.Lines.{line_of, record_of}
use Rattle.lb_trace.specs.Plain.{at_front, ends_line, is_comma, is_filled, plain_records, split_at}
use Rattle.lb_trace.specs.Spelling.{Record, are_columns, is_header}
use Rattle.lb_trace.proofs.ChunkTexts.{ended-some, plain-after}
use Rattle.lb_trace.proofs.CutTexts.{plain-cut}
use Rattle.lb_trace.proofs.Lines.{plain-line, plain-none, plain-skip}

-- ## The first line

-- the first bytes of a text, as many as this number, stand in its first line
abbrev pub InLine : List ℕ → ℕ → Type 0
InLine text i = line_of text ≡ take i text ++ line_of (drop i text)

line-more : (b : ℕ) (rest : List ℕ) → ends_line b ≡ false
    → line_of (b ∷ rest) ≡ b ∷ line_of rest
unfolding line_of
line-more b rest e = rw e refl

line-end : (b : ℕ) (rest : List ℕ) → ends_line b ≡ true → line_of (b ∷ rest) ≡ []
unfolding line_of
line-end b rest e = rw e refl

line-none : line_of [] ≡ []
unfolding line_of
line-none = refl

at_place : (text : List ℕ) (i b : ℕ) → i < length text → b ≡ get_or text i 0
    → drop i text ≡ b ∷ drop (i + 1) text
at_place text i b h e = drop_more text i 0 h ∙ ap (λ x. x ∷ drop (i + 1) text) (sym e)

take_place : (text : List ℕ) (i b : ℕ) → i < length text → b ≡ get_or text i 0
    → take (i + 1) text ≡ take i text ++ b ∷ []
take_place text i b h e = take_more text i 0 h ∙ ap (λ x. take i text ++ x ∷ []) (sym e)

pub in_line-more : (text : List ℕ) (i b : ℕ) → i < length text → b ≡ get_or text i 0
    → ends_line b ≡ false → InLine text i → InLine text (i + 1)
in_line-more text i b h e inside w =
    w ∙ ap (λ t. take i text ++ line_of t) (at_place text i b h e)
    ∙ ap (λ t. take i text ++ t) (line-more b (drop (i + 1) text) inside)
    ∙ sym (append_assoc (take i text) (b ∷ []) (line_of (drop (i + 1) text)))
    ∙ ap (λ t. t ++ line_of (drop (i + 1) text)) (sym (take_place text i b h e))

pub in_line-end : (text : List ℕ) (i b : ℕ) → i < length text → b ≡ get_or text i 0
    → ends_line b ≡ true → InLine text i → line_of text ≡ take i text
in_line-end text i b h e end w =
    w ∙ ap (λ t. take i text ++ line_of t) (at_place text i b h e)
    ∙ ap (λ t. take i text ++ t) (line-end b (drop (i + 1) text) end)
    ∙ append-nil (take i text)

pub in_line-all : (text : List ℕ) (i : ℕ) → length text ≤ i → InLine text i → line_of text ≡ text
in_line-all text i past w =
    w ∙ ap (λ t. take i text ++ line_of t) (drop_all i text past)
    ∙ ap (λ t. take i text ++ t) line-none
    ∙ append-nil (take i text) ∙ take_all i text past

-- the first line of a line is the line itself
pub line_of-same : (text : List ℕ) → line_of (line_of text) ≡ line_of text
unfolding line_of
line_of-same [] = refl
line_of-same (b ∷ rest) = by (ends_line b) refl (line_of-same rest)
  where
    by : (t : Bool) → ends_line b ≡ t → line_of (line_of rest) ≡ line_of rest
        → line_of (line_of (b ∷ rest)) ≡ line_of (b ∷ rest)
    by true is more = ap line_of (line-end b rest is) ∙ line-none ∙ sym (line-end b rest is)
    by false is more =
        ap line_of (line-more b rest is) ∙ line-more b (line_of rest) is
        ∙ ap (λ l. b ∷ l) more ∙ sym (line-more b rest is)

-- ## Ends of lines at the front

ended_push : (text : List ℕ) (b : ℕ) → ends_line b ≡ true → is_ended (text ++ b ∷ []) ≡ true
ended_push text b e =
    let place : length text ≡ length (text ++ b ∷ []) - 1 = omega (arith, length_push text b) in
    ap ends_line (get_or_at text b [] 0 (length (text ++ b ∷ []) - 1) place) ∙ e

pub blank-more : (text : List ℕ) (i b : ℕ) → i < length text → b ≡ get_or text i 0
    → ends_line b ≡ true → plain_records (take i text) ≡ []
    → plain_records (take (i + 1) text) ≡ []
blank-more text i b h e end none =
    ap plain_records (take_place text i b h e) ∙ plain-cut (take i text) b [] end
    ∙ ap (λ rs. rs ++ plain_records []) none ∙ plain-none

pub ended-at : (text : List ℕ) (i b : ℕ) → i < length text → b ≡ get_or text i 0
    → ends_line b ≡ true → is_ended (take (i + 1) text) ≡ true
ended-at text i b h e end =
    ap is_ended (take_place text i b h e) ∙ ended_push (take i text) b end

-- ## A line that is not empty

pub or_false : (a b : Bool) → (a || b) ≡ false → (a ≡ false) × (b ≡ false)
or_false true b h = cc h
or_false false b h = (refl, h)

split-none : (text : List ℕ) → list_any ends_line text ≡ false → split_at ends_line text ≡ text ∷ []
unfolding split_at
split-none [] none = refl
split-none (b ∷ rest) none =
    let parts = or_false (ends_line b) (list_any ends_line rest) none in
    rw parts.0 (ap (at_front b) (split-none rest parts.1))

-- a line that is not empty is one record
pub one_line : (b : ℕ) (rest : List ℕ) → list_any ends_line (b ∷ rest) ≡ false
    → plain_records (b ∷ rest) ≡ split_at is_comma (b ∷ rest) ∷ []
unfolding plain_records
one_line b rest none =
    ap (λ lines. map (split_at is_comma) (filter is_filled lines)) (split-none (b ∷ rest) none)

-- the first line with its end has the first record of the text, if the line is not empty
pub first-record : (text : List ℕ) (i b : ℕ) → i < length text → b ≡ get_or text i 0
    → ends_line b ≡ true → 0 < i → list_any ends_line (take i text) ≡ false
    → plain_records (take (i + 1) text) ≡ take 1 (plain_records text)
first-record text i b h e end some none = by (take i text) refl
  where
    by : (line : List ℕ) → take i text ≡ line
        → plain_records (take (i + 1) text) ≡ take 1 (plain_records text)
    by [] is =
        let size : length (take i text) ≡ i = length-take-le i text (omega (arith, h)) in
        let empty : length (take i text) ≡ 0 = ap length is in
        absurd (omega (arith, some, size, empty))
    by (c ∷ line) is =
        let one : plain_records (take i text) ≡ split_at is_comma (c ∷ line) ∷ [] =
        ap plain_records is
        ∙ one_line c line (sym (ap (list_any ends_line) is) ∙ none) in
        let rest : List ℕ = drop (i + 1) text in
        let whole : text ≡ take i text ++ b ∷ rest =
        sym (take-append-drop i text) ∙ ap (λ t. take i text ++ t) (at_place text i b h e) in
        let all : plain_records text ≡ split_at is_comma (c ∷ line) ∷ plain_records rest =
        ap plain_records whole ∙ plain-cut (take i text) b rest end
        ∙ ap (λ rs. rs ++ plain_records rest) one in
        ap plain_records (take_place text i b h e) ∙ plain-cut (take i text) b [] end
        ∙ ap (λ rs. rs ++ plain_records []) one
        ∙ ap (λ rs. split_at is_comma (c ∷ line) ∷ rs) plain-none
        ∙ sym (ap (take 1) all)

-- `first-record` for a text that does not begin with the end of a line
pub first-found : (text : List ℕ) (i b : ℕ) → i < length text → b ≡ get_or text i 0
    → ends_line b ≡ true → (0 < length text → ends_line (get_or text 0 0) ≡ false)
    → list_any ends_line (take i text) ≡ false
    → plain_records (take (i + 1) text) ≡ take 1 (plain_records text)
first-found text zero b h e end begun none =
    let other : ends_line (get_or text 0 0) ≡ false = begun h in
    let same : ends_line (get_or text 0 0) ≡ true = ap ends_line (sym e) ∙ end in
    cc (other, same)
first-found text (suc i) b h e end begun none =
    first-record text (suc i) b h e end (omega arith) none

pub first-all : (text : List ℕ) (i : ℕ) → length text ≤ i
    → list_any ends_line (take i text) ≡ false
    → plain_records (take (length text) text) ≡ take 1 (plain_records text)
first-all text i past none =
    ap plain_records (take_all (length text) text (omega arith))
    ∙ by text (ap (list_any ends_line) (sym (take_all i text past)) ∙ none)
  where
    by : (line : List ℕ) → list_any ends_line line ≡ false
        → plain_records line ≡ take 1 (plain_records line)
    by [] free = plain-none ∙ sym (ap (take 1) plain-none)
    by (c ∷ rest) free = one_line c rest free ∙ sym (ap (take 1) (one_line c rest free))

pub no_end-more : (text : List ℕ) (i b : ℕ) → i < length text → b ≡ get_or text i 0
    → ends_line b ≡ false → list_any ends_line (take i text) ≡ false
    → list_any ends_line (take (i + 1) text) ≡ false
no_end-more text i b h e inside none =
    ap (list_any ends_line) (take_place text i b h e)
    ∙ list_any-append ends_line (take i text) (b ∷ [])
    ∙ rw (none, inside) refl

-- the text from `n` on begins with the byte at place `n`, which ends no line
pub next_byte : (text : List ℕ) (n : ℕ) → n < length text → ends_line (get_or text n 0) ≡ false
    → ends_line (get_or (take (length text - n) (drop n text)) 0 0) ≡ false
next_byte text n h inside =
    ap (λ t. ends_line (get_or t 0 0)) (take_rest text n ∙ drop_more text n 0 h) ∙ inside

-- the first `n` bytes of a text are none, or end with the end of a line
start_or_ended : (text : List ℕ) (n : ℕ) → (0 < n → is_ended (take n text) ≡ true)
    → (take n text ≡ []) ⊎ (is_ended (take n text) ≡ true)
start_or_ended text zero closed = inl refl
start_or_ended text (suc n) closed = inr (closed (omega arith))

skip_front : (front rest : List ℕ) → plain_records front ≡ []
    → (front ≡ []) ⊎ (is_ended front ≡ true) → plain_records (front ++ rest) ≡ plain_records rest
skip_front front rest empty closed =
    ⊎_elim (λ (h : front ≡ []). ap (λ t. plain_records (t ++ rest)) h)
    (λ (h : is_ended front ≡ true).
    plain-after front rest h ∙ ap (λ rs. rs ++ plain_records rest) empty)
    closed

-- a text has a record where a byte that ends no line follows ends of lines
pub some_record : (text : List ℕ) (n : ℕ) → n < length text
    → plain_records (take n text) ≡ [] → (0 < n → is_ended (take n text) ≡ true)
    → ends_line (get_or text n 0) ≡ false → 0 < length (plain_records text)
some_record text n h none ended inside =
    let b : ℕ = get_or text n 0 in
    let rest : List ℕ = drop (n + 1) text in
    let here : plain_records text ≡ plain_records (b ∷ rest) =
    ap plain_records (sym (take-append-drop n text)
    ∙ ap (λ t. take n text ++ t) (drop_more text n 0 h))
    ∙ skip_front (take n text) (b ∷ rest) none (start_or_ended text n ended) in
    omega (arith, ap length (here ∙ plain-line b rest inside))

pub no_record : (text : List ℕ) (n : ℕ) → length text ≤ n → plain_records (take n text) ≡ []
    → plain_records text ≡ []
no_record text n past none = ap plain_records (sym (take_all n text past)) ∙ none

-- ## Both

-- ends of lines before the first line leave the first record as it is
pub filled-first : (text : List ℕ) (blank count : ℕ)
    → plain_records (take blank text) ≡ []
    → (0 < blank → is_ended (take blank text) ≡ true)
    → plain_records (take count (take (length text - blank) (drop blank text)))
    ≡ take 1 (plain_records (take (length text - blank) (drop blank text)))
    → plain_records (take (blank + count) text) ≡ take 1 (plain_records text)
filled-first text blank count none ended first =
    let at : take (length text - blank) (drop blank text) ≡ drop blank text =
    take_rest text blank in
    let before : (rest : List ℕ) → plain_records (take blank text ++ rest) ≡ plain_records rest =
    λ rest. skip_front (take blank text) rest none (start_or_ended text blank ended) in
    ap plain_records (take-add blank count text) ∙ before (take count (drop blank text))
    ∙ subst (λ t. plain_records (take count t) ≡ take 1 (plain_records t)) at first
    ∙ ap (take 1) (sym (before (drop blank text))
    ∙ ap plain_records (take-append-drop blank text))

pub ended_join : (text more : List ℕ) → is_ended more ≡ true → is_ended (text ++ more) ≡ true
ended_join text more e =
    let some : 0 < length more = ended-some more e in
    let at : length (text ++ more) - 1 ≡ length text + (length more - 1) =
    omega (arith, length-append text more) in
    ap (λ i. ends_line (get_or (text ++ more) i 0)) at
    ∙ ap ends_line (get_or-append-add text more (length more - 1) 0) ∙ e

pub filled-ended : (text : List ℕ) (blank count : ℕ)
    → is_ended (take count (take (length text - blank) (drop blank text))) ≡ true
    → is_ended (take (blank + count) text) ≡ true
filled-ended text blank count ended =
    ap is_ended (take-add blank count text)
    ∙ ended_join (take blank text) (take count (drop blank text))
    (ap (λ t. is_ended (take count t)) (sym (take_rest text blank)) ∙ ended)

-- ## A byte order mark

-- a front of a text that has no byte order mark has none
unmarked : (a b c : ℕ) (rest : List ℕ) → is_bom a b c ≡ false → (n : ℕ)
    → strip_bom (take n (a ∷ b ∷ c ∷ rest)) ≡ take n (a ∷ b ∷ c ∷ rest)
unfolding strip_bom
unmarked a b c rest is zero = refl
unmarked a b c rest is (suc zero) = refl
unmarked a b c rest is (suc (suc zero)) = refl
unmarked a b c rest is (suc (suc (suc n))) = rw is refl

none-take : (n : ℕ) → strip_bom (take n []) ≡ take n []
unfolding strip_bom
none-take zero = refl
none-take (suc n) = refl

one-take : (a n : ℕ) → strip_bom (take n (a ∷ [])) ≡ take n (a ∷ [])
unfolding strip_bom
one-take a zero = refl
one-take a (suc zero) = refl
one-take a (suc (suc n)) = refl

two-take : (a b n : ℕ) → strip_bom (take n (a ∷ b ∷ [])) ≡ take n (a ∷ b ∷ [])
unfolding strip_bom
two-take a b zero = refl
two-take a b (suc zero) = refl
two-take a b (suc (suc zero)) = refl
two-take a b (suc (suc (suc n))) = refl

-- `strip-take` for a text without a byte order mark
unmarked-take : (text : List ℕ) (count : ℕ) → strip_bom text ≡ text
    → strip_bom (take count text) ≡ take count text
    → strip_bom (take ((length text - length (strip_bom text)) + count) text)
    ≡ take count (strip_bom text)
unmarked-take text count same kept =
    let n : (length text - length (strip_bom text)) + count ≡ count =
    omega (arith, ap length same) in
    ap (λ m. strip_bom (take m text)) n ∙ kept ∙ ap (take count) (sym same)

-- the mark and the next `count` bytes of a text, without the mark, are those `count` bytes
pub strip-take : (text : List ℕ) (count : ℕ)
    → strip_bom (take ((length text - length (strip_bom text)) + count) text)
    ≡ take count (strip_bom text)
unfolding strip_bom
strip-take [] count = unmarked-take [] count refl (none-take count)
strip-take (a ∷ []) count = unmarked-take (a ∷ []) count refl (one-take a count)
strip-take (a ∷ b ∷ []) count = unmarked-take (a ∷ b ∷ []) count refl (two-take a b count)
strip-take (a ∷ b ∷ c ∷ rest) count = by (is_bom a b c) refl
  where
    by : (t : Bool) → is_bom a b c ≡ t
        → strip_bom (take ((length (a ∷ b ∷ c ∷ rest) - length (strip_bom (a ∷ b ∷ c ∷ rest)))
        + count) (a ∷ b ∷ c ∷ rest)) ≡ take count (strip_bom (a ∷ b ∷ c ∷ rest))
    by true is =
        let gone : strip_bom (a ∷ b ∷ c ∷ rest) ≡ rest = rw is refl in
        let whole : List ℕ = a ∷ b ∷ c ∷ rest in
        let n : (length whole - length (strip_bom whole)) + count ≡ suc (suc (suc count)) =
        omega (arith, ap length gone) in
        let kept : strip_bom (take (suc (suc (suc count))) whole) ≡ take count rest = rw is refl in
        ap (λ m. strip_bom (take m whole)) n ∙ kept ∙ ap (take count) (sym gone)
    by false is =
        let same : strip_bom (a ∷ b ∷ c ∷ rest) ≡ a ∷ b ∷ c ∷ rest = rw is refl in
        unmarked-take (a ∷ b ∷ c ∷ rest) count same (unmarked a b c rest is count)

-- a text from the length of its mark on is the text without the mark
drop-mark : (text : List ℕ)
    → drop (length text - length (strip_bom text)) text ≡ strip_bom text
unfolding strip_bom
drop-mark [] = refl
drop-mark (a ∷ []) = refl
drop-mark (a ∷ b ∷ []) = refl
drop-mark (a ∷ b ∷ c ∷ rest) = by (is_bom a b c) refl
  where
    by : (t : Bool) → is_bom a b c ≡ t
        → drop (length (a ∷ b ∷ c ∷ rest) - length (strip_bom (a ∷ b ∷ c ∷ rest)))
        (a ∷ b ∷ c ∷ rest) ≡ strip_bom (a ∷ b ∷ c ∷ rest)
    by true is =
        let gone : strip_bom (a ∷ b ∷ c ∷ rest) ≡ rest = rw is refl in
        let whole : List ℕ = a ∷ b ∷ c ∷ rest in
        let n : length whole - length (strip_bom whole) ≡ suc (suc (suc zero)) =
        omega (arith, ap length gone) in
        ap (λ m. drop m whole) n ∙ sym gone
    by false is =
        let same : strip_bom (a ∷ b ∷ c ∷ rest) ≡ a ∷ b ∷ c ∷ rest = rw is refl in
        let whole : List ℕ = a ∷ b ∷ c ∷ rest in
        let n : length whole - length (strip_bom whole) ≡ zero = omega (arith, ap length same) in
        ap (λ m. drop m whole) n ∙ sym same

-- the mark and the next `count` bytes end with the end of a line where those bytes do
pub mark-ended : (text : List ℕ) (count : ℕ) → is_ended (take count (strip_bom text)) ≡ true
    → is_ended (take ((length text - length (strip_bom text)) + count) text) ≡ true
mark-ended text count ended =
    let mark : ℕ = length text - length (strip_bom text) in
    ap is_ended (take-add mark count text)
    ∙ ended_join (take mark text) (take count (drop mark text))
    (ap (λ t. is_ended (take count t)) (drop-mark text) ∙ ended)

-- ## The length of a header

and_first : (a b : Bool) → (a && b) ≡ true → a ≡ true
and_first true b h = refl
and_first false b h = cc h

line_short : (text : List ℕ) → length (line_of text) ≤ length text
unfolding line_of
line_short [] = omega arith
line_short (b ∷ rest) = by (ends_line b) refl (line_short rest)
  where
    by : (t : Bool) → ends_line b ≡ t → length (line_of rest) ≤ length rest
        → length (line_of (b ∷ rest)) ≤ length (b ∷ rest)
    by true is more = omega (arith, ap length (line-end b rest is))
    by false is more = omega (arith, ap length (line-more b rest is))

split_short : (text first : List ℕ) (cells : Record) → split_at is_comma text ≡ first ∷ cells
    → length first ≤ length text
unfolding split_at
split_short [] first cells is = let same : first ≡ [] = cc is in omega (arith, ap length same)
split_short (b ∷ rest) first cells is =
    by (is_comma b) refl (split_at is_comma rest) refl
    (λ part more here. split_short rest part more here)
  where
    by : (t : Bool) → is_comma b ≡ t → (parts : Record) → split_at is_comma rest ≡ parts
        → ((part : List ℕ) (more : Record) → split_at is_comma rest ≡ part ∷ more
        → length part ≤ length rest)
        → length first ≤ length (b ∷ rest)
    by true comma parts split less =
        let shown : split_at is_comma (b ∷ rest) ≡ [] ∷ split_at is_comma rest = rw comma refl in
        let same : first ≡ [] = cc (is, shown) in
        omega (arith, ap length same)
    by false comma [] split less =
        let shown : split_at is_comma (b ∷ rest) ≡ (b ∷ []) ∷ [] = rw (comma, split) refl in
        let same : first ≡ b ∷ [] = cc (is, shown) in
        omega (arith, ap length same)
    by false comma (part ∷ parts) split less =
        let shown : split_at is_comma (b ∷ rest) ≡ (b ∷ part) ∷ parts = rw (comma, split) refl in
        let same : first ≡ b ∷ part = cc (is, shown) in
        omega (arith, ap length same, less part parts split)

-- the first cell of a text is no longer than the text
first_short : (text first : List ℕ) (cells : Record) (more : List Record)
    → plain_records text ≡ (first ∷ cells) ∷ more → length first ≤ length text
first_short [] first cells more is = cc (is, plain-none)
first_short (b ∷ rest) first cells more is =
    by (ends_line b) refl (λ here. first_short rest first cells more here)
  where
    by : (t : Bool) → ends_line b ≡ t
        → (plain_records rest ≡ (first ∷ cells) ∷ more → length first ≤ length rest)
        → length first ≤ length (b ∷ rest)
    by true end less =
        let there : length first ≤ length rest = less (sym (plain-skip b rest end) ∙ is) in
        omega arith
    by false end less =
        let here : record_of (b ∷ rest) ≡ first ∷ cells = cc (is, plain-line b rest end) in
        omega (arith, split_short _ _ _ here, line_short (b ∷ rest))

pub strip_short : (text : List ℕ) → length (strip_bom text) ≤ length text
unfolding strip_bom
strip_short [] = omega arith
strip_short (a ∷ []) = omega arith
strip_short (a ∷ b ∷ []) = omega arith
strip_short (a ∷ b ∷ c ∷ rest) = by (is_bom a b c) refl
  where
    by : (t : Bool) → is_bom a b c ≡ t
        → length (strip_bom (a ∷ b ∷ c ∷ rest)) ≤ length (a ∷ b ∷ c ∷ rest)
    by true is = rw is (omega arith)
    by false is = rw is (omega arith)

-- a text with a header is longer than a byte order mark
pub header-long : (elements : Elements) (text : List ℕ) (header : Record) (more : List Record)
    → plain_records (strip_bom text) ≡ header ∷ more → is_header elements header ≡ true
    → 2 < length text
header-long elements text [] more is headed = cc headed
header-long elements text (first ∷ cells) more is headed =
    let same : first ≡ codes "trace" = (bytes_eq-Decides first (codes "trace")).0
    (and_first (bytes_eq first (codes "trace")) (are_columns elements cells) headed) in
    omega (arith, ap length same, first_short _ _ _ _ is, strip_short text)
