-- The text of chunks. Each chunk but the last ends with the end of a line.
use Rattle.std.proofs.Common.{ℕ, zero, suc, ◌≡◌, ◌+◌, ◌-◌, ◌<◌, ◌||◌, Bool, true, false}
use Rattle.std.proofs.Common.{List, [], ◌∷◌, ◌++◌, length, refl, sym, ap, ◌∙◌, arith}
use Rattle.std.proofs.Common.{get_or, map, take}
use Rattle.std.proofs.Common.{append_assoc}
use Rattle.std.specs.Prelude.{Vec, flat_map}
use Rattle.std.specs.Global.{Global}
use Rattle.std.specs.List.{list_any}
use Rattle.std.proofs.lemmas.Bool.Decides.{nat_tests}
use Rattle.std.proofs.lemmas.List.{append-nil, drop_all, drop_more, take-append-drop}
use Rattle.std.proofs.lemmas.List.Folds.{list_any-append}
use Rattle.csv.specs.Reading.{is_bom, strip_bom}
use Rattle.lb_trace.specs.Chunks.{is_ended, text_of}
use Rattle.lb_trace.specs.Plain.{ends_line, has_quote, is_quote, plain_records}
use Rattle.lb_trace.specs.Spelling.{records_of}
use Rattle.lb_trace.proofs.CutTexts.{plain-cut}
use Rattle.lb_trace.proofs.Lines.{plain-none}
use Rattle.lb_trace.proofs.PlainRecords.{plain_text}
use Rattle.lb_trace.proofs.SpreadReadings.{records_after_bom}

-- the bytes of some texts, one text after the other
abbrev pub joined : List (List ℕ) → List ℕ
joined texts = flat_map (λ text. text) texts

-- each text but the last one ends with the end of a line
abbrev pub AreEnded : List (List ℕ) → Type 0
AreEnded texts = (k : ℕ) → k + 1 < length texts → is_ended (get_or texts k []) ≡ true

-- the texts, without the byte order mark at the start of the first
abbrev pub bodies_of : List (List ℕ) → List (List ℕ)
bodies_of [] = []
bodies_of (text ∷ more) = strip_bom text ∷ more

pub ended-some : (text : List ℕ) → is_ended text ≡ true → 0 < length text
ended-some [] e = cc e
ended-some (b ∷ rest) e = omega arith

-- a text that ends with the end of a line is its bytes but the last, and then its last byte
ended-last : (text : List ℕ) → is_ended text ≡ true
    → text ≡ take (length text - 1) text ++ get_or text (length text - 1) 0 ∷ []
ended-last text e =
    let some : 0 < length text = ended-some text e in
    let below : length text - 1 < length text = omega arith in
    sym (take-append-drop (length text - 1) text)
    ∙ ap (λ rest. take (length text - 1) text ++ rest)
    (drop_more text (length text - 1) 0 below
    ∙ ap (λ rest. get_or text (length text - 1) 0 ∷ rest)
    (drop_all (length text - 1 + 1) text (omega arith)))

-- the records of `text ++ rest` are those of both, where `text` ends with the end of a line
pub plain-after : (text rest : List ℕ) → is_ended text ≡ true
    → plain_records (text ++ rest) ≡ plain_records text ++ plain_records rest
plain-after text rest e =
    let before : List ℕ = take (length text - 1) text in
    let last : ℕ = get_or text (length text - 1) 0 in
    let whole : text ≡ before ++ last ∷ [] = ended-last text e in
    let alone : plain_records text ≡ plain_records before =
    ap plain_records whole ∙ plain-cut before last [] e
    ∙ ap (λ rs. plain_records before ++ rs) plain-none ∙ append-nil (plain_records before) in
    ap (λ t. plain_records (t ++ rest)) whole
    ∙ ap plain_records (append_assoc before (last ∷ []) rest)
    ∙ plain-cut before last rest e
    ∙ ap (λ rs. rs ++ plain_records rest) (sym alone)

joined-records : (texts : List (List ℕ)) → AreEnded texts
    → plain_records (joined texts) ≡ flat_map plain_records texts
joined-records [] each = plain-none
joined-records (text ∷ []) each =
    ap plain_records (append-nil text) ∙ sym (append-nil (plain_records text))
joined-records (text ∷ next ∷ more) each =
    plain-after text (joined (next ∷ more)) (each 0 (omega arith))
    ∙ ap (λ rs. plain_records text ++ rs)
    (joined-records (next ∷ more) (λ k below. each (suc k) (omega (arith, below))))

joined-quotes : (texts : List (List ℕ)) → has_quote (joined texts) ≡ list_any has_quote texts
joined-quotes [] = refl
joined-quotes (text ∷ more) =
    list_any-append is_quote text (joined more)
    ∙ ap (λ q. has_quote text || q) (joined-quotes more)

-- a text of 3 bytes or more has the whole byte order mark, whatever follows it
pub strip-first : (text rest : List ℕ) → 2 < length text
    → strip_bom (text ++ rest) ≡ strip_bom text ++ rest
unfolding strip_bom
strip-first [] rest long = absurd (omega (arith, long))
strip-first (a ∷ []) rest long = absurd (omega (arith, long))
strip-first (a ∷ b ∷ []) rest long = absurd (omega (arith, long))
strip-first (a ∷ b ∷ c ∷ more) rest long = by (is_bom a b c) refl
  where
    by : (t : Bool) → is_bom a b c ≡ t
        → strip_bom ((a ∷ b ∷ c ∷ more) ++ rest) ≡ strip_bom (a ∷ b ∷ c ∷ more) ++ rest
    by true is = rw is refl
    by false is = rw is refl

-- a text without its byte order mark ends with the end of a line where the text does
pub strip-ended : (text : List ℕ) → 2 < length text → is_ended text ≡ true
    → is_ended (strip_bom text) ≡ true
unfolding strip_bom
strip-ended [] long e = absurd (omega (arith, long))
strip-ended (a ∷ []) long e = absurd (omega (arith, long))
strip-ended (a ∷ b ∷ []) long e = absurd (omega (arith, long))
strip-ended (a ∷ b ∷ c ∷ more) long e = by (is_bom a b c) refl
  where
    rest-ended : (left : List ℕ) → is_bom a b c ≡ true → is_ended (a ∷ b ∷ c ∷ left) ≡ true
        → is_ended left ≡ true
    rest-ended [] is end = absurd (grind (arith, nat_tests))
    rest-ended (d ∷ left) is end =
        let at : length (a ∷ b ∷ c ∷ d ∷ left) - 1 ≡ suc (suc (suc (length (d ∷ left) - 1))) =
        omega arith in
        ap (λ i. ends_line (get_or (a ∷ b ∷ c ∷ d ∷ left) i 0)) (sym at) ∙ end

    by : (t : Bool) → is_bom a b c ≡ t → is_ended (strip_bom (a ∷ b ∷ c ∷ more)) ≡ true
    by true is = rw is (rest-ended more is e)
    by false is = rw is e

bodies-ended : (text : List ℕ) (more : List (List ℕ)) → 2 < length text → AreEnded (text ∷ more)
    → AreEnded (strip_bom text ∷ more)
bodies-ended text more long each zero below = strip-ended text long (each 0 (omega (arith, below)))
bodies-ended text more long each (suc k) below = each (suc k) (omega (arith, below))

-- the records of joined texts are those of the texts, one text after the other
pub bodies-records : (texts : List (List ℕ)) → 2 < length (get_or texts 0 []) → AreEnded texts
    → list_any has_quote (bodies_of texts) ≡ false
    → records_of (joined texts) ≡ flat_map plain_records (bodies_of texts)
bodies-records [] long each none = absurd (omega (arith, long))
bodies-records (text ∷ more) long each none =
    let body : List ℕ = joined (strip_bom text ∷ more) in
    records_after_bom (joined (text ∷ more)) body (sym (strip-first text (joined more) long))
    (plain_text body (joined-quotes (strip_bom text ∷ more) ∙ none))
    ∙ joined-records (strip_bom text ∷ more) (bodies-ended text more long each)

-- the text of chunks is `joined` of their bytes
pub chunks-joined : (chunks : List (Vec ℕ Global))
    → text_of chunks ≡ joined (map (λ (chunk : Vec ℕ Global). chunk.items) chunks)
chunks-joined [] = refl
chunks-joined (chunk ∷ more) = ap (λ rest. chunk.items ++ rest) (chunks-joined more)
