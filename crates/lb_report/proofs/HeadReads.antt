-- The header at the front of a text that may go on.
use Rattle.std.proofs.Common.{ℕ, ◌≡◌, ◌⊎◌, ◌<◌, ◌≤◌, Bool, true, false, List, [], ◌∷◌}
use Rattle.std.proofs.Common.{◌++◌, Err, refl, sym, ap, ◌∙◌, subst, append_assoc, ⊎_elim, inl, inr}
use Rattle.std.proofs.Common.{arith, drop, length, take}
use Rattle.std.proofs.lemmas.Bool.{cases_lt}
use Rattle.std.proofs.lemmas.Bool.Decides.{nat_tests}
use Rattle.std.proofs.lemmas.List.{append-nil, append_cancel_left, drop_all, length-take}
use Rattle.std.proofs.lemmas.List.{take-append-drop, take-take}
use Rattle.csv.specs.Reading.{default_config, is_bom, records, strip_bom}
use Rattle.csv.specs.Records.{fields_of}
use Rattle.lb_static.specs.Signature.{Elements}
use Rattle.lb_trace.specs.declared.table.ColumnTable.{ColumnTable}
use Rattle.lb_trace.specs.declared.error.TraceError.{TraceError}
use Rattle.lb_trace.specs.Chunks.{is_ended}
use Rattle.lb_trace.specs.Errors.{error_number}
use Rattle.lb_trace.specs.Plain.{ends_line, has_quote, is_quote, plain_records}
use Rattle.lb_trace.specs.Refusals.{outcome}
use Rattle.lb_trace.specs.Spelling.{Record, is_header, records_of}
use Rattle.lb_trace.specs.Tables.{has_header}
use Rattle.lb_trace.specs.Texts.{IsHead}
use Rattle.lb_trace.proofs.ChunkTexts.{strip-ended, strip-first}
use Rattle.lb_trace.proofs.FrontLines.{header-long}
use Rattle.lb_trace.proofs.Lines.{no-quote, plain-line, plain-skip}
use Rattle.lb_trace.proofs.Outcomes.{outcome-records, reading-none, reading-other}
use Rattle.lb_trace.proofs.PlainPrefixes.{plain_front}
use Rattle.lb_trace.proofs.PlainRecords.{plain_text}
use Rattle.lb_feed.specs.Windows.{HasTaken, Left, text_in}
use Rattle.lb_feed.specs.declared.window.Window.{Window}
use Rattle.lb_feed.proofs.WindowReads.{read_kept}
use Rattle.lb_report.specs.JudgedParts.{HasRefusedText, IsHeadRead}

-- ## A byte order mark before a line

-- a text that begins with an end of a line has no byte order mark
strip_one : (a : ℕ) (rest : List ℕ) → ends_line a ≡ true
    → strip_bom (a ∷ rest) ≡ a ∷ rest
unfolding strip_bom
strip_one a [] e = refl
strip_one a (b ∷ []) e = refl
strip_one a (b ∷ c ∷ rest) e =
    let none : is_bom a b c ≡ false = grind (arith, nat_tests) in
    rw none refl

strip_two : (a b : ℕ) (rest : List ℕ) → ends_line b ≡ true
    → strip_bom (a ∷ b ∷ rest) ≡ a ∷ b ∷ rest
unfolding strip_bom
strip_two a b [] e = refl
strip_two a b (c ∷ rest) e =
    let none : is_bom a b c ≡ false = grind (arith, nat_tests) in
    rw none refl

-- `strip_bom` of whole lines and more text is `strip_bom` of the lines, and then that text
strip_lines : (head rest : List ℕ) → is_ended head ≡ true
    → strip_bom (head ++ rest) ≡ strip_bom head ++ rest
strip_lines [] rest e = cc e
strip_lines (a ∷ []) rest e =
    strip_one a rest e ∙ ap (λ t. t ++ rest) (sym (strip_one a [] e))
strip_lines (a ∷ b ∷ []) rest e =
    strip_two a b rest e ∙ ap (λ t. t ++ rest) (sym (strip_two a b [] e))
strip_lines (a ∷ b ∷ c ∷ more) rest e = strip-first (a ∷ b ∷ c ∷ more) rest (omega arith)

lines_stripped : (head : List ℕ) → is_ended head ≡ true → is_ended (strip_bom head) ≡ true
lines_stripped [] e = cc e
lines_stripped (a ∷ []) e = ap is_ended (strip_one a [] e) ∙ e
lines_stripped (a ∷ b ∷ []) e = ap is_ended (strip_two a b [] e) ∙ e
lines_stripped (a ∷ b ∷ c ∷ more) e = strip-ended (a ∷ b ∷ c ∷ more) (omega arith) e

-- a text without quotes has none without its byte order mark
strip_plain : (text : List ℕ) → has_quote text ≡ false → has_quote (strip_bom text) ≡ false
unfolding strip_bom
strip_plain [] plain = plain
strip_plain (a ∷ []) plain = plain
strip_plain (a ∷ b ∷ []) plain = plain
strip_plain (a ∷ b ∷ c ∷ rest) plain = by (is_bom a b c) refl
  where
    by : (t : Bool) → is_bom a b c ≡ t → has_quote (strip_bom (a ∷ b ∷ c ∷ rest)) ≡ false
    by true is =
        rw is (no-quote c rest (no-quote b (c ∷ rest) (no-quote a (b ∷ c ∷ rest) plain).1).1).1
    by false is = rw is plain

-- ## Texts without a line

-- a text without records has no quotes
blank_plain : (text : List ℕ) → plain_records text ≡ [] → has_quote text ≡ false
blank_plain [] none = refl
blank_plain (b ∷ rest) none = by (ends_line b) refl (λ h. blank_plain rest h)
  where
    by : (t : Bool) → ends_line b ≡ t → (plain_records rest ≡ [] → has_quote rest ≡ false)
        → has_quote (b ∷ rest) ≡ false
    by true is behind =
        let other : is_quote b ≡ false = grind (arith, nat_tests) in
        rw other (behind (sym (plain-skip b rest is) ∙ none))
    by false is behind = cc (plain-line b rest is, none)

-- the records of a text without quotes are the plain records behind its byte order mark
records_stripped : (text : List ℕ) → has_quote (strip_bom text) ≡ false
    → records_of text ≡ plain_records (strip_bom text)
unfolding records_of
records_stripped text plain = plain_text (strip_bom text) plain

-- the records of whole lines and more text are those of the lines, and then those of that text
records_behind : (head behind : List ℕ) → is_ended head ≡ true → has_quote head ≡ false
    → records_of (head ++ behind)
    ≡ plain_records (strip_bom head) ++ records default_config behind
unfolding records_of
records_behind head behind ended plain =
    ap (records default_config) (strip_lines head behind ended)
    ∙ plain_front (strip_bom head) behind (strip_plain head plain) (lines_stripped head ended)

-- ## No header

-- a text whose first records hold no header is refused by E14
no_header : (elements : Elements) (text : List ℕ) (rows more : List Record)
    → length text ≤ 1073741824 → records_of text ≡ rows ++ more → has_header elements rows ≡ false
    → (rows ≡ [] → more ≡ []) → outcome elements text ≡ Err 14
no_header elements text [] more short is none alone =
    outcome-records elements text [] short (is ∙ alone refl) ∙ reading-none elements
no_header elements text (r ∷ rows) more short is none alone =
    outcome-records elements text (r ∷ rows ++ more) short is
    ∙ reading-other elements r (rows ++ more) none

none_first : {A : Type 0} (xs : List A) → take 1 xs ≡ [] → xs ≡ []
none_first [] is = refl
none_first (x ∷ xs) is = cc is

-- a text that is over and has no header is refused by E14
over_refused : (elements : Elements) (text : List ℕ) → length text ≤ 1073741824
    → has_quote (strip_bom text) ≡ false
    → has_header elements (plain_records (strip_bom text)) ≡ false
    → outcome elements text ≡ Err 14
over_refused elements text short plain none =
    no_header elements text (plain_records (strip_bom text)) [] short
    (records_stripped text plain ∙ sym (append-nil (plain_records (strip_bom text)))) none
    (λ _. refl)

-- `head` is the first line of `piece`, the front of `text`; where `over`, the text ends with the
-- piece
pub record IsFirstLine (text piece head : List ℕ) (over : Bool) : Type 0 where
  pub behind : List ℕ
  pub rest : List ℕ
  pub whole : text ≡ piece ++ behind
  pub cut : piece ≡ head ++ rest
  pub all : over ≡ true → behind ≡ []
  pub lines : over ≡ false → is_ended piece ≡ true
  pub some : over ≡ false → 0 < length (plain_records (strip_bom piece))
  pub first : plain_records (strip_bom head) ≡ take 1 (plain_records (strip_bom piece))
  pub ended : (is_ended head ≡ true) ⊎ (rest ≡ [])

pub first_line : (text : List ℕ) (count len : ℕ) (over : Bool) → count ≤ length text
    → len ≤ length (take count text)
    → (over ≡ true → count ≡ length text)
    → (over ≡ false → is_ended (take count text) ≡ true)
    → (over ≡ false → 0 < length (plain_records (strip_bom (take count text))))
    → plain_records (strip_bom (take len (take count text)))
    ≡ take 1 (plain_records (strip_bom (take count text)))
    → (len < length (take count text) → is_ended (take len (take count text)) ≡ true)
    → IsFirstLine text (take count text) (take len (take count text)) over
first_line text count len over within fits whole lines some first ended = record {
  behind = drop count text;
  rest = drop len (take count text);
  whole = sym (take-append-drop count text);
  cut = sym (take-append-drop len (take count text));
  all = λ is. drop_all count text (omega (arith, whole is));
  lines = lines;
  some = some;
  first = first;
  ended = elim (cases_lt len (length (take count text))) [
    | inl short ↦ inl (ended short)
    | inr long ↦ inr (drop_all len (take count text) long)
  ];
}

-- a text whose first line is no header is refused by E14, however the text goes on
pub header_refused : (elements : Elements) (text piece head tail : List ℕ) (over : Bool)
    → IsFirstLine text piece head over → has_quote head ≡ false
    → has_header elements (plain_records (strip_bom head)) ≡ false
    → (over ≡ true → tail ≡ []) → length (text ++ tail) ≤ 1073741824
    → outcome elements (text ++ tail) ≡ Err 14
header_refused elements text piece head tail over at plain none last short =
    elim at.ended [ inl ended ↦ lines ended | inr nothing ↦ alone over refl nothing ]
  where
    behind : List ℕ
    behind = at.rest ++ (at.behind ++ tail)

    all : text ++ tail ≡ head ++ behind
    all =
        ap (λ t. t ++ tail) (at.whole ∙ ap (λ t. t ++ at.behind) at.cut)
        ∙ append_assoc (head ++ at.rest) at.behind tail
        ∙ append_assoc head at.rest (at.behind ++ tail)

    -- a text that is over is just its piece
    over_all : over ≡ true → text ++ tail ≡ piece
    over_all is =
        ap (λ t. text ++ t) (last is) ∙ append-nil text ∙ at.whole
        ∙ ap (λ t. piece ++ t) (at.all is) ∙ append-nil piece

    over_none : over ≡ true → plain_records (strip_bom piece) ≡ []
        → outcome elements (text ++ tail) ≡ Err 14
    over_none is blank =
        let same : text ++ tail ≡ piece = over_all is in
        let rows : plain_records (strip_bom (text ++ tail)) ≡ [] =
        ap (λ t. plain_records (strip_bom t)) same ∙ blank in
        over_refused elements (text ++ tail) short (blank_plain (strip_bom (text ++ tail)) rows)
        (ap (has_header elements) rows)

    lines : is_ended head ≡ true → outcome elements (text ++ tail) ≡ Err 14
    lines ended = rows_of (plain_records (strip_bom head)) refl
      where
        given : records_of (text ++ tail)
            ≡ plain_records (strip_bom head) ++ records default_config behind
        given = ap records_of all ∙ records_behind head behind ended plain

        blank : (t : Bool) → over ≡ t → plain_records (strip_bom piece) ≡ []
            → outcome elements (text ++ tail) ≡ Err 14
        blank true is nothing = over_none is nothing
        blank false is nothing =
            absurd (omega (arith, at.some is, ap (length {A = Record}) nothing))

        rows_of : (rows : List Record) → plain_records (strip_bom head) ≡ rows
            → outcome elements (text ++ tail) ≡ Err 14
        rows_of [] is =
            blank over refl (none_first (plain_records (strip_bom piece)) (sym at.first ∙ is))
        rows_of (r ∷ rows) is =
            no_header elements (text ++ tail) (r ∷ rows) (records default_config behind) short
            (given ∙ ap (λ rs. rs ++ records default_config behind) is)
            (ap (has_header elements) (sym is) ∙ none) (λ empty. cc empty)

    alone : (t : Bool) → over ≡ t → at.rest ≡ [] → outcome elements (text ++ tail) ≡ Err 14
    alone true is nothing =
        let same : text ++ tail ≡ head =
        over_all is ∙ at.cut ∙ ap (λ t. head ++ t) nothing ∙ append-nil head in
        over_refused elements (text ++ tail) short
        (ap (λ t. has_quote (strip_bom t)) same ∙ strip_plain head plain)
        (ap (λ t. has_header elements (plain_records (strip_bom t))) same ∙ none)
    alone false is nothing =
        lines (ap is_ended (sym (at.cut ∙ ap (λ t. head ++ t) nothing ∙ append-nil head))
        ∙ at.lines is)

-- ## A header

only_first : (xs rows more : List Record) (r : Record) → rows ≡ take 1 xs → rows ≡ r ∷ more
    → rows ≡ r ∷ []
only_first [] rows more r one is = cc (one, is)
only_first (x ∷ xs) rows more r one is = cc (one, is)

pub head_is : (elements : Elements) (table : ColumnTable) (text piece head : List ℕ)
    (more : List Record) (over : Bool)
    → IsFirstLine text piece head over → has_quote head ≡ false
    → is_header elements (fields_of table.header) ≡ true
    → plain_records (strip_bom head) ≡ fields_of table.header ∷ more
    → IsHead elements table head
head_is elements table text piece head more over at plain headed is = record {
  headed = headed;
  long = header-long elements head (fields_of table.header) more is headed;
  plain = strip_plain head plain;
  only =
      only_first (plain_records (strip_bom piece)) (plain_records (strip_bom head)) more
      (fields_of table.header) at.first is;
}

-- nothing stands behind a first line that has no line end
pub head_ends : (text piece head after : List ℕ) (over : Bool) → IsFirstLine text piece head over
    → text ≡ head ++ after
    → (is_ended head ≡ true) ⊎ ((over ≡ true) × (after ≡ []))
head_ends text piece head after over at same =
    elim at.ended [ inl ended ↦ inl ended | inr nothing ↦ alone over refl nothing ]
  where
    alone : (t : Bool) → over ≡ t → at.rest ≡ []
        → (is_ended head ≡ true) ⊎ ((over ≡ true) × (after ≡ []))
    alone true is nothing =
        let short : head ++ after ≡ head ++ [] =
        sym same ∙ at.whole ∙ ap (λ t. piece ++ t) (at.all is) ∙ append-nil piece ∙ at.cut
        ∙ ap (λ t. head ++ t) nothing in
        inr (is, append_cancel_left head after [] short)
    alone false is nothing =
        inl (ap is_ended (sym (at.cut ∙ ap (λ t. head ++ t) nothing ∙ append-nil head))
        ∙ at.lines is)

-- ## The header of a feed

module _ (elements : Elements) (a b : Window) (x y : Left) (shown : List ℕ) (count len : ℕ)
    (taken : HasTaken a b x y) (same : shown ≡ text_in b)
    (within : count ≤ length (text_in b))
    (whole : b.is_over ≡ true → count ≡ length (text_in b))
    (lines : b.is_over ≡ false → is_ended (take count (text_in b)) ≡ true)
    (some : b.is_over ≡ false → 0 < length (plain_records (strip_bom (take count (text_in b)))))
    (fits : len ≤ length (take count shown))
    (first : plain_records (strip_bom (take len (take count shown)))
    ≡ take 1 (plain_records (strip_bom (take count shown))))
    (ended : len < length (take count shown) → is_ended (take len (take count shown)) ≡ true)
    (plain : has_quote (take len (take count shown)) ≡ false) where
  shown_line : IsFirstLine shown (take count shown) (take len (take count shown)) b.is_over
  shown_line =
      first_line shown count len b.is_over (subst (λ t. count ≤ length t) (sym same) within) fits
      (subst (λ t. b.is_over ≡ true → count ≡ length t) (sym same) whole)
      (subst (λ t. b.is_over ≡ false → is_ended (take count t) ≡ true) (sym same) lines)
      (subst (λ t. b.is_over ≡ false → 0 < length (plain_records (strip_bom (take count t))))
      (sym same) some)
      first ended

  -- a feed whose first line is no header is refused
  pub head_none : (e : TraceError) → error_number e ≡ 14
      → has_header elements (plain_records (strip_bom (take len (take count shown)))) ≡ false
      → HasRefusedText elements a b x y e
  head_none e number none = record {
    read = taken.read;
    refused = λ tail last short.
        let all : shown ++ tail ≡ (text_in a ++ taken.read.more) ++ tail =
        ap (λ t. t ++ tail) (same ∙ taken.taken) in
        let fits_all : length (shown ++ tail) ≤ 1073741824 =
        subst (λ t. length t ≤ 1073741824) (sym all) short in
        inr (ap (outcome elements) (sym all)
        ∙ header_refused elements shown (take count shown) (take len (take count shown)) tail
        b.is_over shown_line plain none last fits_all
        ∙ ap (λ n. Err n) (sym number));
  }

  -- the header is read where the window drops its first line
  pub head_found : (table : ColumnTable) (more : List Record) (c : Window)
      → is_header elements (fields_of table.header) ≡ true
      → plain_records (strip_bom (take len (take count shown))) ≡ fields_of table.header ∷ more
      → text_in c ≡ drop len (text_in b) → c.read ≡ b.read → c.is_over ≡ b.is_over
      → c.is_ended ≡ b.is_ended
      → IsHeadRead elements table a c x y
  unfolding read_kept
  head_found table more c headed is behind read over last =
      let short : len ≤ count = omega (arith, fits, length-take count shown) in
      let head : take len (take count shown) ≡ take len shown = take-take len count shown short in
      let cut : shown ≡ take len (take count shown) ++ text_in c =
      sym (take-append-drop len shown) ∙ ap (λ t. t ++ drop len shown) (sym head)
      ∙ ap (λ t. take len (take count shown) ++ t) (ap (drop len) same ∙ sym behind) in
      record {
        read = read_kept a b c x y taken.read read over last;
        head = take len (take count shown);
        taken = sym taken.taken ∙ sym same ∙ cut;
        is = head_is elements table shown (take count shown) (take len (take count shown)) more
            b.is_over shown_line plain headed is;
        end =
            ⊎_elim (λ (h : is_ended (take len (take count shown)) ≡ true). inl h)
            (λ (h : (b.is_over ≡ true) × (text_in c ≡ [])). inr (over ∙ h.0, h.1))
            (head_ends shown (take count shown) (take len (take count shown)) (text_in c) b.is_over
            shown_line cut);
      }
