-- The stretches of a text spell the traces that the text spells.
use Rattle.std.proofs.Common.{◌≡◌, ◌∙◌, ℕ, ◌<◌, ◌≤◌, Bool, true, false, ◌||◌, if◌then◌else◌}
use Rattle.std.proofs.Common.{List, [], ◌∷◌, ◌++◌, length, refl, sym, ap, subst, append_assoc}
use Rattle.std.proofs.Common.{arith}
use Rattle.std.specs.List.{All, AllZip}
use Rattle.std.proofs.lemmas.List.{length-append}
use Rattle.std.proofs.lemmas.List.Folds.{list_any-append}
use Rattle.csv.specs.Reading.{is_bom, strip_bom}
use Rattle.lb_static.specs.Signature.{Elements}
use Rattle.lb_traces.specs.Traces.{IsRecording, IsTrace, Row, Traces}
use Rattle.lb_trace.specs.Plain.{has_quote, is_quote, plain_records}
use Rattle.lb_trace.specs.Spelling.{Instant, Record, SpelledBy, Spells, SpellsInstant, after_first}
use Rattle.lb_trace.specs.Spelling.{instants, records_of}
use Rattle.lb_trace.proofs.CutTexts.{plain-cut}
use Rattle.lb_trace.proofs.Lines.{plain-none}
use Rattle.lb_trace.proofs.PlainRecords.{plain_text}
use Rattle.lb_part_laws.specs.Stretches.{AreSpelled, AreStretches, IsBorder, IsHead}
use Rattle.lb_part_laws.proofs.TraceCuts.{apart_instants, cut, halves, lawful_front, lawful_rest}

-- ## Quotes

pub or_left : (a b : Bool) → (a || b) ≡ false → a ≡ false
or_left true b e = cc e
or_left false b e = refl

pub or_right : (a b : Bool) → (a || b) ≡ false → b ≡ false
or_right true b e = cc e
or_right false b e = e

pub or_none : (a b : Bool) → a ≡ false → b ≡ false → (a || b) ≡ false
or_none true b e f = cc e
or_none false b e f = f

quotes : (head before after : List ℕ) → has_quote (head ++ (before ++ after)) ≡ false
    → (has_quote (head ++ before) ≡ false) × (has_quote (head ++ after) ≡ false)
quotes head before after none =
    let all : (has_quote head || has_quote (before ++ after)) ≡ false =
    sym (list_any-append is_quote head (before ++ after)) ∙ none in
    let both : (has_quote before || has_quote after) ≡ false =
    sym (list_any-append is_quote before after)
    ∙ or_right (has_quote head) (has_quote (before ++ after)) all in
    let first = or_left (has_quote head) (has_quote (before ++ after)) all in (
      list_any-append is_quote head before
          ∙ or_none (has_quote head) (has_quote before) first
          (or_left (has_quote before) (has_quote after) both),
      list_any-append is_quote head after
          ∙ or_none (has_quote head) (has_quote after) first
          (or_right (has_quote before) (has_quote after) both),
    )

-- ## The head

pub plain_bom : (text : List ℕ) → has_quote text ≡ false → has_quote (strip_bom text) ≡ false
unfolding strip_bom
plain_bom [] none = none
plain_bom (a ∷ []) none = none
plain_bom (a ∷ b ∷ []) none = none
plain_bom (a ∷ b ∷ c ∷ rest) none = by (is_bom a b c)
  where
    by : (found : Bool) → has_quote (if found then rest else a ∷ b ∷ c ∷ rest) ≡ false
    by true =
        or_right (is_quote c) (has_quote rest)
        (or_right (is_quote b) (has_quote (c ∷ rest))
        (or_right (is_quote a) (has_quote (b ∷ c ∷ rest)) none))
    by false = none

-- the records of a head and a body are the header and the records of the body
pub headed : (head body : List ℕ) (h : IsHead head) → has_quote (head ++ body) ≡ false
    → records_of (head ++ body) ≡ h.header ∷ plain_records body
unfolding records_of
headed head body h none =
    let text : head ++ body ≡ h.line ++ h.end ∷ body =
    ap (λ (t : List ℕ). t ++ body) h.whole ∙ append_assoc h.line (h.end ∷ []) body in
    let bare : strip_bom (head ++ body) ≡ strip_bom h.line ++ h.end ∷ body =
    ap strip_bom text ∙ h.bare body in
    plain_text (strip_bom (head ++ body)) (plain_bom (head ++ body) none)
    ∙ ap plain_records bare
    ∙ plain-cut (strip_bom h.line) h.end body h.ends
    ∙ ap (λ (rs : List Record). rs ++ plain_records body) h.one

-- ## A border

record Two (elements : Elements) (head before after : List ℕ) (traces : Traces) : Type 0 where
  front : Traces
  rest : Traces
  both : traces ≡ front ++ rest
  first : Spells elements (head ++ before) front
  second : Spells elements (head ++ after) rest

shorter : (head before after : List ℕ) (most : ℕ) → length (head ++ (before ++ after)) ≤ most
    → (length (head ++ before) ≤ most) × (length (head ++ after) ≤ most)
shorter head before after most short =
    let a = length-append head (before ++ after) in
    let b = length-append before after in
    let c = length-append head before in
    let d = length-append head after in
    (omega (arith, a, b, c, short), omega (arith, a, b, d, short))

two : (elements : Elements) (head before after : List ℕ) (traces : Traces) → IsHead head
    → has_quote (head ++ (before ++ after)) ≡ false → IsBorder before after
    → Spells elements (head ++ (before ++ after)) traces
    → Two elements head before after traces
unfolding SpelledBy
two elements head before after traces h none border spells =
    let columns = after_first h.header in
    let one = plain_records before in
    let other = plain_records after in
    let plain = quotes head before after none in
    let short = shorter head before after 1073741824 spells.short in
    let records : records_of (head ++ (before ++ after)) ≡ h.header ∷ (one ++ other) =
    headed head (before ++ after) h none ∙ ap (λ (rs : List Record). h.header ∷ rs) border.lines in
    let spelled : SpelledBy elements traces (h.header ∷ (one ++ other)) =
    subst (SpelledBy elements traces) records spells.spelled in
    let found = halves elements columns one other (instants traces) spelled.1 in
    let c = cut traces found.first found.second found.both
    (apart_instants elements columns one other found.first found.second found.front found.rest
    border.traces) in
    let lawful : IsRecording record { signature = elements; traces = c.front ++ c.rest } =
    subst (λ (ts : Traces). IsRecording record { signature = elements; traces = ts }) c.both
    spells.lawful in
    record {
      front = c.front;
      rest = c.rest;
      both = c.both;
      first = record {
        short = short.0;
        spelled = subst (SpelledBy elements c.front) (sym (headed head before h plain.0)) (
          spelled.0,
          subst (AllZip (SpellsInstant elements columns) one) (sym c.first_is) found.front,
        );
        lawful = lawful_front elements c.front c.rest lawful;
      };
      second = record {
        short = short.1;
        spelled = subst (SpelledBy elements c.rest) (sym (headed head after h plain.1)) (
          spelled.0,
          subst (AllZip (SpellsInstant elements columns) other) (sym c.second_is) found.rest,
        );
        lawful = lawful_rest elements c.front c.rest lawful;
      };
    }

-- ## Stretches

pub no_instants : (elements : Elements) (traces : Traces) → All (IsTrace elements) traces
    → instants traces ≡ [] → traces ≡ []
no_instants elements [] each none = refl
no_instants elements ((name, []) ∷ traces) each none =
    let started : 0 < length {A = Row} [] = (each 0 ([], []) (omega arith)).started in
    absurd (omega (arith, started))
no_instants elements ((name, row ∷ rows) ∷ traces) each none = cc none

pub none_spelled : (elements : Elements) (columns : Record) (found : List Instant)
    → AllZip (SpellsInstant elements columns) [] found → found ≡ []
none_spelled elements columns [] spelled = refl
none_spelled elements columns (i ∷ found) spelled = absurd spelled

head_alone : (elements : Elements) (head : List ℕ) (traces : Traces) → IsHead head
    → has_quote (head ++ []) ≡ false → Spells elements (head ++ []) traces → traces ≡ []
unfolding SpelledBy
head_alone elements head traces h none spells =
    let records : records_of (head ++ []) ≡ h.header ∷ [] =
    headed head [] h none ∙ ap (λ (rs : List Record). h.header ∷ rs) plain-none in
    let spelled : SpelledBy elements traces (h.header ∷ []) =
    subst (SpelledBy elements traces) records spells.spelled in
    no_instants elements traces spells.lawful.each
    (none_spelled elements (after_first h.header) (instants traces) spelled.1)

pub stretches_spell : (elements : Elements) (head : List ℕ) (stretches : List (List ℕ))
    (body : List ℕ) (traces : Traces) → IsHead head → has_quote (head ++ body) ≡ false
    → AreStretches body stretches → Spells elements (head ++ body) traces
    → AreSpelled elements head stretches traces
stretches_spell elements head [] body traces h none are spells = record {
  lists = [];
  each = tt;
  all = head_alone elements head traces h
      (subst (λ (b : List ℕ). has_quote (head ++ b) ≡ false) are none)
      (subst (λ (b : List ℕ). Spells elements (head ++ b) traces) are spells);
}
stretches_spell elements head (s ∷ more) body traces h none are spells =
    let rest = are.0 in
    let plain : has_quote (head ++ (s ++ rest)) ≡ false =
    subst (λ (b : List ℕ). has_quote (head ++ b) ≡ false) are.1 none in
    let t = two elements head s rest traces h plain are.2
    (subst (λ (b : List ℕ). Spells elements (head ++ b) traces) are.1 spells) in
    let others = stretches_spell elements head more rest t.rest h (quotes head s rest plain).1 are.3
    t.second in
    record {
      lists = t.front ∷ others.lists;
      each = (t.first, others.each);
      all = t.both ∙ ap (λ (ts : Traces). t.front ++ ts) others.all;
    }
