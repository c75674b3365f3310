-- The records of a text without quotes are its lines, cut at commas.
use Rattle.std.proofs.Common.{ℕ, zero, suc, ◌≡◌, ◌+◌, ◌<◌, ◌≤◌, Bool, true, false, not}
use Rattle.std.proofs.Common.{if◌then◌else◌, ◌==◌, ◌||◌, List, [], ◌∷◌, ◌++◌, length, get_or, take}
use Rattle.std.proofs.Common.{drop, ◌-◌, IsTrue, Option, Some, refl, sym, ap, ◌∙◌, arith}
use Rattle.std.proofs.Common.{append_assoc}
use Rattle.std.proofs.lemmas.List.{append-nil, take_all, take_rest}
use Rattle.std.proofs.Common.{map}
use Rattle.std.specs.Borrow.{Bor}
use Rattle.std.specs.List.{All, list_any}
use Rattle.std.specs.Prelude.{MatchBool}
use Rattle.rayon.proofs.ToStd.{slice-All}
use Rattle.csv.specs.declared.parser.Action.TheVariants as act
use Rattle.csv.specs.declared.parser.State.{State}
use Rattle.csv.specs.declared.parser.State.TheVariants as st
use Rattle.csv.specs.declared.parser.Terminator.TheVariants as term
use Rattle.csv.specs.Machine.{Read, after_end, in_field, next_record, step}
use Rattle.csv.specs.Reading.{default_config, is_bom, records, records_from, records_next}
use Rattle.csv.specs.Reading.{strip_bom}
use Rattle.lb_trace.specs.Plain.{at_front, ends_line, has_quote, is_comma, plain_records, split_at}
use Rattle.lb_trace.specs.Lines.{after_line, line_of, record_of}
use Rattle.lb_trace.proofs.Lines.{comma-inside, after-more, after-short, no-quote, no-quote-after}
use Rattle.lb_trace.proofs.Lines.{plain-line, plain-none, plain-skip}

-- the states between two records; and below, the states within a line
unfoldable pub fresh : Bool → State
fresh true = st.StartRecord
fresh false = st.AfterCr

unfoldable pub inside : Bool → State
inside true = st.InField
inside false = st.StartField

-- the next record after one byte, by the action of its step
pub next-end : (s s2 : State) (fields : List (List ℕ)) (field : List ℕ) (c : ℕ) (rest : List ℕ)
    → step default_config s c ≡ (s2, act.EndRecord)
    → next_record default_config s fields field (c ∷ rest) ≡ Some (fields ++ field ∷ [], s2, rest)
unfolding next_record
next-end s s2 fields field c rest e = rw e refl

pub next-cell : (s s2 : State) (fields : List (List ℕ)) (field : List ℕ) (c : ℕ) (rest : List ℕ)
    → step default_config s c ≡ (s2, act.EndField)
    → next_record default_config s fields field (c ∷ rest)
    ≡ next_record default_config s2 (fields ++ field ∷ []) [] rest
unfolding next_record
next-cell s s2 fields field c rest e = rw e refl

pub next-copy : (s s2 : State) (fields : List (List ℕ)) (field : List ℕ) (c : ℕ) (rest : List ℕ)
    → step default_config s c ≡ (s2, act.Copy)
    → next_record default_config s fields field (c ∷ rest)
    ≡ next_record default_config s2 fields (field ++ c ∷ []) rest
unfolding next_record
next-copy s s2 fields field c rest e = rw e refl

pub next-skip : (s s2 : State) (fields : List (List ℕ)) (field : List ℕ) (c : ℕ) (rest : List ℕ)
    → step default_config s c ≡ (s2, act.Skip)
    → next_record default_config s fields field (c ∷ rest)
    ≡ next_record default_config s2 fields field rest
unfolding next_record
next-skip s s2 fields field c rest e = rw e refl

pub next-same : (s s2 : State) (fields : List (List ℕ)) (field : List ℕ) (c : ℕ) (rest : List ℕ)
    → step default_config s c ≡ step default_config s2 c
    → next_record default_config s fields field (c ∷ rest)
    ≡ next_record default_config s2 fields field (c ∷ rest)
unfolding next_record
next-same s s2 fields field c rest e = rw e refl

-- a byte that is no quote has the step of a field, in both states within a line
pub step-inside : (b : Bool) (c : ℕ) → (c == 34) ≡ false
    → step default_config (inside b) c ≡ in_field default_config c
unfolding inside
step-inside true c q = refl
step-inside false c q = rw q refl

pub field-comma : (c : ℕ) → (c == 44) ≡ true → in_field default_config c ≡ (st.StartField, act.EndField)
field-comma c e = rw e refl

pub field-end : (c : ℕ) → (c == 44) ≡ false → ends_line c ≡ true
    → in_field default_config c ≡ (after_end term.CRLF c, act.EndRecord)
field-end c e h = rw (e, h) refl

pub field-copy : (c : ℕ) → (c == 44) ≡ false → ends_line c ≡ false
    → in_field default_config c ≡ (st.InField, act.Copy)
field-copy c e h = rw (e, h) refl

pub step-skip : (b : Bool) (c : ℕ) → ends_line c ≡ true
    → step default_config (fresh b) c ≡ (st.StartRecord, act.Skip)
unfolding fresh
step-skip true c h = rw h refl
step-skip false c h = by (c == 10) refl
  where
    by : (e : Bool) → (c == 10) ≡ e → step default_config st.AfterCr c ≡ (st.StartRecord, act.Skip)
    by true e = rw e refl
    by false e = let first = rw e at h in rw (e, first) refl

or-second : (a b : Bool) → (a || b) ≡ false → b ≡ false
or-second true b h = cc h
or-second false b h = h

pub step-fresh : (b : Bool) (c : ℕ) → (c == 34) ≡ false → ends_line c ≡ false
    → step default_config (fresh b) c ≡ in_field default_config c
unfolding fresh
step-fresh true c q h = rw (h, q) refl
step-fresh false c q h =
    let e = or-second (c == 13) (c == 10) h in
    let first = rw e at h in rw (e, first, q) refl

-- cells, with the bytes `field` in front of the first one
unfoldable pub put : List ℕ → List (List ℕ) → List (List ℕ)
put field [] = field ∷ []
put field (cell ∷ more) = (field ++ cell) ∷ more

pub put-nil : (text : List ℕ) → put [] (split_at is_comma text) ≡ split_at is_comma text
unfolding put split_at
put-nil [] = refl
put-nil (c ∷ rest) = by (is_comma c) refl (split_at is_comma rest) refl
  where
    by : (e : Bool) → is_comma c ≡ e → (cells : List (List ℕ)) → split_at is_comma rest ≡ cells
        → put [] (split_at is_comma (c ∷ rest)) ≡ split_at is_comma (c ∷ rest)
    by true e cells is = rw e refl
    by false e [] is = rw (e, is) refl
    by false e (cell ∷ cells) is = rw (e, is) refl

pub put-front : (field : List ℕ) (c : ℕ) (cells : List (List ℕ))
    → put (field ++ c ∷ []) cells ≡ put field (at_front c cells)
unfolding put
put-front field c [] = refl
put-front field c (cell ∷ more) = ap (λ f. f ∷ more) (append_assoc field (c ∷ []) cell)

-- the state after a line
unfoldable pub state_after : List ℕ → State
state_after [] = st.StartRecord
state_after (c ∷ rest) = if ends_line c then after_end term.CRLF c else state_after rest

-- the result of a read from inside a line
abbrev LineRead : List (List ℕ) → List ℕ → List ℕ → Option Read
LineRead fields field text =
    Some (fields ++ put field (record_of text), state_after text, after_line text)

read-line : (b : Bool) (fields : List (List ℕ)) (field text : List ℕ) → has_quote text ≡ false
    → next_record default_config (inside b) fields field text ≡ LineRead fields field text
unfolding next_record inside line_of after_line split_at put state_after
read-line true fields field [] q = rw (append-nil field) refl
read-line false fields field [] q = rw (append-nil field) refl
read-line b fields field (c ∷ rest) q =
    by (c == 44) refl (ends_line c) refl (no-quote c rest q).0
    (λ b2 fields2 field2. read-line b2 fields2 field2 rest (no-quote c rest q).1)
  where
    by : (comma : Bool) → (c == 44) ≡ comma → (end : Bool) → ends_line c ≡ end → (c == 34) ≡ false
        → ((b2 : Bool) (fields2 : List (List ℕ)) (field2 : List ℕ)
        → next_record default_config (inside b2) fields2 field2 rest ≡ LineRead fields2 field2 rest)
        → next_record default_config (inside b) fields field (c ∷ rest)
        ≡ LineRead fields field (c ∷ rest)
    by true comma end is quote more =
        let go = next-cell (inside b) st.StartField fields field c rest
        (step-inside b c quote ∙ field-comma c comma) in
        let within = comma-inside c comma in
        go ∙ more false (fields ++ field ∷ []) [] ∙ rw (within, comma, append-nil field)
        (ap (λ cells. Some (cells, state_after rest, after_line rest))
        (ap (λ cells. (fields ++ field ∷ []) ++ cells) (put-nil (line_of rest))
        ∙ append_assoc fields (field ∷ []) (record_of rest)))
    by false comma true is quote more =
        let go = next-end (inside b) (after_end term.CRLF c) fields field c rest
        (step-inside b c quote ∙ field-end c comma is) in
        go ∙ rw (is, append-nil field) refl
    by false comma false is quote more =
        let go = next-copy (inside b) st.InField fields field c rest
        (step-inside b c quote ∙ field-copy c comma is) in
        go ∙ more true fields (field ++ c ∷ []) ∙ rw (is, comma)
        (ap (λ cells. Some (fields ++ cells, state_after rest, after_line rest))
        (put-front field c (record_of rest)))

-- the next record is `record_of` of a text that begins with a byte that ends no line
read-record : (b : Bool) (c : ℕ) (rest : List ℕ) → has_quote (c ∷ rest) ≡ false
    → ends_line c ≡ false
    → next_record default_config (fresh b) [] [] (c ∷ rest)
    ≡ Some (record_of (c ∷ rest), state_after (c ∷ rest), after_line (c ∷ rest))
read-record b c rest q h =
    let first = (no-quote c rest q).0 in
    next-same (fresh b) (inside true) [] [] c rest
    (step-fresh b c first h ∙ sym (step-inside true c first))
    ∙ read-line true [] [] (c ∷ rest) q
    ∙ ap (λ cells. Some (cells, state_after (c ∷ rest), after_line (c ∷ rest)))
    (put-nil (line_of (c ∷ rest)))

pub state-fresh : (text : List ℕ) → (b : Bool) × (state_after text ≡ fresh b)
unfolding state_after fresh
state-fresh [] = (true, refl)
state-fresh (c ∷ rest) = by (ends_line c) refl (c == 13) refl (state-fresh rest)
  where
    by : (end : Bool) → ends_line c ≡ end → (cr : Bool) → (c == 13) ≡ cr
        → ((b : Bool) × (state_after rest ≡ fresh b))
        → (b : Bool) × (state_after (c ∷ rest) ≡ fresh b)
    by true end true cr more = (false, rw (end, cr) refl)
    by true end false cr more = (true, rw (end, cr) refl)
    by false end cr is more = (more.0, rw end (more.1))

-- all texts below `n` bytes, without quotes, have the records `plain_records` with fuel `n`
abbrev Below : ℕ → Type 0
Below n = (b : Bool) (text : List ℕ) → length text < n → has_quote text ≡ false
    → records_from default_config n (fresh b) text ≡ plain_records text

plain-more : (n : ℕ) → Below n → (b : Bool) (text : List ℕ) → length text < suc n
    → has_quote text ≡ false
    → records_from default_config (suc n) (fresh b) text ≡ plain_records text
unfolding records_from next_record fresh
plain-more n below true [] short q = sym plain-none
plain-more n below false [] short q = sym plain-none
plain-more n below b (c ∷ rest) short q =
    by (ends_line c) refl (plain-more n below true rest (omega arith) (no-quote c rest q).1)
  where
    by : (end : Bool) → ends_line c ≡ end
        → records_from default_config (suc n) st.StartRecord rest ≡ plain_records rest
        → records_from default_config (suc n) (fresh b) (c ∷ rest) ≡ plain_records (c ∷ rest)
    by true end more =
        ap (records_next (records_from default_config n))
        (next-skip (fresh b) st.StartRecord [] [] c rest (step-skip b c end))
        ∙ more
        ∙ sym (plain-skip c rest end)
    by false end more =
        let after = state-fresh (c ∷ rest) in
        let size = after-short rest in
        let left : length (after_line (c ∷ rest)) ≡ length (after_line rest) =
        ap length (after-more c rest end) in
        ap (records_next (records_from default_config n)) (read-record b c rest q end)
        ∙ ap (λ s. record_of (c ∷ rest) ∷ records_from default_config n s (after_line (c ∷ rest)))
        after.1
        ∙ ap (λ others. record_of (c ∷ rest) ∷ others)
        (below after.0 (after_line (c ∷ rest)) (omega arith) (no-quote-after (c ∷ rest) q))
        ∙ sym (plain-line c rest end)

plain-from : (n : ℕ) → Below n
plain-from zero b text short q = absurd (omega arith)
plain-from (suc n) b text short q = plain-more n (plain-from n) b text short q

-- the records of csv are `plain_records` for a text without quotes
pub plain_text : (text : List ℕ) → has_quote text ≡ false
    → records default_config text ≡ plain_records text
unfolding fresh
plain_text text q = plain-from (length text + 1) true text (omega arith) q

-- `plain_text` for a text whose test finds no quote
pub plain_tested : (found : Bool) (text : List ℕ) (i : ℕ) → found ≡ has_quote (take i text)
    → length text ≤ i → IsTrue (not found)
    → records default_config text ≡ plain_records text
plain_tested true text i e l t = cc t
plain_tested false text i e l t = plain_text text (ap has_quote (sym (take_all i text l)) ∙ sym e)

not_true : (b : Bool) → true ≡ not b → b ≡ false
not_true true e = cc e
not_true false e = refl

none_quoted : (parts : List (Bor (List ℕ)))
    → All (λ (part : Bor (List ℕ)). true ≡ not (has_quote part.now)) parts
    → list_any (λ part. has_quote part.now) parts ≡ false
none_quoted [] each = refl
none_quoted (part ∷ more) each =
    rw (not_true (has_quote part.now) (each 0 part (omega arith)))
    (none_quoted more (λ k d below. each (suc k) d (omega (arith, below))))

-- no part has a quote where the test of each part finds none
pub plain_parts : (Q : Type 0) (b : Bool) (seen : List (Bor (Bor (List ℕ))))
    (parts : List (Bor (List ℕ))) → map (λ one. one.now) seen ≡ parts
    → MatchBool b (All (λ (one : Bor (Bor (List ℕ))). true ≡ not (has_quote one.now.now)) seen) Q
    → IsTrue b → list_any (λ part. has_quote part.now) parts ≡ false
plain_parts Q true seen parts shown each holds =
    none_quoted parts
    (slice-All seen parts shown (λ (part : Bor (List ℕ)). true ≡ not (has_quote part.now)) each)
plain_parts Q false seen parts shown each holds = cc holds

-- a text of less than three bytes has no byte order mark
pub bom-none : (text : List ℕ) → length text < 3 → text ≡ strip_bom text
unfolding strip_bom
bom-none [] h = refl
bom-none (a ∷ []) h = refl
bom-none (a ∷ b ∷ []) h = refl
bom-none (a ∷ b ∷ c ∷ rest) h = absurd (omega arith)

pub bom-rest : (text : List ℕ) → 3 ≤ length text
    → is_bom (get_or text 0 0) (get_or text 1 0) (get_or text 2 0) ≡ true
    → take (length text - 3) (drop 3 text) ≡ strip_bom text
unfolding strip_bom
bom-rest [] h e = absurd (omega arith)
bom-rest (a ∷ []) h e = absurd (omega arith)
bom-rest (a ∷ b ∷ []) h e = absurd (omega arith)
bom-rest (a ∷ b ∷ c ∷ rest) h e = take_rest (a ∷ b ∷ c ∷ rest) 3 ∙ rw e refl

pub bom-other : (text : List ℕ) → 3 ≤ length text
    → is_bom (get_or text 0 0) (get_or text 1 0) (get_or text 2 0) ≡ false → text ≡ strip_bom text
unfolding strip_bom
bom-other [] h e = absurd (omega arith)
bom-other (a ∷ []) h e = absurd (omega arith)
bom-other (a ∷ b ∷ []) h e = absurd (omega arith)
bom-other (a ∷ b ∷ c ∷ rest) h e = rw e refl
