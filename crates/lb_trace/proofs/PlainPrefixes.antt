-- The records of a text without quotes that ends with the end of a line, whatever follows it.
use Rattle.std.proofs.Common.{ℕ, zero, suc, ◌≡◌, ◌+◌, ◌-◌, ◌<◌, Bool, true, false, ◌==◌, ◌||◌}
use Rattle.std.proofs.Common.{List, [], ◌∷◌, ◌++◌, length, get_or, Option, None}
use Rattle.std.proofs.Common.{Some, refl, sym, ap, ◌∙◌, arith, append_assoc, length-append, ⊎_elim}
use Rattle.std.proofs.lemmas.List.{append-nil}
use Rattle.csv.specs.declared.parser.State.{State}
use Rattle.csv.specs.declared.parser.State.TheVariants as st
use Rattle.csv.specs.declared.parser.Terminator.TheVariants as term
use Rattle.csv.specs.Machine.{Read, after_end, next_record}
use Rattle.csv.specs.Reading.{default_config, records, records_from, records_next}
use Rattle.lb_trace.specs.Chunks.{is_ended}
use Rattle.lb_trace.specs.Lines.{after_line, line_of, record_of}
use Rattle.lb_trace.specs.Plain.{ends_line, has_quote, plain_records, split_at}
use Rattle.lb_trace.proofs.Lines.{after-more, after-short, comma-inside, no-quote, no-quote-after}
use Rattle.lb_trace.proofs.Lines.{plain-line, plain-none, plain-skip}
use Rattle.lb_trace.proofs.PlainRecords.{field-comma, field-copy, field-end, fresh, inside}
use Rattle.lb_trace.proofs.PlainRecords.{next-cell}
use Rattle.lb_trace.proofs.PlainRecords.{next-copy, next-end, next-same, next-skip, put, put-front}
use Rattle.lb_trace.proofs.PlainRecords.{put-nil, state-fresh, state_after, step-fresh, step-inside}
use Rattle.lb_trace.proofs.PlainRecords.{step-skip}
use Rattle.lb_trace.proofs.Records.{none_left, takes_one}

-- a text is empty, or its last byte ends a line
abbrev Closed : List ℕ → Type 0
Closed [] = Unit {0}
Closed (c ∷ []) = ends_line c ≡ true
Closed (c ∷ d ∷ rest) = Closed (d ∷ rest)

closed : (text : List ℕ) → is_ended text ≡ true → Closed text
closed [] e = tt
closed (c ∷ []) e = e
closed (c ∷ d ∷ rest) e =
    let at : length (c ∷ d ∷ rest) - 1 ≡ suc (length (d ∷ rest) - 1) = omega arith in
    closed (d ∷ rest) (sym (ap (λ i. ends_line (get_or (c ∷ d ∷ rest) i 0)) at) ∙ e)

closed-rest : (c : ℕ) (rest : List ℕ) → Closed (c ∷ rest) → Closed rest
closed-rest c [] e = tt
closed-rest c (d ∷ rest) e = e

closed-after : (text : List ℕ) → Closed text → Closed (after_line text)
unfolding after_line
closed-after [] e = tt
closed-after (c ∷ rest) e =
    by (ends_line c) refl (closed-after rest (closed-rest c rest e))
  where
    by : (t : Bool) → ends_line c ≡ t → Closed (after_line rest) → Closed (after_line (c ∷ rest))
    by true is more = rw is (closed-rest c rest e)
    by false is more = rw is more

-- the end of a line is no comma
no-comma : (c : ℕ) → ends_line c ≡ true → (c == 44) ≡ false
no-comma c e = by (c == 44) refl
  where
    by : (t : Bool) → (c == 44) ≡ t → (c == 44) ≡ false
    by true is = cc (comma-inside c is, e)
    by false is = is

-- the result of a read from inside a line that ends, with `rest` behind the text
abbrev LineRead : List (List ℕ) → List ℕ → List ℕ → List ℕ → Option Read
LineRead fields field text rest =
    Some (fields ++ put field (record_of text), state_after text, after_line text ++ rest)

read-ended : (b : Bool) (fields : List (List ℕ)) (field : List ℕ) (c : ℕ) (text rest : List ℕ)
    → has_quote (c ∷ text) ≡ false → Closed (c ∷ text)
    → next_record default_config (inside b) fields field ((c ∷ text) ++ rest)
    ≡ LineRead fields field (c ∷ text) rest
unfolding inside line_of after_line split_at put state_after
read-ended b fields field c [] rest q e =
    next-end (inside b) (after_end term.CRLF c) fields field c rest
    (step-inside b c (no-quote c [] q).0 ∙ field-end c (no-comma c e) e)
    ∙ rw (e, append-nil field) refl
read-ended b fields field c (d ∷ text) rest q e =
    by (c == 44) refl (ends_line c) refl (no-quote c (d ∷ text) q).0
    (λ b2 fields2 field2. read-ended b2 fields2 field2 d text rest (no-quote c (d ∷ text) q).1 e)
  where
    by : (comma : Bool) → (c == 44) ≡ comma → (end : Bool) → ends_line c ≡ end → (c == 34) ≡ false
        → ((b2 : Bool) (fields2 : List (List ℕ)) (field2 : List ℕ)
        → next_record default_config (inside b2) fields2 field2 ((d ∷ text) ++ rest)
        ≡ LineRead fields2 field2 (d ∷ text) rest)
        → next_record default_config (inside b) fields field ((c ∷ d ∷ text) ++ rest)
        ≡ LineRead fields field (c ∷ d ∷ text) rest
    by true comma end is quote more =
        let go = next-cell (inside b) st.StartField fields field c ((d ∷ text) ++ rest)
        (step-inside b c quote ∙ field-comma c comma) in
        let within = comma-inside c comma in
        go ∙ more false (fields ++ field ∷ []) [] ∙ rw (within, comma, append-nil field)
        (ap (λ cells. Some (cells, state_after (d ∷ text), after_line (d ∷ text) ++ rest))
        (ap (λ cells. (fields ++ field ∷ []) ++ cells) (put-nil (line_of (d ∷ text)))
        ∙ append_assoc fields (field ∷ []) (record_of (d ∷ text))))
    by false comma true is quote more =
        let go = next-end (inside b) (after_end term.CRLF c) fields field c ((d ∷ text) ++ rest)
        (step-inside b c quote ∙ field-end c comma is) in
        go ∙ rw (is, append-nil field) refl
    by false comma false is quote more =
        let go = next-copy (inside b) st.InField fields field c ((d ∷ text) ++ rest)
        (step-inside b c quote ∙ field-copy c comma is) in
        go ∙ more true fields (field ++ c ∷ []) ∙ rw (is, comma)
        (ap (λ cells. Some (fields ++ cells, state_after (d ∷ text), after_line (d ∷ text) ++ rest))
        (put-front field c (record_of (d ∷ text))))

-- the next record is `record_of` of a text that begins with a byte that ends no line
record-ended : (b : Bool) (c : ℕ) (text rest : List ℕ) → has_quote (c ∷ text) ≡ false
    → Closed (c ∷ text) → ends_line c ≡ false
    → next_record default_config (fresh b) [] [] ((c ∷ text) ++ rest)
    ≡ Some (record_of (c ∷ text), state_after (c ∷ text), after_line (c ∷ text) ++ rest)
record-ended b c text rest q e h =
    let first = (no-quote c text q).0 in
    next-same (fresh b) (inside true) [] [] c (text ++ rest)
    (step-fresh b c first h ∙ sym (step-inside true c first))
    ∙ read-ended true [] [] c text rest q e
    ∙ ap (λ cells. Some (cells, state_after (c ∷ text), after_line (c ∷ text) ++ rest))
    (put-nil (line_of (c ∷ text)))

-- ## The number of records that are asked for

next-none : next_record default_config st.StartRecord [] [] [] ≡ None
unfolding next_record
next-none = refl

-- an empty text has no records, however many are asked for
end_left : (n : ℕ) (s : State) (xs : List ℕ) → s ≡ st.StartRecord → xs ≡ []
    → records_from default_config n s xs ≡ []
end_left n s xs start empty =
    none_left default_config n s xs
    (ap (λ t. next_record default_config t [] [] xs) start
    ∙ ap (next_record default_config st.StartRecord [] []) empty ∙ next-none)

-- a text has the same records for any two fuels above its length
same_fuel : (n m : ℕ) (s : State) (xs : List ℕ) → length xs < n → length xs < m
    → records_from default_config n s xs ≡ records_from default_config m s xs
unfolding records_from
same_fuel zero m s xs one two = absurd (omega arith)
same_fuel (suc n) zero s xs one two = absurd (omega arith)
same_fuel (suc n) (suc m) s xs one two =
    by (next_record default_config s [] [] xs) refl (λ s2 ys a b. same_fuel n m s2 ys a b)
  where
    by : (o : Option Read) → next_record default_config s [] [] xs ≡ o
        → ((s2 : State) (ys : List ℕ) → length ys < n → length ys < m
        → records_from default_config n s2 ys ≡ records_from default_config m s2 ys)
        → records_next (records_from default_config n) (next_record default_config s [] [] xs)
        ≡ records_next (records_from default_config m) (next_record default_config s [] [] xs)
    by None is less = rw is refl
    by (Some p) is less =
        rw is
        (ap (λ more. p.0 ∷ more)
        (⊎_elim
        (λ (h : length p.2 < length xs). less p.1 p.2 (omega arith) (omega arith))
        (λ (h : (p.1 ≡ st.StartRecord) × (p.2 ≡ [])).
        end_left n p.1 p.2 h.0 h.1 ∙ sym (end_left m p.1 p.2 h.0 h.1))
        (takes_one default_config s [] [] xs p is)))

-- ## The records of a text that goes on

or-true : (b : Bool) → (b || true) ≡ true
or-true true = refl
or-true false = refl

-- between two records, both states give the same next record
fresh-next : (b : Bool) (xs : List ℕ)
    → next_record default_config (fresh b) [] [] xs
    ≡ next_record default_config st.StartRecord [] [] xs
unfolding fresh next_record
fresh-next true xs = refl
fresh-next false [] = refl
fresh-next false (c ∷ rest) = by (c == 10) refl
  where
    by : (t : Bool) → (c == 10) ≡ t
        → next_record default_config st.AfterCr [] [] (c ∷ rest)
        ≡ next_record default_config st.StartRecord [] [] (c ∷ rest)
    by true is =
        let end : ends_line c ≡ true = ap (λ t. (c == 13) || t) is ∙ or-true (c == 13) in
        next-same st.AfterCr st.StartRecord [] [] c rest (rw (end, is) refl)
    by false is = next-same st.AfterCr st.StartRecord [] [] c rest (rw is refl)

fresh-records : (n : ℕ) (b : Bool) (xs : List ℕ)
    → records_from default_config n (fresh b) xs ≡ records_from default_config n st.StartRecord xs
unfolding records_from
fresh-records zero b xs = refl
fresh-records (suc n) b xs = ap (records_next (records_from default_config n)) (fresh-next b xs)

abbrev Below : ℕ → Type 0
Below n = (b : Bool) (text rest : List ℕ) → length text + length rest < n
    → has_quote text ≡ false → Closed text
    → records_from default_config n (fresh b) (text ++ rest)
    ≡ plain_records text ++ records default_config rest

front-more : (n : ℕ) → Below n → (b : Bool) (text rest : List ℕ)
    → length text + length rest < suc n → has_quote text ≡ false → Closed text
    → records_from default_config (suc n) (fresh b) (text ++ rest)
    ≡ plain_records text ++ records default_config rest
unfolding records_from fresh
front-more n below b [] rest short q e =
    fresh-records (suc n) b rest
    ∙ same_fuel (suc n) (length rest + 1) st.StartRecord rest (omega arith) (omega arith)
    ∙ ap (λ rs. rs ++ records default_config rest) (sym plain-none)
front-more n below b (c ∷ text) rest short q e =
    by (ends_line c) refl
    (front-more n below true text rest (omega arith) (no-quote c text q).1 (closed-rest c text e))
  where
    by : (end : Bool) → ends_line c ≡ end
        → records_from default_config (suc n) st.StartRecord (text ++ rest)
        ≡ plain_records text ++ records default_config rest
        → records_from default_config (suc n) (fresh b) ((c ∷ text) ++ rest)
        ≡ plain_records (c ∷ text) ++ records default_config rest
    by true end more =
        ap (records_next (records_from default_config n))
        (next-skip (fresh b) st.StartRecord [] [] c (text ++ rest) (step-skip b c end))
        ∙ more
        ∙ ap (λ rs. rs ++ records default_config rest) (sym (plain-skip c text end))
    by false end more =
        let after = state-fresh (c ∷ text) in
        let size = after-short text in
        let left : length (after_line (c ∷ text)) ≡ length (after_line text) =
        ap length (after-more c text end) in
        ap (records_next (records_from default_config n)) (record-ended b c text rest q e end)
        ∙ ap (λ s. record_of (c ∷ text)
        ∷ records_from default_config n s (after_line (c ∷ text) ++ rest)) after.1
        ∙ ap (λ others. record_of (c ∷ text) ∷ others)
        (below after.0 (after_line (c ∷ text)) rest (omega arith) (no-quote-after (c ∷ text) q)
        (closed-after (c ∷ text) e))
        ∙ ap (λ rs. rs ++ records default_config rest) (sym (plain-line c text end))

front-from : (n : ℕ) → Below n
front-from zero b text rest short q e = absurd (omega arith)
front-from (suc n) b text rest short q e = front-more n (front-from n) b text rest short q e

-- the records of `text ++ rest` are those of `text` and then those of `rest`, where `text` has no
-- quotes and ends with the end of a line
pub plain_front : (text rest : List ℕ) → has_quote text ≡ false → is_ended text ≡ true
    → records default_config (text ++ rest) ≡ plain_records text ++ records default_config rest
unfolding fresh
plain_front text rest q e =
    front-from (length (text ++ rest) + 1) true text rest
    (omega (arith, length-append text rest)) q (closed text e)
