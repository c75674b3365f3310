-- The records and the quotes of a text that is cut at the ends of lines.
use Rattle.std.proofs.Common.{ℕ, ◌≡◌, ◌+◌, ◌-◌, ◌<◌, ◌||◌, Bool, true, false, List, [], ◌∷◌, ◌++◌}
use Rattle.std.proofs.Common.{length, get_or, map, take, drop, refl, sym, ap, ◌∙◌, arith}
use Rattle.std.proofs.Common.{append_assoc}
use Rattle.std.specs.Prelude.{flat_map}
use Rattle.std.specs.Borrow.{Bor}
use Rattle.std.specs.List.{filter, list_any}
use Rattle.std.proofs.lemmas.Bool.Decides.{nat_tests}
use Rattle.std.proofs.lemmas.List.Folds.{list_any-append}
use Rattle.std.proofs.lemmas.List.{append-nil, drop_all, drop_more, map-append, take-append-drop}
use Rattle.std.proofs.lemmas.List.{take_rest}
use Rattle.std.proofs.lemmas.List.Elements.{filter-append}
use Rattle.std.proofs.lemmas.Grind.{flat_map-append}
use Rattle.lb_trace.specs.Plain.{at_front, ends_line, has_quote, is_comma, is_filled, is_quote}
use Rattle.lb_trace.specs.Plain.{plain_records, split_at}
use Rattle.lb_trace.proofs.Lines.{plain-none}

front-append : (x : ℕ) (parts more : List (List ℕ)) → 0 < length parts
    → at_front x (parts ++ more) ≡ at_front x parts ++ more
front-append x [] more some = absurd (omega (arith, some))
front-append x (part ∷ parts) more some = refl

front-some : (x : ℕ) (parts : List (List ℕ)) → 0 < length (at_front x parts)
front-some x [] = omega arith
front-some x (part ∷ parts) = omega arith

split-some : (picks : ℕ → Bool) (text : List ℕ) → 0 < length (split_at picks text)
unfolding split_at
split-some picks [] = omega arith
split-some picks (b ∷ rest) = by (picks b) refl
  where
    by : (t : Bool) → picks b ≡ t → 0 < length (split_at picks (b ∷ rest))
    by true e = rw e (omega arith)
    by false e = rw e (front-some b (split_at picks rest))

-- `split_at` of a text around a picked byte is `split_at` of both sides
split-append : (picks : ℕ → Bool) (before : List ℕ) (c : ℕ) (after : List ℕ) → picks c ≡ true
    → split_at picks (before ++ c ∷ after) ≡ split_at picks before ++ split_at picks after
unfolding split_at
split-append picks [] c after e = rw e refl
split-append picks (b ∷ before) c after e = by (picks b) refl (split-append picks before c after e)
  where
    by : (t : Bool) → picks b ≡ t
        → split_at picks (before ++ c ∷ after) ≡ split_at picks before ++ split_at picks after
        → split_at picks (b ∷ (before ++ c ∷ after))
        ≡ split_at picks (b ∷ before) ++ split_at picks after
    by true t more = rw t (ap (λ parts. [] ∷ parts) more)
    by false t more =
        rw t (ap (at_front b) more
        ∙ front-append _ _ _ (split-some picks before))

-- the records of a text around the end of a line are those of both sides
pub plain-cut : (before : List ℕ) (c : ℕ) (after : List ℕ) → ends_line c ≡ true
    → plain_records (before ++ c ∷ after) ≡ plain_records before ++ plain_records after
unfolding plain_records
plain-cut before c after e =
    ap (λ lines. map (split_at is_comma) (filter is_filled lines))
    (split-append _ _ _ _ e) ∙ ap (map (split_at is_comma))
    (filter-append is_filled (split_at ends_line before) (split_at ends_line after))
    ∙ map-append (split_at is_comma) (filter is_filled (split_at ends_line before))
    (filter is_filled (split_at ends_line after))

or-none : (a : Bool) → (a || false) ≡ a
or-none true = refl
or-none false = refl

or-assoc : (a b c : Bool) → ((a || b) || c) ≡ (a || (b || c))
or-assoc true b c = refl
or-assoc false b c = refl

end-no-quote : (b : ℕ) → ends_line b ≡ true → is_quote b ≡ false
end-no-quote b e = grind (arith, nat_tests)

-- a text around the end of a line has a quote where one of the two sides has one
quote-cut : (before : List ℕ) (c : ℕ) (after : List ℕ) → ends_line c ≡ true
    → has_quote (before ++ c ∷ after) ≡ (has_quote before || has_quote after)
quote-cut before c after e =
    list_any-append is_quote before (c ∷ after)
    ∙ ap (λ q. has_quote before || (q || has_quote after)) (end-no-quote c e)

-- `plain-cut` for the slices before and after place `i`
pub cut-found : (text : List ℕ) (i b : ℕ) → i < length text → b ≡ get_or text i 0
    → ends_line b ≡ true
    → plain_records text
    ≡ plain_records (take i text)
    ++ plain_records (take (length text - (i + 1)) (drop (i + 1) text))
cut-found text i b below is end =
    ap plain_records (sym (take-append-drop i text))
    ∙ ap (λ rest. plain_records (take i text ++ rest))
    (drop_more text i 0 below ∙ ap (λ x. x ∷ drop (i + 1) text) (sym is))
    ∙ plain-cut _ _ _ end
    ∙ ap (λ rest. plain_records (take i text) ++ plain_records rest) (sym (take_rest text (i + 1)))

-- nothing is left behind the whole text
pub cut-none : (text : List ℕ)
    → plain_records text
    ≡ plain_records text
    ++ plain_records (take (length text - length text) (drop (length text) text))
cut-none text =
    sym (ap (λ rest. plain_records text ++ plain_records rest)
    (take_rest text (length text) ∙ drop_all (length text) text (omega arith))
    ∙ ap (λ rest. plain_records text ++ rest) plain-none
    ∙ append-nil (plain_records text))

pub quote-found : (text : List ℕ) (i b : ℕ) → i < length text → b ≡ get_or text i 0
    → ends_line b ≡ true
    → has_quote text
    ≡ (has_quote (take i text)
    || has_quote (take (length text - (i + 1)) (drop (i + 1) text)))
quote-found text i b below is end =
    ap has_quote (sym (take-append-drop i text))
    ∙ ap (λ rest. has_quote (take i text ++ rest))
    (drop_more text i 0 below ∙ ap (λ x. x ∷ drop (i + 1) text) (sym is))
    ∙ quote-cut (take i text) b (drop (i + 1) text) end
    ∙ ap (λ rest. has_quote (take i text) || has_quote rest) (sym (take_rest text (i + 1)))

pub quote-none : (text : List ℕ)
    → has_quote text
    ≡ (has_quote text || has_quote (take (length text - length text) (drop (length text) text)))
quote-none text =
    sym (ap (λ rest. has_quote text || has_quote rest)
    (take_rest text (length text) ∙ drop_all (length text) text (omega arith))
    ∙ or-none (has_quote text))

records_in : Bor (List ℕ) → List (List (List ℕ))
records_in part = plain_records part.now

-- the records of some parts and of the rest are those of one more part and of the rest behind it
pub parts-more : (parts : List (Bor (List ℕ))) (text rest : List ℕ) (part : Bor (List ℕ))
    (after : List ℕ)
    → plain_records text ≡ flat_map (λ p. plain_records p.now) parts ++ plain_records rest
    → plain_records rest ≡ plain_records part.now ++ plain_records after
    → plain_records text
    ≡ flat_map (λ p. plain_records p.now) (parts ++ part ∷ []) ++ plain_records after
unfolding plain_records records_in
parts-more parts text rest part after so_far cut =
    so_far ∙ ap (λ rs. flat_map records_in parts ++ rs) cut
    ∙ sym (append_assoc (flat_map records_in parts) (plain_records part.now) (plain_records after))
    ∙ ap (λ rs. (flat_map records_in parts ++ rs) ++ plain_records after)
    (sym (append-nil (plain_records part.now)))
    ∙ ap (λ rs. rs ++ plain_records after) (sym (flat_map-append records_in parts (part ∷ [])))

-- the records of some parts and of the last part are those of all parts
pub parts-all : (parts : List (Bor (List ℕ))) (text : List ℕ) (part : Bor (List ℕ))
    → plain_records text ≡ flat_map (λ p. plain_records p.now) parts ++ plain_records part.now
    → plain_records text ≡ flat_map (λ p. plain_records p.now) (parts ++ part ∷ [])
unfolding records_in
parts-all parts text part so_far =
    so_far
    ∙ ap (λ rs. flat_map records_in parts ++ rs) (sym (append-nil (plain_records part.now)))
    ∙ sym (flat_map-append records_in parts (part ∷ []))

quote_in : Bor (List ℕ) → Bool
quote_in part = has_quote part.now

-- a quote in some parts or the rest is one in one more part or the rest behind it
pub quotes-more : (parts : List (Bor (List ℕ))) (text rest : List ℕ) (part : Bor (List ℕ))
    (after : List ℕ)
    → has_quote text ≡ (list_any (λ p. has_quote p.now) parts || has_quote rest)
    → has_quote rest ≡ (has_quote part.now || has_quote after)
    → has_quote text
    ≡ (list_any (λ p. has_quote p.now) (parts ++ part ∷ []) || has_quote after)
unfolding quote_in
quotes-more parts text rest part after so_far cut =
    so_far ∙ ap (λ q. list_any quote_in parts || q) cut
    ∙ sym (or-assoc (list_any quote_in parts) (has_quote part.now) (has_quote after))
    ∙ ap (λ q. (list_any quote_in parts || q) || has_quote after)
    (sym (or-none (has_quote part.now)))
    ∙ ap (λ q. q || has_quote after) (sym (list_any-append quote_in parts (part ∷ [])))

pub quotes-all : (parts : List (Bor (List ℕ))) (text : List ℕ) (part : Bor (List ℕ))
    → has_quote text ≡ (list_any (λ p. has_quote p.now) parts || has_quote part.now)
    → has_quote text ≡ list_any (λ p. has_quote p.now) (parts ++ part ∷ [])
unfolding quote_in
quotes-all parts text part so_far =
    so_far
    ∙ ap (λ q. list_any quote_in parts || q) (sym (or-none (has_quote part.now)))
    ∙ sym (list_any-append quote_in parts (part ∷ []))
