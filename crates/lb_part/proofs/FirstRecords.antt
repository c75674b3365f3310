-- The end of the first record of a text.
use Rattle.std.proofs.Common.{◌≡◌, ◌∙◌, ℕ, suc, ◌+◌, ◌-◌, ◌<◌, ◌≤◌, Bool, true, false, not, ◌&&◌}
use Rattle.std.proofs.Common.{if◌then◌else◌, List, [], ◌∷◌, ◌++◌, length, Option, None, Some}
use Rattle.std.proofs.Common.{refl, sym, ap, arith, drop, get_or, take}
use Rattle.std.specs.Prelude.{option_map, unwrap_or}
use Rattle.std.proofs.lemmas.List.{append-nil, at_drop_all, at_drop_more, length-append, take_rest}
use Rattle.csv.specs.Reading.{is_bom, strip_bom}
use Rattle.lb_part.specs.Cuts.{ends_line}
use Rattle.lb_part.specs.Heads.{head_of, record_end}

-- ## A loop

moved : (i : ℕ) (found : Option ℕ)
    → option_map (λ n. i + n) (option_map (λ n. suc n) found) ≡ option_map (λ n. (i + 1) + n) found
moved i None = refl
moved i (Some n) = let e : i + suc n ≡ (i + 1) + n = omega arith in ap (λ m. Some m) e

pub end-start : (text : List ℕ)
    → record_end false text ≡ option_map (λ n. 0 + n) (record_end false text)
end-start text = by (record_end false text)
  where
    by : (found : Option ℕ) → found ≡ option_map (λ n. 0 + n) found
    by None = refl
    by (Some n) = let e : n ≡ 0 + n = omega arith in ap (λ m. Some m) e

-- the first record ends behind a byte that does not end it
pub end-more : (text : List ℕ) (i b : ℕ) (begun ends : Bool) → i < length text
    → b ≡ get_or text i 0 → ends ≡ ends_line b → (ends && begun) ≡ false
    → record_end false text ≡ option_map (λ n. i + n) (record_end begun (drop i text))
    → record_end false text
    ≡ option_map (λ n. (i + 1) + n) (record_end (not ends) (drop (i + 1) text))
unfolding record_end
end-more text i b begun ends below is tells inner so_far =
    so_far
    ∙ ap (option_map (λ n. i + n))
    (at_drop_more (record_end begun) text i 0 below
    ∙ ap (λ (c : ℕ). record_end begun (c ∷ drop (i + 1) text)) (sym is)
    ∙ step)
    ∙ moved i (record_end (not ends) (drop (i + 1) text))
  where
    step : record_end begun (b ∷ drop (i + 1) text)
        ≡ option_map (λ n. suc n) (record_end (not ends) (drop (i + 1) text))
    step =
        let e : (ends_line b && begun) ≡ false = ap (λ t. t && begun) (sym tells) ∙ inner in
        rw e
        (ap (λ t. option_map (λ n. suc n) (record_end (not t) (drop (i + 1) text))) (sym tells))

-- the first record ends with a byte that ends it
pub end-found : (text : List ℕ) (i b : ℕ) (begun ends : Bool) → i < length text
    → b ≡ get_or text i 0 → ends ≡ ends_line b → (ends && begun) ≡ true
    → record_end false text ≡ option_map (λ n. i + n) (record_end begun (drop i text))
    → record_end false text ≡ Some (i + 1)
unfolding record_end
end-found text i b begun ends below is tells last so_far =
    so_far
    ∙ ap (option_map (λ n. i + n))
    (at_drop_more (record_end begun) text i 0 below
    ∙ ap (λ (c : ℕ). record_end begun (c ∷ drop (i + 1) text)) (sym is)
    ∙ step)
  where
    step : record_end begun (b ∷ drop (i + 1) text) ≡ Some 1
    step =
        let e : (ends_line b && begun) ≡ true = ap (λ t. t && begun) (sym tells) ∙ last in
        rw e refl

pub end-none : (text : List ℕ) (i : ℕ) (begun : Bool) → length text ≤ i
    → record_end false text ≡ option_map (λ n. i + n) (record_end begun (drop i text))
    → record_end false text ≡ None
unfolding record_end
end-none text i begun past so_far =
    so_far ∙ ap (option_map (λ n. i + n)) (at_drop_all (record_end begun) text i past)

-- ## More bytes

pub inner_end : (found : Option ℕ) (n : ℕ) → option_map (λ m. suc m) found ≡ Some n
    → (m : ℕ) × (found ≡ Some m) × (suc m ≡ n)
inner_end None n e = cc e
inner_end (Some m) n e = (m, refl, cc e)

pub end-append : (begun : Bool) (text more : List ℕ) (n : ℕ) → record_end begun text ≡ Some n
    → record_end begun (text ++ more) ≡ Some n
unfolding record_end
end-append begun [] more n is = cc is
end-append begun (b ∷ rest) more n is =
    by (ends_line b && begun) refl
    (λ m e. end-append (not (ends_line b)) rest more m e)
  where
    by : (t : Bool) → (ends_line b && begun) ≡ t
        → ((m : ℕ) → record_end (not (ends_line b)) rest ≡ Some m
        → record_end (not (ends_line b)) (rest ++ more) ≡ Some m)
        → record_end begun (b ∷ (rest ++ more)) ≡ Some n
    by true e others =
        let f : Some 1 ≡ Some n = rw e at is in
        rw e f
    by false e others =
        let f : option_map (λ m. suc m) (record_end (not (ends_line b)) rest) ≡ Some n =
        rw e at is in
        let found = inner_end (record_end (not (ends_line b)) rest) n f in
        rw e
        (ap (option_map (λ m. suc m)) (others found.0 found.1) ∙ ap (λ m. Some m) found.2)

mark-append : (text more : List ℕ) → 2 < length text
    → strip_bom (text ++ more) ≡ strip_bom text ++ more
unfolding strip_bom
mark-append [] more long = absurd (omega (arith, long))
mark-append (a ∷ []) more long = absurd (omega (arith, long))
mark-append (a ∷ b ∷ []) more long = absurd (omega (arith, long))
mark-append (a ∷ b ∷ c ∷ rest) more long = by (is_bom a b c)
  where
    by : (found : Bool) → (if found then rest ++ more else a ∷ b ∷ c ∷ (rest ++ more))
        ≡ (if found then rest else a ∷ b ∷ c ∷ rest) ++ more
    by true = refl
    by false = refl

pub mark-short : (text : List ℕ) → length (strip_bom text) ≤ length text
unfolding strip_bom
mark-short [] = omega arith
mark-short (a ∷ []) = omega arith
mark-short (a ∷ b ∷ []) = omega arith
mark-short (a ∷ b ∷ c ∷ rest) = by (is_bom a b c)
  where
    by : (found : Bool) → length (if found then rest else a ∷ b ∷ c ∷ rest)
        ≤ length (a ∷ b ∷ c ∷ rest)
    by true = omega arith
    by false = omega arith

pub no-mark : (text : List ℕ) → length text < 3 → text ≡ strip_bom text
unfolding strip_bom
no-mark [] short = refl
no-mark (a ∷ []) short = refl
no-mark (a ∷ b ∷ []) short = refl
no-mark (a ∷ b ∷ c ∷ rest) short = absurd (omega (arith, short))

-- a text without its byte order mark, where the first three bytes are a mark or are not
pub mark-gone : (text : List ℕ) → 3 ≤ length text
    → is_bom (get_or text 0 0) (get_or text 1 0) (get_or text 2 0) ≡ true
    → take (length text - 3) (drop 3 text) ≡ strip_bom text
unfolding strip_bom
mark-gone [] long mark = absurd (omega (arith, long))
mark-gone (a ∷ []) long mark = absurd (omega (arith, long))
mark-gone (a ∷ b ∷ []) long mark = absurd (omega (arith, long))
mark-gone (a ∷ b ∷ c ∷ rest) long mark =
    let e : is_bom a b c ≡ true = mark in
    take_rest (a ∷ b ∷ c ∷ rest) 3 ∙ rw e refl

pub mark-kept : (text : List ℕ) → 3 ≤ length text
    → is_bom (get_or text 0 0) (get_or text 1 0) (get_or text 2 0) ≡ false
    → text ≡ strip_bom text
unfolding strip_bom
mark-kept [] long mark = absurd (omega (arith, long))
mark-kept (a ∷ []) long mark = absurd (omega (arith, long))
mark-kept (a ∷ b ∷ []) long mark = absurd (omega (arith, long))
mark-kept (a ∷ b ∷ c ∷ rest) long mark =
    let e : is_bom a b c ≡ false = mark in rw e refl

mark-more : (text more : List ℕ) (is_last : Bool) → (is_last ≡ false → 2 < length text)
    → (is_last ≡ true → more ≡ []) → strip_bom (text ++ more) ≡ strip_bom text ++ more
mark-more text more true long last =
    ap (λ (back : List ℕ). strip_bom (text ++ back)) (last refl)
    ∙ ap strip_bom (append-nil text) ∙ sym (append-nil (strip_bom text))
    ∙ ap (λ (back : List ℕ). strip_bom text ++ back) (sym (last refl))
mark-more text more false long last = mark-append text more (long refl)

-- the head of a text ends where the first record of its first bytes ends
pub head-found : (text more : List ℕ) (is_last : Bool) (n : ℕ)
    → (is_last ≡ false → 2 < length text) → (is_last ≡ true → more ≡ [])
    → record_end false (strip_bom text) ≡ Some n
    → head_of (text ++ more) ≡ (length text - length (strip_bom text)) + n
head-found text more is_last n long last is =
    let stripped = mark-more text more is_last long last in
    let found : record_end false (strip_bom (text ++ more)) ≡ Some n =
    ap (record_end false) stripped ∙ end-append false (strip_bom text) more n is in
    let one : head_of (text ++ more)
    ≡ (length (text ++ more) - length (strip_bom (text ++ more))) + n =
    ap (λ end. (length (text ++ more) - length (strip_bom (text ++ more)))
    + unwrap_or end (length (strip_bom (text ++ more)))) found in
    let short = mark-short text in
    let all = length-append text more in
    let bare = ap length stripped ∙ length-append (strip_bom text) more in
    one ∙ omega (arith, all, bare, short)
