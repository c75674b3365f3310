-- The text of a report determines what it lists.
use Rattle.std.proofs.Common.{◌≡◌, ◌≢◌, ℕ, ◌^◌, ◌<◌, List, [], ◌∷◌, ◌++◌, length, get_or}
use Rattle.std.proofs.Common.{refl, sym, ap, ◌∙◌, subst, arith, append_assoc, append-nil, cond}
use Rattle.std.proofs.Common.{true}
use Rattle.std.proofs.Common.{Some, None, Option, suc, zero, false, Bool, length-append}
use Rattle.std.specs.Option.{is_some, option_or}
use Rattle.std.proofs.lemmas.Bool.{false_from_ne_true}
use Rattle.std.specs.Prelude.{IsSome}
use Rattle.std.specs.List.{All, AllPairs, Contains}
use Rattle.std.specs.Str.{bytes_eq}
use Rattle.std.proofs.lemmas.List.{get_or_append_left, length-map, map-append}
use Rattle.std.proofs.lemmas.List.Elements.{All-head, All-tail}
use Rattle.std.proofs.lemmas.List.Quantifiers.{all_pairs_push}
use Rattle.std.proofs.lemmas.Slice.Eq.{bytes_eq-Decides}
use Rattle.std.proofs.Math.Seq.{get_or-append_seam}
use Rattle.lb_check.specs.declared.verdict.Verdict.{Verdict}
use Rattle.lb_output.specs.Reports.{total}
use Rattle.lb_listing.specs.Listings.{IsLine, IsListing, Line, Lists, lines_of, names_of, spelled}
use Rattle.lb_listing.specs.Listings.{total_of, verdict_in, verdicts_of, report}
use Rattle.lb_listing.proofs.Lines.{line_not_total, line_only}

-- the lines that a report begins with are the first that it lists
pub first_lines : (before listed : List Line) (verdicts : List Verdict) (rest : List ℕ)
    → All IsLine before → All IsLine listed → length verdicts < 2 ^ 64
    → lines_of before ++ rest ≡ lines_of listed ++ total verdicts
    → (more : List Line) × (listed ≡ before ++ more) × (rest ≡ lines_of more ++ total verdicts)
first_lines [] listed verdicts rest lawful all small e = (listed, refl, e)
first_lines (l ∷ before) [] verdicts rest lawful all small e =
    absurd (line_not_total l verdicts (lines_of before ++ rest) [] (All-head IsLine l before lawful)
    small (sym (append_assoc (spelled l) (lines_of before) rest) ∙ e ∙ sym (append-nil (total
    verdicts))))
first_lines (l ∷ before) (m ∷ listed) verdicts rest lawful all small e =
    let same : (l ≡ m) × (lines_of before ++ rest ≡ lines_of listed ++ total verdicts) =
    line_only l m (lines_of before ++ rest) (lines_of listed ++ total verdicts)
    (All-head IsLine l before lawful) (All-head IsLine m listed all)
    (sym (append_assoc (spelled l) (lines_of before) rest) ∙ e
    ∙ append_assoc (spelled m) (lines_of listed) (total verdicts)) in
    let found = first_lines before listed verdicts rest (All-tail IsLine l before lawful)
    (All-tail IsLine m listed all) small same.1 in
    (found.0, ap (λ (x : Line). x ∷ listed) (sym same.0) ∙ ap (λ xs. l ∷ xs) found.1, found.2)

pub length_verdicts : (listed : List Line) → length (verdicts_of listed) ≡ length listed
length_verdicts listed = length-map listed (λ (l : Line). l.1)

-- the list of a text begins with the lines that the text begins with
pub begins_with : (text rest : List ℕ) (before other : List Line) → All IsLine before
    → text ≡ lines_of before ++ rest → Lists text other
    → (more : List Line) × (other ≡ before ++ more) × (rest ≡ lines_of more ++ total_of other)
begins_with text rest before other lawful reads lists =
    first_lines before other (verdicts_of other) rest lawful lists.lawful.each
    (let same = length_verdicts other in
    let few : length other < 2 ^ 64 = lists.lawful.count in omega (arith, same))
    (sym reads ∙ lists.spelled)

pub small_total : (listed : List Line) → IsListing listed → length (verdicts_of listed) < 2 ^ 64
small_total listed lawful =
    let same = length_verdicts listed in
    let few : length listed < 2 ^ 64 = lawful.count in omega (arith, same)

pub no_more_lines : (before more other : List Line) → length before < 2 ^ 64 → All IsLine more
    → other ≡ before ++ more → total_of before ≡ lines_of more ++ total_of other → other ≡ before
no_more_lines before [] other few each is e = is ∙ append-nil before
no_more_lines before (m ∷ more) other few each is e =
    let same = length_verdicts before in
    absurd (line_not_total m (verdicts_of before) (lines_of more ++ total_of other) []
    (All-head IsLine m more each) (omega (arith, same))
    (sym (append_assoc (spelled m) (lines_of more) (total_of other)) ∙ sym e
    ∙ sym (append-nil (total_of before))))

pub All-later : {A : Type 0} (P : A → Type 0) (xs ys all : List A) → all ≡ xs ++ ys → All P all →
    All P ys
All-later P [] ys all e h = subst (λ zs. All P zs) e h
All-later P (x ∷ xs) ys [] e h = let no : x ∷ (xs ++ ys) ≡ [] = sym e in cc
All-later P (x ∷ xs) ys (z ∷ all) e h =
    let tails : all ≡ xs ++ ys = cc in All-later P xs ys all tails (All-tail P z all h)

-- a text that is the report on some lines lists those lines and no others
pub all_lines : (text : List ℕ) (before other : List Line) → IsListing before
    → text ≡ report before → Lists text other → other ≡ before
all_lines text before other lawful reads lists =
    let found = begins_with text (total_of before) before other lawful.each reads lists in
    no_more_lines before found.0 other lawful.count
    (All-later IsLine before found.0 other found.1 lists.lawful.each) found.1 found.2

-- the text of lines and one more line
pub lines-push : (listed : List Line) (l : Line) → lines_of (listed ++ l ∷ []) ≡ lines_of listed ++
    spelled l
lines-push [] l = append-nil (spelled l)
lines-push (m ∷ listed) l =
    ap (λ text. spelled m ++ text) (lines-push listed l)
    ∙ sym (append_assoc (spelled m) (lines_of listed) (spelled l))

pub reads_more : (text old new : List ℕ) (listed : List Line) (l : Line)
    → text ≡ lines_of listed ++ old → old ≡ spelled l ++ new
    → text ≡ lines_of (listed ++ l ∷ []) ++ new
reads_more text old new listed l reads cut =
    reads ∙ ap (λ rest. lines_of listed ++ rest) cut
    ∙ sym (append_assoc (lines_of listed) (spelled l) new)
    ∙ ap (λ front. front ++ new) (sym (lines-push listed l))

-- ## Names

listed_here : (name : List ℕ) (l : Line) (listed : List Line) (b : Bool) → bytes_eq name l.0 ≡ b
    → IsSome (cond b (Some l.1) (verdict_in name listed))
    → (IsSome (verdict_in name listed) → Contains (names_of listed) name)
    → Contains (names_of (l ∷ listed)) name
listed_here name l listed true e found later =
    (0, omega arith, sym ((bytes_eq-Decides name l.0).0 e))
listed_here name l listed false e found later =
    let there = later found in (suc there.0, omega (arith, there.1), there.2)

-- a name that has a verdict is among the names
pub found_name : (name : List ℕ) (listed : List Line) → IsSome (verdict_in name listed)
    → Contains (names_of listed) name
found_name name [] found = let no : false ≡ true = found in cc
found_name name (l ∷ listed) found =
    listed_here name l listed (bytes_eq name l.0) refl found (found_name name listed)

found_here : (b : Bool) (v : Verdict) (o : Option Verdict) → IsSome o → IsSome (cond b (Some v) o)
found_here true v o h = refl
found_here false v o h = h

-- the name at a place of a list has a verdict
pub name_found : (name : List ℕ) (listed : List Line) (k : ℕ) (d : List ℕ)
    → k < length (names_of listed) → get_or (names_of listed) k d ≡ name
    → IsSome (verdict_in name listed)
name_found name [] k d within e = absurd (omega arith)
name_found name (l ∷ listed) zero d within e =
    ap (λ b. is_some (cond b (Some l.1) (verdict_in name listed)))
    ((bytes_eq-Decides name l.0).1 (sym e))
name_found name (l ∷ listed) (suc k) d within e =
    found_here (bytes_eq name l.0) l.1 (verdict_in name listed)
    (name_found name listed k d (omega arith) e)

-- names stay distinct where a trace with a new name is added
pub distinct-push : (listed : List Line) (l : Line) → AllPairs (λ a b. a ≢ b) (names_of listed)
    → verdict_in l.0 listed ≡ None → AllPairs (λ a b. a ≢ b) (names_of (listed ++ l ∷ []))
distinct-push listed l distinct fresh =
    subst (λ names. AllPairs (λ a b. a ≢ b) names)
    (sym (map-append (λ (m : Line). m.0) listed (l ∷ [])))
    (all_pairs_push (λ a b. a ≢ b) (names_of listed) l.0 distinct
    (λ k d within e.
    let found : IsSome (verdict_in l.0 listed) = name_found l.0 listed k d within e in
    let no : false ≡ true = sym (ap is_some fresh) ∙ found in cc))

-- no name stands twice in a report
pub not_twice : (before more listed : List Line) (l : Line) → listed ≡ before ++ (l ∷ more)
    → AllPairs (λ a b. a ≢ b) (names_of listed) → IsSome (verdict_in l.0 before) → ⊥
not_twice before more listed l is distinct found =
    let names : names_of listed ≡ names_of before ++ (l.0 ∷ names_of more) =
    ap names_of is ∙ map-append (λ (m : Line). m.0) before (l ∷ more) in
    let all : AllPairs (λ a b. a ≢ b) (names_of before ++ (l.0 ∷ names_of more)) =
    subst (λ xs. AllPairs (λ a b. a ≢ b) xs) names distinct in
    let there = found_name l.0 before found in
    let k = there.0 in
    let within : k < length (names_of before) = there.1 in
    let first_is : get_or (names_of before ++ (l.0 ∷ names_of more)) k l.0 ≡ l.0 =
    get_or_append_left (names_of before) (l.0 ∷ names_of more) l.0 k within ∙ there.2 in
    let second_is : get_or (names_of before ++ (l.0 ∷ names_of more)) (length (names_of before)) l.0
    ≡ l.0 = get_or-append_seam (names_of before) l.0 (names_of more) l.0 in
    let long = length-append (names_of before) (l.0 ∷ names_of more) in
    all k (length (names_of before)) l.0 within (omega (arith, long)) (first_is ∙ sym second_is)

goes_on : (rest : List ℕ) (before more other : List Line)
    → ((l : Line) (text : List ℕ) → IsLine l → rest ≡ spelled l ++ text
    → IsSome (verdict_in l.0 before))
    → rest ≢ total_of before → IsListing other → other ≡ before ++ more
    → rest ≡ lines_of more ++ total_of other → ⊥
goes_on rest before [] other no_line no_end lawful is e =
    no_end (e ∙ ap total_of (is ∙ append-nil before))
goes_on rest before (m ∷ more) other no_line no_end lawful is e =
    not_twice before more other m is lawful.distinct
    (no_line m (lines_of more ++ total_of other)
    (All-head IsLine m more (All-later IsLine before (m ∷ more) other is lawful.each))
    (e ∙ append_assoc (spelled m) (lines_of more) (total_of other)))

-- ## Texts that are no reports

-- a text that continues with neither a new trace nor the end of the report is no report
pub is_no_report : (text rest : List ℕ) (before other : List Line) → IsListing before
    → text ≡ lines_of before ++ rest
    → ((l : Line) (more : List ℕ) → IsLine l → rest ≡ spelled l ++ more
    → IsSome (verdict_in l.0 before))
    → rest ≢ total_of before → Lists text other → ⊥
is_no_report text rest before other lawful reads no_line no_end lists =
    let found = begins_with text rest before other lawful.each reads lists in
    goes_on rest before found.0 other no_line no_end lists.lawful found.1 found.2

-- ## Looking up

at : (b : Bool) (v : Verdict) (o p q : Option Verdict) → o ≡ option_or p q
    → cond b (Some v) o ≡ option_or (cond b (Some v) p) q
at true v o p q e = refl
at false v o p q e = e

or_none : (o : Option Verdict) → option_or o None ≡ o
or_none None = refl
or_none (Some v) = refl

verdict-append : (name : List ℕ) (listed : List Line) (l : Line)
    → verdict_in name (listed ++ l ∷ [])
    ≡ option_or (verdict_in name listed) (cond (bytes_eq name l.0) (Some l.1) None)
verdict-append name [] l = refl
verdict-append name (m ∷ listed) l =
    at (bytes_eq name m.0) m.1 _ _ _ (verdict-append name listed l)

after : (name : List ℕ) (listed : List Line) (l : Line) (b : Bool) → bytes_eq l.0 name ≡ b
    → verdict_in l.0 listed ≡ None
    → option_or (verdict_in name listed) (cond (bytes_eq name l.0) (Some l.1) None)
    ≡ cond b (Some l.1) (verdict_in name listed)
after name listed l true e fresh =
    let same : l.0 ≡ name = (bytes_eq-Decides l.0 name).0 e in
    let none : verdict_in name listed ≡ None =
    subst (λ (x : List ℕ). verdict_in x listed ≡ None) same fresh in
    let back : bytes_eq name l.0 ≡ true = (bytes_eq-Decides name l.0).1 (sym same) in
    ap (λ o. option_or o (cond (bytes_eq name l.0) (Some l.1) None)) none
    ∙ ap (λ b. cond b (Some l.1) None) back
after name listed l false e fresh =
    let back : bytes_eq name l.0 ≡ false =
    false_from_ne_true (bytes_eq name l.0) (λ h.
    let same : bytes_eq l.0 name ≡ true =
    (bytes_eq-Decides l.0 name).1 (sym ((bytes_eq-Decides name l.0).0 h)) in
    let no : true ≡ false = sym same ∙ e in cc) in
    ap (λ b. option_or (verdict_in name listed) (cond b (Some l.1) None)) back
    ∙ or_none (verdict_in name listed)

-- a look-up after a trace with a new name was added
pub verdict-push : (name : List ℕ) (listed : List Line) (l : Line) → verdict_in l.0 listed ≡ None
    → verdict_in name (listed ++ l ∷ [])
    ≡ cond (bytes_eq l.0 name) (Some l.1) (verdict_in name listed)
verdict-push name listed l fresh =
    verdict-append name listed l ∙ after name listed l (bytes_eq l.0 name) refl fresh
