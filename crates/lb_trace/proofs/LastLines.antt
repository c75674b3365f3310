-- The last line before a place of a text, and the ends of traces.
use Rattle.std.proofs.Common.{ℕ, zero, suc, ◌≡◌, ◌≢◌, ◌+◌, ◌-◌, ◌<◌, ◌≤◌, Bool, true, false}
use Rattle.std.proofs.Common.{List, [], ◌∷◌, ◌++◌, length, get_or, take, drop, nat_lt}
use Rattle.std.proofs.Common.{refl, sym, ap, ◌∙◌, subst, arith}
use Rattle.std.proofs.lemmas.Bool.Decides.{nat_tests}
use Rattle.std.proofs.lemmas.List.{append-nil, drop-drop, drop_more, get_or-drop, get_or-take}
use Rattle.std.proofs.lemmas.List.{length-drop, length-take-le, take-append-drop}
use Rattle.std.proofs.Math.Seq.{take-add}
use Rattle.std.specs.List.{list_any}
use Rattle.lb_trace.specs.Chunks.{is_ended}
use Rattle.lb_trace.specs.Lines.{after_line, line_of, record_of}
use Rattle.lb_trace.specs.Plain.{at_front, ends_line, is_comma, plain_records, split_at}
use Rattle.lb_trace.specs.Scan.{cell_of}
use Rattle.lb_trace.specs.WholeTraces.{EndsTrace, IsBlankBefore, IsLineBefore}
use Rattle.lb_trace.proofs.ChunkTexts.{plain-after}
use Rattle.lb_trace.proofs.CutTexts.{plain-cut}
use Rattle.lb_trace.proofs.FrontLines.{ended-at, one_line, or_false}
use Rattle.lb_trace.proofs.Lines.{plain-line, plain-none, plain-skip}

-- ## The line before a place

true≢false : true ≡ false → ⊥
true≢false e = cc e

-- no byte both ends a line and stands within one
pub end_inside : (text : List ℕ) (i : ℕ) → ends_line (get_or text i 0) ≡ true
    → ends_line (get_or text i 0) ≡ false → ⊥
end_inside text i end inside = true≢false (sym end ∙ inside)

-- two different lines are not both the last one before a place
none_behind : (text : List ℕ) (place a b : ℕ) → IsLineBefore text place a
    → IsLineBefore text place b → a < b → ⊥
none_behind text place a b one two less = by (nat_lt (b - 1) one.past) refl
  where
    some : 0 < b
    some = omega (arith, less)

    by : (t : Bool) → nat_lt (b - 1) one.past ≡ t → ⊥
    by true is =
        end_inside text (b - 1) (two.begun some)
        (one.inside (b - 1) (omega (arith, less)) (grind (arith, nat_tests)))
    by false is =
        let behind : one.past ≤ b - 1 = grind (arith, nat_tests) in
        end_inside text b
        (one.blank b (omega (arith, behind)) (omega (arith, two.some, two.within)))
        (two.inside b (omega arith) two.some)

pub same_line : (text : List ℕ) (place a b : ℕ) → IsLineBefore text place a
    → IsLineBefore text place b → a ≡ b
same_line text place a b one two = by (nat_lt a b) (nat_lt b a) refl refl
  where
    by : (s t : Bool) → nat_lt a b ≡ s → nat_lt b a ≡ t → a ≡ b
    by true t less more =
        absurd (none_behind text place a b one two (grind (arith, nat_tests)))
    by false true less more =
        absurd (none_behind text place b a two one (grind (arith, nat_tests)))
    by false false less more = grind (arith, nat_tests)

-- the last line before a place is the last one before an earlier place behind its beginning
pub line_earlier : (text : List ℕ) (place other start : ℕ) → IsLineBefore text place start
    → start < other → other ≤ place → IsLineBefore text other start
line_earlier text place other start is less within = by (nat_lt other is.past) refl
  where
    by : (t : Bool) → nat_lt other is.past ≡ t → IsLineBefore text other start
    by true cut =
        let short : other < is.past = grind (arith, nat_tests) in
        record {
          past = other;
          some = less;
          within = omega arith;
          inside = λ i from below. is.inside i from (omega (arith, below, short));
          blank = λ i from below. absurd (omega (arith, from, below));
          begun = is.begun;
        }
    by false cut =
        record {
          past = is.past;
          some = is.some;
          within = grind (arith, nat_tests);
          inside = is.inside;
          blank = λ i from below. is.blank i from (omega (arith, below, within));
          begun = is.begun;
        }

-- no line begins before a place where only ends of lines stand
pub none_in_blank : (text : List ℕ) (place start : ℕ) → IsBlankBefore text place
    → IsLineBefore text place start → ⊥
none_in_blank text place start blank is =
    end_inside text start (blank start (omega (arith, is.some, is.within)))
    (is.inside start (omega arith) is.some)

-- ## The records of lines

none_in : (t : List ℕ) → ((i : ℕ) → i < length t → ends_line (get_or t i 0) ≡ false)
    → list_any ends_line t ≡ false
none_in [] each = refl
none_in (b ∷ rest) each =
    rw (each 0 (omega arith)) (none_in rest (λ i below. each (suc i) (omega (arith, below))))

blank_records : (t : List ℕ) → ((i : ℕ) → i < length t → ends_line (get_or t i 0) ≡ true)
    → plain_records t ≡ []
blank_records [] each = plain-none
blank_records (b ∷ rest) each =
    plain-skip b rest (each 0 (omega arith))
    ∙ blank_records rest (λ i below. each (suc i) (omega (arith, below)))

-- a line that is not empty, and then only ends of lines, is one record
filled_records : (line blank : List ℕ) → 0 < length line → list_any ends_line line ≡ false
    → ((i : ℕ) → i < length blank → ends_line (get_or blank i 0) ≡ true)
    → plain_records (line ++ blank) ≡ split_at is_comma line ∷ []
filled_records [] blank some none each = absurd (omega (arith, some))
filled_records (x ∷ line) [] some none each =
    ap plain_records (append-nil (x ∷ line)) ∙ one_line x line none
filled_records (x ∷ line) (b ∷ blank) some none each =
    plain-cut (x ∷ line) b blank (each 0 (omega arith))
    ∙ ap (λ rs. plain_records (x ∷ line) ++ rs)
    (blank_records blank (λ i below. each (suc i) (omega (arith, below))))
    ∙ append-nil (plain_records (x ∷ line)) ∙ one_line x line none

line_then_end : (line : List ℕ) (b : ℕ) (rest : List ℕ) → list_any ends_line line ≡ false
    → ends_line b ≡ true → line_of (line ++ b ∷ rest) ≡ line
unfolding line_of
line_then_end [] b rest none end = rw end refl
line_then_end (x ∷ line) b rest none end =
    let parts = or_false (ends_line x) (list_any ends_line line) none in
    rw (parts.0) (ap (λ l. x ∷ l) (line_then_end line b rest parts.1 end))

head_front : (b : ℕ) (parts : List (List ℕ)) → get_or (at_front b parts) 0 [] ≡ b ∷ get_or parts 0 []
head_front b [] = refl
head_front b (part ∷ more) = refl

-- the name of a record is its first cell
pub record_head : (text : List ℕ) → get_or (record_of text) 0 [] ≡ cell_of text
unfolding line_of split_at cell_of
record_head [] = refl
record_head (b ∷ rest) = by (is_comma b) (ends_line b) refl refl (record_head rest)
  where
    by : (s t : Bool) → is_comma b ≡ s → ends_line b ≡ t
        → get_or (record_of rest) 0 [] ≡ cell_of rest
        → get_or (record_of (b ∷ rest)) 0 [] ≡ cell_of (b ∷ rest)
    by true true comma end more = rw end (rw comma refl)
    by true false comma end more = rw end (rw comma refl)
    by false true comma end more = rw end (rw comma refl)
    by false false comma end more =
        rw end (rw comma (head_front b (record_of rest) ∙ ap (λ l. b ∷ l) more))

-- ## The end of a trace

-- a text that is cut at the beginning of a line has the records of both sides
front_cut : (text : List ℕ) (s : ℕ) (more : List ℕ) → s < length text
    → (0 < s → ends_line (get_or text (s - 1) 0) ≡ true)
    → plain_records (take s text ++ more) ≡ plain_records (take s text) ++ plain_records more
front_cut text zero more below begun = ap (λ rs. rs ++ plain_records more) (sym plain-none)
front_cut text (suc i) more below begun =
    let next : i + 1 ≡ suc i = omega arith in
    let at : suc i - 1 ≡ i = omega arith in
    let end : ends_line (get_or text i 0) ≡ true =
    ap (λ k. ends_line (get_or text k 0)) (sym at) ∙ begun (omega arith) in
    plain-after (take (suc i) text) more
    (ap (λ k. is_ended (take k text)) (sym next)
    ∙ ended-at text i (get_or text i 0) (omega (arith, below)) refl end)

begun_line : (text : List ℕ) (c : ℕ) (rest : List ℕ) → text ≡ c ∷ rest → ends_line c ≡ false
    → plain_records text ≡ record_of text ∷ plain_records (after_line text)
begun_line text c rest is inside =
    subst (λ t. plain_records t ≡ record_of t ∷ plain_records (after_line t)) (sym is)
    (plain-line c rest inside)

-- a trace ends before a line where the line before it has another name
pub ends_trace : (text name : List ℕ) (start s : ℕ) → start < length text
    → ends_line (get_or text start 0) ≡ false
    → (0 < start → ends_line (get_or text (start - 1) 0) ≡ true)
    → cell_of (drop start text) ≡ name → IsLineBefore text start s
    → cell_of (drop s text) ≢ name → EndsTrace text start
ends_trace text name start s below filled begun named is differs =
    let line : List ℕ = take (is.past - s) (drop s text) in
    let blank : List ℕ = take (start - is.past) (drop is.past text) in
    let past : is.past < start = past_below (nat_lt is.past start) refl in
    let all : s + ((is.past - s) + (start - is.past)) ≡ start =
    omega (arith, is.some, is.within) in
    let middle : s + (is.past - s) ≡ is.past = omega (arith, is.some) in
    let cut : take start text ≡ take s text ++ (line ++ blank) =
    ap (λ n. take n text) (sym all)
    ∙ take-add s ((is.past - s) + (start - is.past)) text
    ∙ ap (λ l. take s text ++ l) (take-add (is.past - s) (start - is.past) (drop s text)
    ∙ ap (λ l. line ++ take (start - is.past) l)
    (drop-drop (is.past - s) s text ∙ ap (λ n. drop n text) middle)) in
    let none : list_any ends_line line ≡ false = none_in line (line_byte line refl) in
    let first : record_of (drop s text) ≡ split_at is_comma line =
    ap (λ l. split_at is_comma l)
    (ap line_of (whole_line line refl middle past)
    ∙ line_then_end line (get_or text is.past 0) (drop (is.past + 1) text) none
    (is.blank is.past (omega arith) past)) in
    record {
      front = plain_records (take s text);
      last = record_of (drop s text);
      next = record_of (drop start text);
      rest = plain_records (after_line (drop start text));
      before = ap plain_records cut
          ∙ front_cut text s (line ++ blank) (omega (arith, below, is.some, is.within)) is.begun
          ∙ ap (λ rs. plain_records (take s text) ++ rs)
          (filled_records line blank (long_line line refl) none (blank_byte blank refl)
          ∙ ap (λ r. r ∷ []) (sym first));
      behind = begun_line (drop start text) (get_or text start 0) (drop (start + 1) text)
          (drop_more text start 0 below) filled;
      other = λ same. differs
          (sym (record_head (drop s text)) ∙ sym same ∙ record_head (drop start text) ∙ named);
    }
  where
    -- the byte before the line ends one
    past_below : (t : Bool) → nat_lt is.past start ≡ t → is.past < start
    past_below true less = grind (arith, nat_tests)
    past_below false less =
        absurd (end_inside text (start - 1) (begun (omega (arith, is.some, is.within)))
        (is.inside (start - 1) (omega (arith, is.some, is.within)) (grind (arith, nat_tests))))

    line_long : length (take (is.past - s) (drop s text)) ≡ is.past - s
    line_long =
        length-take-le (is.past - s) (drop s text)
        (omega (arith, length-drop s text, below, is.within))

    blank_long : length (take (start - is.past) (drop is.past text)) ≡ start - is.past
    blank_long =
        length-take-le (start - is.past) (drop is.past text)
        (omega (arith, length-drop is.past text, below))

    line_byte : (line : List ℕ) → line ≡ take (is.past - s) (drop s text) → (i : ℕ)
        → i < length line → ends_line (get_or line i 0) ≡ false
    line_byte line same i less =
        let within : i < is.past - s =
        omega (arith, less, ap length same, line_long) in
        ap (λ l. ends_line (get_or l i 0)) same
        ∙ ap ends_line (get_or-take (is.past - s) (drop s text) i 0 within
        ∙ get_or-drop s text i 0)
        ∙ is.inside (s + i) (omega arith) (omega (arith, within))

    blank_byte : (blank : List ℕ) → blank ≡ take (start - is.past) (drop is.past text) → (i : ℕ)
        → i < length blank → ends_line (get_or blank i 0) ≡ true
    blank_byte blank same i less =
        let within : i < start - is.past =
        omega (arith, less, ap length same, blank_long) in
        ap (λ l. ends_line (get_or l i 0)) same
        ∙ ap ends_line (get_or-take (start - is.past) (drop is.past text) i 0 within
        ∙ get_or-drop is.past text i 0)
        ∙ is.blank (is.past + i) (omega arith) (omega (arith, within))

    long_line : (line : List ℕ) → line ≡ take (is.past - s) (drop s text) → 0 < length line
    long_line line same = omega (arith, is.some, ap length same, line_long)

    whole_line : (line : List ℕ) → line ≡ take (is.past - s) (drop s text)
        → s + (is.past - s) ≡ is.past → is.past < start
        → drop s text ≡ line ++ get_or text is.past 0 ∷ drop (is.past + 1) text
    whole_line line same middle past =
        sym (take-append-drop (is.past - s) (drop s text))
        ∙ ap (λ l. l ++ drop (is.past - s) (drop s text)) (sym same)
        ∙ ap (λ l. line ++ l) (drop-drop (is.past - s) s text ∙ ap (λ n. drop n text) middle
        ∙ drop_more text is.past 0 (omega (arith, past, below)))

-- ## The search

-- the line at `start` has `name`; `other` is at most `start`, and the last line before `other`, if
-- there is one, has another name
pub record IsSearched (text name : List ℕ) (start other : ℕ) : Type 0 where
  pub below : start < length text
  pub filled : ends_line (get_or text start 0) ≡ false
  pub begun : 0 < start → ends_line (get_or text (start - 1) 0) ≡ true
  pub named : cell_of (drop start text) ≡ name
  pub ordered : other ≤ start
  pub differs : 0 < other → (s : ℕ) → IsLineBefore text other s → cell_of (drop s text) ≢ name

-- the search goes on from an earlier line with `name`
pub searched_same : (text name : List ℕ) (start other place line : ℕ)
    → IsSearched text name start other → other < place → place ≤ start
    → IsLineBefore text place line → cell_of (drop line text) ≡ name
    → IsSearched text name line other
searched_same text name start other place line so_far less within is named = record {
  below = omega (arith, is.some, is.within, so_far.below);
  filled = is.inside line (omega arith) is.some;
  begun = is.begun;
  named = named;
  ordered = by (nat_lt line other) refl;
  differs = so_far.differs;
}
  where
    by : (t : Bool) → nat_lt line other ≡ t → other ≤ line
    by true e =
        let early : line < other = grind (arith, nat_tests) in
        absurd (so_far.differs (omega (arith, early)) line
        (line_earlier text place other line is early (omega (arith, less))) named)
    by false e = grind (arith, nat_tests)

-- the search goes on from `place` where the last line before it has another name
pub searched_other : (text name : List ℕ) (start other place line : ℕ)
    → IsSearched text name start other → place ≤ start
    → IsLineBefore text place line → cell_of (drop line text) ≢ name
    → IsSearched text name start place
searched_other text name start other place line so_far within is differs = record {
  below = so_far.below;
  filled = so_far.filled;
  begun = so_far.begun;
  named = so_far.named;
  ordered = within;
  differs = λ some s one. subst (λ k. cell_of (drop k text) ≢ name)
      (same_line text place line s is one) differs;
}

-- the search goes on from `place` where no line stands before it
pub searched_none : (text name : List ℕ) (start other place : ℕ)
    → IsSearched text name start other → place ≤ start → IsBlankBefore text place
    → IsSearched text name start place
searched_none text name start other place so_far within blank = record {
  below = so_far.below;
  filled = so_far.filled;
  begun = so_far.begun;
  named = so_far.named;
  ordered = within;
  differs = λ some s one. absurd (none_in_blank text place s blank one);
}

-- the search ends at the first line of the last trace
pub searched_all : (text name : List ℕ) (start other s : ℕ) → IsSearched text name start other
    → start ≤ other → IsLineBefore text start s → EndsTrace text start
searched_all text name start other s so_far done is =
    let same : other ≡ start = omega (arith, done, so_far.ordered) in
    ends_trace text name start s so_far.below so_far.filled so_far.begun so_far.named is
    (so_far.differs (omega (arith, same, is.some, is.within)) s
    (subst (λ k. IsLineBefore text k s) (sym same) is))
