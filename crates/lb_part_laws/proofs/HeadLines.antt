-- The head of a text is one record and the end of its line, or all of the text.
use Rattle.std.proofs.Common.{◌≡◌, ◌∙◌, ℕ, suc, ◌+◌, ◌-◌, Bool, true, false, List, []}
use Rattle.std.proofs.Common.{◌∷◌, ◌++◌, length, take, Option, None, Some, refl, sym, ap, subst}
use Rattle.std.proofs.Common.{arith, append_assoc}
use Rattle.std.specs.Prelude.{option_map, unwrap_or}
use Rattle.std.proofs.lemmas.Bool.Decides.{nat_tests}
use Rattle.std.proofs.lemmas.List.{length-append, take_at}
use Rattle.csv.specs.Reading.{is_bom, strip_bom}
use Rattle.lb_trace.specs.Lines.{record_of}
use Rattle.lb_trace.specs.Plain.{ends_line, plain_records}
use Rattle.lb_trace.specs.Spelling.{Record}
use Rattle.lb_part.specs.Heads.{head_of, record_end}
use Rattle.lb_part.proofs.FirstRecords.{inner_end}
use Rattle.lb_part_laws.specs.Stretches.{IsHead}
use Rattle.lb_part_laws.proofs.RecordPlaces.{rest-begin, rest-none, rest-skip, rest-within}
use Rattle.lb_part_laws.proofs.RecordPlaces.{rest_records}

-- ## The end of the first record

-- the first `n` bytes of a text are `line` and the end of a line
record Ended (s : List ℕ) (n : ℕ) : Type 0 where
  line : List ℕ
  end : ℕ
  rest : List ℕ
  whole : s ≡ line ++ end ∷ rest
  ends : ends_line end ≡ true
  long : n ≡ suc (length line)

more-line : (c : ℕ) (r : List ℕ) (m n : ℕ) → suc m ≡ n → Ended r m → Ended (c ∷ r) n
more-line c r m n is e = record {
  line = c ∷ e.line;
  end = e.end;
  rest = e.rest;
  whole = ap (λ (t : List ℕ). c ∷ t) e.whole;
  ends = e.ends;
  long = let l = e.long in omega (arith, is, l);
}

-- the first `n` bytes of a text, which begins within a record, end with that record
record Within (s : List ℕ) (n : ℕ) : Type 0 where
  to : Ended s n
  none : rest_records true to.line ≡ []

ends-within : (s : List ℕ) (n : ℕ) → record_end true s ≡ Some n → Within s n
unfolding record_end more-line
ends-within [] n is = cc is
ends-within (c ∷ r) n is = by (ends_line c) refl (λ m e. ends-within r m e)
  where
    by : (t : Bool) → ends_line c ≡ t → ((m : ℕ) → record_end true r ≡ Some m → Within r m)
        → Within (c ∷ r) n
    by true e more =
        let f : Some 1 ≡ Some n = rw e at is in
        let one : 1 ≡ n = cc f in
        record {
          to = record { line = []; end = c; rest = r; whole = refl; ends = e; long = sym one };
          none = rest-none true;
        }
    by false e more =
        let f : option_map (λ m. suc m) (record_end true r) ≡ Some n = rw e at is in
        let found = inner_end (record_end true r) n f in
        let others = more found.0 found.1 in
        record {
          to = more-line c r found.0 n found.2 others.to;
          none = rest-within c others.to.line e ∙ others.none;
        }

-- the first `n` bytes of a text are just one record and the end of its line
record Whole (s : List ℕ) (n : ℕ) : Type 0 where
  to : Ended s n
  first : Record
  one : rest_records false to.line ≡ first ∷ []

ends-whole : (s : List ℕ) (n : ℕ) → record_end false s ≡ Some n → Whole s n
unfolding record_end more-line
ends-whole [] n is = cc is
ends-whole (c ∷ r) n is = by (ends_line c) refl (λ m e. ends-whole r m e)
  where
    by : (t : Bool) → ends_line c ≡ t → ((m : ℕ) → record_end false r ≡ Some m → Whole r m)
        → Whole (c ∷ r) n
    by true e more =
        let f : option_map (λ m. suc m) (record_end false r) ≡ Some n = rw e at is in
        let found = inner_end (record_end false r) n f in
        let others = more found.0 found.1 in
        record {
          to = more-line c r found.0 n found.2 others.to;
          first = others.first;
          one = rest-skip false c others.to.line e ∙ others.one;
        }
    by false e more =
        let f : option_map (λ m. suc m) (record_end true r) ≡ Some n = rw e at is in
        let found = inner_end (record_end true r) n f in
        let inside = ends-within r found.0 found.1 in
        record {
          to = more-line c r found.0 n found.2 inside.to;
          first = record_of (c ∷ inside.to.line);
          one = rest-begin c inside.to.line e
              ∙ ap (λ (rs : List Record). record_of (c ∷ inside.to.line) ∷ rs) inside.none;
        }

-- ## No end

mapped-none : (found : Option ℕ) → option_map (λ m. suc m) found ≡ None → found ≡ None
mapped-none None e = refl
mapped-none (Some m) e = cc e

none-within : (s : List ℕ) → record_end true s ≡ None → rest_records true s ≡ []
unfolding record_end
none-within [] is = rest-none true
none-within (c ∷ r) is = by (ends_line c) refl (λ e. none-within r e)
  where
    by : (t : Bool) → ends_line c ≡ t → (record_end true r ≡ None → rest_records true r ≡ [])
        → rest_records true (c ∷ r) ≡ []
    by true e more =
        let f = rw e at is in cc f
    by false e more =
        let f : option_map (λ m. suc m) (record_end true r) ≡ None = rw e at is in
        rest-within c r e ∙ more (mapped-none (record_end true r) f)

-- a text has at most one record
pub data AtMostOne (s : List ℕ) : Type 0 where
  none : rest_records false s ≡ [] → AtMostOne s
  one : (first : Record) → rest_records false s ≡ first ∷ [] → AtMostOne s

pub none-whole : (s : List ℕ) → record_end false s ≡ None → AtMostOne s
unfolding record_end
none-whole [] is = none (rest-none false)
none-whole (c ∷ r) is = by (ends_line c) refl (λ e. none-whole r e)
  where
    skip : ends_line c ≡ true → AtMostOne r → AtMostOne (c ∷ r)
    skip e (none is) = none (rest-skip false c r e ∙ is)
    skip e (one first is) = one first (rest-skip false c r e ∙ is)

    by : (t : Bool) → ends_line c ≡ t → (record_end false r ≡ None → AtMostOne r)
        → AtMostOne (c ∷ r)
    by true e more =
        let f : option_map (λ m. suc m) (record_end false r) ≡ None = rw e at is in
        skip e (more (mapped-none (record_end false r) f))
    by false e more =
        let f : option_map (λ m. suc m) (record_end true r) ≡ None = rw e at is in
        one (record_of (c ∷ r))
        (rest-begin c r e
        ∙ ap (λ (rs : List Record). record_of (c ∷ r) ∷ rs)
        (none-within r (mapped-none (record_end true r) f)))

-- ## A byte order mark

not-first : (e b c : ℕ) → ends_line e ≡ true → is_bom e b c ≡ false
not-first e b c ends = grind (arith, nat_tests)

not-second : (a e c : ℕ) → ends_line e ≡ true → is_bom a e c ≡ false
not-second a e c ends = grind (arith, nat_tests)

not-third : (a b e : ℕ) → ends_line e ≡ true → is_bom a b e ≡ false
not-third a b e ends = grind (arith, nat_tests)

kept-if : (a b c : ℕ) (rest : List ℕ) → is_bom a b c ≡ false
    → strip_bom (a ∷ b ∷ c ∷ rest) ≡ a ∷ b ∷ c ∷ rest
unfolding strip_bom
kept-if a b c rest e = rw e refl

kept-still : (a b c : ℕ) (rest : List ℕ)
    → strip_bom (a ∷ b ∷ c ∷ rest) ≡ a ∷ b ∷ c ∷ rest → is_bom a b c ≡ false
unfolding strip_bom
kept-still a b c rest is = by (is_bom a b c) refl
  where
    by : (t : Bool) → is_bom a b c ≡ t → is_bom a b c ≡ false
    by true e =
        let f : rest ≡ a ∷ b ∷ c ∷ rest = rw e at is in
        let l : length rest ≡ suc (suc (suc (length rest))) = ap length f in
        absurd (omega (arith, l))
    by false e = e

-- a line without a byte order mark has none, whatever comes behind its end
bare-line : (line : List ℕ) (end : ℕ) (rest tail : List ℕ) → ends_line end ≡ true
    → strip_bom (line ++ end ∷ rest) ≡ line ++ end ∷ rest
    → strip_bom (line ++ end ∷ tail) ≡ line ++ end ∷ tail
unfolding strip_bom
bare-line [] end rest [] ends is = refl
bare-line [] end rest (t ∷ []) ends is = refl
bare-line [] end rest (t ∷ u ∷ tail) ends is = kept-if end t u tail (not-first end t u ends)
bare-line (a ∷ []) end rest [] ends is = refl
bare-line (a ∷ []) end rest (t ∷ tail) ends is = kept-if a end t tail (not-second a end t ends)
bare-line (a ∷ b ∷ []) end rest tail ends is = kept-if a b end tail (not-third a b end ends)
bare-line (a ∷ b ∷ c ∷ line) end rest tail ends is =
    kept-if a b c (line ++ end ∷ tail) (kept-still a b c (line ++ end ∷ rest) is)

bare-alone : (line : List ℕ) (end : ℕ) (rest : List ℕ)
    → strip_bom (line ++ end ∷ rest) ≡ line ++ end ∷ rest → strip_bom line ≡ line
unfolding strip_bom
bare-alone [] end rest is = refl
bare-alone (a ∷ []) end rest is = refl
bare-alone (a ∷ b ∷ []) end rest is = refl
bare-alone (a ∷ b ∷ c ∷ line) end rest is =
    kept-if a b c line (kept-still a b c (line ++ end ∷ rest) is)

-- a text has no byte order mark, or one
data Marked (all : List ℕ) : Type 0 where
  bare : strip_bom all ≡ all → Marked all
  mark : (a b c : ℕ) (rest : List ℕ) → all ≡ a ∷ b ∷ c ∷ rest → is_bom a b c ≡ true → Marked all

marked : (all : List ℕ) → Marked all
unfolding strip_bom
marked [] = bare refl
marked (a ∷ []) = bare refl
marked (a ∷ b ∷ []) = bare refl
marked (a ∷ b ∷ c ∷ rest) = by (is_bom a b c) refl
  where
    by : (t : Bool) → is_bom a b c ≡ t → Marked (a ∷ b ∷ c ∷ rest)
    by true e = mark a b c rest refl e
    by false e = bare (kept-if a b c rest e)

gone : (a b c : ℕ) (rest : List ℕ) → is_bom a b c ≡ true → strip_bom (a ∷ b ∷ c ∷ rest) ≡ rest
unfolding strip_bom
gone a b c rest e = rw e refl

-- ## The head

-- where the head of a text is as long as `front`, it is `front`
head-at : (all front rest : List ℕ) → all ≡ front ++ rest → head_of all ≡ length front
    → take (head_of all) all ≡ front
head-at all front rest is long =
    ap (λ n. take n all) long ∙ ap (take (length front)) is ∙ take_at front rest (length front) refl

head-long : (all : List ℕ) (n : ℕ) → record_end false (strip_bom all) ≡ Some n
    → head_of all ≡ (length all - length (strip_bom all)) + n
head-long all n is =
    ap (λ end. (length all - length (strip_bom all)) + unwrap_or end (length (strip_bom all))) is

head-bare : (all : List ℕ) (n : ℕ) → strip_bom all ≡ all → record_end false (strip_bom all) ≡ Some n
    → Whole (strip_bom all) n → IsHead (take (head_of all) all)
unfolding rest_records
head-bare all n kept is w =
    let t = w.to in
    let whole : all ≡ t.line ++ t.end ∷ t.rest = sym kept ∙ t.whole in
    let front : all ≡ (t.line ++ t.end ∷ []) ++ t.rest =
    whole ∙ sym (append_assoc t.line (t.end ∷ []) t.rest) in
    let whole_kept : strip_bom (t.line ++ t.end ∷ t.rest) ≡ t.line ++ t.end ∷ t.rest =
    subst (λ (s : List ℕ). strip_bom s ≡ s) whole kept in
    let many = length-append t.line (t.end ∷ []) in
    let l = t.long in
    let same : length (strip_bom all) ≡ length all = ap length kept in
    let long : head_of all ≡ length (t.line ++ t.end ∷ []) =
    head-long all n is ∙ omega (arith, same, many, l) in
    let alone = bare-alone t.line t.end t.rest whole_kept in
    record {
      line = t.line;
      end = t.end;
      header = w.first;
      whole = head-at all (t.line ++ t.end ∷ []) t.rest front long;
      ends = t.ends;
      one = ap plain_records alone ∙ w.one;
      bare = λ tail. bare-line t.line t.end t.rest tail t.ends whole_kept
          ∙ ap (λ (s : List ℕ). s ++ t.end ∷ tail) (sym alone);
    }

head-marked : (all : List ℕ) (n a b c : ℕ) (rest : List ℕ) → all ≡ a ∷ b ∷ c ∷ rest
    → is_bom a b c ≡ true → record_end false (strip_bom all) ≡ Some n
    → Whole rest n → IsHead (take (head_of all) all)
unfolding rest_records
head-marked all n a b c rest text is_mark is w =
    let t = w.to in
    let stripped : strip_bom all ≡ rest = ap strip_bom text ∙ gone a b c rest is_mark in
    let whole : all ≡ a ∷ b ∷ c ∷ (t.line ++ t.end ∷ t.rest) =
    text ∙ ap (λ (s : List ℕ). a ∷ b ∷ c ∷ s) t.whole in
    let front : all ≡ (a ∷ b ∷ c ∷ (t.line ++ t.end ∷ [])) ++ t.rest =
    whole ∙ ap (λ (s : List ℕ). a ∷ b ∷ c ∷ s) (sym (append_assoc t.line (t.end ∷ []) t.rest)) in
    let many = length-append t.line (t.end ∷ []) in
    let l = t.long in
    let short : length (strip_bom all) ≡ length rest = ap length stripped in
    let all_long : length all ≡ suc (suc (suc (length rest))) = ap length text in
    let long : head_of all ≡ length (a ∷ b ∷ c ∷ (t.line ++ t.end ∷ [])) =
    head-long all n is ∙ omega (arith, short, all_long, many, l) in
    record {
      line = a ∷ b ∷ c ∷ t.line;
      end = t.end;
      header = w.first;
      whole = head-at all (a ∷ b ∷ c ∷ (t.line ++ t.end ∷ [])) t.rest front long;
      ends = t.ends;
      one = ap plain_records (gone a b c t.line is_mark) ∙ w.one;
      bare = λ tail. gone a b c (t.line ++ t.end ∷ tail) is_mark
          ∙ ap (λ (s : List ℕ). s ++ t.end ∷ tail) (sym (gone a b c t.line is_mark));
    }

pub head-is : (all : List ℕ) (n : ℕ) → record_end false (strip_bom all) ≡ Some n
    → IsHead (take (head_of all) all)
head-is all n is = by (marked all)
  where
    by : Marked all → IsHead (take (head_of all) all)
    by (bare kept) = head-bare all n kept is (ends-whole (strip_bom all) n is)
    by (mark a b c rest text found) =
        let stripped : strip_bom all ≡ rest = ap strip_bom text ∙ gone a b c rest found in
        head-marked all n a b c rest text found is
        (ends-whole rest n (ap (record_end false) (sym stripped) ∙ is))
