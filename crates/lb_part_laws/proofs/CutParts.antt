-- The parts of a text follow one another: each is the head and a stretch of the rest.
use Rattle.std.proofs.Common.{◌≡◌, ◌∙◌, ℕ, suc, ◌+◌, ◌-◌, ◌*◌, ◌/◌, ◌<◌, ◌≤◌, false, ◌||◌, List, []}
use Rattle.std.proofs.Common.{◌∷◌}
use Rattle.std.proofs.Common.{◌++◌, length, map, take, drop, refl, sym, ap, subst, arith, ◌⊎◌, inl}
use Rattle.std.proofs.Common.{inr}
use Rattle.std.specs.List.{All}
use Rattle.std.proofs.lemmas.Bool.{cases_lt}
use Rattle.std.proofs.lemmas.List.{drop-drop, drop_all, length-drop, length-take-le}
use Rattle.std.proofs.lemmas.List.{take-append-drop}
use Rattle.std.proofs.lemmas.List.Folds.{list_any-append}
use Rattle.std.proofs.Math.Nat.{mul-div-le, mul-div_cancel, mul-le-mul_left, mul-zero}
use Rattle.std.proofs.Math.Nat.{zero-div}
use Rattle.std.proofs.lemmas.Nat.{le-div}
use Rattle.lb_trace.specs.Plain.{has_quote, is_quote}
use Rattle.lb_part.specs.Counts.{reach}
use Rattle.lb_part.specs.Cuts.{IsBreak, IsCut}
use Rattle.lb_part.specs.Cuts.IsBreak.{first as at_first, last as at_last, trace as at_trace}
use Rattle.lb_part.specs.Heads.{head_of}
use Rattle.lb_part.proofs.FoundCuts.{text_of}
use Rattle.lb_part_laws.specs.PartTexts.{AreLastParts}
use Rattle.lb_part_laws.specs.Stretches.{AreStretches, IsBorder}
use Rattle.lb_part_laws.proofs.Borders.{border}
use Rattle.lb_part_laws.proofs.SpelledStretches.{or_none, or_right}

-- ## Places

same-cut : (text : List ℕ) (from a b : ℕ) → IsCut text from a → IsCut text from b → a ≡ b
same-cut text from a b one other = by (cases_lt a b) (cases_lt b a)
  where
    by : (a < b) ⊎ (b ≤ a) → (b < a) ⊎ (a ≤ b) → a ≡ b
    by (inl less) more = absurd (other.nearest a one.behind less one.break)
    by (inr le) (inl less) = absurd (one.nearest b other.behind less other.break)
    by (inr le) (inr ge) = omega (arith, le, ge)

in-order : (text : List ℕ) (from to a b : ℕ) → from ≤ to → IsCut text from a → IsCut text to b
    → a ≤ b
in-order text from to a b behind one other = by (cases_lt b a)
  where
    by : (b < a) ⊎ (a ≤ b) → a ≤ b
    by (inl less) =
        let h = other.behind in
        absurd (one.nearest b (omega (arith, h, behind)) less other.break)
    by (inr le) = le

within-text : (text : List ℕ) (place : ℕ) → IsBreak text place → place ≤ length text
within-text text place (at_first is) = omega (arith, is)
within-text text place (at_last is) = omega (arith, is)
within-text text place (at_trace starts) = let h = starts.begins.inside in omega (arith, h)

-- ## Ranges

reach-more : (n count bytes : ℕ) → 0 < count → reach n count bytes ≤ reach (n + 1) count bytes
reach-more n count bytes some =
    let low = mul-div-le (bytes * n) count in
    let wider : bytes * n ≤ bytes * (n + 1) = mul-le-mul_left bytes (omega arith) in
    le-div (bytes * n / count) (bytes * (n + 1)) count some
    (let e : bytes * n / count * count ≡ count * (bytes * n / count) = grind arith in
    omega (arith, low, wider, e))

pub reach-none : (count bytes : ℕ) → reach 0 count bytes ≡ 0
reach-none count bytes = ap (λ m. m / count) (mul-zero bytes) ∙ zero-div count

reach-all : (count bytes : ℕ) → 0 < count → reach count count bytes ≡ bytes
reach-all count bytes some = mul-div_cancel bytes some

-- ## Stretches

split-once : (body : List ℕ) (from to : ℕ) → from ≤ to
    → drop from body ≡ take (to - from) (drop from body) ++ drop to body
split-once body from to behind =
    let e : from + (to - from) ≡ to = omega (arith, behind) in
    sym (take-append-drop (to - from) (drop from body))
    ∙ ap (λ (rest : List ℕ). take (to - from) (drop from body) ++ rest)
    (drop-drop (to - from) from body ∙ ap (λ n. drop n body) e)

border-at : (body : List ℕ) (from to : ℕ) → from ≤ to → IsBreak body from → IsBreak body to
    → IsBorder (take (to - from) (drop from body)) (drop to body)
unfolding text_of
border-at body from to behind opens closes =
    let inner = within-text body to closes in
    let front : length (take from body) ≡ from =
    length-take-le from body (omega (arith, inner, behind)) in
    let rest = length-drop from body in
    let middle : length (take (to - from) (drop from body)) ≡ to - from =
    length-take-le (to - from) (drop from body) (omega (arith, inner, behind, rest)) in
    let whole : body ≡ take from body ++ (take (to - from) (drop from body) ++ drop to body) =
    sym (take-append-drop from body)
    ∙ ap (λ (rest : List ℕ). take from body ++ rest) (split-once body from to behind) in
    let both : to ≡ length (take from body) + length (take (to - from) (drop from body)) =
    omega (arith, front, middle, behind) in
    border (take from body) (take (to - from) (drop from body)) (drop to body)
    (subst (λ (n : ℕ). IsBreak (take from body
    ++ (take (to - from) (drop from body) ++ drop to body)) n) (sym front)
    (subst (λ (t : List ℕ). IsBreak t from) whole opens))
    (subst (λ (n : ℕ). IsBreak (take from body
    ++ (take (to - from) (drop from body) ++ drop to body)) n) both
    (subst (λ (t : List ℕ). IsBreak t to) whole closes))

-- ## Parts

-- the rest of a text in stretches; each part is the head and a stretch
pub record InStretches (head rest : List ℕ) (texts : List (List ℕ)) : Type 0 where
  pub stretches : List (List ℕ)
  pub are : AreStretches rest stretches
  pub texts_are : texts ≡ map (λ s. head ++ s) stretches
  pub plain : has_quote rest ≡ false

none-behind : (all : List ℕ) (count before from : ℕ) → 0 < count → before ≡ count
    → IsCut (drop (head_of all) all) (reach before count (length all) - head_of all) from
    → drop from (drop (head_of all) all) ≡ []
none-behind all count before from some last begins =
    let whole : reach before count (length all) ≡ length all =
    ap (λ n. reach n count (length all)) last ∙ reach-all count (length all) some in
    let long = length-drop (head_of all) all in
    let h = begins.behind in
    drop_all from (drop (head_of all) all) (omega (arith, whole, long, h))

plain-both : (head s rest text : List ℕ) → text ≡ head ++ s → has_quote text ≡ false
    → has_quote rest ≡ false → has_quote (s ++ rest) ≡ false
plain-both head s rest text is one other =
    let both : (has_quote head || has_quote s) ≡ false =
    sym (list_any-append is_quote head s) ∙ ap has_quote (sym is) ∙ one in
    list_any-append is_quote s rest
    ∙ or_none (has_quote s) (has_quote rest) (or_right (has_quote head) (has_quote s) both) other

with-first : (head body text : List ℕ) (more : List (List ℕ)) (from to : ℕ) → from ≤ to
    → IsBreak body from → IsBreak body to
    → text ≡ head ++ take (to - from) (drop from body) → has_quote text ≡ false
    → InStretches head (drop to body) more → InStretches head (drop from body) (text ∷ more)
with-first head body text more from to behind opens closes is plain others =
    let cut = split-once body from to behind in
    record {
      stretches = take (to - from) (drop from body) ∷ others.stretches;
      are = (drop to body, cut, border-at body from to behind opens closes, others.are);
      texts_are = ap (λ (t : List ℕ). t ∷ more) is
          ∙ ap (λ (ts : List (List ℕ)). (head ++ take (to - from) (drop from body)) ∷ ts)
          others.texts_are;
      plain = ap has_quote cut
          ∙ plain-both head (take (to - from) (drop from body)) (drop to body) text is plain
          others.plain;
    }

pub last-parts : (all : List ℕ) (count before from : ℕ) (texts : List (List ℕ)) → 0 < count
    → IsCut (drop (head_of all) all) (reach before count (length all) - head_of all) from
    → AreLastParts all count before texts → All (λ text. has_quote text ≡ false) texts
    → InStretches (take (head_of all) all) (drop from (drop (head_of all) all)) texts
last-parts all count before from [] some begins last plain =
    let none = none-behind all count before from some last begins in
    record {
      stretches = [];
      are = none;
      texts_are = refl;
      plain = ap has_quote none;
    }
last-parts all count before from (text ∷ more) some begins parts plain =
    let part = parts.0 in
    let is = parts.3 in
    let number : part.number - 1 ≡ before = let e = parts.1 in omega (arith, e) in
    let opens : IsCut (drop (head_of all) all) (reach before count (length all) - head_of all)
    is.from =
    subst (λ (n : ℕ). IsCut (drop (head_of all) all)
    (reach n count (length all) - head_of all) is.from) number
    (subst (λ (n : ℕ). IsCut (drop (head_of all) all)
    (reach (part.number - 1) n (length all) - head_of all) is.from) parts.2 is.begin) in
    let closes : IsCut (drop (head_of all) all)
    (reach (before + 1) count (length all) - head_of all) is.to =
    subst (λ (n : ℕ). IsCut (drop (head_of all) all)
    (reach n count (length all) - head_of all) is.to) parts.1
    (subst (λ (n : ℕ). IsCut (drop (head_of all) all)
    (reach part.number n (length all) - head_of all) is.to) parts.2 is.end) in
    let same : is.from ≡ from =
    same-cut (drop (head_of all) all) (reach before count (length all) - head_of all) is.from from
    opens begins in
    let wider = reach-more before count (length all) some in
    let behind : from ≤ is.to =
    in-order (drop (head_of all) all) (reach before count (length all) - head_of all)
    (reach (before + 1) count (length all) - head_of all) from is.to (omega (arith, wider)) begins
    closes in
    let text_is : text
    ≡ take (head_of all) all ++ take (is.to - from) (drop from (drop (head_of all) all)) =
    is.whole
    ∙ ap (λ n. take (head_of all) all ++ take (is.to - n) (drop n (drop (head_of all) all))) same in
    with-first (take (head_of all) all) (drop (head_of all) all) text more from is.to behind
    begins.break closes.break text_is (plain 0 text (omega arith))
    (last-parts all count (before + 1) is.to more some closes parts.4
    (λ k d below. plain (suc k) d (omega (arith, below))))
