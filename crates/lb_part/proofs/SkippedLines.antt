-- The newlines that a part of a text leaves out.
use Rattle.std.proofs.Common.{◌≡◌, ◌∙◌, ℕ, ◌+◌, ◌-◌, ◌≤◌, ◌==◌, cond, List, ◌++◌, length, take, drop}
use Rattle.std.proofs.Common.{ap, arith, subst, sym}
use Rattle.std.proofs.lemmas.List.{drop-drop, drop-take, take-append-drop, take-take}
use Rattle.std.proofs.lemmas.List.Sums.{sum_by-append}
use Rattle.lb_part.specs.Counts.{reach}
use Rattle.lb_part.specs.Cuts.{IsCut}
use Rattle.lb_part.specs.Heads.{head_of}
use Rattle.lb_part.specs.Ranges.{HasRange}
use Rattle.lb_part.specs.Skips.{AreSkipped, newlines_of}
use Rattle.lb_part.specs.declared.part.Part.{Part}
use Rattle.lb_part.proofs.ReadRanges.{range-is}

-- the bytes from `from` to `next` are those to `at`, and then a range
range-follows : (all range : List ℕ) (from at next : ℕ) → from ≤ at → at ≤ next
    → HasRange all at range → length range ≡ next - at
    → take (next - from) (drop from all) ≡ take (at - from) (drop from all) ++ range
range-follows all range from at next low high r long =
    let text = drop from all in
    let first = at - from in
    let more = next - at in
    let count : next - from ≡ first + more = omega (arith, low, high) in
    let place : from + first ≡ at = omega (arith, low) in
    let tail : drop first text ≡ drop at all =
    drop-drop first from all ∙ ap (λ n. drop n all) place in
    let last : take more (drop first text) ≡ range =
    ap (take more) tail ∙ ap (λ n. take n (drop at all)) (sym long) ∙ sym (range-is all at range r) in
    ap (λ n. take n text) count
    ∙ sym (take-append-drop first (take (first + more) text))
    ∙ ap (λ (w : List ℕ). w ++ drop first (take (first + more) text))
    (take-take first (first + more) text (omega arith))
    ∙ ap (λ (w : List ℕ). take first text ++ w) (drop-take first more text ∙ last)

-- the newlines up to `next` are those up to `at`, and those of the range between them
pub more-newlines : (all range : List ℕ) (from at next found more : ℕ) → from ≤ at → at ≤ next
    → HasRange all at range → length range ≡ next - at
    → found ≡ newlines_of (take (at - from) (drop from all)) → more ≡ newlines_of range
    → found + more ≡ newlines_of (take (next - from) (drop from all))
more-newlines all range from at next found more low high r long before is =
    let follows = range-follows all range from at next low high r long in
    let both = sum_by-append (λ (b : ℕ). cond (b == 10) 1 0) (take (at - from) (drop from all)) range in
    let sum : newlines_of (take (next - from) (drop from all))
    ≡ newlines_of (take (at - from) (drop from all)) + newlines_of range =
    ap newlines_of follows ∙ both in
    omega (arith, sum, before, is)

-- newlines that are counted from the head to the place of a part are those that it leaves out
pub lines-skipped : (all : List ℕ) (part : Part) (head begin from to lines : ℕ)
    → head ≡ head_of all
    → begin - head ≡ reach (part.number - 1) part.count (length all) - head
    → (head ≤ from) × IsCut (drop head all) (begin - head) (from - head)
    → to - head ≡ from - head
    → lines ≡ newlines_of (take (to - head) (drop head all)) → AreSkipped all part lines
lines-skipped all part head begin from to lines is place found same count =
    record {
      from = from - head;
      begin = subst (λ (n : ℕ). IsCut (drop n all)
          (reach (part.number - 1) part.count (length all) - n) (from - head)) is
          (subst (λ (n : ℕ). IsCut (drop head all) n (from - head)) place found.1);
      count = count
          ∙ ap (λ n. newlines_of (take n (drop head all))) same
          ∙ ap (λ n. newlines_of (take (from - head) (drop n all))) is;
    }
