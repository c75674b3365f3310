-- The bytes of a text that are loaded.
use Rattle.std.proofs.Common.{◌≡◌, ◌∙◌, ℕ, ◌+◌, ◌-◌, ◌<◌, ◌≤◌, false, List, [], ◌++◌}
use Rattle.std.proofs.Common.{length, take, drop, refl, sym, ap, subst, append_assoc, arith}
use Rattle.std.specs.Prelude.{nat_eq}
use Rattle.std.proofs.lemmas.Bool.{eqb-true}
use Rattle.std.proofs.lemmas.Bool.Decides.{nat_tests}
use Rattle.std.proofs.lemmas.List.{drop-append-le, drop-drop, length-append, length-drop}
use Rattle.std.proofs.lemmas.List.{nil_from_length, take-append-drop}
use Rattle.lb_part.specs.Counts.{reach}
use Rattle.lb_part.specs.Cuts.{IsCut}
use Rattle.lb_part.specs.Heads.{head_of}
use Rattle.lb_part.specs.Parts.{IsPartOf}
use Rattle.lb_part.specs.Ranges.{HasRange, IsExtended}
use Rattle.lb_part.specs.Windows.{Follows, IsCutBy}
use Rattle.lb_part.specs.declared.part.Part.{Part}
use Rattle.lb_part.proofs.ReadRanges.{range-is}

-- nothing stands behind a range that goes to the end
none-behind : (all range : List ℕ) (from to size : ℕ) (r : HasRange all from range)
    → size ≡ length all → length range ≡ to - from → from ≤ to → to ≡ size → r.back ≡ []
none-behind all range from to size r whole long order last =
    let e = ap length r.whole in
    let f = length-append r.front (range ++ r.back) in
    let g = length-append range r.back in
    let p = r.place in
    nil_from_length r.back (omega (arith, e, f, g, p, whole, long, order, last))

-- ## Cuts

not-same : (a b : ℕ) → b ≤ a → nat_eq a b ≡ false → b < a
not-same a b order far = grind (arith, nat_tests)

pub cut-loaded : (all window : List ℕ) (head from to place size i : ℕ) → HasRange all from window
    → size ≡ length all → length window ≡ to - from → head ≤ from → from ≤ place → from ≤ to
    → IsCutBy (nat_eq from head) (nat_eq to size) window (place - from) i
    → (head ≤ from + i) × IsCut (drop head all) (place - head) (from + i - head)
cut-loaded all window head from to place size i r whole long low behind order by =
    let p = r.place in
    let front = length-drop head r.front in
    let body : drop head all ≡ drop head r.front ++ (window ++ r.back) =
    ap (drop head) r.whole ∙ drop-append-le head r.front (window ++ r.back) (omega (arith, p, low))
    in
    let found : IsCut (drop head r.front ++ (window ++ r.back))
    (length (drop head r.front) + (place - from)) (length (drop head r.front) + i) =
    by.cut (drop head r.front) r.back record {
      first = λ e.
          let same : from ≡ head = eqb-true from head e in
          nil_from_length (drop head r.front) (omega (arith, front, p, same));
      later = λ e. let more = not-same from head low e in omega (arith, front, p, more);
      last = λ e. none-behind all window from to size r whole long order (eqb-true to size e);
    } in
    let start : length (drop head r.front) + (place - from) ≡ place - head =
    omega (arith, front, p, low, behind) in
    let end : length (drop head r.front) + i ≡ from + i - head = omega (arith, front, p, low) in (
      omega (arith, low),
      subst (λ (n : ℕ). IsCut (drop head all) (place - head) n) end
          (subst (λ (n : ℕ). IsCut (drop head all) n (length (drop head r.front) + i)) start
          (subst (λ (t : List ℕ). IsCut t (length (drop head r.front) + (place - from))
          (length (drop head r.front) + i)) (sym body) found)),
    )

-- ## The head

pub head-loaded : (all window new : List ℕ) (to size end : ℕ) → HasRange all 0 window
    → size ≡ length all → length window ≡ to - 0
    → ((more : List ℕ) → Follows (nat_eq to size) more → head_of (window ++ more) ≡ end)
    → new ≡ take end window → (end ≡ head_of all) × HasRange all 0 new
head-loaded all window new to size end r whole long head is =
    let none : r.front ≡ [] = nil_from_length r.front r.place in
    let text : all ≡ window ++ r.back =
    r.whole ∙ ap (λ (front : List ℕ). front ++ (window ++ r.back)) none in
    let found = head r.back
    (λ e. none-behind all window 0 to size r whole long (omega arith) (eqb-true to size e)) in (
      sym found ∙ ap head_of (sym text),
      record {
        front = [];
        back = drop end window ++ r.back;
        whole = text
            ∙ ap (λ (w : List ℕ). w ++ r.back) (sym (take-append-drop end window))
            ∙ append_assoc (take end window) (drop end window) r.back
            ∙ ap (λ (w : List ℕ). w ++ (drop end window ++ r.back)) (sym is);
        place = refl;
      },
    )

-- ## A part

pub part-loaded : (all loaded new : List ℕ) (part : Part) (head begin end from to : ℕ)
    → head ≡ head_of all → length loaded ≡ head → HasRange all 0 loaded
    → begin - head ≡ reach (part.number - 1) part.count (length all) - head
    → end - head ≡ reach part.number part.count (length all) - head
    → (head ≤ from) × IsCut (drop head all) (begin - head) (from - head)
    → (head ≤ to) × IsCut (drop head all) (end - head) (to - head)
    → IsExtended all from (to - from) loaded new → IsPartOf all part new
part-loaded all loaded new part head begin end from to is long r one other first last more =
    let count : to - head - (from - head) ≡ to - from =
    let low = first.0 in let high = last.0 in omega (arith, low, high) in
    let place : head + (from - head) ≡ from = let low = first.0 in omega (arith, low) in
    let front : loaded ≡ take head all =
    range-is all 0 loaded r ∙ ap (λ n. take n all) long in
    let rest : more.range ≡ take (to - head - (from - head)) (drop (from - head) (drop head all)) =
    range-is all from more.range more.has
    ∙ ap (λ n. take n (drop from all)) (more.many ∙ sym count)
    ∙ ap (take (to - head - (from - head)))
    (ap (λ n. drop n all) (sym place) ∙ sym (drop-drop (from - head) head all)) in
    record {
      from = from - head;
      to = to - head;
      begin = subst (λ (n : ℕ). IsCut (drop n all)
          (reach (part.number - 1) part.count (length all) - n) (from - head)) is
          (subst (λ (n : ℕ). IsCut (drop head all) n (from - head)) one first.1);
      end = subst (λ (n : ℕ). IsCut (drop n all)
          (reach part.number part.count (length all) - n) (to - head)) is
          (subst (λ (n : ℕ). IsCut (drop head all) n (to - head)) other last.1);
      whole = more.whole
          ∙ ap (λ (w : List ℕ). w ++ more.range) front
          ∙ ap (λ (w : List ℕ). take head all ++ w) rest
          ∙ ap (λ n. take n all
          ++ take (to - head - (from - head)) (drop (from - head) (drop n all))) is;
    }
