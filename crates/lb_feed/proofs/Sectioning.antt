-- Sections of a text, one after the other.
use Rattle.std.proofs.Common.{ℕ, ◌≡◌, ◌∙◌, ◌<◌, ◌≤◌, ◌*◌, ◌/◌, ◌⊎◌, List, [], ◌∷◌, ◌++◌}
use Rattle.std.proofs.Common.{zero, suc, refl, sym, ap, subst, arith, get_or, length}
use Rattle.std.proofs.Common.{length-append, inl, inr}
use Rattle.std.proofs.Common.{div-mul-le_self}
use Rattle.std.proofs.Math.ListN.{get_or-append}
use Rattle.std.proofs.Math.Nat.{eq-or-lt_of_le, mul-le-mul_left}
use Rattle.std.proofs.Math.Seq.{get_or-append_seam}
use Rattle.lb_feed.specs.SectionEnds.{start_of}

-- sections follow one another from `from` to `to`
pub record FollowOn (from to : ℕ) (ends : List ℕ) : Type 0 where
  pub last : start_of from ends (length ends) ≡ to
  pub ordered : (i : ℕ) → i < length ends → start_of from ends i ≤ get_or ends i 0

pub none_yet : (from : ℕ) → FollowOn from from []
none_yet from = record { last = refl; ordered = λ i within. absurd (omega arith) }

same_start : (from : ℕ) (ends more : List ℕ) (i : ℕ) → i ≤ length ends
    → start_of from (ends ++ more) i ≡ start_of from ends i
same_start from ends more zero within = refl
same_start from ends more (suc i) within =
    get_or-append ends more 0 i (omega (arith, within))

last_start : (from : ℕ) (ends : List ℕ) (end : ℕ)
    → start_of from (ends ++ end ∷ []) (suc (length ends)) ≡ end
last_start from ends end = get_or-append_seam ends end [] 0

one_longer : (ends : List ℕ) (end : ℕ) → length (ends ++ end ∷ []) ≡ suc (length ends)
one_longer ends end = omega (arith, length-append ends (end ∷ []))

-- sections up to `to`, and one more up to `end`, are sections up to `end`
pub one_more : (from to end : ℕ) (ends : List ℕ) → FollowOn from to ends → to ≤ end
    → FollowOn from end (ends ++ end ∷ [])
one_more from to end ends before within =
    let all = ends ++ end ∷ [] in
    let longer = one_longer ends end in
    record {
      last = ap (start_of from all) longer ∙ last_start from ends end;
      ordered = λ i there.
          let Is : ℕ → Type 0 = λ k. start_of from all k ≤ get_or all k 0 in
          let old : i < length ends → Is i = λ lt.
          let start = same_start from ends (end ∷ []) i (omega (arith, lt)) in
          let stop = get_or-append ends (end ∷ []) 0 i lt in
          omega (arith, start, stop, before.ordered i lt) in
          let new : i ≡ length ends → Is i = λ at.
          let start = same_start from ends (end ∷ []) (length ends) (omega arith) ∙ before.last in
          let stop = get_or-append_seam ends end [] 0 in
          let here : Is (length ends) = omega (arith, start, stop, within) in
          subst Is (sym at) here in
          let which : (i ≡ length ends) ⊎ (i < length ends) =
          eq-or-lt_of_le {n = i} {m = length ends} (omega (arith, longer, there)) in
          elim which [ inl at ↦ new at | inr lt ↦ old lt ];
    }

-- `k` of `count` equal parts of a size are within the size
pub part_within : (size count k : ℕ) → k < count → size / count * k ≤ size
part_within size count k within =
    let below : k ≤ count = omega (arith, within) in
    let less : size / count * k ≤ size / count * count = mul-le-mul_left (size / count) below in
    let all : size / count * count ≤ size = div-mul-le_self size count in
    omega (arith, less, all)

-- ## All sections together

unfoldable pub joined : List (List ℕ) → List ℕ
joined [] = []
joined (text ∷ texts) = text ++ joined texts
