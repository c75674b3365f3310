-- The begins and ends of sections.
use Rattle.std.proofs.Common.{ℕ, zero, suc, ◌≡◌, ◌∙◌, ◌+◌, ◌-◌, ◌<◌, ◌≤◌, List, ap, arith}
use Rattle.std.proofs.Common.{get_or, length, sym}
use Rattle.lb_feed.specs.Ranges.{AreRangeEnds}
use Rattle.lb_feed.specs.SectionEnds.{AreEnds, start_of}

pub end_within : (from size : ℕ) (ends : List ℕ) → AreEnds from size ends → (left i : ℕ)
    → i + left + 1 ≡ length ends → get_or ends i 0 ≤ size
end_within from size ends are zero i is =
    let at : length ends - 1 ≡ i = omega (arith, is) in
    let same : get_or ends i 0 ≡ size =
    ap (λ k. get_or ends k 0) (sym at) ∙ are.last in
    omega (arith, same)
end_within from size ends are (suc left) i is =
    let up : get_or ends i 0 ≤ get_or ends (suc i) 0 =
    are.ordered (suc i) (omega (arith, is)) in
    let on : get_or ends (suc i) 0 ≤ size =
    end_within from size ends are left (suc i) (omega (arith, is)) in
    omega (arith, up, on)

pub range_past : (from size : ℕ) (ends : List ℕ) → AreRangeEnds from size ends → (i : ℕ)
    → i < length ends → get_or ends i 0 ≤ size
range_past from size ends are i within =
    end_within from size ends are.follow (length ends - 1 - i) i (omega (arith, within))

-- each section begins at `size` or before it
start_within : (from size : ℕ) (ends : List ℕ) → AreEnds from size ends → (left i : ℕ)
    → i + left ≡ length ends → start_of from ends i ≤ size
start_within from size ends are left zero is =
    let first : from ≤ get_or ends 0 0 = are.ordered 0 are.some in
    let on : get_or ends 0 0 ≤ size =
    end_within from size ends are (length ends - 1) 0 (omega (arith, are.some)) in
    omega (arith, first, on)
start_within from size ends are left (suc i) is =
    end_within from size ends are left i (omega (arith, is))

pub range_start : (from size : ℕ) (ends : List ℕ) → AreRangeEnds from size ends → (i : ℕ)
    → i ≤ length ends → start_of from ends i ≤ size
range_start from size ends are i within =
    start_within from size ends are.follow (length ends - i) i (omega (arith, within))

pub next_start : (from : ℕ) (ends : List ℕ) (k : ℕ) → start_of from ends (k + 1) ≡ get_or ends k 0
next_start from ends k = let one : k + 1 ≡ suc k = omega arith in ap (start_of from ends) one
