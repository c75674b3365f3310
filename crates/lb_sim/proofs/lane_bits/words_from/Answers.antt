use Rattle.std.proofs.Common.{◌≡◌, ℕ, ◌+◌, ◌-◌, ◌<◌, List, get_or, take, drop, ap, ◌∙◌, arith}
use Rattle.std.proofs.lemmas.List.{get_or-take, get_or-drop}
use Rattle.lb_sim.proofs.lane_bits.words_from.Goals as goal

part : (rows : List ℕ) (first i : ℕ) → i < 64 →
    get_or (take (first + 64 - first) (drop first rows)) i 0 ≡ get_or rows (first + i) 0
part rows first i h =
    let lt : i < first + 64 - first = omega (arith, h) in
    get_or-take (first + 64 - first) (drop first rows) i 0 lt ∙ get_or-drop first rows i 0

pub returns : goal.returns
returns c i h =
    ap (λ xs. get_or xs i 0) c.copy_from_slice.ensures.after ∙ part c.args.rows.now c.args.first i h
