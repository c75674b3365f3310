use Rattle.lb_check.proofs.Words.{◌≡◌, ◌+◌, ◌<◌, ℕ, min, length, slice_index, drop}
use Rattle.lb_check.specs.NodeDefinitions as mirror
use Rattle.lb_check.proofs.definition_rules.count.Given as goal

abbrev pub invariant-loop-x : goal.invariant-loop-x
invariant-loop-x l =
    (length l.counts ≡ length l.fn.counts)
    × ((i : ℕ) → i < length l.counts
    → min 2 (slice_index l.counts i + mirror.count_left i (drop l.x-index l.lefts))
    ≡ min 2 (slice_index l.fn.counts i + mirror.count_left i l.lefts))
