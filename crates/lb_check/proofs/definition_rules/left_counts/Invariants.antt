use Rattle.lb_check.proofs.Words.{◌≡◌, ◌+◌, ◌<◌, ℕ, min, length, slice_index, drop}
use Rattle.lb_check.specs.NodeDefinitions as mirror
use Rattle.lb_check.proofs.definition_rules.left_counts.Given as goal

abbrev pub invariant-loop-statement : goal.invariant-loop-statement
invariant-loop-statement l =
    (length l.counts.items ≡ l.variables)
    × ((i : ℕ) → i < l.variables
    → min 2 (slice_index l.counts.items i
    + mirror.count_statements i (drop l.statement-index l.body))
    ≡ min 2 (mirror.count_statements i l.body))
