use Rattle.lb_expand.proofs.Words.{◌≡◌, ◌++◌, replicate}
use Rattle.lb_expand.proofs.variable_kinds.push_kind.Given as goal

abbrev pub invariant-loop-copy : goal.invariant-loop-copy
invariant-loop-copy l = l.kinds.items ≡ l.fn.kinds.items ++ replicate l.copy l.kind
