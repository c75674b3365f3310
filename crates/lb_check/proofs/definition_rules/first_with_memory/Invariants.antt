use Rattle.lb_check.proofs.Words.{◌≡◌, drop, first_broken, is_statement_memoryless}
use Rattle.lb_check.proofs.lists.ListPairs.{broken_from}
use Rattle.lb_check.proofs.definition_rules.first_with_memory.Given as goal

abbrev pub invariant-loop-j : goal.invariant-loop-j
invariant-loop-j l =
    let kept = is_statement_memoryless l.reached l.node in
    first_broken kept l.node.body.items ≡ broken_from kept l.j (drop l.j l.statement-items)
