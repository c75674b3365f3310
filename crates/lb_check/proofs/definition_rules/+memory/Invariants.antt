use Rattle.lb_check.proofs.Words.{◌≡◌, drop, list_all}
use Rattle.lb_check.specs.NodeDefinitions as mirror
use Rattle.lb_check.proofs.definition_rules.+memory.Given as goal

abbrev pub invariant-all_memoryless-loop-term : goal.invariant-all_memoryless-loop-term
invariant-all_memoryless-loop-term l =
    let kept = mirror.is_memoryless l.reached l.node in
    list_all kept l.terms ≡ list_all kept (drop l.term-index l.terms)
