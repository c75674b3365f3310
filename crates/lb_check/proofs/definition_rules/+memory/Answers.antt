use Rattle.lb_check.proofs.Words.{ap, sym, ◌∙◌, ◌&&◌, list_all}
use Rattle.lb_check.proofs.definitions.Defining.{memoryless_call, memoryless_row}
use Rattle.lb_check.specs.NodeDefinitions as mirror
use Rattle.lb_check.proofs.definition_rules.+memory.Goals as goal

pub is_memoryless-returns-then-calls_function : goal.is_memoryless-returns-then-calls_function
is_memoryless-returns-then-calls_function t c =
    let r = c.args.reached.now in
    let n = c.args.node.now in
    let free = mirror.is_memoryless r n in
    c.all_memoryless.ensures ∙ ap (list_all free) c.deref-then-calls_function.ensures.value
    ∙ ap (λ b. b && list_all free c.in-Call.terms.items)
    (sym c.if-calls_function.true ∙ c.calls_function.ensures)
    ∙ sym (memoryless_call r n c.args.term.now c.in-Call.call c.in-Call.terms c.in-Call.is)

pub is_memoryless-returns-in-Array : goal.is_memoryless-returns-in-Array
is_memoryless-returns-in-Array t c =
    let r = c.args.reached.now in
    let n = c.args.node.now in
    c.all_memoryless-in-Array.ensures
    ∙ ap (list_all (mirror.is_memoryless r n)) c.deref-in-Array.ensures.value
    ∙ sym (memoryless_row r n c.args.term.now c.in-Array.terms c.in-Array.is)
