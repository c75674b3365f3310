use Rattle.lb_check.proofs.Words.{◌≡◌, map, take, context_in, is_resolved_statement_typed}
use Rattle.lb_check.proofs.shared.typed_statements.Given as goal

abbrev pub invariant-loop-statement : goal.invariant-loop-statement
invariant-loop-statement l =
    let typed = is_resolved_statement_typed (context_in l.env) in
    l.settled.items ≡ map typed (take l.statement-index l.statement-items)
