use Rattle.lb_expand.proofs.Words.{◌≡◌, ◌++◌, flat_map, take, statement_whens}
use Rattle.lb_expand.proofs.expansion.clock_uses.push_statements.Given as goal

abbrev pub invariant-loop-statement : goal.invariant-loop-statement
invariant-loop-statement l =
    l.names.items
    ≡ l.fn.names.items ++ flat_map statement_whens (take l.statement-index l.statements)
