-- The statements that are judged stand before those that are left.
use Rattle.lb_check.proofs.Words.{ap, context_in, is_resolved_statement_typed, map, ◌∙◌}
use Rattle.{lb_check.proofs.lists.ListPairs.taken_more, std.proofs.lemmas.List.take_all}
use Rattle.lb_check.proofs.shared.typed_statements.Goals as goal

pub loop-statement-preserved : goal.loop-statement-preserved
loop-statement-preserved c =
    let l = c.loop-statement in
    taken_more (is_resolved_statement_typed (context_in c.args.env.now))
    c.deref-statement-items.result.now l.statement-index c.statement-item.result
    l.settled.items c.push.new.self.items c.in_ok-is_statement_typed.field-0
    c.loop-statement-test.true c.statement-item.is c.in_ok-is_statement_typed.ensures.0
    c.in_ok-push.ensures.items l.invariant

pub returns : goal.returns
returns c =
    let l = c.loop-statement in
    l.invariant
    ∙ ap (map (is_resolved_statement_typed (context_in c.args.env.now)))
    (take_all l.statement-index c.deref-statement-items.result.now c.loop-statement-test.false
    ∙ c.deref-statement-items.ensures.value)
