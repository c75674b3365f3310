-- Each pass adds the variables that the clocks of one statement name.
use Rattle.lb_expand.proofs.Words.{◌++◌, ◌∙◌, ap, flat_map, take_all, statement_whens}
use Rattle.lb_expand.proofs.numbering.RowInstances.{piece_added}
use Rattle.lb_expand.proofs.expansion.clock_uses.push_statements.Goals as goal

pub loop-statement-preserved : goal.loop-statement-preserved
loop-statement-preserved c =
    let l = c.loop-statement in
    let s = c.statement-item.result in
    piece_added statement_whens c.args.statements.now l.statement-index s
    c.args.names.now.items l.names.items c.push_statement.new.names.items
    c.loop-statement-test.true l.invariant
    (c.in_ok-push_statement.ensures
    ∙ ap (λ x. l.names.items ++ statement_whens x) c.statement-item.is)

pub returns : goal.returns
returns c =
    let l = c.loop-statement in
    l.invariant
    ∙ ap (λ ss. c.args.names.now.items ++ flat_map statement_whens ss)
    (take_all l.statement-index c.args.statements.now c.loop-statement-test.false)
