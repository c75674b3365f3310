-- One more statement that is resolved, and one that is refused.
use Rattle.std.proofs.Common.{◌+◌, map, sym, subst, take}
use Rattle.std.proofs.lemmas.List.{take_all}
use Rattle.std.proofs.lemmas.Result.{err_from_is_err_and}
use Rattle.lb_syntax.specs.SourceView.{view_statement}
use Rattle.lb_static.specs.Progressed.{progress}
use Rattle.lb_static.proofs.NodeBodies.{StatementsSoFar, fault_of_statement, next_step}
use Rattle.lb_static.proofs.NodeBodies.{none_so_far}
use Rattle.lb_static.proofs.resolving_statements.resolve_statements.Goals as goal

pub returns-in_err-resolve_statement : goal.returns-in_err-resolve_statement
returns-in_err-resolve_statement c =
    let p = err_from_is_err_and c.from_residual.result c.from_residual.ensures.1 in
    rw (p.1, p.2) (fault_of_statement (progress c.args.here.now) (progress c.loop-statement.here)
    c.in_err-resolve_statement.field-0.0 c.args.body.now c.loop-statement.statement-index
    c.statement-item.result c.loop-statement-test.true c.statement-item.is
    c.loop-statement.invariant.0 c.in_err-resolve_statement.ensures)

pub loop-statement-preserved : goal.loop-statement-preserved
loop-statement-preserved c =
    let start = progress c.args.here.now in
    let after = progress c.resolve_statement.new.here in
    let body = c.args.body.now in
    let r = next_step start (progress c.loop-statement.here) after c.loop-statement.statements.items
    body
    c.loop-statement.statement-index c.statement-item.result c.in_ok-resolve_statement.field-0
    c.loop-statement-test.true c.statement-item.is c.loop-statement.invariant
    c.in_ok-resolve_statement.ensures in
    subst (λ l. StatementsSoFar start after
    (map view_statement (take (c.loop-statement.statement-index + 1) body)) l)
    (sym c.in_ok-push.ensures.items) r

pub loop-statement-init : goal.loop-statement-init
loop-statement-init c =
    none_so_far (progress c.args.here.now) c.new-statements.result.items
    c.new-statements.ensures.items

pub returns : goal.returns
returns c =
    subst (λ l. StatementsSoFar (progress c.args.here.now) (progress c.loop-statement.here)
    (map view_statement l) c.loop-statement.statements.items)
    (take_all c.loop-statement.statement-index c.args.body.now c.loop-statement-test.false)
    c.loop-statement.invariant
