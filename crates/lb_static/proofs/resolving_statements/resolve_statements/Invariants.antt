use Rattle.std.proofs.Common.{◌≡◌, true, map, take}
use Rattle.std.specs.List.{list_all}
use Rattle.lb_syntax.specs.SourceView.{view_statement}
use Rattle.lb_static.specs.NodeProgress.{after_statements, statement_fits, StatementsStand}
use Rattle.lb_static.specs.Progressed.{progress}
use Rattle.lb_static.proofs.resolving_statements.resolve_statements.Given as goal

abbrev pub invariant-loop-statement : goal.invariant-loop-statement
invariant-loop-statement l =
    let so_far = map view_statement (take l.statement-index l.body) in
    (progress l.here ≡ after_statements (progress l.fn.here) so_far)
    × StatementsStand (progress l.here) so_far l.statements.items
    × (list_all (statement_fits (progress l.fn.here)) so_far ≡ true)
