-- The traces of a round are named and judged, or refused behind the others.
use Rattle.std.proofs.Common.{List, refl}
use Rattle.lb_feed.proofs.Passing.{passes_on}
use Rattle.lb_trace.specs.declared.error.TraceError.TheVariants.{Memory}
use Rattle.lb_trace.specs.declared.table.ColumnTable.{ColumnTable}
use Rattle.lb_trace.specs.Spelling.{Record}
use Rattle.lb_report.specs.JudgedParts.{HasRoll, IsHalt, IsPartRead}
use Rattle.lb_report.specs.declared.rounds.Halt.{Halt}
use Rattle.lb_report.specs.declared.rounds.Halt.TheVariants.{Refused}
use Rattle.lb_report.proofs.PartReads.{early_roll, ok_both, part_early, part_settled}
use Rattle.lb_report.proofs.rounds.Rounds.settle.Goals as goal

pub returns-in_err-roll-clause-err : goal.returns-in_err-roll-clause-err
returns-in_err-roll-clause-err g c =
    let p = c.args.self.now.runner.program.now.program.now in
    let elements = c.args.self.now.signature.now in
    let h = c.in_err-roll.field-0.0 in
    let Is : Halt → Type 0 = λ halt. (table : ColumnTable) → (rows : List Record)
    → IsPartRead p elements table rows c.args.state → IsHalt elements table rows halt in
    passes_on c.from_residual.result h Is c.from_residual.ensures.1
    (λ table rows is. part_early p elements table rows c.args.state c.set-set.result.now h is
    c.set-set.ensures c.in_err-roll.ensures.err)

pub returns-in_err-roll-clause-kept : goal.returns-in_err-roll-clause-kept
returns-in_err-roll-clause-kept g c =
    let h = c.in_err-roll.field-0.0 in
    passes_on c.from_residual.result h HasRoll c.from_residual.ensures.1
    (early_roll c.args.state.judged.roll c.set-set.result.now h c.in_err-roll.ensures.err)

pub returns-in_err-verdicts-clause-err : goal.returns-in_err-verdicts-clause-err
returns-in_err-verdicts-clause-err g c =
    let p = c.args.self.now.runner.program.now.program.now in
    let elements = c.args.self.now.signature.now in
    let e = Memory c.in_err-verdicts.field-0.0 in
    let Is : Halt → Type 0 = λ halt. (table : ColumnTable) → (rows : List Record)
    → IsPartRead p elements table rows c.args.state → IsHalt elements table rows halt in
    passes_on c.from_residual-in_err-verdicts.result (Refused e) Is
    c.from_residual-in_err-verdicts.ensures.1 (λ table rows is. refl)

pub returns-in_err-verdicts-clause-kept : goal.returns-in_err-verdicts-clause-kept
returns-in_err-verdicts-clause-kept g c =
    passes_on c.from_residual-in_err-verdicts.result
    (Refused (Memory c.in_err-verdicts.field-0.0)) HasRoll
    c.from_residual-in_err-verdicts.ensures.1 tt

pub returns-clause-ok : goal.returns-clause-ok
returns-clause-ok g c = λ table rows is.
    let both = ok_both c.run-found.result _ _ c.in_ok-verdicts.ensures c.run-found.ensures in
    part_settled c.args.self.now.runner.program.now.program.now c.args.self.now.signature.now
    table rows c.args.state _ both.0.items c.set-set.result.now is c.set-set.ensures
    c.in_ok-roll.ensures.ok both.2 both.1
