-- A record is added to a round that has room for it.
use Rattle.std.proofs.Common.{refl, ◌∷◌, []}
use Rattle.std.proofs.lemmas.Result.{err_from_is_err_and}
use Rattle.csv.specs.Records.{fields_of}
use Rattle.lb_report.proofs.PartReads.{part_one}
use Rattle.lb_report.proofs.QuotedTexts.{halt_on, part_kept}
use Rattle.lb_report.proofs.rounds.Rounds.begin_trace.Goals as goal

pub returns-in-Ok-clause-ok : goal.returns-in-Ok-clause-ok
returns-in-Ok-clause-ok g c = λ rows is.
    part_one c.args.self.now.runner.program.now.program.now c.args.self.now.signature.now
    c.args.table.now rows (fields_of c.args.entry.now) c.in_ok-state.state _
    (c.in_ok-state.ensures.ok c.args.table.now rows is) refl c.in-Ok.ensures.ok
    c.in-Ok.ensures.signature

pub returns-in-Err-clause-err : goal.returns-in-Err-clause-err
returns-in-Err-clause-err g c = λ rows is.
    c.refused_record.ensures.halt rows
    (part_kept c.args.self.now.runner.program.now.program.now c.args.self.now.signature.now
    c.args.table.now rows c.in_ok-state.state _ (c.in_ok-state.ensures.ok c.args.table.now rows is)
    refl c.in-Err.ensures.kept)

pub returns-in_err-state-clause-err : goal.returns-in_err-state-clause-err
returns-in_err-state-clause-err g c =
    let p = err_from_is_err_and c.from_residual.result c.from_residual.ensures.1 in
    rw (p.1, p.2) (λ rows is.
    halt_on c.args.self.now.signature.now c.args.table.now rows (fields_of c.args.entry.now ∷ [])
    c.in_err-state.field-0.0 (c.in_err-state.ensures.err c.args.table.now rows is))
