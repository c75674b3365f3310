-- A record was not added behind the traces of a round.
use Rattle.std.proofs.Common.{◌∷◌, []}
use Rattle.csv.specs.Records.{fields_of}
use Rattle.lb_report.proofs.PartReads.{early_roll, part_early, part_refused}
use Rattle.lb_report.proofs.QuotedTexts.{halt_on}
use Rattle.lb_report.proofs.rounds.Rounds.refused_record.Goals as goal

pub returns-in-Ok-clause-halt : goal.returns-in-Ok-clause-halt
returns-in-Ok-clause-halt c = λ rows is.
    part_refused c.args.self.now.runner.program.now.program.now c.args.self.now.signature.now
    c.args.table.now rows (fields_of c.args.entry.now) c.args.state c.in-Ok.roll c.set.result.now
    c.refusal_of.result is c.set.ensures c.in-Ok.ensures.ok c.refusal_of.ensures c.requires.table

pub returns-clause-halt : goal.returns-clause-halt
returns-clause-halt c = λ rows is.
    halt_on c.args.self.now.signature.now c.args.table.now rows (fields_of c.args.entry.now ∷ [])
    c.in-Err.halt
    (part_early c.args.self.now.runner.program.now.program.now c.args.self.now.signature.now
    c.args.table.now rows c.args.state c.set.result.now c.in-Err.halt is c.set.ensures
    c.in-Err.ensures.err)

pub returns-clause-kept : goal.returns-clause-kept
returns-clause-kept c =
    early_roll c.args.state.judged.roll c.set.result.now c.in-Err.halt c.in-Err.ensures.err
