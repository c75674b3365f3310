-- A record was not added behind the traces of a round.
use Rattle.std.proofs.Common.{◌∷◌, refl}
use Rattle.lb_trace.specs.Lines.{record_of}
use Rattle.lb_report.proofs.PartReads.{early_roll, part_early, part_stopped}
use Rattle.lb_report.proofs.QuotedTexts.{halt_on}
use Rattle.lb_report.proofs.rounds.Rounds.stop.Goals as goal

pub returns-in-Ok-clause-halt : goal.returns-in-Ok-clause-halt
returns-in-Ok-clause-halt c = λ table rows more is.
    part_stopped c.args.self.now.runner.program.now.program.now c.args.self.now.signature.now
    table rows more c.args.state c.in-Ok.roll c.set.result.now c.args.line.items
    (record_of c.args.line.items) is c.set.ensures c.in-Ok.ensures.ok refl

-- the traces of the round are refused behind the others
pub returns-clause-halt : goal.returns-clause-halt
returns-clause-halt c = λ table rows more is.
    halt_on c.args.self.now.signature.now table rows (record_of c.args.line.items ∷ more)
    c.in-Err.halt
    (part_early c.args.self.now.runner.program.now.program.now c.args.self.now.signature.now table
    rows c.args.state c.set.result.now c.in-Err.halt is c.set.ensures c.in-Err.ensures.err)

pub returns-clause-kept : goal.returns-clause-kept
returns-clause-kept c =
    early_roll c.args.state.judged.roll c.set.result.now c.in-Err.halt c.in-Err.ensures.err
