-- A refusal is certain where no records stand before.
use Rattle.std.proofs.Common.{inl}
use Rattle.lb_report.proofs.PartReads.{stopped_refused}
use Rattle.lb_report.proofs.rounds.Rounds.refusal.Goals as goal

pub returns-in-Early-clause-last : goal.returns-in-Early-clause-last
returns-in-Early-clause-last c = λ rows known. rw c.in-Early.is at known

pub returns-in-Refused-clause-last : goal.returns-in-Refused-clause-last
returns-in-Refused-clause-last c = λ rows known. inl (rw c.in-Refused.is at known)

pub returns-in-Stopped-clause-last : goal.returns-in-Stopped-clause-last
returns-in-Stopped-clause-last c = λ rows known.
    stopped_refused c.args.self.now.signature.now c.args.table.now rows c.in-Stopped.judged.roll
    c.in-Stopped.record.items c.refusal_of_line.result (rw c.in-Stopped.is at known)
    c.requires.table (rw c.as_slice-line.ensures.value at c.refusal_of_line.ensures)
