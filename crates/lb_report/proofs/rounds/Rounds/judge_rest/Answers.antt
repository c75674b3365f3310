-- A refusal of the rest is certain.
use Rattle.lb_report.proofs.RestReads.{rest_refused}
use Rattle.lb_report.proofs.rounds.Rounds.judge_rest.Goals as goal

pub returns-in-Err-clause-err : goal.returns-in-Err-clause-err
returns-in-Err-clause-err g c = λ rows is.
    rest_refused c.args.self.now.signature.now c.args.table.now rows _ _ _ _ c.in-Err.halt
    c.refusal.result (c.in-Err.ensures.err rows is) c.refusal.ensures.load c.refusal.ensures.last
