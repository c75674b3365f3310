use Rattle.std.proofs.Common.{sym, subst}
use Rattle.lb_flat.specs.Programs.{program_of}
use Rattle.lb_sim.specs.Correct.{HasVerdict, TakesVerdicts}
use Rattle.lb_sim.specs.declared.program.LaneProgram.{LaneProgram}
use Rattle.lb_sim.proofs.batch.run_queue_to.Goals as goal

pub run_queue-requires-clause-takes : goal.run_queue-requires-clause-takes
run_queue-requires-clause-takes g c =
    subst
    (λ (p : LaneProgram).
    TakesVerdicts (program_of p.program.now) c.args.set.now c.args.members.now
    (g.V.Verdicts.takes c.args.verdicts.now))
    (sym c.begin-run.ensures.program) c.requires.takes

pub returns-clause-judged : goal.returns-clause-judged
returns-clause-judged g c k l =
    subst
    (λ (p : LaneProgram).
    HasVerdict (program_of p.program.now) c.args.set.now c.args.members.now
    (g.V.Verdicts.has c.run_queue.new.verdicts) k)
    c.begin-run.ensures.program (c.run_queue.ensures.judged k l)
