-- The verdict of each member in the slice is the right one.
use Rattle.std.proofs.Common.{get_or, rules, subst}
use Rattle.lb_flat.specs.Correct.{IsVerdictOf}
use Rattle.lb_flat.specs.Programs.{program_of}
use Rattle.lb_sim.proofs.batch.run_queue_in.Goals as goal

pub returns-clause-judged : goal.returns-clause-judged
returns-clause-judged c k l =
    let h = c.run_queue_to.ensures.judged k l in
    subst
    (IsVerdictOf (program_of c.args.program.now.program.now) c.args.set.now
    (get_or c.args.members.now k 0))
    (search rules) h.right
