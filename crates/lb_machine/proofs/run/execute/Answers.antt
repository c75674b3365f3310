use Rattle.std.proofs.Common.{sym, subst, arith}
use Rattle.lb_machine.specs.Meaning.{lane_at, IsDone}
use Rattle.lb_machine.proofs.run.execute.Goals as goal

pub returns-in-Select-clause-done : goal.returns-in-Select-clause-done
returns-in-Select-clause-done c lane l =
    subst (IsDone (lane_at c.choose.new.planes c.args.words.now lane)) (sym c.in-Select.is)
    (c.choose.ensures.done lane (omega (arith, l, c.args.width.few)))
