use Rattle.std.proofs.Common.{◌≡◌, ◌++◌, take}
use Rattle.lb_pool.specs.Runs.{numbers_of, AreJudged}
use Rattle.lb_pool.proofs.batch.push_judged.Given as goal

abbrev pub invariant-loop-j : goal.invariant-loop-j
invariant-loop-j l =
    (numbers_of l.judged.items ≡ numbers_of l.fn.judged.items ++ take l.j l.members)
    × AreJudged l.work.program.now.program.now l.work.set.now l.judged.items
