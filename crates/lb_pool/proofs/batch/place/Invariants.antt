use Rattle.std.proofs.Common.{◌≡◌, take}
use Rattle.lb_pool.specs.Runs.{placed}
use Rattle.lb_pool.proofs.batch.place.Given as goal

abbrev pub invariant-loop-j : goal.invariant-loop-j
invariant-loop-j l = l.verdicts ≡ placed l.fn.verdicts (take l.j-index l.judged)
