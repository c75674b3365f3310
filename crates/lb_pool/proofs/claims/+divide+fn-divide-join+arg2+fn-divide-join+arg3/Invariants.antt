use Rattle.std.proofs.Common.{◌-◌, ◌+◌, ◌*◌}
use Rattle.lb_pool.proofs.claims.+divide+fn-divide-join+arg2+fn-divide-join+arg3.Given as goal

abbrev pub decreases-join+arg2 : goal.decreases-join+arg2
decreases-join+arg2 g l = 2 * (l.workers - l.half) + 1

abbrev pub decreases-join+arg3 : goal.decreases-join+arg3
decreases-join+arg3 g l = 2 * l.half + 1

abbrev pub decreases-divide : goal.decreases-divide
decreases-divide g l = 2 * l.workers
