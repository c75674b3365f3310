use Rattle.std.proofs.Common.{◌≡◌, take}
use Rattle.std.specs.Prelude.{flat_map}
use Rattle.lb_pool.proofs.spread.in_one_list.Given as goal

abbrev pub invariant-loop-batch : goal.invariant-loop-batch
invariant-loop-batch l =
    l.all.items ≡ flat_map (λ judged. judged.items) (take l.batch-index l.batches)
