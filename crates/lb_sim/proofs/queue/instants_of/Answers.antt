-- One more trace is counted.
use Rattle.std.proofs.Common.{◌+◌, sym, ap, ap₂, ◌∙◌, arith}
use Rattle.std.specs.List.{sum_by}
use Rattle.std.proofs.lemmas.List.{take_all}
use Rattle.std.proofs.lemmas.List.Sums.{sum_by_more}
use Rattle.lb_sim.specs.Queues.{length_of}
use Rattle.lb_sim.proofs.queue.instants_of.Goals as goal

pub loop-k-preserved : goal.loop-k-preserved
loop-k-preserved c =
    let queue = c.args.queue.now in (
      ap₂ (λ a b. a + b) c.loop-k.invariant.0 c.length-sum.ensures.instants
          ∙ sym
          (sum_by_more (length_of queue.set.now) queue.members.now c.loop-k.k 0
          c.loop-k-test.true),
      omega (arith, c.loop-k.invariant.1, c.length-sum.ensures.limit),
    )

pub returns-clause-sum : goal.returns-clause-sum
returns-clause-sum c =
    let queue = c.args.queue.now in
    c.loop-k.invariant.0
    ∙ ap (sum_by (length_of queue.set.now))
    (take_all c.loop-k.k queue.members.now (omega (arith, c.loop-k-test.false)))
