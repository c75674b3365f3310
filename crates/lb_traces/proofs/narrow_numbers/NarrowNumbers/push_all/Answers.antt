use Rattle.std.proofs.Common.{arith}
use Rattle.lb_traces.proofs.PushedLists.{chunk-pushed}
use Rattle.lb_traces.proofs.narrow_numbers.NarrowNumbers.push_all.Goals as goal

pub loop-done-preserved : goal.loop-done-preserved
loop-done-preserved c = record {
  pushed =
      chunk-pushed _ _ _ _ _ _ c.loop-done.invariant.pushed c.push_chunk.ensures.items;
  within = omega (arith, c.loop-done-test.true, c.min-count.ensures);
  room = omega (arith, c.loop-done.invariant.room, c.push_chunk.ensures.room);
}
