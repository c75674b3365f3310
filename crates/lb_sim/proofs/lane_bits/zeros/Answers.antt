use Rattle.std.proofs.Common.{ap, length, arith}
use Rattle.std.proofs.lemmas.List.{length_push}
use Rattle.lb_sim.proofs.ZeroLanes.{zero_more}
use Rattle.lb_sim.proofs.lane_bits.zeros.Goals as goal

pub loop-preserved : goal.loop-preserved
loop-preserved c =
    let more = c.in_ok-push.ensures.items in
    let one = length_push c.loop.words.items c.splat.result in
    record {
      count = omega (arith, ap length more, one, c.loop.invariant.count);
      zero =
          zero_more c.loop.words.items _ c.splat.result more c.loop.invariant.zero
          c.splat.ensures;
    }
