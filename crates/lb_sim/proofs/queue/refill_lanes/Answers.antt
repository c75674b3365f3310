-- The settled lanes take members one by one.
use Rattle.std.proofs.Common.{◌+◌, ◌-◌, ◌<◌, arith}
use Rattle.lb_sim.proofs.Queueing.{none_taken, taken_more, taken_on}
use Rattle.lb_sim.proofs.queue.refill_lanes.Goals as goal

pub loop-left-init : goal.loop-left-init
loop-left-init c =
    let queue = c.args.queue.now in
    let places = c.args.places.now in
    let traces = c.args.traces.now in
    record {
      done =
          taken_on queue.members.now queue.lanes c.args.settled.0 queue.few places traces
          c.args.rest places traces 0 c.args.rest 0
          (none_taken queue.members.now queue.lanes c.args.settled.0 queue.few places traces
          c.args.rest c.requires.rest.0)
          c.next_lane-lane.result (omega arith) c.next_lane-lane.ensures.none;
      within = c.next_lane-lane.ensures.within.1;
      there = c.next_lane-lane.ensures.there;
    }

pub loop-left-preserved : goal.loop-left-preserved
loop-left-preserved c =
    let queue = c.args.queue.now in
    let places = c.args.places.now in
    let traces = c.args.traces.now in
    let now = c.loop-left in
    let next = c.next_lane-lane-in-loop-left in
    let few : now.lane < 64 = omega (arith, c.if-lane-queue.true, queue.few) in
    record {
      done =
          taken_on queue.members.now queue.lanes c.args.settled.0 queue.few places traces
          c.args.rest c.take_place.new.places c.take_place.new.traces
          c.with_lane-lanes.result (now.left - 1) (now.lane + 1)
          (taken_more queue.members.now queue.lanes c.args.settled.0 queue.few places traces
          c.args.rest now.places now.traces now.lanes now.left now.lane now.invariant.done
          c.take_place.new.places c.take_place.new.traces c.with_lane-lanes.result
          (now.left - 1) few c.if-lane-queue.true c.loop-left-test.true
          (let some = c.loop-left-test.true in omega (arith, some))
          (now.invariant.there few) c.with_lane-lanes.ensures c.take_place.ensures)
          next.result next.ensures.within.0 next.ensures.none;
      within = next.ensures.within.1;
      there = next.ensures.there;
    }
