-- The lane has the place and its trace.
use Rattle.std.proofs.Common.{◌<◌, length, arith}
use Rattle.lb_sim.proofs.Queueing.{taken_by}
use Rattle.lb_sim.proofs.queue.take_place.Goals as goal

pub returns : goal.returns
returns c =
    let lane = c.args.lane in
    let few = c.args.queue.now.few in
    let in_places : lane < length c.args.places.now =
    omega (arith, c.requires.lane, few, c.told-places) in
    let in_traces : lane < length c.args.traces.now =
    omega (arith, c.requires.lane, few, c.told-traces) in
    taken_by c.args.queue.now.members.now c.args.places.now c.args.traces.now lane c.args.place
    in_places in_traces
