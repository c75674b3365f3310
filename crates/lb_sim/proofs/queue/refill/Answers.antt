-- The lanes that take members begin again.
use Rattle.std.proofs.Common.{refl}
use Rattle.lb_sim.proofs.Queueing.{nothing_taken, no_restart}
use Rattle.lb_sim.proofs.queue.refill.Goals as goal

pub returns-then-rest-queue-clause-taken : goal.returns-then-rest-queue-clause-taken
returns-then-rest-queue-clause-taken g c =
    let queue = c.args.queue.now in
    nothing_taken queue.members.now queue.lanes c.args.settled.0 c.args.places.now
    c.args.traces.now c.args.rest c.if-rest-queue.true

pub returns-then-rest-queue-clause-again : goal.returns-then-rest-queue-clause-again
returns-then-rest-queue-clause-again g c = no_restart c.args.run.now _ refl
