use Rattle.std.proofs.Common.{◌≡◌, ◌-◌, ◌≤◌, length, take}
use Rattle.lb_sim.specs.BatchRooms.{IsRoomFor}
use Rattle.lb_pool.specs.Runs.{AreJudged, numbers_of}
use Rattle.lb_pool.proofs.alone.run_queues.Given as goal

-- the first `done` traces are judged
abbrev pub invariant-queues : goal.invariant-queues
invariant-queues l = record {
  within : l.done ≤ length l.numbers;
  room : IsRoomFor l.work.program.now l.room;
  numbers : numbers_of l.judged.items ≡ take l.done l.numbers;
  judged : AreJudged l.work.program.now.program.now l.work.set.now l.judged.items;
}

abbrev pub decreases-queues : goal.decreases-queues
decreases-queues l = length l.numbers - l.done
