-- One queue after the other, each of `MOST_AT_ONCE` traces at most.
use Rattle.std.proofs.Common.{◌<◌, ◌+◌, ◌-◌, ◌++◌, length, take, drop, sym, ap, ◌∙◌}
use Rattle.std.proofs.Common.{subst}
use Rattle.std.proofs.Common.{arith}
use Rattle.std.proofs.Math.Seq.{take-add}
use Rattle.std.proofs.lemmas.List.{take_all}
use Rattle.std.proofs.lemmas.List.Elements.{All-drop, All-nil, All-take}
use Rattle.lb_pool.specs.Runs.{AreJudged, IsJudgedTrace, numbers_of}
use Rattle.lb_pool.proofs.alone.run_queues.Goals as goal

pub queues-init : goal.queues-init
queues-init c = record {
  within = omega arith;
  room = c.requires.room;
  numbers = ap numbers_of c.requires.nothing;
  judged = subst (AreJudged c.args.work.now.program.now.program.now c.args.work.now.set.now)
      (sym c.requires.nothing)
      (All-nil (IsJudgedTrace c.args.work.now.program.now.program.now c.args.work.now.set.now));
}

pub run_members-requires-clause-within : goal.run_members-requires-clause-within
run_members-requires-clause-within c =
    All-take (λ k. k < length c.args.work.now.set.now.traces) _
    (drop c.queues.done c.args.numbers.now)
    (All-drop (λ k. k < length c.args.work.now.set.now.traces) c.queues.done c.args.numbers.now
    c.requires.within)

pub queues-preserved : goal.queues-preserved
queues-preserved c =
    let numbers = c.args.numbers.now in
    let past = c.queues.done + c.min.result in
    record {
      within = omega (arith, c.queues-test.true, c.min.ensures);
      room = c.in_ok-room.ensures.room;
      numbers = c.in_ok-room.ensures.numbers
          ∙ ap (λ l. l ++ take (past - c.queues.done) (drop c.queues.done numbers))
          c.queues.invariant.numbers
          ∙ sym (take-add c.queues.done (past - c.queues.done) numbers)
          ∙ ap (λ n. take n numbers) (omega arith);
      judged = c.in_ok-room.ensures.judged;
    }

pub returns-clause-numbers : goal.returns-clause-numbers
returns-clause-numbers c =
    c.queues.invariant.numbers
    ∙ take_all c.queues.done c.args.numbers.now (omega (arith, c.queues-test.false))
