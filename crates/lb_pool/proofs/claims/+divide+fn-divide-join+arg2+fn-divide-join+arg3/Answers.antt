-- The results of two halves, put together.
use Rattle.std.proofs.Common.{◌≡◌, ◌+◌, min, arith}
use Rattle.std.proofs.lemmas.Result.{IfOk-at_ok, IfOk-weaker}
use Rattle.lb_board.specs.Seats.{shares_of}
use Rattle.lb_pool.specs.Workers.{HasDrained, IsBoth}
use Rattle.lb_pool.proofs.Gathering.{gathered}
use Rattle.lb_pool.proofs.claims.+divide+fn-divide-join+arg2+fn-divide-join+arg3.Goals as goal

pub returns : goal.returns
returns g t c =
    let board = c.args.board.now in
    let p = g.W.Worker.program c.args.worker.now in
    let r = g.W.Worker.recording c.args.worker.now in
    let batches = g.W.Worker.batches c.args.worker.now in
    let all = shares_of c.args.seat in
    let a = shares_of c.split-left.result.0 in
    let b = shares_of c.split-left.result.1 in
    let one = c.in_ok-one.field-0 in
    let other = c.in_ok-other.field-0 in
    let first : HasDrained board a p r batches one =
    IfOk-at_ok (HasDrained board a p r batches) {r = c.join-one.result.0} c.in_ok-one.was
    c.join-one.ensures.first in
    let second : HasDrained board b p r batches other =
    IfOk-at_ok (HasDrained board b p r batches) {r = c.join-one.result.1} c.in_ok-other.was
    c.join-one.ensures.second in
    let sum : min 64 (a + b) ≡ all =
    omega (
      arith,
      c.split-left.ensures.shares.0,
      c.split-left.ensures.shares.1,
      c.args.seat.view.0,
      c.args.seat.part.1,
    ) in
    IfOk-weaker c.both_drained.result (IsBoth board one other) (HasDrained board all p r batches)
    (λ d both. gathered board a b all p r batches one other d first second sum both)
    c.both_drained.ensures
