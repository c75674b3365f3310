use Rattle.std.proofs.Common.{◌≡◌, ◌≤◌, ◌+◌, ◌*◌, length, take}
use Rattle.lb_traces.specs.Traces.{trace_names}
use Rattle.lb_board.specs.FollowSeats.{IsFollowSeatOf, right_of}
use Rattle.lb_output.specs.Follows.{Goes}
use Rattle.lb_output.specs.Reports.{lines}
use Rattle.lb_pool.proofs.follow_writer.write_lines.Given as goal

abbrev pub invariant-loop-k : goal.invariant-loop-k
invariant-loop-k g l = record {
  seat : IsFollowSeatOf l.board l.seat;
  verdicts : l.verdicts.items ≡ take l.k (right_of l.board);
  gone : Goes (g.S.Sink.taken l.fn.sink) (g.S.Sink.taken l.sink)
      (lines (trace_names l.set.traces) (take l.k (right_of l.board))) l.out.text.items
      0 l.out.count;
  short : l.out.count + length l.out.text.items ≤ 128 * l.k;
  failures : g.S.Sink.failures l.sink ≡ g.S.Sink.failures l.fn.sink;
}
