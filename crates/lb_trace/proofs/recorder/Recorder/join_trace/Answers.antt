-- The first row of a trace, and the others.
use Rattle.std.proofs.Common.{◌≡◌}
use Rattle.std.proofs.lemmas.Result.{on_ok_weaker}
use Rattle.std.specs.Prelude.{◌++◌, drop, map}
use Rattle.lb_traces.specs.Traces.{Row, trace_at}
use Rattle.lb_trace.specs.Spelling.{instants}
use Rattle.lb_trace.proofs.JoinedTraces.{trace-started, trace-whole}
use Rattle.lb_trace.proofs.recorder.Recorder.join_trace.Goals as goal

pub returns-clause-instants : goal.returns-clause-instants
returns-clause-instants c =
    let trace = trace_at c.args.set.now.traces c.args.k in
    let first = instants c.join_first.new.self.rows.traces in
    let after = instants c.join_others.new.self.rows.traces in
    on_ok_weaker c.join_others.result
    (λ (others : after ≡ first ++ map (λ (row : Row). (trace.0, row)) (drop 1 trace.1)).
    trace-whole _ _ _ _ _
    (trace-started c.args.set.now c.args.k c.signature.ensures.lawful c.requires.trace)
    c.in_ok-join_first.ensures.instants others)
    c.join_others.ensures.instants
