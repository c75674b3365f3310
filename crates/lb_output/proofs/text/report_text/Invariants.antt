use Rattle.std.proofs.Common.{◌≡◌, ◌++◌, drop}
use Rattle.lb_traces.specs.Traces.{trace_names}
use Rattle.lb_output.specs.Reports as spec
use Rattle.lb_output.proofs.text.report_text.Given as goal

abbrev pub invariant-loop-k : goal.invariant-loop-k
invariant-loop-k l =
    l.text.items ++ spec.lines (drop l.k (trace_names l.set.traces)) (drop l.k l.verdicts)
    ≡ spec.lines (trace_names l.set.traces) l.verdicts
