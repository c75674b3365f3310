-- The right verdicts of recorded traces: those of the flat program's own runs.
-- Source: this project's rule.
use Rattle.std.specs.Prelude.{ℕ, List, length, map}
use Rattle.std.specs.List.{range_with_len}
use Rattle.lb_check.specs.declared.verdict.Verdict.{Verdict}
use Rattle.lb_flat.specs.Inputs.{inputs_of}
use Rattle.lb_flat.specs.Judging.{FlatProgram, flat_verdict}
use Rattle.lb_traces.specs.Traces.{Recording}

-- the right verdict of trace k
abbrev pub right_verdict : FlatProgram → Recording → ℕ → Verdict
right_verdict f r k = flat_verdict f (inputs_of r k)

-- the right verdict of each trace, in the traces' order
abbrev pub right_verdicts : FlatProgram → Recording → List Verdict
right_verdicts f r = map (right_verdict f r) (range_with_len 0 (length r.traces))
