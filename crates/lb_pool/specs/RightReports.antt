-- The report on traces that a live report writes.
-- Source: this project's rule.
use Rattle.std.specs.Prelude.{ℕ, List}
use Rattle.lb_flat.specs.Programs.{program_of}
use Rattle.lb_flat.specs.RightVerdicts.{right_verdicts}
use Rattle.lb_traces.specs.Traces.{Recording, trace_names}
use Rattle.lb_flat.specs.declared.program.FlatProgram.{FlatProgram}
use Rattle.lb_output.specs.Reports.{report_of}

-- the report that lists the right verdict of each trace
abbrev pub right_report : FlatProgram → Recording → List ℕ
right_report p r = report_of (trace_names r.traces) (right_verdicts (program_of p) r)
