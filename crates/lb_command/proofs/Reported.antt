-- A report of the bench lists its traces.
use Rattle.std.proofs.Common.{◌≡◌, List, sym, subst}
use Rattle.lb_syntax.specs.Tokens.{Text}
use Rattle.lb_traces.specs.Traces.{IsRecording, trace_names}
use Rattle.lb_output.specs.declared.text.Report.{Report}
use Rattle.lb_report.specs.Bench.{IsBenchReport, IsReportOn}
use Rattle.lb_refusal.specs.declared.options.Options.{Options}
use Rattle.lb_listing.specs.Listings.{Line, Lists}
use Rattle.lb_part_laws.proofs.ReportLines.{lines_of, listed}

-- a report of the bench lists its traces
pub bench_lists : (source traces : Text) (options : Options) (told : Report)
    → IsBenchReport source traces options told
    → (lines : List Line) × Lists told.text.items lines
bench_lists source traces options told is =
    let on = is.holds in
    let r = on.recording in
    let lawful : IsRecording r =
    subst (λ e. IsRecording record { signature = e; traces = r.traces })
    (sym on.recorded.under_signature) on.recorded.text_spells_it.lawful in (
      lines_of (trace_names r.traces) on.verdicts,
      listed _ r on.verdicts told lawful on.judged on.reported,
    )
