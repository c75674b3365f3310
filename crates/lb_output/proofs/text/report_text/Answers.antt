use Rattle.std.proofs.Common.{◌<◌, [], length, arith, ap, sym, ◌∙◌, ◌++◌, get_or}
use Rattle.std.proofs.lemmas.List.{get_or-map, length-map}
use Rattle.lb_traces.specs.Traces.{trace_names, Trace}
use Rattle.lb_output.specs.Reports as spec
use Rattle.lb_check.specs.declared.verdict.Verdict.TheVariants.{Passed}
use Rattle.lb_output.proofs.ReportLines.{lines-drop, whole_after}
use Rattle.lb_output.proofs.text.report_text.Goals as goal

pub loop-k-preserved : goal.loop-k-preserved
loop-k-preserved c =
    let traces = c.args.set.now.traces in
    let traced : c.loop-k.k < length traces = omega arith in
    let count = length-map traces (λ (t : Trace). t.0) in
    let verdicts = c.args.verdicts.now in
    let here =
    lines-drop (trace_names traces) verdicts c.loop-k.k [] Passed
    (omega (arith, count)) (omega arith) in
    let verdict = get_or verdicts c.loop-k.k Passed in
    let named = get_or-map (λ (t : Trace). t.0) traces c.loop-k.k ([], []) [] traced in
    whole_after _ _ _ _ _ _
    (c.in_ok-push_line.ensures.text
    ∙ ap (λ name. c.loop-k.text.items ++ spec.line name verdict) (c.name.ensures ∙ sym named))
    here c.loop-k.invariant
