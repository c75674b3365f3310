-- The report on a file that is judged in sections, or the refusal of its traces.
use Rattle.std.proofs.Common.{◌≤◌, Err, arith, subst, sym}
use Rattle.lb_report.specs.RangeAnswers.{IsFileAnswer}
use Rattle.lb_report.specs.Ranges.{IsFileJudged}
use Rattle.lb_report.specs.declared.feeding.FeedFault.{FeedFault}
use Rattle.lb_report.proofs.RangeAnswering.{outcome_long, range_answered, range_faulted}
use Rattle.lb_report.proofs.feeding.bench_ranges.Goals as goal

pub report_of-requires : goal.report_of-requires
report_of-requires g c =
    let p = c.in-Ok.program.ordered.program in
    let elements = c.in-Ok.program.signature in
    let bytes = g.F.PlacedFile.bytes c.args.file.now in
    let may_fail = g.F.PlacedFile.may_fail in
    outcome_long p elements bytes c.in-Ok-found.judged
    (subst (IsFileJudged p elements bytes may_fail) c.in-Ok-found.is c.in_ok-found.ensures)

pub returns-in-Ok-found : goal.returns-in-Ok-found
returns-in-Ok-found g c =
    let p = c.in-Ok.program.ordered.program in
    let elements = c.in-Ok.program.signature in
    let bytes = g.F.PlacedFile.bytes c.args.file.now in
    let may_fail = g.F.PlacedFile.may_fail in
    let is =
    subst (IsFileJudged p elements bytes may_fail) c.in-Ok-found.is c.in_ok-found.ensures in
    let short : c.size-size.result ≤ 1073741824 = omega (arith, c.if-size.false) in
    range_answered c.args.source.now c.args.options.now bytes may_fail c.in-Ok.program
    c.in-Ok.ensures.ok c.in-Ok-found.judged c.size-size.result c.report_of.result is short
    c.report_of.ensures.ok c.report_of.ensures.err

pub returns : goal.returns
returns g c =
    let p = c.in-Ok.program.ordered.program in
    let elements = c.in-Ok.program.signature in
    let source = c.args.source.now in
    let options = c.args.options.now in
    let bytes = g.F.PlacedFile.bytes c.args.file.now in
    let may_fail = g.F.PlacedFile.may_fail in
    let Is : FeedFault → Type 0 = λ f. IsFileAnswer source bytes may_fail options (Err f) in
    subst Is (sym c.fault_of.ensures)
    (range_faulted source options bytes may_fail c.in-Ok.program c.in-Ok.ensures.ok c.in-Err.halt
    (subst (IsFileJudged p elements bytes may_fail) c.in-Err.is c.in_ok-found.ensures))
