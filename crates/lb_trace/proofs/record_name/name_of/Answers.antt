-- The name that is compared first is that of the last trace.
use Rattle.std.proofs.Common.{arith, length, sym, ap, ◌∙◌, ◌≡◌, ◌<◌, ◌-◌}
use Rattle.std.specs.Str.{bytes_eq}
use Rattle.lb_traces.specs.Traces.{trace_at}
use Rattle.lb_trace.proofs.FirstCells.{first-after, first-record}
use Rattle.lb_trace.proofs.Lasts.{is_last_at}
use Rattle.lb_trace.proofs.Names.{bytes_eq-same}
use Rattle.lb_trace.proofs.Nexts.{named-first}
use Rattle.lb_trace.proofs.record_name.name_of.Goals as goal

pub returns-in-Some-clause-cells : goal.returns-in-Some-clause-cells
returns-in-Some-clause-cells c =
    let cell = c.in-Some.cell in
    first-record _ _ _ cell.is_last (named-first _ _ _ _ _ c.in-Some.ensures)

pub returns-in-Some-clause-after : goal.returns-in-Some-clause-after
returns-in-Some-clause-after c =
    let cell = c.in-Some.cell in
    first-after _ _ _ _ (named-first _ _ _ _ _ c.in-Some.ensures)

pub returns-in-Some-clause-same : goal.returns-in-Some-clause-same
returns-in-Some-clause-same c =
    let traces = c.args.set.now.traces in
    let bytes = c.in-Some.cell.bytes.now in
    let k = c.len-count.result - 1 in
    let some : 0 < length traces = omega (arith, c.len-count.ensures.count, c.if-count-gt0.true) in
    let name : bytes ≡ (trace_at traces k).0 =
    c.in-Some.ensures.name_is ∙ c.as_bytes.ensures.value ∙ c.name.ensures in
    sym (is_last_at bytes traces k some (omega (arith, c.len-count.ensures.count))
    ∙ ap (bytes_eq bytes) (sym name) ∙ bytes_eq-same bytes)
