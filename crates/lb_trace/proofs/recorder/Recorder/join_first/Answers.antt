-- The first row of a trace is copied and added.
use Rattle.std.proofs.Common.{◌≡◌, ◌++◌, Ok, Some, sym, ap, ◌∙◌, arith}
use Rattle.std.proofs.lemmas.Result.{on_ok_weaker}
use Rattle.std.specs.Prelude.{[], get_or}
use Rattle.lb_traces.specs.Traces.{Row, trace_at}
use Rattle.lb_trace.specs.Mirrors.{add_by}
use Rattle.lb_trace.specs.Refusals.{is_last}
use Rattle.lb_trace.proofs.JoinedTraces.{instants-copied, last-added, row-lawful}
use Rattle.lb_trace.proofs.recorder.Recorder.join_first.Goals as goal

pub add_read-requires-clause-row : goal.add_read-requires-clause-row
add_read-requires-clause-row c =
    row-lawful _ _ _ _ _ c.requires.lawful c.requires.same c.requires.trace
    (omega (arith, c.length.ensures.instants, c.length.ensures.started))
    (c.in-Ok.ensures.ok
    ∙ ap (λ (r : Row). r ++ get_or (trace_at c.args.set.now.traces c.args.k).1 0 [])
    c.clear.ensures.items)

pub returns-clause-instants : goal.returns-clause-instants
returns-clause-instants c =
    let trace = trace_at c.args.set.now.traces c.args.k in
    on_ok_weaker c.add_read.result
    (λ (good : add_by c.args.self.now.rows.signature c.as_bytes.result.now
    c.args.self.now.rows.traces (Some c.copy_row.new.row.items)
    ≡ Ok c.add_read.new.self.rows.traces).
    instants-copied c.args.self.now.rows.signature c.as_bytes.result.now trace.0
    c.args.self.now.rows.traces c.add_read.new.self.rows.traces c.copy_row.new.row.items
    (get_or trace.1 0 []) good (c.as_bytes.ensures.value ∙ c.name.ensures)
    (c.in-Ok.ensures.ok ∙ ap (λ (r : Row). r ++ get_or trace.1 0 []) c.clear.ensures.items))
    c.add_read.ensures.ok

pub returns-clause-last : goal.returns-clause-last
returns-clause-last c =
    let next = c.add_read.new.self.rows.traces in
    on_ok_weaker c.add_read.result
    (λ (good : add_by c.args.self.now.rows.signature c.as_bytes.result.now
    c.args.self.now.rows.traces (Some c.copy_row.new.row.items) ≡ Ok next).
    ap (λ n. is_last n next) (sym (c.as_bytes.ensures.value ∙ c.name.ensures))
    ∙ last-added c.args.self.now.rows.signature c.as_bytes.result.now
    c.args.self.now.rows.traces next c.copy_row.new.row.items good)
    c.add_read.ensures.ok
