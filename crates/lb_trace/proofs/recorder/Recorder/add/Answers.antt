-- A record is one more instant of the last trace, or the first of another.
use Rattle.std.proofs.Common.{◌≡◌, Ok, sym, ap, ◌∙◌, inr, subst}
use Rattle.std.proofs.lemmas.Result.{on_ok_weaker}
use Rattle.csv.specs.Records.{fields_of}
use Rattle.lb_traces.specs.Traces.{Recording}
use Rattle.lb_trace.specs.declared.seen_names.SeenNames.{SeenNames}
use Rattle.lb_trace.specs.Mirrors.{go_on_by, knows, record_by, row_by, start_by}
use Rattle.lb_trace.specs.Refusals.{is_last}
use Rattle.lb_trace.specs.Spelling.{after_first}
use Rattle.lb_trace.proofs.Additions.{record_by-last, record_by-none, record_by-other}
use Rattle.lb_trace.proofs.KnownNames.{go_on_by-knows}
use Rattle.lb_trace.proofs.recorder.Recorder.add.Goals as goal

pub returns-in_default-clause-err : goal.returns-in_default-clause-err
returns-in_default-clause-err c =
    inr (record_by-none _ _ _ _ _ (sym c.in_default.ensures.value))

going : (c : goal.After-go_on)
    → record_by c.args.self.now.rows.signature c.args.table.now c.args.columns
    c.args.self.now.rows.traces (fields_of c.args.entry.now)
    ≡ go_on_by c.args.self.now.rows.signature c.args.self.now.rows.traces
    (row_by c.args.table.now (after_first (fields_of c.args.entry.now)))
going c =
    record_by-last c.args.self.now.rows.signature c.args.table.now c.args.columns
    c.args.self.now.rows.traces (fields_of c.args.entry.now) c.in-Some.name.now
    (sym c.in-Some.ensures.value) (sym c.width-cells.ensures ∙ c.if-cells-columns.false)
    c.requires.lawful.each
    (ap (λ (r : Recording). is_last c.in-Some.name.now r.traces) (sym c.set.ensures)
    ∙ sym c.if-is_last.ensures)

pub returns-then-is_last-clause-ok : goal.returns-then-is_last-clause-ok
returns-then-is_last-clause-ok c = rw (going c) c.go_on.ensures.ok

pub returns-then-is_last-clause-err : goal.returns-then-is_last-clause-err
returns-then-is_last-clause-err c = rw (going c) c.go_on.ensures.err

pub returns-then-is_last-clause-names : goal.returns-then-is_last-clause-names
returns-then-is_last-clause-names c =
    on_ok_weaker c.go_on.result
    (λ (gone : go_on_by c.args.self.now.rows.signature c.args.self.now.rows.traces
    (row_by c.args.table.now (after_first (fields_of c.args.entry.now)))
    ≡ Ok c.go_on.new.self.rows.traces).
    subst (λ (names : SeenNames). knows names c.go_on.new.self.rows.traces)
    (sym c.go_on.ensures.names)
    (go_on_by-knows _ _ _ _ _ gone c.requires.names)) c.go_on.ensures.ok

other : (c : goal.After-start)
    → record_by c.args.self.now.rows.signature c.args.table.now c.args.columns
    c.args.self.now.rows.traces (fields_of c.args.entry.now)
    ≡ start_by c.args.self.now.rows.signature c.in-Some.name.now c.args.self.now.rows.traces
    (row_by c.args.table.now (after_first (fields_of c.args.entry.now)))
other c =
    record_by-other _ _ _ _ _ _
    (sym c.in-Some.ensures.value) (sym c.width-cells.ensures ∙ c.if-cells-columns.false)
    (ap (λ (r : Recording). is_last c.in-Some.name.now r.traces) (sym c.set.ensures)
    ∙ sym c.if-is_last.ensures)

pub returns-else-is_last-clause-ok : goal.returns-else-is_last-clause-ok
returns-else-is_last-clause-ok c = rw (other c) c.start.ensures.ok

pub returns-else-is_last-clause-err : goal.returns-else-is_last-clause-err
returns-else-is_last-clause-err c = rw (other c) c.start.ensures.err
