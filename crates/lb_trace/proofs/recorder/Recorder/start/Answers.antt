-- A name that is lawful and new begins a trace.
use Rattle.std.proofs.Common.{◌≡◌, false, Ok, sym, ap, ◌∙◌, subst, inr, ℕ, List}
use Rattle.std.proofs.lemmas.Result.{on_ok_weaker}
use Rattle.std.specs.List.{list_any}
use Rattle.std.specs.Str.{bytes_eq}
use Rattle.csv.specs.Records.{fields_of}
use Rattle.lb_traces.specs.Traces.{Recording, Row, Trace, with_trace}
use Rattle.lb_trace.specs.declared.seen_names.SeenNames.{SeenNames}
use Rattle.lb_trace.specs.Mirrors.{knows, row_by, start_by, start_cells}
use Rattle.lb_trace.specs.Spelling.{after_first}
use Rattle.lb_trace.proofs.Additions.{start_by-new, start_by-refused}
use Rattle.lb_trace.proofs.KnownNames.{start_cells-knows}
use Rattle.lb_trace.proofs.Soundness.{none_contains}
use Rattle.lb_trace.proofs.recorder.Recorder.start.Goals as goal

pub take-requires : goal.take-requires
take-requires c =
    subst (λ (r : Recording). knows c.args.self.now.names r.traces) (sym c.set.ensures)
    c.requires.names

pub returns-in_default-clause-err : goal.returns-in_default-clause-err
returns-in_default-clause-err c =
    inr (start_by-refused c.args.self.now.rows.signature c.args.name.now
    c.args.self.now.rows.traces (row_by c.args.table.now (after_first (fields_of c.args.entry.now)))
    (list_any (λ (t : Trace). bytes_eq c.args.name.now t.0) c.set.result.now.traces)
    (ap (λ (r : Recording). list_any (λ (t : Trace). bytes_eq c.args.name.now t.0) r.traces)
    c.set.ensures)
    (rw c.in_default.is at c.in_ok-text.ensures.found))

pub begin-requires-clause-fresh : goal.begin-requires-clause-fresh
begin-requires-clause-fresh c =
    let found = rw c.in-Some.is at c.in_ok-text.ensures.found in
    let none : list_any (λ (t : Trace). bytes_eq c.args.name.now t.0) c.args.self.now.rows.traces
    ≡ false =
    ap (λ (r : Recording). list_any (λ (t : Trace). bytes_eq c.args.name.now t.0) r.traces)
    (sym c.set.ensures) ∙ found.2 in
    rw found.0 (none_contains c.args.name.now c.args.self.now.rows.traces none)

new_start : (c : goal.After-begin)
    → start_by c.args.self.now.rows.signature c.args.name.now c.args.self.now.rows.traces
    (row_by c.args.table.now (after_first (fields_of c.args.entry.now)))
    ≡ start_cells c.args.self.now.rows.signature c.in-Some.text.now c.args.self.now.rows.traces
    (row_by c.args.table.now (after_first (fields_of c.args.entry.now)))
new_start c =
    let found = rw c.in-Some.is at c.in_ok-text.ensures.found in
    let none : list_any (λ (t : Trace). bytes_eq c.args.name.now t.0) c.args.self.now.rows.traces
    ≡ false =
    ap (λ (r : Recording). list_any (λ (t : Trace). bytes_eq c.args.name.now t.0) r.traces)
    (sym c.set.ensures) ∙ found.2 in
    start_by-new _ _ _ _ found.1 none
    ∙ ap (λ n. start_cells c.args.self.now.rows.signature n c.args.self.now.rows.traces
    (row_by c.args.table.now (after_first (fields_of c.args.entry.now)))) (sym found.0)

pub returns-clause-ok : goal.returns-clause-ok
returns-clause-ok c = rw (new_start c) c.begin.ensures.ok

pub returns-clause-err : goal.returns-clause-err
returns-clause-err c = rw (new_start c) c.begin.ensures.err

known : (c : goal.After-begin) (first : Row)
    → knows c.begin.new.self.names
    (with_trace c.args.self.now.rows.traces c.in-Some.text.now first)
known c first =
    let found = rw c.in-Some.is at c.in_ok-text.ensures.found in
    subst (λ (n : List ℕ). knows c.begin.new.self.names
    (with_trace c.args.self.now.rows.traces n first)) (sym found.0)
    (subst (λ (r : Recording). knows c.begin.new.self.names
    (with_trace r.traces c.args.name.now first)) c.set.ensures
    (subst (λ (names : SeenNames). knows names
    (with_trace c.set.result.now.traces c.args.name.now first)) (sym c.begin.ensures.names)
    (found.3 first)))

pub returns-clause-names : goal.returns-clause-names
returns-clause-names c =
    on_ok_weaker c.begin.result
    (λ (started : start_cells c.args.self.now.rows.signature c.in-Some.text.now
    c.args.self.now.rows.traces (row_by c.args.table.now (after_first (fields_of c.args.entry.now)))
    ≡ Ok c.begin.new.self.rows.traces).
    start_cells-knows _ _ _ _ _ _ started (known c)) c.begin.ensures.ok
