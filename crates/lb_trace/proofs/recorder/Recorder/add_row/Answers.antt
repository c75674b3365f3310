-- The name of a record is its first cell, and may be that of the last trace.
use Rattle.std.proofs.Common.{◌≡◌, sym, subst, ◌∙◌, length, Some}
use Rattle.std.proofs.lemmas.Result.{err_from_is_err_and}
use Rattle.lb_traces.specs.BitRows.{row_of_bits}
use Rattle.lb_traces.specs.Traces.{Recording}
use Rattle.lb_trace.specs.Errors.{IsRefusal}
use Rattle.lb_trace.specs.Refusals.{is_last}
use Rattle.lb_trace.proofs.KnownNames.{go_on_by-knows}
use Rattle.lb_trace.proofs.Nexts.{bits-added, has-name, is-next}
use Rattle.lb_trace.proofs.recorder.Recorder.add_row.Goals as goal

pub returns-in_err-push_bits_to-clause-err : goal.returns-in_err-push_bits_to-clause-err
returns-in_err-push_bits_to-clause-err c =
    let cell = c.name_of-name.result in
    let traces = c.args.self.now.rows.traces in
    let text = c.args.text.now in
    let next = is-next _ _ _ _ _ _
    c.name_of-name.ensures.cells c.name_of-name.ensures.after c.if-name.false
    (subst (λ (r : Recording). cell.is_same ≡ is_last cell.bytes.now r.traces) c.set.ensures
    c.name_of-name.ensures.same) c.if-name-2.true in
    let added = bits-added _ _ _ _ _ _ _ _
    (c.requires.truths c.if-table.true) c.in-Some.ensures.0 next c.requires.lawful.each in
    let p = err_from_is_err_and c.from_residual.result c.from_residual.ensures.1 in
    rw (p.1, p.2)
    (subst (λ o. IsRefusal o c.in_err-push_bits_to.field-0.0) (sym added)
    c.in_err-push_bits_to.ensures.err)

pub returns-in-Some-clause-ok : goal.returns-in-Some-clause-ok
returns-in-Some-clause-ok c =
    let cell = c.name_of-name.result in
    let traces = c.args.self.now.rows.traces in
    let text = c.args.text.now in
    let next = is-next _ _ _ _ _ _
    c.name_of-name.ensures.cells c.name_of-name.ensures.after c.if-name.false
    (subst (λ (r : Recording). cell.is_same ≡ is_last cell.bytes.now r.traces) c.set.ensures
    c.name_of-name.ensures.same) c.if-name-2.true in
    let added = bits-added _ _ _ _ _ _ _ _
    (c.requires.truths c.if-table.true) c.in-Some.ensures.0 next c.requires.lawful.each in
    added ∙ c.in_ok-push_bits_to.ensures.ok

pub returns-in-Some-clause-names : goal.returns-in-Some-clause-names
returns-in-Some-clause-names c =
    let elements = c.args.self.now.rows.signature in
    go_on_by-knows c.args.self.now.names elements c.args.self.now.rows.traces _
    (Some (row_of_bits (length elements) c.in-Some.truths.bits)) c.in_ok-push_bits_to.ensures.ok
    c.requires.names

pub add_cells-requires-clause-first : goal.add_cells-requires-clause-first
add_cells-requires-clause-first c =
    let cell = c.name_of-name.result in
    has-name _ _ _ _ c.name_of-name.ensures.cells c.name_of-name.ensures.after c.if-name.false

pub add_cells-requires-clause-same : goal.add_cells-requires-clause-same
add_cells-requires-clause-same c =
    let cell = c.name_of-name.result in
    subst
    (λ (r : Recording). c.name_of-name.result.is_same ≡ is_last cell.bytes.now r.traces)
    c.set.ensures c.name_of-name.ensures.same
