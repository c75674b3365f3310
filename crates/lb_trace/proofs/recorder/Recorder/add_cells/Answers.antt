-- A record is one more instant of its trace, whether it is read as it is held or cell by cell.
use Rattle.std.proofs.Common.{◌≡◌, ◌∙◌, ◌∷◌, [], Ok, Some, ap, false, refl, sym, subst, take}
use Rattle.std.proofs.lemmas.Result.{err_from_is_err_and}
use Rattle.lb_static.specs.Signature.{kinds_of}
use Rattle.lb_traces.specs.Packed.{row_held}
use Rattle.lb_trace.specs.Errors.{IsRefusal}
use Rattle.lb_trace.specs.Mirrors.{add_by}
use Rattle.lb_trace.proofs.FrontRows.{held-added, held-counts}
use Rattle.lb_trace.proofs.KnownNames.{go_on_by-knows}
use Rattle.lb_trace.proofs.PlacedRows.{line_added}
use Rattle.lb_trace.proofs.recorder.Recorder.add_cells.Goals as goal
use Rattle.lb_trace.proofs.recorder.Recorder.add_cells.Goals.{else-name}
use Rattle.lb_trace.proofs.recorder.Recorder.add_cells.Goals.{
  then-name+then-table+in-Ok+in-None-1,
  then-name+then-table+in-Err-1,
}

pub push_held_to-requires-clause-numbers : goal.push_held_to-requires-clause-numbers
push_held_to-requires-clause-numbers c =
    let read = rw c.in-Ok-Some.field-0-is at c.in-Ok-Some.ensures in
    rw c.as_slice.ensures.value
    (held-counts _ _ _ _ _ _ read.1 c.requires.same_kinds).0

pub push_held_to-requires-clause-truths : goal.push_held_to-requires-clause-truths
push_held_to-requires-clause-truths c =
    let read = rw c.in-Ok-Some.field-0-is at c.in-Ok-Some.ensures in
    (held-counts _ _ _ _ _ _ read.1 c.requires.same_kinds).1

pub push_held_to-requires-clause-small : goal.push_held_to-requires-clause-small
push_held_to-requires-clause-small c =
    let read = rw c.in-Ok-Some.field-0-is at c.in-Ok-Some.ensures in
    (held-counts _ _ _ _ _ _ read.1 c.requires.same_kinds).2

pub returns-in_err-push_held_to-clause-err : goal.returns-in_err-push_held_to-clause-err
returns-in_err-push_held_to-clause-err c =
    let read = rw c.in-Ok-Some.field-0-is at c.in-Ok-Some.ensures in
    let p = err_from_is_err_and c.from_residual.result c.from_residual.ensures.1 in
    let refused = rw c.as_slice.ensures.value at c.in_err-push_held_to.ensures.err in
    rw (p.1, p.2)
    (subst (λ o. IsRefusal o c.in_err-push_held_to.field-0.0)
    (sym (held-added _ _ _ _ _ _ _ _ _ _ read.1 c.requires.same_kinds
    (c.requires.order c.if-table.true)
    (record { has = c.requires.first; same = sym c.requires.same ∙ c.if-name.true })
    c.requires.lawful.each)) refused)

pub returns-in-Ok-Some-clause-ok : goal.returns-in-Ok-Some-clause-ok
returns-in-Ok-Some-clause-ok c =
    let read = rw c.in-Ok-Some.field-0-is at c.in-Ok-Some.ensures in
    let added = rw c.as_slice.ensures.value at c.in_ok-push_held_to.ensures.ok in
    held-added _ _ _ _ _ _ _ _ _ _ read.1 c.requires.same_kinds (c.requires.order c.if-table.true)
    (record { has = c.requires.first; same = sym c.requires.same ∙ c.if-name.true })
    c.requires.lawful.each
    ∙ added

pub returns-in-Ok-Some-clause-names : goal.returns-in-Ok-Some-clause-names
returns-in-Ok-Some-clause-names c =
    let numbers = take c.in-Ok-Some.line.count c.as_slice.result.now in
    go_on_by-knows c.args.self.now.names c.args.self.now.rows.signature
    c.args.self.now.rows.traces c.push_held_to.new.rows.traces
    (Some (row_held (kinds_of c.args.self.now.rows.signature) numbers (c.in-Ok-Some.line.bits ∷ [])))
    c.in_ok-push_held_to.ensures.ok c.requires.names

pub returns-in_err-add_named-clause-err : goal.returns-in_err-add_named-clause-err
returns-in_err-add_named-clause-err c =
    let read = rw c.in-Some.is at c.in-Ok.ensures in
    let name = c.args.name in
    let same : c.if-name.self.rows ≡ c.args.self.now.rows =
    elim c.if-name.branch [
      | then-name+then-table+in-Ok+in-None-1 w ↦ ap (λ s. s.rows) w.self-is
      | then-name+then-table+in-Err-1 w ↦ ap (λ s. s.rows) w.self-is
      | else-name w ↦ ap (λ s. s.rows) w.self-is
    ] in
    let added = line_added c.args.self.now.rows.signature c.args.table.now.columns.items
    c.args.table.now.count c.args.self.now.rows.traces c.args.text.now name.bytes.now name.rest.now
    false c.read_cells.new.row.items c.requires.first.first refl
    c.requires.lawful.each read.0 read.1 in
    let refused = subst (λ r. IsRefusal (add_by r.signature name.bytes.now r.traces
    (Some c.read_cells.new.row.items)) c.in_err-add_named.field-0.0) same
    c.in_err-add_named.ensures.err in
    let p = err_from_is_err_and c.from_residual-in_err-add_named.result
    c.from_residual-in_err-add_named.ensures.1 in
    rw (p.1, p.2)
    (subst (λ o. IsRefusal o c.in_err-add_named.field-0.0) (sym added) refused)

pub returns-clause-ok : goal.returns-clause-ok
returns-clause-ok c =
    let read = rw c.in-Some.is at c.in-Ok.ensures in
    let name = c.args.name in
    let same : c.if-name.self.rows ≡ c.args.self.now.rows =
    elim c.if-name.branch [
      | then-name+then-table+in-Ok+in-None-1 w ↦ ap (λ s. s.rows) w.self-is
      | then-name+then-table+in-Err-1 w ↦ ap (λ s. s.rows) w.self-is
      | else-name w ↦ ap (λ s. s.rows) w.self-is
    ] in
    line_added c.args.self.now.rows.signature c.args.table.now.columns.items
    c.args.table.now.count c.args.self.now.rows.traces c.args.text.now name.bytes.now name.rest.now
    false c.read_cells.new.row.items c.requires.first.first refl
    c.requires.lawful.each read.0 read.1
    ∙ subst (λ r. add_by r.signature name.bytes.now r.traces (Some c.read_cells.new.row.items)
    ≡ Ok c.add_named.new.self.rows.traces) same c.in_ok-add_named.ensures.ok
