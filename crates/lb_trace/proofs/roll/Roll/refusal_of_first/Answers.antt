-- The refusal of the name of a record of another trace, or of its cells.
use Rattle.std.proofs.Common.{◌+◌, ◌&&◌, ◌∙◌, not, refl, sym, ap}
use Rattle.std.specs.List.{list_any}
use Rattle.std.specs.Str.{bytes_eq}
use Rattle.csv.specs.Records.{fields_of}
use Rattle.lb_traces.specs.Traces.{Recording, Trace}
use Rattle.lb_trace.specs.declared.error.TraceError.TheVariants as fault
use Rattle.lb_trace.specs.Mirrors.{row_by}
use Rattle.lb_trace.specs.Refusals.{is_trace_name}
use Rattle.lb_trace.specs.Spelling.{after_first}
use Rattle.lb_trace.proofs.RollRefusals.{first_cells_refused, name_refused}
use Rattle.lb_trace.proofs.roll.Roll.refusal_of_first.Goals as goal

pub returns-in-Ok-None : goal.returns-in-Ok-None
returns-in-Ok-None c = λ elements traces of.
    name_refused c.args.self elements traces c.args.name.now
    (row_by c.args.table.now.columns.items (after_first (fields_of c.args.entry.now)))
    (fault.Trace (c.args.self.instants + 1)) of
    (ap (λ (r : Recording). is_trace_name c.args.name.now
    && not (list_any (λ (t : Trace). bytes_eq c.args.name.now t.0) r.traces)) (sym c.set.ensures)
    ∙ (rw c.in-Ok-None.field-0-is at c.in-Ok-None.ensures.found))
    refl

pub returns-in-Ok-Some : goal.returns-in-Ok-Some
returns-in-Ok-Some c = λ elements traces of.
    let found = rw c.in-Ok-Some.field-0-is at c.in-Ok-Some.ensures.found in
    first_cells_refused c.args.self elements traces c.args.name.now
    (row_by c.args.table.now.columns.items (after_first (fields_of c.args.entry.now)))
    c.has_room_for_another-has_room.result c.refusal_of_cells.result of found.1
    (ap (λ (r : Recording). list_any (λ (t : Trace). bytes_eq c.args.name.now t.0) r.traces)
    (sym c.set.ensures) ∙ found.2)
    c.has_room_for_another-has_room.ensures c.refusal_of_cells.ensures
