-- A record is refused for its length, or as one of the last trace or of another.
use Rattle.std.proofs.Common.{◌+◌, refl, sym, ap, ◌∙◌}
use Rattle.csv.specs.Records.{fields_of}
use Rattle.lb_traces.specs.Traces.{Recording}
use Rattle.lb_trace.specs.declared.error.TraceError.TheVariants as fault
use Rattle.lb_trace.specs.Refusals.{is_last}
use Rattle.lb_trace.proofs.RollRefusals.{first_refused, more_refused, no_cell_refused}
use Rattle.lb_trace.proofs.RollRefusals.{width_refused}
use Rattle.lb_trace.proofs.roll.Roll.refusal_of.Goals as goal

pub returns-in_default : goal.returns-in_default
returns-in_default c = λ elements traces of is.
    no_cell_refused elements c.args.table.now traces (fields_of c.args.entry.now)
    (fault.Record (c.args.self.instants + 1) c.width-cells.result c.args.table.now.count) is
    (sym c.in_default.ensures.value) refl

pub returns-then-cells-columns : goal.returns-then-cells-columns
returns-then-cells-columns c = λ elements traces of is.
    width_refused elements c.args.table.now traces (fields_of c.args.entry.now)
    (fault.Record (c.args.self.instants + 1) c.width-cells.result c.args.table.now.count) is
    (λ same. c.if-cells-columns.true (c.width-cells.ensures ∙ same)) refl

pub returns-then-is_last : goal.returns-then-is_last
returns-then-is_last c = λ elements traces of is.
    more_refused c.args.self elements c.args.table.now traces (fields_of c.args.entry.now)
    c.in-Some.name.now c.refusal_of_more.result of is (sym c.in-Some.ensures.value)
    (sym c.width-cells.ensures ∙ c.if-cells-columns.false)
    (ap (λ (r : Recording). is_last c.in-Some.name.now r.traces) (sym c.set.ensures)
    ∙ sym c.if-is_last.ensures)
    (c.refusal_of_more.ensures elements traces of)

pub returns-else-is_last : goal.returns-else-is_last
returns-else-is_last c = λ elements traces of is.
    first_refused c.args.self elements c.args.table.now traces (fields_of c.args.entry.now)
    c.in-Some.name.now c.refusal_of_first.result of is (sym c.in-Some.ensures.value)
    (sym c.width-cells.ensures ∙ c.if-cells-columns.false)
    (ap (λ (r : Recording). is_last c.in-Some.name.now r.traces) (sym c.set.ensures)
    ∙ sym c.if-is_last.ensures)
    (c.refusal_of_first.ensures elements traces of)
