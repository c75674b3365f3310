-- A name is new if the table does not have it.
use Rattle.std.proofs.Common.{not, sym, ap, ◌∙◌}
use Rattle.lb_traces.specs.Traces.{with_trace}
use Rattle.lb_trace.proofs.KnownNames.{gathered-knows, table-more}
use Rattle.lb_trace.proofs.seen_names.SeenNames.takes_below.Goals as goal

pub put-requires-clause-room : goal.put-requires-clause-room
put-requires-clause-room c = (c.in_ok-gather.ensures.table.some, c.in_ok-gather.ensures.table.few)

pub returns-then-has-clause-new : goal.returns-then-has-clause-new
returns-then-has-clause-new c = ap not (sym c.if-has.true ∙ c.has.ensures)

pub returns-clause-new : goal.returns-clause-new
returns-clause-new c = ap not (sym c.if-has.false ∙ c.has.ensures)

pub returns-clause-known : goal.returns-clause-known
returns-clause-known c = λ new row.
    gathered-knows
    record { rising = c.gather.new.self.rising; table = c.put.new.self }
    (with_trace c.args.traces.now.traces c.args.name.now row) c.in_ok-gather.ensures.risen
    (table-more _ _ _ _ _ _ c.len.ensures.count c.in_ok-gather.ensures.table
    c.in_ok-put.ensures.room c.in_ok-put.ensures.put)
