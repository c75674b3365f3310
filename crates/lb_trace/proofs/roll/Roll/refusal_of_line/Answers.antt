-- The record of a line is made of its cells.
use Rattle.std.proofs.Common.{subst}
use Rattle.lb_trace.specs.Errors.{IsRefusal}
use Rattle.lb_trace.specs.Refusals.{with_record}
use Rattle.lb_trace.specs.Spelling.{Record}
use Rattle.lb_trace.specs.Tables.{columns_in}
use Rattle.lb_trace.proofs.roll.Roll.refusal_of_line.Goals as goal

pub returns-in-Ok : goal.returns-in-Ok
returns-in-Ok c = λ elements traces of is.
    subst (λ (r : Record). IsRefusal
    (with_record elements (columns_in c.args.table.now) traces r) c.refusal_of.result)
    c.in-Ok.ensures.cells
    (c.refusal_of.ensures elements traces of is)
