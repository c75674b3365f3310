use Rattle.lb_flat.proofs.Words.{AreOrdered, AreScheduled}
use Rattle.{std.proofs.lemmas.Result.IfOk-weaker, lb_flat.proofs.ordering.Tables.are_ordered}
use Rattle.lb_flat.proofs.scheduling.ordered_equations.Goals as goal

pub scheduled-requires-clause-table : goal.scheduled-requires-clause-table
scheduled-requires-clause-table c = rw c.as_slice.ensures.value c.in_ok-table.ensures

pub returns-clause-order : goal.returns-clause-order
returns-clause-order c =
    let p = c.args.program.now in
    let table = c.in_ok-table.table.items in
    IfOk-weaker c.scheduled.result (λ out. AreScheduled p.clocks.items table out.items)
    (λ out. AreOrdered p out.items)
    (λ out scheduled.
    are_ordered p table c.in_ok-table.ensures c.requires.in_range out.items scheduled)
    (rw c.as_slice.ensures.value at c.scheduled.ensures.scheduled)
