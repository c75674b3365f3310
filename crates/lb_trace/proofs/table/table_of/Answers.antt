-- A header has its table of columns.
use Rattle.std.proofs.Common.{refl}
use Rattle.lb_trace.proofs.Nexts.{truth-table}
use Rattle.lb_trace.proofs.table.table_of.Goals as goal

pub returns : goal.returns
returns c =
    let headed = rw c.in-Some.is at c.in_ok-columns.ensures in
    let order = rw c.deref.ensures.value at c.are_in_order-in_order.ensures in (
      headed.0,
      refl,
      record {
        columns = headed.1;
        count = c.width-count.ensures;
        order = order;
        placed = rw (c.deref-3.ensures.value, c.deref-4.ensures.value) at
            c.are_placed-is_placed.ensures;
        truths = λ told.
            let both = c.are_truths.ensures told in
            truth-table _ _ _ _ headed.1 (order both.0) both.1;
        groups = rw c.deref-5.ensures.value at c.in_ok-groups.ensures;
      },
    )
