use Rattle.lb_flat.proofs.ordering.Ordering.{ends_base, ends_waiting, ends_settled, ends_past}
use Rattle.lb_flat.proofs.ordering.Ordering.{goes_on, parent_in_table}
use Rattle.lb_flat.proofs.scheduling.waiting.awaited_by_clock.Goals as goal

pub returns-in_default : goal.returns-in_default
returns-in_default c =
    ends_base _ _ _ _ _ c.loop-depth.invariant.same c.loop-depth-test.true c.in_default.is

pub returns-then-not-done-tick : goal.returns-then-not-done-tick
returns-then-not-done-tick c =
    ends_waiting _ _ _ _ _ c.loop-depth.invariant.same _ _ c.in-Some.is
    c.loop-depth.invariant.in_table c.loop-depth-test.true c.if-not-done-tick.true

pub returns-then-is_on : goal.returns-then-is_on
returns-then-is_on c =
    ends_settled _ _ _ _ _ c.loop-depth.invariant.same _ _ c.in-Some.is
    c.loop-depth.invariant.in_table c.loop-depth-test.true c.args.table.now c.requires.settled
    c.if-not-done-tick.false (c.is_on.ensures c.if-is_on.true)

pub loop-depth-preserved : goal.loop-depth-preserved
loop-depth-preserved c = record {
  same =
      goes_on _ _ _ _ _ c.loop-depth.invariant.same _ _ c.in-Some.is
      c.loop-depth.invariant.in_table c.loop-depth-test.true c.if-not-done-tick.false;
  in_table =
      parent_in_table _ _ _ _ _ c.loop-depth.invariant.same _ _ c.in-Some.is
      c.loop-depth.invariant.in_table c.loop-depth-test.true _ c.requires.table;
}

pub returns : goal.returns
returns c =
    ends_past _ _ _ _ _ c.loop-depth.invariant.same c.loop-depth-test.false
    c.loop-depth.auto.depth-end
