use Rattle.std.proofs.Common.{subst, arith, rules}
use Rattle.std.proofs.lemmas.List.{take_all}
use Rattle.lb_trace.specs.PlainRows.{ArePlaced}
use Rattle.lb_trace.proofs.OrderedColumns.{one_more_placed}
use Rattle.lb_trace.proofs.table.are_placed.Goals as goal

pub loop-column-preserved : goal.loop-column-preserved
loop-column-preserved c =
    one_more_placed _ _ _ _ c.loop-column-test.true c.loop-column.invariant
    (c.is_placed.ensures c.if-not-is_placed.false)

pub returns : goal.returns
returns c = λ yes. (
  search rules,
  subst (ArePlaced c.args.placed.now)
      (take_all c.loop-column.column-index c.args.table.now
      (omega (arith, c.loop-column-test.false)))
      c.loop-column.invariant,
)
