use Rattle.std.proofs.Common.{subst, rules, arith}
use Rattle.std.proofs.lemmas.List.{take_all}
use Rattle.lb_syntax.specs.declared.tree.Kind.TheVariants.{Int}
use Rattle.lb_trace.specs.PlainRows.{AreInOrder}
use Rattle.lb_trace.proofs.OrderedColumns.{one_more_in_order}
use Rattle.lb_trace.proofs.table.are_in_order.Goals as goal

pub loop-i-preserved : goal.loop-i-preserved
loop-i-preserved c =
    one_more_in_order c.args.table.now c.loop-i.i
    (record { at = 0; kind = Int }) c.loop-i-test.true c.loop-i.invariant
    (search rules)

pub returns : goal.returns
returns c = λ yes. (
  search rules,
  subst (AreInOrder 0) (take_all c.loop-i.i c.args.table.now (omega (arith, c.loop-i-test.false)))
      c.loop-i.invariant,
)
