use Rattle.lb_expand.proofs.{Words.take, numbering.RowChildren.HasCalls}
use Rattle.lb_expand.proofs.children.Children.new.Given as goal

abbrev pub invariant-loop-row : goal.invariant-loop-row
invariant-loop-row l = HasCalls l.rows (take l.row l.table.instances.items)
