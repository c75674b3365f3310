use Rattle.lb_expand.proofs.{Words.{take, widths_in}, numbering.StoredLayouts.IsStored}
use Rattle.lb_expand.proofs.layout.Layout.new.Given as goal

abbrev pub invariant-loop-row : goal.invariant-loop-row
invariant-loop-row l =
    IsStored (widths_in l.reached l.table) (take l.row-index l.row-items) l.variables.items
    l.starts.items l.count
