use Rattle.lb_expand.{proofs.Words.{take, ◌≡◌}, specs.TableClocks.table_clocks}
use Rattle.lb_expand.proofs.clocks.table_clocks.Given as goal

abbrev pub invariant-loop-row : goal.invariant-loop-row
invariant-loop-row l =
    l.clocks.items
    ≡ table_clocks l.reached l.table l.layout.variables.items l.runs l.serving
    (take l.row l.table.instances.items)
