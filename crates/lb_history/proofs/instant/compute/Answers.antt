use Rattle.lb_flat.proofs.runs.Steps.{fill_step, all_filled}
use Rattle.lb_history.proofs.instant.compute.Goals as goal

pub loop-i-preserved : goal.loop-i-preserved
loop-i-preserved c =
    fill_step _ _ _ _ _ _ _ _ c.loop-i-test.true c.loop-i.invariant c.equation_cell.ensures

pub returns-clause-row : goal.returns-clause-row
returns-clause-row c = all_filled _ _ _ _ _ _ c.loop-i-test.false c.loop-i.invariant
