use Rattle.lb_flat.proofs.runs.Steps.{fill_step, all_filled}
use Rattle.lb_flat.proofs.recorded.read_row.Goals as goal

pub loop-i-preserved : goal.loop-i-preserved
loop-i-preserved c =
    fill_step _ _ _ _ _ _ _ _ c.loop-i-test.true c.loop-i.invariant c.input_at.ensures

pub returns-clause-read : goal.returns-clause-read
returns-clause-read c = all_filled _ _ _ _ _ _ c.loop-i-test.false c.loop-i.invariant
