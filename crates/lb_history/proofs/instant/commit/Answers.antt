use Rattle.std.proofs.Common.{◌<◌, ◌≤◌, length, refl, arith}
use Rattle.lb_flat.proofs.runs.Steps.{within_step}
use Rattle.lb_history.proofs.Committing.{commit_step, all_committed}
use Rattle.lb_history.proofs.instant.commit.Goals as goal

pub loop-i-init : goal.loop-i-init
loop-i-init c = record {
  within = c.requires.within;
  moved = record { rest = refl };
}

pub loop-i-preserved : goal.loop-i-preserved
loop-i-preserved c =
    let h = c.loop-i.invariant in
    let lt : c.loop-i.i < length c.loop-i.equations =
    omega (arith, c.loop-i-test.true, c.loop-i.auto.equations) in
    record {
      within =
          within_step c.args.clocks.now c.args.row.now c.loop-i.equations c.loop-i.i _ _ lt
          c.remember.ensures _ h.within;
      moved =
          commit_step c.args.clocks.now c.args.row.now c.loop-i.equations c.args.equations.now
          c.loop-i.i _ _ lt c.remember.ensures h.moved;
    }

pub returns-clause-memories : goal.returns-clause-memories
returns-clause-memories c =
    let le : length c.loop-i.equations ≤ c.loop-i.i =
    omega (arith, c.loop-i-test.false, c.loop-i.auto.equations) in
    all_committed c.args.clocks.now c.args.row.now c.loop-i.equations c.args.equations.now
    c.loop-i.i le c.loop-i.invariant.moved
