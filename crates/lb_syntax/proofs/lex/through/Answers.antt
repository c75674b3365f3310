use Rattle.std.proofs.Common.{rules}
use Rattle.lb_syntax.proofs.Begins.{through_steps}
use Rattle.lb_syntax.proofs.lex.through.Goals as goal

pub loop-at-preserved : goal.loop-at-preserved
loop-at-preserved c =
    let below = c.loop-at-test.true in
    through_steps c.args.text.now c.args.first c.args.second c.loop-at.at _ below
    (search rules) c.loop-at.invariant
