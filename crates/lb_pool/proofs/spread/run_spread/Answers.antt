-- The compiled program is the given one.
use Rattle.std.proofs.Common.{subst}
use Rattle.std.proofs.lemmas.Result.{IfOk-weaker}
use Rattle.lb_flat.specs.declared.program.FlatProgram.{FlatProgram}
use Rattle.lb_pool.specs.Correct.{AreVerdicts}
use Rattle.lb_pool.proofs.spread.run_spread.Goals as goal

pub returns : goal.returns
returns g c =
    let p = c.args.ordered.now.program in
    let r = c.args.set.now in
    IfOk-weaker c.spread_batches.result _ (λ verdicts. AreVerdicts p r verdicts.items)
    (λ verdicts are.
    subst (λ (x : FlatProgram). AreVerdicts x r verdicts.items) c.in_ok-program.ensures are)
    c.spread_batches.ensures
