-- One more verdict is written.
use Rattle.std.proofs.Common.{List, set, get_or, ap, ◌∙◌, arith}
use Rattle.lb_check.specs.declared.verdict.Verdict.{Verdict}
use Rattle.lb_check.specs.declared.verdict.Verdict.TheVariants.{Passed}
use Rattle.lb_pool.specs.declared.batch.Judged.{Judged}
use Rattle.lb_pool.proofs.Placed.{placed_more}
use Rattle.lb_pool.proofs.batch.place.Goals as goal

pub loop-j-preserved : goal.loop-j-preserved
loop-j-preserved c =
    let js = c.args.judged.now in
    let i = c.loop-j.j-index in
    let d : Judged = record { trace = 0; verdict = Passed } in
    ap (λ (vs : List Verdict). set vs (get_or js i d).trace (get_or js i d).verdict)
    c.loop-j.invariant
    ∙ placed_more c.args.verdicts.now js i d (omega (arith, c.loop-j-test.true))
