-- The error tells the rule that the check found to be broken.
use Rattle.lb_check.proofs.Words.{subst, sym, elaborated_program}
use Rattle.lb_static.specs.declared.elab.Elaboration.{Elaboration}
use Rattle.lb_check.specs.Correct.{IsFirstBroken}
use Rattle.lb_cause.proofs.checker.check_with_cause.Goals as goal

pub returns-in_ok-cause_of-in-Err-clause-answer : goal.returns-in_ok-cause_of-in-Err-clause-answer
returns-in_ok-cause_of-in-Err-clause-answer c =
    let P = elaborated_program c.args.elab in
    let broken = rw c.in-Err.is at c.in_ok-checked.ensures.answer in
    let same = rw c.in-Err.is at c.in_ok-checked.ensures.same in
    c.in_ok-cause_of-in-Err.ensures P
    (subst (λ (e : Elaboration). IsFirstBroken P e.reached c.in-Err.refused.broken) (sym same)
    broken)
