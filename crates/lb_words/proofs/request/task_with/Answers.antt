use Rattle.std.proofs.Common.{inr, refl}
use Rattle.lb_words.proofs.Words.{passed_on, stray_is_wrong}
use Rattle.lb_words.proofs.request.task_with.Goals as goal

pub returns-then-is_stray-clause-err : goal.returns-then-is_stray-clause-err
returns-then-is_stray-clause-err c =
    inr (
      refl,
      stray_is_wrong _ _ c.args.options c.in_ok-terms.terms c.text_of-source.result
          c.aim_of-aim.ensures c.requires c.in_ok-terms.ensures.ok c.text_of-source.ensures
          (c.if-is_stray.ensures.stray refl),
    )

pub returns-in_err-part-clause-err : goal.returns-in_err-part-clause-err
returns-in_err-part-clause-err c =
    let exit = c.from_residual-in_err-part in
    passed_on exit.result c.in_err-part.field-0.0 _ exit.ensures.1 (inr c.in_err-part.ensures.err)
