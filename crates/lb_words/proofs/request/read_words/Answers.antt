use Rattle.std.proofs.lemmas.Result.{IfErr-weaker, IfOk-weaker}
use Rattle.lb_words.proofs.Words.{passed_on}
use Rattle.lb_words.proofs.Words.{asked_by, misnumbered, refused_by}
use Rattle.lb_words.proofs.request.read_words.Goals as goal

pub returns-in_err-help-in-Err-clause-err : goal.returns-in_err-help-in-Err-clause-err
returns-in_err-help-in-Err-clause-err c =
    let exit = c.from_residual-in_err-help-in-Err in
    let first = c.in_err-help-in-Err.field-0.0 in
    let refused = refused_by _ c.in-Err.error first c.in-Err.ensures.err
    c.in_err-help-in-Err.ensures.err in
    passed_on exit.result first _ exit.ensures.1 refused

pub returns-in-Ok-clause-ok : goal.returns-in-Ok-clause-ok
returns-in-Ok-clause-ok c =
    IfOk-weaker c.request_of.result _ _
    (λ request is. asked_by _ _ request c.in-Ok.ensures.ok c.in-Ok.ensures.lawful is)
    c.request_of.ensures.ok

pub returns-in-Ok-clause-err : goal.returns-in-Ok-clause-err
returns-in-Ok-clause-err c =
    IfErr-weaker c.request_of.result _ _
    (λ error is. misnumbered _ _ error c.in-Ok.ensures.ok is)
    c.request_of.ensures.err
