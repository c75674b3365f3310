use Rattle.lb_words.proofs.Words.{passed_on}
use Rattle.lb_words.proofs.request.request_of.Goals as goal

pub returns-in_err-read_task-clause-err : goal.returns-in_err-read_task-clause-err
returns-in_err-read_task-clause-err c =
    let exit = c.from_residual in
    let first = c.in_err-read_task.field-0.0 in
    passed_on exit.result first _ exit.ensures.1 c.in_err-read_task.ensures.err
