-- A round is run, and then the next one is read.
use Rattle.std.proofs.lemmas.Result.{err_from_is_err_and}
use Rattle.lb_report.proofs.PieceReads.{halted_here, turn_behind}
use Rattle.lb_report.proofs.rounds.Rounds.turn.Goals as goal

pub returns-in_err-next : goal.returns-in_err-next
returns-in_err-next g c =
    let p = c.args.self.now.runner.program.now.program.now in
    let elements = c.args.self.now.signature.now in
    let table = c.args.table.now in
    let h = c.in_err-next.field-0.0 in
    let e = err_from_is_err_and c.from_residual.result c.from_residual.ensures.1 in
    rw (e.1, e.2) (record {
      why = λ rows part.
          halted_here p elements table rows c.args.window.now _ h
          (c.in_err-next.ensures.err table rows part);
      on = c.in_err-next.ensures.kept;
    })

pub returns-in_ok-next : goal.returns-in_ok-next
returns-in_ok-next g c =
    let p = c.args.self.now.runner.program.now.program.now in
    let elements = c.args.self.now.signature.now in
    turn_behind p elements c.args.table.now _ _ _ _ c.args.state c.in_ok-next.next
    c.read_on.result (λ rows part. c.in_ok-next.ensures.ok c.args.table.now rows part)
    c.read_on.ensures
