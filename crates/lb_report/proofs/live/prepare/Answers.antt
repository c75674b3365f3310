-- A refusal by a part is a refusal of the texts; else all is ready.
use Rattle.std.proofs.Common.{rules, subst, sym}
use Rattle.std.proofs.lemmas.Result.{err_from_is_err_and}
use Rattle.lb_trace.specs.Correct.{IsTraceReading}
use Rattle.lb_trace.specs.Errors.{Refuses}
use Rattle.lb_report.proofs.UnderWay.{has_kinds}
use Rattle.lb_report.proofs.live.prepare.Goals as goal

pub returns-in_err-program-clause-err : goal.returns-in_err-program-clause-err
returns-in_err-program-clause-err g c =
    let refused = c.in_err-program.ensures.err c.args.traces.now in search rules

pub returns-in_err-set-clause-err : goal.returns-in_err-set-clause-err
returns-in_err-set-clause-err g c =
    let exit = c.from_residual-in_err-set in
    let p = err_from_is_err_and exit.result exit.ensures.1 in
    let e = c.in_err-set.field-0.0 in
    let found = c.in_ok-program.ensures.ok in
    let program = c.in_ok-program.program in
    let text = c.args.traces.now in
    let read =
    subst (IsTraceReading program.signature text) c.in_err-set.was c.read_traces_by.ensures in
    rw (p.1, p.2) (record {
      tree = found.tree;
      spelled = found.spelled;
      holds = (
        found.holds.accepted,
        subst (λ es. Refuses es text e) (sym found.holds.inputs) read.refused,
      );
    })

pub returns-clause-ok : goal.returns-clause-ok
returns-clause-ok g c =
    let found = c.in_ok-program.ensures.ok in
    let program = c.in_ok-program.program in
    let text = c.args.traces.now in
    let read =
    subst (IsTraceReading program.signature text) c.in_ok-set.was c.read_traces_by.ensures in
    record {
      program = found;
      reading = read;
      over_all = c.in_ok-plan.ensures;
      kinds = has_kinds c.args.source.now text c.args.options.now program c.in_ok-set.set found
          read.signature;
    }
