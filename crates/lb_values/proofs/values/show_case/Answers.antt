use Rattle.std.proofs.Common.{ap, Err}
use Rattle.lb_values.proofs.Answering.{sent_of, unshown}
use Rattle.lb_values.proofs.values.show_case.Goals as goal

pub returns-in-Ok-send_values : goal.returns-in-Ok-send_values
returns-in-Ok-send_values g c = λ tree traces options only is.
    sent_of c.args.source.now traces options c.args.asked.now tree only c.args.case.now is
    c.in-Ok.shown _ _ _ _ _ c.in-Ok.ensures.csv c.in-Ok-send_values.ensures

pub returns-in-Ok : goal.returns-in-Ok
returns-in-Ok g c = λ tree traces options only is.
    sent_of c.args.source.now traces options c.args.asked.now tree only c.args.case.now is
    c.in-Ok.shown _ _ _ _ _ c.in-Ok.ensures.csv c.in-Err-send_values.ensures

pub returns : goal.returns
returns g c = λ tree traces options only is.
    unshown c.args.source.now traces options c.args.asked.now tree only c.args.case.now is _ _
    c.in-Err.error c.fault_of.result c.fault_of.ensures
    (λ same. c.in-Err.ensures.unknown (ap Err same))
