use Rattle.lb_command.proofs.Streams.{failed_once, few_failures, warned}
use Rattle.lb_command.proofs.delivery.warn.Goals as goal

pub returns-clause-warned : goal.returns-clause-warned
returns-clause-warned g c =
    let sent = c.send.ensures in
    warned c.send.result _ _ sent.all sent.ok sent.within
    (failed_once c.send.result _ _ sent.failed) sent.same

pub returns-clause-failures : goal.returns-clause-failures
returns-clause-failures g c =
    let sent = c.send.ensures in few_failures c.send.result _ _ sent.ok sent.failed
