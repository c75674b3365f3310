use Rattle.lb_command.proofs.Streams.{took_or_failed}
use Rattle.lb_command.proofs.line.refuse.Goals as goal

pub returns-clause-told : goal.returns-clause-told
returns-clause-told g c =
    let sent = c.send_line.ensures in
    took_or_failed c.send_line.result _ _ sent.all sent.ok sent.failed sent.same
