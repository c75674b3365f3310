use Rattle.std.proofs.Common.{◌∙◌}
use Rattle.lb_command.proofs.Streams.{took_or_failed}
use Rattle.lb_command.proofs.explanation.tell.Goals as goal

pub returns-clause-told : goal.returns-clause-told
returns-clause-told g c =
    let sent = c.send_lines.ensures in
    record {
      further = c.as_slice.result.now;
      unasked = λ no. c.as_slice.ensures.value ∙ c.lines_of-further.ensures no;
      told = took_or_failed c.send_lines.result _ _ sent.all sent.ok sent.failed sent.same;
    }
