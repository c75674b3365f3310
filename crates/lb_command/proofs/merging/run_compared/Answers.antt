use Rattle.std.proofs.Common.{inr, refl}
use Rattle.lb_command.specs.Merging.IsMergeRun.{refused}
use Rattle.lb_command.proofs.Concluding.{no_earlier}
use Rattle.lb_output.proofs.SinkBytes.{takes_nothing}
use Rattle.lb_command.proofs.merging.run_compared.Goals as goal

pub returns-in-Err : goal.returns-in-Err
returns-in-Err g c =
    refused c.in-Err.refusal (inr (no_earlier _ _ _ c.in-Err.ensures.err)) c.tell.ensures.status
    (record { kept = takes_nothing _; never_failed = refl }) c.tell.ensures.told
