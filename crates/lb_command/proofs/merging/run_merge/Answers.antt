use Rattle.std.proofs.Common.{inl, inr, refl}
use Rattle.lb_command.specs.Merging.IsMergeRun.{refused}
use Rattle.lb_output.proofs.SinkBytes.{takes_nothing}
use Rattle.lb_command.proofs.merging.run_merge.Goals as goal

pub returns-in-Err : goal.returns-in-Err
returns-in-Err g c =
    refused c.in-Err.refusal (inr (inl c.in-Err.ensures.err)) c.tell.ensures.status
    (record { kept = takes_nothing _; never_failed = refl }) c.tell.ensures.told
