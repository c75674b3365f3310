use Rattle.std.proofs.Common.{refl}
use Rattle.lb_command.specs.Correct.IsWholeRun.{no_baseline}
use Rattle.lb_command.proofs.Concluding.{no_earlier}
use Rattle.lb_output.proofs.SinkBytes.{takes_nothing}
use Rattle.lb_command.proofs.run.run_compared.Goals as goal

pub returns-in-Err : goal.returns-in-Err
returns-in-Err g c =
    no_baseline c.in-Err.refusal (no_earlier _ _ _ c.in-Err.ensures.err) (refl, refl)
    c.tell.ensures.status
    (record { kept = takes_nothing _; never_failed = refl }) c.tell.ensures.told
