use Rattle.std.proofs.Common.{inl, refl}
use Rattle.lb_output.proofs.SinkBytes.{takes_nothing}
use Rattle.lb_command.specs.Correct.IsWholeRun.{no_baseline}
use Rattle.lb_command.proofs.run.run_whole.Goals as goal

pub returns-in-Err : goal.returns-in-Err
returns-in-Err g c =
    no_baseline c.in-Err.refusal (inl c.in-Err.ensures.err) (refl, refl)
    c.tell.ensures.status
    (record { kept = takes_nothing _; never_failed = refl }) c.tell.ensures.told
