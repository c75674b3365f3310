use Rattle.std.proofs.Common.{refl}
use Rattle.lb_output.proofs.SinkBytes.{takes_nothing}
use Rattle.lb_command.proofs.Living.{live_of, tells_of_file, unread_with}
use Rattle.lb_command.proofs.live.follow_loaded.Goals as goal

pub returns-in-Ok-clause-live : goal.returns-in-Ok-clause-live
returns-in-Ok-clause-live g c = λ i never.
    live_of (λ source traces. Unit {0}) (Unit {0}) _ _ _ i _ c.follow_texts.result tt never
    c.follow_texts.ensures.live

pub returns-in-Err-clause-live : goal.returns-in-Err-clause-live
returns-in-Err-clause-live g c = λ i never.
    unread_with (λ source traces. Unit {0}) (Unit {0}) _ i _ c.in-Err.refusal c.in-Err.ensures.err
    (tells_of_file i c.in-Err.refusal never)
    (record { kept = takes_nothing _; never_failed = refl })
