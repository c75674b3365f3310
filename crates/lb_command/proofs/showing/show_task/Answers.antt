use Rattle.std.proofs.Common.{Global, Vec, ℕ, inl, refl}
use Rattle.lb_output.proofs.SinkBytes.{takes_nothing}
use Rattle.lb_command.proofs.Showings.{showing_on}
use Rattle.lb_command.proofs.showing.show_task.Goals as goal

pub returns-in-Ok-clause-shown : goal.returns-in-Ok-clause-shown
returns-in-Ok-clause-shown g c =
    showing_on {T = Vec ℕ Global} c.args.task.now _ _ _ _ c.show_texts.result c.in-Ok.ensures.ok
    c.in-Ok.ensures.read c.show_texts.ensures.shown

pub returns-in-Err-clause-shown : goal.returns-in-Err-clause-shown
returns-in-Err-clause-shown g c =
    inl (record {
      unread = c.in-Err.ensures.err;
      tells = c.in-Err.ensures.read;
      untouched = record { kept = takes_nothing _; never_failed = refl };
    })
