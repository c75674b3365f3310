use Rattle.std.proofs.Math.Seq.{take-length}
use Rattle.lb_output.proofs.SinkBytes.{taken_and_kept}
use Rattle.lb_command.proofs.delivery.put.Goals as goal

pub returns-in-Err-clause-first : goal.returns-in-Err-clause-first
returns-in-Err-clause-first g c =
    let all = taken_and_kept _ _ _ _ c.in_ok-send.ensures.all c.in-Err.ensures.kept in
    rw (take-length c.args.text.now) all

pub returns-in-Ok-clause-all : goal.returns-in-Ok-clause-all
returns-in-Ok-clause-all g c =
    taken_and_kept _ _ _ _ c.in_ok-send.ensures.all c.in-Ok.ensures.kept
