use Rattle.lb_command.proofs.Streams.{then_takes}
use Rattle.lb_command.proofs.line.send_place.Goals as goal

pub returns-clause-all : goal.returns-clause-all
returns-clause-all g c =
    let first = then_takes _ _ _ _ _ c.in_ok-send.ensures.all c.in_ok-send_number.ensures.all in
    let second = then_takes _ _ _ _ _ first c.in_ok-send-2.ensures.all in
    then_takes _ _ _ _ _ second c.in_ok-send_number-2.ensures.all
