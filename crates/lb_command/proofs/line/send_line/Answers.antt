use Rattle.lb_command.proofs.Streams.{then_takes}
use Rattle.lb_command.proofs.line.send_line.Goals as goal

pub returns-clause-all : goal.returns-clause-all
returns-clause-all g c =
    let numbered = then_takes _ _ _ _ _ c.in_ok-send.ensures.all c.in_ok-send_number.ensures.all in
    let parted = then_takes _ _ _ _ _ numbered c.in_ok-send-2.ensures.all in
    let named = then_takes _ _ _ _ _ parted c.in_ok-send_word.ensures.all in
    let placed = then_takes _ _ _ _ _ named c.in_ok-send_position.ensures.all in
    then_takes _ _ _ _ _ placed c.in_ok-send-3.ensures.all
