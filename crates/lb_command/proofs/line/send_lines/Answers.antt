use Rattle.lb_command.proofs.Streams.{then_takes}
use Rattle.lb_command.proofs.line.send_lines.Goals as goal

pub returns-clause-all : goal.returns-clause-all
returns-clause-all g c =
    then_takes _ _ _ _ _ c.in_ok-send_line.ensures.all c.in_ok-send.ensures.all
