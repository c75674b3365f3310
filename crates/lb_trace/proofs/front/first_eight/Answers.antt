use Rattle.lb_trace.proofs.JoinedDigits.{eight-number}
use Rattle.lb_trace.proofs.front.first_eight.Goals as goal

pub returns : goal.returns
returns c =
    eight-number c.args.text.now c.from_le_bytes.result c.requires c.from_le_bytes.ensures
