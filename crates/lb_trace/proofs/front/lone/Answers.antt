use Rattle.lb_trace.proofs.JoinedDigits.{lone-read}
use Rattle.lb_trace.proofs.front.lone.Goals as goal

pub overflow_sub-result : goal.overflow_sub-result
overflow_sub-result c =
    (lone-read c.args.text.now c.args.count c.first_eight.result c.requires.room c.requires.some
    c.requires.few c.requires.digits c.type_inv.text c.first_eight.ensures).0

pub returns : goal.returns
returns c =
    (lone-read _ _ _ c.requires.room c.requires.some
    c.requires.few c.requires.digits c.type_inv.text c.first_eight.ensures).1
