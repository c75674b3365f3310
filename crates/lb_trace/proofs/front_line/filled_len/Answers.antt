-- The first line behind the ends of lines before it.
use Rattle.std.proofs.Common.{◌<◌, length, ap, arith, length-drop}
use Rattle.std.proofs.lemmas.List.{take_rest}
use Rattle.lb_trace.proofs.FrontLines.{filled-ended, filled-first, next_byte}
use Rattle.lb_trace.proofs.front_line.filled_len.Goals as goal

pub line_len-requires : goal.line_len-requires
line_len-requires c = λ some.
    let text = c.args.text.now in
    let n = c.blank_front-blank.result in
    let below : c.blank_front-blank.result < length c.args.text.now =
    omega (arith, some, ap length (take_rest text n), length-drop n text) in
    next_byte text n below (c.blank_front-blank.ensures.next below)

pub returns-clause-first : goal.returns-clause-first
returns-clause-first c =
    filled-first _ _ _
    c.blank_front-blank.ensures.blank c.blank_front-blank.ensures.ended c.line_len.ensures.first

pub returns-clause-ended : goal.returns-clause-ended
returns-clause-ended c = λ short.
    let text = c.args.text.now in
    let n = c.blank_front-blank.result in
    filled-ended text n c.line_len.result
    (c.line_len.ensures.ended
    (omega (arith, short, ap length (take_rest text n), length-drop n text)))
