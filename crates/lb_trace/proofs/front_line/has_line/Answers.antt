-- A line that is not empty begins behind the ends of lines at the front.
use Rattle.std.proofs.Common.{◌<◌, length}
use Rattle.std.proofs.lemmas.Bool.{ltb-false, ltb-true}
use Rattle.lb_trace.proofs.FrontLines.{no_record, some_record}
use Rattle.lb_trace.proofs.front_line.has_line.Goals as goal

pub returns-clause-some : goal.returns-clause-some
returns-clause-some c = λ yes.
    let text = c.args.text.now in
    let n = c.blank_front.result in
    let below : c.blank_front.result < length c.args.text.now = ltb-true n (length text) yes in
    some_record text n below c.blank_front.ensures.blank c.blank_front.ensures.ended
    (c.blank_front.ensures.next below)

pub returns-clause-none : goal.returns-clause-none
returns-clause-none c = λ no.
    no_record c.args.text.now c.blank_front.result
    (ltb-false c.blank_front.result (length c.args.text.now) no) c.blank_front.ensures.blank
