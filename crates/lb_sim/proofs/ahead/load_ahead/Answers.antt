use Rattle.std.proofs.Common.{◌≡◌, ◌+◌, ◌-◌, ap, ◌∙◌, get_or, arith}
use Rattle.lb_static.specs.Signature.{kinds_of}
use Rattle.lb_sim.specs.InputRows.{number_columns, member_cell}
use Rattle.lb_sim.proofs.ahead.load_ahead.Goals as goal

pub returns-clause-put : goal.returns-clause-put
returns-clause-put c i k li e l =
    let at = c.args.at.now.at in
    let columns = number_columns 0 (kinds_of at.set.now.signature) in
    let ahead = c.renewed-ahead.result in
    let promised = c.renewed-ahead.ensures in
    let here : ahead.first + (at.t - ahead.first) ≡ at.t = omega (arith, promised.begun) in
    c.take.ensures.put i
    (λ w. member_cell at.set.now at.members.now at.begins.now at.t i (get_or columns w 0))
    (λ m lm.
    promised.ahead.cells i (at.t - ahead.first) m li (promised.lanes i li e)
    (omega (arith, here, promised.until)) lm
    ∙ ap
    (λ t. member_cell at.set.now at.members.now at.begins.now t i
    (get_or columns (get_or c.args.places.now m 0) 0))
    here)
    k l
