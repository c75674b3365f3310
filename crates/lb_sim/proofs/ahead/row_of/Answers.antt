-- A live lane has each of the instants.
use Rattle.std.proofs.Common.{◌<◌, ◌≡◌, ◌+◌, ◌-◌, ◌∙◌, ap, get_or, arith}
use Rattle.lb_static.specs.Signature.{kinds_of}
use Rattle.lb_traces.specs.Traces.{cell_at}
use Rattle.lb_sim.specs.InputRows.{begin_of, number_columns}
use Rattle.lb_sim.proofs.ahead.row_of.Goals as goal

pub numbers-requires-clause-instant : goal.numbers-requires-clause-instant
numbers-requires-clause-instant c =
    let at = c.args.at.now in
    let few : c.args.i < 64 = omega (arith, c.requires.member, at.at.few) in
    let now = at.at.there c.args.i few c.requires.live in
    let then =
    at.further (at.at.t + c.args.d) (omega arith) c.requires.instant c.args.i few c.requires.live in
    omega (arith, now.begun, then.there)

pub returns-clause-numbers : goal.returns-clause-numbers
returns-clause-numbers c w l =
    let at = c.args.at.now.at in
    let few : c.args.i < 64 = omega (arith, c.requires.member, at.few) in
    let begin = begin_of at.begins.now c.args.i in
    let begun = (at.there c.args.i few c.requires.live).begun in
    let later : at.t - begin + c.args.d ≡ at.t + c.args.d - begin = omega (arith, begun) in
    c.numbers.ensures.numbers w l
    ∙ ap
    (λ t.
    cell_at at.set.now.traces (get_or at.members.now c.args.i 0) t
    (get_or (number_columns 0 (kinds_of at.set.now.signature)) w 0))
    later
