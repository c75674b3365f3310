use Rattle.std.proofs.Common.{◌-◌, arith}
use Rattle.lb_static.specs.Signature.{kinds_of}
use Rattle.lb_sim.specs.InputRows.{truth_columns}
use Rattle.lb_sim.proofs.Loading.{truths_there}
use Rattle.lb_sim.proofs.loads.load_truths_ahead.Goals as goal

pub returns-clause-put : goal.returns-clause-put
returns-clause-put c wanted =
    let at = c.args.at.now.at in
    let ahead = c.renewed-ahead.result in
    let promised = c.renewed-ahead.ensures in
    truths_there at.set.now at.members.now at.begins.now at.t at.live.0 (at.t - ahead.first)
    (truth_columns 0 (kinds_of at.set.now.signature)) ahead.first ahead.until ahead.lanes.0
    c.renewed-ahead.new.rows c.args.planes.now c.turn.new.planes c.turn.ensures.planes
    c.requires.room promised.ahead (omega (arith, promised.begun)) promised.until promised.lanes
    c.turn.ensures.put
