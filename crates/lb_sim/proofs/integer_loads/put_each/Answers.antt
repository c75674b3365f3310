use Rattle.std.proofs.Common.{◌+◌, arith}
use Rattle.lb_static.specs.Signature.{kinds_of}
use Rattle.lb_traces.specs.Packed.{number_columns}
use Rattle.lb_sim.proofs.IntegerLoads.{loaded_none, loaded_then}
use Rattle.lb_sim.proofs.integer_loads.put_each.Goals as goal

pub loop-i-init : goal.loop-i-init
loop-i-init c =
    let at = c.args.at.now in
    loaded_none at.set.now at.members.now at.begins.now at.t at.live.0
    (number_columns 0 (kinds_of at.set.now.signature)) c.args.places.now c.args.first
    c.args.words.now

pub loop-i-preserved : goal.loop-i-preserved
loop-i-preserved c =
    let at = c.args.at.now in
    loaded_then at.set.now at.members.now at.begins.now at.t at.live.0
    (number_columns 0 (kinds_of at.set.now.signature)) c.args.places.now c.args.first
    c.loop-i.i (c.loop-i.i + 1) _ _ _ (omega arith) (omega arith)
    (omega (arith, at.few, c.loop-i-test.true, c.requires.members)) c.loop-i.invariant
    c.put_member.ensures
