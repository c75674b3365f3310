-- One more plane equals `one`.
use Rattle.std.proofs.Common.{◌≡◌, ◌==◌, true, arith}
use Rattle.lb_machine.specs.declared.instruction.PlaneId.{PlaneId}
use Rattle.lb_sim.proofs.Choosing.{none_as, as_more, all_as}
use Rattle.lb_sim.proofs.choice.are_as.Goals as goal

pub loop-k-init : goal.loop-k-init
loop-k-init c = none_as c.args.planes.now c.args.each.now c.args.one.0

pub loop-k-preserved : goal.loop-k-preserved
loop-k-preserved c =
    let d : PlaneId = record { 0 = 0 } in
    as_more c.args.planes.now c.args.each.now c.args.one.0 c.loop-k.other.0 c.or-other.result.0
    c.xor-differing.result.0 c.loop-k.k d c.loop-k.invariant c.loop-k-test.true
    c.xor-differing.ensures c.or-other.ensures

pub returns : goal.returns
returns c e =
    let zero : (c.and-there.result.0 == 0) ≡ true = e in
    let nothing : c.and-there.result.0 ≡ 0 = grind (arith, zero) in
    all_as c.args.planes.now c.args.each.now c.args.one.0 c.loop-k.other.0 c.args.lanes.0
    c.and-there.result.0 c.loop-k.k c.loop-k.invariant c.loop-k-test.false c.and-there.ensures
    nothing
