use Rattle.std.proofs.Common.{refl, arith}
use Rattle.lb_machine.specs.declared.instruction.PlaneId.{PlaneId}
use Rattle.lb_machine.proofs.Carrying.{nothing_carried, one_set}
use Rattle.lb_machine.proofs.carry.carry_planes.Goals as goal

pub loop-j-init : goal.loop-j-init
loop-j-init c =
    nothing_carried 0 (λ (s : PlaneId). s.0) c.args.first c.args.sources.now c.args.planes.now

pub loop-j-preserved : goal.loop-j-preserved
loop-j-preserved c =
    let d : PlaneId = record { 0 = 0 } in
    one_set 0 (λ (s : PlaneId). s.0) c.args.first c.args.sources.now c.args.planes.now
    c.loop-j.planes c.loop-j.j d _ c.loop-j.invariant c.loop-j-test.true
    ((c.requires.sources c.loop-j.j d c.loop-j-test.true).0) c.requires.room refl

pub returns-clause-carried : goal.returns-clause-carried
returns-clause-carried c j s h =
    c.loop-j.invariant.carried j (omega (arith, h, c.loop-j-test.false)) s
