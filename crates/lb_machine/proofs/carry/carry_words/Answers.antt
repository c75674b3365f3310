use Rattle.std.proofs.Common.{[], arith}
use Rattle.lb_machine.specs.declared.instruction.WordId.{WordId}
use Rattle.lb_machine.proofs.Carrying.{nothing_carried, one_carried}
use Rattle.lb_machine.proofs.carry.carry_words.Goals as goal

pub loop-j-init : goal.loop-j-init
loop-j-init c =
    nothing_carried [] (λ (s : WordId). s.0) c.args.first c.args.sources.now c.args.words.now

pub loop-j-preserved : goal.loop-j-preserved
loop-j-preserved c =
    let d : WordId = record { 0 = 0 } in
    one_carried [] (λ (s : WordId). s.0) c.args.first c.args.sources.now c.args.words.now
    c.loop-j.words c.copy_back.new.words c.loop-j.j d c.loop-j.invariant c.loop-j-test.true
    ((c.requires.sources c.loop-j.j d c.loop-j-test.true).0)
    c.copy_back.ensures.words c.copy_back.ensures.copied c.copy_back.ensures.others

pub returns-clause-carried : goal.returns-clause-carried
returns-clause-carried c j s h =
    c.loop-j.invariant.carried j (omega (arith, h, c.loop-j-test.false)) s
