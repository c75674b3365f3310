use Rattle.lb_expand.proofs.Words.{arith, refl, append-nil, numbers_of}
use Rattle.lb_expand.proofs.emission.EmittedCalls.{put_more}
use Rattle.lb_expand.proofs.expansion.term_emission.TermEmission.put.Goals as goal

pub loop-i-init : goal.loop-i-init
loop-i-init c = grind (arith, append-nil (numbers_of c.args.self.now.found.items))

pub loop-i-preserved : goal.loop-i-preserved
loop-i-preserved c =
    grind (
      arith,
      put_more _ _ _ _ _ _ _ c.loop-i.invariant.emitted c.in_ok-put_one.ensures.emitted
          refl,
    )
