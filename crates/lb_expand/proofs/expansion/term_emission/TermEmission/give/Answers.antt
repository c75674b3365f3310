use Rattle.lb_expand.proofs.Words.{Clock, FlatClock, Global, Vec, ap, append-nil, arith, clock_of}
use Rattle.lb_expand.proofs.{Words.{refl, state_of}, emission.EmittedCalls.give_step}
use Rattle.lb_expand.proofs.expansion.term_emission.TermEmission.give.Goals as goal

pub loop-i-init : goal.loop-i-init
loop-i-init c =
    let s = state_of c.args.self.now in
    grind (arith, append-nil s.copies)

pub loop-i-preserved : goal.loop-i-preserved
loop-i-preserved c =
    let l = c.loop-i in
    let key : Vec Clock Global → FlatClock = λ cs. clock_of cs.items c.args.clock in
    grind (
      arith,
      give_step _ _ _ _ _ _ _ _ _ _ l.invariant.state c.in_ok-give_one.ensures.state (ap
          key l.invariant.clocks) refl refl,
    )
