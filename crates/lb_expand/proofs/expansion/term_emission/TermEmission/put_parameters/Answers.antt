use Rattle.lb_expand.proofs.Words.{append-nil, arith, elements_of, emitted_of, numbers_of, state_of}
use Rattle.lb_expand.proofs.{Words.{◌+◌, ◌-◌, ◌∙◌, ◌≡◌}, emission.EmittedCalls.put_flat}
use Rattle.lb_expand.proofs.expansion.term_emission.TermEmission.put_parameters.Goals as goal

pub loop-x-init : goal.loop-x-init
loop-x-init g c =
    let first = c.args.first in
    let none : 0 ≡ first - first = omega arith in
    grind (arith, append-nil (numbers_of c.args.self.now.found.items))

pub loop-x-preserved : goal.loop-x-preserved
loop-x-preserved g c =
    let ctx = g.F.Frame.context c.args.frame.now in
    let l = c.loop-x in
    let old = c.args.self.now in
    let first = c.args.first in
    record {
      emitted = put_flat (numbers_of old.found.items) (state_of old) (emitted_of l.self)
          (emitted_of c.put.new.self) ctx.places first (l.x - first) l.x (l.x + 1 - first)
          (elements_of c.places.result) l.invariant.emitted c.in_ok-put.ensures.emitted
          c.places.ensures.places (omega (arith, l.auto.x)) (omega (arith, l.auto.x));
      within = omega (arith, c.loop-x-test.true);
      next = c.in_ok-put.ensures.next ∙ l.invariant.next;
      clocks = c.in_ok-put.ensures.clocks ∙ l.invariant.clocks;
    }
