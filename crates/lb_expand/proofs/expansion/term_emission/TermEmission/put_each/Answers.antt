use Rattle.lb_expand.proofs.Words.{List, append-nil, arith, elements_of, emitted_of, numbers_of}
use Rattle.lb_expand.proofs.{Words.{refl, state_of, ℕ, ◌+◌}, emission.EmittedCalls.put_flat}
use Rattle.lb_expand.proofs.expansion.term_emission.TermEmission.put_each.Goals as goal

pub loop-index-init : goal.loop-index-init
loop-index-init g c = grind (arith, append-nil (numbers_of c.args.self.now.found.items))

pub loop-index-preserved : goal.loop-index-preserved
loop-index-preserved g c =
    let ctx = g.F.Frame.context c.args.frame.now in
    let l = c.loop-index in
    let old = c.args.self.now in
    let f : ℕ → List ℕ = λ i. ctx.child c.args.call i c.args.variable in
    grind (
      arith,
      put_flat (numbers_of old.found.items) (state_of old) (emitted_of l.self)
          (emitted_of c.put.new.self) f 0 l.index l.index (l.index + 1) (elements_of c.child.result)
          l.invariant.emitted c.in_ok-put.ensures.emitted c.child.ensures.places (omega arith) refl,
    )
