use Rattle.lb_expand.proofs.Words.{◌≡◌, ◌+◌, ◌-◌, ℕ, List, arith, refl, range_with_len, append-nil}
use Rattle.lb_expand.proofs.Words.{numbers_of, state_of, emitted_of, flat_map}
use Rattle.lb_expand.proofs.emission.EmittedCalls.{put_flat}
use Rattle.lb_expand.proofs.expansion.term_emission.TermEmission.put_gathered.Goals as goal

pub loop-x-init : goal.loop-x-init
loop-x-init g c =
    let first = c.args.first in
    let none : 0 ≡ first - first = omega arith in
    grind (arith, append-nil (numbers_of c.args.self.now.found.items))

pub loop-x-preserved : goal.loop-x-preserved
loop-x-preserved g c =
    let ctx = g.F.Frame.context c.args.frame.now in
    let l = c.loop-x in
    let old = c.args.self.now in
    let first = c.args.first in
    let f : ℕ → List ℕ =
    λ o. flat_map (λ i. ctx.child c.args.call i o) (range_with_len 0 c.args.repeats) in
    grind (
      arith,
      put_flat (numbers_of old.found.items) (state_of old) (emitted_of l.self)
          (emitted_of c.put_each.new.self) f first (l.x - first) l.x (l.x + 1 - first) (f l.x)
          l.invariant.emitted c.in_ok-put_each.ensures.emitted refl (omega (arith, l.auto.x)) (omega
          (arith, l.auto.x)),
    )
