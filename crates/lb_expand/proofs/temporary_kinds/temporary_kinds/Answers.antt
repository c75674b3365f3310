-- Each pass adds the kind of one equation.
use Rattle.lb_expand.proofs.{Words.refl, fits.KindFacts.kind_next}
use Rattle.lb_expand.proofs.temporary_kinds.temporary_kinds.Goals as goal

pub loop-equation-preserved : goal.loop-equation-preserved
loop-equation-preserved c clocks =
    let l = c.loop-equation in
    kind_next c.args.kinds.now.items l.kinds.items c.push.new.self.items c.deref.result.now
    c.args.equations.now l.equation-index _ _ c.equation_kind-kind.result clocks
    c.loop-equation-test.true (l.invariant clocks) c.in_ok-push.ensures.items
    c.equation_kind-kind.ensures c.deref.ensures.value refl
