use Rattle.lb_check.proofs.{Words.{AreDepths, arith, subst, sym}, clocking.ClockDepths.noted_step}
use Rattle.lb_check.proofs.clock.first_in_circle.Goals as goal

pub note_depths-requires-clause-small : goal.note_depths-requires-clause-small
note_depths-requires-clause-small c = (c.depth_of.ensures.found _ c.in-Some.is).1

pub loop-variable-preserved : goal.loop-variable-preserved
loop-variable-preserved c =
    noted_step _ _ _ c.note_depths.new.depths c.loop-variable.variable c.loop-variable.depths.len
    c.loop-variable.invariant.0 c.deref_mut.ensures.value (omega arith)
    c.note_depths.ensures.known c.note_depths.ensures.noted c.note_depths.ensures.kept
    c.loop-variable.invariant.1

pub note_depths-requires-clause-known : goal.note_depths-requires-clause-known
note_depths-requires-clause-known c =
    subst (AreDepths c.args.variables.now) (sym c.deref_mut.ensures.value)
    c.loop-variable.invariant.0
