-- If a pass finds no further value, all values are known.
use Rattle.std.proofs.Common.{◌<◌, refl, sym, subst}
use Rattle.lb_static.specs.ConstantValues.{known, read_constants, AreStable, IsSound}
use Rattle.lb_static.proofs.ConstantSteps.{fewer_unknown, table_kept, table_made}
use Rattle.lb_static.proofs.constants.values_of.Goals as goal

pub returns-clause-stable : goal.returns-clause-stable
returns-clause-stable c =
    subst (AreStable (read_constants c.args.constants.now))
    (sym (table_kept (read_constants c.args.constants.now) c.loop.values c.evaluate_all.new.values
    c.loop.invariant c.evaluate_all.ensures.sound)) (c.loop-test.ensures.stable refl)

pub returns-clause-sound : goal.returns-clause-sound
returns-clause-sound c =
    subst (IsSound (read_constants c.args.constants.now))
    (sym (table_kept (read_constants c.args.constants.now) c.loop.values c.evaluate_all.new.values
    c.loop.invariant c.evaluate_all.ensures.sound)) c.evaluate_all.ensures.sound

pub loop-preserved : goal.loop-preserved
loop-preserved c =
    subst (IsSound (read_constants c.args.constants.now))
    (sym (table_kept (read_constants c.args.constants.now) c.loop.values c.evaluate_all.new.values
    c.loop.invariant c.evaluate_all.ensures.sound)) c.evaluate_all.ensures.sound

pub loop-smaller : goal.loop-smaller
loop-smaller c =
    fewer_unknown c.args.constants.now c.loop.values c.evaluate_all.new.values c.loop.invariant
    c.evaluate_all.ensures.sound
    (subst (λ l. known l < known c.evaluate_all.new.values) c.deref_mut-in-loop.ensures.value
    (c.loop-test.ensures.more refl))

pub loop-init : goal.loop-init
loop-init c =
    subst (IsSound (read_constants c.args.constants.now))
    (sym (table_made c.args.constants.now c.in_ok-values.values c.evaluate_in_order.new.values
    c.in_ok-values.ensures.len c.in_ok-evaluate_in_order.ensures.sound))
    c.in_ok-evaluate_in_order.ensures.sound
