use Rattle.lb_check.proofs.Words.{◌≡◌, ◌+◌, subst, arith, HasDepth}
use Rattle.lb_check.proofs.clocking.ClockDepths.{awaits, awaits_none, known_depth, step_more}
use Rattle.lb_check.proofs.clocking.ClockDepths.{stands_below, stands_here, no_depth}
use Rattle.lb_check.proofs.clock.depth_of.Goals as goal

pub returns-then-depth-variables-clause-circle : goal.returns-then-depth-variables-clause-circle
returns-then-depth-variables-clause-circle c e =
    let here = known_depth _ _ _ _ _ c.requires.known c.loop-steps.invariant.0 c.in-Some.is in
    no_depth _ _ _ _ (stands_below _ _ _ _ _ c.loop-steps.invariant.1 here.0) (omega arith)

pub returns-in-Some-clause-found : goal.returns-in-Some-clause-found
returns-in-Some-clause-found c d e =
    let here = known_depth _ _ _ _ _ c.requires.known c.loop-steps.invariant.0 c.in-Some.is in
    let same : c.loop-steps.steps + c.in-Some.depth ≡ d = cc in
    let stands = stands_below _ _ _ _ _ c.loop-steps.invariant.1 here.0 in
    (subst (λ m. HasDepth c.args.variables.now m c.args.first) same stands, omega arith)

pub returns-in_default-clock-clause-found : goal.returns-in_default-clock-clause-found
returns-in_default-clock-clause-found c d e =
    let same : c.loop-steps.steps ≡ d = cc in
    let stands = stands_here _ _ _ _ c.loop-steps.invariant.1
    (awaits_none _ _ _ c.loop-steps.invariant.0 c.in_default-clock.is) in
    (subst (λ m. HasDepth c.args.variables.now m c.args.first) same stands, omega arith)

pub loop-steps-preserved : goal.loop-steps-preserved
loop-steps-preserved c =
    let next = awaits _ _ _ _ c.loop-steps.invariant.0 c.in-Some-clock.is in
    (c.requires.awaited _ _ next, step_more _ _ _ _ _ c.loop-steps.invariant.1 next)
