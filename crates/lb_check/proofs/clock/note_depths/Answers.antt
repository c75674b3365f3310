use Rattle.lb_check.proofs.Words.{arith, inl, inr, length, subst, sym, ◌+◌, ◌-◌, ◌<◌, ◌∙◌}
use Rattle.lb_check.proofs.clocking.ClockDepths.{awaits, first_known, first_noted, more_depths}
use Rattle.lb_check.proofs.clocking.ClockDepths.{still_known, waits_deeper}
use Rattle.lb_check.proofs.clock.note_depths.Goals as goal

pub returns-in_default-clause-noted : goal.returns-in_default-clause-noted
returns-in_default-clause-noted c =
    let here : c.loop-above.variable < length c.loop-above.depths =
    omega (arith, c.loop-above.invariant.known.as_many) in
    first_known c.loop-above.depths c.loop-above.variable
    (c.args.depth - c.loop-above.above) c.args.first _ here c.loop-above.invariant.noted

pub returns-in_default-clause-kept : goal.returns-in_default-clause-kept
returns-in_default-clause-kept c x known =
    still_known c.loop-above.depths c.loop-above.variable (c.args.depth - c.loop-above.above) x
    (c.loop-above.invariant.kept x known)

pub loop-above-preserved : goal.loop-above-preserved
loop-above-preserved c =
    let depths = c.loop-above.depths in
    let x = c.loop-above.variable in
    let d = c.args.depth - c.loop-above.above in
    let next = awaits _ _ _ _ c.loop-above.invariant.within c.in-Some.is in
    let below : c.loop-above.above < c.args.depth + 1 = omega arith in
    let here : c.loop-above.variable < length c.loop-above.depths =
    omega (arith, c.loop-above.invariant.known.as_many) in
    record {
      within = c.requires.awaited _ _ next;
      stands = waits_deeper _ _ _ _ _ c.loop-above.invariant.stands below next;
      known = more_depths _ depths x d c.loop-above.invariant.known c.loop-above.invariant.stands
          (omega arith);
      noted = inr (first_known depths x d c.args.first _ here c.loop-above.invariant.noted);
      kept = λ y known. still_known depths x d y (c.loop-above.invariant.kept y known);
    }

pub returns-clause-noted : goal.returns-clause-noted
returns-clause-noted c = elim c.loop-above.invariant.noted
    [ inl e ↦ absurd (omega arith) | inr k ↦ k ]

pub returns-then-is_some-clause-noted : goal.returns-then-is_some-clause-noted
returns-then-is_some-clause-noted c =
    let known = c.loop-above.invariant in
    first_noted c.loop-above.depths c.loop-above.variable c.args.first _ _
    (subst (λ n. c.loop-above.variable < n) (sym known.known.as_many) known.within)
    (sym c.is_some.ensures ∙ c.if-is_some.true) known.noted

pub returns-in_default-clause-known : goal.returns-in_default-clause-known
returns-in_default-clause-known c =
    let known = c.loop-above.invariant in
    more_depths _ c.loop-above.depths c.loop-above.variable (c.args.depth - c.loop-above.above)
    known.known known.stands (omega (arith, c.requires.small))
