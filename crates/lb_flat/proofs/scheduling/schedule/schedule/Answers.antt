use Rattle.lb_flat.proofs.Words.{subst, sym, ◌∙◌, set, true, arith, IsScheduled}
use Rattle.lb_flat.proofs.ordering.Ordering.{found_none, schedules, left-set}
use Rattle.lb_flat.proofs.scheduling.schedule.schedule.Goals as goal

pub returns-clause-state : goal.returns-clause-state
returns-clause-state c =
    subst
    (IsScheduled c.args.clocks.now c.args.table.now (set c.args.done.now c.args.e true))
    (sym c.in_ok-push.ensures.items)
    (schedules _ _ _ _ _ _ c.requires.table c.requires.state c.in-Some.is c.requires.element
    c.if-done-e.false
    (found_none _ _ c.awaited.ensures (sym c.is_some.ensures ∙ c.if-is_some.false)))

pub returns-clause-scheduled : goal.returns-clause-scheduled
returns-clause-scheduled c _ =
    left-set c.args.done.now c.args.e (omega (arith, c.requires.element, c.requires.state.marks))
    c.if-done-e.false
