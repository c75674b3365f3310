use Rattle.lb_flat.proofs.Words.{sym}
use Rattle.lb_flat.proofs.ordering.{Ordering.entry, Tables.{marks_within, left, leads, lower}}
use Rattle.lb_flat.proofs.scheduling.next_variable.next_left.Goals as goal

pub unreachable-requires : goal.unreachable-requires
unreachable-requires c =
    let e = entry c.args.program.now c.args.table.now c.args.done.now c.requires.stuck
    c.args.from.0 c.requires.from.is_element in
    c.in_default.not-Some e.equation e.stands

pub awaited-requires-clause-within : goal.awaited-requires-clause-within
awaited-requires-clause-within c =
    rw c.as_slice.ensures.value
    (marks_within _ _ _ c.requires.stuck _ c.requires.from _ c.in-Some.is)

pub returns-clause-left : goal.returns-clause-left
returns-clause-left c =
    left _ _ _ c.requires.stuck _ c.requires.from _ c.in-Some.is _
    (sym (rw c.as_slice.ensures.value at c.in-Some-awaited.ensures))

pub returns-clause-leads : goal.returns-clause-leads
returns-clause-leads c =
    leads _ _ _ c.requires.stuck _ c.requires.from _ c.in-Some.is _
    (sym (rw c.as_slice.ensures.value at c.in-Some-awaited.ensures))

pub returns-clause-lower : goal.returns-clause-lower
returns-clause-lower c =
    lower _ _ _ c.requires.stuck _ c.requires.from _ c.in-Some.is _
    (sym (rw c.as_slice.ensures.value at c.in-Some-awaited.ensures))
