-- At the start no place has a turn.
use Rattle.std.proofs.Common.{◌≡◌, None, subst, sym, rules, replicate}
use Rattle.lb_static.specs.WorkLists.{HasTurns}
use Rattle.lb_static.proofs.WorkLists.{turns_none}
use Rattle.lb_static.proofs.work_list.WorkList.new.Goals as goal

pub invariant_of-result : goal.invariant_of-result
invariant_of-result c =
    let none : c.in_ok-turns.turns.items ≡ replicate c.args.count None = search rules in
    subst (λ l. HasTurns l c.in_ok-turns.turns.items) (sym c.new-order.ensures.items)
    (turns_none c.args.count c.in_ok-turns.turns.items none)
