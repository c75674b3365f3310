use Rattle.lb_check.proofs.Words.{◌≡◌, drop, first_broken, waits_below}
use Rattle.lb_check.proofs.lists.ListPairs.{broken_from}
use Rattle.lb_check.proofs.clock.first_waiting_past.Given as goal

abbrev pub invariant-loop-i : goal.invariant-loop-i
invariant-loop-i l =
    let kept = waits_below l.count in
    first_broken kept l.variables ≡ broken_from kept l.i (drop l.i l.variables)
