use Rattle.lb_check.{specs.StoredClocks.context_in, proofs.clocking.WalkedClocks.AreWalked}
use Rattle.lb_check.proofs.walked_clocks.+clock_sets.Given as goal

abbrev pub invariant-walk_all-loop-seen : goal.invariant-walk_all-loop-seen
invariant-walk_all-loop-seen l =
    AreWalked (context_in l.env) l.terms l.fn.known.items l.seen l.known.items l.operands.items
