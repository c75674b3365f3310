use Rattle.lb_expand.proofs.Words.{◌≡◌, drop, given_for}
use Rattle.lb_expand.proofs.clocks.given_for.Given as goal

abbrev pub invariant-loop-pair : goal.invariant-loop-pair
invariant-loop-pair l = given_for l.given l.x ≡ given_for (drop l.pair-index l.given) l.x
