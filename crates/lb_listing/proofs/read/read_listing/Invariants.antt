use Rattle.std.proofs.Common.{length}
use Rattle.lb_listing.proofs.ReadLines.{HasRead}
use Rattle.lb_listing.proofs.read.read_listing.Given as goal

abbrev pub invariant-loop-entry : goal.invariant-loop-entry
invariant-loop-entry l = HasRead l.text l.rest l.listing

abbrev pub decreases-loop-entry : goal.decreases-loop-entry
decreases-loop-entry l = length l.rest
