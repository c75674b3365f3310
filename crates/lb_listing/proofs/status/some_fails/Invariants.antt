use Rattle.std.proofs.Common.{◌≡◌, false, map, take}
use Rattle.std.specs.List.{list_any}
use Rattle.lb_listing.specs.Listings.{line_of}
use Rattle.lb_listing.specs.Verdicts.{fails}
use Rattle.lb_listing.proofs.status.some_fails.Given as goal

abbrev pub invariant-loop-entry : goal.invariant-loop-entry
invariant-loop-entry l =
    list_any (λ m. fails l.measure m.1) (map line_of (take l.entry-index l.entries)) ≡ false
