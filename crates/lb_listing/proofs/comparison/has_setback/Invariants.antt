use Rattle.std.proofs.Common.{◌≡◌, false, map, take}
use Rattle.std.specs.List.{list_any}
use Rattle.lb_listing.specs.Compared.{is_setback}
use Rattle.lb_listing.specs.Indexed.{listed}
use Rattle.lb_listing.specs.Listings.{line_of}
use Rattle.lb_listing.proofs.comparison.has_setback.Given as goal

abbrev pub invariant-loop-entry : goal.invariant-loop-entry
invariant-loop-entry l =
    list_any (is_setback l.measure (listed l.before)) (map line_of (take l.entry-index l.entries))
    ≡ false
