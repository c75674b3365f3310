use Rattle.std.proofs.Common.{◌≡◌, ◌++◌, map, take}
use Rattle.lb_listing.specs.Compared.{changes}
use Rattle.lb_listing.specs.Indexed.{listed}
use Rattle.lb_listing.specs.Listings.{line_of}
use Rattle.lb_listing.proofs.comparison.push_changes.Given as goal

abbrev pub invariant-loop-entry : goal.invariant-loop-entry
invariant-loop-entry l =
    l.text.items
    ≡ l.fn.text.items ++ changes (listed l.before) (map line_of (take l.entry-index l.entries))
