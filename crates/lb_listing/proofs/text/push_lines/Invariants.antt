use Rattle.std.proofs.Common.{◌≡◌, ◌++◌, flat_map, map, take}
use Rattle.lb_listing.specs.Listings.{line_of, spelled}
use Rattle.lb_listing.proofs.text.push_lines.Given as goal

abbrev pub invariant-loop-entry : goal.invariant-loop-entry
invariant-loop-entry l =
    l.text.items ≡ l.fn.text.items ++ flat_map spelled (map line_of (take l.entry-index l.entries))
