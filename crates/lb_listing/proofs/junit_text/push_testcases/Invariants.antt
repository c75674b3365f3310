use Rattle.std.proofs.Common.{◌≡◌, ◌++◌, flat_map, map, take}
use Rattle.lb_listing.specs.Junit.{testcase}
use Rattle.lb_listing.specs.Listings.{line_of}
use Rattle.lb_listing.proofs.junit_text.push_testcases.Given as goal

abbrev pub invariant-loop-entry : goal.invariant-loop-entry
invariant-loop-entry l =
    l.text.items
    ≡ l.fn.text.items ++ flat_map (testcase l.suite) (map line_of (take l.entry-index l.entries))
