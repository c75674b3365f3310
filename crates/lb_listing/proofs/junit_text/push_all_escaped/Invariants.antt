use Rattle.std.proofs.Common.{◌≡◌, ◌++◌, flat_map, take}
use Rattle.lb_listing.specs.Junit.{escaped}
use Rattle.lb_listing.proofs.junit_text.push_all_escaped.Given as goal

abbrev pub invariant-loop-b : goal.invariant-loop-b
invariant-loop-b l = l.text.items ≡ l.fn.text.items ++ flat_map escaped (take l.b-index l.bytes)
