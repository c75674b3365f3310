use Rattle.std.proofs.Common.{◌≡◌, ◌++◌, codes, length, flat_map, map}
use Rattle.std.specs.List.{range_with_len}
use Rattle.lb_output.specs.Reports as report
use Rattle.lb_listing.specs.Listings.{line_of, verdicts_of}
use Rattle.lb_listing.proofs.text.push_total.Given as goal

abbrev pub invariant-loop-place : goal.invariant-loop-place
invariant-loop-place l =
    l.text.items
    ≡ l.fn.text.items
    ++ (codes "total" ++ report.number (length l.entries)
    ++ flat_map (report.counted (verdicts_of (map line_of l.entries))) (range_with_len 0 l.place))
