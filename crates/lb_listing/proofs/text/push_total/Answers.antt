use Rattle.std.proofs.Common.{◌++◌, codes, length, ap, ◌∙◌, map}
use Rattle.lb_output.specs.Reports as report
use Rattle.lb_listing.specs.Listings.{line_of, verdicts_of}
use Rattle.lb_output.proofs.ReportLines.{ends_with_both, flat_map-range_more}
use Rattle.lb_listing.proofs.text.push_total.Goals as goal

pub loop-place-preserved : goal.loop-place-preserved
loop-place-preserved c =
    let verdicts = verdicts_of (map line_of c.args.entries.now) in
    let front = codes "total" ++ report.number (length c.args.entries.now) in
    let word = c.push_word.new.text.items in
    ends_with_both c.args.text.now.items front _ _ _ _ _ _ _
    c.loop-place.invariant c.in_ok-push_word.ensures.text
    (c.in_ok-push_number-2.ensures.text ∙ ap (λ n. word ++ report.number n) c.count_of.ensures)
    (flat_map-range_more (report.counted verdicts) c.loop-place.place)
