use Rattle.std.proofs.Common.{◌++◌, codes, length, ap, ◌∙◌}
use Rattle.lb_output.specs.Reports as spec
use Rattle.lb_output.proofs.ReportLines.{flat_map-range_more, ends_with_both}
use Rattle.lb_output.proofs.text.push_total.Goals as goal

pub loop-place-preserved : goal.loop-place-preserved
loop-place-preserved c =
    let verdicts = c.args.verdicts.now in
    let front = codes "total" ++ spec.number (length verdicts) in
    let word = c.push_word.new.text.items in
    ends_with_both c.args.text.now.items front _ _ _ _ _ _ _
    c.loop-place.invariant c.in_ok-push_word.ensures.text
    (c.in_ok-push_number-2.ensures.text ∙ ap (λ n. word ++ spec.number n) c.count_of.ensures)
    (flat_map-range_more (spec.counted verdicts) c.loop-place.place)
