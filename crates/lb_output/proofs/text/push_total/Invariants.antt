use Rattle.std.proofs.Common.{◌≡◌, ◌++◌, codes, length, flat_map}
use Rattle.std.specs.List.{range_with_len}
use Rattle.lb_output.specs.Reports as spec
use Rattle.lb_output.proofs.text.push_total.Given as goal

abbrev pub invariant-loop-place : goal.invariant-loop-place
invariant-loop-place l =
    l.text.items
    ≡ l.fn.text.items
    ++ (codes "total" ++ spec.number (length l.verdicts)
    ++ flat_map (spec.counted l.verdicts) (range_with_len 0 l.place))
