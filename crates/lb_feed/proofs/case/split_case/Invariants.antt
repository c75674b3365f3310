use Rattle.std.proofs.Common.{◌≡◌, ◌++◌, take, drop}
use Rattle.lb_feed.specs.Cases as spec
use Rattle.lb_feed.proofs.case.split_case.Given as goal

abbrev pub invariant-loop-i : goal.invariant-loop-i
invariant-loop-i l =
    let later = spec.parts_from l.at_start (drop l.i l.text) in
    (take l.i l.text ++ later.source ≡ (spec.parts_of l.text).source)
    × (later.traces ≡ (spec.parts_of l.text).traces)
