use Rattle.std.proofs.Common.{◌≡◌, ◌≤◌, ◌-◌, drop, take}
use Rattle.lb_part.specs.Ranges.{OfKnown}
use Rattle.lb_part.specs.Skips.{newlines_of}
use Rattle.lb_part.proofs.skips.count.Given as goal

abbrev pub invariant-loop : goal.invariant-loop
invariant-loop g l = record {
  low : l.from ≤ l.at;
  high : l.at ≤ l.to;
  few : l.skipped.lines ≤ l.at;
  lines : OfKnown (g.R.Ranges.bytes l.text) (λ all.
      l.skipped.lines ≡ newlines_of (take (l.at - l.from) (drop l.from all)));
}
