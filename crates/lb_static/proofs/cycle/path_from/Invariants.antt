use Rattle.std.proofs.Common.{◌≡◌, ◌≤◌, ◌-◌, length, map, drop}
use Rattle.lb_static.specs.CycleSearch.{from_first}
use Rattle.lb_static.proofs.cycle.path_from.Given as goal

abbrev pub invariant-loop-start : goal.invariant-loop-start
invariant-loop-start l = record {
  within : l.start ≤ length l.path;
  same : from_first l.first (map (λ f. f.node) (drop l.start l.path))
      ≡ from_first l.first (map (λ f. f.node) l.path);
}

abbrev pub decreases-loop-start : goal.decreases-loop-start
decreases-loop-start l = length l.path - l.start
