use Rattle.std.proofs.Common.{◌≡◌, ◌<◌, ℕ, [], map}
use Rattle.lb_static.specs.CycleSearch.{IsAt, IsBetween}
use Rattle.lb_static.specs.declared.cycle.Progress.TheVariants.{Done}
use Rattle.lb_static.proofs.cycle.search_from_each.Given as goal

abbrev pub invariant-loop-start : goal.invariant-loop-start
invariant-loop-start l = record {
  between : IsBetween (map (λ v. v.items) l.graph) l.progress;
  done : (i : ℕ) → i < l.start → IsAt l.progress i Done;
  none : l.path.items ≡ [];
}
