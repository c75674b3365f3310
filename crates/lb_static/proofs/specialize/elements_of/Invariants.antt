use Rattle.std.proofs.Common.{◌≡◌, ◌≤◌, drop}
use Rattle.lb_static.specs.Specialized.{times_sizes}
use Rattle.lb_static.proofs.specialize.elements_of.Given as goal

abbrev pub invariant-loop-size : goal.invariant-loop-size
invariant-loop-size l = record {
  same : times_sizes l.elements (drop l.size-index l.sizes) ≡ times_sizes 1 l.sizes;
  within : l.elements ≤ 65537;
}
