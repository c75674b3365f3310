use Rattle.std.proofs.Common.{◌≡◌, ◌*◌, ◌≤◌, drop, min}
use Rattle.lb_static.specs.DataTypes.{product}
use Rattle.lb_static.proofs.data_type.size_product.Given as goal

abbrev pub invariant-loop-size : goal.invariant-loop-size
invariant-loop-size l = record {
  value : min (l.elements * product (drop l.size-index l.sizes)) 65537
      ≡ min (product l.sizes) 65537;
  within : l.elements ≤ 65537;
}
