use Rattle.std.proofs.Common.{◌≡◌, ◌+◌, ◌≤◌, drop, map, min}
use Rattle.lb_static.specs.DataTypes.{total}
use Rattle.lb_static.specs.StoredTypes.{view_type}
use Rattle.lb_static.proofs.data_type.element_count.Given as goal

abbrev pub invariant-loop-data_type : goal.invariant-loop-data_type
invariant-loop-data_type l = record {
  value : min (l.count + total (map view_type (drop l.data_type-index l.data_types))) 65537
      ≡ min (total (map view_type l.data_types)) 65537;
  within : l.count ≤ 65537;
}
