use Rattle.std.proofs.Common.{◌≡◌, ◌+◌, ◌≤◌, ◌++◌, drop, map, length}
use Rattle.lb_static.specs.DataTypes.{total}
use Rattle.lb_static.specs.Interfaces.{elements_named}
use Rattle.lb_static.specs.StoredTypes.{view_type}
use Rattle.lb_static.proofs.element_names.elements.Given as goal

abbrev pub invariant-loop-place : goal.invariant-loop-place
invariant-loop-place l = record {
  so_far : l.signature ++ elements_named (map (λ x. x.now) (drop l.place l.names))
      (map view_type (drop l.place l.data_types))
      ≡ elements_named (map (λ x. x.now) l.names) (map view_type l.data_types);
  room : length l.signature + total (map view_type (drop l.place l.data_types)) ≤ 1023;
}
