use Rattle.std.proofs.Common.{◌≡◌, drop}
use Rattle.lb_static.proofs.Parameters.{value_among}
use Rattle.lb_static.proofs.instance_values.parameter_value.Given as goal

abbrev pub invariant-loop-place : goal.invariant-loop-place
invariant-loop-place l =
    value_among l.name (drop l.place l.parameters) (drop l.place l.values)
    ≡ value_among l.name l.parameters l.values
