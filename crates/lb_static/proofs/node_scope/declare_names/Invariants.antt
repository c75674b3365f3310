use Rattle.std.proofs.Common.{◌≡◌, ◌++◌, drop}
use Rattle.lb_static.proofs.node_scope.declare_names.Given as goal

abbrev pub invariant-loop-name : goal.invariant-loop-name
invariant-loop-name l = l.declared ++ drop l.name-index l.names ≡ l.fn.declared ++ l.names
