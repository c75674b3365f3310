use Rattle.std.proofs.Common.{◌≡◌, ◌++◌, drop}
use Rattle.lb_syntax.specs.Grammar.{declared as declarations_in}
use Rattle.lb_syntax.specs.SourceView.{view_groups}
use Rattle.lb_static.specs.SourceNames.{names_in}
use Rattle.lb_static.proofs.node_scope.declare_groups.Given as goal

abbrev pub invariant-loop-group : goal.invariant-loop-group
invariant-loop-group l =
    l.declared ++ names_in (declarations_in (view_groups (drop l.group-index l.groups)))
    ≡ l.fn.declared ++ names_in (declarations_in (view_groups l.groups))
