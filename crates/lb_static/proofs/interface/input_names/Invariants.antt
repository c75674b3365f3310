use Rattle.std.proofs.Common.{◌≡◌, ◌+◌, ◌++◌, drop, map}
use Rattle.lb_syntax.specs.Grammar.{declared}
use Rattle.lb_syntax.specs.SourceView.{view_node, view_groups}
use Rattle.lb_static.proofs.interface.input_names.Given as goal

abbrev pub invariant-loop-group : goal.invariant-loop-group
invariant-loop-group l =
    map (λ x. x.now) l.names.items
    ++ map (λ d. d.name) (declared (view_groups (drop l.group-index l.group-items)))
    ≡ map (λ d. d.name) (view_node l.node).inputs

abbrev pub invariant-loop-name : goal.invariant-loop-name
invariant-loop-name l =
    map (λ x. x.now) l.names.items
    ++ (drop l.name-index l.name-items
    ++ map (λ d. d.name) (declared (view_groups (drop (l.group-index + 1) l.group-items))))
    ≡ map (λ d. d.name) (view_node l.node).inputs
