use Rattle.std.proofs.Common.{◌≡◌, true, take}
use Rattle.std.specs.List.{list_all}
use Rattle.lb_syntax.specs.Grammar.{declared}
use Rattle.lb_syntax.specs.SourceView.{view_groups}
use Rattle.lb_static.specs.NodeProgress.{after_groups, declaration_fits}
use Rattle.lb_static.specs.Progressed.{progress}
use Rattle.lb_static.proofs.resolving_variables.resolve_groups.Given as goal

abbrev pub invariant-loop-group : goal.invariant-loop-group
invariant-loop-group l =
    let so_far = view_groups (take l.group-index l.groups) in
    (progress l.here ≡ after_groups (progress l.fn.here) so_far)
    × (list_all (declaration_fits (progress l.fn.here)) (declared so_far) ≡ true)
