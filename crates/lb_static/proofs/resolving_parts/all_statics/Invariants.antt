use Rattle.std.proofs.Common.{◌≡◌, true, [], map, take}
use Rattle.lb_syntax.specs.View.{view_statics}
use Rattle.lb_static.specs.NodeProgress.{grown, statics_fit}
use Rattle.lb_static.specs.Progressed.{progress}
use Rattle.lb_static.specs.StaticParts.{purpose_of}
use Rattle.lb_static.proofs.resolving_parts.all_statics.Given as goal

abbrev pub invariant-loop-text : goal.invariant-loop-text
invariant-loop-text l =
    let so_far = view_statics (take l.text-index l.texts) in
    (progress l.here ≡ grown (progress l.fn.here) (map (λ x. (purpose_of l.role, x)) so_far) [])
    × (statics_fit (progress l.fn.here) so_far ≡ true)
