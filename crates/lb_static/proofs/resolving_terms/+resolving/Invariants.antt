use Rattle.std.proofs.Common.{◌≡◌, true, map, take}
use Rattle.lb_syntax.specs.View.{view}
use Rattle.lb_static.specs.NodeProgress.{after_exprs, exprs_pass, StandAll}
use Rattle.lb_static.specs.Progressed.{progress}
use Rattle.lb_static.proofs.resolving_terms.+resolving.Given as goal

abbrev pub invariant-terms-loop-e : goal.invariant-terms-loop-e
invariant-terms-loop-e l =
    let so_far = map view (take l.e-index l.es) in
    (progress l.here ≡ after_exprs (progress l.fn.here) so_far)
    × StandAll (progress l.here) so_far l.all.items
    × (exprs_pass (progress l.fn.here) so_far ≡ true)
