use Rattle.std.proofs.Common.{◌≡◌, drop}
use Rattle.lb_static.specs.Specialized.{are_in_range, given_by}
use Rattle.lb_static.proofs.specialize.are_in_range.Given as goal

abbrev pub invariant-loop-place : goal.invariant-loop-place
invariant-loop-place l =
    let given = given_by l.values in
    are_in_range given (drop l.place l.parts) (drop l.place l.statics)
    ≡ are_in_range given l.parts l.statics
