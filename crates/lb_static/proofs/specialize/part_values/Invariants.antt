use Rattle.std.proofs.Common.{◌≡◌, ◌++◌, drop, option_map}
use Rattle.lb_static.specs.Specialized.{given_by, part_values}
use Rattle.lb_static.proofs.specialize.part_values.Given as goal

abbrev pub invariant-loop-part : goal.invariant-loop-part
invariant-loop-part l =
    let given = given_by l.values in
    option_map (λ vs. l.all.items ++ vs) (part_values given (drop l.part-index l.parts))
    ≡ part_values given l.parts
