use Rattle.std.proofs.Common.{◌≡◌, true, map, take}
use Rattle.std.specs.List.{list_all}
use Rattle.lb_static.specs.Names.{is_variable}
use Rattle.lb_static.specs.NodeProgress.{texts, counts_in, program_of}
use Rattle.lb_static.specs.Parts.{variable_names}
use Rattle.lb_static.specs.Progressed.{progress}
use Rattle.lb_static.specs.ResolvedTerms.{name_at, is_variable as is_place}
use Rattle.lb_static.proofs.resolving_statements.places.Given as goal

abbrev pub invariant-loop-left : goal.invariant-loop-left
invariant-loop-left l =
    let here = progress l.here in
    (map (name_at (variable_names here.node)) l.places.items ≡ take l.left-index l.lefts)
    × (list_all (is_place (counts_in (texts here))) l.places.items ≡ true)
    × (list_all (is_variable (program_of here) here.node) (take l.left-index l.lefts) ≡ true)
