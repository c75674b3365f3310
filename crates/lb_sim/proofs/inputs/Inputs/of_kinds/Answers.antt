use Rattle.std.proofs.Common.{map, replicate, ap, ◌∙◌}
use Rattle.lb_sim.specs.InputRows.{zero_of}
use Rattle.lb_sim.proofs.ZeroLanes.{row_of_zero}
use Rattle.lb_sim.proofs.inputs.Inputs.of_kinds.Goals as goal

pub returns-clause-zero : goal.returns-clause-zero
returns-clause-zero c i h =
    let x = c.in_ok-columns.columns in
    row_of_zero x.kinds.items c.in_ok-planes.planes.items c.in_ok-words.words.items i h
    (c.in_ok-planes.ensures.items_if_clones_equal (λ y e. e) ∙ ap (λ n. replicate n 0) x.all_truths)
    c.in_ok-words.ensures.zero (c.in_ok-words.ensures.count ∙ x.all_numbers)
    ∙ ap (map zero_of) c.in_ok-columns.ensures
