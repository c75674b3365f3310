-- After the last pass, the kinds of all variables are added.
use Rattle.lb_expand.proofs.Words.{◌++◌, ◌∙◌, ap, flat_map, take_all, declared_kinds}
use Rattle.lb_expand.proofs.variable_kinds.push_variables.Goals as goal

pub returns : goal.returns
returns c =
    let l = c.loop-variable in
    l.invariant
    ∙ ap (λ vs. c.args.kinds.now.items ++ flat_map (declared_kinds c.args.statics.now) vs)
    (take_all l.variable-index c.args.variables.now c.loop-variable-test.false)
