-- Each pass adds the variable that the clock of one variable names.
use Rattle.lb_expand.proofs.Words.{◌++◌, ◌∙◌, ap, flat_map, take_all, declared_when}
use Rattle.lb_expand.proofs.numbering.RowInstances.{piece_added}
use Rattle.lb_expand.proofs.expansion.clock_uses.push_variables.Goals as goal

pub loop-variable-preserved : goal.loop-variable-preserved
loop-variable-preserved c =
    let l = c.loop-variable in
    piece_added declared_when c.args.variables.now l.variable-index _ c.args.names.now.items
    l.names.items c.push_declared.new.names.items c.loop-variable-test.true l.invariant
    c.in_ok-push_declared.ensures

pub returns : goal.returns
returns c =
    let l = c.loop-variable in
    l.invariant
    ∙ ap (λ vs. c.args.names.now.items ++ flat_map declared_when vs)
    (take_all l.variable-index c.args.variables.now c.loop-variable-test.false)
