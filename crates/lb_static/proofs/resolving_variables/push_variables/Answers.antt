-- One more variable like the others.
use Rattle.std.proofs.Common.{take, ap, ◌∙◌}
use Rattle.std.proofs.lemmas.List.{take_all}
use Rattle.lb_static.specs.NodeProgress.{with_alike}
use Rattle.lb_static.specs.Progressed.{progress}
use Rattle.lb_static.proofs.NodeVariables.{none_alike, one_more_alike, still_fits}
use Rattle.lb_static.proofs.resolving_variables.push_variables.Goals as goal

pub push_variable-requires : goal.push_variable-requires
push_variable-requires c =
    still_fits (progress c.args.here.now) (progress c.loop-name.here)
    (take c.loop-name._name-index c.args.names.now) c.args.variable c.loop-name.invariant c.requires

pub loop-name-preserved : goal.loop-name-preserved
loop-name-preserved c =
    one_more_alike (progress c.args.here.now) (progress c.loop-name.here)
    (progress c.push_variable.new.self) c.args.names.now c.loop-name._name-index c._name-item.result
    c.args.variable c.loop-name-test.true c.loop-name.invariant c.in_ok-push_variable.ensures.after

pub loop-name-init : goal.loop-name-init
loop-name-init c = none_alike (progress c.args.here.now) c.args.variable

pub returns-clause-ok : goal.returns-clause-ok
returns-clause-ok c =
    let start = progress c.args.here.now in
    c.loop-name.invariant ∙ ap (λ l. with_alike start l c.args.variable)
    (take_all c.loop-name._name-index c.args.names.now c.loop-name-test.false)
