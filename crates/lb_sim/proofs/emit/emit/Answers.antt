use Rattle.lb_sim.proofs.OperationArms.{same_holding}
use Rattle.lb_sim.proofs.emit.emit.Goals as goal

pub returns-clause-emitted : goal.returns-clause-emitted
returns-clause-emitted c =
    same_holding c.emit_any.new.code c.args.places.now c.args.inputs.now c.args.constant
    c.args.kept c.args.operation c.args.kind c.in_ok-any.any c.of_kind.result
    (c.in_ok-any.ensures.emitted c.args.kind) c.of_kind.ensures.same
