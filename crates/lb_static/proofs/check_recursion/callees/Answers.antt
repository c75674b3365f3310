-- One more call, and its callee if it has one.
use Rattle.std.proofs.Common.{ap, ◌∙◌, arith}
use Rattle.std.proofs.lemmas.Grind.{common_steps}
use Rattle.std.proofs.lemmas.List.{take_all}
use Rattle.std.proofs.lemmas.List.Elements.{filter_map-append}
use Rattle.lb_static.specs.CallGraphs.{callees_of}
use Rattle.lb_static.proofs.check_recursion.callees.Goals as goal

pub loop-call-preserved : goal.loop-call-preserved
loop-call-preserved c = grind (arith, common_steps, filter_map-append)

pub returns : goal.returns
returns c =
    c.loop-call.invariant
    ∙ ap (callees_of c.args.reached.now)
    (take_all c.loop-call.call-index c.args.calls.now c.loop-call-test.false)
