use Rattle.lb_sim.specs.Inputs.{inputs_row}
use Rattle.lb_sim.proofs.BatchSteps.{lane_moved}
use Rattle.lb_sim.proofs.LanePrograms.{faults_fit, undefined_fit, failed_fit, violated_fit}
use Rattle.lb_sim.proofs.instant.advance.Goals as goal

pub judge-passed-requires-clause-faults : goal.judge-passed-requires-clause-faults
judge-passed-requires-clause-faults c =
    faults_fit c.args.program.now c.code_for-code.result.now c.code_for-code.ensures.law _ _
    c.compute.ensures.planes c.requires.planes

pub judge-passed-requires-clause-undefined : goal.judge-passed-requires-clause-undefined
judge-passed-requires-clause-undefined c =
    undefined_fit c.args.program.now c.code_for-code.result.now c.code_for-code.ensures.law _ _
    c.compute.ensures.planes c.requires.planes

pub judge-passed-requires-clause-failed : goal.judge-passed-requires-clause-failed
judge-passed-requires-clause-failed c =
    failed_fit c.args.program.now c.code_for-code.result.now c.code_for-code.ensures.law _ _
    c.compute.ensures.planes c.requires.planes

pub judge-passed-requires-clause-violated : goal.judge-passed-requires-clause-violated
judge-passed-requires-clause-violated c =
    violated_fit c.args.program.now c.code_for-code.result.now c.code_for-code.ensures.law _ _
    c.compute.ensures.planes c.requires.planes

pub returns-clause-moved : goal.returns-clause-moved
returns-clause-moved c i h =
    let code = c.code_for-code in
    lane_moved c.args.program.now code.result.now code.ensures.law
    (inputs_row c.args.inputs.now i) _ _ _ _ _ _ _ _ _ _ (code.ensures.suits c.args.words.now i h)
    (c.compute.ensures.computed i h) (c.and-going.ensures i h) (c.judge-passed.ensures.passed i h)
    (c.judge-passed.ensures.put i h) (c.commit.ensures.carried i)
