use Rattle.lb_flat.proofs.Words.{◌<◌, length, refl, sym, ◌∙◌, arith, program_of, flat_equations}
use Rattle.lb_flat.proofs.runs.Evaluating.{goes_on, ends_with}
use Rattle.lb_flat.proofs.evaluate.run.Goals as goal

pub loop-t-init : goal.loop-t-init
loop-t-init g c =
    let p = c.args.program.now in
    record {
      equations = flat_equations p.clocks.items p.equations.items;
      in_order = c.requires.runnable.in_order;
      inputs_are = c.requires.inputs;
      steps_are = c.requires.steps;
      places_are = c.requires.memories;
      within = c.requires.within;
      as_long = c.requires.elements;
      fixed = c.requires.fixed;
      rest = refl;
    }

pub loop-t-preserved : goal.loop-t-preserved
loop-t-preserved g c =
    let X = g.I.Instants.rows c.args.trace.now in
    let lt : c.loop-t.t < length X = omega (arith, c.loop-t-test.true, c.count-t-end.ensures) in
    goes_on (program_of c.args.program.now) X _ _ _ _ _ _ c.loop-t.invariant lt _ _
    c.read.ensures.read c.step-verdict.ensures.row _ c.step-verdict.ensures.within
    c.step-verdict.ensures.elements c.step-verdict.ensures.memories
    (sym c.in-Passed.is ∙ c.step-verdict.ensures.verdict)

pub returns-in_default : goal.returns-in_default
returns-in_default g c =
    let X = g.I.Instants.rows c.args.trace.now in
    let lt : c.loop-t.t < length X = omega (arith, c.loop-t-test.true, c.count-t-end.ensures) in
    ends_with (program_of c.args.program.now) X _ _ _ _ _ _ c.loop-t.invariant lt _ _
    c.read.ensures.read c.step-verdict.ensures.row _ c.step-verdict.ensures.verdict
    c.in_default.not-Passed
