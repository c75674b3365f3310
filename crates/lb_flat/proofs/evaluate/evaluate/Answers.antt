-- Room that is restarted holds the prepared state.
use Rattle.lb_flat.proofs.Words.{◌∙◌, flat_equations}
use Rattle.lb_flat.proofs.{ordering.Ordering.ready_of, runs.Starting.started}
use Rattle.lb_flat.proofs.evaluate.evaluate.Goals as goal

pub run-requires : goal.run-requires
run-requires g c =
    let p = c.args.prepared.now in
    let program = p.program.now in
    let start = started program p.inputs.items _ p.steps.items _ p.memories.items _
    p.row.items _ p.prepared c.as_slice.ensures.value
    (c.as_mut_slice.ensures.value ∙ c.restart.ensures.steps) c.as_slice-2.ensures.value
    (c.as_mut_slice-2.ensures.value ∙ c.restart.ensures.row) in
    record {
      runnable = record {
        in_range = p.in_range;
        in_order =
            ready_of program.size (flat_equations program.clocks.items program.equations.items)
            p.in_order;
      };
      inputs = start.inputs_are;
      places = start.inputs_within;
      steps = start.steps_are;
      within = start.steps_within;
      memories = start.memories_are;
      elements = start.has_all_elements;
      fixed = start.constants_set;
    }
