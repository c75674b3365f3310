use Rattle.std.proofs.Common.{◌≡◌}
use Rattle.lb_core_tests.proofs.batches.push_steps.Given as goal

abbrev pub invariant-loop : goal.invariant-loop
invariant-loop l = record {
  program : l.run.program.now ≡ l.fn.run.program.now;
  columns : l.inputs.columns ≡ l.fn.inputs.columns;
}
