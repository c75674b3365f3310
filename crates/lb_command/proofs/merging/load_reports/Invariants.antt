use Rattle.std.proofs.Common.{◌≡◌, length}
use Rattle.lb_command.proofs.merging.load_reports.Given as goal

abbrev pub invariant-loop-path : goal.invariant-loop-path
invariant-loop-path g l = length l.texts.items ≡ l.path-index
