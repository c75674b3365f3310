use Rattle.std.proofs.Common.{◌≤◌}
use Rattle.lb_report.proofs.rounds.row_bytes.Given as goal

abbrev pub invariant-loop-i : goal.invariant-loop-i
invariant-loop-i l = l.integers ≤ l.i
