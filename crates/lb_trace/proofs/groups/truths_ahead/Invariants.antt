use Rattle.lb_trace.specs.Groups.{AreBooleans}
use Rattle.lb_trace.proofs.groups.truths_ahead.Given as goal

abbrev pub invariant-loop-i : goal.invariant-loop-i
invariant-loop-i l = record { booleans : AreBooleans l.i l.columns }
