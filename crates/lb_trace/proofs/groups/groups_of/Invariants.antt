use Rattle.std.proofs.Common.{◌≤◌, ◌-◌, length}
use Rattle.lb_trace.proofs.FoundGroups.{Covers}
use Rattle.lb_trace.proofs.groups.groups_of.Given as goal

abbrev pub invariant-loop-done : goal.invariant-loop-done
invariant-loop-done l = record {
  covers : Covers l.groups.items l.columns l.done;
  within : l.done ≤ length l.columns;
}

abbrev pub decreases-loop-done : goal.decreases-loop-done
decreases-loop-done l = length l.columns - l.done
