use Rattle.std.proofs.Common.{length, All}
use Rattle.lb_flat.specs.Within.{IsWithin}
use Rattle.lb_history.proofs.Committing.{IsCommitting}
use Rattle.lb_history.proofs.instant.commit.Given as goal

abbrev pub invariant-loop-i : goal.invariant-loop-i
invariant-loop-i l = record {
  within : All (IsWithin (length l.row) l.clocks) l.equations;
  moved : IsCommitting l.clocks l.row l.equations l.fn.equations l.i;
}
