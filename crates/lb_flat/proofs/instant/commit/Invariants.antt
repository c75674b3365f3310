use Rattle.lb_flat.proofs.{Words.{◌<◌, length, All, IsWithin}, runs.Steps.IsCommitting}
use Rattle.lb_flat.proofs.instant.commit.Given as goal

abbrev pub invariant-loop-i : goal.invariant-loop-i
invariant-loop-i l = record {
  there : All (λ n. n < length l.steps) l.memories;
  within : All (IsWithin (length l.row) l.clocks) l.steps;
  moved : IsCommitting l.clocks l.row l.steps l.fn.steps l.memories l.i;
}
