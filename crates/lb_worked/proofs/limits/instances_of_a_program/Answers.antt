use Rattle.std.proofs.Common.{refl}
use Rattle.lb_worked.proofs.limits.instances_of_a_program.Goals as goal

pub returns : goal.returns
returns c = record {
  of_4096 = refl;
  of_4097 = refl;
}
