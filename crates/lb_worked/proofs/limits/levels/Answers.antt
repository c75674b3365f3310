use Rattle.std.proofs.Common.{refl}
use Rattle.lb_worked.proofs.limits.levels.Goals as goal

pub returns : goal.returns
returns c = record {
  chain_of_64_nodes = refl;
  chain_of_65_nodes = refl;
}
