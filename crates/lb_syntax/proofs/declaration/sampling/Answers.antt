use Rattle.std.proofs.Common.{rules}
use Rattle.lb_syntax.specs.Programs.{when_at}
use Rattle.lb_syntax.proofs.declaration.sampling.Goals as goal

pub returns-in_ok-found-in-Some : goal.returns-in_ok-found-in-Some
unfolding when_at
returns-in_ok-found-in-Some c = search rules
