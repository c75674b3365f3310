use Rattle.std.proofs.Common.{rules}
use Rattle.lb_syntax.specs.Programs.{part_at}
use Rattle.lb_syntax.proofs.program.part_at.Goals as goal

pub returns-in-Some-after : goal.returns-in-Some-after
unfolding part_at
returns-in-Some-after c = search rules

pub returns-in-Some-after-2 : goal.returns-in-Some-after-2
unfolding part_at
returns-in-Some-after-2 c = search rules
