-- No name is known at the start.
use Rattle.std.proofs.Common.{refl, true}
use Rattle.lb_trace.proofs.KnownNames.{knows-none}
use Rattle.lb_trace.proofs.seen_names.SeenNames.new.Goals as goal

pub returns : goal.returns
returns c = knows-none record { rising = true; table = c.new.result } refl
