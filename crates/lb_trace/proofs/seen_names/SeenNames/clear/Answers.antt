-- No trace is known.
use Rattle.std.proofs.Common.{refl, true}
use Rattle.lb_trace.proofs.KnownNames.{knows-none}
use Rattle.lb_trace.proofs.seen_names.SeenNames.clear.Goals as goal

pub returns : goal.returns
returns c = knows-none record c.args.self.now { rising = true } refl
