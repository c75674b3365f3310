use Rattle.std.proofs.Common.{length}
use Rattle.lb_static.proofs.instance_paths.+lead.Given as goal

abbrev pub decreases-lead : goal.decreases-lead
decreases-lead l = length l.instances.now
