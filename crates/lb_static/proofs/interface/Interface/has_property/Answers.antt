use Rattle.std.proofs.Common.{ap, ◌∙◌}
use Rattle.lb_static.specs.Interfaces.{is_one_truth_in}
use Rattle.lb_static.proofs.interface.Interface.has_property.Goals as goal

pub returns : goal.returns
returns c = c.is_one_truth.ensures ∙ ap is_one_truth_in c.outputs.ensures
