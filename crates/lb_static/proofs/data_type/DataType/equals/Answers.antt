use Rattle.std.proofs.Common.{◌∙◌}
use Rattle.lb_static.proofs.TypeViews.{same_type_is}
use Rattle.lb_static.proofs.data_type.DataType.equals.Goals as goal

pub returns : goal.returns
returns c = c.eq.ensures ∙ same_type_is c.args.self.now c.args.other.now
