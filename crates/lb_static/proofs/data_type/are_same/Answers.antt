use Rattle.std.proofs.Common.{◌∙◌}
use Rattle.lb_static.proofs.TypeViews.{same_types_are, same_type_is}
use Rattle.lb_static.proofs.data_type.are_same.Goals as goal

pub returns : goal.returns
returns c = c.eq.ensures ∙ same_types_are _ same_type_is c.args.data_types.now c.args.others.now
