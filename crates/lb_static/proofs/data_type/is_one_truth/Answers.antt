use Rattle.std.proofs.Common.{sym, arith}
use Rattle.lb_static.specs.DataTypes.{truth}
use Rattle.lb_static.proofs.TypeViews.{several}
use Rattle.lb_static.proofs.data_type.is_one_truth.Goals as goal

pub returns-in_default-2 : goal.returns-in_default-2
returns-in_default-2 c =
    sym (several c.args.data_types.now truth (omega (arith, c.in_default.len_at_least)))
