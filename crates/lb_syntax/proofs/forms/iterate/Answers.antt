use Rattle.std.proofs.Common.{rules, arith}
use Rattle.std.proofs.lemmas.Grind.{common_steps}
use Rattle.lb_syntax.proofs.Views.{view_iterate}
use Rattle.lb_syntax.proofs.forms.iterate.Goals as goal

pub returns : goal.returns
returns c =
    let e = view_iterate c.args.iterator c.in_ok-operator.operator c.args.size
    c.in_ok-operands.operands c.args.at in
    first_of (search rules, grind (arith, common_steps))
