use Rattle.std.proofs.Common.{rules, arith}
use Rattle.std.proofs.lemmas.Grind.{common_steps}
use Rattle.lb_syntax.proofs.Views.{view_call}
use Rattle.lb_syntax.proofs.forms.call.Goals as goal

pub returns : goal.returns
returns c =
    let e = view_call c.in_ok-name.name c.args.statics c.in_ok-operands.operands in
    first_of (search rules, grind (arith, common_steps))
