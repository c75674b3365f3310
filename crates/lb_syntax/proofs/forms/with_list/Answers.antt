use Rattle.std.proofs.Common.{rules, arith}
use Rattle.std.proofs.lemmas.Grind.{common_steps}
use Rattle.lb_syntax.proofs.Views.{view_array, view_at_most_one, view_nor}
use Rattle.lb_syntax.proofs.forms.with_list.Goals as goal

pub returns-in-Array : goal.returns-in-Array
returns-in-Array c =
    let e = view_array c.in_ok-es.es c.args.at in
    first_of (search rules, grind (arith, common_steps))

pub returns-in-AtMostOne : goal.returns-in-AtMostOne
returns-in-AtMostOne c =
    let e = view_at_most_one c.in_ok-es.es c.args.at in
    first_of (search rules, grind (arith, common_steps))

pub returns-in-Nor : goal.returns-in-Nor
returns-in-Nor c =
    let e = view_nor c.in_ok-es.es c.args.at in
    first_of (search rules, grind (arith, common_steps))
